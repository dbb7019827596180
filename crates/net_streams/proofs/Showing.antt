-- How what a network shows of a stream is put together.
use Rattle.std.proofs.Common.{◌≡◌, ℕ, ◌<◌, Bool, List, length, sym, ◌∙◌, ap, get_or, set}
use Rattle.std.specs.List.{flat_map}
use Rattle.std.proofs.lemmas.List.{get_or-set_same}
use Rattle.chdr_packets.specs.declared.packet.Packet.{Packet}
use Rattle.stream_laws.specs.Machine.{State as OneStream}
use Rattle.net_machine.specs.declared.plan.RunPlan.{RunPlan}
use Rattle.net_machine.specs.Effects.{on_stream}
use Rattle.net_machine.specs.Plans.{plan_at}
use Rattle.net_machine.specs.State.{Entry, State, Stream, idle, stream_at}
use Rattle.net_ways.specs.Ways.{ahead, back}
use Rattle.net_streams.specs.Acting.{UnseenShows}
use Rattle.net_streams.specs.Shows.{Shows, core_of, flight_of, told_of}

-- stream s changes, over queues u of a network with the same plan and streams
pub shown-by : (w u : State) (s : ℕ) (closed : Bool) (next : Stream → Stream) (st : OneStream Packet) → u.plan ≡ w.plan → u.streams ≡ w.streams → s < length w.streams
    → st.core ≡ core_of (plan_at w.plan s) closed (next (stream_at w s))
    → st.forward ≡ flat_map flight_of (ahead u s) → st.back ≡ flat_map told_of (back u s) → Shows (on_stream s next u) s closed st
shown-by w u s closed next st plan streams there core forward back =
    let at : stream_at (on_stream s next u) s ≡ next (stream_at w s) =
    ap (λ (all : List Stream). get_or (set all s (next (get_or all s idle))) s idle) streams ∙ get_or-set_same w.streams s (next (stream_at w s)) idle there in
    record {
      core = core
          ∙ ap (λ (p : RunPlan). core_of (plan_at p s) closed (next (stream_at w s))) (sym plan)
          ∙ ap (λ (it : Stream). core_of (plan_at u.plan s) closed it) (sym at);
      forward = forward;
      back = back;
    }

pub unseen_shows : UnseenShows
unseen_shows w v s closed st unseen shows = record {
  core = shows.core
      ∙ ap (λ (p : RunPlan). core_of (plan_at p s) closed (stream_at w s)) (sym unseen.plan)
      ∙ ap (λ (it : Stream). core_of (plan_at v.plan s) closed it) (sym unseen.stream);
  forward = shows.forward ∙ ap (λ (es : List Entry). flat_map flight_of es) (sym unseen.ahead);
  back = shows.back ∙ ap (λ (es : List Entry). flat_map told_of es) (sym unseen.back);
}
