-- A request asked in a settled net is its one message, and the answer that came is taken out.
use Rattle.std.proofs.Common.{◌≡◌, ℕ, Bool, List, ◌++◌, refl, sym, ◌∙◌, ap, subst}
use Rattle.std.specs.Prelude.{Option, Some, None, IsSome, slice_get, ◌||◌}
use Rattle.std.proofs.lemmas.Bool.{false≢true}
use Rattle.block_registers.specs.Registers.{Registers}
use Rattle.chdr_packets.specs.declared.packet.Body.{Body}
use Rattle.chdr_packets.specs.declared.packet.Body.TheVariants as body
use Rattle.chdr_packets.specs.declared.packet.Packet.{Packet}
use Rattle.net_topology.specs.Links.{link_at}
use Rattle.net_topology.specs.declared.plan.Plan.{Plan}
use Rattle.net_machine.specs.Moves.{after_journal, answered, asks, is_management}
use Rattle.net_machine.specs.State.{Node, State, node_in}
use Rattle.net_present.specs.Present.{Present}
use Rattle.net_ways.specs.Standing.{IsMessage}
use Rattle.net_lone.specs.Stages.{Asking, IsSettled, lone}
use Rattle.fabric_net.specs.Asking.{CanAskNow, IsRequestNow}
use Rattle.fabric_net.specs.NetView.{NetSeen}
use Rattle.fabric_net.specs.Standing.{StandsFor}
use Rattle.host_talk.specs.Settled.{IsSettledNow}
use Rattle.host_talk.specs.Talking.{HasSettled, HasTalked, IsOpen}
use Rattle.host_talk.proofs.Settled.{settled-states}

held : {A : Type 0} (o : Option A) → IsSome o → (x : A) × (o ≡ Some x)
held None is = absurd (false≢true is)
held (Some x) is = (x, refl)

-- what may be asked is a message
is-message : (p : Present) (x : ℕ) (packet : Packet) (b : Body) → IsRequestNow p x packet b → IsMessage b
is-message p x packet (body.Samples time payload) is = absurd is
is-message p x packet (body.Status status) is = absurd is
is-message p x packet (body.Command command) is = absurd is
is-message p x packet (body.Control control) is = tt
is-message p x packet (body.Management m) is = tt

-- no walk unsettles a network
settled-walked : (w : State) (walked : Bool) → IsSettled w → IsSettled (record w { walked = walked })
settled-walked w walked settled = record {
  queues = record {
    tree = settled.queues.tree;
    queues = settled.queues.queues;
  };
  nodes = settled.nodes;
  places = settled.places;
  few = settled.few;
  rest = record {
    empty = settled.rest.empty;
    still = settled.rest.still;
    heard = settled.rest.heard;
  };
  clear = settled.clear;
}

-- it is the one message
opens : (old asked : Present) (x : ℕ) (p : Packet) (w : State) → IsSettledNow old → CanAskNow old x p → IsSome (link_at old.tree.links x 0) →
    StandsFor old w → StandsFor asked (asks x p w) → IsOpen asked w.banks (asks x p w)
opens old asked x p w settled can linked stands now =
    let link = held (link_at old.tree.links x 0) linked in
    record {
      stands = now;
      banks = refl;
      message = lone (record w { walked = w.walked || is_management p.body }) (Asking x p);
      lone = record {
        settled = settled-walked w (w.walked || is_management p.body) (settled-states old w stands settled);
        fits = (is-message old x p p.body can.request, (link.0, ap (λ (t : Plan). link_at t.links x 0) (sym stands.now.tree) ∙ link.1));
      };
      state = refl;
    }

pub talked : (old asked over new : NetSeen) (banks left : List (Option Registers)) (x : ℕ) (p : Packet) (answer : Option Packet) →
    IsSettledNow old.present → CanAskNow old.present x p → IsSome (link_at old.present.tree.links x 0) →
    asked.journal ≡ old.journal → ((w : State) → StandsFor old.present w → StandsFor asked.present (asks x p w)) →
    HasSettled asked banks over left →
    new.journal ≡ over.journal → answer ≡ slice_get (node_in over.present.nodes x).answers 0 →
    ((w : State) → StandsFor over.present w → StandsFor new.present (answered x w)) →
    HasTalked old banks x p answer new left
talked old asked over new banks left x p answer settled can linked keeps asks_it over_it keeps_too is takes = record {
  journal = over_it.journal;
  written = keeps_too ∙ over_it.written ∙ ap (λ j. j ++ over_it.journal) keeps;
  each = λ w stands same.
      let opened = subst (λ (b : List (Option Registers)). IsOpen asked.present b (asks x p w)) same
      (opens old.present asked.present x p w settled can linked stands (asks_it w stands)) in
      let ends = over_it.each (asks x p w) opened in
      let end = after_journal (asks x p w) over_it.journal in
      record {
        state = answered x end;
        talk = record {
          first = ends.first;
          answer = is ∙ ap (λ (ns : List Node). slice_get (node_in ns x).answers 0) ends.here.stands.now.nodes;
          leaves = refl;
        };
        stands = takes end ends.here.stands;
        banks = ends.here.banks;
      };
}
