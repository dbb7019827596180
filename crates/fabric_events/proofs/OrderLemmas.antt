-- Which commands may be sent, by the sender and by what the network tells of its stream.
use Rattle.std.proofs.Common.{◌≡◌, ℕ, Bool, true, false, List, [], ◌∷◌, refl, sym, ◌∙◌, ap}
use Rattle.std.specs.Prelude.{◌&&◌, ◌||◌, ◌==◌, not}
use Rattle.chdr_packets.specs.declared.packet.Packet.{Packet}
use Rattle.chdr_words.specs.declared.command.CmdOp.{CmdOp}
use Rattle.chdr_words.specs.declared.command.CmdOp.TheVariants.{Init, Ping, Resync, Other}
use Rattle.stream_endpoint.specs.Orders.{may_order}
use Rattle.stream_endpoint.specs.Orders as rule
use Rattle.stream_endpoint.specs.Counts.{is_none}
use Rattle.stream_endpoint.specs.Sender.{is_running}
use Rattle.stream_endpoint.specs.declared.flow.Flow.{Flow}
use Rattle.stream_endpoint.specs.declared.state.OutState.{OutState}
use Rattle.stream_endpoint.specs.declared.state.OutState.TheVariants.{Opening, Running, Halted, Resyncing}
use Rattle.net_machine.specs.Blocks.{is_closed}
use Rattle.net_machine.specs.Conditions.{can_order, is_opening, is_quiet, is_resyncing, is_stuck, none_under_way}
use Rattle.net_machine.specs.Front.{Front, StreamFront, front_at}
use Rattle.net_machine.specs.Plans.{plan_at}
use Rattle.net_present.specs.Kept.{now_at}
use Rattle.net_present.specs.Present.{Present, StreamNow, front_now, front_now_of}
use Rattle.fabric_lists.specs.StreamFlags.{is_calm}
use Rattle.fabric_events.proofs.FrontLemmas.{and_false, front_of_stream}

opening-same : (st : OutState) → rule.is_opening st ≡ is_opening st
opening-same Opening = refl
opening-same Running = refl
opening-same Halted = refl
opening-same Resyncing = refl

resyncing-same : (st : OutState) → rule.is_resyncing st ≡ is_resyncing st
resyncing-same Opening = refl
resyncing-same Running = refl
resyncing-same Halted = refl
resyncing-same Resyncing = refl

-- the condition of the machine on a stream's front, with what is quiet and closed
abbrev by-front : Flow → StreamFront → Bool → Bool → CmdOp → Bool
by-front flow st quiet closed Init = is_opening st.state && (not st.commanded || quiet)
by-front flow st quiet closed Ping = is_running st.state && (quiet && (not (is_none st.outstanding) && is_stuck flow st closed st.ready))
by-front flow st quiet closed Resync = is_resyncing st.state && (not st.commanded || quiet)
by-front flow st quiet closed (Other code) = false

machine-is : (f : Front) (s : ℕ) (op : CmdOp) → can_order f s op ≡ by-front (plan_at f.plan s).flow (front_at f s) (is_quiet f s) (is_closed f s) op
machine-is f s Init = refl
machine-is f s Ping = refl
machine-is f s Resync = refl
machine-is f s (Other code) = refl

now-is : (flow : Flow) (n : StreamNow) (quiet closed : Bool) (op : CmdOp) →
    may_order n.sender quiet (is_stuck flow (front_now_of n) closed n.ready) op ≡ by-front flow (front_now_of n) quiet closed op
now-is flow n quiet closed Init = ap (λ b. b && (not n.sender.commanded || quiet)) (opening-same n.sender.state)
now-is flow n quiet closed Ping = refl
now-is flow n quiet closed Resync = ap (λ b. b && (not n.sender.commanded || quiet)) (resyncing-same n.sender.state)
now-is flow n quiet closed (Other code) = refl

-- what the sender asks is what the machine asks
pub order_is : (p : Present) (s : ℕ) (op : CmdOp) →
    may_order (now_at p.streams s).sender (is_quiet (front_now p) s)
    (is_stuck (plan_at p.plan s).flow (front_now_of (now_at p.streams s)) (is_closed (front_now p) s) (now_at p.streams s).ready) op
    ≡ can_order (front_now p) s op
order_is p s op =
    now-is (plan_at p.plan s).flow (now_at p.streams s) (is_quiet (front_now p) s) (is_closed (front_now p) s) op
    ∙ ap (λ (st : StreamFront). by-front (plan_at p.plan s).flow st (is_quiet (front_now p) s) (is_closed (front_now p) s) op) (sym (front_of_stream p s))
    ∙ sym (machine-is (front_now p) s op)

-- what isn't allowed even where a stream is quiet isn't allowed
less : (a b q : Bool) → (a && (b || true)) ≡ false → (a && (b || q)) ≡ false
less true true q h = h
less true false q h = cc
less false b q h = refl

-- nor is it where a producer is closed
stuck-less : (flow : Flow) (st : StreamFront) (closed : Bool) (ready : List Packet) → is_stuck flow st true ready ≡ false → is_stuck flow st closed ready ≡ false
stuck-less flow st closed [] h = cc
stuck-less flow st closed (p ∷ ps) h = h

less-ping : (a n k more q : Bool) → (more ≡ false → k ≡ false) → (a && (true && (n && more))) ≡ false → (a && (q && (n && k))) ≡ false
less-ping true true k false q fall h = rw (fall refl) (and_false q)
less-ping true true k true q fall h = cc
less-ping true false k more q fall h = and_false q
less-ping false n k more q fall h = refl

falls : (flow : Flow) (n : StreamNow) (quiet closed : Bool) (op : CmdOp) → by-front flow (front_now_of n) true true op ≡ false
    → by-front flow (front_now_of n) quiet closed op ≡ false
falls flow n quiet closed Init h = less (is_opening n.sender.state) (not n.sender.commanded) quiet h
falls flow n quiet closed Ping h =
    less-ping (is_running n.sender.state) (not (is_none n.sender.outstanding)) (is_stuck flow (front_now_of n) closed n.ready)
    (is_stuck flow (front_now_of n) true n.ready) quiet (stuck-less flow (front_now_of n) closed n.ready) h
falls flow n quiet closed Resync h = less (is_resyncing n.sender.state) (not n.sender.commanded) quiet h
falls flow n quiet closed (Other code) h = refl

pub order_asks : (p : Present) (s : ℕ) (op : CmdOp) →
    may_order (now_at p.streams s).sender true
    (is_stuck (plan_at p.plan s).flow (front_now_of (now_at p.streams s)) true (now_at p.streams s).ready) op ≡ false
    → can_order (front_now p) s op ≡ false
order_asks p s op h =
    let flow = (plan_at p.plan s).flow in
    let n = now_at p.streams s in
    let quiet = is_quiet (front_now p) s in
    let closed = is_closed (front_now p) s in
    let none : by-front flow (front_now_of n) true true op ≡ false = sym (now-is flow n true true op) ∙ h in
    sym (order_is p s op) ∙ now-is flow n quiet closed op ∙ falls flow n quiet closed op none

closed-ping : (a q n k more : Bool) → (more ≡ false → k ≡ false) → (a && (q && (n && more))) ≡ false → (a && (q && (n && k))) ≡ false
closed-ping true true true k false fall h = fall refl
closed-ping true true true k true fall h = cc
closed-ping true true false k more fall h = refl
closed-ping true false n k more fall h = refl
closed-ping false q n k more fall h = refl

waits : (flow : Flow) (n : StreamNow) (quiet closed : Bool) (op : CmdOp) → by-front flow (front_now_of n) quiet true op ≡ false
    → by-front flow (front_now_of n) quiet closed op ≡ false
waits flow n quiet closed Init h = h
waits flow n quiet closed Ping h =
    closed-ping (is_running n.sender.state) quiet (not (is_none n.sender.outstanding)) (is_stuck flow (front_now_of n) closed n.ready)
    (is_stuck flow (front_now_of n) true n.ready) (stuck-less flow (front_now_of n) closed n.ready) h
waits flow n quiet closed Resync h = h
waits flow n quiet closed (Other code) h = refl

-- what isn't allowed of a stream as it is, even where its producer is finished, isn't allowed
pub order_waits : (p : Present) (s : ℕ) (op : CmdOp) →
    may_order (now_at p.streams s).sender (is_quiet (front_now p) s)
    (is_stuck (plan_at p.plan s).flow (front_now_of (now_at p.streams s)) true (now_at p.streams s).ready) op ≡ false
    → can_order (front_now p) s op ≡ false
order_waits p s op h =
    let flow = (plan_at p.plan s).flow in
    let n = now_at p.streams s in
    let quiet = is_quiet (front_now p) s in
    let closed = is_closed (front_now p) s in
    let none : by-front flow (front_now_of n) quiet true op ≡ false = sym (now-is flow n quiet true op) ∙ h in
    sym (order_is p s op) ∙ now-is flow n quiet closed op ∙ waits flow n quiet closed op none

less-quiet : (a b calm : Bool) → (a && (b || calm)) ≡ false → (a && (b || false)) ≡ false
less-quiet true true calm h = h
less-quiet true false calm h = refl
less-quiet false b calm h = refl

-- a stream is quiet only if it is calm
quiets : (flow : Flow) (st : StreamFront) (none calm closed : Bool) (op : CmdOp) → by-front flow st calm closed op ≡ false
    → by-front flow st (none && calm) closed op ≡ false
quiets flow st true calm closed op h = h
quiets flow st false calm closed Init h = less-quiet (is_opening st.state) (not st.commanded) calm h
quiets flow st false calm closed Ping h = and_false (is_running st.state)
quiets flow st false calm closed Resync h = less-quiet (is_resyncing st.state) (not st.commanded) calm h
quiets flow st false calm closed (Other code) h = refl

-- what a stream by itself doesn't allow, where its producer is finished, isn't allowed
pub order_calm : (p : Present) (s : ℕ) (op : CmdOp) →
    may_order (now_at p.streams s).sender (is_calm (now_at p.streams s))
    (is_stuck (plan_at p.plan s).flow (front_now_of (now_at p.streams s)) true (now_at p.streams s).ready) op ≡ false
    → can_order (front_now p) s op ≡ false
order_calm p s op h =
    let flow = (plan_at p.plan s).flow in
    let n = now_at p.streams s in
    let closed = is_closed (front_now p) s in
    let none = none_under_way p.queues (plan_at p.plan s) in
    let calm : by-front flow (front_now_of n) (is_calm n) closed op ≡ false =
    waits flow n (is_calm n) closed op (sym (now-is flow n (is_calm n) true op) ∙ h) in
    machine-is (front_now p) s op
    ∙ ap (λ (st : StreamFront). by-front flow st (none && (not st.due && (st.taken == st.given))) closed op) (front_of_stream p s)
    ∙ quiets flow (front_now_of n) none (is_calm n) closed op calm
