-- As long as no management packet is asked, tables stay and lead.
use Rattle.std.proofs.Common.{◌≡◌, ℕ, ◌<◌, Bool, true, false, IsTrue, List, length, refl, sym, ◌∙◌, ap, subst, arith, if◌then◌else◌}
use Rattle.std.specs.Prelude.{Some, nat_lt, ◌==◌}
use Rattle.std.specs.List.{AllByRecursion}
use Rattle.std.proofs.lemmas.Bool.{eqb-true, false≢true}
use Rattle.block_library.specs.Blocks.{HoldsSamples}
use Rattle.chdr_packets.specs.declared.packet.Body.{Body}
use Rattle.chdr_packets.specs.declared.packet.Body.TheVariants as body
use Rattle.chdr_packets.specs.declared.packet.Packet.{Packet}
use Rattle.net_topology.specs.Leads.{Exits, Leads}
use Rattle.net_topology.specs.Links.{link_at}
use Rattle.net_topology.specs.declared.plan.Plan.{Plan}
use Rattle.net_nodes.specs.Table.{exit_of}
use Rattle.net_machine.specs.declared.event.Event.{Event}
use Rattle.net_machine.specs.declared.event.Event.TheVariants.{Enter, Hop, Seen, Feed, Report, Command, Lose, Reply, Ask}
use Rattle.net_machine.specs.declared.plan.RunPlan.{RunPlan}
use Rattle.net_machine.specs.Conditions.{enabled}
use Rattle.net_machine.specs.Effects.{after}
use Rattle.net_machine.specs.Moves.{Happens}
use Rattle.net_machine.specs.Nodes.{exits_of}
use Rattle.net_machine.specs.Passing.{Ends, goes_on, passing, passing_by, walked_by}
use Rattle.net_machine.specs.Plans.{plan_at, stream_from, stream_to}
use Rattle.net_machine.specs.Queues.{link_of_queue}
use Rattle.net_machine.specs.State.{Entry, Node, State, node_at, node_in, stream_at}
use Rattle.net_machine.specs.Streams.{entering}
use Rattle.net_machine.proofs.Laws.{shape_stays}
use Rattle.net_ways.specs.Hops.{GoesAhead, GoesByTable}
use Rattle.net_ways.specs.Standing.{AreReady, HaveWays}
use Rattle.net_ways.proofs.Laws.{places_stay}
use Rattle.net_flows.specs.Flows.{IsSteady}
use Rattle.net_flows.specs.Forms.{item_on}
use Rattle.net_lawful.specs.Messages.{AreNodesFit, IsAnswerFit}
use Rattle.net_lawful.specs.Walking.{AreLed, KeepsTables}
use Rattle.net_lawful.proofs.Calm.{HopKeeps, IsCalm, calm-event}
use Rattle.net_lawful.proofs.Entering.{Puts, entries-stay}
use Rattle.net_lawful.proofs.Messages.{ready-samples}

-- a node has the same table, and asks no more
pub record IsCalmNode (old new : Node) : Type 0 where
  pub table : new.table ≡ old.table
  pub asked : AllByRecursion KeepsTables old.requests → AllByRecursion KeepsTables new.requests

-- a packet that goes by tables leaves the nodes as they are
nodes-by : (tree : Plan) (nodes : List Node) (d : ℕ) (p : Packet) (b : Body) → GoesByTable p b → (passing_by tree nodes d p b).nodes ≡ nodes
nodes-by tree nodes d p (body.Samples time payload) goes = refl
nodes-by tree nodes d p (body.Status status) goes = refl
nodes-by tree nodes d p (body.Command c) goes = refl
nodes-by tree nodes d p (body.Control control) goes = refl
nodes-by tree nodes d p (body.Management m) goes = by_epid (p.dst.0 == 0) goes
  where
    by_epid : (b : Bool) → b ≡ false → (if b
        then (if nat_lt (length m.hops) 2 then record { outcome = Ends; nodes = nodes } else walked_by tree nodes d p m)
        else goes_on tree nodes d p).nodes ≡ nodes
    by_epid true is = absurd (false≢true (sym is))
    by_epid false is = refl

calm-hop : (w : State) (e : Event) → AreLed w → HopKeeps IsCalmNode w e
calm-hop w (Enter s) led = tt
calm-hop w (Hop q) led = λ e rest is x.
    let goes : KeepsTables e.packet = (subst (AllByRecursion (λ (f : Entry). KeepsTables f.packet)) is (led.queued q)).0 in
    let same : (passing w.tree w.nodes (link_of_queue q) e.packet).nodes ≡ w.nodes = nodes-by w.tree w.nodes (link_of_queue q) e.packet e.packet.body goes in
    record {
      table = ap (λ (nodes : List Node). (node_in nodes x).table) same;
      asked = subst (λ (nodes : List Node). AllByRecursion KeepsTables (node_at w x).requests → AllByRecursion KeepsTables (node_in nodes x).requests) (sym same) (λ all. all);
    }
calm-hop w (Seen s n) led = tt
calm-hop w (Feed b i) led = tt
calm-hop w (Report s) led = tt
calm-hop w (Command s op) led = tt
calm-hop w (Lose q) led = tt
calm-hop w (Reply x) led = tt
calm-hop w (Ask x) led = tt

pub nodes-calm : (w : State) (e : Event) → AreLed w → IsCalm IsCalmNode w (after w e)
nodes-calm w e led = calm-event IsCalmNode
    (λ n. record { table = refl; asked = λ all. all })
    (λ a b c first second. record { table = second.table ∙ first.table; asked = λ all. second.asked (first.asked all) })
    (λ n packets. record { table = refl; asked = λ all. all })
    (λ n packets. record { table = refl; asked = λ all. all })
    (λ n p rest is. record { table = refl; asked = λ all. (subst (AllByRecursion KeepsTables) is all).1 })
    w e (calm-hop w e led)

-- ---- ways stay

-- what `HasWays` says, by its parts
abbrev WaysBy : Plan → Exits → RunPlan → ℕ → Type 0
WaysBy tree exits plan s = (Leads tree exits (plan_at plan s).from (plan_at plan s).to) × (Leads tree exits (plan_at plan s).to (plan_at plan s).from)
    × (stream_to plan (plan_at plan s).to ≡ Some s) × (stream_from plan (plan_at plan s).from ≡ Some s)

pub ways-same : (w v : State) → v.tree ≡ w.tree → v.plan ≡ w.plan → length v.streams ≡ length w.streams → ((x : ℕ) → (node_at v x).table ≡ (node_at w x).table) → HaveWays w → HaveWays v
ways-same w v tree plan long tables ways = record {
  as_many = long ∙ ways.as_many ∙ ap (λ (p : RunPlan). length p.streams) (sym plan);
  each = λ s lt.
      let old = ways.each s (subst (λ (p : RunPlan). s < length p.streams) plan lt) in
      let exits : exits_of v.nodes ≡ exits_of w.nodes = λ i. λ x epid. exit_of (tables x i) epid in
      let by : WaysBy w.tree (exits_of w.nodes) w.plan s = (old.forth, old.back, old.to, old.from) in
      let one : WaysBy w.tree (exits_of v.nodes) w.plan s = subst (λ e. WaysBy w.tree e w.plan s) (sym exits) by in
      let two : WaysBy v.tree (exits_of v.nodes) w.plan s = subst (λ t. WaysBy t (exits_of v.nodes) w.plan s) (sym tree) one in
      let all : WaysBy v.tree (exits_of v.nodes) v.plan s = subst (λ p. WaysBy v.tree (exits_of v.nodes) p s) (sym plan) two in
      record { forth = all.0; back = all.1; to = all.2; from = all.3 };
}

-- ---- what enters keeps tables

samples-keep : (item : ℕ) (p : Packet) (b : Body) → HoldsSamples item b → GoesByTable p b
samples-keep item p (body.Samples time payload) is = tt
samples-keep item p (body.Status status) is = absurd is
samples-keep item p (body.Command c) is = absurd is
samples-keep item p (body.Control control) is = absurd is
samples-keep item p (body.Management m) is = absurd is

samples-ahead : (item : ℕ) (b : Body) → HoldsSamples item b → GoesAhead b
samples-ahead item (body.Samples time payload) is = tt
samples-ahead item (body.Status status) is = absurd is
samples-ahead item (body.Command c) is = absurd is
samples-ahead item (body.Control control) is = absurd is
samples-ahead item (body.Management m) is = absurd is

not-zero : (n : ℕ) → 0 < n → (n == 0) ≡ false
not-zero n positive = by_test (n == 0) refl
  where
    by_test : (b : Bool) → (n == 0) ≡ b → b ≡ false
    by_test true is = let zero_is : n ≡ 0 = eqb-true n 0 is in absurd (omega (arith, zero_is, positive))
    by_test false is = refl

answer-keeps : (p : Packet) (b : Body) → 0 < p.dst.0 → GoesByTable p b
answer-keeps p (body.Samples time payload) goes = tt
answer-keeps p (body.Status status) goes = tt
answer-keeps p (body.Command c) goes = tt
answer-keeps p (body.Control control) goes = tt
answer-keeps p (body.Management m) goes = not-zero p.dst.0 goes

puts-keeping : (w : State) (e : Event) → IsSteady w → AreNodesFit w → AreLed w → Puts (λ tag p. KeepsTables p) w e
puts-keeping w (Enter s) steady nodes led = λ p rest is. samples-keep (item_on w.plan s) (entering (plan_at w.plan s) (stream_at w s).sender p) p.body (ready-samples w s p rest steady is)
puts-keeping w (Command s op) steady nodes led = tt
puts-keeping w (Report s) steady nodes led = tt
puts-keeping w (Seen s n) steady nodes led = tt
puts-keeping w (Feed b i) steady nodes led = tt
puts-keeping w (Ask x) steady nodes led = λ p rest d is at. (subst (AllByRecursion KeepsTables) is (led.asked x d at)).0
puts-keeping w (Reply x) steady nodes led = λ p rest is. answer-keeps p p.body (subst (AllByRecursion IsAnswerFit) is (nodes x).pending).0.goes
puts-keeping w (Lose q) steady nodes led = tt
puts-keeping w (Hop q) steady nodes led = λ e rest m is keeps has epid two.
    let never : (e.packet.dst.0 == 0) ≡ false = subst (GoesByTable e.packet) has keeps in absurd (false≢true (sym never ∙ epid))

pub led-stays : (w : State) (e : Event) → IsSteady w → AreNodesFit w → IsTrue (enabled w e) → AreLed w → AreLed (after w e)
led-stays w e steady nodes may_it led =
    let shape = shape_stays w (Happens e) in
    let calm = nodes-calm w e led in
    let ready : AreReady w = record { samples = λ s p rest is. samples-ahead (item_on w.plan s) p.body (ready-samples w s p rest steady is); messages = steady.messages } in
    record {
      ways = ways-same w (after w e) shape.tree shape.plan shape.streams (λ x. (calm.nodes x).table) led.ways;
      placed = places_stay w e steady.queues led.ways ready may_it led.placed;
      queued = entries-stay (λ tag p. KeepsTables p) w e (puts-keeping w e steady nodes led) led.queued;
      asked = λ x d at. (calm.nodes x).asked (led.asked x d (subst (λ (t : Plan). link_at t.links x 0 ≡ Some d) shape.tree at));
    }
