-- A test of edges from lower to higher blocks: those that pass aren't refused.
use Rattle.std.proofs.Common.{◌≡◌, ◌∙◌, ◌⊎◌, inl, inr, ℕ, ◌<◌, ◌≤◌, Bool, true, not, ◌&&◌, List, length, Contains, Some, sym, ap, arith, eq-eqb, ltb-true}
use Rattle.std.specs.Prelude.{◌==◌, nat_lt}
use Rattle.std.specs.List.{list_all}
use Rattle.std.proofs.lemmas.Bool.{not-true, and_from}
use Rattle.block_library.specs.declared.kind.BlockKind.{BlockKind}
use Rattle.graph_core.specs.declared.place.Edge.{Edge}
use Rattle.graph_core.specs.declared.place.PortAt.{PortAt}
use Rattle.graph_core.specs.declared.place.Side.TheVariants.{Into, Out}
use Rattle.graph_core.specs.Derivation.{Diagram}
use Rattle.graph_core.specs.Edges.{IsBadPort, IsTaken, Reaches}
use Rattle.graph_core.specs.Edges.Reaches.{here, along}
use Rattle.graph_core.specs.Ports.{ports_at}
use Rattle.run_plans.specs.Layouts.{in_at, out_at}
use Rattle.run_plans.specs.Refusals.{CanConnect, IsConnectRefusal}
use Rattle.run_plans.specs.declared.fault.ConnectRefusal.{ConnectRefusal}
use Rattle.run_plans.specs.declared.fault.ConnectRefusal.TheVariants.{TooManyStreams, BadPort, PortTaken, Cycle, Loop}
use Rattle.run_plans.specs.declared.layout.Layout.{Layout}
use Rattle.generated_runs.proofs.Tests.{each-passes, left, never, right}
use Rattle.generated_runs.proofs.Trees.{differ, differ-never}

-- ---- what is refused can't be connected

pub unrefused-connect : (diagram : Diagram) (layout : Layout) (from to : PortAt) (why : ConnectRefusal) → CanConnect diagram layout from to
    → IsConnectRefusal diagram layout from to (Some why) → ⊥
unrefused-connect diagram layout from to TooManyStreams can h = let room = can.room in omega (arith, h, room)
unrefused-connect diagram layout from to BadPort can h = can.joins.ports h.1
unrefused-connect diagram layout from to PortTaken can h = can.joins.free h.1.taken
unrefused-connect diagram layout from to Cycle can h = can.joins.acyclic h.1.cycle
unrefused-connect diagram layout from to (Loop epid) can h = can.no_loop epid h.1.loops

-- ---- the test

abbrev pub is_port : PortAt → PortAt → Bool
is_port one other = (one.block == other.block) && (one.port == other.port)

-- the edge leads to a higher block, and has neither of these ports
abbrev pub is_apart : PortAt → PortAt → Edge → Bool
is_apart from to edge =
    nat_lt edge.from.block edge.to.block && (not (is_port edge.from from) && not (is_port edge.to to))

abbrev pub are_ports : List BlockKind → PortAt → PortAt → Bool
are_ports kinds from to = nat_lt from.port (ports_at kinds from.block Out) && nat_lt to.port (ports_at kinds to.block Into)

abbrev pub can_connect : Diagram → Layout → PortAt → PortAt → Bool
can_connect diagram layout from to =
    nat_lt (length layout.streams) 16
    && (are_ports diagram.kinds from to
    && (nat_lt from.block to.block
    && (list_all (is_apart from to) diagram.edges
    && differ (out_at layout from.block from.port) (in_at layout to.block to.port))))

same-port : (one other : PortAt) → one ≡ other → is_port one other ≡ true
same-port one other e = and_from (one.block == other.block) (one.port == other.port)
    (eq-eqb one.block other.block (ap (λ (p : PortAt). p.block) e)) (eq-eqb one.port other.port (ap (λ (p : PortAt). p.port) e))

not-port : (one other : PortAt) → not (is_port one other) ≡ true → one ≡ other → ⊥
not-port one other h e = never (sym (not-true (is_port one other) h) ∙ same-port one other e)

-- edges that lead to higher blocks never lead down
rises : (edges : List Edge) → ((edge : Edge) → Contains edges edge → edge.from.block < edge.to.block)
    → (first last : ℕ) → Reaches edges first last → first ≤ last
rises edges up first last here = omega arith
rises edges up first last (along edge has start rest) =
    let later = rises edges up edge.to.block last rest in
    let lower = up edge has in
    omega (arith, later, lower, start)

module _ (diagram : Diagram) (layout : Layout) (from to : PortAt) where
  apart-edge : list_all (is_apart from to) diagram.edges ≡ true → (edge : Edge) → Contains diagram.edges edge → is_apart from to edge ≡ true
  apart-edge h edge has = each-passes (is_apart from to) diagram.edges h edge has

  not-taken : list_all (is_apart from to) diagram.edges ≡ true → IsTaken diagram.edges from to → ⊥
  not-taken h taken = by taken.2
    where
      ends : (not (is_port taken.0.from from) && not (is_port taken.0.to to)) ≡ true
      ends = right (nat_lt taken.0.from.block taken.0.to.block) _ (apart-edge h taken.0 taken.1)

      by : (taken.0.from ≡ from) ⊎ (taken.0.to ≡ to) → ⊥
      by (inl e) = not-port taken.0.from from (left (not (is_port taken.0.from from)) _ ends) e
      by (inr e) = not-port taken.0.to to (right (not (is_port taken.0.from from)) _ ends) e

  no-way-back : from.block < to.block → list_all (is_apart from to) diagram.edges ≡ true → Reaches diagram.edges to.block from.block → ⊥
  no-way-back up h back =
      let falls = rises diagram.edges
      (λ edge has. ltb-true edge.from.block edge.to.block (left (nat_lt edge.from.block edge.to.block) _ (apart-edge h edge has)))
      to.block from.block back in
      omega (arith, falls, up)

  not-bad : are_ports diagram.kinds from to ≡ true → IsBadPort diagram.kinds from to → ⊥
  not-bad h bad = by bad
    where
      one : from.port < ports_at diagram.kinds from.block Out
      one = ltb-true from.port (ports_at diagram.kinds from.block Out) (left (nat_lt from.port (ports_at diagram.kinds from.block Out)) _ h)

      two : to.port < ports_at diagram.kinds to.block Into
      two = ltb-true to.port (ports_at diagram.kinds to.block Into) (right (nat_lt from.port (ports_at diagram.kinds from.block Out)) _ h)

      by : (ports_at diagram.kinds from.block Out ≤ from.port) ⊎ (ports_at diagram.kinds to.block Into ≤ to.port) → ⊥
      by (inl above) = omega (arith, above, one)
      by (inr above) = omega (arith, above, two)

  pub can_connect-CanConnect : can_connect diagram layout from to ≡ true → CanConnect diagram layout from to
  can_connect-CanConnect h =
      let one = right (nat_lt (length layout.streams) 16) _ h in
      let two = right (are_ports diagram.kinds from to) _ one in
      let three = right (nat_lt from.block to.block) _ two in
      let edges = left (list_all (is_apart from to) diagram.edges) _ three in
      let up = ltb-true from.block to.block (left (nat_lt from.block to.block) _ two) in
      record {
        room = ltb-true (length layout.streams) 16 (left (nat_lt (length layout.streams) 16) _ h);
        joins = record {
          ports = not-bad (left (are_ports diagram.kinds from to) _ one);
          free = not-taken edges;
          acyclic = no-way-back up edges;
        };
        no_loop = λ epid loop. differ-never (out_at layout from.block from.port) (in_at layout to.block to.port) epid
            (right (list_all (is_apart from to) diagram.edges) _ three) loop.begins loop.ends;
      }
