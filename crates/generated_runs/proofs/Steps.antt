-- A test of commands over what is set up: those that pass aren't refused.
use Rattle.std.proofs.Common.{◌≡◌, ◌∙◌, Bool, true, false, ◌&&◌, List, Option, None, Some, Ok, refl, sym, ap, subst, arith, ltb-true, is_some, option_map, length}
use Rattle.std.specs.Prelude.{nat_lt}
use Rattle.std.specs.Option.{option_map_or}
use Rattle.block_registers.specs.Registers.{Registers}
use Rattle.graph_core.specs.Derivation.{Settles}
use Rattle.graph_core.specs.Pairs.{Pair}
use Rattle.graph_core.specs.Ports.{ports_at}
use Rattle.graph_core.specs.declared.place.PortAt.{PortAt}
use Rattle.graph_core.specs.declared.place.PropAt.{PropAt}
use Rattle.net_topology.specs.Tree.{IsTree}
use Rattle.net_topology.specs.declared.check.PlanFault.{PlanFault}
use Rattle.net_topology.specs.declared.plan.Plan.{Plan}
use Rattle.net_topology.proofs.Laws.{trees_have_no_fault}
use Rattle.rf_script_types.specs.declared.command.ScriptCommand.{ScriptCommand}
use Rattle.rf_script_types.specs.declared.command.ScriptCommand.TheVariants as command
use Rattle.run_plans.specs.Refusals.{IsBlockRefusal, IsConnectRefusal}
use Rattle.run_plans.specs.declared.layout.PlacedBlock.{PlacedBlock}
use Rattle.script_books.specs.Counts.{refused_of}
use Rattle.script_books.specs.Refusals.{plan_refusal}
use Rattle.script_books.specs.declared.book.Book.{Book}
use Rattle.script_books.specs.declared.book.Book.TheVariants as book
use Rattle.script_books.specs.declared.refusal.Refusal.{Refusal}
use Rattle.script_worlds.specs.Books.{IsBook, IsCommitBook, IsNetBook, IsQuietBook}
use Rattle.script_worlds.specs.Causes.{IsBlockCause, IsCommitCause, IsConnectCause, IsNetCause, IsPortCause, IsSetCause, IsSettleCause, IsTold, OnNetwork, block_refusal, connect_refusal}
use Rattle.script_worlds.specs.Worlds.{IsAfterCommit, IsNext, IsSettled, Setup, block_of, terms_of, unless_refused, with_joined, with_placed, with_set}
use Rattle.generated_runs.proofs.Connecting.{can_connect, can_connect-CanConnect, unrefused-connect}
use Rattle.generated_runs.proofs.Placing.{can_place, can_place-CanPlace, unrefused-block}
use Rattle.generated_runs.proofs.Tests.{left, never, none-some, passing, right}

-- ---- books

-- where no refusal has a cause the book tells what was done
pub done-book : (cause : Option Refusal → Type 0) (done told : Book) → ((why : Refusal) → cause (Some why) → ⊥) → IsBook cause done told → told ≡ done
done-book cause done (book.Refused why) none h = absurd (none why h)
done-book cause done told none h = h.1

-- where a part has no cause the command has none
pub told-never : {A : Type 0} (tell : A → Refusal) (IsOwn : Option A → Type 0) (why : Refusal) → ((own : A) → IsOwn (Some own) → ⊥) → IsTold tell IsOwn (Some why) → ⊥
told-never {A} tell IsOwn why none h = by h.own h.told h.holds
  where
    by : (own : Option A) → Some why ≡ option_map tell own → IsOwn own → ⊥
    by None e holds = none-some (sym e)
    by (Some own) e holds = none own holds

on-network : (tree : Option Plan) (rest : Plan → Option Refusal → Type 0) (why : Refusal) (is : Plan) → tree ≡ Some is → OnNetwork tree rest (Some why) → rest is (Some why)
on-network tree rest why is e h = subst (λ o. OnNetwork o rest (Some why)) e h

has-tree : (tree : Option Plan) → is_some tree ≡ true → (plan : Plan) × (tree ≡ Some plan)
has-tree None h = never h
has-tree (Some plan) h = (plan, refl)

-- ---- the net

pub tree-done : (tree : Plan) (told : Book) → IsTree tree → IsNetBook tree told → told ≡ book.Net
tree-done tree told is_tree h = done-book (IsNetCause tree) book.Net told unrefused h
  where
    memory : (why : Refusal) (fault : PlanFault) → fault ≡ PlanFault.Memory → plan_refusal fault ≡ Ok why → ⊥
    memory why fault e told =
        let wrong : plan_refusal PlanFault.Memory ≡ Ok why = subst (λ f. plan_refusal f ≡ Ok why) e told in
        impossible wrong
      where
        impossible : plan_refusal PlanFault.Memory ≡ Ok why → ⊥
        impossible e = cc

    unrefused : (why : Refusal) → IsNetCause tree (Some why) → ⊥
    unrefused why h = memory why h.fault (trees_have_no_fault tree h.fault is_tree h.holds) h.told

-- ---- blocks, streams and settings

-- the command is one that isn't refused
abbrev pub may : Setup → ScriptCommand → Bool
may old (command.Block kind ins outs packets time) =
    option_map_or (λ (tree : Plan). can_place tree old.layout (block_of kind ins outs packets time)) old.tree false
may old (command.Connect from to flow start policy) = is_some old.tree && can_connect old.graph.diagram old.layout from to
may old (command.Set at value) = is_some old.tree && nat_lt at.port (ports_at old.graph.diagram.kinds at.block at.side)
may old c = false

-- what it sets up
abbrev pub next_of : Setup → ScriptCommand → Setup
next_of old (command.Block kind ins outs packets time) = with_placed old (block_of kind ins outs packets time)
next_of old (command.Connect from to flow start policy) = with_joined old from to (terms_of flow start policy)
next_of old (command.Set at value) = with_set old at value
next_of old c = old

-- the book of a command that isn't refused, and what it sets up
pub record IsStep (old new : Setup) (c : ScriptCommand) (told : Book) : Type 0 where
  pub done : refused_of told ≡ 0
  pub next : new ≡ next_of old c

-- a command with this book if it isn't refused, that sets this up
step-done : (old new next : Setup) (cause : Option Refusal → Type 0) (done told : Book) → ((why : Refusal) → cause (Some why) → ⊥)
    → IsBook cause done told → new ≡ unless_refused told old next → refused_of done ≡ 0 → unless_refused done old next ≡ next
    → (refused_of told ≡ 0) × (new ≡ next)
step-done old new next cause done told none quiet is counts does =
    let e = done-book cause done told none quiet in
    (ap refused_of e ∙ counts, is ∙ ap (λ b. unless_refused b old next) e ∙ does)

module _ (old : Setup) where
  block-free : (block : PlacedBlock) → option_map_or (λ (tree : Plan). can_place tree old.layout block) old.tree false ≡ true
      → (why : Refusal) → IsBlockCause old block (Some why) → ⊥
  block-free block h why cause =
      let tree = passing (λ (tree : Plan). can_place tree old.layout block) old.tree h in
      told-never block_refusal (IsBlockRefusal tree.value old.layout block) why
      (λ own. unrefused-block tree.value old.layout block own (can_place-CanPlace tree.value old.layout block tree.holds))
      (on-network old.tree (λ tree. IsTold block_refusal (IsBlockRefusal tree old.layout block)) why tree.value tree.is cause)

  connect-free : (from to : PortAt) → (is_some old.tree && can_connect old.graph.diagram old.layout from to) ≡ true
      → (why : Refusal) → IsConnectCause old from to (Some why) → ⊥
  connect-free from to h why cause =
      let tree = has-tree old.tree (left (is_some old.tree) _ h) in
      told-never connect_refusal (IsConnectRefusal old.graph.diagram old.layout from to) why
      (λ own. unrefused-connect old.graph.diagram old.layout from to own
      (can_connect-CanConnect old.graph.diagram old.layout from to (right (is_some old.tree) _ h)))
      (on-network old.tree (λ _. IsTold connect_refusal (IsConnectRefusal old.graph.diagram old.layout from to)) why tree.0 tree.1 cause)

  set-free : (at : PropAt) → (is_some old.tree && nat_lt at.port (ports_at old.graph.diagram.kinds at.block at.side)) ≡ true
      → (why : Refusal) → IsSetCause old at (Some why) → ⊥
  set-free at h why cause =
      let tree = has-tree old.tree (left (is_some old.tree) _ h) in
      let lt = ltb-true at.port (ports_at old.graph.diagram.kinds at.block at.side) (right (is_some old.tree) _ h) in
      let none = on-network old.tree (λ _. IsPortCause old at) why tree.0 tree.1 cause in
      omega (arith, lt, none.1)

pub step : (old new : Setup) (slots : List (Option Registers)) (c : ScriptCommand) (told : Book) → may old c ≡ true
    → IsQuietBook old slots c told → IsNext old c told new → IsStep old new c told
step old new slots (command.Block kind ins outs packets time) told h quiet is =
    let block = block_of kind ins outs packets time in
    let both = step-done old new (with_placed old block) (IsBlockCause old block) (book.Block (length old.layout.blocks)) told
    (block-free old block h) quiet is refl refl in
    record { done = both.0; next = both.1 }
step old new slots (command.Connect from to flow start policy) told h quiet is =
    let both = step-done old new (with_joined old from to (terms_of flow start policy)) (IsConnectCause old from to) (book.Connect (length old.layout.streams)) told
    (connect-free old from to h) quiet is refl refl in
    record { done = both.0; next = both.1 }
step old new slots (command.Set at value) told h quiet is =
    let both = step-done old new (with_set old at value) (IsSetCause old at) book.Set told (set-free old at h) quiet is refl refl in
    record { done = both.0; next = both.1 }
step old new slots c told h quiet is = never h

-- ---- the commit

-- where values settle the graph its commit isn't refused, and leaves values that settle it
pub record IsCommitted (old new : Setup) (told : Book) : Type 0 where
  pub done : refused_of told ≡ 0
  pub next : IsSettled old new

pub commit-done : (old new : Setup) (told : Book) (values : List Pair) → is_some old.tree ≡ true → Settles old.graph.diagram values
    → IsCommitBook old told → IsAfterCommit told old new → IsCommitted old new told
commit-done old new told values network settles quiet is =
    let e = done-book (IsCommitCause old) book.Commit told free quiet in
    record { done = ap refused_of e; next = subst (λ b. IsAfterCommit b old new) e is }
  where
    free : (why : Refusal) → IsCommitCause old (Some why) → ⊥
    free why cause =
        let tree = has-tree old.tree network in
        let refusal = on-network old.tree (λ _. IsSettleCause old.graph.diagram) why tree.0 tree.1 cause in
        refusal.unsettled values settles
