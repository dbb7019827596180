-- The generated script from its net to its run: no command is refused.
use Rattle.std.proofs.Common.{◌≡◌, ◌∙◌, ℕ, ◌+◌, ◌≤◌, true, List, [], ◌∷◌, ◌++◌, Option, None, Some, refl, sym, ap, subst, is_some, fold}
use Rattle.block_registers.specs.Registers.{Registers}
use Rattle.graph_core.specs.Derivation.{Settles}
use Rattle.net_machine.specs.Begin.{built}
use Rattle.net_machine.specs.State.{State}
use Rattle.rf_script_types.specs.declared.command.ScriptCommand.{ScriptCommand}
use Rattle.rf_script_types.specs.declared.command.ScriptCommand.TheVariants as command
use Rattle.script_books.specs.Counts.{refused, refused_of}
use Rattle.script_books.specs.declared.book.Book.{Book}
use Rattle.script_books.specs.declared.book.Book.TheVariants as book
use Rattle.script_runner.specs.Performed.{ArePerformed, IsDone, IsQuiet, IsRunBook}
use Rattle.script_runner.specs.ScriptWorlds.{ScriptWorld, nodes_in}
use Rattle.script_worlds.specs.Causes.{IsRunCause}
use Rattle.script_worlds.specs.Worlds.{IsSettled, Setup, nothing, unless_refused, with_tree}
use Rattle.rf_script.specs.Generated.{run}
use Rattle.generated_runs.specs.Laws.{GeneratedIsDone}
use Rattle.generated_runs.proofs.Prepared.{after_all, all_may, middle, middle-may, ready, ready-diagram}
use Rattle.generated_runs.proofs.Runnable.{run-free}
use Rattle.generated_runs.proofs.Settled.{values, values-Settles}
use Rattle.generated_runs.proofs.Star.{star, star-IsTree}
use Rattle.generated_runs.proofs.Steps.{commit-done, may, step, tree-done}
use Rattle.generated_runs.proofs.Tests.{left, never, right}

refused-cons : (b : Book) (bs : List Book) → refused_of b ≡ 0 → refused (b ∷ bs) ≡ refused bs
refused-cons b bs e = ap (λ (n : ℕ). fold (λ (a : ℕ) (x : Book). a + refused_of x) (0 + n) bs) e

-- ---- the commands between the net and the commit

-- a tested command lets no event happen
quiet : (world : ScriptWorld) (c : ScriptCommand) (told : Book) (after : Option State) → may world.setup c ≡ true → IsDone world c told after → IsQuiet world c told after
quiet world (command.Block kind ins outs packets time) told after h done = done
quiet world (command.Connect from to flow start policy) told after h done = done
quiet world (command.Set at value) told after h done = done
quiet world c told after h done = never h

-- what is performed of the rest once some commands were, none of which was refused
record IsPast (world : ScriptWorld) (setup : Setup) (rest : List ScriptCommand) (books : List Book) (last : ScriptWorld) : Type 0 where
  pub mid : ScriptWorld
  pub others : List Book
  pub counts : refused books ≡ refused others
  pub setup_is : mid.setup ≡ setup
  pub machine : mid.machine ≡ world.machine
  pub performed : ArePerformed mid rest others last

past : (world : ScriptWorld) (cs rest : List ScriptCommand) (books : List Book) (last : ScriptWorld) → all_may world.setup cs ≡ true
    → ArePerformed world (cs ++ rest) books last → IsPast world (after_all world.setup cs) rest books last
unfolding ArePerformed
past world [] rest books last h performed =
    record { mid = world; others = books; counts = refl; setup_is = refl; machine = refl; performed = performed }
past world (c ∷ cs) rest [] last h performed = absurd performed
past world (c ∷ cs) rest (b ∷ bs) last h performed =
    let here = performed.1.0 in
    let still = quiet world c b performed.0.machine (left (may world.setup c) _ h) here.done in
    let s = step world.setup performed.0.setup world.banks c b (left (may world.setup c) _ h) still.0 here.setup in
    let later = past performed.0 cs rest bs last
    (subst (λ setup. all_may setup cs ≡ true) (sym s.next) (right (may world.setup c) _ h)) performed.1.1 in
    record {
      mid = later.mid;
      others = later.others;
      counts = refused-cons b bs s.done ∙ later.counts;
      setup_is = later.setup_is ∙ ap (λ setup. after_all setup cs) s.next;
      machine = later.machine ∙ still.1;
      performed = later.performed;
    }

-- ---- the run

-- a run that has no cause to be refused isn't
run-done : (world : ScriptWorld) (told : Book) → ((why : _) → IsRunCause world.setup (nodes_in world.machine) [] (Some why) → ⊥)
    → IsRunBook world 0 [] told → refused_of told ≡ 0
run-done world (book.Refused why) free h = absurd (free why h)
run-done world told free h = refl

-- ---- the whole

-- the commit and the run, over what the other commands set up
ending : (n : ℕ) (world : ScriptWorld) (banks : List (Option Registers)) (books : List Book) (last : ScriptWorld) → n ≤ 16384
    → world.setup ≡ ready n → world.machine ≡ Some (built star true banks)
    → ArePerformed world (command.Commit ∷ run ∷ []) books last → refused books ≡ 0
unfolding ArePerformed
ending n world banks [] last few setup machine performed = absurd performed
ending n world banks (c ∷ []) last few setup machine performed = absurd performed.1.1
ending n world banks (c ∷ r ∷ b ∷ bs) last few setup machine performed = absurd performed.1.1.1.1
ending n world banks (c ∷ r ∷ []) last few setup machine performed =
    let here = performed.1.0 in
    let settles : Settles world.setup.graph.diagram values =
    subst (λ (s : Setup). Settles s.graph.diagram values) (sym setup) (subst (λ d. Settles d values) (sym (ready-diagram n)) values-Settles) in
    let commit = commit-done world.setup performed.0.setup c values (ap (λ (s : Setup). is_some s.tree) setup) settles here.done.0 here.setup in
    let settled : IsSettled (ready n) performed.0.setup = subst (λ s. IsSettled s performed.0.setup) setup commit.next in
    let nodes = ap nodes_in (here.done.1 ∙ machine) in
    let ran = run-done performed.0 r
    (λ why cause. run-free n banks performed.0.setup why few settled
    (subst (λ ns. IsRunCause performed.0.setup ns [] (Some why)) nodes cause))
    performed.1.1.1.0.done.0 in
    refused-cons c (r ∷ []) commit.done ∙ refused-cons r [] ran

pub generated-done : GeneratedIsDone
unfolding ArePerformed
generated-done n [] old new few one = absurd one.performed
generated-done n (b ∷ bs) old new few one =
    let here = one.performed.1.0 in
    let net = tree-done star b star-IsTree here.done.0 in
    let setup = here.setup ∙ ap (λ told. unless_refused told nothing (with_tree star)) net in
    let machine = here.done.1 ∙ ap (λ told. unless_refused told None (Some (built star true old))) net in
    let rest = past one.performed.0 (middle n) (command.Commit ∷ run ∷ []) bs one.last
    (subst (λ s. all_may s (middle n) ≡ true) (sym setup) (middle-may n)) one.performed.1.1 in
    let end = ending n rest.mid old rest.others one.last few
    (rest.setup_is ∙ ap (λ s. after_all s (middle n)) setup) (rest.machine ∙ machine) rest.performed in
    refused-cons b bs (ap refused_of net) ∙ rest.counts ∙ end
