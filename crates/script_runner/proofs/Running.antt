-- A run, in the worlds of the laws.
use Rattle.std.proofs.Common.{◌≡◌, ℕ, Bool, List, refl, sym, ◌∙◌, ap, subst, unwrap_or}
use Rattle.std.specs.Prelude.{Option, None, Some}
use Rattle.block_registers.specs.Registers.{Registers}
use Rattle.fabric_net.specs.NetView.{NetSeen}
use Rattle.fabric_net.specs.Standing.{IsResting, StandsFor}
use Rattle.host_talk.proofs.Laws.{rest_settles, settled_states}
use Rattle.host_talk.specs.Settled.{IsSettledNow}
use Rattle.net_lawful.proofs.Laws.{lawful_stays}
use Rattle.net_machine.proofs.Laws.{shapes_stay}
use Rattle.net_machine.specs.Begin.{begun}
use Rattle.net_machine.specs.CanBegin.{CanBegin}
use Rattle.net_machine.specs.Moves.{Loads, after_journal, moves_of}
use Rattle.net_machine.specs.State.{Node, State}
use Rattle.net_machine.specs.declared.plan.RunPlan.{RunPlan}
use Rattle.net_present.specs.Present.{Present}
use Rattle.net_rest.proofs.Laws.{runs_rest}
use Rattle.net_topology.specs.declared.plan.Plan.{Plan}
use Rattle.rf_script_types.specs.declared.command.ScriptCommand.TheVariants as command
use Rattle.run_books.specs.Books.{IsChosenBook}
use Rattle.run_books.specs.declared.book.RunBook.{RunBook}
use Rattle.script_books.specs.declared.book.Book.TheVariants as book
use Rattle.script_books.specs.declared.refusal.Refusal.{Refusal}
use Rattle.run_plans.specs.Planned.{plan_of}
use Rattle.script_worlds.specs.Causes.{IsRunCause}
use Rattle.script_worlds.specs.Runs.{IsRunFault, IsRunPlan}
use Rattle.script_worlds.specs.WorldView.{WorldSeen}
use Rattle.script_worlds.specs.WorldView as seen
use Rattle.script_worlds.specs.Worlds.{Setup}
use Rattle.script_worlds.specs.declared.runs.RunFault.TheVariants as fault
use Rattle.net_faults.specs.declared.fault.Fault.{Fault}
use Rattle.stream_pump.proofs.Laws.{chosen_books_are_books}
use Rattle.stream_pump.specs.Running.{CanRun}
use Rattle.script_runner.specs.ScriptWorlds.{ScriptWorld, nodes_in, with_banks}
use Rattle.script_runner.specs.Standing.{NetStandsFor, Performs, WorldStandsFor}
use Rattle.script_runner.proofs.Quiet.{in-each-world, world_of}

-- other banks make no other present
pub stands-loaded : (p : Present) (w : State) (banks : List (Option Registers)) → StandsFor p w → StandsFor p (with_banks banks w)
stands-loaded p w banks stands = let now = stands.now in record {
  lawful = lawful_stays w (Loads banks) stands.lawful tt;
  now = record {
    tree = now.tree;
    plan = now.plan;
    queues = now.queues;
    nodes = now.nodes;
    as_many_streams = now.as_many_streams;
    streams = now.streams;
    as_many_blocks = now.as_many_blocks;
    blocks = now.blocks;
    faults = now.faults;
    requests = now.requests;
    answers = now.answers;
  };
}

-- the nodes of a net are those of the state for which it stands
nodes-same : (net : Option NetSeen) (machine : Option State) → NetStandsFor net machine → seen.nodes_in net ≡ nodes_in machine
nodes-same None None stands = refl
nodes-same (Some net) (Some w) stands = stands.now.nodes
nodes-same None (Some w) stands = absurd stands
nodes-same (Some net) None stands = absurd stands

-- a cause of a refused run is one in the world
cause-stands : (s : WorldSeen) (banks : List (Option Registers)) (w : ScriptWorld) (lose : List Fault) (cause : Option Refusal)
    → WorldStandsFor s banks w → IsRunCause s.setup (seen.nodes_in s.net) lose cause → IsRunCause w.setup (nodes_in w.machine) lose cause
cause-stands s banks w lose cause stands is =
    subst (λ (setup : Setup). IsRunCause setup (nodes_in w.machine) lose cause) (sym stands.setup)
    (subst (λ (nodes : List Node). IsRunCause s.setup nodes lose cause) (nodes-same s.net w.machine stands.machine) is)

-- a refused run leaves the world
pub refused-stands : (s : WorldSeen) (banks : List (Option Registers)) (w : ScriptWorld) (seed : ℕ) (trace peak : Bool) (lose : List Fault)
    (why : Refusal) → WorldStandsFor s banks w → IsRunFault s lose (fault.Refused why)
    → Performs w (command.Run seed trace peak lose) (book.Refused why) s banks
refused-stands s banks w seed trace peak lose why stands is = record {
  next = w;
  performed = record { done = (cause-stands s banks w lose (Some why) stands is, refl); setup = refl; banks = refl };
  stands = stands;
}

-- what a net at rest stands for as its run ends, and what it and the registers are then
pub record Ends (seed : ℕ) (plan : RunPlan) (old new : Present) (slots left : List (Option Registers)) (run : RunBook) : Type 0 where
  pub book : (w : State) → StandsFor old w → w.banks ≡ slots → IsChosenBook seed (begun plan w) run
  pub net : (w : State) → StandsFor old w → w.banks ≡ slots → StandsFor new (after_journal (begun plan w) run.journal)
  pub banks : (w : State) → StandsFor old w → w.banks ≡ slots → (after_journal (begun plan w) run.journal).banks ≡ left

-- a run keeps the tree
pub tree-stays : (seed : ℕ) (plan : RunPlan) (old new : Present) (slots left : List (Option Registers)) (run : RunBook) (w : State)
    → Ends seed plan old new slots left run → StandsFor old w → w.banks ≡ slots → new.tree ≡ old.tree
tree-stays seed plan old new slots left run w ends stands banks =
    (ends.net w stands banks).now.tree ∙ (shapes_stay (begun plan w) (moves_of run.journal)).tree ∙ sym stands.now.tree

-- a plan that a settled net can begin can run in each state for which it stands
pub can-run : (plan : RunPlan) (p : Present) (w : State) → IsSettledNow p → CanBegin p.tree p.nodes plan → StandsFor p w → CanRun plan w
can-run plan p w settled can stands = record {
  lawful = stands.lawful;
  rest = (settled_states p w stands settled).rest;
  can = subst (λ (t : Plan). CanBegin t w.nodes plan) stands.now.tree (subst (λ (ns : List Node). CanBegin p.tree ns plan) stands.now.nodes can);
}

-- and so it keeps what the nodes hold
nodes-stay : (seed : ℕ) (plan : RunPlan) (old new : Present) (slots left : List (Option Registers)) (run : RunBook) (w : State)
    → Ends seed plan old new slots left run → IsSettledNow old → CanBegin old.tree old.nodes plan → StandsFor old w → w.banks ≡ slots
    → new.nodes ≡ old.nodes
nodes-stay seed plan old new slots left run w ends settled can stands banks =
    let runs = can-run plan old w settled can stands in
    let told = chosen_books_are_books seed plan w run runs (ends.book w stands banks) in
    (ends.net w stands banks).now.nodes ∙ (runs_rest plan w run.journal stands.lawful runs.rest runs.can told.whole).nodes ∙ sym stands.now.nodes

-- and leaves the net as one of its network, settled
pub ready-again : (tree : Option Plan) (seed : ℕ) (plan : RunPlan) (net new : NetSeen) (slots left : List (Option Registers)) (run : RunBook) (w : State)
    → seen.AreReady tree (Some net) → CanBegin net.present.tree net.present.nodes plan
    → Ends seed plan net.present new.present slots left run → IsResting new.present
    → StandsFor net.present w → w.banks ≡ slots → seen.AreReady tree (Some new)
ready-again None seed plan net new slots left run w ready can ends rest stands banks = absurd ready
ready-again (Some tree) seed plan net new slots left run w ready can ends rest stands banks =
    let same = tree-stays seed plan net.present new.present slots left run w ends stands banks in
    record {
      tree_is = same ∙ ready.tree_is;
      settled = rest_settles net.present new.present ready.settled rest same
          (nodes-stay seed plan net.present new.present slots left run w ends ready.settled can stands banks);
    }

-- the net of a run's plan is the world's
same-net : (s : WorldSeen) (lose : List Fault) (plan : RunPlan) (net : NetSeen) (is : IsRunPlan s lose plan) → s.net ≡ Some net → is.net ≡ net
same-net s lose plan net is here = ap (λ (o : Option NetSeen). unwrap_or o net) (sym is.here ∙ here)

pub rests : (s : WorldSeen) (lose : List Fault) (plan : RunPlan) (net : NetSeen) → IsRunPlan s lose plan → s.net ≡ Some net → IsResting net.present
rests s lose plan net is here = subst (λ (n : NetSeen). IsResting n.present) (same-net s lose plan net is here) is.rest

pub can-begin : (s : WorldSeen) (lose : List Fault) (plan : RunPlan) (net : NetSeen) → IsRunPlan s lose plan → s.net ≡ Some net
    → CanBegin net.present.tree net.present.nodes plan
can-begin s lose plan net is here = subst (λ (n : NetSeen). CanBegin n.present.tree n.present.nodes plan) (same-net s lose plan net is here) is.can

-- a net that is ready is settled
settled-in : (tree : Option Plan) (net : NetSeen) → seen.AreReady tree (Some net) → IsSettledNow net.present
settled-in None net ready = absurd ready
settled-in (Some tree) net ready = ready.settled

-- a run that was done, in the world whose parts are those of the program's
run-so : (setup : Setup) (seed : ℕ) (trace peak : Bool) (lose : List Fault) (plan : RunPlan) (net new : NetSeen) (slots left : List (Option Registers))
    (run : RunBook) (machine : Option State) → plan ≡ plan_of setup.layout setup.graph.committed lose
    → IsRunCause setup net.present.nodes lose None → ((w : State) → StandsFor net.present w → CanRun plan w)
    → Ends seed plan net.present new.present slots left run → NetStandsFor (Some net) machine
    → Performs (world_of setup machine slots) (command.Run seed trace peak lose) (book.Run run) (record { setup = setup; net = Some new }) left
run-so setup seed trace peak lose plan net new slots left run None value free runs ends stands = absurd stands
run-so setup seed trace peak lose plan net new slots left run (Some state) value free runs ends stands =
    let w = with_banks slots state in
    let loaded = stands-loaded net.present state slots stands in
    record {
      next = world_of setup (Some (after_journal (begun plan w) run.journal)) left;
      performed = record {
        done = (
          record {
            free = subst (λ (nodes : List Node). IsRunCause setup nodes lose None) stands.now.nodes free;
            state = w;
            here = refl;
            can = subst (λ (q : RunPlan). CanRun q w) value (runs w loaded);
            chosen = subst (λ (q : RunPlan). IsChosenBook seed (begun q w) run) value (ends.book w loaded refl);
          },
          ap (λ (q : RunPlan). Some (after_journal (begun q w) run.journal)) value,
        );
        setup = refl;
        banks = sym (ends.banks w loaded refl) ∙ ap (λ (q : RunPlan). (after_journal (begun q w) run.journal).banks) value;
      };
      stands = record { setup = refl; machine = ends.net w loaded refl; banks = refl };
    }

-- a run that was done, in each world for which the program's stands
pub run-performs : (s : WorldSeen) (seed : ℕ) (trace peak : Bool) (lose : List Fault) (plan : RunPlan) (net new : NetSeen)
    (slots left : List (Option Registers)) (run : RunBook) (w : ScriptWorld) → IsRunPlan s lose plan → s.net ≡ Some net
    → seen.AreReady s.setup.tree (Some net) → Ends seed plan net.present new.present slots left run → WorldStandsFor s slots w
    → Performs w (command.Run seed trace peak lose) (book.Run run) (record { setup = s.setup; net = Some new }) left
run-performs s seed trace peak lose plan net new slots left run w is here ready ends stands =
    in-each-world (λ (v : ScriptWorld). Performs v (command.Run seed trace peak lose) (book.Run run) (record { setup = s.setup; net = Some new }) left)
    s slots w stands
    (run-so s.setup seed trace peak lose plan net new slots left run w.machine is.value
    (subst (λ (n : Option NetSeen). IsRunCause s.setup (seen.nodes_in n) lose None) here is.free)
    (λ v. can-run plan net.present v (settled-in s.setup.tree net ready) (can-begin s lose plan net is here)) ends
    (subst (λ (n : Option NetSeen). NetStandsFor n w.machine) here stands.machine))

none-not-some : {A : Type 0} (x : A) → None ≡ Some x → ⊥
none-not-some x e = absurd cc

pub has-net : (s : WorldSeen) (lose : List Fault) (plan : RunPlan) → IsRunPlan s lose plan → s.net ≡ None → ⊥
has-net s lose plan is none = none-not-some is.net (sym none ∙ is.here)
