-- What the commands of a script leave for those that follow.
use Rattle.std.specs.Prelude.{◌≡◌, ℕ, List, [], Option, None, Some, false}
use Rattle.block_library.specs.declared.kind.BlockKind.{BlockKind}
use Rattle.chdr_words.specs.declared.epid.Epid.{Epid}
use Rattle.graph_core.specs.Derivation.{Settles}
use Rattle.graph_core.specs.Pairs.{Pair}
use Rattle.graph_core.specs.State.{State, state, with_edge, with_kind, with_user, with_values}
use Rattle.graph_core.specs.declared.place.PortAt.{PortAt}
use Rattle.graph_core.specs.declared.place.PropAt.{PropAt}
use Rattle.net_topology.specs.declared.plan.LinkPlan.{LinkPlan}
use Rattle.net_topology.specs.declared.plan.NodePlan.{NodePlan}
use Rattle.net_topology.specs.declared.plan.Plan.{Plan}
use Rattle.rf_script_types.specs.declared.command.ScriptCommand.{ScriptCommand}
use Rattle.rf_script_types.specs.declared.command.ScriptCommand.TheVariants as command
use Rattle.run_plans.specs.Changes.{with_block, with_stream}
use Rattle.run_plans.specs.declared.connect.Terms.{Terms}
use Rattle.run_plans.specs.declared.layout.Layout.{Layout}
use Rattle.run_plans.specs.declared.layout.PlacedBlock.{PlacedBlock}
use Rattle.script_books.specs.declared.book.Book.{Book}
use Rattle.script_books.specs.declared.book.Book.TheVariants as book
use Rattle.walk_books.specs.declared.found.Found.{Found}
use Rattle.stream_endpoint.specs.declared.flow.Flow.{Flow}
use Rattle.stream_endpoint.specs.declared.flow.Policy.{Policy}

-- what a script has set up; the machine of the network and the banks stand beside it
pub record Setup : Type 0 where
  -- the network, as the last net command that was done planned it
  pub tree : Option Plan
  pub graph : State
  -- the graph's blocks on their endpoints, and the streams along its edges
  pub layout : Layout
  -- what the last walk of this network found
  pub found : Option Found

-- what is set up before the first command
abbrev pub nothing : Setup
nothing = record {
  tree = None;
  graph = state [] [] [] [] false;
  layout = record { blocks = []; streams = [] };
  found = None;
}

-- ---- what the commands ask for

-- the network of a net command
abbrev pub plan_of : List NodePlan → List LinkPlan → ℕ → ℕ → Plan
plan_of nodes links room limit = record { nodes = nodes; links = links; room = room; limit = limit }

-- the block of a block command
abbrev pub block_of : BlockKind → List Epid → List Epid → ℕ → Option ℕ → PlacedBlock
block_of kind ins outs packets time = record { kind = kind; ins = ins; outs = outs; packets = packets; time = time }

-- what the stream of a connect command keeps to
abbrev pub terms_of : Flow → ℕ → Policy → Terms
terms_of flow start policy = record { flow = flow; start = start; policy = policy }

-- ---- what is set up after a command

-- a new network, and nothing on it
abbrev pub with_tree : Plan → Setup
with_tree tree = record nothing { tree = Some tree }

-- one block more
abbrev pub with_placed : Setup → PlacedBlock → Setup
with_placed old block =
    record old { graph = with_kind old.graph block.kind; layout = with_block old.layout block }

-- one edge more, and the stream along it
abbrev pub with_joined : Setup → PortAt → PortAt → Terms → Setup
with_joined old from to terms = record old {
  graph = with_edge old.graph (record { from = from; to = to });
  layout = with_stream old.layout from to terms;
}

-- a value of the user's
abbrev pub with_set : Setup → PropAt → ℕ → Setup
with_set old at value = record old { graph = with_user old.graph at value }

-- values that settle the graph, in place of those that were committed; they are the same for every commit, up to
-- their order
pub record IsSettled (old new : Setup) : Type 0 where
  pub values : List Pair
  pub settles : Settles old.graph.diagram values
  pub changed : new ≡ record old { graph = with_values old.graph values }

-- a refused command leaves what there was
abbrev pub unless_refused : {A : Type 0} → Book → A → A → A
unless_refused (book.Refused refusal) old done = old
unless_refused told old done = done

-- a refused commit leaves what there was
abbrev pub IsAfterCommit : Book → Setup → Setup → Type 0
IsAfterCommit (book.Refused refusal) old new = new ≡ old
IsAfterCommit told old new = IsSettled old new

-- what holds unless the command was refused
abbrev pub UnlessRefused : Book → Type 0 → Type 0
UnlessRefused (book.Refused refusal) Done = Unit {0}
UnlessRefused told Done = Done

-- what a walk found
abbrev pub found_in : Book → Option Found → Option Found
found_in (book.Discover found) old = Some found
found_in told old = old

-- the setup after a command, by its book
abbrev pub IsNext : Setup → ScriptCommand → Book → Setup → Type 0
IsNext old (command.Net nodes links room routed limit) told new =
    new ≡ unless_refused told old (with_tree (plan_of nodes links room limit))
IsNext old (command.Discover host lose) told new = new ≡ record old { found = found_in told old.found }
IsNext old (command.Route host from to lose) told new = new ≡ old
IsNext old (command.Control host to port op addr words enables lose) told new = new ≡ old
IsNext old (command.Unload port) told new = new ≡ old
IsNext old (command.Block kind ins outs packets time) told new =
    new ≡ unless_refused told old (with_placed old (block_of kind ins outs packets time))
IsNext old (command.Connect from to flow start policy) told new =
    new ≡ unless_refused told old (with_joined old from to (terms_of flow start policy))
IsNext old (command.Set at value) told new = new ≡ unless_refused told old (with_set old at value)
IsNext old command.Commit told new = IsAfterCommit told old new
IsNext old (command.Run seed trace peak lose) told new = new ≡ old
IsNext old (command.Twin cut peak lose) told new = new ≡ old
IsNext old (command.Duplex host acts seed peak lose) told new = new ≡ old
