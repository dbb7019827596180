-- What a command of a script fits, its parts fit.
use Rattle.std.proofs.Common.{◌≡◌, ℕ, zero, suc, ◌≤◌, sym, ap, List, [], ◌∷◌, arith, subst, Option, None, Some, Bool, true, false, unwrap_or, if◌then◌else◌, ◌==◌}
use Rattle.std.specs.Prelude.{All}
use Rattle.block_library.specs.Blocks.{FitsKind}
use Rattle.block_library.specs.declared.kind.BlockKind.{BlockKind}
use Rattle.block_library.specs.declared.kind.BlockKind.TheVariants as kind
use Rattle.chdr_words.specs.declared.epid.Epid.{Epid}
use Rattle.graph_core.specs.declared.place.Prop.{Prop}
use Rattle.graph_core.specs.declared.place.Prop.TheVariants.{Rate, Item, Spp}
use Rattle.net_topology.specs.Tree.{FitsPlan}
use Rattle.net_topology.specs.Tree as tree
use Rattle.net_topology.specs.declared.plan.LinkPlan.{LinkPlan}
use Rattle.net_topology.specs.declared.plan.NodePlan.{NodePlan}
use Rattle.net_topology.specs.declared.plan.NodePlan.TheVariants as node
use Rattle.rf_script_types.specs.Fits.{Each, FitsBlock, FitsCount, FitsKindNumber, FitsNet, IsIn}
use Rattle.rf_script_types.specs.Fits as script
use Rattle.run_plans.specs.Firsts.{EachPlace}
use Rattle.run_plans.specs.Layouts.{FitsPlaced, IsName}
use Rattle.run_plans.specs.Layouts as layouts
use Rattle.script_worlds.specs.Worlds.{block_of, plan_of}

-- an option has one value
some_is : {A : Type 0} (x y : A) → Some x ≡ Some y → x ≡ y
some_is x y is = ap (λ (o : Option _). unwrap_or o x) is

node-fits : (n : NodePlan) → script.FitsNode n → tree.FitsNode n
node-fits (node.Crossbar ports) fits = fits
node-fits node.Adapter fits = tt
node-fits (node.Host epid) fits = fits.0
node-fits (node.Endpoint epid None) fits = (fits.0.0, tt)
node-fits (node.Endpoint epid (Some bank)) fits = (fits.0.0, omega (arith, fits.1.1))

nodes-fit : (nodes : List NodePlan) → Each script.FitsNode nodes → All tree.FitsNode nodes
nodes-fit [] fits k d lt = absurd (omega arith)
nodes-fit (n ∷ nodes) fits zero d lt = node-fits n fits.0
nodes-fit (n ∷ nodes) fits (suc k) d lt = nodes-fit nodes fits.1 k d (omega arith)

-- the limits of both versions
few-nodes : (b : Bool) → (if b then 256 else 64) ≤ 256
few-nodes true = omega arith
few-nodes false = omega arith

pub net-fits : (version : ℕ) (nodes : List NodePlan) (links : List LinkPlan) (room limit : ℕ) → FitsNet version nodes links room limit
    → FitsPlan (plan_of nodes links room limit)
net-fits version nodes links room limit fits = record {
  nodes = nodes-fit nodes fits.each_node;
  limit = subst (λ n. n ≤ 256) (sym fits.limit_is) (few-nodes (version == 2));
}

kind-fits : (k : BlockKind) → FitsKindNumber k → FitsKind k
kind-fits kind.Tx fits = tt
kind-fits kind.Rx fits = tt
kind-fits kind.Fifo fits = tt
kind-fits kind.Split fits = tt
kind-fits (kind.Keep n) fits = fits
kind-fits (kind.Repeat n) fits = fits
kind-fits (kind.Replay n) fits = fits
kind-fits (kind.Switch n) fits = fits.1
kind-fits kind.Sink fits = tt

packets-fit : (k : BlockKind) (packets : ℕ) (time : Option ℕ) → FitsCount k packets time → packets ≤ 16384
packets-fit kind.Tx packets time fits = fits.0.1
packets-fit kind.Rx packets time fits = omega (arith, fits.0)
packets-fit kind.Fifo packets time fits = omega (arith, fits.0)
packets-fit kind.Split packets time fits = omega (arith, fits.0)
packets-fit (kind.Keep n) packets time fits = omega (arith, fits.0)
packets-fit (kind.Repeat n) packets time fits = omega (arith, fits.0)
packets-fit (kind.Replay n) packets time fits = omega (arith, fits.0)
packets-fit (kind.Switch n) packets time fits = omega (arith, fits.0)
packets-fit kind.Sink packets time fits = omega (arith, fits.0)

names-fit : (P : Epid → Type 0) → ((epid : Epid) → P epid → IsName epid) → (epids : List Epid) → Each P epids → EachPlace (λ _ epid. IsName epid) epids
names-fit P named (e ∷ epids) fits zero x is = subst IsName (some_is e x is) (named e fits.0)
names-fit P named (e ∷ epids) fits (suc i) x is = names-fit P named epids fits.1 i x is
names-fit P named [] fits i x is = absurd cc

pub block-fits : (k : BlockKind) (ins outs : List Epid) (packets : ℕ) (time : Option ℕ) → FitsBlock k ins outs packets time
    → FitsPlaced (block_of k ins outs packets time)
block-fits k ins outs packets time fits = record {
  kind = kind-fits k fits.number_fits;
  inputs = fits.ins_fit.0;
  outputs = fits.outs_fit.0;
  ins = names-fit _ (λ epid h. h.0) ins fits.ins_fit.1;
  outs = names-fit _ (λ epid h. h.0) outs fits.outs_fit.1;
  packets = packets-fit k packets time fits.count_fits;
}

pub value-fits : (p : Prop) (value : ℕ) → script.FitsValue p value → layouts.FitsValue p value
value-fits Rate value fits = fits.0
value-fits Item value fits = fits
value-fits Spp value fits = fits
