-- The blocks of a world stand at nodes of its network, and its net is one of it.
use Rattle.std.proofs.Common.{◌≡◌, Bool, true, sym, ap, subst, arith, [], Option, None, Some, unwrap_or}
use Rattle.std.specs.Prelude.{is_some}
use Rattle.fabric_events.specs.Begun.{built_now}
use Rattle.fabric_net.specs.NetView.{NetSeen}
use Rattle.fabric_net.specs.Standing.{IsResting}
use Rattle.graph_core.specs.declared.place.PortAt.{PortAt}
use Rattle.host_talk.proofs.Laws.{built_nets_are_settled}
use Rattle.host_talk.specs.Settled.{IsSettledNow}
use Rattle.net_present.specs.Present.{Present}
use Rattle.net_topology.specs.declared.plan.Plan.{Plan}
use Rattle.run_plans.specs.Changes.{with_stream}
use Rattle.run_plans.specs.Layouts.{StandIn}
use Rattle.run_plans.specs.declared.connect.Terms.{Terms}
use Rattle.run_plans.specs.declared.layout.Layout.{Layout}
use Rattle.script_books.specs.declared.refusal.Refusal.{Refusal}
use Rattle.script_worlds.specs.Causes.{OnNetwork}
use Rattle.script_worlds.specs.WorldView.{IsReady, StandsOn}

some_is : {A : Type 0} (x y : A) → Some x ≡ Some y → x ≡ y
some_is x y is = ap (λ (o : Option _). unwrap_or o x) is

pub stand_in : (tree : Option Plan) (layout : Layout) (t : Plan) → tree ≡ Some t → StandsOn tree layout → StandIn t layout
stand_in None layout t is stands = absurd cc
stand_in (Some u) layout t is stands = subst (λ (x : Plan). StandIn x layout) (some_is u t is) stands

pub stands_on : (tree : Option Plan) (layout : Layout) (t : Plan) → tree ≡ Some t → StandIn t layout → StandsOn tree layout
stands_on None layout t is stands = tt
stands_on (Some u) layout t is stands = subst (λ (x : Plan). StandIn x layout) (sym (some_is u t is)) stands

-- no blocks stand anywhere
pub none_stand : (tree : Plan) (layout : Layout) → layout ≡ record { blocks = []; streams = [] } → StandIn tree layout
none_stand tree layout none = subst (λ (l : Layout). StandIn tree l) (sym none) (λ b lt. absurd (omega (arith, lt)))

-- a net as it is built is one of its network, and settled
pub built_ready : (tree : Plan) (routed : Bool) (net : NetSeen) → net.present ≡ built_now tree routed → IsResting net.present → IsReady tree net
built_ready tree routed net is rest = record {
  tree_is = ap (λ (p : Present). p.tree) is;
  settled = subst (λ (p : Present). IsSettledNow p) (sym is)
      (built_nets_are_settled tree routed (subst (λ (p : Present). IsResting p) is rest));
}

-- a stream moves no block
pub stream_stands : (tree : Option Plan) (layout : Layout) (from to : PortAt) (terms : Terms) → StandsOn tree layout
    → StandsOn tree (with_stream layout from to terms)
stream_stands None layout from to terms stands = tt
stream_stands (Some t) layout from to terms stands = stands

-- a command that isn't refused without a network is so by its own causes
pub on_any : (tree : Option Plan) (own : Option Refusal → Type 0) (cause : Option Refusal) → is_some tree ≡ true → own cause → OnNetwork tree (λ _. own) cause
on_any None own cause is holds = absurd cc
on_any (Some t) own cause is holds = holds
