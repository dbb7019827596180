-- The writes of a route command, in each state for which the net stands.
use Rattle.std.proofs.Common.{◌≡◌, ◌∙◌, ◌≢◌, ℕ, Bool, inl, inr, List, [], ◌∷◌, ◌++◌, Option, None, Some, refl, sym, ap, subst, arith}
use Rattle.std.specs.Prelude.{IsSome, Result, Ok, Err, IfOk, option_map}
use Rattle.block_registers.specs.Registers.{Registers}
use Rattle.chdr_words.specs.declared.epid.Epid.{Epid}
use Rattle.fabric_net.specs.Asking.{marked_now}
use Rattle.fabric_net.specs.NetView.{NetSeen}
use Rattle.fabric_net.specs.Standing.{StandsFor}
use Rattle.found_nodes.specs.Found.{AreFound, HaveParents}
use Rattle.host_talk.specs.Settled.{IsSettledNow}
use Rattle.net_machine.specs.Moves.{marked}
use Rattle.net_machine.specs.Nodes.{exits_of, host_with}
use Rattle.net_machine.specs.State.{Node, State}
use Rattle.net_present.specs.Present.{Present}
use Rattle.net_topology.specs.declared.plan.Plan.{Plan}
use Rattle.net_writes.specs.Routes.{IsRouteWritten, LeadsBothWays, OthersStay, route_left}
use Rattle.rf_base.specs.declared.memory.Memory.{Memory}
use Rattle.rf_script_types.specs.declared.command.ScriptCommand.TheVariants as command
use Rattle.route_writes.specs.Routing.{HasLost, HasRouted, links_written, route_of, unknown_of, way_in}
use Rattle.route_writes.specs.Routing as routing
use Rattle.route_writes.specs.Writes.{Desk, Route, wrote_all}
use Rattle.script_books.specs.declared.book.Book.{Book}
use Rattle.script_books.specs.declared.book.Book.TheVariants as book
use Rattle.script_books.specs.declared.refusal.Refusal.{Refusal}
use Rattle.script_books.specs.declared.refusal.Refusal.TheVariants as refusal
use Rattle.script_worlds.specs.WorldView.{AreFoundIn, WorldSeen}
use Rattle.script_worlds.specs.Worlds.{Setup}
use Rattle.net_faults.specs.declared.fault.Fault.{Fault}
use Rattle.walk_books.specs.declared.found.Found.{Found}
use Rattle.walk_books.specs.declared.found.FoundNode.{FoundNode}
use Rattle.script_runner.specs.Routes.{IsBroken, IsRoutable, IsRouted, IsRouting, IsUnknownCause, IsWriteCause, IsWritten, IsWrittenOver, nodes_of}
use Rattle.script_runner.specs.ScriptWorlds.{ScriptWorld}
use Rattle.script_runner.specs.Standing.{HasTold, Performs, Talks, WorldStandsFor}
use Rattle.script_runner.specs.Talks.{FitsIn, OnHostNode}

-- ---- what a route goes by

pub ends-differ : (a b : Epid) → b.0 ≢ a.0 → a ≢ b
ends-differ a b other = λ same. other (ap (λ (epid : Epid). epid.0) (sym same))

-- of no nodes any tree is the network
no-parents : HaveParents []
no-parents = λ k lt few. absurd (omega (arith, few))

pub none-found : (tree : Plan) → AreFound tree []
none-found tree = record {
  parents = no-parents;
  links = λ k lt few. absurd (omega (arith, few));
  epids = λ k few. absurd (omega (arith, few));
}

-- the nodes that a world keeps are those of its network
pub kept-found : (tree : Option Plan) (found : Option Found) → AreFoundIn tree found → FitsIn tree (λ t. AreFound t (nodes_of found))
kept-found None found are = tt
kept-found (Some tree) None are = none-found tree
kept-found (Some tree) (Some found) are = are

pub routable : (tree : Option Plan) (nodes : List FoundNode) (a b : Epid) → a ≢ b → FitsIn tree (λ t. AreFound t nodes)
    → FitsIn tree (λ t. IsRoutable t nodes a b)
routable None nodes a b other found = tt
routable (Some tree) nodes a b other found = record { found = found; other = other }

-- ---- why nothing is asked

-- no EPID is unknown if nothing refuses the route
some-unknown : (epid : Epid) → None ≡ option_map (λ (e : Epid). refusal.Unknown e) (Some epid) → ⊥
some-unknown epid e = absurd cc

by-unknown : (o : Option Epid) → None ≡ option_map (λ (epid : Epid). refusal.Unknown epid) o → o ≡ None
by-unknown None is = refl
by-unknown (Some epid) is = absurd (some-unknown epid is)

pub none-unknown : (tree : Plan) (nodes : List FoundNode) (host a b : Epid) → IsWriteCause tree nodes host a b None → unknown_of nodes host a b ≡ None
none-unknown tree nodes host a b free = by_node (host_with tree host) free
  where
    by_node : (o : Option (ℕ × Bool)) → OnHostNode o host (IsUnknownCause nodes host a b) None → unknown_of nodes host a b ≡ None
    by_node None none = absurd cc
    by_node (Some node) is = by-unknown (unknown_of nodes host a b) is

-- and the host is one
pub free-host : (tree : Plan) (nodes : List FoundNode) (host a b : Epid) → IsWriteCause tree nodes host a b None → IsSome (host_with tree host)
free-host tree nodes host a b free = by_node (host_with tree host) free
  where
    by_node : (o : Option (ℕ × Bool)) → OnHostNode o host (IsUnknownCause nodes host a b) None → IsSome o
    by_node None none = absurd cc
    by_node (Some node) is = refl

-- a cause in a net is one in each state for which it stands
write-cause-in : (p : Present) (w : State) (nodes : List FoundNode) (host a b : Epid) (cause : Option Refusal) → StandsFor p w
    → IsWriteCause p.tree nodes host a b cause → IsWriteCause w.tree nodes host a b cause
write-cause-in p w nodes host a b cause stands is = subst (λ (t : Plan). IsWriteCause t nodes host a b cause) stands.now.tree is

-- a route that is refused so leaves the net
pub route-refused : (net : NetSeen) (slots : List (Option Registers)) (nodes : List FoundNode) (host a b : Epid) (lose : List Fault) (why : Refusal)
    → IsSettledNow net.present → IsWriteCause net.present.tree nodes host a b (Some why)
    → HasTold (IsRouting nodes host a b lose) net slots (book.Refused why) net slots
route-refused net slots nodes host a b lose why settled is = record {
  tree = refl;
  settled = settled;
  found = tt;
  each = λ w stands same. record {
    end = w;
    tells = inl (write-cause-in net.present w nodes host a b (Some why) stands is, refl);
    stands = stands;
    banks = same;
  };
}

-- ---- what is asked

-- from a state, once what is to be lost is named
record Wrote (Does : Route → State → State → Type 0) (route : Route) (w : State) (new : Present) (left : List (Option Registers)) : Type 0 where
  end : State
  does : Does route w end
  stands : StandsFor new end
  banks : end.banks ≡ left

over-so : (route : Route) (ds : List ℕ) (old new : Desk) (w end : State) → StandsFor old.net.present w → StandsFor new.net.present end
    → routing.IsWrittenOver route ds old new → IsWrittenOver route ds w end
over-so route ds old new w end before behind it = record {
  nodes = sym behind.now.nodes ∙ it.nodes
      ∙ ap (λ (ns : List Node). route_left route.tree route.x route.src route.a route.b ds ns) before.now.nodes;
  written = subst (λ (ns : List Node). IsRouteWritten route.tree (exits_of ns) route.a route.b ds) behind.now.nodes it.written;
  others = subst (λ (ns : List Node). OthersStay route.src route.a route.b w.nodes ns) behind.now.nodes
      (subst (λ (ns : List Node). OthersStay route.src route.a route.b ns new.net.present.nodes) before.now.nodes it.others);
}

written-from : (route : Route) (count : ℕ) (old new : Desk) (w : State) → StandsFor old.net.present w → w.banks ≡ old.banks → HasRouted route count old new
    → Wrote (λ r. IsWritten r count) route w new.net.present new.banks
written-from route count old new w stands same it = let here = it.asked.each w stands same in record {
  end = wrote_all route w it.writes;
  does = record {
    writes = it.writes;
    first = here.first;
    between = it.between;
    number = it.number;
    left = refl;
    written = over-so route (way_in route) old new w (wrote_all route w it.writes) stands here.stands it.left;
    leads = subst (λ (ns : List Node). LeadsBothWays route.tree (exits_of ns) route.a route.b) here.stands.now.nodes it.leads;
  };
  stands = here.stands;
  banks = here.banks;
}

broken-from : (route : Route) (instance : ℕ) (old new : Desk) (w : State) → StandsFor old.net.present w → w.banks ≡ old.banks
    → HasLost route instance old new → Wrote (λ r. IsBroken r instance) route w new.net.present new.banks
broken-from route instance old new w stands same it = let here = it.asked.each w stands same in record {
  end = wrote_all route w (it.writes ++ it.last ∷ []);
  does = record {
    before = it.before;
    d = it.d;
    e = it.e;
    behind = it.behind;
    way = it.way;
    node = it.node;
    writes = it.writes;
    last = it.last;
    first = here.first;
    between = it.between;
    at = it.at;
    lost = it.lost;
    request = it.request;
    losing = it.losing w stands same;
    left = refl;
    written = over-so route (links_written it.request it.before it.d it.e) old new w (wrote_all route w (it.writes ++ it.last ∷ [])) stands here.stands
        it.left;
  };
  stands = here.stands;
  banks = here.banks;
}

-- ---- what is told

abbrev pub desk_of : NetSeen → List (Option Registers) → Desk
desk_of net banks = record { net = net; banks = banks }

record Routed (Does : Route → State → State → Type 0) (nodes : List FoundNode) (host a b : Epid) (lose : List Fault) (w : State) (new : Present) (left : List (Option Registers)) : Type 0 where
  end : State
  routed : IsRouted Does nodes host a b lose w end
  stands : StandsFor new end
  banks : end.banks ≡ left

routed-in : (Does : Route → State → State → Type 0) (old mid new : Present) (left : List (Option Registers)) (nodes : List FoundNode) (host a b : Epid)
    (lose : List Fault) (w : State) → IsWriteCause old.tree nodes host a b None → StandsFor old w → StandsFor mid (marked lose w)
    → Wrote Does (route_of mid.tree host a b) (marked lose w) new left → Routed Does nodes host a b lose w new left
routed-in Does old mid new left nodes host a b lose w free stands marks it = record {
  end = it.end;
  routed = record {
    free = write-cause-in old w nodes host a b None stands free;
    does = subst (λ (t : Plan). Does (route_of t host a b) (marked lose w) it.end) marks.now.tree it.does;
  };
  stands = it.stands;
  banks = it.banks;
}

pub route-told : (old mid new : NetSeen) (slots left : List (Option Registers)) (nodes : List FoundNode) (host a b : Epid) (lose : List Fault) (count : ℕ)
    → mid.present ≡ marked_now lose old.present → ((w : State) → StandsFor old.present w → StandsFor mid.present (marked lose w))
    → IsWriteCause old.present.tree nodes host a b None
    → HasRouted (route_of mid.present.tree host a b) count (desk_of mid slots) (desk_of new left)
    → HasTold (IsRouting nodes host a b lose) old slots (book.Route count) new left
route-told old mid new slots left nodes host a b lose count named names free it = record {
  tree = it.asked.same ∙ ap (λ (p : Present). p.tree) named;
  settled = it.asked.settled;
  found = tt;
  each = λ w stands same.
      let marks = names w stands in
      let done = routed-in (λ r. IsWritten r count) old.present mid.present new.present left nodes host a b lose w free stands marks
      (written-from (route_of mid.present.tree host a b) count (desk_of mid slots) (desk_of new left) (marked lose w) marks same it) in
      record { end = done.end; tells = done.routed; stands = done.stands; banks = done.banks };
}

pub route-broken : (old mid new : NetSeen) (slots left : List (Option Registers)) (nodes : List FoundNode) (host a b : Epid) (lose : List Fault) (instance : ℕ)
    → mid.present ≡ marked_now lose old.present → ((w : State) → StandsFor old.present w → StandsFor mid.present (marked lose w))
    → IsWriteCause old.present.tree nodes host a b None
    → HasLost (route_of mid.present.tree host a b) instance (desk_of mid slots) (desk_of new left)
    → HasTold (IsRouting nodes host a b lose) old slots (book.Refused (refusal.Lost instance)) new left
route-broken old mid new slots left nodes host a b lose instance named names free it = record {
  tree = it.asked.same ∙ ap (λ (p : Present). p.tree) named;
  settled = it.asked.settled;
  found = tt;
  each = λ w stands same.
      let marks = names w stands in
      let done = routed-in (λ r. IsBroken r instance) old.present mid.present new.present left nodes host a b lose w free stands marks
      (broken-from (route_of mid.present.tree host a b) instance (desk_of mid slots) (desk_of new left) (marked lose w) marks same it) in
      record { end = done.end; tells = inr (instance, refl, done.routed); stands = done.stands; banks = done.banks };
}

-- ---- in the worlds of the laws

route-performs : (world : ScriptWorld) (host a b : Epid) (lose : List Fault) (nodes : List FoundNode) (told : Book) (s : WorldSeen)
    (slots : List (Option Registers)) → nodes ≡ nodes_of world.setup.found → Talks (IsRouting nodes host a b lose) world told s slots
    → Performs world (command.Route host a b lose) told s slots
route-performs world host a b lose nodes told s slots are talks =
    let it : Talks (IsRouting (nodes_of world.setup.found) host a b lose) world told s slots =
    subst (λ (ns : List FoundNode). Talks (IsRouting ns host a b lose) world told s slots) are talks in
    record { next = it.next; performed = record { done = it.talk; setup = it.setup; banks = it.banks }; stands = it.stands }

pub route-done : (old new : WorldSeen) (slots left : List (Option Registers)) (host a b : Epid) (lose : List Fault) (nodes : List FoundNode)
    (told : Result Book Memory) → nodes ≡ nodes_of old.setup.found
    → IfOk told (λ book. (w : ScriptWorld) → WorldStandsFor old slots w → Talks (IsRouting nodes host a b lose) w book new left)
    → IfOk told (λ book. (w : ScriptWorld) → WorldStandsFor old slots w → Performs w (command.Route host a b lose) book new left)
route-done old new slots left host a b lose nodes (Err memory) are done = tt
route-done old new slots left host a b lose nodes (Ok book) are done = λ w stands.
    route-performs w host a b lose nodes book new left (are ∙ ap (λ (setup : Setup). nodes_of setup.found) (sym stands.setup)) (done w stands)
