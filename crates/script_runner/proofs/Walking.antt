-- The walk of a discover command, in each state for which the net stands.
use Rattle.std.proofs.Common.{◌≡◌, ◌∙◌, ℕ, Bool, true, false, List, [], ◌∷◌, Option, None, Some, refl, sym, ap, subst}
use Rattle.std.specs.Prelude.{IsSome, is_some}
use Rattle.block_registers.specs.Registers.{Registers}
use Rattle.chdr_words.specs.declared.epid.Epid.{Epid}
use Rattle.fabric_net.specs.Asking.{marked_now}
use Rattle.fabric_net.specs.NetView.{NetSeen}
use Rattle.fabric_net.specs.Standing.{StandsFor}
use Rattle.found_nodes.specs.Found.{AreFound}
use Rattle.host_talk.specs.Settled.{IsSettledNow}
use Rattle.net_machine.specs.Moves.{marked}
use Rattle.net_machine.specs.Nodes.{host_with}
use Rattle.net_machine.specs.State.{State}
use Rattle.net_present.specs.Present.{Present}
use Rattle.net_topology.specs.declared.plan.Plan.{Plan}
use Rattle.rf_script_types.specs.declared.command.ScriptCommand.TheVariants as command
use Rattle.script_books.specs.declared.book.Book.{Book}
use Rattle.script_books.specs.declared.book.Book.TheVariants as book
use Rattle.script_books.specs.declared.refusal.Refusal.TheVariants as refusal
use Rattle.script_worlds.specs.WorldView.{AreFoundIn, WorldSeen}
use Rattle.script_worlds.specs.Worlds.{Setup, found_in}
use Rattle.net_faults.specs.declared.fault.Fault.{Fault}
use Rattle.topology_walk.specs.Discovery.{IsDiscovered, IsDiscoveredFrom}
use Rattle.topology_walk.specs.Finding.{IsFoundOf}
use Rattle.topology_walk.specs.Nodes.{first_found}
use Rattle.topology_walk.specs.Probes.{IsFoundBy, probed_all}
use Rattle.topology_walk.specs.Walks.{AreProbed}
use Rattle.walk_books.specs.declared.found.Found.{Found}
use Rattle.script_runner.specs.Discoveries.{IsFree, IsWalkCause, IsWalkFrom, IsWalked}
use Rattle.script_runner.specs.ScriptWorlds.{ScriptWorld}
use Rattle.script_runner.specs.Standing.{AreToldFound, HasTold, Performs, Talks}
use Rattle.script_runner.specs.Talks.{FitsIn}
use Rattle.script_runner.proofs.Talking.{no-host}

pub some-host : (tree : Plan) (host : Epid) (found : Bool) → found ≡ is_some (host_with tree host) → found ≡ true → IsSome (host_with tree host)
some-host tree host found is there = by_node (host_with tree host) (sym is ∙ there)
  where
    by_node : (o : Option (ℕ × Bool)) → is_some o ≡ true → IsSome o
    by_node None none = absurd cc
    by_node (Some node) some = refl

-- from a state, once what is to be lost is named
record Walked (w : State) (src : Epid) (o : Option (ℕ × Bool)) (found : Found) (new : Present) (left : List (Option Registers)) : Type 0 where
  end : State
  walk : IsWalkFrom o src found w end
  stands : StandsFor new end
  banks : end.banks ≡ left

walked-from : (w : State) (src : Epid) (o : Option (ℕ × Bool)) (old new : NetSeen) (slots left : List (Option Registers)) (found : Found)
    → StandsFor old.present w → w.banks ≡ slots → IsDiscoveredFrom o old slots src found new left → Walked w src o found new.present left
walked-from w src None old new slots left found stands same it = absurd it
walked-from w src (Some (x, true)) old new slots left found stands same it =
    let here : AreProbed w.tree src x it.probes new.present left w =
    subst (λ (t : Plan). AreProbed t src x it.probes new.present left w) stands.now.tree (it.each w stands same) in
    record {
      end = probed_all w.tree src x w it.probes;
      walk = record {
        probes = it.probes;
        first = here.first;
        finds = subst (λ (t : Plan). IsFoundBy t x it.probes found) stands.now.tree it.finds;
        of = subst (λ (t : Plan). IsFoundOf t x found) stands.now.tree it.of;
        left = refl;
      };
      stands = here.stands;
      banks = here.banks;
    }
walked-from w src (Some (x, false)) old new slots left found stands same it = record {
  end = w;
  walk = record {
    nodes = subst (λ (t : Plan). found.nodes ≡ first_found t x ∷ []) stands.now.tree it.nodes;
    bare = it.bare;
    lost = it.lost;
    left = refl;
  };
  stands = subst (λ (n : NetSeen). StandsFor n.present w) (sym it.net) stands;
  banks = same ∙ sym it.kept;
}

-- a walk is told so
pub walk-told : (old mid new : NetSeen) (slots left : List (Option Registers)) (host : Epid) (lose : List Fault) (found : Found)
    → mid.present ≡ marked_now lose old.present → ((w : State) → StandsFor old.present w → StandsFor mid.present (marked lose w))
    → IsDiscovered mid slots host found new left → AreFound mid.present.tree found.nodes → IsSettledNow new.present
    → new.present.tree ≡ mid.present.tree → HasTold (IsWalked host lose) old slots (book.Discover found) new left
walk-told old mid new slots left host lose found named names walk nodes settled same_tree = record {
  tree = same_tree ∙ ap (λ (p : Present). p.tree) named;
  found = subst (λ (p : Present). AreFound p.tree found.nodes) named nodes;
  settled = settled;
  each = λ w stands same.
      let marks = names w stands in
      let it = walked-from (marked lose w) host (host_with mid.present.tree host) mid new slots left found marks same walk in
      record {
        end = it.end;
        tells = subst (λ (t : Plan). IsWalkFrom (host_with t host) host found (marked lose w) it.end) marks.now.tree it.walk;
        stands = it.stands;
        banks = it.banks;
      };
}

-- without its host it leaves the net
pub walk-refused : (net : NetSeen) (slots : List (Option Registers)) (host : Epid) (lose : List Fault) → IsSettledNow net.present
    → is_some (host_with net.present.tree host) ≡ false
    → HasTold (IsWalked host lose) net slots (book.Refused (refusal.NoHost host)) net slots
walk-refused net slots host lose settled none = record {
  tree = refl;
  settled = settled;
  found = tt;
  each = λ w stands same. record {
    end = w;
    tells = (
      subst (λ (t : Plan). IsWalkCause t host (Some (refusal.NoHost host))) stands.now.tree
          (no-host net.present.tree host IsFree none),
      refl,
    );
    stands = stands;
    banks = same;
  };
}

-- ---- in the worlds of the laws

-- nodes that were found are those of the world's network
pub nodes-found : (tree : Option Plan) (found : Found) → FitsIn tree (λ t. AreToldFound t (book.Discover found)) → AreFoundIn tree (Some found)
nodes-found None found fits = tt
nodes-found (Some tree) found fits = fits

-- a program's world that keeps what a book tells was found
abbrev pub keeps : Book → WorldSeen → WorldSeen
keeps told s = record s { setup = record s.setup { found = found_in told s.setup.found } }

-- a world that keeps what a walk found keeps what its book tells
pub keeps-found : (told : Book) (found copied : Found) (s : WorldSeen) → told ≡ book.Discover found → copied ≡ found
    → record s { setup = record s.setup { found = Some copied } } ≡ keeps told s
keeps-found told found copied s is same =
    ap (λ (f : Found). record s { setup = record s.setup { found = Some f } }) same ∙ ap (λ (b : Book). keeps b s) (sym is)

-- another book tells of nothing that was found
pub keeps-none : (told : Book) (s : WorldSeen) → ((found : Found) → told ≡ book.Discover found → ⊥) → s ≡ keeps told s
keeps-none book.Net s not = refl
keeps-none (book.Discover found) s not = absurd (not found refl)
keeps-none (book.Route nodes) s not = refl
keeps-none (book.Control ack) s not = refl
keeps-none book.Unload s not = refl
keeps-none (book.Block number) s not = refl
keeps-none (book.Connect number) s not = refl
keeps-none book.Set s not = refl
keeps-none book.Commit s not = refl
keeps-none (book.Run run) s not = refl
keeps-none (book.Twin twin) s not = refl
keeps-none (book.Duplex duplex) s not = refl
keeps-none (book.Refused why) s not = refl

pub walk-performs : (world : ScriptWorld) (host : Epid) (lose : List Fault) (told : Book) (s : WorldSeen) (slots : List (Option Registers))
    → Talks (IsWalked host lose) world told s slots → Performs world (command.Discover host lose) told (keeps told s) slots
walk-performs world host lose told s slots it = record {
  next = record it.next { setup = record it.next.setup { found = found_in told it.next.setup.found } };
  performed = record {
    done = it.talk;
    setup = ap (λ (setup : Setup). record setup { found = found_in told setup.found }) it.setup;
    banks = it.banks;
  };
  stands = record {
    setup = ap (λ (setup : Setup). record setup { found = found_in told setup.found }) it.stands.setup;
    machine = it.stands.machine;
    banks = it.stands.banks;
  };
}
