-- The commands by which a host talks, in the worlds of the laws.
use Rattle.std.proofs.Common.{◌≡◌, ◌∙◌, ℕ, Bool, false, List, Option, None, Some, refl, subst, sym}
use Rattle.std.specs.Prelude.{is_some}
use Rattle.block_registers.specs.Registers.{Registers}
use Rattle.chdr_words.specs.declared.epid.Epid.{Epid}
use Rattle.fabric_net.specs.Asking.{marked_now}
use Rattle.fabric_net.specs.NetView.{NetSeen}
use Rattle.host_talk.specs.Settled.{IsSettledNow}
use Rattle.net_machine.specs.Nodes.{host_with}
use Rattle.net_machine.specs.State.{State}
use Rattle.net_present.specs.Present.{Present}
use Rattle.net_topology.specs.declared.plan.Plan.{Plan}
use Rattle.script_books.specs.declared.book.Book.{Book}
use Rattle.script_books.specs.declared.book.Book.TheVariants as book
use Rattle.script_books.specs.declared.refusal.Refusal.{Refusal}
use Rattle.script_books.specs.declared.refusal.Refusal.TheVariants as refusal
use Rattle.script_worlds.specs.WorldView.{WorldSeen}
use Rattle.script_worlds.specs.WorldView as seen
use Rattle.script_worlds.specs.Worlds.{Setup}
use Rattle.net_faults.specs.declared.fault.Fault.{Fault}
use Rattle.script_runner.specs.ScriptWorlds.{ScriptWorld, with_banks}
use Rattle.script_runner.specs.Standing.{AreToldFound, HasTold, NetStandsFor, Talks, WorldStandsFor}
use Rattle.script_runner.specs.Talks.{FitsIn, OnHost, OnHostNode}
use Rattle.script_runner.proofs.Quiet.{in-each-world, world_of}
use Rattle.script_runner.proofs.Running.{stands-loaded}

-- what is to be lost doesn't matter to a net in which nothing is under way
pub marked-settled : (lose : List Fault) (p : Present) → IsSettledNow p → IsSettledNow (marked_now lose p)
marked-settled lose p settled = record {
  rest = record { empty = settled.rest.empty; still = settled.rest.still; heard = settled.rest.heard };
  nodes = settled.nodes;
  places = settled.places;
  clear = settled.clear;
}

-- a net is one of its network, if it was and is settled again
pub ready-talked : (tree : Option Plan) (old new : NetSeen) → seen.AreReady tree (Some old) → new.present.tree ≡ old.present.tree
    → IsSettledNow new.present → seen.AreReady tree (Some new)
ready-talked None old new ready same settled = absurd ready
ready-talked (Some tree) old new ready same settled = record { tree_is = same ∙ ready.tree_is; settled = settled }

-- and so it is settled
pub ready-settled : (tree : Option Plan) (net : NetSeen) → seen.AreReady tree (Some net) → IsSettledNow net.present
ready-settled None net ready = absurd ready
ready-settled (Some tree) net ready = ready.settled

-- no host has the EPID
pub no-host : (tree : Plan) (host : Epid) (rest : Option Refusal → Type 0) → is_some (host_with tree host) ≡ false
    → OnHost tree host rest (Some (refusal.NoHost host))
no-host tree host rest none = by_node (host_with tree host) none
  where
    by_node : (o : Option (ℕ × Bool)) → is_some o ≡ false → OnHostNode o host rest (Some (refusal.NoHost host))
    by_node None is = refl
    by_node (Some node) is = absurd cc

-- what a command has to meet in the world's network it has to meet in the net
pub fits-net : (tree : Option Plan) (net : NetSeen) (Fits : Plan → Type 0) → seen.AreReady tree (Some net) → FitsIn tree Fits
    → Fits net.present.tree
fits-net None net Fits ready fits = absurd ready
fits-net (Some tree) net Fits ready fits = subst (λ (t : Plan). Fits t) (sym ready.tree_is) fits

-- what was found in the net are nodes of the world's network
pub told-found : (tree : Option Plan) (net : NetSeen) (told : Book) → seen.AreReady tree (Some net) → AreToldFound net.present.tree told
    → FitsIn tree (λ t. AreToldFound t told)
told-found None net told ready found = tt
told-found (Some tree) net told ready found = subst (λ (t : Plan). AreToldFound t told) ready.tree_is found

pub refused-found : (tree : Option Plan) (why : Refusal) → FitsIn tree (λ t. AreToldFound t (book.Refused why))
refused-found None why = tt
refused-found (Some tree) why = tt

-- what holds whatever the network is
pub fits-in : (tree : Option Plan) (Fits : Type 0) → Fits → FitsIn tree (λ t. Fits)
fits-in None Fits fits = tt
fits-in (Some tree) Fits fits = fits

-- in the world whose parts are those of the program's
told-so : (Tells : State → Book → State → Type 0) (setup : Setup) (net new : NetSeen) (slots left : List (Option Registers))
    (told : Book) (machine : Option State) → HasTold Tells net slots told new left → NetStandsFor (Some net) machine
    → Talks Tells (world_of setup machine slots) told (record { setup = setup; net = Some new }) left
told-so Tells setup net new slots left told None done stands = absurd stands
told-so Tells setup net new slots left told (Some m) done stands =
    let one = done.each (with_banks slots m) (stands-loaded net.present m slots stands) refl in
    record {
      next = world_of setup (Some one.end) one.end.banks;
      talk = (one.end, (one.tells, refl));
      setup = refl;
      banks = refl;
      stands = record { setup = refl; machine = one.stands; banks = one.banks };
    }

-- in each world for which the program's stands
pub talks-told : (Tells : State → Book → State → Type 0) (s : WorldSeen) (net new : NetSeen) (slots left : List (Option Registers))
    (told : Book) (w : ScriptWorld) → s.net ≡ Some net → HasTold Tells net slots told new left → WorldStandsFor s slots w
    → Talks Tells w told (record { setup = s.setup; net = Some new }) left
talks-told Tells s net new slots left told w here done stands =
    in-each-world (λ (v : ScriptWorld). Talks Tells v told (record { setup = s.setup; net = Some new }) left) s slots w stands
    (told-so Tells s.setup net new slots left told w.machine done
    (subst (λ (n : Option NetSeen). NetStandsFor n w.machine) here stands.machine))

-- without a network the command is refused
abbrev pub no_net : Book
no_net = book.Refused refusal.NoNet

nowhere-so : (Tells : State → Book → State → Type 0) (setup : Setup) (slots : List (Option Registers)) (machine : Option State)
    → NetStandsFor None machine → Talks Tells (world_of setup machine slots) no_net (record { setup = setup; net = None }) slots
nowhere-so Tells setup slots None stands = record {
  next = world_of setup None slots;
  talk = (refl, refl);
  setup = refl;
  banks = refl;
  stands = record { setup = refl; machine = tt; banks = refl };
}
nowhere-so Tells setup slots (Some m) stands = absurd stands

pub talks-nowhere : (Tells : State → Book → State → Type 0) (s : WorldSeen) (slots : List (Option Registers)) (w : ScriptWorld)
    → s.net ≡ None → WorldStandsFor s slots w → Talks Tells w no_net (record { setup = s.setup; net = None }) slots
talks-nowhere Tells s slots w none stands =
    in-each-world (λ (v : ScriptWorld). Talks Tells v no_net (record { setup = s.setup; net = None }) slots) s slots w stands
    (nowhere-so Tells s.setup slots w.machine (subst (λ (n : Option NetSeen). NetStandsFor n w.machine) none stands.machine))
