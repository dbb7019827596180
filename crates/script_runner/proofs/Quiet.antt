-- The commands that let no event happen, in the worlds of the laws.
use Rattle.std.proofs.Common.{◌≡◌, Bool, List, refl, sym, subst}
use Rattle.std.specs.Prelude.{IfOk, MatchOption, Option, None, Some, Result, Ok, Err, slice_set}
use Rattle.block_registers.specs.Registers.{Registers}
use Rattle.fabric_net.specs.NetView.{NetSeen}
use Rattle.net_machine.specs.Begin.{built}
use Rattle.net_machine.specs.State.{State}
use Rattle.net_topology.specs.declared.plan.Plan.{Plan}
use Rattle.rf_base.specs.declared.memory.Memory.{Memory}
use Rattle.rf_script_types.specs.declared.command.ScriptCommand.{ScriptCommand}
use Rattle.rf_script_types.specs.declared.command.ScriptCommand.TheVariants as command
use Rattle.script_books.specs.declared.book.Book.{Book}
use Rattle.script_books.specs.declared.book.Book.TheVariants as book
use Rattle.script_books.specs.declared.refusal.Refusal.TheVariants as refusal
use Rattle.script_worlds.specs.Quiet as quiet
use Rattle.script_worlds.specs.WorldView.{BuiltStands, WorldSeen, new_net}
use Rattle.script_worlds.specs.Worlds.{Setup, UnlessRefused, plan_of, unless_refused}
use Rattle.script_runner.specs.ScriptWorlds.{ScriptWorld}
use Rattle.script_runner.specs.Standing.{NetStandsFor, Performs, WorldStandsFor}

-- the world of these parts
abbrev pub world_of : Setup → Option State → List (Option Registers) → ScriptWorld
world_of setup machine banks = record { setup = setup; machine = machine; banks = banks }

-- what holds of the world whose parts are those of the program's holds of each world for which it stands
pub in-each-world : (P : ScriptWorld → Type 0) (s : WorldSeen) (banks : List (Option Registers)) (w : ScriptWorld) → WorldStandsFor s banks w
    → P (world_of s.setup w.machine banks) → P w
in-each-world P s banks w stands p =
    subst (λ (setup : Setup). P (world_of setup w.machine w.banks)) (sym stands.setup)
    (subst (λ (b : List (Option Registers)). P (world_of s.setup w.machine b)) (sym stands.banks) p)

-- the net of a new network, unless that was refused
net-stands : (told : Book) (tree : Plan) (routed : Bool) (banks : List (Option Registers)) (net : Option NetSeen) (machine : Option State)
    → UnlessRefused told (BuiltStands tree routed) → NetStandsFor net machine
    → NetStandsFor (unless_refused told net (Some (new_net tree routed))) (unless_refused told machine (Some (built tree routed banks)))
net-stands (book.Refused why) tree routed banks net machine new old = old
net-stands book.Net tree routed banks net machine new old = new banks
net-stands (book.Discover found) tree routed banks net machine new old = new banks
net-stands (book.Route nodes) tree routed banks net machine new old = new banks
net-stands (book.Control answer) tree routed banks net machine new old = new banks
net-stands book.Unload tree routed banks net machine new old = new banks
net-stands (book.Block number) tree routed banks net machine new old = new banks
net-stands (book.Connect number) tree routed banks net machine new old = new banks
net-stands book.Set tree routed banks net machine new old = new banks
net-stands book.Commit tree routed banks net machine new old = new banks
net-stands (book.Run run) tree routed banks net machine new old = new banks
net-stands (book.Twin twin) tree routed banks net machine new old = new banks
net-stands (book.Duplex duplex) tree routed banks net machine new old = new banks

-- a command that let no event happen, in the world whose parts are those of the program's
quiet-so : (c : ScriptCommand) (old new : WorldSeen) (slots left : List (Option Registers)) (told : Book) (machine : Option State)
    → NetStandsFor old.net machine → quiet.IsPerformed c old new slots left told → Performs (world_of old.setup machine slots) c told new left
quiet-so (command.Net nodes links room routed limit) old new slots left told machine stands done = record {
  next = world_of new.setup (unless_refused told machine (Some (built (plan_of nodes links room limit) routed slots))) slots;
  performed = record { done = (done.book, refl); setup = done.setup; banks = refl };
  stands = record {
    setup = refl;
    machine = subst (λ (net : Option NetSeen). NetStandsFor net (unless_refused told machine (Some (built (plan_of nodes links room limit) routed slots))))
        (sym done.net) (net-stands told (plan_of nodes links room limit) routed slots old.net machine done.stands stands);
    banks = sym done.banks;
  };
}
quiet-so (command.Discover host lose) old new slots left told machine stands done = absurd done.book
quiet-so (command.Route host from to lose) old new slots left told machine stands done = absurd done.book
quiet-so (command.Control host to port op addr words enables lose) old new slots left told machine stands done = absurd done.book
quiet-so (command.Unload port) old new slots left told machine stands done = record {
  next = world_of new.setup machine (unless_refused told slots (slice_set slots port None));
  performed = record { done = (done.book, refl); setup = done.setup; banks = refl };
  stands = record {
    setup = refl;
    machine = subst (λ (net : Option NetSeen). NetStandsFor net machine) (sym done.net) stands;
    banks = sym done.banks;
  };
}
quiet-so (command.Block kind ins outs packets time) old new slots left told machine stands done = record {
  next = world_of new.setup machine slots;
  performed = record { done = (done.book, refl); setup = done.setup; banks = refl };
  stands = record { setup = refl; machine = subst (λ (net : Option NetSeen). NetStandsFor net machine) (sym done.net) stands; banks = sym done.banks };
}
quiet-so (command.Connect from to flow start policy) old new slots left told machine stands done = record {
  next = world_of new.setup machine slots;
  performed = record { done = (done.book, refl); setup = done.setup; banks = refl };
  stands = record { setup = refl; machine = subst (λ (net : Option NetSeen). NetStandsFor net machine) (sym done.net) stands; banks = sym done.banks };
}
quiet-so (command.Set at value) old new slots left told machine stands done = record {
  next = world_of new.setup machine slots;
  performed = record { done = (done.book, refl); setup = done.setup; banks = refl };
  stands = record { setup = refl; machine = subst (λ (net : Option NetSeen). NetStandsFor net machine) (sym done.net) stands; banks = sym done.banks };
}
quiet-so command.Commit old new slots left told machine stands done = record {
  next = world_of new.setup machine slots;
  performed = record { done = (done.book, refl); setup = done.setup; banks = refl };
  stands = record { setup = refl; machine = subst (λ (net : Option NetSeen). NetStandsFor net machine) (sym done.net) stands; banks = sym done.banks };
}
quiet-so (command.Run seed trace peak lose) old new slots left told machine stands done = absurd done.book
quiet-so (command.Twin cut peak lose) old new slots left told machine stands done = absurd done.book
quiet-so (command.Duplex host acts seed peak lose) old new slots left told machine stands done = absurd done.book

pub quiet-performs : (c : ScriptCommand) (old new : WorldSeen) (slots left : List (Option Registers)) (told : Book) (w : ScriptWorld)
    → WorldStandsFor old slots w → quiet.IsPerformed c old new slots left told → Performs w c told new left
quiet-performs c old new slots left told w stands done =
    in-each-world (λ (v : ScriptWorld). Performs v c told new left) old slots w stands (quiet-so c old new slots left told w.machine stands.machine done)

-- a command that this program doesn't perform
abbrev pub not_built : Book
not_built = book.Refused refusal.NotBuilt

-- the world of the program stays
pub record Stays (old new : WorldSeen) (slots left : List (Option Registers)) : Type 0 where
  pub world : new ≡ old
  pub banks : left ≡ slots

pub world-stays : (old new : WorldSeen) (slots left : List (Option Registers)) (w : ScriptWorld) → Stays old new slots left
    → WorldStandsFor old slots w → WorldStandsFor new left w
world-stays old new slots left w same stands =
    subst (λ (s : WorldSeen). WorldStandsFor s left w) (sym same.world) (subst (λ (b : List (Option Registers)). WorldStandsFor old b w) (sym same.banks) stands)

-- it stays where the command wasn't begun
pub passed-stays : (c : ScriptCommand) (old new : WorldSeen) (slots left : List (Option Registers)) (told : Option Book) → told ≡ None
    → MatchOption told (quiet.IsPassed c old new slots left) (quiet.IsPerformed c old new slots left) → Stays old new slots left
passed-stays c old new slots left told none done =
    let passed : quiet.IsPassed c old new slots left =
    subst (λ (o : Option Book). MatchOption o (quiet.IsPassed c old new slots left) (quiet.IsPerformed c old new slots left)) none done in
    record { world = passed.world; banks = passed.banks }

-- and what then is performed is performed from the world as it was
pub performed-behind : (old mid new : WorldSeen) (slots between left : List (Option Registers)) (c d : ScriptCommand) (told : Result Book Memory)
    → c ≡ d → Stays old mid slots between
    → IfOk told (λ book. (w : ScriptWorld) → WorldStandsFor mid between w → Performs w d book new left)
    → IfOk told (λ book. (w : ScriptWorld) → WorldStandsFor old slots w → Performs w c book new left)
performed-behind old mid new slots between left c d (Err memory) is same done = tt
performed-behind old mid new slots between left c d (Ok book) is same done = λ w stands.
    subst (λ (x : ScriptCommand). Performs w x book new left) (sym is) (done w (world-stays old mid slots between w same stands))
