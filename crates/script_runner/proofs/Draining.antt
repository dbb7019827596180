-- In scripts that lose nothing, or resynchronise, all streams drain.
use Rattle.std.proofs.Common.{◌≡◌, ℕ, ◌+◌, ◌-◌, ◌^◌, Bool, List, [], ◌∷◌, ◌++◌, length, map, min, refl, sym, ◌∙◌, ap, subst, arith, ◌⊎◌, inl, inr}
use Rattle.std.specs.Prelude.{Option, None, Some, sum_by}
use Rattle.std.specs.List.{AllByRecursion, range_with_len}
use Rattle.std.proofs.lemmas.List.Sums.{sum_by-cons}
use Rattle.block_registers.specs.Registers.{Registers}
use Rattle.chdr_words.specs.declared.control.Control.{Control}
use Rattle.chdr_words.specs.declared.epid.Epid.{Epid}
use Rattle.net_machine.specs.Begin.{begun}
use Rattle.net_machine.specs.State.{State}
use Rattle.net_machine.specs.declared.plan.StreamPlan.{StreamPlan}
use Rattle.net_machine.specs.declared.tally.StreamEnd.{StreamEnd}
use Rattle.net_machine.specs.declared.tally.StreamEnd.TheVariants.{Drained}
use Rattle.net_runs.specs.Lossless.{IsAuto}
use Rattle.rf_script_types.specs.declared.command.ScriptCommand.{ScriptCommand}
use Rattle.rf_script_types.specs.declared.command.ScriptCommand.TheVariants as command
use Rattle.run_books.specs.declared.book.RunBook.{RunBook}
use Rattle.run_books.specs.Books.{IsBookOf as IsRunBookOf, each_stream}
use Rattle.script_books.specs.Counts.{ends_of, undrained_end, undrained_of}
use Rattle.script_books.specs.declared.book.Book.{Book}
use Rattle.script_books.specs.declared.book.Book.TheVariants as book
use Rattle.script_books.specs.declared.refusal.Refusal.{Refusal}
use Rattle.script_worlds.specs.Books.{IsBook}
use Rattle.script_worlds.specs.Causes.{IsBlockCause, IsCommitCause, IsConnectCause, IsNetCause, IsSetCause, IsUnloadCause}
use Rattle.script_worlds.specs.Worlds.{IsAfterCommit, IsNext, Setup, block_of, plan_of, unless_refused}
use Rattle.net_faults.specs.declared.fault.Fault.{Fault}
use Rattle.stream_pump.proofs.Laws.{books_lose_only_what_is_named, books_without_losses_are_plain, chosen_books_are_books, resynchronising_books_drain}
use Rattle.walk_books.specs.declared.found.FoundNode.{FoundNode}
use Rattle.script_runner.specs.Controls.{IsControlBook, IsControlled, control_of}
use Rattle.script_runner.specs.Discoveries.{IsWalked}
use Rattle.script_runner.specs.Draining.{NamesNothing, Resynchronises, ScriptsDrain}
use Rattle.script_runner.specs.Performed.{ArePerformed, IsDone, IsLeft, IsOneThread, IsRunBook, IsRunDone, plan_in}
use Rattle.script_runner.specs.Routes.{IsRouting, nodes_of}
use Rattle.script_runner.specs.ScriptWorlds.{ScriptWorld, first_world, state_in}
use Rattle.script_runner.specs.Talks.{TalksOn}

-- ---- books without a run

abbrev pub HasNoEnds : Book → Type 0
HasNoEnds told = ends_of told ≡ []

quiet-none : (cause : Option Refusal → Type 0) (done told : Book) → HasNoEnds done → IsBook cause done told → HasNoEnds told
quiet-none cause done (book.Refused why) none is = refl
quiet-none cause done book.Net none is = ap ends_of is.1 ∙ none
quiet-none cause done (book.Discover found) none is = ap ends_of is.1 ∙ none
quiet-none cause done (book.Route nodes) none is = ap ends_of is.1 ∙ none
quiet-none cause done (book.Control answer) none is = ap ends_of is.1 ∙ none
quiet-none cause done book.Unload none is = ap ends_of is.1 ∙ none
quiet-none cause done (book.Block number) none is = ap ends_of is.1 ∙ none
quiet-none cause done (book.Connect number) none is = ap ends_of is.1 ∙ none
quiet-none cause done book.Set none is = ap ends_of is.1 ∙ none
quiet-none cause done book.Commit none is = ap ends_of is.1 ∙ none
quiet-none cause done (book.Run run) none is = ap ends_of is.1 ∙ none
quiet-none cause done (book.Twin twin) none is = ap ends_of is.1 ∙ none
quiet-none cause done (book.Duplex duplex) none is = ap ends_of is.1 ∙ none

left-none : (world : ScriptWorld) (told : Book) (left : Option State) → IsLeft world told left → HasNoEnds told
left-none world told left is = ap ends_of is.0

-- of a command by which a host talks
talk-none : (Tells : State → Book → State → Type 0) (o : Option State) (told : Book) (left : Option State)
    → ((w end : State) → Tells w told end → HasNoEnds told) → TalksOn Tells o told left → HasNoEnds told
talk-none Tells None told left none is = ap ends_of is.0
talk-none Tells (Some w) told left none is = none w is.0 is.1.0

control-none : (dst : Epid) (request : Control) (lose : List Fault) (w : State) (told : Book) (end : State)
    → IsControlBook dst request lose w told → HasNoEnds told
control-none dst request lose w (book.Refused why) end is = refl
control-none dst request lose w book.Net end is = absurd is
control-none dst request lose w (book.Discover found) end is = absurd is
control-none dst request lose w (book.Route nodes) end is = absurd is
control-none dst request lose w (book.Control ack) end is = refl
control-none dst request lose w book.Unload end is = absurd is
control-none dst request lose w (book.Block number) end is = absurd is
control-none dst request lose w (book.Connect number) end is = absurd is
control-none dst request lose w book.Set end is = absurd is
control-none dst request lose w book.Commit end is = absurd is
control-none dst request lose w (book.Run run) end is = absurd is
control-none dst request lose w (book.Twin twin) end is = absurd is
control-none dst request lose w (book.Duplex duplex) end is = absurd is

walk-none : (host : Epid) (lose : List Fault) (w : State) (told : Book) (end : State) → IsWalked host lose w told end → HasNoEnds told
walk-none host lose w (book.Refused why) end is = refl
walk-none host lose w book.Net end is = absurd is
walk-none host lose w (book.Discover found) end is = refl
walk-none host lose w (book.Route nodes) end is = absurd is
walk-none host lose w (book.Control ack) end is = absurd is
walk-none host lose w book.Unload end is = absurd is
walk-none host lose w (book.Block number) end is = absurd is
walk-none host lose w (book.Connect number) end is = absurd is
walk-none host lose w book.Set end is = absurd is
walk-none host lose w book.Commit end is = absurd is
walk-none host lose w (book.Run run) end is = absurd is
walk-none host lose w (book.Twin twin) end is = absurd is
walk-none host lose w (book.Duplex duplex) end is = absurd is

route-none : (nodes : List FoundNode) (host a b : Epid) (lose : List Fault) (w : State) (told : Book) (end : State)
    → IsRouting nodes host a b lose w told end → HasNoEnds told
route-none nodes host a b lose w (book.Refused why) end is = refl
route-none nodes host a b lose w book.Net end is = absurd is
route-none nodes host a b lose w (book.Discover found) end is = absurd is
route-none nodes host a b lose w (book.Route count) end is = refl
route-none nodes host a b lose w (book.Control ack) end is = absurd is
route-none nodes host a b lose w book.Unload end is = absurd is
route-none nodes host a b lose w (book.Block number) end is = absurd is
route-none nodes host a b lose w (book.Connect number) end is = absurd is
route-none nodes host a b lose w book.Set end is = absurd is
route-none nodes host a b lose w book.Commit end is = absurd is
route-none nodes host a b lose w (book.Run run) end is = absurd is
route-none nodes host a b lose w (book.Twin twin) end is = absurd is
route-none nodes host a b lose w (book.Duplex duplex) end is = absurd is

-- ---- runs

none-undrained : (told : Book) → HasNoEnds told → undrained_of told ≡ 0
none-undrained told none = ap (λ (ends : List StreamEnd). sum_by undrained_end ends) none

all-drained : (ns : List ℕ) → sum_by undrained_end (map (λ (n : ℕ). Drained) ns) ≡ 0
all-drained [] = refl
all-drained (n ∷ ns) = all-drained ns

-- a run names nothing, or all streams of the world resynchronise
abbrev IsGentle : ScriptWorld → List Fault → Type 0
IsGentle world lose = (lose ≡ []) ⊎ AllByRecursion IsAuto world.setup.layout.streams

book-of : (world : ScriptWorld) (seed : ℕ) (lose : List Fault) (run : RunBook) (done : IsRunDone world seed lose run)
    → IsRunBookOf (begun (plan_in world lose) done.state) run
book-of world seed lose run done = chosen_books_are_books seed (plan_in world lose) done.state run done.can done.chosen

ends-drained : (world : ScriptWorld) (seed : ℕ) (lose : List Fault) (run : RunBook) → IsRunDone world seed lose run → IsGentle world lose
    → run.ends ≡ each_stream (λ s. Drained) (plan_in world lose)
ends-drained world seed lose run done (inl none) =
    let is = book-of world seed lose run done in
    (books_without_losses_are_plain (plan_in world lose) done.state run done.can is
    (books_lose_only_what_is_named (plan_in world lose) done.state run done.can is none)).ends
ends-drained world seed lose run done (inr autos) =
    resynchronising_books_drain (plan_in world lose) done.state run done.can (book-of world seed lose run done) autos

run-drains : (world : ScriptWorld) (seed : ℕ) (lose : List Fault) (run : RunBook) → IsRunDone world seed lose run → IsGentle world lose
    → sum_by undrained_end run.ends ≡ 0
run-drains world seed lose run done gentle =
    ap (λ (es : List StreamEnd). sum_by undrained_end es) (ends-drained world seed lose run done gentle)
    ∙ all-drained (range_with_len 0 (length (plan_in world lose).streams))

run-none : (world : ScriptWorld) (seed : ℕ) (lose : List Fault) (told : Book) → IsRunBook world seed lose told → IsGentle world lose → undrained_of told ≡ 0
run-none world seed lose (book.Refused why) is gentle = refl
run-none world seed lose (book.Run run) is gentle = run-drains world seed lose run is gentle
run-none world seed lose book.Net is gentle = absurd is
run-none world seed lose (book.Discover found) is gentle = absurd is
run-none world seed lose (book.Route nodes) is gentle = absurd is
run-none world seed lose (book.Control ack) is gentle = absurd is
run-none world seed lose book.Unload is gentle = absurd is
run-none world seed lose (book.Block number) is gentle = absurd is
run-none world seed lose (book.Connect number) is gentle = absurd is
run-none world seed lose book.Set is gentle = absurd is
run-none world seed lose book.Commit is gentle = absurd is
run-none world seed lose (book.Twin twin) is gentle = absurd is
run-none world seed lose (book.Duplex duplex) is gentle = absurd is

-- ---- commands, one after another

-- the command of a world leaves no stream of its book undrained, if its run is gentle
command-drains : (world : ScriptWorld) (c : ScriptCommand) (told : Book) (left : Option State) → IsDone world c told left
    → ((seed : ℕ) (trace peak : Bool) (lose : List Fault) → c ≡ command.Run seed trace peak lose → IsGentle world lose) → undrained_of told ≡ 0
command-drains world (command.Net nodes links room routed limit) told left is gentle =
    none-undrained told (quiet-none (IsNetCause (plan_of nodes links room limit)) book.Net told refl is.0)
command-drains world (command.Discover host lose) told left is gentle =
    none-undrained told (talk-none (IsWalked host lose) (state_in world) told left (λ w end. walk-none host lose w told end) is)
command-drains world (command.Route host from to lose) told left is gentle =
    none-undrained told (talk-none (IsRouting (nodes_of world.setup.found) host from to lose) (state_in world) told left
    (λ w end. route-none (nodes_of world.setup.found) host from to lose w told end) is)
command-drains world (command.Control host to port op addr words enables lose) told left is gentle =
    none-undrained told (talk-none (IsControlled to (control_of host port op addr words enables) lose) (state_in world) told left
    (λ w end own. control-none to (control_of host port op addr words enables) lose w told end own.book) is)
command-drains world (command.Unload port) told left is gentle =
    none-undrained told (quiet-none (IsUnloadCause world.banks port) book.Unload told refl is.0)
command-drains world (command.Block kind ins outs packets time) told left is gentle =
    none-undrained told (quiet-none (IsBlockCause world.setup (block_of kind ins outs packets time))
    (book.Block (length world.setup.layout.blocks)) told refl is.0)
command-drains world (command.Connect from to flow start policy) told left is gentle =
    none-undrained told (quiet-none (IsConnectCause world.setup from to) (book.Connect (length world.setup.layout.streams)) told refl is.0)
command-drains world (command.Set at value) told left is gentle =
    none-undrained told (quiet-none (IsSetCause world.setup at) book.Set told refl is.0)
command-drains world command.Commit told left is gentle =
    none-undrained told (quiet-none (IsCommitCause world.setup) book.Commit told refl is.0)
command-drains world (command.Run seed trace peak lose) told left is gentle =
    run-none world seed lose told is.0 (gentle seed trace peak lose refl)
command-drains world (command.Twin cut peak lose) told left is gentle = none-undrained told (left-none world told left is)
command-drains world (command.Duplex host acts seed peak lose) told left is gentle = none-undrained told (left-none world told left is)

sums : (n m : ℕ) → n ≡ 0 → m ≡ 0 → n + m ≡ 0
sums n m first rest = omega (arith, first, rest)

-- where runs name nothing
lossless : (world last : ScriptWorld) (cs : List ScriptCommand) (bs : List Book) → ArePerformed world cs bs last → AllByRecursion NamesNothing cs
    → sum_by undrained_of bs ≡ 0
unfolding ArePerformed
lossless world last [] [] done none = refl
lossless world last (c ∷ cs) (b ∷ bs) done none =
    sum_by-cons undrained_of b bs ∙ sums (undrained_of b) (sum_by undrained_of bs)
    (command-drains world c b done.0.machine done.1.0.done (λ seed trace peak lose is. inl (subst NamesNothing is none.0)))
    (lossless done.0 last cs bs done.1.1 none.1)
lossless world last [] (b ∷ bs) done none = absurd done
lossless world last (c ∷ cs) [] done none = absurd done

-- where streams resynchronise, those of the next world do too
abbrev AllAuto : Setup → Type 0
AllAuto setup = AllByRecursion IsAuto setup.layout.streams

more : (streams : List StreamPlan) (s : StreamPlan) → AllByRecursion IsAuto streams → IsAuto s → AllByRecursion IsAuto (streams ++ s ∷ [])
more [] s each here = (here, tt)
more (t ∷ streams) s each here = (each.0, more streams s each.1 here)

-- whatever the book: what was there, or what is there if the command was done
either : (P : Setup → Type 0) (told : Book) (old done : Setup) → P old → P done → P (unless_refused told old done)
either P (book.Refused why) old done was is = was
either P book.Net old done was is = is
either P (book.Discover found) old done was is = is
either P (book.Route nodes) old done was is = is
either P (book.Control answer) old done was is = is
either P book.Unload old done was is = is
either P (book.Block number) old done was is = is
either P (book.Connect number) old done was is = is
either P book.Set old done was is = is
either P book.Commit old done was is = is
either P (book.Run run) old done was is = is
either P (book.Twin twin) old done was is = is
either P (book.Duplex duplex) old done was is = is

committed-auto : (told : Book) (old new : Setup) → IsAfterCommit told old new → AllAuto old → AllAuto new
committed-auto (book.Refused why) old new is autos = subst AllAuto (sym is) autos
committed-auto book.Net old new is autos = subst AllAuto (sym is.changed) autos
committed-auto (book.Discover found) old new is autos = subst AllAuto (sym is.changed) autos
committed-auto (book.Route nodes) old new is autos = subst AllAuto (sym is.changed) autos
committed-auto (book.Control answer) old new is autos = subst AllAuto (sym is.changed) autos
committed-auto book.Unload old new is autos = subst AllAuto (sym is.changed) autos
committed-auto (book.Block number) old new is autos = subst AllAuto (sym is.changed) autos
committed-auto (book.Connect number) old new is autos = subst AllAuto (sym is.changed) autos
committed-auto book.Set old new is autos = subst AllAuto (sym is.changed) autos
committed-auto book.Commit old new is autos = subst AllAuto (sym is.changed) autos
committed-auto (book.Run run) old new is autos = subst AllAuto (sym is.changed) autos
committed-auto (book.Twin twin) old new is autos = subst AllAuto (sym is.changed) autos
committed-auto (book.Duplex duplex) old new is autos = subst AllAuto (sym is.changed) autos

next-auto : (c : ScriptCommand) (told : Book) (old new : Setup) → IsNext old c told new → Resynchronises c → AllAuto old → AllAuto new
next-auto (command.Net nodes links room routed limit) told old new is auto autos = subst AllAuto (sym is) (either AllAuto told old _ autos tt)
next-auto (command.Discover host lose) told old new is auto autos = subst AllAuto (sym is) autos
next-auto (command.Route host from to lose) told old new is auto autos = subst AllAuto (sym is) autos
next-auto (command.Control host to port op addr words enables lose) told old new is auto autos = subst AllAuto (sym is) autos
next-auto (command.Unload port) told old new is auto autos = subst AllAuto (sym is) autos
next-auto (command.Block kind ins outs packets time) told old new is auto autos = subst AllAuto (sym is) (either AllAuto told old _ autos autos)
next-auto (command.Connect from to flow start policy) told old new is auto autos =
    subst AllAuto (sym is) (either AllAuto told old _ autos (more old.layout.streams _ autos auto))
next-auto (command.Set at value) told old new is auto autos = subst AllAuto (sym is) (either AllAuto told old _ autos autos)
next-auto command.Commit told old new is auto autos = committed-auto told old new is autos
next-auto (command.Run seed trace peak lose) told old new is auto autos = subst AllAuto (sym is) autos
next-auto (command.Twin cut peak lose) told old new is auto autos = subst AllAuto (sym is) autos
next-auto (command.Duplex host acts seed peak lose) told old new is auto autos = subst AllAuto (sym is) autos

resynchronising : (world last : ScriptWorld) (cs : List ScriptCommand) (bs : List Book) → ArePerformed world cs bs last → AllByRecursion Resynchronises cs
    → AllAuto world.setup → sum_by undrained_of bs ≡ 0
unfolding ArePerformed
resynchronising world last [] [] done autos held = refl
resynchronising world last (c ∷ cs) (b ∷ bs) done autos held =
    sum_by-cons undrained_of b bs ∙ sums (undrained_of b) (sum_by undrained_of bs)
    (command-drains world c b done.0.machine done.1.0.done (λ seed trace peak lose is. inr held))
    (resynchronising done.0 last cs bs done.1.1 autos.1 (next-auto c b world.setup done.0.setup done.1.0.setup autos.0 held))
resynchronising world last [] (b ∷ bs) done autos held = absurd done
resynchronising world last (c ∷ cs) [] done autos held = absurd done

-- ---- scripts

none-left : (commands : List ScriptCommand) (books : List Book) (old new : List (Option Registers)) → IsOneThread commands books old new
    → AllByRecursion NamesNothing commands ⊎ AllByRecursion Resynchronises commands → sum_by undrained_of books ≡ 0
none-left commands books old new all (inl none) = lossless (first_world old) all.last commands books all.performed none
none-left commands books old new all (inr autos) = resynchronising (first_world old) all.last commands books all.performed autos tt

pub scripts-drain : ScriptsDrain
scripts-drain commands books old new all gentle = ap (λ (n : ℕ). min n (2 ^ 64 - 1)) (none-left commands books old new all gentle)
