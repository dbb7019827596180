-- A script, as it is read, fits.
use Rattle.std.proofs.Common.{◌≡◌, ℕ, zero, suc, ◌+◌, ◌≤◌, ◌==◌, List, [], ◌∷◌, ◌++◌, length, Bool, true, false, cond, Option, None, Some, refl, subst, arith, inl, inr}
use Rattle.std.proofs.lemmas.Bool.Decides.{nat_tests}
use Rattle.std.specs.Prelude.{◌⊎◌, Result, Ok, Err, IfSome, is_some, nat_le}
use Rattle.rf_script_types.specs.declared.command.Script.{Script}
use Rattle.rf_script_types.specs.declared.command.ScriptCommand.{ScriptCommand}
use Rattle.rf_script_types.specs.declared.fault.ScriptFault.{ScriptFault}
use Rattle.rf_script_types.specs.declared.field.Field.TheVariants as field
use Rattle.rf_script_types.specs.declared.fault.Why.TheVariants as why
use Rattle.rf_script_types.specs.declared.table.TheConstants.{RFNOC}
use Rattle.rf_script_types.specs.declared.words.Verb.{Verb}
use Rattle.rf_script_types.specs.declared.words.Verb.TheVariants as verb_is
use Rattle.rf_script_types.specs.Fits.{IsIn, Each, FitsCommand, FitsScript}
use Rattle.rf_script_types.specs.Limits.{command_limit}
use Rattle.rf_script_types.specs.Words.{verb_of}
use Rattle.rf_script_parts.specs.declared.wrong.Wrong.{Wrong}
use Rattle.rf_script_parts.specs.declared.scope.Named.{Named}
use Rattle.rf_script_parts.specs.declared.scope.ReadCommand.{ReadCommand}
use Rattle.rf_script_parts.specs.declared.scope.Scope.{Scope}
use Rattle.rf_script_parts.specs.Others.{only}
use Rattle.rf_script_parts.specs.Value.{bad, typed, listed, required, number}
use Rattle.rf_script_reader.specs.declared.commands.SoFar.{SoFar}
use Rattle.rf_script_reader.specs.Block.{block}
use Rattle.rf_script_reader.specs.Connect.{connect, set, commit}
use Rattle.rf_script_reader.specs.Control.{discover, route, control, unload}
use Rattle.rf_script_reader.specs.Run.{run, twin, duplex}
use Rattle.rf_script_reader.specs.Commands.{allowed, verb_there, verb, unnamed, plain, command_of, names_after, with_command, more, told, then_told, commands_from, at_first, commands, items_within, command_items, version_of, script_from, script_of}
use Rattle.serde_json.specs.Data.{Data, Items, no_items, item}
use Rattle.serde_json.specs.Events.{items_len}
use Rattle.serde_json.specs.Find.{as_array, as_object}
use Rattle.rf_script_fits.proofs.Gives.{Gives, good, faulty, weaker, bind, pass, passed, each-append}
use Rattle.rf_script_fits.proofs.ValueFits.{listed-fits, number-fits}
use Rattle.rf_script_fits.proofs.EndFits.{NamesFit}
use Rattle.rf_script_fits.proofs.EntryFits.{one_more}
use Rattle.rf_script_fits.proofs.BlockFits.{block-fits}
use Rattle.rf_script_fits.proofs.CommandFits.{ReadFits, net-fits, discover-fits, route-fits, control-fits, unload-fits, connect-fits, set-fits, commit-fits, run-fits, twin-fits, duplex-fits}

-- only version 2 has two of the verbs
abbrev IsAllowed : ℕ → Verb → Type 0
IsAllowed version verb_is.Net = Unit {0}
IsAllowed version verb_is.Discover = Unit {0}
IsAllowed version verb_is.Route = Unit {0}
IsAllowed version verb_is.Control = Unit {0}
IsAllowed version verb_is.Unload = Unit {0}
IsAllowed version verb_is.Block = Unit {0}
IsAllowed version verb_is.Connect = Unit {0}
IsAllowed version verb_is.Set = Unit {0}
IsAllowed version verb_is.Commit = Unit {0}
IsAllowed version verb_is.Run = Unit {0}
IsAllowed version verb_is.Twin = version ≡ 2
IsAllowed version verb_is.Duplex = version ≡ 2

is_two : (version : ℕ) → (version == 2) ≡ true → version ≡ 2
is_two version h = grind (arith, nat_tests)

if_two : (b : Bool) (v : Verb) (P : Verb → Type 0) → (b ≡ true → P v) → IfSome (cond b (Some v) None) P
if_two true v P h = h refl
if_two false v P h = tt

allowed-fits : (version : ℕ) (o : Option Verb) → IfSome (allowed version o) (IsAllowed version)
allowed-fits version None = tt
allowed-fits version (Some verb_is.Net) = tt
allowed-fits version (Some verb_is.Discover) = tt
allowed-fits version (Some verb_is.Route) = tt
allowed-fits version (Some verb_is.Control) = tt
allowed-fits version (Some verb_is.Unload) = tt
allowed-fits version (Some verb_is.Block) = tt
allowed-fits version (Some verb_is.Connect) = tt
allowed-fits version (Some verb_is.Set) = tt
allowed-fits version (Some verb_is.Commit) = tt
allowed-fits version (Some verb_is.Run) = tt
allowed-fits version (Some verb_is.Twin) = if_two (version == 2) verb_is.Twin (IsAllowed version) (is_two version)
allowed-fits version (Some verb_is.Duplex) = if_two (version == 2) verb_is.Duplex (IsAllowed version) (is_two version)

verb_there-fits : (version : ℕ) (d : Data) → Gives (verb_there version d) (IsAllowed version)
verb_there-fits version d = pass (required field.Do field.Do d) _ (IsAllowed version) λ v. pass _ _ (IsAllowed version)
    λ found. listed-fits field.Do (allowed version found) (IsAllowed version) (allowed-fits version found)

verb-fits : (version : ℕ) (d : Data) → Gives (verb version d) (IsAllowed version)
unfolding verb
verb-fits version d = passed (is_some (as_object d)) (verb_there version d) (bad field.Whole why.WrongType) (IsAllowed version) (λ e. verb_there-fits version d)

plain-fits : (version : ℕ) (made : Result ScriptCommand Wrong) → Gives made (FitsCommand version) → Gives (plain made) (ReadFits version)
plain-fits version made h = bind made _ (FitsCommand version) (ReadFits version) h (λ c k. good (ReadFits version) (unnamed c) (k, tt))

command_of-fits : (scope : Scope) (d : Data) (v : Verb) → NamesFit scope.names → IsAllowed scope.version v → Gives (command_of scope d v) (ReadFits scope.version)
command_of-fits scope d verb_is.Net names h = net-fits scope.version d
command_of-fits scope d verb_is.Discover names h = plain-fits scope.version (discover scope d) (discover-fits scope d names)
command_of-fits scope d verb_is.Route names h = plain-fits scope.version (route scope d) (route-fits scope d names)
command_of-fits scope d verb_is.Control names h = plain-fits scope.version (control scope d) (control-fits scope d names)
command_of-fits scope d verb_is.Unload names h = plain-fits scope.version (unload d) (unload-fits scope.version d)
command_of-fits scope d verb_is.Block names h = plain-fits scope.version (block scope d) (block-fits scope.version scope d names)
command_of-fits scope d verb_is.Connect names h = plain-fits scope.version (connect d) (connect-fits scope.version d)
command_of-fits scope d verb_is.Set names h = plain-fits scope.version (set d) (set-fits scope.version d)
command_of-fits scope d verb_is.Commit names h = plain-fits scope.version (commit d) (commit-fits scope.version d)
command_of-fits scope d verb_is.Run names h = plain-fits scope.version (run scope.version d) (run-fits scope.version d)
command_of-fits scope d verb_is.Twin names h = plain-fits scope.version (twin scope.version d) (twin-fits scope.version d h)
command_of-fits scope d verb_is.Duplex names h = plain-fits scope.version (duplex scope.version d) (duplex-fits scope.version d h)

record CommandsLeft (version total : ℕ) (ds : Items) (s : SoFar) : Type 0 where
  version_is : s.scope.version ≡ version
  names : NamesFit s.scope.names
  each : Each (FitsCommand version) s.list
  count : length s.list + items_len ds ≡ total

names_after-fit : (before : List Named) (o : Option (List Named)) → NamesFit before → IfSome o NamesFit → NamesFit (names_after before o)
names_after-fit before None h k = h
names_after-fit before (Some names) h k = k

more-fits : (version total : ℕ) (d : Data) (ds : Items) (s : SoFar) → CommandsLeft version total (item d ds) s → Gives (more s d) (CommandsLeft version total ds)
unfolding more
more-fits version total d ds s h = let P = CommandsLeft version total ds in
    bind (verb s.scope.version d) _ (IsAllowed s.scope.version) P (verb-fits s.scope.version d) λ v a.
    bind (command_of s.scope d v) _ (ReadFits s.scope.version) P (command_of-fits s.scope d v h.names a) λ read k.
    good P (with_command s read) (record {
      version_is = h.version_is;
      names = names_after-fit s.scope.names read.names h.names k.1;
      each = each-append (FitsCommand version) s.list read.command h.each (subst (λ (n : ℕ). FitsCommand n read.command) h.version_is k.0);
      count = one_more s.list read.command (items_len ds) total h.count;
    })

told-bind : {A B : Type 0} (command : Option ℕ) (first : Result A Wrong) (f : A → Result B ScriptFault) (Q : A → Type 0) (P : B → Type 0) → Gives first Q
    → ((a : A) → Q a → Gives (f a) P) → Gives (then_told command first f) P
told-bind command (Ok a) f Q P h k = k a (h.of a refl)
told-bind command (Err e) f Q P h k = faulty P (told command e)

told-pass : {A B : Type 0} (command : Option ℕ) (first : Result A Wrong) (f : A → Result B ScriptFault) (P : B → Type 0) → ((a : A) → Gives (f a) P)
    → Gives (then_told command first f) P
told-pass command (Ok a) f P k = k a
told-pass command (Err e) f P k = faulty P (told command e)

abbrev CommandsFit : ℕ → ℕ → List ScriptCommand → Type 0
CommandsFit version total list = (length list ≡ total) × Each (FitsCommand version) list

commands_from-fit : (version total : ℕ) (ds : Items) (s : SoFar) → CommandsLeft version total ds s → Gives (commands_from s ds) (CommandsFit version total)
commands_from-fit version total no_items s h = good (CommandsFit version total) s.list (omega (arith, h.count), h.each)
commands_from-fit version total (item d ds) s h = told-bind (Some (length s.list)) (more s d) (λ t. commands_from t ds) (CommandsLeft version total ds) (CommandsFit version total)
    (more-fits version total d ds s h) (λ t k. commands_from-fit version total ds t k)

commands-fit : (version : ℕ) (ds : Items) → Gives (commands version ds) (CommandsFit version (items_len ds))
unfolding commands
commands-fit version ds = commands_from-fit version (items_len ds) ds (at_first version) (record { version_is = refl; names = tt; each = tt; count = omega arith })

one_or_two : (n : ℕ) → IsIn RFNOC n → (n ≡ 1) ⊎ (n ≡ 2)
one_or_two zero h = absurd (omega (arith, h.0))
one_or_two (suc zero) h = inl refl
one_or_two (suc (suc zero)) h = inr refl
one_or_two (suc (suc (suc n))) h = absurd (omega (arith, h.1))

version-fits : (d : Data) → Gives (version_of d) (IsIn RFNOC)
unfolding version_of
version-fits d = passed (is_some (as_object d)) _ (bad field.Whole why.WrongType) (IsIn RFNOC)
    (λ e. bind (number RFNOC d) _ (IsIn RFNOC) (IsIn RFNOC) (number-fits RFNOC d tt) (λ n h. good (IsIn RFNOC) n h))

abbrev AreFew : ℕ → Items → Type 0
AreFew version ds = items_len ds ≤ command_limit version

few-are : (n limit : ℕ) → nat_le n limit ≡ true → n ≤ limit
few-are n limit h = grind (arith, nat_tests)

items_within-fit : (version : ℕ) (o : Option Items) → Gives (items_within version o) (AreFew version)
items_within-fit version None = faulty (AreFew version) _
items_within-fit version (Some ds) = passed (nat_le (items_len ds) (command_limit version)) (Ok ds) (bad field.Commands why.Range) (AreFew version)
    (λ e. good (AreFew version) ds (few-are (items_len ds) (command_limit version) e))

items-fit : (version : ℕ) (d : Data) → Gives (command_items version d) (AreFew version)
unfolding command_items
items-fit version d = pass (required field.Commands field.Commands d) _ (AreFew version) (λ v. items_within-fit version (as_array v))

script_from-fits : (version total : ℕ) (result : Result (List ScriptCommand) ScriptFault) → IsIn RFNOC version → total ≤ command_limit version
    → Gives result (CommandsFit version total) → Gives (script_from version result) FitsScript
script_from-fits version total (Err e) v few h = faulty FitsScript e
script_from-fits version total (Ok list) v few h = let k = h.of list refl in good FitsScript (record { version = version; commands = list })
    (record { version = one_or_two version v; few = omega (arith, k.0); commands = k.1 })

whole_script : (d : Data) → Gives (script_of d) FitsScript
unfolding script_of
whole_script d =
    told-bind None (version_of d) _ (IsIn RFNOC) FitsScript (version-fits d) λ version v.
    told-bind None (command_items version d) _ (AreFew version) FitsScript (items-fit version d) λ ds few.
    told-pass None (only (field.Rfnoc ∷ field.Commands ∷ []) d) _ FitsScript λ _.
    script_from-fits version (items_len ds) (commands version ds) v few (commands-fit version ds)

pub script-fits : (d : Data) (s : Script) → script_of d ≡ Ok s → FitsScript s
script-fits d s e = (whole_script d).of s e
