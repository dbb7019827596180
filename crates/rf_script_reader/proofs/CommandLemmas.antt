-- A fault of one command is that of the whole list.
use Rattle.std.proofs.Common.{◌≡◌, ◌≢◌, ℕ, suc, ◌<◌, List, ◌∷◌, length, get_or, drop, Some, sym, ap, ◌∙◌, subst}
use Rattle.std.proofs.Math.Seq.{drop-cons}
use Rattle.std.specs.Prelude.{Result, Ok, Err}
use Rattle.rf_script_types.specs.declared.command.ScriptCommand.{ScriptCommand}
use Rattle.rf_script_types.specs.declared.fault.ScriptFault.{ScriptFault}
use Rattle.rf_script_types.specs.declared.fault.ScriptFault.TheVariants as fault
use Rattle.rf_script_parts.specs.declared.wrong.Wrong.{Wrong}
use Rattle.rf_script_parts.specs.Value.{IsFault}
use Rattle.rf_script_reader.specs.declared.commands.SoFar.{SoFar}
use Rattle.rf_script_reader.specs.Commands.{more, told, commands_from}
use Rattle.serde_json.specs.Data.{Data, Items, item}
use Rattle.serde_json.specs.View.{view, items_view}
use Rattle.serde_json.specs.declared.value.Value.{Value}

command-stops : (before : SoFar) (d : Data) (ds : Items) (whole : Result (List ScriptCommand) ScriptFault) (wrong : Wrong) (f : ScriptFault)
    → commands_from before (item d ds) ≡ whole → (IsFault wrong → more before d ≡ Err wrong)
    → (f ≢ fault.Memory → f ≡ told (Some (length before.list)) wrong) → f ≢ fault.Memory → whole ≡ Err f
command-stops before d ds whole wrong f reads stops is h =
    let e = is h in
    let faulty : IsFault wrong = λ m. h (e ∙ ap (told (Some (length before.list))) m) in
    sym reads ∙ rw (stops faulty) (ap Err (sym e))

-- the fault of the command at place i
pub list-stops : (before : SoFar) (vs : List Value) (i : ℕ) (v : Value) (n : ℕ) (whole : Result (List ScriptCommand) ScriptFault) (wrong : Wrong) (f : ScriptFault)
    → i < length vs → v ≡ get_or vs i v → commands_from before (items_view (drop i vs)) ≡ whole → n ≡ length before.list
    → (IsFault wrong → more before (view v) ≡ Err wrong) → (f ≢ fault.Memory → f ≡ told (Some n) wrong) → f ≢ fault.Memory → whole ≡ Err f
list-stops before vs i v n whole wrong f inside here reads count stops is =
    let next : drop i vs ≡ v ∷ drop (suc i) vs = drop-cons vs i v inside ∙ ap (λ x. x ∷ drop (suc i) vs) (sym here) in
    let told_here : f ≢ fault.Memory → f ≡ told (Some (length before.list)) wrong = λ h. is h ∙ ap (λ k. told (Some k) wrong) count in
    command-stops before (view v) (items_view (drop (suc i) vs)) whole wrong f (ap (λ xs. commands_from before (items_view xs)) (sym next) ∙ reads) stops told_here
