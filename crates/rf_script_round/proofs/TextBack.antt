-- What a text of a script is read as.
use Rattle.std.proofs.Common.{◌≡◌, ℕ, ◌≤◌, List, length, None, Some, sym, ◌∙◌, subst, arith, inl, inr}
use Rattle.std.specs.Prelude.{◌⊎◌, Ok}
use Rattle.std.specs.Str.{IsUtf8}
use Rattle.rf_script_types.specs.declared.command.Script.{Script}
use Rattle.rf_script_types.specs.CommandText.{script_text}
use Rattle.rf_script_types.specs.Fits.{FitsScript}
use Rattle.rf_script_reader.specs.Commands.{script_of}
use Rattle.rf_script_reader.specs.Read.{IsScriptOf, script_limit}
use Rattle.rf_script_round.specs.Back.{IsReadAs}
use Rattle.serde_json.specs.Data.{Data}
use Rattle.serde_json.specs.Read.{read}
use Rattle.rf_script_round.proofs.ScriptBack.{script-back}

no_reading : (text : List ℕ) (d : Data) → IsUtf8 text → read text ≡ Some d → (¬ IsUtf8 text) ⊎ (read text ≡ None) → ⊥
no_reading text d u r (inl other) = other u
no_reading text d u r (inr none) = cc

same_value : (text : List ℕ) (s : Script) (d : Data) → FitsScript s → read text ≡ Some (script_text s) → read text ≡ Some d → script_of d ≡ Ok s
same_value text s d h r is = let same : script_text s ≡ d = cc in subst (λ (x : Data). script_of x ≡ Ok s) same (script-back s h)

is_script : (s : Script) (text : List ℕ) → FitsScript s → length text ≤ script_limit → IsUtf8 text → read text ≡ Some (script_text s) → IsScriptOf text (Ok s)
is_script s text h few u r = record {
  long = λ above. absurd (omega arith);
  syntax = λ within other. absurd (no_reading text (script_text s) u r other);
  value = λ d within utf8 is. sym (same_value text s d h r is);
}

pub text_back : (s : Script) (text : List ℕ) → FitsScript s → length text ≤ script_limit → IsUtf8 text → read text ≡ Some (script_text s) → IsReadAs text s
text_back s text h few u r = record {
  is = is_script s text h few u r;
  only = λ result q. q.value (script_text s) few u r ∙ script-back s h;
}
