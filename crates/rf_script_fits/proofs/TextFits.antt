-- What bytes are read as fits.
use Rattle.std.proofs.Common.{◌≡◌, ◌≢◌, ℕ, ◌<◌, ◌≤◌, List, length, Bool, true, false, Option, None, Some, refl, sym, arith, inl, inr}
use Rattle.std.proofs.lemmas.Str.{is_utf8-from_IsUtf8, IsUtf8-from_is_utf8}
use Rattle.std.proofs.lemmas.Bool.Decides.{nat_tests}
use Rattle.std.specs.Prelude.{◌⊎◌, Result, Ok, Err, nat_lt}
use Rattle.std.specs.Str.{IsUtf8, is_utf8}
use Rattle.rf_script_types.specs.declared.command.Script.{Script}
use Rattle.rf_script_types.specs.declared.fault.ScriptFault.{ScriptFault}
use Rattle.rf_script_types.specs.declared.fault.ScriptFault.TheVariants.{TooLong, Syntax, Memory}
use Rattle.rf_script_types.specs.Fits.{FitsScript}
use Rattle.rf_script_reader.specs.Commands.{script_of}
use Rattle.rf_script_reader.specs.Read.{IsScriptOf, script_limit}
use Rattle.serde_json.specs.Data.{Data}
use Rattle.serde_json.specs.Read.{read}
use Rattle.rf_script_fits.proofs.ScriptFits.{script-fits}

no_script : (s : Script) (f : ScriptFault) → Ok s ≡ Err f → ⊥
no_script s f e = cc

not_utf8 : (text : List ℕ) → is_utf8 text ≡ false → IsUtf8 text → ⊥
not_utf8 text e u = let t : is_utf8 text ≡ true = is_utf8-from_IsUtf8 text u in cc

is_long : (n m : ℕ) → nat_lt n m ≡ true → n < m
is_long n m h = grind (arith, nat_tests)

is_short : (n m : ℕ) → nat_lt n m ≡ false → m ≤ n
is_short n m h = grind (arith, nat_tests)

-- whatever the three tests tell
by_tests : (text : List ℕ) (s : Script) → IsScriptOf text (Ok s) → (long : Bool) → nat_lt script_limit (length text) ≡ long → (utf8 : Bool) → is_utf8 text ≡ utf8
    → (value : Option Data) → read text ≡ value → FitsScript s
by_tests text s h true l utf8 u value r = absurd (no_script s TooLong (h.long (is_long script_limit (length text) l)))
by_tests text s h false l false u value r = absurd (no_script s Syntax (h.syntax (is_short script_limit (length text) l) (inl (not_utf8 text u))))
by_tests text s h false l true u None r = absurd (no_script s Syntax (h.syntax (is_short script_limit (length text) l) (inr r)))
by_tests text s h false l true u (Some d) r = script-fits d s (sym (h.value d (is_short script_limit (length text) l) (IsUtf8-from_is_utf8 text u) r))

pub text_fits : (text : List ℕ) (s : Script) → IsScriptOf text (Ok s) → FitsScript s
text_fits text s h = by_tests text s h (nat_lt script_limit (length text)) refl (is_utf8 text) refl (read text) refl

-- the same of an answer that is exact unless memory ran out
pub answer_fits : (text : List ℕ) (s : Script) → (Ok s ≢ Err Memory → IsScriptOf text (Ok s)) → FitsScript s
answer_fits text s h = text_fits text s (h (λ e. no_script s Memory e))
