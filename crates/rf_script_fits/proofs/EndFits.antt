-- The endpoints that are read have EPIDs.
use Rattle.std.proofs.Common.{◌≡◌, ℕ, zero, suc, ◌≤◌, ◌==◌, List, [], ◌∷◌, length, Bool, true, false, cond, Option, None, Some, refl, arith}
use Rattle.std.specs.Prelude.{Result, Ok, Err, IfSome}
use Rattle.std.specs.Str.{bytes_eq}
use Rattle.chdr_words.specs.declared.epid.Epid.{Epid}
use Rattle.rf_script_types.specs.declared.field.Field.{Field}
use Rattle.rf_script_types.specs.declared.table.Number.{Number}
use Rattle.rf_script_types.specs.Fits.{IsIn, Each, FitsEnds}
use Rattle.rf_script_parts.specs.declared.scope.Named.{Named}
use Rattle.rf_script_parts.specs.declared.scope.Scope.{Scope}
use Rattle.rf_script_parts.specs.Scope.{epid_named, or_no_name, of_name, numbered, named_or_numbered, endpoint, endpoint_field, number_field, check_end, end_there, end_at, one_end, two_ends, ends_in, ends}
use Rattle.rf_script_parts.specs.Value.{required, whole, ranged, sized}
use Rattle.serde_json.specs.Data.{Data}
use Rattle.serde_json.specs.Find.{at, as_str}
use Rattle.rf_script_fits.proofs.Gives.{Gives, good, faulty, weaker, bind, pass, after, either}
use Rattle.rf_script_fits.proofs.ValueFits.{ranged-fits}

abbrev pub IsEpid : Epid → Type 0
IsEpid e = (1 ≤ e.0) × (e.0 ≤ 65535)

abbrev pub NamesAnEpid : Named → Type 0
NamesAnEpid named = IsEpid named.epid

abbrev pub NamesFit : List Named → Type 0
NamesFit names = Each NamesAnEpid names

-- the range of an EPID
abbrev pub IsOfEpids : Number → Type 0
IsOfEpids range = (range.low ≡ 1) × (range.high ≡ 65535)

abbrev pub EndIn : Number → Epid → Type 0
EndIn range e = IsIn range e.0

pub some_either : {A : Type 0} (b : Bool) (x y : Option A) (P : A → Type 0) → IfSome x P → IfSome y P → IfSome (cond b x y) P
some_either true x y P h k = h
some_either false x y P h k = k

epid_named-fits : (names : List Named) (name : List ℕ) → NamesFit names → IfSome (epid_named names name) IsEpid
epid_named-fits [] name h = tt
epid_named-fits (known ∷ names) name h =
    some_either (bytes_eq known.name name) (Some known.epid) (epid_named names name) IsEpid h.0 (epid_named-fits names name h.1)

or_no_name-fits : (told : Field) (o : Option Epid) → IfSome o IsEpid → Gives (or_no_name told o) IsEpid
or_no_name-fits told None h = faulty IsEpid _
or_no_name-fits told (Some e) h = good IsEpid e h

in_range : (range : Number) (e : Epid) → IsOfEpids range → IsEpid e → EndIn range e
in_range range e r h = (omega arith, omega arith)

of_name-fits : (told : Field) (scope : Scope) (name : List ℕ) (range : Number) → NamesFit scope.names → IsOfEpids range → Gives (of_name told scope name) (EndIn range)
of_name-fits told scope name range names r =
    weaker (of_name told scope name) IsEpid (EndIn range) (or_no_name-fits told (epid_named scope.names name) (epid_named-fits scope.names name names)) (λ e h. in_range range e r h)

numbered-fits : (range : Number) (d : Data) → Gives (numbered range d) (EndIn range)
numbered-fits range d = pass (whole range.told d) _ (EndIn range)
    (λ m. bind (ranged range m) _ (IsIn range) (EndIn range) (ranged-fits range m) (λ n h. good (EndIn range) (record { 0 = n }) h))

named-fits : (scope : Scope) (range : Number) (d : Data) (o : Option (List ℕ)) → NamesFit scope.names → IsOfEpids range → Gives (named_or_numbered scope range d o) (EndIn range)
named-fits scope range d None names r = numbered-fits range d
named-fits scope range d (Some name) names r = of_name-fits range.told scope name range names r

pub endpoint-fits : (scope : Scope) (range : Number) (d : Data) → NamesFit scope.names → IsOfEpids range → Gives (endpoint scope range d) (EndIn range)
unfolding endpoint
endpoint-fits scope range d names r = either (scope.version == 2) (named_or_numbered scope range d (as_str d)) (numbered range d) (EndIn range)
    (named-fits scope range d (as_str d) names r) (numbered-fits range d)

pub endpoint_field-fits : (scope : Scope) (range : Number) (d : Data) → NamesFit scope.names → IsOfEpids range → Gives (endpoint_field scope range d) (EndIn range)
unfolding endpoint_field
endpoint_field-fits scope range d names r = pass (required range.key range.told d) (endpoint scope range) (EndIn range) (λ v. endpoint-fits scope range v names r)

pub number_field-fits : (range : Number) (d : Data) → Gives (number_field range d) (EndIn range)
unfolding number_field
number_field-fits range d = pass (required range.key range.told d) (numbered range) (EndIn range) (numbered-fits range)

end_there-fits : (scope : Scope) (range : Number) (o : Option Data) → NamesFit scope.names → IsOfEpids range → Gives (end_there scope range o) (EndIn range)
end_there-fits scope range None names r = faulty (EndIn range) _
end_there-fits scope range (Some d) names r = endpoint-fits scope range d names r

end_at-fits : (scope : Scope) (range : Number) (i : ℕ) (d : Data) → NamesFit scope.names → IsOfEpids range → Gives (end_at scope range i d) (EndIn range)
unfolding end_at
end_at-fits scope range i d names r = end_there-fits scope range (at i d) names r

one_end-fits : (scope : Scope) (range : Number) (d : Data) → NamesFit scope.names → IsOfEpids range → Gives (one_end scope range d) (FitsEnds range 1)
unfolding one_end
one_end-fits scope range d names r = after (sized range.told 1 d) _ (FitsEnds range 1) (bind (end_at scope range 0 d) _ (EndIn range) (FitsEnds range 1)
    (end_at-fits scope range 0 d names r) (λ e h. good (FitsEnds range 1) (e ∷ []) (refl, (h, tt))))

two_ends-fits : (scope : Scope) (range : Number) (d : Data) → NamesFit scope.names → IsOfEpids range → Gives (two_ends scope range d) (FitsEnds range 2)
unfolding two_ends
two_ends-fits scope range d names r = after (sized range.told 2 d) _ (FitsEnds range 2) (after (check_end range.told scope.version 0 d) _ (FitsEnds range 2)
    (after (check_end range.told scope.version 1 d) _ (FitsEnds range 2) (bind (end_at scope range 0 d) _ (EndIn range) (FitsEnds range 2) (end_at-fits scope range 0 d names r)
    (λ e h. bind (end_at scope range 1 d) _ (EndIn range) (FitsEnds range 2) (end_at-fits scope range 1 d names r)
    (λ f k. good (FitsEnds range 2) (e ∷ f ∷ []) (refl, (h, (k, tt))))))))

pub ends-fit : (scope : Scope) (range : Number) (count : ℕ) (d : Data) → NamesFit scope.names → IsOfEpids range → count ≤ 2 → Gives (ends scope range count d) (FitsEnds range count)
unfolding ends
ends-fit scope range zero d names r few = good (FitsEnds range 0) [] (refl, tt)
ends-fit scope range (suc zero) d names r few = pass (required range.key range.told d) (ends_in scope range 1) (FitsEnds range 1) (λ v. one_end-fits scope range v names r)
ends-fit scope range (suc (suc zero)) d names r few = pass (required range.key range.told d) (ends_in scope range 2) (FitsEnds range 2) (λ v. two_ends-fits scope range v names r)
ends-fit scope range (suc (suc (suc n))) d names r few = absurd (omega arith)
