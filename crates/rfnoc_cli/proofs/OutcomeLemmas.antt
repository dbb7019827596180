-- What a form that reads a capture leaves, by what its call promises.
use Rattle.std.proofs.Common.{◌≡◌, ◌⊎◌, inl, inr, ℕ, List, [], refl, sym, subst, append-nil}
use Rattle.std.specs.Prelude.{Option, None, Some, IfSome}
use Rattle.rf_outside.specs.Bytes.{Adds, AddsPrefix}
use Rattle.capture_tool.specs.Outcome.{Told}
use Rattle.capture_tool.specs.Text.{checked}
use Rattle.rfnoc_cli.specs.Outcome.{IsCheckOutcome}

adds_none : (old : Option (List ℕ)) → Adds old old []
adds_none None = tt
adds_none (Some xs) = sym (append-nil xs)

-- where nothing was written, a prefix of any bytes was
unwritten : (old new : Option (List ℕ)) (bytes : List ℕ) → new ≡ old → AddsPrefix old new bytes
unwritten old new bytes is = (
  bytes,
  record {
    front = [];
    splits = refl;
    added = subst (λ (n : Option (List ℕ)). Adds old n []) (sym is) (adds_none old);
  },
)

all_unwritten : (left old new : Option (List ℕ)) → new ≡ old → IfSome left (λ bytes. AddsPrefix old new (checked bytes))
all_unwritten None old new is = tt
all_unwritten (Some bytes) old new is = unwritten old new (checked bytes) is

prefixes : (left old new : Option (List ℕ)) (status : ℕ) → ((status ≡ 3) ⊎ (status ≡ 5) → new ≡ old) →
    (status ≡ 4 → IfSome left (λ bytes. AddsPrefix old new (checked bytes))) →
    (status ≡ 3) ⊎ (status ≡ 4) ⊎ (status ≡ 5) → IfSome left (λ bytes. AddsPrefix old new (checked bytes))
prefixes left old new status silent prefix (inl read) = all_unwritten left old new (silent (inl read))
prefixes left old new status silent prefix (inr (inl write)) = prefix write
prefixes left old new status silent prefix (inr (inr memory)) = all_unwritten left old new (silent (inr memory))

pub check_outcome : (left old new : Option (List ℕ)) (status : ℕ) →
    (status ≡ 0) ⊎ (status ≡ 3) ⊎ (status ≡ 4) ⊎ (status ≡ 5) ⊎ (status ≡ 7) →
    ((status ≡ 0) ⊎ (status ≡ 7) → IfSome left (λ bytes. Told checked bytes status old new)) →
    ((status ≡ 3) ⊎ (status ≡ 5) → new ≡ old) →
    (status ≡ 4 → IfSome left (λ bytes. AddsPrefix old new (checked bytes))) →
    IsCheckOutcome left old new status
check_outcome left old new status known told silent prefix = record {
  capture = record { known = known; told = told; prefix = prefixes left old new status silent prefix };
  silent = silent;
}
