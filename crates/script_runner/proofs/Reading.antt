-- What was read as a script, or is none, and what telling its fault leaves.
use Rattle.std.proofs.Common.{◌≡◌, ℕ, ◌<◌, ◌⊎◌, inl, inr, List, [], ◌++◌, refl, sym, ◌∙◌, ap, subst, arith, append-nil}
use Rattle.std.specs.Prelude.{Option, None, Some, Result, Ok, Err}
use Rattle.std.specs.Io.KnownBytes.{Consumes, IsAtEnd}
use Rattle.block_registers.specs.Registers.{Registers}
use Rattle.rf_outside.specs.Bytes.{Adds, AddsPrefix}
use Rattle.rf_script_reader.specs.Read.{IsScriptOf}
use Rattle.rf_script_types.specs.declared.command.Script.{Script}
use Rattle.rf_script_types.specs.declared.fault.ScriptFault.{ScriptFault}
use Rattle.rf_script_types.specs.declared.fault.ScriptFault.TheVariants.{Memory}
use Rattle.script_runner.specs.FaultLines.{fault_line}
use Rattle.script_runner.specs.Outcome.{IsFaulty, IsRunOutcome}

abbrev pub the-result : ScriptFault → Result Script ScriptFault
the-result x = Err x

abbrev IsFive : ℕ → Type 0
IsFive n = n ≡ 5

abbrev Known : ℕ → Type 0
Known status = (status ≡ 4) ⊎ (status ≡ 5) ⊎ (status ≡ 6)

pub never : {P : Type 0} (status n : ℕ) → Known status → status ≡ n → n < 4 → P
never status n (inl e) is lt = absurd (omega (arith, e, is, lt))
never status n (inr (inl e)) is lt = absurd (omega (arith, e, is, lt))
never status n (inr (inr e)) is lt = absurd (omega (arith, e, is, lt))

-- what a source had left is none, if all of it was read and is none
pub is-faulty : (old new : Option (List ℕ)) (bytes : List ℕ) (fault : ScriptFault) → Consumes old new bytes → IsAtEnd new
    → IsScriptOf bytes (Err fault) → IsFaulty old fault
is-faulty None new bytes fault read end is = tt
is-faulty (Some left) None bytes fault read end is = absurd read
is-faulty (Some left) (Some rest) bytes fault read end is =
    let all : left ≡ bytes = read ∙ ap (λ (xs : List ℕ). bytes ++ xs) end ∙ append-nil bytes in
    subst (λ (xs : List ℕ). IsScriptOf xs (Err fault)) (sym all) is

pub fault-outcome : {K : Type 0} (left : Option (List ℕ)) (written : K → Option (List ℕ)) (before now : K) (slots : List (Option Registers))
    (fault : ScriptFault) (status : ℕ) → Known status → (fault ≡ Memory → status ≡ 5)
    → (((the-result fault ≡ the-result Memory) → ⊥) → IsFaulty left fault)
    → (status ≡ 6 → Adds (written before) (written now) (fault_line fault))
    → (status ≡ 4 → AddsPrefix (written before) (written now) (fault_line fault))
    → (status ≡ 5 → now ≡ before)
    → IsRunOutcome left written before now [] slots slots status
fault-outcome left written before now slots fault status known memory given told torn silent = record {
  known = all known;
  told = λ s. two s;
  unread = λ s. never status 3 known s (omega arith);
  torn = λ s. inr (record { fault = fault; given = given (λ e. other s four e); line = torn s; empty = refl; kept = refl });
  begun = λ s. (silent s, inl refl);
  refused = λ s. record { fault = fault; given = given (λ e. other s six e); line = told s; empty = refl; kept = refl };
}
  where
    all : Known status → (status ≡ 0) ⊎ (status ≡ 1) ⊎ (status ≡ 3) ⊎ (status ≡ 4) ⊎ (status ≡ 5) ⊎ (status ≡ 6)
    all (inl e) = inr (inr (inr (inl e)))
    all (inr (inl e)) = inr (inr (inr (inr (inl e))))
    all (inr (inr e)) = inr (inr (inr (inr (inr e))))

    two : {P : Type 0} → (status ≡ 0) ⊎ (status ≡ 1) → P
    two (inl e) = never status 0 known e (omega arith)
    two (inr e) = never status 1 known e (omega arith)

    four : IsFive 4 → ⊥
    four e = absurd (omega (arith, e))

    six : IsFive 6 → ⊥
    six e = absurd (omega (arith, e))

    fault-of : ScriptFault → Result Script ScriptFault → ScriptFault
    fault-of x (Ok script) = x
    fault-of x (Err y) = y

    fault-is : (x y : ScriptFault) → the-result x ≡ the-result y → x ≡ y
    fault-is x y e = ap (fault-of x) e

    other : {n : ℕ} → status ≡ n → (IsFive n → ⊥) → the-result fault ≡ the-result Memory → ⊥
    other s ne e = ne (sym s ∙ memory (fault-is fault Memory e))
