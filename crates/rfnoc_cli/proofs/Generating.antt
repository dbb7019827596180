-- What is left where a generated script wasn't performed.
use Rattle.std.proofs.Common.{◌≡◌, ◌∙◌, ◌⊎◌, inl, inr, ℕ, List, [], arith, refl}
use Rattle.std.specs.Prelude.{Option}
use Rattle.block_registers.specs.Registers.{Registers}
use Rattle.rf_script_types.specs.declared.command.ScriptCommand.{ScriptCommand}
use Rattle.script_runner.specs.Performed.{ArePerformed, IsOneThreadSoFar}
use Rattle.script_runner.specs.ScriptWorlds.{first_world}

-- no command was performed
pub none_so_far : (commands : List ScriptCommand) (slots : List (Option Registers)) → IsOneThreadSoFar commands []
unfolding ArePerformed
none_so_far commands slots = record {
  done = [];
  rest = commands;
  are = refl;
  old = slots;
  last = first_world slots;
  performed = refl;
}

-- status 5 is neither 0 nor 4
pub not_performed : {P : Type 0} (status : ℕ) → status ≡ 5 → (status ≡ 0) ⊎ (status ≡ 4) → P
not_performed status five (inl e) = absurd (omega (arith, five, e))
not_performed status five (inr e) = absurd (omega (arith, five, e))

-- what the performing of a script gives at 0, 1 and 4, where its books tell 0: then the status isn't 1
pub known_whole : (status told : ℕ) → (status ≡ 0) ⊎ (status ≡ 1) ⊎ (status ≡ 4) ⊎ (status ≡ 5)
    → ((status ≡ 0) ⊎ (status ≡ 1) → status ≡ told) → ((status ≡ 0) ⊎ (status ≡ 1) ⊎ (status ≡ 4) → told ≡ 0)
    → (status ≡ 0) ⊎ (status ≡ 4) ⊎ (status ≡ 5)
known_whole status told (inl e) tells whole = inl e
known_whole status told (inr (inl e)) tells whole = inl (tells (inr e) ∙ whole (inr (inl e)))
known_whole status told (inr (inr (inl e))) tells whole = inr (inl e)
known_whole status told (inr (inr (inr e))) tells whole = inr (inr e)

pub at_each : (status : ℕ) → (status ≡ 0) ⊎ (status ≡ 4) → (status ≡ 0) ⊎ (status ≡ 1) ⊎ (status ≡ 4)
at_each status (inl e) = inl e
at_each status (inr e) = inr (inr e)
