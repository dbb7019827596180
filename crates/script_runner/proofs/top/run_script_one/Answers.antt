use Rattle.std.proofs.Common.{◌≢◌, List, ℕ, arith, inl, inr, subst}
use Rattle.std.specs.Prelude.{Err, Result}
use Rattle.rf_script_fits.proofs.Laws.{answer_fits}
use Rattle.rf_script_reader.specs.Read.{IsScriptOf}
use Rattle.rf_script_types.specs.declared.command.Script.{Script}
use Rattle.rf_script_types.specs.declared.fault.ScriptFault.{ScriptFault}
use Rattle.rf_script_types.specs.declared.fault.ScriptFault.TheVariants.{Memory}
use Rattle.script_runner.proofs.Reading.{fault-outcome, is-faulty, never}
use Rattle.script_runner.proofs.top.run_script_one.Goals as goal

pub perform_script-requires-clause-fits : goal.perform_script-requires-clause-fits
perform_script-requires-clause-fits g c = answer_fits c.as_slice.result.now c.in-Ok-read_script.script
    (subst (λ (r : Result Script ScriptFault). r ≢ Err Memory → IsScriptOf c.as_slice.result.now r) c.in-Ok-read_script.is c.read_script.ensures)

pub returns : goal.returns
returns g c =
    let told = c.tell_fault-in-Err.ensures in
    let status = c.tell_fault-in-Err.result in
    let left = g.S.Source.left c.args.src.now in
    let read = subst (λ (r : Result Script ScriptFault). r ≢ Err Memory → IsScriptOf c.as_slice.result.now r) c.in-Err.is c.read_script.ensures in
    record {
      read = λ s. never status 3 told.known s (omega arith);
      write = told.failed;
      ended = λ s. elim s [ inl a ↦ never status 0 told.known a (omega arith) | inr b ↦ never status 1 told.known b (omega arith) ];
      outcome = rw c.new.ensures (fault-outcome left g.K.Sink.written c.args.out.now c.tell_fault-in-Err.new.out (g.B.RegisterSlots.slots c.args.banks.now)
          c.in-Err.fault status told.known told.memory
          (λ other. is-faulty left (g.S.Source.left c.read_all.new.src) c.in-Ok.bytes c.in-Err.fault c.in-Ok.ensures.whole c.in-Ok.ensures.ended
          (subst (λ (bs : List ℕ). IsScriptOf bs (Err c.in-Err.fault)) c.as_slice.ensures (read other)))
          told.told told.torn told.silent);
    }
