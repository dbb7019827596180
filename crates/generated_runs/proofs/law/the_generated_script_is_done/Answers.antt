use Rattle.generated_runs.proofs.law.the_generated_script_is_done.Goals as goal
use Rattle.generated_runs.proofs.Laws.{generated_is_done, generated_succeeds}

pub returns-clause-refused : goal.returns-clause-refused
returns-clause-refused c = generated_is_done

pub returns-clause-status : goal.returns-clause-status
returns-clause-status c = generated_succeeds
