use Rattle.script_runner.proofs.Laws.{scripts_drain}
use Rattle.script_runner.proofs.law.scripts_drain.Goals as goal

pub returns : goal.returns
returns c = scripts_drain
