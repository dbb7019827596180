use Rattle.block_registers.proofs.CallLemmas.{answers_go_on}
use Rattle.block_registers.proofs.law.later_answers_follow_earlier_requests.Goals as goal

pub returns : goal.returns
returns c = answers_go_on
