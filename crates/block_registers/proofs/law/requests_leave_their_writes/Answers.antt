use Rattle.block_registers.proofs.RequestLemmas.{writes_are_folded}
use Rattle.block_registers.proofs.law.requests_leave_their_writes.Goals as goal

pub returns : goal.returns
returns c = writes_are_folded
