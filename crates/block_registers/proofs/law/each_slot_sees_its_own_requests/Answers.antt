use Rattle.block_registers.proofs.CallLemmas.{each_slot_sees_its_own}
use Rattle.block_registers.proofs.law.each_slot_sees_its_own_requests.Goals as goal

pub returns : goal.returns
returns c = each_slot_sees_its_own
