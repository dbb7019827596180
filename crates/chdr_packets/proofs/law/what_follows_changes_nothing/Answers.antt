use Rattle.chdr_packets.proofs.Laws.{read_stands, fault_stands}
use Rattle.chdr_packets.proofs.law.what_follows_changes_nothing.Goals as goal

pub returns : goal.returns
returns c = record { packet = read_stands; fault = fault_stands }
