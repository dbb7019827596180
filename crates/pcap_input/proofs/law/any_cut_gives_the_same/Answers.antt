use Rattle.pcap_input.proofs.CutLemmas.{keeps_shown, same_cut}
use Rattle.pcap_input.proofs.law.any_cut_gives_the_same.Goals as goal

pub returns : goal.returns
returns c = record { shown = keeps_shown; same = same_cut }
