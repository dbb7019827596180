use Rattle.pcap_input.proofs.FileLemmas.{shows_files}
use Rattle.pcap_input.proofs.law.a_file_is_its_records.Goals as goal

pub returns : goal.returns
returns c = shows_files
