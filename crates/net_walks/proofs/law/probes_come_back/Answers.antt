use Rattle.net_walks.proofs.Laws.{bare_ports_send_back, probes_come_back}
use Rattle.net_walks.proofs.law.probes_come_back.Goals as goal

pub returns-clause-probes : goal.returns-clause-probes
returns-clause-probes c = probes_come_back

pub returns-clause-bare : goal.returns-clause-bare
returns-clause-bare c = bare_ports_send_back
