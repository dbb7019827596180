use Rattle.net_flows.proofs.Beginning.{begun_is_steady}
use Rattle.net_flows.proofs.law.each_stream_begins_as_a_run.Goals as goal

pub returns : goal.returns
returns c = begun_is_steady
