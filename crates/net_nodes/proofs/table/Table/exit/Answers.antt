use Rattle.std.proofs.Common.{sym}
use Rattle.net_nodes.proofs.TableLemmas.{exit_found, exit_of-none}
use Rattle.net_nodes.proofs.table.Table.exit.Goals as goal

pub returns-in-Some : goal.returns-in-Some
returns-in-Some c =
    exit_found c.args.self.now c.as_slice.result.now c.args.epid c.in-Some.at (cc) c.in-Some.ensures

pub returns-in-None : goal.returns-in-None
returns-in-None c = sym (exit_of-none c.args.self.now c.args.epid c.in-None.ensures)
