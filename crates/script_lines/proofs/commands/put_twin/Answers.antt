use Rattle.std.proofs.Common.{◌++◌}
use Rattle.std.specs.Prelude.{codes, decimal}
use Rattle.script_lines.proofs.TextLemmas.{two_texts}
use Rattle.script_lines.proofs.commands.put_twin.Goals as goal

pub returns-clause-text : goal.returns-clause-text
returns-clause-text c =
    two_texts c.args.page.now c.put_field.new.self c.put_pair.new.self (codes "twin streams " ++ decimal c.args.streams)
    (codes " nodes " ++ (decimal c.args.first ++ (codes " " ++ decimal c.args.second))) c.put_field.ensures.text c.put_pair.ensures.text
