use Rattle.std.proofs.Common.{◌++◌}
use Rattle.std.specs.Prelude.{codes, decimal}
use Rattle.rf_script_types.specs.Words.{side_name}
use Rattle.script_lines.proofs.TextLemmas.{three_texts}
use Rattle.script_lines.proofs.refusal_text.put_side_of.Goals as goal

pub returns-clause-text : goal.returns-clause-text
returns-clause-text c =
    three_texts c.args.page.now c.put_field.new.self c.put.new.self c.put_side.new.page (codes "Unsettled block " ++ decimal c.args.block)
    (codes " ") (side_name c.args.side) c.put_field.ensures.text c.put.ensures.text c.put_side.ensures.text
