use Rattle.rfnoc_cli.proofs.WordLemmas.{parsed, unparsed}
use Rattle.rfnoc_cli.proofs.words.number_of.Goals as goal

pub returns-in-Ok : goal.returns-in-Ok
returns-in-Ok c = parsed c.args.text.now c.in-Ok.port c.requires.first c.in-Ok.ensures.value.0

pub returns-in-Err : goal.returns-in-Err
returns-in-Err c = unparsed c.args.text.now c.requires.first c.requires.digits c.in-Err.ensures.value.0
