use Rattle.std.proofs.Common.{◌≡◌}
use Rattle.std.specs.Prelude.{map}
use Rattle.net_machine.specs.Plans.{no_block}
use Rattle.fabric_lists.specs.Opened.{is_fed}
use Rattle.fabric_lists.proofs.FilledLemmas.{filled}
use Rattle.fabric_lists.proofs.begin.fed_blocks.Given as goal

-- the flags of the first blocks are set
abbrev pub invariant-loop-b : goal.invariant-loop-b
invariant-loop-b l = l.flags ≡ map is_fed (filled l.plan.blocks l.b no_block)
