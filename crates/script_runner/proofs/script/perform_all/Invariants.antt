use Rattle.std.proofs.Common.{take}
use Rattle.script_runner.specs.Performed.{ArePerformed}
use Rattle.script_runner.specs.ScriptWorlds.{ScriptWorld, first_world}
use Rattle.script_runner.specs.Standing.{WorldStandsFor}
use Rattle.script_runner.proofs.script.perform_all.Given as goal

-- the books are those of the commands so far, and leave a world for which the program's stands
abbrev pub invariant-loop-command : goal.invariant-loop-command
invariant-loop-command g l = (w : ScriptWorld) × (ArePerformed (first_world (g.B.RegisterSlots.slots l.fn.banks)) (take l.command-index l.commands) l.books w
    × WorldStandsFor l.world (g.B.RegisterSlots.slots l.banks) w)
