-- What a command says of its blocks, its ports, its acts and its lines.
use Rattle.std.specs.Prelude.{Bool, false, List, [], Option, None, Some}
use Rattle.chdr_words.specs.declared.epid.Epid.{Epid}
use Rattle.block_library.specs.declared.kind.BlockKind.{BlockKind}
use Rattle.graph_core.specs.declared.place.PortAt.{PortAt}
use Rattle.graph_core.specs.declared.place.Side.{Side}
use Rattle.graph_core.specs.declared.place.Side.TheVariants.{Into, Out}
use Rattle.rf_script_types.specs.declared.act.Act.{Act}
use Rattle.rf_script_types.specs.declared.command.ScriptCommand.{ScriptCommand}
use Rattle.rf_script_types.specs.declared.command.ScriptCommand.TheVariants as command

-- what is for inputs, or what is for outputs
abbrev pub pick : {X : Type 0} → Side → X → X → X
pick Into input output = input
pick Out input output = output

-- of a block command its kind, and its EPIDs on a side
abbrev pub kind_of : ScriptCommand → Option BlockKind
kind_of (command.Block kind ins outs packets time) = Some kind
kind_of _ = None

abbrev pub epids_of : Side → ScriptCommand → List Epid
epids_of side (command.Block kind ins outs packets time) = pick side ins outs
epids_of side _ = []

-- of a connect command the input, or the output
abbrev pub port_of : Side → ScriptCommand → Option PortAt
port_of side (command.Connect from to flow start policy) = Some (pick side to from)
port_of side _ = None

-- the run's events are told
abbrev pub is_traced : ScriptCommand → Bool
is_traced (command.Run seed trace peak lose) = trace
is_traced _ = false

-- the run's peaks are told
abbrev pub is_peaked : ScriptCommand → Bool
is_peaked (command.Run seed trace peak lose) = peak
is_peaked (command.Twin cut peak lose) = peak
is_peaked (command.Duplex host acts seed peak lose) = peak
is_peaked _ = false

-- the acts of a duplex
abbrev pub acts_of : ScriptCommand → List Act
acts_of (command.Duplex host acts seed peak lose) = acts
acts_of _ = []
