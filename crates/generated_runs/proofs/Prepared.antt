-- What the blocks, streams and settings of the generated script set up on its network.
use Rattle.std.proofs.Common.{◌≡◌, ℕ, true, ◌&&◌, Bool, List, [], ◌∷◌, ◌++◌, refl}
use Rattle.graph_core.specs.Pairs.{with_value}
use Rattle.rf_script_types.specs.declared.command.ScriptCommand.{ScriptCommand}
use Rattle.script_worlds.specs.Worlds.{Setup, with_tree}
use Rattle.rf_script.specs.Generated.{chain_blocks, chain_settings, chain_streams}
use Rattle.generated_runs.proofs.Settled.{diagram}
use Rattle.generated_runs.proofs.Star.{star}
use Rattle.generated_runs.proofs.Steps.{may, next_of}

-- none of the commands is refused, one after another
abbrev pub all_may : Setup → List ScriptCommand → Bool
all_may old [] = true
all_may old (c ∷ cs) = may old c && all_may (next_of old c) cs

abbrev pub after_all : Setup → List ScriptCommand → Setup
after_all old [] = old
after_all old (c ∷ cs) = after_all (next_of old c) cs

-- the commands between the net and the commit
abbrev pub middle : ℕ → List ScriptCommand
middle n = chain_blocks 0 n ++ chain_blocks 1 n ++ chain_streams 0 ++ chain_streams 1 ++ chain_settings 0 ++ chain_settings 1

-- what is set up before the commit
abbrev pub ready : ℕ → Setup
ready n = after_all (with_tree star) (middle n)

pub middle-may : (n : ℕ) → all_may (with_tree star) (middle n) ≡ true
middle-may n = refl

pub ready-diagram : (n : ℕ) → (ready n).graph.diagram ≡ diagram
unfolding with_value
ready-diagram n = refl
