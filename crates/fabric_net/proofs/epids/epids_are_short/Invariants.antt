use Rattle.std.proofs.Common.{◌≡◌, ◌<◌, ◌^◌, ℕ}
use Rattle.std.specs.Prelude.{Some}
use Rattle.chdr_words.specs.declared.epid.Epid.{Epid}
use Rattle.net_topology.specs.Tree.{epid_at}
use Rattle.fabric_net.proofs.epids.epids_are_short.Given as goal

-- those of the first nodes do
abbrev pub invariant-loop-node : goal.invariant-loop-node
invariant-loop-node l = (x : ℕ) (epid : Epid) → x < l.node-index → epid_at l.nodes x ≡ Some epid → epid.0 < 2 ^ 16
