use Rattle.std.proofs.Common.{◌≡◌, ◌+◌, drop}
use Rattle.net_nodes.specs.Budget.{asked_by}
use Rattle.net_nodes.proofs.room.asks_at_most.Given as goal

-- the hops so far ask what is no longer left
abbrev pub invariant-loop-hop : goal.invariant-loop-hop
invariant-loop-hop l = asked_by l.hops + l.left ≡ l.fn.most + asked_by (drop l.hop-index l.hops)
