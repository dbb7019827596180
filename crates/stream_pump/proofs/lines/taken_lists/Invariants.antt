use Rattle.std.proofs.Common.{◌≡◌, ℕ, ◌≤◌, length, map, vec_len}
use Rattle.net_machine.specs.Plans.{is_rx}
use Rattle.stream_pump.specs.Telling.{drained_by}
use Rattle.stream_pump.proofs.Rows.{blocks_below}
use Rattle.stream_pump.proofs.lines.taken_lists.Given as goal

-- the lists of the blocks so far are moved out, and those of the others stay
abbrev pub invariant-loop-b : goal.invariant-loop-b
invariant-loop-b l = record {
  many : vec_len l.drains ≡ length l.plan.streams;
  taken : l.taken ≡ map (drained_by l.plan l.initial.drains.items) (blocks_below is_rx l.plan l.b);
  others : (c : ℕ) → l.b ≤ c → drained_by l.plan l.drains.items c ≡ drained_by l.plan l.initial.drains.items c;
}
