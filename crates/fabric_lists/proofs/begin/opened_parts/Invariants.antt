use Rattle.std.proofs.Common.{◌≡◌, ℕ}
use Rattle.std.specs.Prelude.{map}
use Rattle.std.specs.List.{range_with_len}
use Rattle.net_machine.specs.Plans.{plan_at}
use Rattle.fabric_lists.specs.Opened.{is_tx_stream, opened_now}
use Rattle.fabric_lists.specs.StreamsView.{now_in, plan_in, tx_in}
use Rattle.fabric_lists.proofs.begin.opened_parts.Given as goal

-- the first streams are opened
abbrev pub invariant-loop-s : goal.invariant-loop-s
invariant-loop-s l = record {
  plans : map plan_in l.streams.items ≡ map (plan_at l.plan) (range_with_len 0 l.s);
  txs : map tx_in l.streams.items ≡ map (is_tx_stream l.plan) (range_with_len 0 l.s);
  now : map now_in l.streams.items ≡ map (λ (s : ℕ). opened_now l.plan (plan_at l.plan s)) (range_with_len 0 l.s);
}
