-- What lasts of a plan that can run: all but that tables lead.
use Rattle.std.specs.Prelude.{◌≢◌, ◌≤◌, IsSome, length}
use Rattle.net_topology.specs.declared.plan.Plan.{Plan}
use Rattle.net_machine.specs.declared.plan.RunPlan.{RunPlan}
use Rattle.net_machine.specs.CanBegin.{AreApart, EachBlock, EachStream, FitsRun, HasStreams, HaveOwnEnds, NeverReturns, StandsAt, bound_of, from_of, input_at, output_at, size_of, to_of}
use Rattle.net_machine.specs.Plans.{consumer_of, plan_at, producer_of}

-- the parts of `CanBegin` that no table changes
pub record IsSound (tree : Plan) (plan : RunPlan) : Type 0 where
  pub fits : FitsRun plan
  pub few_blocks : length plan.blocks ≤ 32
  pub endpoints : EachBlock plan (StandsAt tree plan)
  pub endpoints_free : AreApart (input_at plan) × AreApart (output_at plan)
  pub few_streams : length plan.streams ≤ 16
  pub ports : EachStream plan (λ s. IsSome (producer_of plan s) × IsSome (consumer_of plan s))
  pub ports_free : HaveOwnEnds plan (from_of plan) × HaveOwnEnds plan (to_of plan)
  pub acyclic : EachStream plan (NeverReturns plan)
  pub no_loops : EachStream plan (λ s. from_of plan s ≢ to_of plan s)
  pub no_open_ports : EachBlock plan (HasStreams plan)
  pub small : EachStream plan (λ s. size_of plan s ≤ (plan_at plan s).flow.max)
  pub few_packets : EachStream plan (λ s. bound_of plan s ≤ 16384)
