-- Why a run doesn't begin, in the order in which the causes are looked at.
use Rattle.std.specs.Prelude.{◌≢◌, ℕ, ◌≤◌, List, length, Option, None, Some, IsSome}
use Rattle.net_machine.specs.CanBegin.{AreApart, EachBlock, EachStream, FitsRun, HasStreams, HaveOwnEnds, IsLed, NeverReturns, StandsAt, bound_of, from_of, input_at, output_at, size_of, to_of}
use Rattle.net_machine.specs.Plans.{consumer_of, plan_at, producer_of}
use Rattle.net_machine.specs.State.{Node}
use Rattle.net_machine.specs.declared.plan.RunPlan.{RunPlan}
use Rattle.net_topology.specs.declared.plan.Plan.{Plan}
use Rattle.run_plans.specs.Firsts.{IsLeastWithout}
use Rattle.run_plans.specs.declared.fault.RunRefusal.{RunRefusal}
use Rattle.run_plans.specs.declared.fault.RunRefusal.TheVariants.{OpenPort, Unrouted, TooBig, TooMuch}

-- what was seen to as blocks were placed and ports connected: all that a run needs but what is tested as it begins
pub record IsLaidOut (tree : Plan) (plan : RunPlan) : Type 0 where
  pub fits : FitsRun plan
  pub few_blocks : length plan.blocks ≤ 32
  pub endpoints : EachBlock plan (StandsAt tree plan)
  pub endpoints_free : AreApart (input_at plan) × AreApart (output_at plan)
  pub few_streams : length plan.streams ≤ 16
  pub ports : EachStream plan (λ s. IsSome (producer_of plan s) × IsSome (consumer_of plan s))
  pub ports_free : HaveOwnEnds plan (from_of plan) × HaveOwnEnds plan (to_of plan)
  pub acyclic : EachStream plan (NeverReturns plan)
  pub no_loops : EachStream plan (λ s. from_of plan s ≢ to_of plan s)

-- no packet of stream s is too big for its flow
abbrev pub IsSmall : RunPlan → ℕ → Type 0
IsSmall plan s = size_of plan s ≤ (plan_at plan s).flow.max

-- stream s doesn't have too many packets
abbrev pub IsShort : RunPlan → ℕ → Type 0
IsShort plan s = bound_of plan s ≤ 16384

-- block b is the first with a port without a stream
abbrev pub IsOpenAt : RunPlan → ℕ → Type 0
IsOpenAt plan b = IsLeastWithout (HasStreams plan) (length plan.blocks) b

-- each port has a stream, and stream s is the first that isn't led both ways
pub record IsUnroutedAt (tree : Plan) (nodes : List Node) (plan : RunPlan) (s : ℕ) : Type 0 where
  pub no_open_ports : EachBlock plan (HasStreams plan)
  pub first : IsLeastWithout (IsLed tree nodes plan) (length plan.streams) s

-- besides, each stream is led, and stream s is the first that has a packet above its flow's max
pub record IsTooBigAt (tree : Plan) (nodes : List Node) (plan : RunPlan) (s : ℕ) : Type 0 where
  pub no_open_ports : EachBlock plan (HasStreams plan)
  pub routed : EachStream plan (IsLed tree nodes plan)
  pub first : IsLeastWithout (IsSmall plan) (length plan.streams) s

-- besides, no packet is too big, and stream s is the first that may have too many
pub record IsTooMuchAt (tree : Plan) (nodes : List Node) (plan : RunPlan) (s : ℕ) : Type 0 where
  pub no_open_ports : EachBlock plan (HasStreams plan)
  pub routed : EachStream plan (IsLed tree nodes plan)
  pub small : EachStream plan (IsSmall plan)
  pub first : IsLeastWithout (IsShort plan) (length plan.streams) s

-- none of the causes holds
pub record HasNoCause (tree : Plan) (nodes : List Node) (plan : RunPlan) : Type 0 where
  pub no_open_ports : EachBlock plan (HasStreams plan)
  pub routed : EachStream plan (IsLed tree nodes plan)
  pub small : EachStream plan (IsSmall plan)
  pub short : EachStream plan (IsShort plan)

-- the cause of a refusal, or none if no cause holds
abbrev pub IsRunRefusal : Plan → List Node → RunPlan → Option RunRefusal → Type 0
IsRunRefusal tree nodes plan None = HasNoCause tree nodes plan
IsRunRefusal tree nodes plan (Some (OpenPort b)) = IsOpenAt plan b
IsRunRefusal tree nodes plan (Some (Unrouted s)) = IsUnroutedAt tree nodes plan s
IsRunRefusal tree nodes plan (Some (TooBig s)) = IsTooBigAt tree nodes plan s
IsRunRefusal tree nodes plan (Some (TooMuch s)) = IsTooMuchAt tree nodes plan s
