-- A network of two hosts and a crossbar, a run on it, and how one thread performs it.
use Rattle.std.specs.Prelude.{◌≡◌, ℕ, zero, suc, true, List, [], ◌∷◌, None, Some}
use Rattle.std.specs.Option.{option_map_or}
use Rattle.block_library.specs.declared.line.Line.{Line}
use Rattle.block_library.specs.declared.kind.BlockKind.TheVariants.{Tx, Rx}
use Rattle.chdr_words.specs.declared.epid.Epid.{Epid}
use Rattle.net_topology.specs.declared.plan.NodePlan.TheVariants.{Crossbar, Host}
use Rattle.net_topology.specs.declared.plan.Plan.{Plan}
use Rattle.net_faults.specs.declared.fault.Fault.{Fault}
use Rattle.stream_endpoint.specs.declared.flow.Flow.{Flow}
use Rattle.stream_endpoint.specs.declared.flow.Policy.{Policy}
use Rattle.net_machine.specs.declared.plan.BlockPlan.{BlockPlan}
use Rattle.net_machine.specs.declared.plan.RunPlan.{RunPlan}
use Rattle.net_machine.specs.declared.plan.StreamPlan.{StreamPlan}
use Rattle.net_machine.specs.declared.tally.StreamEnd.{StreamEnd}
use Rattle.net_machine.specs.Begin.{begun, built}
use Rattle.net_machine.specs.Choice.{next_of}
use Rattle.net_machine.specs.Effects.{after}
use Rattle.net_machine.specs.State.{State}
use Rattle.net_machine.specs.Tallies.{end_of, tally_of}

abbrev pub epid : ℕ → Epid
epid n = record { 0 = n }

-- the flow of a stream for which nothing else is said
abbrev pub usual : Flow
usual = record { cap_bytes = 65536; cap_packets = 32; freq_bytes = 8192; freq_packets = 4; max = 8192 }

-- a stream from EPID 1 to EPID 2
abbrev pub stream : Flow → ℕ → Policy → StreamPlan
stream flow start policy = record { from = epid 1; to = epid 2; flow = flow; start = start; policy = policy }

-- a Tx at EPID 1 with n packets of m samples of four bytes
abbrev pub tx : ℕ → ℕ → BlockPlan
tx packets spp = record { kind = Tx; ins = []; outs = epid 1 ∷ []; packets = packets; spp = spp; item = 4; time = None }

-- an Rx at EPID 2
abbrev pub rx : ℕ → BlockPlan
rx spp = record { kind = Rx; ins = epid 2 ∷ []; outs = []; packets = 0; spp = spp; item = 4; time = None }

-- host 1, a crossbar of two ports and host 2 in a line
abbrev pub line : Plan
line = record {
  nodes = Host (epid 1) ∷ Crossbar 2 ∷ Host (epid 2) ∷ [];
  links = record { a = 0; a_port = 0; b = 1; b_port = 0 } ∷ record { a = 1; a_port = 1; b = 2; b_port = 0 } ∷ [];
  room = 4;
  limit = 64;
}

-- one stream over that line
abbrev pub one_stream : StreamPlan → ℕ → ℕ → List Fault → RunPlan
one_stream s packets spp faults = record { streams = s ∷ []; blocks = tx packets spp ∷ rx spp ∷ []; faults = faults }

-- a run of a plan on that line, as it begins
abbrev pub begun_on_line : RunPlan → State
begun_on_line plan = begun plan (built line true [])

-- what one thread with seed 0 leaves, after at most n events
abbrev pub left_after : ℕ → State → State
left_after zero w = w
left_after (suc k) w = option_map_or (λ e. left_after k (after w e)) (next_of 0 w) w

-- nothing is left to do, and stream s ended so, with this much sent, taken and known to be taken
pub record Ended (w : State) (s : ℕ) (end : StreamEnd) (sent delivered acked epochs : ℕ) : Type 0 where
  pub still : next_of 0 w ≡ None
  pub ended : end_of w s ≡ end
  pub has_sent : (tally_of w s).sent ≡ sent
  pub has_delivered : (tally_of w s).delivered ≡ delivered
  pub has_acked : (tally_of w s).acked ≡ acked
  pub has_epochs : (tally_of w s).epochs ≡ epochs

-- what a block took: how many packets and samples, the first and the last sample
abbrev pub line_is : ℕ → ℕ → ℕ → ℕ → ℕ → Line
line_is block packets samples first last =
    record { block = block; packets = packets; samples = samples; first = Some first; last = Some last }
