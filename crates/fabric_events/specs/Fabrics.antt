-- The parts of a net together: which present they are, and how they agree with its tree and its plan.
use Rattle.std.specs.Prelude.{◌≡◌, ◌≤◌, ℕ, Bool, false, length, map}
use Rattle.std.specs.Option.{option_map_or}
use Rattle.block_library.specs.declared.kind.BlockKind.{BlockKind}
use Rattle.chdr_words.specs.declared.epid.Epid.{Epid}
use Rattle.net_machine.specs.Blocks.{drained_by, is_finished}
use Rattle.net_machine.specs.Front.{Front, front_at}
use Rattle.net_machine.specs.Plans.{producer_of, stream_to}
use Rattle.net_machine.specs.Queues.{queue_count}
use Rattle.net_machine.specs.declared.plan.BlockPlan.{BlockPlan}
use Rattle.net_present.specs.Present.{BlockNow, Present}
use Rattle.fabric_lists.specs.BlocksView.{blocks_of}
use Rattle.fabric_lists.specs.Opened.{feeding_in, txs_in}
use Rattle.fabric_lists.specs.SitesView.{shapes_in, sites_of, working_in}
use Rattle.fabric_lists.specs.StreamsView.{streams_of}
use Rattle.fabric_events.specs.declared.fabric.Fabric.{Fabric}

-- the present that these parts are
abbrev pub present_of : Fabric → Present
present_of f = record {
  tree = f.wires;
  plan = f.plan;
  queues = f.queues.entries;
  nodes = (sites_of f.sites.items).nodes;
  streams = (streams_of f.streams.items).now;
  blocks = blocks_of f.blocks.items;
  faults = f.faults;
  requests = f.requests;
  answers = f.answers;
}

abbrev pub kind_now : BlockNow → BlockKind
kind_now b = b.kept.kind

abbrev pub item_now : BlockNow → ℕ
item_now b = b.kept.item

abbrev pub kind_planned : BlockPlan → BlockKind
kind_planned b = b.kind

abbrev pub item_planned : BlockPlan → ℕ
item_planned b = b.item

-- There is a queue, a node, a stream and a block for each of the tree and the plan, and each is made for it. Exactly the
-- flags are set of the nodes that a request or an answer is to leave, and of the blocks that are fed.
pub record IsSound (f : Fabric) : Type 0 where
  pub queues : length f.queues.entries ≡ queue_count f.wires
  pub room : f.queues.room ≡ f.wires.room
  pub shapes : (sites_of f.sites.items).shapes ≡ shapes_in f.wires
  pub working : f.working ≡ working_in (sites_of f.sites.items).nodes
  pub plans : (streams_of f.streams.items).plans ≡ f.plan.streams
  pub txs : (streams_of f.streams.items).txs ≡ txs_in f.plan
  pub kinds : map kind_now (blocks_of f.blocks.items) ≡ map kind_planned f.plan.blocks
  pub items : map item_now (blocks_of f.blocks.items) ≡ map item_planned f.plan.blocks
  pub feeding : f.feeding ≡ feeding_in f.plan
  pub few_streams : length f.plan.streams ≤ 16
  pub few_blocks : length f.plan.blocks ≤ 32

-- the stream that ends at an EPID is drained, by up to k blocks upstream
abbrev pub input_drained : ℕ → Front → Epid → Bool
input_drained k f epid = option_map_or
    (λ s. drained_by (option_map_or (is_finished k f) (producer_of f.plan s) false) (front_at f s)) (stream_to f.plan epid) false
