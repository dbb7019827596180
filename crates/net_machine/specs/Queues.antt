-- The queues of links: each directed link has one for each of two channels.
use Rattle.std.specs.Prelude.{ℕ, ◌+◌, ◌*◌, ◌/◌, ◌%◌, length}
use Rattle.net_topology.specs.declared.plan.Plan.{Plan}

-- the channel of samples, commands and requests
abbrev pub forward_vc : ℕ
forward_vc = 0

-- the channel of statuses and answers
abbrev pub back_vc : ℕ
back_vc = 1

-- the queue of a directed link and a channel
abbrev pub queue_of : ℕ → ℕ → ℕ
queue_of d vc = 2 * d + vc

-- the directed link of a queue
abbrev pub link_of_queue : ℕ → ℕ
link_of_queue q = q / 2

-- the channel of a queue
abbrev pub channel_of : ℕ → ℕ
channel_of q = q % 2

-- how many directed links a tree has
abbrev pub link_count : Plan → ℕ
link_count tree = 2 * length tree.links

-- how many queues a tree has
abbrev pub queue_count : Plan → ℕ
queue_count tree = 2 * link_count tree
