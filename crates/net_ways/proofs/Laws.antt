-- The laws of specs/, with their proofs, for the proofs of other crates.
use Rattle.net_ways.specs.Beginning as beginning
use Rattle.net_ways.specs.Clear as clear
use Rattle.net_ways.specs.Entering as entering
use Rattle.net_ways.specs.Gather as gather
use Rattle.net_ways.specs.Hops as hops
use Rattle.net_ways.specs.Standing as standing
use Rattle.net_ways.specs.Unseen as unseen
use Rattle.net_ways.specs.Ways as ways
use Rattle.net_ways.proofs.Beginning.{begun-queues, begun-ways, built-queues, empty-placed, queues-stay}
use Rattle.net_ways.proofs.Blindness.{hops-unseen, joins-unseen, leaves-unseen, losses-unseen, nodes-unseen, streams-unseen, unseen-twice}
use Rattle.net_ways.proofs.Clearing.{channels-go_on}
use Rattle.net_ways.proofs.Coming.{commands-come, samples-come, statuses-come}
use Rattle.net_ways.proofs.Entering.{enters-ahead, enters-back, loses-ahead, loses-back}
use Rattle.net_ways.proofs.Following.{passing-follows}
pub use Rattle.net_ways.proofs.Fronts.{front_of, message-of, order-same}
use Rattle.net_ways.proofs.Gathering.{gather-blind, gather-comes, gather-joins, gather-loses, gather-moves}
use Rattle.net_ways.proofs.Leading.{over-queues, ways-begin}
use Rattle.net_ways.proofs.Moving.{hops-ahead, hops-back, hops-by_table}
use Rattle.net_ways.proofs.Staying.{places-stay}
use Rattle.net_ways.proofs.Waiting.{built-messages, messages-stay}

pub blind : {A X : Type 0} → gather.IsBlind A X
blind = gather-blind

pub joins : {A X : Type 0} → gather.Joins A X
joins = gather-joins

pub moves : {A X : Type 0} → gather.Moves A X
moves = gather-moves

pub comes : {A X : Type 0} → gather.Comes A X
comes = gather-comes

pub loses : {A X : Type 0} → gather.Loses A X
loses = gather-loses

pub ways_are_over_queues : ways.WaysAreOverQueues
ways_are_over_queues = over-queues

pub ways_begin : ways.WaysBegin
ways_begin = ways-begin

pub channels_go_on : clear.ChannelsGoOn
channels_go_on = channels-go_on

pub outcomes_follow : clear.OutcomesFollow
outcomes_follow = passing-follows

pub hops_by_table : hops.HopsByTable
hops_by_table = hops-by_table

pub hops_ahead : hops.HopsAhead
hops_ahead = hops-ahead

pub hops_back : hops.HopsBack
hops_back = hops-back

pub samples_come : hops.SamplesCome
samples_come = samples-come

pub commands_come : hops.CommandsCome
commands_come = commands-come

pub statuses_come : hops.StatusesCome
statuses_come = statuses-come

pub enters_ahead : entering.EntersAhead
enters_ahead = enters-ahead

pub enters_back : entering.EntersBack
enters_back = enters-back

pub loses_ahead : entering.LosesAhead
loses_ahead = loses-ahead

pub loses_back : entering.LosesBack
loses_back = loses-back

pub unseen_twice : unseen.UnseenTwice
unseen_twice = unseen-twice

pub streams_unseen : unseen.StreamsUnseen
streams_unseen = streams-unseen

pub nodes_unseen : unseen.NodesUnseen
nodes_unseen = nodes-unseen

pub joins_unseen : unseen.JoinsUnseen
joins_unseen = joins-unseen

pub leaves_unseen : unseen.LeavesUnseen
leaves_unseen = leaves-unseen

pub hops_unseen : unseen.HopsUnseen
hops_unseen = hops-unseen

pub losses_unseen : unseen.LossesUnseen
losses_unseen = losses-unseen

pub places_stay : standing.PlacesStay
places_stay = places-stay

pub queues_stay : beginning.QueuesStay
queues_stay = queues-stay

pub built_has_queues : beginning.BuiltHasQueues
built_has_queues = built-queues

pub begun_has_queues : beginning.BegunHasQueues
begun_has_queues = begun-queues

pub begun_has_ways : beginning.BegunHasWays
begun_has_ways = begun-ways

pub empty_is_placed : beginning.EmptyIsPlaced
empty_is_placed = empty-placed

pub messages_stay : standing.MessagesStay
messages_stay = messages-stay

pub built_holds_messages : standing.BuiltHoldsMessages
built_holds_messages = built-messages
