-- The laws of specs/, with their proofs, for the proofs of other crates.
use Rattle.net_flows.proofs.Laws.{begun_is_steady, steady_stays, unseen_flows}
use Rattle.net_lawful.specs.Laws as law
use Rattle.net_lawful.specs.Walking as walking
use Rattle.net_lawful.proofs.Beginning.{begun-lawful, built-lawful}
use Rattle.net_lawful.proofs.Calm.{walked-stays}
use Rattle.net_lawful.proofs.Nodes.{can-perform}
use Rattle.net_lawful.proofs.Peaks.{peak-follows}
use Rattle.net_lawful.proofs.Planned as plans
use Rattle.net_lawful.proofs.Staying.{all-lawful, lawful-stays}
pub use Rattle.net_lawful.proofs.Stilling.{empty-at}
use Rattle.net_lawful.proofs.Unseen.{stilled-unseen}

pub built_is_lawful : law.BuiltIsLawful
built_is_lawful = built-lawful

pub begun_is_lawful : law.BegunIsLawful
begun_is_lawful = begun-lawful begun_is_steady

pub lawful_stays : law.LawfulStays
lawful_stays = lawful-stays steady_stays unseen_flows

pub all_are_lawful : law.AllAreLawful
all_are_lawful = all-lawful steady_stays unseen_flows

pub events_ask_nothing : walking.EventsAskNothing
events_ask_nothing = walked-stays

pub stilled_is_unseen : walking.StilledIsUnseen
stilled_is_unseen = stilled-unseen

pub plans_fit : law.PlansFit
plans_fit tree plan sound = plans.planned tree plan sound

pub blocks_take : law.BlocksTake
blocks_take tree plan b i s sound is = plans.consumer-is tree plan sound b i s is

pub blocks_give : law.BlocksGive
blocks_give tree plan b j s sound is = plans.producer-is tree plan sound b j s is

pub no_rx_at_endpoints : law.NoRxAtEndpoints
no_rx_at_endpoints tree plan x b epid bank is sound endpoint found = plans.endpoint-no-rx tree plan is sound x b epid bank endpoint found

pub nodes_can_perform : law.NodesCanPerform
nodes_can_perform = can-perform

pub peaks_follow : law.PeaksFollow
peaks_follow = peak-follows
