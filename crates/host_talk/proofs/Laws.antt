-- The laws of specs/, with their proofs, for the proofs of other crates.
use Rattle.host_talk.specs.Settled.{BuiltNetsAreSettled, RestSettles, SettledNets, SettledStates}
use Rattle.host_talk.proofs.Built.{built-settled, rest-settles}
use Rattle.host_talk.proofs.Settled.{settled-nets, settled-states}

pub settled_states : SettledStates
settled_states = settled-states

pub settled_nets : SettledNets
settled_nets = settled-nets

pub built_nets_are_settled : BuiltNetsAreSettled
built_nets_are_settled = built-settled

pub rest_settles : RestSettles
rest_settles = rest-settles
