-- The laws of specs/, with their proofs, for the proofs of other crates.
use Rattle.net_walks.specs.Entries.{EntriesAreEntered}
use Rattle.net_walks.specs.Links.{BacksAreThere, BacksEnd, BacksStart, PortsLeadBack}
use Rattle.net_walks.specs.Nodes.{HostsHaveEpids, HostsHaveNoTable, HostsHaveSome, PortsAreFew, SitesTellArrivals}
use Rattle.net_walks.specs.Probes.{BarePortsSendBack, ProbesComeBack, WaysAreWalks}
use Rattle.net_walks.specs.Returns.{WalkersArrive, WalkersComeBack}
use Rattle.net_walks.specs.Talks.{WalkersTalk}
use Rattle.net_walks.specs.Ways.{HopsLeaveByPorts, LinksOverAreFew, WaysAreShort, WaysGoOver}
use Rattle.net_walks.proofs.Backs.{backs-end, backs-start, backs-there, ports-back}
use Rattle.net_walks.proofs.Entries.{are-entered}
use Rattle.net_walks.proofs.Following.{hops-by, links-few, ways-over, ways-short, ways-walk}
use Rattle.net_walks.proofs.Nodes.{arrivals, hosts-end, hosts-epids, hosts-some, ports-few}
use Rattle.net_walks.proofs.Probing.{bare-back, probes-back}
use Rattle.net_walks.proofs.Returning.{walkers-arrive, walkers-back}
use Rattle.net_walks.proofs.Talking.{walkers-talk}

pub backs_start : BacksStart
backs_start = backs-start

pub backs_end : BacksEnd
backs_end = backs-end

pub backs_are_there : BacksAreThere
backs_are_there = backs-there

pub ports_lead_back : PortsLeadBack
ports_lead_back = ports-back

pub hosts_have_epids : HostsHaveEpids
hosts_have_epids = hosts-epids

pub hosts_have_some : HostsHaveSome
hosts_have_some = hosts-some

pub hosts_have_no_table : HostsHaveNoTable
hosts_have_no_table = hosts-end

pub ports_are_few : PortsAreFew
ports_are_few = ports-few

pub sites_tell_arrivals : SitesTellArrivals
sites_tell_arrivals = arrivals

pub entries_are_entered : EntriesAreEntered
entries_are_entered = are-entered

pub walkers_arrive : WalkersArrive
walkers_arrive = walkers-arrive

pub walkers_come_back : WalkersComeBack
walkers_come_back = walkers-back

pub walkers_talk : WalkersTalk
walkers_talk = walkers-talk

pub probes_come_back : ProbesComeBack
probes_come_back = probes-back

pub bare_ports_send_back : BarePortsSendBack
bare_ports_send_back = bare-back

pub ways_go_over : WaysGoOver
ways_go_over = ways-over

pub ways_are_short : WaysAreShort
ways_are_short = ways-short

pub links_over_are_few : LinksOverAreFew
links_over_are_few = links-few

pub hops_leave_by_ports : HopsLeaveByPorts
hops_leave_by_ports = hops-by

pub ways_are_walks : WaysAreWalks
ways_are_walks = ways-walk
