-- The laws of specs/, with their proofs, for the proofs of other crates.
use Rattle.net_writes.specs.Routes.{MayBeWritten, RoutesAreWritten, WholeRoutesLead}
use Rattle.net_writes.specs.Talks.{WriteTalks}
use Rattle.net_writes.specs.Writing.{WritesComeBack}
use Rattle.net_writes.proofs.Leading.{whole-routes}
use Rattle.net_writes.proofs.Routes.{may-be-written, routes-written}
use Rattle.net_writes.proofs.Writing.{write-talks, writes-back}

pub writes_come_back : WritesComeBack
writes_come_back = writes-back

pub write_talks : WriteTalks
write_talks = write-talks

pub may_be_written : MayBeWritten
may_be_written = may-be-written

pub routes_are_written : RoutesAreWritten
routes_are_written = routes-written

pub whole_routes_lead : WholeRoutesLead
whole_routes_lead = whole-routes
