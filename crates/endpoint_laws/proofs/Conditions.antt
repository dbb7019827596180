-- Each test is true exactly when its condition holds.
use Rattle.std.proofs.Common.{rules}
use Rattle.endpoint_laws.specs.Laws.{CreditIsTested, OrderIsTested, RoomIsTested, StuckIsTested}

pub room_is_tested : RoomIsTested
room_is_tested flow held wire = search rules

pub credit_is_tested : CreditIsTested
credit_is_tested flow s wire = search rules

pub stuck_is_tested : StuckIsTested
stuck_is_tested = search rules

pub order_is_tested : OrderIsTested
order_is_tested = search rules
