-- The laws of specs/Laws, with their proofs, for the proofs of other crates.
use Rattle.net_lone.specs.Carrying.{AnswersComeBack, ComesOn, MessagesAreCarried, RequestsEnter}
use Rattle.net_lone.specs.Control.{ControlComesBack}
use Rattle.net_lone.specs.Laws as law
use Rattle.net_lone.specs.Talks.{ControlTalks}
use Rattle.net_lone.proofs.Control.{answer-comes, carried, comes-by, control-back, request-enters}
use Rattle.net_lone.proofs.Talking.{control-talks}
use Rattle.net_lone.proofs.Ending.{answered-settled, first-goes, goes-first, none-waits, one-enabled, one-end, one-happens}

pub one_is_enabled : law.OneIsEnabled
one_is_enabled = one-enabled

pub one_happens : law.OneHappens
one_happens = one-happens

pub first_is_of_the_message : law.FirstIsOfTheMessage
first_is_of_the_message = first-goes

pub message_is_first : law.MessageIsFirst
message_is_first = goes-first

pub one_end : law.OneEnd
one_end = one-end

pub no_request_waits : law.NoRequestWaits
no_request_waits = none-waits

pub answered_is_settled : law.AnsweredIsSettled
answered_is_settled = answered-settled

pub control_comes_back : ControlComesBack
control_comes_back = control-back

pub control_talks : ControlTalks
control_talks = control-talks

pub comes_on : ComesOn
comes_on = comes-by

pub requests_enter : RequestsEnter
requests_enter = request-enters

pub messages_are_carried : MessagesAreCarried
messages_are_carried = carried

pub answers_come_back : AnswersComeBack
answers_come_back = answer-comes
