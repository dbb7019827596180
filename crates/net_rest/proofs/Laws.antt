-- The laws of rest, with their proofs, for the proofs of other crates.
use Rattle.net_rest.specs.Laws.{BegunHasNoMessages, NoMessagesCome, NoMessagesComeInJournals, RestHasNoMessages, RunsRest}
use Rattle.net_rest.proofs.Keeping.{none-come}
use Rattle.net_rest.proofs.Resting.{begun-has_none, none-in_journals, rest-has_none, runs-rest}

pub rest_has_no_messages : RestHasNoMessages
rest_has_no_messages = rest-has_none

pub begun_has_no_messages : BegunHasNoMessages
begun_has_no_messages = begun-has_none

pub no_messages_come : NoMessagesCome
no_messages_come = none-come

pub no_messages_come_in_journals : NoMessagesComeInJournals
no_messages_come_in_journals = none-in_journals

pub runs_rest : RunsRest
runs_rest = runs-rest
