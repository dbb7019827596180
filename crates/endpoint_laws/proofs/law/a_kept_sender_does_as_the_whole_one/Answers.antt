-- The law, clause by clause.
use Rattle.endpoint_laws.proofs.law.a_kept_sender_does_as_the_whole_one.Goals as goal
use Rattle.endpoint_laws.proofs.Laws.{kept_commands, kept_hears, kept_numbers, kept_orders, kept_sends}

pub returns : goal.returns
returns c = record { sends = kept_sends; hears = kept_hears; commands = kept_commands; numbers = kept_numbers; orders = kept_orders }
