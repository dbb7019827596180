-- The worked runs, computed.
use Rattle.std.proofs.Common.{refl}
use Rattle.chdr_words.specs.Field.{half_at}
use Rattle.block_library.specs.Blocks.{block_of, groups, kept_packets, open_group, repeated_packet, replayed_group}
use Rattle.block_library.specs.Lines.{first_of, last_of}
use Rattle.block_library.specs.Memory.{gives, kept_of}
use Rattle.block_library.specs.Producer.{packet_of, produced}
use Rattle.block_registers.specs.Operations.{accepted, accepts, acknowledgement, outcome, registers_after}
use Rattle.block_registers.specs.Registers.{enabled_bits, merged, written_one}
use Rattle.block_registers.specs.Slots.{place_of, slots_after}
use Rattle.net_machine.specs.Choice.{IsChosen, enabled_list, next_of, seed_of}
use Rattle.net_machine.specs.Conditions.{may}
use Rattle.net_machine.specs.Effects.{after}
use Rattle.net_machine.specs.Moves.{after_all}
use Rattle.net_rows.specs.Blocks.{ArePassedOn}
use Rattle.net_rows.specs.Credit.{IsWithinCapacity}
use Rattle.net_rows.specs.Hosts.{AreTransactions}
use Rattle.net_rows.specs.Journal.{IsJournal}
use Rattle.net_rows.specs.Losses.{AreLosses}
use Rattle.net_rows.specs.Numbers.{AreNumbers}
pub use Rattle.net_rows.proofs.Possible.{possible}

pub journal : IsJournal
unfolding may after after_all next_of seed_of enabled_list IsChosen produced packet_of first_of last_of half_at
journal = record {
  chosen = (refl, (refl, (refl, (refl, (refl, (refl, (refl, (refl, (refl, (refl, (refl, (refl, (refl, (refl, (refl, (refl, (refl, (refl, (refl, (refl, (refl, (refl, (refl, (refl, refl))))))))))))))))))))))));
  ended = record { still = refl; ended = refl; has_sent = refl; has_delivered = refl; has_acked = refl; has_epochs = refl };
  line = refl;
  peak = refl;
  kept_peak = refl;
}

pub credit : IsWithinCapacity
unfolding may after next_of enabled_list produced packet_of first_of last_of half_at
credit = record {
  ended = record { still = refl; ended = refl; has_sent = refl; has_delivered = refl; has_acked = refl; has_epochs = refl };
  bytes = refl;
  packets = refl;
  taken = refl;
  line = refl;
}

pub numbers : AreNumbers
unfolding may after next_of enabled_list produced packet_of first_of last_of half_at
numbers = record {
  short = record { still = refl; ended = refl; has_sent = refl; has_delivered = refl; has_acked = refl; has_epochs = refl };
  short_numbers = refl;
  long = record { still = refl; ended = refl; has_sent = refl; has_delivered = refl; has_acked = refl; has_epochs = refl };
  long_numbers = refl;
}

pub losses : AreLosses
unfolding may after next_of enabled_list produced packet_of first_of last_of half_at
losses = record {
  off = record { still = refl; ended = refl; has_sent = refl; has_delivered = refl; has_acked = refl; has_epochs = refl };
  off_line = refl;
  auto = record { still = refl; ended = refl; has_sent = refl; has_delivered = refl; has_acked = refl; has_epochs = refl };
  auto_line = refl;
  last = record { still = refl; ended = refl; has_sent = refl; has_delivered = refl; has_acked = refl; has_epochs = refl };
  last_line = refl;
  init = record { still = refl; ended = refl; has_sent = refl; has_delivered = refl; has_acked = refl; has_epochs = refl };
  status = record { still = refl; ended = refl; has_sent = refl; has_delivered = refl; has_acked = refl; has_epochs = refl };
  wraps = record { still = refl; ended = refl; has_sent = refl; has_delivered = refl; has_acked = refl; has_epochs = refl };
}

pub blocks : ArePassedOn
unfolding may after next_of enabled_list produced packet_of gives kept_of block_of groups kept_packets open_group repeated_packet replayed_group first_of last_of half_at accepted accepts acknowledgement outcome place_of slots_after
blocks = record {
  repeat = record { first = refl; second = refl; samples = refl; has_line = refl; plain = refl };
  replay = record { first = refl; second = refl; samples = refl; has_line = refl; plain = refl };
  keep = record { first = refl; second = refl; samples = refl; has_line = refl; plain = refl };
  fifo = record { first = refl; second = refl; samples = refl; has_line = refl; plain = refl };
  kind = refl;
  number = refl;
  fed = refl;
  given = refl;
}

pub hosts : AreTransactions
unfolding may after next_of enabled_list place_of slots_after accepted accepts acknowledgement outcome registers_after written_one merged enabled_bits
hosts = record {
  crossbar = refl;
  first = refl;
  second = refl;
  third = refl;
  own = refl;
  other = refl;
  nowhere = refl;
  wrote_route = refl;
  wrote = refl;
  read = refl;
  read_first = refl;
  elsewhere = refl;
  unchanged = refl;
  unloaded = refl;
  lost = refl;
  done = refl;
  gone = refl;
  undone = refl;
}
