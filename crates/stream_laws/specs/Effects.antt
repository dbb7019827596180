-- What each act does to the core of a stream, with nothing of what is under way: by the rules of both ends
-- that the endpoints' calls keep.
use Rattle.std.specs.Prelude.{ℕ, ◌+◌, true, List, [], ◌∷◌, ◌++◌, length, take, drop}
use Rattle.chdr_words.specs.declared.command.CmdOp.{CmdOp}
use Rattle.chdr_words.specs.declared.command.CmdOp.TheVariants.{Resync}
use Rattle.stream_endpoint.specs.declared.count.Count.{Count}
use Rattle.stream_endpoint.specs.declared.flow.Policy.{Policy}
use Rattle.stream_endpoint.specs.Epochs.{Told}
use Rattle.stream_endpoint.specs.InEnd.{code_by}
use Rattle.stream_endpoint.specs.Receiver.{arrives, obeys, reports, takes}
use Rattle.stream_endpoint.specs.Sender.{commands, hears, sends}
use Rattle.stream_laws.specs.Machine.{Core, Load, count_of}

-- the producer makes these
abbrev pub fills_core : {A : Type 0} → List (Load A) → Core A → Core A
fills_core loads c = record c { ready = c.ready ++ loads }

-- the producer makes no more
abbrev pub closes_core : {A : Type 0} → Core A → Core A
closes_core c = record c { closed = true }

-- the first ready packet is sent, and these are still ready
abbrev pub enters_core : {A : Type 0} → Load A → List (Load A) → Core A → Core A
enters_core load rest c = record c {
  ready = rest;
  sent = c.sent ++ load ∷ [];
  sender = sends load.wire c.sender;
}

-- the sender gives a command
abbrev pub orders_core : {A : Type 0} → CmdOp → Core A → Core A
orders_core op c = record c { sender = commands op c.sender }

-- a packet with this number arrives and is kept
abbrev pub keeps_core : {A : Type 0} → ℕ → Load A → Core A → Core A
keeps_core number load c = record c {
  receiver = arrives number load.wire c.receiver;
  given = c.given ++ load ∷ [];
}

-- a packet with this number arrives, and breaks the receiver or is discarded
abbrev pub drops_core : {A : Type 0} → ℕ → Load A → Core A → Core A
drops_core number load c = record c { receiver = arrives number load.wire c.receiver }

-- an INIT or a PING arrives
abbrev pub obeys_core : {A : Type 0} → CmdOp → Count → Core A → Core A
obeys_core op told c = record c { receiver = obeys op told c.receiver }

-- a RESYNC arrives: an epoch ends
abbrev pub renews_core : {A : Type 0} → Count → Core A → Core A
renews_core told c = record c {
  receiver = obeys Resync told c.receiver;
  cuts = record { sent = length c.sent; given = length c.given } ∷ c.cuts;
}

-- the consumer takes n packets more
abbrev pub takes_core : {A : Type 0} → ℕ → Core A → Core A
takes_core n c = record c {
  receiver = takes (count_of (take n (drop c.taken c.given))) c.receiver;
  taken = c.taken + n;
}

-- the status that is due is sent
abbrev pub reports_core : {A : Type 0} → Core A → Core A
reports_core c = record c { receiver = reports c.receiver }

-- a status arrives
abbrev pub hears_core : {A : Type 0} → Policy → Told → Core A → Core A
hears_core policy status c = record c { sender = hears policy (code_by status.gap) status.told c.sender }

-- the packet of this place is lost
abbrev pub loses_packet : {A : Type 0} → ℕ → Core A → Core A
loses_packet place c = record c { lost = place ∷ c.lost; losses = c.losses + 1 }

-- a command or a status is lost
abbrev pub loses_message : {A : Type 0} → Core A → Core A
loses_message c = record c { losses = c.losses + 1 }
