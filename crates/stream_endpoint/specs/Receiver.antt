-- A receiver, in whole counts from the stream's start on, and its rules.
-- A receiver as one end keeps it is one of these too: its reached count is spelled.
use Rattle.std.specs.Prelude.{◌≡◌, ℕ, ◌%◌, ◌^◌, ◌==◌, ◌||◌, nat_le, Bool, true, false, cond, Option, Some, None}
use Rattle.chdr_words.specs.declared.command.CmdOp.{CmdOp}
use Rattle.chdr_words.specs.declared.command.CmdOp.TheVariants.{Init, Ping, Resync, Other}
use Rattle.stream_endpoint.specs.declared.count.Count.{Count}
use Rattle.stream_endpoint.specs.declared.flow.Flow.{Flow}
use Rattle.stream_endpoint.specs.declared.state.Arrived.{Arrived}
use Rattle.stream_endpoint.specs.declared.state.Arrived.TheVariants.{Kept, Discarded, Gap as GapAt}
use Rattle.stream_endpoint.specs.declared.state.Gap.{Gap}
use Rattle.stream_endpoint.specs.declared.state.Notice.{Notice}
use Rattle.stream_endpoint.specs.declared.state.Notice.TheVariants.{Due, Since}
use Rattle.stream_endpoint.specs.Counts.{none, one_of, plus, minus}
use Rattle.stream_endpoint.specs.Flow.{HasRoom, frequency}

-- The transferred count is reached minus buffered.
-- While no status is due, the last reported count is the transferred one minus what `notice` says.
pub record Receiver : Type 0 where
  -- the gap of a broken receiver, none at a good one
  pub broken : Option Gap
  -- all that was kept, taken or not
  pub reached : Count
  -- what was kept and not taken
  pub buffered : Count
  pub frequency : Count
  pub notice : Notice

-- exact when buffered is part of reached; a spelled reached may be below it
abbrev pub transferred : Receiver → Count
transferred r = minus r.reached r.buffered

-- the number that the next packet should have
abbrev pub expected : Receiver → ℕ
expected r = r.reached.packets % 2 ^ 16

-- a receiver at the start of its stream
abbrev pub listening : Flow → Count → Receiver
listening flow start = record {
  broken = None;
  reached = start;
  buffered = none;
  frequency = frequency flow;
  notice = Since none;
}

-- what becomes of a packet with this number, by the gap of the receiver
abbrev pub arrival : Option Gap → ℕ → ℕ → Arrived
arrival None expected number = cond (number == expected) Kept (GapAt expected number)
arrival (Some gap) expected number = Discarded

-- a packet of this wire size is kept
abbrev pub keeps : ℕ → Receiver → Receiver
keeps wire r = record r {
  reached = plus r.reached (one_of wire);
  buffered = plus r.buffered (one_of wire);
}

-- a later packet than the expected one comes: the receiver breaks, and says so
abbrev pub breaks : ℕ → Receiver → Receiver
breaks number r = record r {
  broken = Some (record { expected = expected r; got = number });
  notice = Due;
}

-- a packet of this number and wire size arrives
abbrev pub arrives_at : Option Gap → ℕ → ℕ → Receiver → Receiver
arrives_at None number wire r = cond (number == expected r) (keeps wire r) (breaks number r)
arrives_at (Some gap) number wire r = r

abbrev pub arrives : ℕ → ℕ → Receiver → Receiver
arrives number wire r = arrives_at r.broken number wire r

-- a kept packet finds room
abbrev pub FindsRoom : Flow → Receiver → ℕ → ℕ → Type 0
FindsRoom flow r number wire = r.broken ≡ None → number ≡ expected r → HasRoom flow r.buffered wire

-- this much taken makes a status due
abbrev pub is_much : Count → Count → Bool
is_much frequency taken =
    nat_le frequency.packets taken.packets || nat_le frequency.bytes taken.bytes

-- whether a status is due after this much more was taken
abbrev pub notice_after : Count → Count → Notice → Notice
notice_after frequency taken Due = Due
notice_after frequency taken (Since before) =
    cond (is_much frequency (plus before taken)) Due (Since (plus before taken))

-- this much of what is buffered is taken
abbrev pub takes : Count → Receiver → Receiver
takes taken r = record r {
  buffered = minus r.buffered taken;
  notice = notice_after r.frequency taken r.notice;
}

-- a command arrives: an INIT of this frequency, a PING, or a RESYNC of these totals
abbrev pub obeys : CmdOp → Count → Receiver → Receiver
obeys Init told r = record r { frequency = told; notice = Due }
obeys Ping told r = record r { notice = Due }
obeys Resync told r = record r { broken = None; reached = told; notice = Due }
obeys (Other code) told r = r

abbrev pub is_due_by : Notice → Bool
is_due_by Due = true
is_due_by (Since taken) = false

abbrev pub is_due : Receiver → Bool
is_due r = is_due_by r.notice

-- the status that is due is sent
abbrev pub reports : Receiver → Receiver
reports r = record r { notice = Since none }
