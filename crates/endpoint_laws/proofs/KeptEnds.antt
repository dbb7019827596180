-- What is kept of an end goes on, and tells, as the end: rule by rule.
use Rattle.std.proofs.Common.{◌≡◌, ℕ, ◌+◌, ◌-◌, ◌%◌, ◌^◌, ◌==◌, Bool, true, false, Option, None, Some, refl, sym, ◌∙◌, ap, arith, cond}
use Rattle.chdr_words.specs.declared.command.CmdOp.TheVariants.{Init, Ping, Resync, Other}
use Rattle.chdr_words.specs.declared.command.Command.{Command}
use Rattle.chdr_words.specs.declared.status.Status.{Status}
use Rattle.chdr_words.specs.declared.status.StatusCode.{StatusCode}
use Rattle.chdr_words.specs.declared.status.StatusCode.TheVariants.{Okay, CmdErr, SeqErr, DataErr, RtErr, Other as OtherCode}
use Rattle.stream_endpoint.specs.declared.count.Count.{Count}
use Rattle.stream_endpoint.specs.declared.flow.Policy.{Policy}
use Rattle.stream_endpoint.specs.declared.state.Gap.{Gap}
use Rattle.stream_endpoint.specs.declared.state.Notice.TheVariants.{Due}
use Rattle.stream_endpoint.specs.declared.state.OutState.{OutState}
use Rattle.stream_endpoint.specs.declared.state.OutState.TheVariants.{Opening, Running, Halted, Resyncing}
use Rattle.stream_endpoint.specs.Counts.{one_of, plus, spelled, spelled_minus}
use Rattle.stream_endpoint.specs.InEnd.{code_by, info_by, kept_receiver}
use Rattle.stream_endpoint.specs.OutEnd.{kept_sender}
use Rattle.stream_endpoint.specs.Receiver.{Receiver, arrives_at, keeps}
use Rattle.stream_endpoint.specs.Sender.{Sender, after_code, after_okay, after_gap, has_missed, hears_left, learns}
use Rattle.endpoint_laws.specs.Laws.{KeptArrival, KeptArrives, KeptCommands, KeptFindsRoom, KeptHears, KeptNumbers, KeptObeys, KeptOrders, KeptReports, KeptSends, KeptStatus, KeptTakes}

twice40 : (n : ℕ) → n % 2 ^ 40 % 2 ^ 40 ≡ n % 2 ^ 40
twice40 n = omega arith

twice64 : (n : ℕ) → n % 2 ^ 64 % 2 ^ 64 ≡ n % 2 ^ 64
twice64 n = omega arith

more40 : (n k : ℕ) → (n % 2 ^ 40 + k) % 2 ^ 40 ≡ (n + k) % 2 ^ 40
more40 n k = omega arith

more64 : (n k : ℕ) → (n % 2 ^ 64 + k) % 2 ^ 64 ≡ (n + k) % 2 ^ 64
more64 n k = omega arith

short40 : (n : ℕ) → n % 2 ^ 40 % 2 ^ 16 ≡ n % 2 ^ 16
short40 n = omega arith

-- what is left of a count, whichever of both is spelled
pub left-spelled : (a b : Count) → spelled_minus a (spelled b) ≡ spelled_minus a b
left-spelled a b = rw (twice40 b.packets, twice64 b.bytes) refl

left-of_spelled : (a b : Count) → spelled_minus (spelled a) b ≡ spelled_minus a b
left-of_spelled a b =
    rw (more40 a.packets (2 ^ 40 - b.packets % 2 ^ 40), more64 a.bytes (2 ^ 64 - b.bytes % 2 ^ 64)) refl

spelled-twice : (a : Count) → spelled (spelled a) ≡ spelled a
spelled-twice a = rw (twice40 a.packets, twice64 a.bytes) refl

spelled-more : (a b : Count) → spelled (plus (spelled a) b) ≡ spelled (plus a b)
spelled-more a b = rw (more40 a.packets b.packets, more64 a.bytes b.bytes) refl

pub kept_sends : KeptSends
kept_sends wire s = rw (spelled-more s.sent (one_of wire)) refl

pub kept_commands : KeptCommands
kept_commands Init s = rw (spelled-twice s.sent) refl
kept_commands Ping s = rw (spelled-twice s.sent) refl
kept_commands Resync s = rw (spelled-twice s.sent) refl
kept_commands (Other code) s = rw (spelled-twice s.sent) refl

okay : (state : OutState) (policy : Policy) (missed : Bool) (s : Sender)
    → kept_sender (after_okay state policy missed (kept_sender s)) ≡ kept_sender (after_okay state policy missed s)
okay Opening policy missed s = rw (spelled-twice s.sent) refl
okay Running policy true s = rw (spelled-twice s.sent) refl
okay Running policy false s = rw (spelled-twice s.sent) refl
okay Halted policy missed s = rw (spelled-twice s.sent) refl
okay Resyncing policy missed s = rw (spelled-twice s.sent) refl

gapped : (state : OutState) (policy : Policy) (s : Sender)
    → kept_sender (after_gap state policy (kept_sender s)) ≡ kept_sender (after_gap state policy s)
gapped Opening policy s = rw (spelled-twice s.sent) refl
gapped Running policy s = rw (spelled-twice s.sent) refl
gapped Halted policy s = rw (spelled-twice s.sent) refl
gapped Resyncing policy s = rw (spelled-twice s.sent) refl

coded : (code : StatusCode) (policy : Policy) (missed : Bool) (s : Sender)
    → kept_sender (after_code code policy missed (kept_sender s)) ≡ kept_sender (after_code code policy missed s)
coded Okay policy missed s = okay s.state policy missed s
coded CmdErr policy missed s = rw (spelled-twice s.sent) refl
coded SeqErr policy missed s = gapped s.state policy s
coded DataErr policy missed s = rw (spelled-twice s.sent) refl
coded RtErr policy missed s = rw (spelled-twice s.sent) refl
coded (OtherCode code) policy missed s = rw (spelled-twice s.sent) refl

heard : (policy : Policy) (code : StatusCode) (left told : Count) (s : Sender) → left ≡ spelled_minus s.sent told
    → kept_sender (hears_left policy code left (kept_sender s))
    ≡ kept_sender (hears_left policy code (spelled_minus s.sent told) s)
heard policy code left told s is =
    ap (λ (l : Count). kept_sender (hears_left policy code l (kept_sender s))) is
    ∙ coded code policy (has_missed (spelled_minus s.sent told) s) (learns (spelled_minus s.sent told) s)

pub kept_hears : KeptHears
kept_hears policy code told s = (
  heard policy code (spelled_minus (spelled s.sent) told) told s (left-of_spelled s.sent told),
  heard policy code (spelled_minus (spelled s.sent) (spelled told)) told s
      (left-of_spelled s.sent (spelled told) ∙ left-spelled s.sent told),
)

pub kept_numbers : KeptNumbers
kept_numbers s = short40 s.sent.packets

pub kept_orders : KeptOrders
kept_orders Init end = refl
kept_orders Ping end = refl
kept_orders Resync end = ap (λ (c : Count). (let p : Command = record { op = Resync; op_data = 0; src = end.me; packets = c.packets; bytes = c.bytes } in p)) (spelled-twice end.sender.sent)
kept_orders (Other code) end = refl

abbrev breaks_at : ℕ → ℕ → Receiver → Receiver
breaks_at expected number r = record r { broken = Some (record { expected = expected; got = number }); notice = Due }

pub kept_arrives : KeptArrives
kept_arrives number wire r = by_gap r.broken
  where
    by_test : (b : Bool) (n : ℕ)
        → kept_receiver (cond b (keeps wire (kept_receiver r)) (breaks_at n number (kept_receiver r)))
        ≡ kept_receiver (cond b (keeps wire r) (breaks_at n number r))
    by_test true n = rw (spelled-more r.reached (one_of wire)) refl
    by_test false n = rw (spelled-twice r.reached) refl

    by_gap : (gap : Option Gap)
        → kept_receiver (arrives_at gap number wire (kept_receiver r)) ≡ kept_receiver (arrives_at gap number wire r)
    by_gap None =
        ap (λ (n : ℕ). kept_receiver (cond (number == n) (keeps wire (kept_receiver r)) (breaks_at n number (kept_receiver r))))
        (short40 r.reached.packets)
        ∙ by_test (number == r.reached.packets % 2 ^ 16) (r.reached.packets % 2 ^ 16)
    by_gap (Some gap) = rw (spelled-twice r.reached) refl

pub kept_takes : KeptTakes
kept_takes taken r = rw (spelled-twice r.reached) refl

pub kept_obeys : KeptObeys
kept_obeys Init counts told r means = rw (spelled-twice r.reached, means) refl
kept_obeys Ping counts told r means = rw (spelled-twice r.reached) refl
kept_obeys Resync counts told r means = rw (means, spelled-twice told) refl
kept_obeys (Other code) counts told r means = rw (spelled-twice r.reached) refl

pub kept_reports : KeptReports
kept_reports r = rw (spelled-twice r.reached) refl

pub kept_arrival : KeptArrival
kept_arrival number r = rw (short40 r.reached.packets) refl

pub kept_status : KeptStatus
kept_status end = ap (λ (got : Count). (let p : Status = record {
  code = code_by end.receiver.broken;
  src = end.me;
  cap_bytes = end.flow.cap_bytes;
  cap_packets = end.flow.cap_packets;
  got_packets = got.packets;
  got_bytes = got.bytes;
  info = info_by end.receiver.broken;
  buffer = 0;
} in p)) (left-of_spelled end.receiver.reached end.receiver.buffered)

pub kept_finds_room : KeptFindsRoom
kept_finds_room flow r number wire = (
  (λ room good is. room good (is ∙ sym (short40 r.reached.packets))),
  (λ room good is. room good (is ∙ short40 r.reached.packets)),
)
