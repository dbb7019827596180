-- What is read of bytes that may ask, and that an acknowledgement has a spelling.
use Rattle.std.proofs.Common.{◌≡◌, ℕ, ◌+◌, ◌*◌, ◌/◌, ◌<◌, ◌≤◌, ◌^◌, Bool, true, false, List, [], length, take, Option, None, Some, Ok, sym, ap, subst, ◌∙◌, arith, inr, lit≤}
use Rattle.std.specs.Prelude.{if◌then◌else◌}
use Rattle.std.proofs.lemmas.List.{length-map}
use Rattle.std.proofs.lemmas.List.FromFn.{length-range_with_len}
use Rattle.chdr_words.specs.Control.{FitsControl}
use Rattle.chdr_words.specs.declared.control.Control.{Control}
use Rattle.chdr_words.specs.declared.control.CtrlOp.{CtrlOp}
use Rattle.chdr_words.specs.declared.control.CtrlOp.TheVariants.{Sleep, Write, Read, ReadWrite, BlockWrite, BlockRead, Poll, Other, User}
use Rattle.chdr_words.specs.declared.epid.Epid.{Epid}
use Rattle.chdr_packets.specs.Fits.{FitsBody, FitsPacket}
use Rattle.chdr_packets.specs.declared.packet.Packet.{Packet}
use Rattle.chdr_packets.specs.declared.packet.Body.{Body}
use Rattle.chdr_packets.specs.declared.packet.Body.TheVariants as bodies
use Rattle.block_registers.specs.Operations.{Place, accepts, acknowledgement, answer, outcome, reads_op, words_in, words_of}
use Rattle.chdr_packets.specs.Grammar.{Spells}
use Rattle.packet_uses.specs.Answered.{Requests, request_of}

-- the words of an answer are no more than those of its request, or one
few : (b : Bool) (op : CtrlOp) (words : List ℕ) (addr : ℕ) (values : List ℕ) → length values ≤ 15 → length (words_in (if b then Some (reads_op op words addr values) else None)) ≤ 15
few false op words addr values le = lit≤ tt
few true Sleep words addr values le = lit≤ tt
few true Write words addr values le = lit≤ tt
few true Read words addr values le = lit≤ tt
few true ReadWrite words addr values le = lit≤ tt
few true BlockWrite words addr values le = lit≤ tt
few true BlockRead words addr values le = simp (length-map, length-range_with_len) le
few true Poll words addr values le = lit≤ tt
few true (Other code) words addr values le = lit≤ tt
few true (User code) words addr values le = lit≤ tt

pub answer_fits : (me : Epid) (place : Place) (request : Control) → FitsControl request → FitsControl (answer me place request)
unfolding acknowledgement outcome
answer_fits me place request fits = record {
  seq = fits.seq;
  src_port = fits.dst_port;
  dst_port = fits.src_port;
  op = fits.op;
  enables = fits.enables;
  addr = fits.addr;
  words = few (accepts place request) request.op (words_of place) request.addr request.words fits.words;
}

short : (n : ℕ) → n ≤ 15 → 8 + (12 + 0 + 4 * n + 7) / 8 * 8 ≤ 65535
short n le = omega arith

-- a body that is a request fits as one
fits_as : (body : Body) (request : Control) → FitsBody body → request_of body ≡ Some request → FitsControl request
fits_as (bodies.Samples time payload) request fits e = absurd cc
fits_as (bodies.Status status) request fits e = absurd cc
fits_as (bodies.Command command) request fits e = absurd cc
fits_as (bodies.Control control) request fits e = by_ack control.ack e
  where
    by_ack : (ack : Bool) → (if ack then None else Some control) ≡ Some request → FitsControl request
    by_ack true e = absurd cc
    by_ack false e = let same : control ≡ request = cc in subst FitsControl same fits
fits_as (bodies.Management management) request fits e = absurd cc

asked : (bytes : List ℕ) (packet : Packet) (size : ℕ) (asks : Option Control) → size ≤ length bytes → Spells packet (take size bytes) → FitsPacket packet → request_of packet.body ≡ asks → Requests bytes (Ok asks)
asked bytes packet size None within spells fits e = inr (record { packet = packet; size = size; within = within; spells = spells; asks = e })
asked bytes packet size (Some request) within spells fits e = (record { packet = packet; size = size; within = within; spells = spells; asks = e }, fits_as packet.body request fits.body e)

pub requests : (bytes : List ℕ) (packet : Packet) (size : ℕ) (found : Option Control) → size ≤ length bytes → Spells packet (take size bytes) → FitsPacket packet → found ≡ request_of packet.body → Requests bytes (Ok found)
requests bytes packet size found within spells fits e = asked bytes packet size found within spells fits (sym e)

-- ---- a packet that carries an acknowledgement

abbrev sent : ℕ → Epid → List ℕ → Control → Packet
sent vc to mdata control = record { vc = vc; eob = false; eov = false; seq = 0; dst = to; mdata = mdata; body = bodies.Control control }

answer_sent : (vc : ℕ) (to me : Epid) (place : Place) (request : Control) → vc < 2 ^ 6 → FitsControl request → FitsPacket (sent vc to [] (answer me place request))
unfolding acknowledgement
answer_sent vc to me place request channel fits =
    let f = answer_fits me place request fits in
    record { vc = channel; mdata = lit≤ tt; body = f; len = short (length (answer me place request).words) f.words }

-- on any channel, to anyone, and for whatever stands at the port
pub sent_fits : (vc : ℕ) (to me : Epid) (place : Place) (request control : Control) (mdata : List ℕ) → vc < 2 ^ 6 → FitsControl request → mdata ≡ [] → control ≡ answer me place request
    → FitsPacket (record { vc = vc; eob = false; eov = false; seq = 0; dst = to; mdata = mdata; body = bodies.Control control })
sent_fits vc to me place request control mdata channel fits e f =
    subst FitsPacket (sym (ap (λ (m : List ℕ). sent vc to m control) e ∙ ap (sent vc to []) f)) (answer_sent vc to me place request channel fits)
