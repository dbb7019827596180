-- How the work that is left at a stream follows what its ends do.
use Rattle.std.proofs.Common.{◌≡◌, ℕ, ◌+◌, ◌*◌, ◌-◌, ◌≤◌, ◌<◌, Bool, true, false, cond, [], ◌∷◌, ◌++◌, length, Option, Some, None, ap, arith, length-append, mul-le-mul_right, ◌==◌, if◌then◌else◌}
use Rattle.chdr_packets.specs.Length.{wire_of}
use Rattle.chdr_packets.specs.declared.packet.Packet.{Packet}
use Rattle.chdr_words.specs.declared.command.CmdOp.{CmdOp}
use Rattle.stream_endpoint.specs.declared.count.Count.{Count}
use Rattle.stream_endpoint.specs.declared.state.Arrived.TheVariants.{Kept, Gap as GapAt}
use Rattle.stream_endpoint.specs.declared.state.Gap.{Gap}
use Rattle.stream_endpoint.specs.Receiver.{arrival, arrives_at, breaks, expected, is_due, keeps, obeys, takes}
use Rattle.net_machine.specs.State.{Stream}
use Rattle.net_machine.specs.Streams.{gets, gets_order, kept_by, sends_status, sum_of, taken_to, taking}
use Rattle.net_weights.specs.Work.{stream_weight}

due-most : (top : ℕ) (b : Bool) → (if b then top + 2 else 0) ≤ top + 2
due-most top true = omega arith
due-most top false = omega arith

one-more : (a b k : ℕ) → a ≤ b + 1 → a * k ≤ b * k + k
one-more a b k le = let most = mul-le-mul_right k le in omega (arith, most)

one-less : (a b k : ℕ) → a + 1 ≤ b → a * k + k ≤ b * k
one-less a b k le = let most = mul-le-mul_right k le in omega (arith, most)

-- samples that come
pub gets-weight : (top : ℕ) (p : Packet) (st : Stream) → stream_weight top (gets p st) ≤ stream_weight top st + (top + 3)
gets-weight top p st = by_gap st.receiver.broken
  where
    kept : (length (st.given ++ p ∷ []) - st.taken) * (top + 3) ≤ (length st.given - st.taken) * (top + 3) + (top + 3)
    kept = let all = length-append st.given (p ∷ []) in one-more (length (st.given ++ p ∷ []) - st.taken) (length st.given - st.taken) (top + 3) (omega (arith, all))

    by_number : (b : Bool) → stream_weight top (record st {
      given = kept_by (cond b Kept (GapAt (expected st.receiver) p.seq)) p st.given;
      receiver = cond b (keeps (wire_of p) st.receiver) (breaks p.seq st.receiver);
    }) ≤ stream_weight top st + (top + 3)
    by_number true = sums (if is_due st.receiver then top + 2 else 0) ((length (st.given ++ p ∷ []) - st.taken) * (top + 3)) ((length st.given - st.taken) * (top + 3)) kept
      where
        sums : (due new old : ℕ) → new ≤ old + (top + 3) → due + new ≤ due + old + (top + 3)
        sums due new old le = omega arith
    by_number false = sums (if is_due st.receiver then top + 2 else 0) ((length st.given - st.taken) * (top + 3))
      where
        sums : (due old : ℕ) → top + 2 + old ≤ due + old + (top + 3)
        sums due old = omega arith

    by_gap : (g : Option Gap) → stream_weight top (record st {
      given = kept_by (arrival g (expected st.receiver) p.seq) p st.given;
      receiver = arrives_at g p.seq (wire_of p) st.receiver;
    }) ≤ stream_weight top st + (top + 3)
    by_gap None = by_number (p.seq == expected st.receiver)
    by_gap (Some gap) = same (stream_weight top st)
      where
        same : (old : ℕ) → old ≤ old + (top + 3)
        same old = omega arith

-- a command that comes
pub order-weight : (top : ℕ) (op : CmdOp) (told : Count) (st : Stream) → stream_weight top (gets_order op told st) ≤ stream_weight top st + (top + 3)
order-weight top op told st =
    sums (if is_due (obeys op told st.receiver) then top + 2 else 0) (if is_due st.receiver then top + 2 else 0) ((length st.given - st.taken) * (top + 3)) (due-most top (is_due (obeys op told st.receiver)))
  where
    sums : (new old rest : ℕ) → new ≤ top + 2 → new + rest ≤ old + rest + (top + 3)
    sums new old rest le = omega arith

-- a taking uses up what it takes, and a status that is due weighs less than that
pub taken-weight : (top n : ℕ) (st : Stream) → st.taken < n → n ≤ length st.given → stream_weight top (taken_to n st) + 1 ≤ stream_weight top st
taken-weight top n st lt le =
    sums (if is_due (takes (sum_of (taking n st)) st.receiver) then top + 2 else 0) (if is_due st.receiver then top + 2 else 0)
    ((length st.given - n) * (top + 3)) ((length st.given - st.taken) * (top + 3)) (due-most top (is_due (takes (sum_of (taking n st)) st.receiver)))
    (one-less (length st.given - n) (length st.given - st.taken) (top + 3) (omega arith))
  where
    sums : (new old rest all : ℕ) → new ≤ top + 2 → rest + (top + 3) ≤ all → new + rest + 1 ≤ old + all
    sums new old rest all le less = omega arith

-- a status that is sent is due no more
pub sent-weight : (top : ℕ) (st : Stream) → is_due st.receiver ≡ true → stream_weight top (sends_status st) + (top + 2) ≤ stream_weight top st
sent-weight top st due =
    let was : (if is_due st.receiver then top + 2 else 0) ≡ top + 2 = ap (λ (b : Bool). if b then top + 2 else 0) due in
    sums (if is_due st.receiver then top + 2 else 0) ((length st.given - st.taken) * (top + 3)) was
  where
    sums : (old rest : ℕ) → old ≡ top + 2 → 0 + rest + (top + 2) ≤ old + rest
    sums old rest is = omega arith
