-- What is known besides of an event that can happen.
use Rattle.std.proofs.Common.{◌≡◌, ℕ, ◌+◌, ◌<◌, ◌≤◌, Bool, true, false, length, subst, IsTrue, arith}
use Rattle.std.specs.Prelude.{◌&&◌, nat_lt, if◌then◌else◌}
use Rattle.std.proofs.lemmas.Bool.{false≢true}
use Rattle.std.proofs.lemmas.Bool.Decides.{nat_tests}
use Rattle.net_machine.specs.declared.event.Event.{Event}
use Rattle.net_machine.specs.declared.event.Event.TheVariants.{Enter, Seen}
use Rattle.net_present.specs.Kept.{now_at}
use Rattle.net_present.specs.Onward.{enabled_now}
use Rattle.net_present.specs.Present.{Present}
use Rattle.fabric_events.specs.Choosing.{doable_now, is_handed, is_offered}
use Rattle.fabric_lists.specs.Opened.{is_tx_stream}

second_of : (a b : Bool) → IsTrue (a && b) → b ≡ true
second_of true b both = both
second_of false b both = absurd (false≢true both)

-- the packet that a Tx sends was offered
pub enter_offered : (p : Present) (e : Event) (s : ℕ) → IsTrue (doable_now p e) → e ≡ Enter s → is_tx_stream p.plan s ≡ true
    → 0 < (now_at p.streams s).offered
unfolding doable_now
enter_offered p e s doable is tx =
    let offered : is_offered p s ≡ true = second_of (enabled_now p (Enter s)) (is_offered p s) (subst (λ (o : Event). IsTrue (doable_now p o)) is doable) in
    let test : nat_lt 0 (now_at p.streams s).offered ≡ true =
    subst (λ (b : Bool). (if b then nat_lt 0 (now_at p.streams s).offered else true) ≡ true) tx offered in
    grind (arith, nat_tests)

-- the packets that are taken were handed out
pub seen_handed : (p : Present) (e : Event) (s n : ℕ) → IsTrue (doable_now p e) → e ≡ Seen s n
    → n + length (now_at p.streams s).waiting ≤ (now_at p.streams s).given
unfolding doable_now
seen_handed p e s n doable is =
    let handed : is_handed p s n ≡ true = second_of (enabled_now p (Seen s n)) (is_handed p s n) (subst (λ (o : Event). IsTrue (doable_now p o)) is doable) in
    grind (arith, nat_tests)
