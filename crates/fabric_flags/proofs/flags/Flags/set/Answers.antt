use Rattle.std.proofs.Common.{◌≡◌, ◌≢◌, ◌<◌, ◌∙◌, ℕ, Bool, true, false, cond, List, length, set, sym, ap, subst, arith}
use Rattle.std.proofs.Math.ListN.{length-set}
use Rattle.std.proofs.lemmas.List.{with_items_is}
use Rattle.fabric_flags.specs.Set.{count_set, flag_at, flags_in, is_on}
use Rattle.fabric_flags.proofs.FlagLemmas.{count-most, count-set, flag-read, flags-set, length-flags}
use Rattle.fabric_flags.proofs.flags.Flags.set.Goals as goal

pub is_on-was-requires : goal.is_on-was-requires
is_on-was-requires c =
    let h = subst (λ (v : List Bool). c.args.i < length v) (sym c.self.view_is) c.requires in
    omega (arith, h, length-flags c.self.inside.words.items c.self.inside.len, c.self.invariant.size, ap length c.as_slice.ensures.value)

pub write-requires : goal.write-requires
write-requires c =
    let h = subst (λ (v : List Bool). c.args.i < length v) (sym c.self.view_is) c.requires in
    omega (arith, h, length-flags c.self.inside.words.items c.self.inside.len, c.self.invariant.size, ap length c.as_mut_slice.ensures.value)

pub recount-self-inside-requires-clause-some : goal.recount-self-inside-requires-clause-some
recount-self-inside-requires-clause-some c = λ e.
    let words = c.self.inside.words.items in
    let flags = flags_in words c.self.inside.len in
    let h = subst (λ (v : List Bool). c.args.i < length v) (sym c.self.view_is) c.requires in
    let was : flag_at flags c.args.i ≡ true = flag-read words c.self.inside.len c.self.invariant.past c.args.i
    ∙ sym (c.is_on-was.ensures ∙ ap (λ (l : List ℕ). is_on l c.args.i) c.as_slice.ensures.value) ∙ e in
    omega (arith, count-set flags c.args.i false h, ap {B = ℕ} (λ (b : Bool). cond b 1 0) was, c.self.invariant.counted)

pub recount-self-inside-requires-clause-few : goal.recount-self-inside-requires-clause-few
recount-self-inside-requires-clause-few c = λ e.
    let words = c.self.inside.words.items in
    let flags = flags_in words c.self.inside.len in
    let h = subst (λ (v : List Bool). c.args.i < length v) (sym c.self.view_is) c.requires in
    let was : flag_at flags c.args.i ≡ false = flag-read words c.self.inside.len c.self.invariant.past c.args.i
    ∙ sym (c.is_on-was.ensures ∙ ap (λ (l : List ℕ). is_on l c.args.i) c.as_slice.ensures.value) ∙ e in
    omega (
      arith,
      count-set flags c.args.i true h,
      ap {B = ℕ} (λ (b : Bool). cond b 1 0) was,
      c.self.invariant.counted,
      count-most (set flags c.args.i true),
      length-set flags c.args.i true,
      length-flags words c.self.inside.len,
    )

pub invariant_of-self : goal.invariant_of-self
invariant_of-self c =
    let words = c.self.inside.words.items in
    let new = c.write.new.words in
    let flags = flags_in words c.self.inside.len in
    let h = subst (λ (v : List Bool). c.args.i < length v) (sym c.self.view_is) c.requires in
    let within : c.args.i < c.self.inside.len = omega (arith, h, length-flags words c.self.inside.len) in
    let size : length new ≡ length words = c.write.ensures.size ∙ ap length c.as_mut_slice.ensures.value in
    let others = λ (j : ℕ) (apart : c.args.i ≢ j). c.write.ensures.others j apart ∙ ap (λ (l : List ℕ). is_on l j) c.as_mut_slice.ensures.value in
    let was : c.is_on-was.result ≡ flag_at flags c.args.i = c.is_on-was.ensures ∙ ap (λ (l : List ℕ). is_on l c.args.i) c.as_slice.ensures.value
    ∙ sym (flag-read words c.self.inside.len c.self.invariant.past c.args.i) in
    let now = with_items_is c.self.inside.words new (omega (arith, size, c.self.inside.words.ok.0)) in
    let next = flags-set words new c.self.inside.len c.args.i c.args.on within c.write.ensures.here others in
    record {
      size = omega (arith, ap length now, size, c.self.invariant.size);
      few = omega (arith, ap length now, size, c.self.invariant.few);
      past = λ j past. ap (λ (l : List ℕ). is_on l j) now ∙ others j (λ e. omega arith) ∙ c.self.invariant.past j past;
      counted = omega (
        arith,
        count-set flags c.args.i c.args.on h,
        ap count_set next,
        ap (λ (l : List ℕ). count_set (flags_in l c.self.inside.len)) now,
        ap {B = ℕ} (λ (b : Bool). cond b 1 0) was,
        c.self.invariant.counted,
        c.recount-self-inside.ensures,
      );
    }

pub returns : goal.returns
returns c =
    let words = c.self.inside.words.items in
    let h = subst (λ (v : List Bool). c.args.i < length v) (sym c.self.view_is) c.requires in
    let within : c.args.i < c.self.inside.len = omega (arith, h, length-flags words c.self.inside.len) in
    let others = λ (j : ℕ) (apart : c.args.i ≢ j). c.write.ensures.others j apart ∙ ap (λ (l : List ℕ). is_on l j) c.as_mut_slice.ensures.value in
    let size : length c.write.new.words ≡ length words = c.write.ensures.size ∙ ap length c.as_mut_slice.ensures.value in
    let now = with_items_is c.self.inside.words c.write.new.words (omega (arith, size, c.self.inside.words.ok.0)) in
    rw (← c.self.view_is) (ap (λ (l : List ℕ). flags_in l c.self.inside.len) now
    ∙ flags-set words c.write.new.words c.self.inside.len c.args.i c.args.on within c.write.ensures.here others)
