use Rattle.std.proofs.Common.{◌+◌, ◌/◌, ◌∙◌, ℕ, List, length, sym, ap, arith}
use Rattle.std.proofs.lemmas.List.{length-replicate}
use Rattle.fabric_flags.specs.Set.{count_set, flags_in, is_on}
use Rattle.fabric_flags.proofs.FlagLemmas.{count-offs, flags-zeros, zeros-off}
use Rattle.fabric_flags.proofs.flags.Flags.new.Goals as goal

pub invariant_of-result : goal.invariant_of-result
invariant_of-result c =
    let is = c.in_ok-words.ensures.items_if_clones_equal (λ y e. e) in
    let zero : ℕ = 0 in
    let many = length-replicate (c.args.len / 64 + 1) zero in
    record {
      size = omega (arith, ap length is, many);
      few = omega (arith, ap length is, many);
      past = λ i h. ap (λ (l : List ℕ). is_on l i) is ∙ zeros-off (c.args.len / 64 + 1) i;
      counted = sym (ap (λ (l : List ℕ). count_set (flags_in l c.args.len)) is
          ∙ ap count_set (flags-zeros (c.args.len / 64 + 1) c.args.len) ∙ count-offs c.args.len);
    }

pub returns : goal.returns
returns c =
    let is = c.in_ok-words.ensures.items_if_clones_equal (λ y e. e) in
    ap (λ (l : List ℕ). flags_in l c.args.len) is ∙ flags-zeros (c.args.len / 64 + 1) c.args.len
