use Rattle.std.proofs.Common.{◌<◌, ◌∙◌, ℕ, Bool, List, length, sym, ap, subst, arith}
use Rattle.fabric_flags.specs.Set.{is_on}
use Rattle.fabric_flags.proofs.FlagLemmas.{flag-read, length-flags}
use Rattle.fabric_flags.proofs.flags.Flags.get.Goals as goal

pub is_on-requires : goal.is_on-requires
is_on-requires c =
    let h = subst (λ (v : List Bool). c.args.i < length v) (sym c.self.view_is) c.requires in
    omega (arith, h, length-flags c.self.inside.words.items c.self.inside.len, c.self.invariant.size, ap length c.as_slice.ensures.value)

pub returns : goal.returns
returns c = rw (← c.self.view_is) (c.is_on.ensures ∙ ap (λ (l : List ℕ). is_on l c.args.i) c.as_slice.ensures.value
    ∙ sym (flag-read c.self.inside.words.items c.self.inside.len c.self.invariant.past c.args.i))
