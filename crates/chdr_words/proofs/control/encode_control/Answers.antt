use Rattle.std.proofs.Common.{ℕ, ◌<◌, ◌^◌, List, subst, sym}
use Rattle.std.specs.Prelude.{IsTrue}
use Rattle.std.proofs.lemmas.List.Elements.{recursion_from_All}
use Rattle.chdr_words.specs.Control.{SpellsControl, control_plain}
use Rattle.chdr_words.specs.Laws.{Ranged}
use Rattle.chdr_words.proofs.ControlWriting.{control_spelled}
use Rattle.chdr_words.proofs.control.encode_control.Goals as goal

pub returns-clause-spells : goal.returns-clause-spells
returns-clause-spells c =
    let ranged : Ranged c.args.v.now = record { src = c.spell.ensures.src; time = c.spell.ensures.time; words = recursion_from_All (λ (word : ℕ). word < 2 ^ 32) _ c.spell.ensures.words } in
    subst (λ (b : List ℕ). SpellsControl c.args.v.now b) (sym c.spell.ensures.bytes) (control_spelled c.args.v.now c.requires ranged).0

pub returns-clause-plain : goal.returns-clause-plain
returns-clause-plain c =
    let ranged : Ranged c.args.v.now = record { src = c.spell.ensures.src; time = c.spell.ensures.time; words = recursion_from_All (λ (word : ℕ). word < 2 ^ 32) _ c.spell.ensures.words } in
    subst (λ (b : List ℕ). IsTrue (control_plain b)) (sym c.spell.ensures.bytes) (control_spelled c.args.v.now c.requires ranged).1
