use Rattle.std.proofs.Common.{subst, sym, List, ℕ, ◌∙◌}
use Rattle.std.specs.Prelude.{IsTrue}
use Rattle.chdr_words.specs.Management.{SpellsManagement, management_plain}
use Rattle.chdr_words.proofs.ManagementReading.{management_spelled}
use Rattle.chdr_words.proofs.management.encode_management.Goals as goal

pub returns-clause-spells : goal.returns-clause-spells
returns-clause-spells c = subst (λ (b : List ℕ). SpellsManagement c.args.v.now b) (sym (c.from_vec.ensures ∙ c.in_ok-write.ensures.bytes)) (management_spelled c.args.v.now c.requires c.in_ok-write.ensures.version c.in_ok-write.ensures.src).0

pub returns-clause-plain : goal.returns-clause-plain
returns-clause-plain c = subst (λ (b : List ℕ). IsTrue (management_plain b)) (sym (c.from_vec.ensures ∙ c.in_ok-write.ensures.bytes)) (management_spelled c.args.v.now c.requires c.in_ok-write.ensures.version c.in_ok-write.ensures.src).1
