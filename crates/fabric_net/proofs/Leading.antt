-- Where tables lead, one link after another.
use Rattle.std.proofs.Common.{◌≡◌, ℕ, ◌*◌, ◌<◌, List, [], ◌∷◌, length, refl, sym, ◌∙◌, ap, subst}
use Rattle.std.specs.Prelude.{Option, None, Some}
use Rattle.std.specs.Option.{option_map_or}
use Rattle.chdr_words.specs.declared.epid.Epid.{Epid}
use Rattle.net_topology.proofs.Laws.{leads_along_ways, ranks_fall, ways_follow}
use Rattle.net_topology.specs.Leads.{Exits, LeadsOver, sent_on}
use Rattle.net_topology.specs.Links.{end_of, start_of}
use Rattle.net_topology.specs.Ranks.{rank_of}
use Rattle.net_topology.specs.Tree.{IsTree}
use Rattle.net_topology.specs.declared.plan.Plan.{Plan}

some-same : (a b : ℕ) → ◌≡◌ {A = Option ℕ} (Some a) (Some b) → a ≡ b
some-same a b e = ap (λ (o : Option ℕ). option_map_or (λ (n : ℕ). n) o a) e

none-some : (a : ℕ) → ◌≡◌ {A = Option ℕ} None (Some a) → ⊥
none-some a e = cc

module _ (tree : Plan) (exits : Exits) (dst : Epid) where
  -- from directed link d the tables lead to node z
  abbrev pub Leading : ℕ → ℕ → Type 0
  Leading d z = (ds : List ℕ) × LeadsOver tree exits dst d ds z

  pub leads-nowhere : (d z : ℕ) → (end_of tree.links d ≡ z → ⊥) → None ≡ sent_on tree exits dst d → Leading d z → ⊥
  leads-nowhere d z never none ([], is) = never is
  leads-nowhere d z never none (e ∷ ds, way) = none-some e (none ∙ way.0)

  pub leads-on : (d e z : ℕ) → (end_of tree.links d ≡ z → ⊥) → Some e ≡ sent_on tree exits dst d → Leading d z → Leading e z
  leads-on d e z never sent ([], is) = absurd (never is)
  leads-on d e z never sent (f ∷ ds, way) = (ds, subst (λ (k : ℕ). LeadsOver tree exits dst k ds z) (sym (some-same e f (sent ∙ way.0))) way.1)

  pub leads-after : (d e z : ℕ) → Some e ≡ sent_on tree exits dst d → Leading e z → Leading d z
  leads-after d e z sent way = (e ∷ way.0, (sym sent, way.1))

  -- the rank falls
  pub rank-falls : (d e : ℕ) → IsTree tree → d < 2 * length tree.links → Some e ≡ sent_on tree exits dst d → rank_of tree e < rank_of tree d
  rank-falls d e is there sent =
      ranks_fall tree is d e there
      (ways_follow tree (start_of tree.links d) (end_of tree.links e) d e []
      (leads_along_ways tree is exits dst d (end_of tree.links e) (e ∷ []) there (sym sent, refl)))
