-- A node has an EPID exactly if it is the node that is found for it.
use Rattle.std.proofs.Common.{◌≡◌, ℕ, ◌<◌, true, cond, ltb, List, length, Option, Some, None, get_or, inl, inr, sym, ◌∙◌, ap, arith, eq-eqb}
use Rattle.std.specs.List.{position_or_len}
use Rattle.std.specs.Option.{option_and_then}
use Rattle.std.proofs.lemmas.Bool.{cases_Bool, eqb-true, false≢true}
use Rattle.std.proofs.lemmas.Bool.Decides.{nat_tests}
use Rattle.std.proofs.lemmas.List.Quantifiers.{position-Some}
use Rattle.std.proofs.lemmas.List.Sums.{position_or_len_is}
use Rattle.std.proofs.lemmas.Option.{slice_get_cases, slice_get-get_or, same_Some}
use Rattle.chdr_words.specs.declared.epid.Epid.{Epid}
use Rattle.net_topology.specs.declared.plan.NodePlan.{NodePlan}
use Rattle.net_topology.specs.declared.plan.NodePlan.TheVariants.{Crossbar, Adapter, Host, Endpoint}
use Rattle.net_topology.specs.Tree.{epid_of, epid_at, has_epid, node_with, DistinctBelow}

-- the EPID of this number
abbrev pub numbered : ℕ → Option Epid
numbered n = Some (record { 0 = n })

-- an end node's test and its EPID
pub epid_from_test : (epid : Epid) (node : NodePlan) → has_epid epid node ≡ true → epid_of node ≡ Some epid
epid_from_test epid (Crossbar ports) h = absurd (false≢true h)
epid_from_test epid Adapter h = absurd (false≢true h)
epid_from_test epid (Host own) h = ap numbered (eqb-true own.0 epid.0 h)
epid_from_test epid (Endpoint own bank) h = ap numbered (eqb-true own.0 epid.0 h)

pub test_from_epid : (epid : Epid) (node : NodePlan) → epid_of node ≡ Some epid → has_epid epid node ≡ true
test_from_epid epid (Crossbar ports) h = let z : ◌≡◌ {A = Option Epid} None (Some epid) = h in cc
test_from_epid epid Adapter h = let z : ◌≡◌ {A = Option Epid} None (Some epid) = h in cc
test_from_epid epid (Host own) h = eq-eqb own.0 epid.0 (ap (λ (e : Epid). e.0) (same_Some own epid h))
test_from_epid epid (Endpoint own bank) h = eq-eqb own.0 epid.0 (ap (λ (e : Epid). e.0) (same_Some own epid h))

module _ (nodes : List NodePlan) (epid : Epid) where
  -- the test of a node of the list, and the EPID of the node of that number
  pub at_from_test : (x : ℕ) (d : NodePlan) → x < length nodes → has_epid epid (get_or nodes x d) ≡ true → epid_at nodes x ≡ Some epid
  at_from_test x d h t =
      ap (option_and_then epid_of) (slice_get-get_or nodes x d h) ∙ epid_from_test epid (get_or nodes x d) t

  pub test_from_at : (x : ℕ) → epid_at nodes x ≡ Some epid → (x < length nodes) × ((d : NodePlan) → has_epid epid (get_or nodes x d) ≡ true)
  test_from_at x h =
      elim (slice_get_cases nodes x).1 [
        | inl f ↦ (f.1, λ d. test_from_epid epid (get_or nodes x d) (sym (ap (option_and_then epid_of) (slice_get-get_or nodes x d f.1)) ∙ h))
        | inr f ↦ let z : ◌≡◌ {A = Option Epid} None (Some epid) = sym (ap (option_and_then epid_of) f.1) ∙ h in cc
      ]

  pub epid_from_found : (x : ℕ) → node_with nodes epid ≡ Some x → epid_at nodes x ≡ Some epid
  epid_from_found x n =
      let p = position-Some (has_epid epid) nodes x Adapter n in at_from_test x Adapter p.0 p.1

  -- no earlier node has the EPID
  pub found_from_epid : (x : ℕ) → DistinctBelow nodes (length nodes) → epid_at nodes x ≡ Some epid → node_with nodes epid ≡ Some x
  found_from_epid x distinct e =
      let here = test_from_at x e in
      let place : position_or_len (has_epid epid) nodes ≡ x = position_or_len_is (has_epid epid) nodes x Adapter (omega (arith, here.0)) (λ k l. elim (cases_Bool (has_epid epid (get_or nodes k Adapter))) [ inl t ↦ absurd (distinct x epid here.0 (k, l, at_from_test k Adapter (omega (arith, l, here.0)) t, e)) | inr f ↦ f ]) (λ l. here.1 Adapter) in
      let inside : ltb x (length nodes) ≡ true = grind (arith, nat_tests, here.0) in
      ap (λ i. cond (ltb i (length nodes)) (Some i) None) place ∙ ap (λ b. cond b (Some x) None) inside
