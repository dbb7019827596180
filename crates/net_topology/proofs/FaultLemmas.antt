-- At most one refusal is the first.
use Rattle.std.proofs.Common.{◌≡◌, ◌≢◌, ℕ, ◌<◌, ◌≤◌, length, Some, inl, inr, sym, ◌∙◌, refl, ap, subst, arith}
use Rattle.std.proofs.lemmas.Bool.{cases_lt}
use Rattle.chdr_words.specs.declared.epid.Epid.{Epid}
use Rattle.net_topology.specs.declared.check.PlanFault.{PlanFault}
use Rattle.net_topology.specs.declared.check.PlanFault.TheVariants.{TooManyNodes, DuplicateEpid, BadPort, PortTwice, Cycle, Apart, BadLinkRoom, Memory}
use Rattle.net_topology.specs.declared.plan.Plan.{Plan}
use Rattle.net_topology.specs.Links.{link_of}
use Rattle.net_topology.specs.Tree.{IsTree, IsFault, IsSound, SoundBelow, HasGoodNodes, HasPorts, IsPortTwice, IsReached, IsDuplicate, DistinctBelow, epid_at}

-- a tree is refused only for running out of memory
pub tree_fault : (plan : Plan) (fault : PlanFault) → IsTree plan → IsFault plan fault → fault ≡ Memory
tree_fault plan (TooManyNodes count) t h = absurd (omega (arith, t.nodes.few, h.0))
tree_fault plan (DuplicateEpid epid) t h = absurd (t.nodes.distinct h.1.0 epid h.1.1 h.1.3)
tree_fault plan (BadPort k) t h = absurd (h.3 (t.links k h.1).ports)
tree_fault plan (PortTwice k) t h = absurd ((t.links k h.1).once h.4)
tree_fault plan (Cycle k) t h = absurd ((t.links k h.1).apart h.5)
tree_fault plan (Apart x) t h = absurd (h.4 (t.joined x h.2))
tree_fault plan (BadLinkRoom room) t h = absurd (h.3 t.room)
tree_fault plan Memory t h = refl

-- the order of the refusals; those of links are tested together
abbrev pub stage : PlanFault → ℕ
stage (TooManyNodes count) = 1
stage (DuplicateEpid epid) = 2
stage (BadPort k) = 3
stage (PortTwice k) = 3
stage (Cycle k) = 3
stage (Apart x) = 4
stage (BadLinkRoom room) = 5
stage Memory = 0

-- what a refusal tells of the earlier ones
pub few_nodes : (plan : Plan) (fault : PlanFault) → 1 < stage fault → IsFault plan fault → length plan.nodes ≤ plan.limit
few_nodes plan (TooManyNodes count) s h = absurd (omega arith)
few_nodes plan (DuplicateEpid epid) s h = h.0
few_nodes plan (BadPort k) s h = h.0.few
few_nodes plan (PortTwice k) s h = h.0.few
few_nodes plan (Cycle k) s h = h.0.few
few_nodes plan (Apart x) s h = h.0.few
few_nodes plan (BadLinkRoom room) s h = h.0.few
few_nodes plan Memory s h = absurd (omega arith)

pub good_nodes : (plan : Plan) (fault : PlanFault) → 2 < stage fault → IsFault plan fault → HasGoodNodes plan
good_nodes plan (TooManyNodes count) s h = absurd (omega arith)
good_nodes plan (DuplicateEpid epid) s h = absurd (omega arith)
good_nodes plan (BadPort k) s h = h.0
good_nodes plan (PortTwice k) s h = h.0
good_nodes plan (Cycle k) s h = h.0
good_nodes plan (Apart x) s h = h.0
good_nodes plan (BadLinkRoom room) s h = h.0
good_nodes plan Memory s h = absurd (omega arith)

pub sound_links : (plan : Plan) (fault : PlanFault) → 3 < stage fault → IsFault plan fault → SoundBelow plan (length plan.links)
sound_links plan (TooManyNodes count) s h = absurd (omega arith)
sound_links plan (DuplicateEpid epid) s h = absurd (omega arith)
sound_links plan (BadPort k) s h = absurd (omega arith)
sound_links plan (PortTwice k) s h = absurd (omega arith)
sound_links plan (Cycle k) s h = absurd (omega arith)
sound_links plan (Apart x) s h = h.1
sound_links plan (BadLinkRoom room) s h = h.1
sound_links plan Memory s h = absurd (omega arith)

pub all_reached : (plan : Plan) (fault : PlanFault) → 4 < stage fault → IsFault plan fault → (x : ℕ) → x < length plan.nodes → IsReached plan x
all_reached plan (TooManyNodes count) s h = absurd (omega arith)
all_reached plan (DuplicateEpid epid) s h = absurd (omega arith)
all_reached plan (BadPort k) s h = absurd (omega arith)
all_reached plan (PortTwice k) s h = absurd (omega arith)
all_reached plan (Cycle k) s h = absurd (omega arith)
all_reached plan (Apart x) s h = absurd (omega arith)
all_reached plan (BadLinkRoom room) s h = h.2
all_reached plan Memory s h = absurd (omega arith)

-- no stage comes after the last
pub not_above_5 : (fault : PlanFault) → 5 < stage fault → ⊥
not_above_5 (TooManyNodes count) s = omega arith
not_above_5 (DuplicateEpid epid) s = omega arith
not_above_5 (BadPort k) s = omega arith
not_above_5 (PortTwice k) s = omega arith
not_above_5 (Cycle k) s = omega arith
not_above_5 (Apart x) s = omega arith
not_above_5 (BadLinkRoom room) s = omega arith
not_above_5 Memory s = omega arith

-- no refusal holds beside one of a later stage
pub no_later : (plan : Plan) (f g : PlanFault) → 0 < stage f → stage f < stage g → IsFault plan f → IsFault plan g → ⊥
no_later plan (TooManyNodes count) g z s p q = omega (arith, p.0, few_nodes plan g s q)
no_later plan (DuplicateEpid epid) g z s p q = (good_nodes plan g s q).distinct p.1.0 epid p.1.1 p.1.3
no_later plan (BadPort k) g z s p q = p.3 (sound_links plan g s q k p.1).ports
no_later plan (PortTwice k) g z s p q = (sound_links plan g s q k p.1).once p.4
no_later plan (Cycle k) g z s p q = (sound_links plan g s q k p.1).apart p.5
no_later plan (Apart x) g z s p q = p.4 (all_reached plan g s q x p.2)
no_later plan (BadLinkRoom room) g z s p q = absurd (not_above_5 g s)
no_later plan Memory g z s p q = absurd (omega arith)

-- two first duplicates are one, and so are their EPIDs
pub one_duplicate : (plan : Plan) (x y : ℕ) (a b : Epid) → DistinctBelow plan.nodes x → DistinctBelow plan.nodes y → IsDuplicate plan.nodes x a → IsDuplicate plan.nodes y b → a ≡ b
one_duplicate plan x y a b p q d e =
    elim (cases_lt x y) [
      | inl less ↦ absurd (q x a less d)
      | inr more ↦ elim (cases_lt y x) [
        | inl less ↦ absurd (p y b less e)
        | inr less ↦
            let same : x ≡ y = omega arith in
            let both : Some a ≡ Some b = sym d.3 ∙ ap (epid_at plan.nodes) same ∙ e.3 in
            cc
      ]
    ]

-- two first nodes apart are one
pub one_apart : (plan : Plan) (x y : ℕ) → ((z : ℕ) → z < x → IsReached plan z) → ((z : ℕ) → z < y → IsReached plan z) → (IsReached plan x → ⊥) → (IsReached plan y → ⊥) → x ≡ y
one_apart plan x y p q d e =
    elim (cases_lt x y) [
      | inl less ↦ absurd (d (q x less))
      | inr more ↦ elim (cases_lt y x) [ inl less ↦ absurd (e (p y less)) | inr less ↦ omega arith ]
    ]

-- two first unsound links are one
pub one_unsound : (plan : Plan) (j k : ℕ) → SoundBelow plan j → SoundBelow plan k → (IsSound plan j → ⊥) → (IsSound plan k → ⊥) → j ≡ k
one_unsound plan j k s t p q =
    elim (cases_lt j k) [
      | inl less ↦ absurd (p (t j less))
      | inr more ↦ elim (cases_lt k j) [ inl less ↦ absurd (q (s k less)) | inr less ↦ omega arith ]
    ]

-- refusals of one stage are one refusal
pub same_stage : (plan : Plan) (f g : PlanFault) → 0 < stage f → stage f ≡ stage g → IsFault plan f → IsFault plan g → f ≡ g
same_stage plan (TooManyNodes a) (TooManyNodes b) z s p q = ap TooManyNodes (p.1 ∙ sym q.1)
same_stage plan (DuplicateEpid a) (DuplicateEpid b) z s p q = ap DuplicateEpid (one_duplicate plan p.1.0 q.1.0 a b p.1.2 q.1.2 p.1.3 q.1.3)
same_stage plan (BadPort j) (BadPort k) z s p q = ap BadPort (one_unsound plan j k p.2 q.2 (λ t. p.3 t.ports) (λ t. q.3 t.ports))
same_stage plan (BadPort j) (PortTwice k) z s p q = let e = one_unsound plan j k p.2 q.2 (λ t. p.3 t.ports) (λ t. t.once q.4) in absurd (p.3 (subst (λ i. HasPorts plan.nodes (link_of plan.links i)) (sym e) q.3))
same_stage plan (BadPort j) (Cycle k) z s p q = let e = one_unsound plan j k p.2 q.2 (λ t. p.3 t.ports) (λ t. t.apart q.5) in absurd (p.3 (subst (λ i. HasPorts plan.nodes (link_of plan.links i)) (sym e) q.3))
same_stage plan (PortTwice j) (BadPort k) z s p q = let e = one_unsound plan j k p.2 q.2 (λ t. t.once p.4) (λ t. q.3 t.ports) in absurd (q.3 (subst (λ i. HasPorts plan.nodes (link_of plan.links i)) e p.3))
same_stage plan (PortTwice j) (PortTwice k) z s p q = ap PortTwice (one_unsound plan j k p.2 q.2 (λ t. t.once p.4) (λ t. t.once q.4))
same_stage plan (PortTwice j) (Cycle k) z s p q = let e = one_unsound plan j k p.2 q.2 (λ t. t.once p.4) (λ t. t.apart q.5) in absurd (q.4 (subst (IsPortTwice plan.links) e p.4))
same_stage plan (Cycle j) (BadPort k) z s p q = let e = one_unsound plan j k p.2 q.2 (λ t. t.apart p.5) (λ t. q.3 t.ports) in absurd (q.3 (subst (λ i. HasPorts plan.nodes (link_of plan.links i)) e p.3))
same_stage plan (Cycle j) (PortTwice k) z s p q = let e = one_unsound plan j k p.2 q.2 (λ t. t.apart p.5) (λ t. t.once q.4) in absurd (p.4 (subst (IsPortTwice plan.links) (sym e) q.4))
same_stage plan (Cycle j) (Cycle k) z s p q = ap Cycle (one_unsound plan j k p.2 q.2 (λ t. t.apart p.5) (λ t. t.apart q.5))
same_stage plan (Apart x) (Apart y) z s p q = ap Apart (one_apart plan x y p.3 q.3 p.4 q.4)
same_stage plan (BadLinkRoom a) (BadLinkRoom b) z s p q = ap BadLinkRoom (p.4 ∙ sym q.4)
same_stage plan _ _ z s p q = absurd (omega arith)

-- at most one refusal other than running out of memory is the first that holds
pub one_fault : (plan : Plan) (f g : PlanFault) → 0 < stage f → 0 < stage g → IsFault plan f → IsFault plan g → f ≡ g
one_fault plan f g y z p q =
    elim (cases_lt (stage f) (stage g)) [
      | inl less ↦ absurd (no_later plan f g y less p q)
      | inr more ↦ elim (cases_lt (stage g) (stage f)) [
        | inl less ↦ absurd (no_later plan g f z less q p)
        | inr less ↦ same_stage plan f g y (omega arith) p q
      ]
    ]

-- a refusal other than running out of memory has a stage
pub staged : (fault : PlanFault) → fault ≢ Memory → 0 < stage fault
staged (TooManyNodes count) n = omega arith
staged (DuplicateEpid epid) n = omega arith
staged (BadPort k) n = omega arith
staged (PortTwice k) n = omega arith
staged (Cycle k) n = omega arith
staged (Apart x) n = omega arith
staged (BadLinkRoom room) n = omega arith
staged Memory n = absurd (n refl)
