-- What a closed derivation says of each cause of a refusal.
use Rattle.std.proofs.Common.{◌≡◌, ◌∙◌, ℕ, ◌⊎◌, inl, inr, refl, sym, ap, subst, List, [], ◌∷◌, Contains, arith}
use Rattle.std.proofs.lemmas.List.Elements.{Contains-append_right}
use Rattle.graph_core.specs.declared.place.Prop.{Prop}
use Rattle.graph_core.specs.declared.place.PropAt.{PropAt}
use Rattle.graph_core.specs.declared.place.Rule.{Rule}
use Rattle.graph_core.specs.declared.place.Rule.TheVariants.{Block as block_rule}
use Rattle.property_resolver.specs.declared.fault.CommitFault.{CommitFault}
use Rattle.property_resolver.specs.declared.fault.CommitFault.TheVariants.{Clash, NotWhole, Unsettled, Memory}
use Rattle.graph_core.specs.Derivation.{Diagram, IsClosed, Settles}
use Rattle.graph_core.specs.Pairs.{Pair, Lacks}
use Rattle.graph_core.specs.Ports.{properties}
use Rattle.graph_core.proofs.Laws.{included, one_value}
use Rattle.property_resolver.specs.Causes.{IsCause, IsClash, IsNotWhole}
use Rattle.property_resolver.specs.Missing.{AllHeld, IsFirstMissing}
use Rattle.property_resolver.specs.Spreads.{HasAll}
use Rattle.property_resolver.proofs.Found.{one_held}
use Rattle.property_resolver.proofs.Listed.{listed, is_listed}

pub settled_from_held : (diagram : Diagram) (pairs : List Pair) → IsClosed diagram pairs → AllHeld pairs (properties diagram.kinds) → Settles diagram pairs
settled_from_held diagram pairs closed held = record { closed = closed; full = λ at p. one_held pairs (properties diagram.kinds) at held (listed diagram.kinds at p) }

first_in : (pairs : List Pair) (xs : List PropAt) (at : PropAt) → IsFirstMissing pairs xs at → Contains xs at × Lacks pairs at
first_in pairs [] at h = absurd h
first_in pairs (x ∷ xs) at (inl now) = ((0, omega arith, now.1), subst (Lacks pairs) now.1 now.0)
first_in pairs (x ∷ xs) at (inr later) = let r = first_in pairs xs at later.1 in (Contains-append_right (x ∷ []) xs at r.0, r.1)

-- two lists with the same pairs lack the same property first
same_first : (one other : List Pair) → HasAll one other → HasAll other one → (xs : List PropAt) (a b : PropAt) → IsFirstMissing one xs a → IsFirstMissing other xs b → a ≡ b
same_first one other there back [] a b h k = absurd h
same_first one other there back (x ∷ xs) a b (inl h) (inl k) = sym h.1 ∙ k.1
same_first one other there back (x ∷ xs) a b (inl h) (inr k) = absurd (h.0 k.0.0 (back x k.0.0 k.0.1))
same_first one other there back (x ∷ xs) a b (inr h) (inl k) = absurd (k.0 h.0.0 (there x h.0.0 h.0.1))
same_first one other there back (x ∷ xs) a b (inr h) (inr k) = same_first one other there back xs a b h.1 k.1

module _ (diagram : Diagram) (other : List Pair) (closed : IsClosed diagram other) where
  no_clash : (by : Rule) (prop : Prop) (held derived : ℕ) → IsClash diagram by prop held derived → ⊥
  no_clash by prop held derived c = c.apart (one_value diagram other closed.derivation c.at held derived
      (included diagram c.pairs other c.derivation closed c.at held c.holds)
      ((closed.spread c.from c.value (included diagram c.pairs other c.derivation closed c.from c.value c.there)).given by c.at derived c.gives))

  no_fraction : (block value : ℕ) → IsNotWhole diagram block value → ⊥
  no_fraction block value c = (closed.spread c.from value (included diagram c.pairs other c.derivation closed c.from value c.there)).whole (block_rule block) c.to c.fails

  pub only_unsettled : (at : PropAt) → IsFirstMissing other (properties diagram.kinds) at → (fault : CommitFault) → IsCause diagram fault → (fault ≡ Unsettled at) ⊎ (fault ≡ Memory)
  only_unsettled at first (Clash by prop held derived) c = absurd (no_clash by prop held derived c)
  only_unsettled at first (NotWhole block value) c = absurd (no_fraction block value c)
  only_unsettled at first (Unsettled missing) c = inl (ap (λ p. Unsettled p)
      (same_first c.pairs other (λ q u h. included diagram c.pairs other c.closed.derivation closed q u h) (λ q u h. included diagram other c.pairs closed.derivation c.closed q u h)
      (properties diagram.kinds) missing at c.least first))
  only_unsettled at first Memory c = inr refl

module _ (diagram : Diagram) (values : List Pair) (settles : Settles diagram values) where
  -- no closed derivation lacks a property where some values settle the graph
  pub none_missing : (pairs : List Pair) (at : PropAt) → IsClosed diagram pairs → IsFirstMissing pairs (properties diagram.kinds) at → ⊥
  none_missing pairs at closed first =
      let r = first_in pairs (properties diagram.kinds) at first in
      let held = settles.full at (is_listed diagram.kinds at r.0) in
      r.1 held.0 (included diagram values pairs settles.closed.derivation closed at held.0 held.1)

  pub only_memory : (fault : CommitFault) → IsCause diagram fault → fault ≡ Memory
  only_memory (Clash by prop held derived) c = absurd (no_clash diagram values settles.closed by prop held derived c)
  only_memory (NotWhole block value) c = absurd (no_fraction diagram values settles.closed block value c)
  only_memory (Unsettled missing) c = absurd (none_missing c.pairs missing c.closed c.least)
  only_memory Memory c = refl
