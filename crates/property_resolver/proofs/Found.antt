-- A search for the first property that some pairs lack, list after list.
use Rattle.std.proofs.Common.{◌≡◌, ℕ, zero, suc, ◌+◌, ◌<◌, ◌≤◌, ◌⊎◌, inl, inr, ⊎_elim, refl, sym, subst, List, [], ◌∷◌, ◌++◌, length, drop, drop-cons, get_or, Contains, Some, None, Option, arith}
use Rattle.std.proofs.lemmas.Bool.{cases_lt}
use Rattle.block_library.specs.declared.kind.BlockKind.{BlockKind}
use Rattle.graph_core.specs.declared.place.Side.{Side}
use Rattle.graph_core.specs.declared.place.PropAt.{PropAt}
use Rattle.graph_core.specs.Pairs.{Pair, Holds}
use Rattle.graph_core.specs.Ports.{side_properties, port_properties, block_properties, properties_from}
use Rattle.property_resolver.specs.Missing.{AllHeld, IsFirstMissing, Finds}

module _ (pairs : List Pair) where
  pub held_append : (xs ys : List PropAt) → AllHeld pairs xs → AllHeld pairs ys → AllHeld pairs (xs ++ ys)
  held_append [] ys a b = b
  held_append (x ∷ xs) ys a b = (a.0, held_append xs ys a.1 b)

  pub first_append : (xs ys : List PropAt) (at : PropAt) → IsFirstMissing pairs xs at → IsFirstMissing pairs (xs ++ ys) at
  first_append [] ys at h = absurd h
  first_append (x ∷ xs) ys at (inl now) = inl now
  first_append (x ∷ xs) ys at (inr later) = inr (later.0, first_append xs ys at later.1)

  pub finds_append : (xs ys : List PropAt) (found : Option PropAt) → AllHeld pairs xs → Finds pairs ys found → Finds pairs (xs ++ ys) found
  finds_append [] ys found a h = h
  finds_append (x ∷ xs) ys None a h = (a.0, finds_append xs ys None a.1 h)
  finds_append (x ∷ xs) ys (Some at) a h = inr (a.0, finds_append xs ys (Some at) a.1 h)

  sides_more : (block : ℕ) (side : Side) (m n : ℕ) (at : PropAt) → m ≤ n → IsFirstMissing pairs (side_properties block side m) at → IsFirstMissing pairs (side_properties block side n) at
  sides_more block side zero zero at le h = h
  sides_more block side (suc m) zero at le h = absurd (omega arith)
  sides_more block side m (suc n) at le h = ⊎_elim
      (λ lt. first_append (side_properties block side n) (port_properties block side n) at (sides_more block side m n at (omega arith) h))
      (λ ge. let e : m ≡ suc n = omega arith in subst (λ k. IsFirstMissing pairs (side_properties block side k) at) e h)
      (cases_lt m (suc n))

  module _ (block : ℕ) (side : Side) (port : ℕ) (before : AllHeld pairs (side_properties block side port)) where
    pub port_held : AllHeld pairs (port_properties block side port) → AllHeld pairs (side_properties block side (port + 1))
    port_held h = let e : suc port ≡ port + 1 = omega arith in
        subst (λ n. AllHeld pairs (side_properties block side n)) e (held_append (side_properties block side port) (port_properties block side port) before h)

    pub port_first : (ports : ℕ) (at : PropAt) → port < ports → IsFirstMissing pairs (port_properties block side port) at → IsFirstMissing pairs (side_properties block side ports) at
    port_first ports at lt h = sides_more block side (suc port) ports at (omega arith)
        (finds_append (side_properties block side port) (port_properties block side port) (Some at) before h)

  -- from the blocks that are left after one to those that were left before it
  pub blocks_step : (kinds : List BlockKind) (block : ℕ) (d : BlockKind) → block < length kinds → (found : Option PropAt)
      → Finds pairs (block_properties block (get_or kinds block d) ++ properties_from (block + 1) (drop (block + 1) kinds)) found → Finds pairs (properties_from block (drop block kinds)) found
  blocks_step kinds block d lt found h = let e : block + 1 ≡ suc block = omega arith in
      subst (λ l. Finds pairs (properties_from block l) found) (sym (drop-cons kinds block d lt))
      (subst (λ n. Finds pairs (block_properties block (get_or kinds block d) ++ properties_from (block + 1) (drop n kinds)) found) e h)

  pub one_held : (xs : List PropAt) (at : PropAt) → AllHeld pairs xs → Contains xs at → Holds pairs at
  one_held [] at a h = absurd (omega (arith, h.1))
  one_held (x ∷ xs) at a h = ⊎_elim (λ here. subst (Holds pairs) (here.2) a.0) (λ there. one_held xs at a.1 there) (cases h)
    where
      cases : Contains (x ∷ xs) at → ((k : ℕ) × (k ≡ 0) × (x ≡ at)) ⊎ Contains xs at
      cases (zero, lt, e) = inl (0, refl, e)
      cases (suc k, lt, e) = inr (k, omega arith, e)
