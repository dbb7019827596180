-- Ports by their numbers: no block has more than two on a side, and a new block changes none.
use Rattle.std.proofs.Common.{◌≡◌, ◌∙◌, ℕ, zero, suc, ◌<◌, ◌≤◌, refl, sym, ap, subst, List, [], ◌∷◌, ◌++◌, length, map, Bool, true, false, ◌||◌, eqb, Contains, arith, rules}
use Rattle.std.specs.List.{list_any, IsDistinct}
use Rattle.std.proofs.lemmas.Map.Steps.{length-le_from_distinct_below}
use Rattle.std.proofs.lemmas.List.Elements.{Contains-append_right}
use Rattle.block_library.specs.declared.kind.BlockKind.{BlockKind}
use Rattle.block_library.specs.declared.kind.BlockKind.TheVariants.{Tx, Rx, Fifo, Split, Keep, Repeat, Replay, Switch, Sink}
use Rattle.graph_core.specs.declared.place.Side.{Side}
use Rattle.graph_core.specs.declared.place.Side.TheVariants.{Into, Out}
use Rattle.graph_core.specs.declared.place.PortAt.{PortAt}
use Rattle.graph_core.specs.Edges.{port_number}
use Rattle.graph_core.specs.Ports.{port_count, ports_at, IsPort}

pub two_ports : (side : Side) (kind : BlockKind) → port_count side kind ≤ 2
two_ports Into Tx = omega arith
two_ports Into Rx = omega arith
two_ports Into Fifo = omega arith
two_ports Into Split = omega arith
two_ports Into (Keep n) = omega arith
two_ports Into (Repeat n) = omega arith
two_ports Into (Replay n) = omega arith
two_ports Into (Switch n) = omega arith
two_ports Into Sink = omega arith
two_ports Out Tx = omega arith
two_ports Out Rx = omega arith
two_ports Out Fifo = omega arith
two_ports Out Split = omega arith
two_ports Out (Keep n) = omega arith
two_ports Out (Repeat n) = omega arith
two_ports Out (Replay n) = omega arith
two_ports Out (Switch n) = omega arith
two_ports Out Sink = omega arith

pub ports_at_two : (kinds : List BlockKind) (block : ℕ) (side : Side) → ports_at kinds block side ≤ 2
ports_at_two [] block side = omega arith
ports_at_two (kind ∷ kinds) zero side = two_ports side kind
ports_at_two (kind ∷ kinds) (suc block) side = ports_at_two kinds block side

pub block_below : (kinds : List BlockKind) (block : ℕ) (side : Side) → 0 < ports_at kinds block side → block < length kinds
block_below [] block side h = absurd (omega arith)
block_below (kind ∷ kinds) zero side h = omega arith
block_below (kind ∷ kinds) (suc block) side h = let r = block_below kinds block side h in omega arith

pub more_ports : (kinds : List BlockKind) (kind : BlockKind) (block : ℕ) (side : Side) → ports_at kinds block side ≤ ports_at (kinds ++ kind ∷ []) block side
more_ports [] kind block side = omega arith
more_ports (k ∷ kinds) kind zero side = omega arith
more_ports (k ∷ kinds) kind (suc block) side = more_ports kinds kind block side

-- the number tells the port, where no port is above 1
pub same_port : (one other : PortAt) → one.port < 2 → other.port < 2 → port_number one ≡ port_number other → one ≡ other
same_port one other a b e =
    let block : one.block ≡ other.block = omega arith in
    let port : one.port ≡ other.port = omega arith in
    λ i. record { block = block i; port = port i }

pub number_below : (kinds : List BlockKind) (side : Side) (at : PortAt) → length kinds ≤ 32 → IsPort kinds side at → port_number at < 64
number_below kinds side at few port =
    let two = ports_at_two kinds at.block side in
    let below = block_below kinds at.block side (omega arith) in
    omega arith

module _ {X : Type 0} (f : X → ℕ) where
  -- a number of the list is the number of some item
  pub any_item : (xs : List X) (q : ℕ) → list_any (eqb q) (map f xs) ≡ true → (x : X) × Contains xs x × (q ≡ f x)
  any_item [] q h = let z : false ≡ true = h in absurd cc
  any_item (x ∷ xs) q h = by (eqb q (f x)) refl (any_item xs q)
    where
      by : (b : Bool) → eqb q (f x) ≡ b → (list_any (eqb q) (map f xs) ≡ true → (y : X) × Contains xs y × (q ≡ f y)) → (y : X) × Contains (x ∷ xs) y × (q ≡ f y)
      by true e rest = (x, (0, omega arith, refl), search (rules, e))
      by false e rest = let r = rest (sym (ap (λ b. b || list_any (eqb q) (map f xs)) e) ∙ h) in (r.0, Contains-append_right (x ∷ []) xs r.0 r.1, r.2)

  pub few_items : (xs : List X) (n : ℕ) → IsDistinct eqb (map f xs) → ((x : X) → Contains xs x → f x < n) → length (map f xs) ≤ n
  few_items xs n distinct below = length-le_from_distinct_below (map f xs) n distinct (λ q h. let r = any_item xs q h in subst (λ k. k < n) (sym r.2) (below r.0 r.1))
