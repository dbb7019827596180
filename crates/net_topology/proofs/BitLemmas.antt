-- The bits of the ports that have a link.
use Rattle.std.proofs.Common.{◌≡◌, ℕ, zero, suc, ◌+◌, ◌/◌, ◌^◌, ◌<◌, Bool, true, false, cond, List, inl, inr, sym, ◌∙◌, refl, ap, arith}
use Rattle.std.specs.Int.{bit_at}
use Rattle.std.specs.Prelude.{is_some}
use Rattle.std.proofs.lemmas.Bool.{cases_eq}
use Rattle.std.proofs.lemmas.Nat.Bits.{bit_at_lowest, bit_at-suc}
use Rattle.std.proofs.Math.Nat.{pow-suc}
use Rattle.net_topology.specs.declared.plan.LinkPlan.{LinkPlan}
use Rattle.net_topology.specs.Links.{link_at}
use Rattle.net_topology.specs.Ports.{link_bits}

-- a number below 2 ^ n, with bit n set too
pub half_below : (n bits : ℕ) → bits < 2 ^ suc n → bits / 2 < 2 ^ n
half_below n bits h = omega (arith, h, pow-suc 2 n)

pub half_more : (n bits : ℕ) → (bits + 2 ^ suc n) / 2 ≡ bits / 2 + 2 ^ n
half_more n bits = omega (arith, pow-suc 2 n)

pub bit_at-top : (n bits : ℕ) → bits < 2 ^ n → bit_at (bits + 2 ^ n) n ≡ 1
bit_at-top zero bits h = let none : bits ≡ 0 = omega (arith, h) in ap (λ b. bit_at (b + 1) 0) none
bit_at-top (suc n) bits h =
    bit_at-suc (bits + 2 ^ suc n) n ∙ ap (λ b. bit_at b n) (half_more n bits) ∙ bit_at-top n (bits / 2) (half_below n bits h)

pub bit_at-below : (n port bits : ℕ) → port < n → bit_at (bits + 2 ^ n) port ≡ bit_at bits port
bit_at-below zero port bits l = absurd (omega (arith, l))
bit_at-below (suc n) zero bits l =
    omega (arith, bit_at_lowest (bits + 2 ^ suc n), bit_at_lowest bits, pow-suc 2 n)
bit_at-below (suc n) (suc port) bits l =
    bit_at-suc (bits + 2 ^ suc n) port ∙ ap (λ b. bit_at b port) (half_more n bits) ∙ bit_at-below n port (bits / 2) (omega (arith, l)) ∙ sym (bit_at-suc bits port)

pub bit_at-above : (n bits : ℕ) → bits < 2 ^ n → bit_at bits n ≡ 0
bit_at-above zero bits h = let none : bits ≡ 0 = omega (arith, h) in ap (λ b. bit_at b 0) none
bit_at-above (suc n) bits h = bit_at-suc bits n ∙ bit_at-above n (bits / 2) (half_below n bits h)

-- one as a number
abbrev pub one_if : Bool → ℕ
one_if b = cond b 1 0

module _ (links : List LinkPlan) (node : ℕ) where
  pub link_bits-below : (n : ℕ) → link_bits links node n < 2 ^ n
  link_bits-below zero = omega arith
  link_bits-below (suc n) =
      let h = link_bits-below n in
      elim (is_some (link_at links node n)) as (λ b. link_bits links node n + cond b (2 ^ n) 0 < 2 ^ suc n) [
        | true ↦ omega (arith, h, pow-suc 2 n)
        | false ↦ omega (arith, h, pow-suc 2 n)
      ]

  -- one more port
  pub bit-top : (n bits : ℕ) (b : Bool) → bits < 2 ^ n → bit_at (bits + cond b (2 ^ n) 0) n ≡ one_if b
  bit-top n bits true h = bit_at-top n bits h
  bit-top n bits false h = let same : bits + 0 ≡ bits = omega arith in ap (λ b. bit_at b n) same ∙ bit_at-above n bits h

  pub bit-kept : (n port bits : ℕ) (b : Bool) → port < n → bit_at (bits + cond b (2 ^ n) 0) port ≡ bit_at bits port
  bit-kept n port bits true l = bit_at-below n port bits l
  bit-kept n port bits false l = let same : bits + 0 ≡ bits = omega arith in ap (λ b. bit_at b port) same

  pub bit_at-link_bits : (n port : ℕ) → port < n → bit_at (link_bits links node n) port ≡ one_if (is_some (link_at links node port))
  bit_at-link_bits zero port l = absurd (omega (arith, l))
  bit_at-link_bits (suc n) port l =
      elim (cases_eq port n) [
        | inl e ↦ ap (bit_at (link_bits links node (suc n))) e ∙ bit-top n (link_bits links node n) (is_some (link_at links node n)) (link_bits-below n) ∙ ap (λ p. one_if (is_some (link_at links node p))) (sym e)
        | inr ne ↦ bit-kept n port (link_bits links node n) (is_some (link_at links node n)) (omega (arith, l, ne)) ∙ bit_at-link_bits n port (omega (arith, l, ne))
      ]

pub bit_from_one : (b : Bool) → one_if b ≡ 1 → b ≡ true
bit_from_one true h = refl
bit_from_one false h = absurd (omega (arith, h))
