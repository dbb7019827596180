-- Blocks at their places, seen through what contracts read of each.
use Rattle.std.proofs.Common.{◌≡◌, ℕ, ◌<◌, List, length, sym, ◌∙◌, ap, subst, get_or, set, None}
use Rattle.std.specs.Prelude.{map}
use Rattle.std.proofs.Math.Seq.{map-set_same}
use Rattle.std.proofs.lemmas.List.{map-set, get_or-map, get_or-set_same, length-set}
use Rattle.net_present.specs.Kept.{block_now_at, idle_block}
use Rattle.net_present.specs.Present.{BlockNow}
use Rattle.fabric_parts.specs.Blocks.{BlockSeen}
use Rattle.fabric_lists.specs.BlocksView.{block_in, blocks_of, made_in, made_of, made_seen}

-- what is kept of a block that was read
pub block-at : (parts : List BlockSeen) (b : ℕ) (part : BlockSeen) → b < length parts → part ≡ get_or parts b part
    → part.now ≡ block_now_at (blocks_of parts) b
block-at parts b part there is = ap block_in is ∙ sym (get_or-map block_in parts b part (idle_block b) there)

-- a block that was written is seen at its place
pub block-set : (parts : List BlockSeen) (b : ℕ) (part : BlockSeen) (next : BlockNow) → part.now ≡ next
    → blocks_of (set parts b part) ≡ set (blocks_of parts) b next
block-set parts b part next is = map-set block_in parts b part ∙ ap (set (map block_in parts) b) is

-- what is kept is as before
pub block-same : (parts : List BlockSeen) (b : ℕ) (old new : BlockSeen) → old ≡ get_or parts b old → new.now ≡ old.now
    → blocks_of (set parts b new) ≡ blocks_of parts
block-same parts b old new is then = map-set_same block_in parts b new old (then ∙ ap block_in is)

-- what a block that was written has made
pub made-there : (parts : List BlockSeen) (b : ℕ) (part : BlockSeen) → b < length parts → made_seen (made_of (set parts b part)) b ≡ part.prepared
made-there parts b part there =
    let within : b < length (set parts b part) = length-set-within parts b part there in
    get_or-map made_in (set parts b part) b part None within ∙ ap made_in (get_or-set_same parts b part part there)
  where
    length-set-within : (xs : List BlockSeen) (i : ℕ) (x : BlockSeen) → i < length xs → i < length (set xs i x)
    length-set-within xs i x h = subst (λ (n : ℕ). i < n) (sym (length-set xs i x)) h
