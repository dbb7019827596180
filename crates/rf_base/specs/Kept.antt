-- What a call says of each whole value of which its object keeps a part.
use Rattle.std.specs.Prelude.{◌≡◌}

-- The answer of a call at `old` is `f` of every whole value of which `old` is kept. A contract says besides
-- what the answer is by `old` itself, since this says nothing if there is no such whole value.
abbrev pub Tells : {W V A : Type 0} → (W → V) → V → A → (W → A) → Type 0
Tells {W} kept old answer f = (whole : W) → old ≡ kept whole → answer ≡ f whole

-- a call leads from `old` to `new` as `next` leads every whole value of which `old` is kept
abbrev pub Follows : {W V : Type 0} → (W → V) → V → V → (W → W) → Type 0
Follows kept old new next = Tells kept old new (λ whole. kept (next whole))
