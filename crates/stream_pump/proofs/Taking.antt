-- What was handed out of the stream into an Rx is what the Rx took.
use Rattle.std.proofs.Common.{◌≡◌, ℕ, true, List, [], ◌++◌, take, refl, sym, ap, subst, ◌∙◌}
use Rattle.std.specs.Prelude.{Option, None, Some}
use Rattle.std.specs.Option.{option_map_or}
use Rattle.std.proofs.Math.Seq.{take-append_seam}
use Rattle.chdr_packets.specs.declared.packet.Packet.{Packet}
use Rattle.block_library.specs.Lines.{line_of}
use Rattle.block_library.specs.declared.kind.BlockKind.TheVariants.{Rx}
use Rattle.net_machine.specs.declared.plan.BlockPlan.{BlockPlan}
use Rattle.net_machine.specs.declared.plan.RunPlan.{RunPlan}
use Rattle.net_machine.specs.Plans.{block_at, is_rx, stream_into}
use Rattle.net_machine.specs.State.{State, Stream, stream_at}
use Rattle.net_machine.specs.Streams.{taken_of}
use Rattle.net_machine.specs.Tallies.{line_at, taken_by}
use Rattle.net_present.specs.Fits.{ArePlanned}
use Rattle.net_present.specs.Present.{Present}
use Rattle.net_promises.proofs.Laws.{lawful_fits_present}
use Rattle.fabric_net.specs.Standing.{StandsFor}
use Rattle.stream_pump.specs.Drains.{AreTaken, IsTaken, drain_at, waiting_at}
use Rattle.stream_pump.specs.Telling.{drained_by}

of-stream : (drain waiting : List Packet) (st : Stream) → IsTaken drain waiting st → drain ≡ taken_of st
of-stream drain waiting st is =
    sym (take-append_seam drain waiting)
    ∙ ap (λ k. take k (drain ++ waiting)) (sym is.count)
    ∙ ap (λ (ps : List Packet). take st.taken ps) is.given

by-stream : (p : Present) (w : State) (drains : List (List Packet)) (b : ℕ) → StandsFor p w → AreTaken p w drains
    → is_rx (block_at w.plan b).kind ≡ true → (o : Option ℕ) → stream_into w.plan (block_at w.plan b) 0 ≡ o
    → option_map_or (drain_at drains) o [] ≡ option_map_or (λ s. taken_of (stream_at w s)) o []
by-stream p w drains b stands taken rx None is = refl
by-stream p w drains b stands taken rx (Some s) is =
    of-stream (drain_at drains s) (waiting_at p s) (stream_at w s)
    (taken s ((lawful_fits_present w stands.lawful).ends.takers b 0 s is ∙ rx))

pub drained-is : (p : Present) (w : State) (plan : RunPlan) (drains : List (List Packet)) (b : ℕ) → p.plan ≡ plan → StandsFor p w → AreTaken p w drains
    → is_rx (block_at plan b).kind ≡ true → drained_by plan drains b ≡ taken_by w b
drained-is p w plan drains b same stands taken rx =
    ap (λ (r : RunPlan). drained_by r drains b) is
    ∙ by-stream p w drains b stands taken (subst (λ (r : RunPlan). is_rx (block_at r b).kind ≡ true) is rx) (stream_into w.plan (block_at w.plan b) 0) refl
  where
    is : plan ≡ w.plan
    is = sym same ∙ stands.now.plan

-- so its line is that of its list
pub line-is : (p : Present) (w : State) (plan : RunPlan) (drains : List (List Packet)) (b : ℕ) (block : BlockPlan) → p.plan ≡ plan → StandsFor p w
    → AreTaken p w drains → block ≡ block_at plan b → block.kind ≡ Rx
    → line_of b block.item (option_map_or (drain_at drains) (stream_into plan block 0) []) ≡ line_at w b
line-is p w plan drains b block same stands taken is kind =
    ap (λ (x : BlockPlan). line_of b x.item (option_map_or (drain_at drains) (stream_into plan x 0) [])) is
    ∙ ap (λ (ps : List Packet). line_of b (block_at plan b).item ps)
    (drained-is p w plan drains b same stands taken (ap is_rx (ap (λ (x : BlockPlan). x.kind) (sym is) ∙ kind)))
    ∙ ap (λ (r : RunPlan). line_of b (block_at r b).item (taken_by w b)) (sym same ∙ stands.now.plan)

-- the lists of the other blocks stay
other-lists : (plan : RunPlan) (old new : List (List Packet)) (b c : ℕ) → ArePlanned plan → (c ≡ b → ⊥)
    → ((s : ℕ) → (stream_into plan (block_at plan b) 0 ≡ Some s → ⊥) → drain_at new s ≡ drain_at old s)
    → (o : Option ℕ) → stream_into plan (block_at plan c) 0 ≡ o → option_map_or (drain_at new) o [] ≡ option_map_or (drain_at old) o []
other-lists plan old new b c planned other others None is = refl
other-lists plan old new b c planned other others (Some s) is = others s (λ same. other (planned.once c b 0 0 s is same).0)

pub other-drains : (plan : RunPlan) (old new : List (List Packet)) (b c : ℕ) → ArePlanned plan → (c ≡ b → ⊥)
    → ((s : ℕ) → (stream_into plan (block_at plan b) 0 ≡ Some s → ⊥) → drain_at new s ≡ drain_at old s)
    → drained_by plan new c ≡ drained_by plan old c
other-drains plan old new b c planned other others =
    other-lists plan old new b c planned other others (stream_into plan (block_at plan c) 0) refl
