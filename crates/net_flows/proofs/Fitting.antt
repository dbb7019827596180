-- The forms of packets at a block: what comes to it and what it gives have its own, and each is within the capacity.
use Rattle.std.proofs.Common.{◌≡◌, ℕ, ◌*◌, ◌<◌, ◌≤◌, ◌⊎◌, inl, inr, Bool, true, false, IsTrue, List, [], ◌∷◌, ◌++◌, length, refl, sym, ◌∙◌, ap, subst, arith, cond, if◌then◌else◌}
use Rattle.std.specs.Prelude.{Option, None, Some, IsSome, is_some}
use Rattle.std.specs.List.{All, list_any}
use Rattle.std.specs.Option.{option_map_or}
use Rattle.std.proofs.lemmas.List.Elements.{All-head, All-nil, All-push, All-tail, All-take, All-weaker}
use Rattle.std.proofs.lemmas.List.Folds.{list_any_at}
use Rattle.std.proofs.lemmas.List.Quantifiers.{position-Some}
use Rattle.block_library.proofs.Laws.{fed_bounds_given, within_is_small}
use Rattle.block_library.specs.Blocks.{IsFeed, closes, open_group, payload_in}
use Rattle.block_library.specs.Memory.{gives, group_of, kept_of}
use Rattle.block_library.specs.Within.{GivesWithin, IsWithin}
use Rattle.block_library.specs.declared.kind.BlockKind.{BlockKind}
use Rattle.block_library.specs.declared.kind.BlockKind.TheVariants.{Tx, Rx, Fifo, Split, Keep, Repeat, Replay, Switch, Sink}
use Rattle.chdr_packets.specs.Length.{wire_of}
use Rattle.chdr_packets.specs.declared.packet.Packet.{Packet}
use Rattle.net_topology.specs.declared.plan.Plan.{Plan}
use Rattle.net_machine.specs.declared.plan.BlockPlan.{BlockPlan}
use Rattle.net_machine.specs.declared.plan.RunPlan.{RunPlan}
use Rattle.net_machine.specs.Blocks.{fed_to, kept_at}
use Rattle.net_machine.specs.CanBegin.{is_timed, may_tell_time, size_from}
use Rattle.net_machine.specs.Plans.{block_at, is_among, is_tx, no_block, plan_at, producer_of, stream_into}
use Rattle.net_machine.specs.State.{State, stream_at}
use Rattle.net_machine.specs.Streams.{taken_of}
use Rattle.net_flows.specs.Forms.{HaveForms, IsPacketOn}
use Rattle.net_flows.specs.Lasting.{IsSound}
use Rattle.net_flows.proofs.Ports.{IsInto, into-of}

-- a packet has the form of those of block b
abbrev pub IsOfBlock : RunPlan → ℕ → Packet → Type 0
IsOfBlock plan b p = IsWithin (block_at plan b).item ((block_at plan b).spp * (block_at plan b).item) (may_tell_time plan (block_at plan b)) p

-- the form of a stream whose producer is known or not
abbrev FormBy : RunPlan → Option ℕ → Packet → Type 0
FormBy plan o p = IsWithin (option_map_or (λ b. (block_at plan b).item) o 0) (option_map_or (λ b. (block_at plan b).spp * (block_at plan b).item) o 0)
    (option_map_or (λ b. may_tell_time plan (block_at plan b)) o false) p

pub on-producer : (plan : RunPlan) (t b : ℕ) → producer_of plan t ≡ Some b → (p : Packet) → IsOfBlock plan b p → IsPacketOn plan t p
on-producer plan t b is p form = subst (λ (o : Option ℕ). FormBy plan o p) (sym is) form

of-producer : (plan : RunPlan) (t b : ℕ) → producer_of plan t ≡ Some b → (p : Packet) → IsPacketOn plan t p → IsOfBlock plan b p
of-producer plan t b is p form = subst (λ (o : Option ℕ). FormBy plan o p) is form

record IsThere (o : Option ℕ) : Type 0 where
  value : ℕ
  is : o ≡ Some value

there-is : (o : Option ℕ) → IsSome o → IsThere o
there-is None h = cc
there-is (Some b) h = record { value = b; is = refl }

-- ---- within the capacity

pub fits-capacity : (tree : Plan) (plan : RunPlan) (t : ℕ) → IsSound tree plan → t < length plan.streams → (p : Packet) → IsPacketOn plan t p → wire_of p ≤ (plan_at plan t).flow.cap_bytes
fits-capacity tree plan t sound there p form =
    let b = there-is (producer_of plan t) (sound.ports t there).0 in
    let of = of-producer plan t b.value b.is p form in
    let valid = sound.fits.flows t there in
    let small : size_from plan (block_at plan b.value) ≤ (plan_at plan t).flow.max =
    subst (λ (o : Option ℕ). option_map_or (λ a. size_from plan (block_at plan a)) o 0 ≤ (plan_at plan t).flow.max) b.is (sound.small t there) in
    let wire : wire_of p ≤ size_from plan (block_at plan b.value) =
    (within_is_small (block_at plan b.value).item ((block_at plan b.value).spp * (block_at plan b.value).item) (may_tell_time plan (block_at plan b.value)) p of).0 in
    let enough = valid.enough_bytes in
    omega (arith, small, wire, enough)

pub all-fit : (tree : Plan) (plan : RunPlan) (t : ℕ) → IsSound tree plan → t < length plan.streams → (ps : List Packet) → All (IsPacketOn plan t) ps → All (λ p. wire_of p ≤ (plan_at plan t).flow.cap_bytes) ps
all-fit tree plan t sound there ps each = All-weaker (IsPacketOn plan t) (λ (p : Packet). wire_of p ≤ (plan_at plan t).flow.cap_bytes) (fits-capacity tree plan t sound there) ps each

-- ---- what comes to a block

-- where packets from one block may tell times, so may those from a block that makes none by itself
times-go_on : (plan : RunPlan) (a b : ℕ) → a < length plan.blocks → is_tx (block_at plan b).kind ≡ false → IsTrue (may_tell_time plan (block_at plan a)) → IsTrue (may_tell_time plan (block_at plan b))
times-go_on plan a b lt not_tx h =
    subst (λ (k : Bool). IsTrue (if k then is_some (block_at plan b).time else list_any is_timed plan.blocks)) (sym not_tx) (by_kind (is_tx (block_at plan a).kind) refl h)
  where
    by_kind : (k : Bool) → is_tx (block_at plan a).kind ≡ k → IsTrue (if k then is_some (block_at plan a).time else list_any is_timed plan.blocks) → list_any is_timed plan.blocks ≡ true
    by_kind true is g = list_any_at is_timed plan.blocks a no_block lt (subst (λ (k : Bool). (if k then is_some (block_at plan a).time else false) ≡ true) (sym is) g)
    by_kind false is g = g

pub into-form : (tree : Plan) (plan : RunPlan) (b i s : ℕ) → IsSound tree plan → IsInto plan b i s → is_tx (block_at plan b).kind ≡ false → (p : Packet) → IsPacketOn plan s p → IsOfBlock plan b p
into-form tree plan b i s sound into not_tx p form =
    let a = there-is (producer_of plan s) (sound.ports s into.there).0 in
    let lt = (position-Some (λ (block : BlockPlan). is_among (plan_at plan s).from block.outs) plan.blocks a.value no_block a.is).0 in
    let one = sound.fits.forms s into.there a.value b a.is into.consumer in
    let of = of-producer plan s a.value a.is p form in
    let size : length (payload_in p.body) ≤ (block_at plan b).spp * (block_at plan b).item =
    subst (λ (n : ℕ). length (payload_in p.body) ≤ n) (ap (λ (n : ℕ). n * (block_at plan a.value).item) one.spp ∙ ap (λ (n : ℕ). (block_at plan b).spp * n) one.item) of.size in
    record {
      feed = subst (λ (n : ℕ). IsFeed n p) one.item of.feed;
      size = size;
      time = λ tells. times-go_on plan a.value b lt not_tx (of.time tells);
    }

-- ---- the group that a block keeps

group-open : (P : Packet → Type 0) (group ps : List Packet) → All P group → All P ps → All P (open_group group ps)
unfolding open_group
group-open P group [] each more = each
group-open P group (p ∷ ps) each more =
    elim (closes group p) as (λ b. All P (cond b (open_group [] ps) (open_group (group ++ p ∷ []) ps))) [
      | true ↦ group-open P [] ps (All-nil P) (All-tail P p ps more)
      | false ↦ group-open P (group ++ p ∷ []) ps (All-push P group p each (All-head P p ps more)) (All-tail P p ps more)
    ]

group-fed : (P : Packet → Type 0) (kind : BlockKind) (ps : List Packet) → All P ps → All P (group_of kind ps)
group-fed P Tx ps each = All-nil P
group-fed P Rx ps each = All-nil P
group-fed P Fifo ps each = All-nil P
group-fed P Split ps each = All-nil P
group-fed P (Keep n) ps each = All-nil P
group-fed P (Repeat n) ps each = All-nil P
group-fed P (Replay n) ps each = group-open P [] ps (All-nil P) each
group-fed P (Switch n) ps each = All-nil P
group-fed P Sink ps each = All-nil P

fed-form : (w : State) (b : ℕ) → IsSound w.tree w.plan → b < length w.plan.blocks → is_tx (block_at w.plan b).kind ≡ false → length w.streams ≡ length w.plan.streams → HaveForms w →
    All (IsOfBlock w.plan b) (fed_to w (block_at w.plan b) 0)
fed-form w b sound lt not_tx as_many forms = by_stream (stream_into w.plan (block_at w.plan b) 0) refl
  where
    by_stream : (o : Option ℕ) → stream_into w.plan (block_at w.plan b) 0 ≡ o → All (IsOfBlock w.plan b) (option_map_or (λ (s : ℕ). taken_of (stream_at w s)) o [])
    by_stream None is = All-nil (IsOfBlock w.plan b)
    by_stream (Some s) is =
        let into = into-of w.tree w.plan b 0 s sound lt is in
        let form = forms s (subst (λ (n : ℕ). s < n) (sym as_many) into.there) in
        All-take (IsOfBlock w.plan b) (stream_at w s).taken (stream_at w s).given
        (All-weaker (IsPacketOn w.plan s) (IsOfBlock w.plan b) (into-form w.tree w.plan b 0 s sound into not_tx) (stream_at w s).given form.given)

-- ---- what a block gives

some-item : (item : ℕ) → (item ≡ 4) ⊎ (item ≡ 8) → 0 < item
some-item item (inl four) = omega (arith, four)
some-item item (inr eight) = omega (arith, eight)

-- what block b gives for a packet has its form
pub record GivesForm (w : State) (b i : ℕ) (p : Packet) : Type 0 where
  pub first : All (IsOfBlock w.plan b) (gives (kept_at w (block_at w.plan b)) i p).first
  pub second : All (IsOfBlock w.plan b) (gives (kept_at w (block_at w.plan b)) i p).second

pub gives-form : (w : State) (b i : ℕ) (p : Packet) → IsSound w.tree w.plan → b < length w.plan.blocks → is_tx (block_at w.plan b).kind ≡ false → length w.streams ≡ length w.plan.streams → HaveForms w →
    IsOfBlock w.plan b p → GivesForm w b i p
unfolding kept_of
gives-form w b i p sound lt not_tx as_many forms here =
    let block = block_at w.plan b in
    let fits = sound.fits.blocks b lt in
    let within : GivesWithin (block.spp * block.item) (may_tell_time w.plan block) (kept_at w block) i p =
    fed_bounds_given (block.spp * block.item) (may_tell_time w.plan block) (kept_at w block) i p fits.kind (some-item block.item fits.source.item)
    (group-fed (IsOfBlock w.plan b) block.kind (fed_to w block 0) (fed-form w b sound lt not_tx as_many forms)) here in
    record { first = within.first; second = within.second }
