-- A feeding keeps it that what was sent and is ready is what was made.
use Rattle.std.proofs.Common.{◌≡◌, ℕ, ◌+◌, ◌≤◌, ◌<◌, ◌⊎◌, inl, inr, Bool, true, false, IsTrue, List, [], ◌++◌, length, refl, sym, ◌∙◌, ap, subst, get_or, arith, append-nil, eq-eqb, zero, suc, if◌then◌else◌}
use Rattle.std.specs.Prelude.{Option, Some, None, slice_get, ◌==◌, ◌||◌}
use Rattle.std.specs.Option.{option_and_then, option_map_or}
use Rattle.std.proofs.lemmas.Bool.{cases_Bool, eqb-true, false≢true}
use Rattle.std.proofs.lemmas.List.{get_or_past}
use Rattle.std.proofs.lemmas.List.Quantifiers.{position-Some}
use Rattle.std.proofs.lemmas.Option.{get_or_from_slice_get, none-some, option_and_then_some, same_Some, slice_get_cases, slice_get_within}
use Rattle.block_library.specs.Blocks.{Lists, block_of, inputs}
use Rattle.block_library.specs.Memory.{gives, lists}
use Rattle.block_library.specs.declared.kind.BlockKind.{BlockKind}
use Rattle.block_library.proofs.Laws.{history_goes_on}
use Rattle.chdr_packets.specs.declared.packet.Packet.{Packet}
use Rattle.chdr_words.specs.declared.epid.Epid.{Epid}
use Rattle.net_topology.specs.Tree.{FitsNode, FitsPlan, IsTree, epid_of, node_with}
use Rattle.net_topology.specs.declared.plan.NodePlan.{NodePlan}
use Rattle.net_topology.specs.declared.plan.NodePlan.TheVariants.{Crossbar, Adapter, Host, Endpoint}
use Rattle.net_topology.specs.declared.plan.Plan.{Plan}
use Rattle.net_topology.proofs.Laws.{epids_name_nodes}
use Rattle.net_machine.specs.declared.event.Event.TheVariants.{Feed}
use Rattle.net_machine.specs.declared.plan.BlockPlan.{BlockPlan}
use Rattle.net_machine.specs.declared.plan.RunPlan.{RunPlan}
use Rattle.net_machine.specs.Blocks.{kept_at}
use Rattle.net_machine.specs.CanBegin.{from_of, output_at, stands_at}
use Rattle.net_machine.specs.Effects.{after, feeds_from, gives_out, on_stream}
use Rattle.net_machine.specs.Moves.{Happens}
use Rattle.net_machine.specs.Nodes.{is_endpoint, is_host, planned}
use Rattle.net_machine.specs.Plain.{given_at, is_second, numbered_from}
use Rattle.net_machine.specs.Plans.{block_at, is_from, is_rx, is_tx, no_epid, no_stream, plan_at, producer_of, stream_from, stream_into, stream_out_of}
use Rattle.net_machine.specs.State.{State, stream_at}
use Rattle.net_machine.specs.Streams.{taken_to}
use Rattle.net_machine.proofs.Laws.{shape_stays}
use Rattle.net_flows.specs.Flows.{IsSteady}
use Rattle.net_flows.specs.Lasting.{IsSound}
use Rattle.net_lawful.specs.Made.{HasMade, HaveMade}
use Rattle.net_lawful.specs.Messages.{FitsTree}
use Rattle.net_lawful.proofs.Feeding.{IsFed, added-all, added-none, fed-state, given-joined, given_for, grown, inputs-few, lists-joined, made-of, no-tx, outputs-few}
use Rattle.net_lawful.proofs.Making.{fed_by, made-inputs, made-on, made_by, takens}
use Rattle.net_lawful.proofs.Planned.{HasOutput, begins-there, ends-there, has-output, held, input-within, kinds-fit, once, output-within, producer-is}

-- ---- the EPID at which a block stands isn't 0

epid-positive : (node : NodePlan) (epid : Epid) → FitsNode node → epid_of node ≡ Some epid → 0 < epid.0
epid-positive (Crossbar ports) epid fits is = absurd (none-some epid is)
epid-positive Adapter epid fits is = absurd (none-some epid is)
epid-positive (Host own) epid fits is = subst (λ (e : Epid). 0 < e.0) (same_Some own epid is) fits
epid-positive (Endpoint own bank) epid fits is = subst (λ (e : Epid). 0 < e.0) (same_Some own epid is) fits.0

named-positive : (tree : Plan) → IsTree tree → FitsPlan tree → (x : ℕ) (epid : Epid) → node_with tree.nodes epid ≡ Some x → 0 < epid.0
named-positive tree is fits x epid found =
    option_and_then_some epid_of (slice_get tree.nodes x) epid ((epids_name_nodes tree is x epid).0 found) (λ node at named.
    epid-positive node epid (subst FitsNode (get_or_from_slice_get tree.nodes x node node at) (fits.nodes x node (slice_get_within tree.nodes x node at))) named)

pub stands-positive : (tree : Plan) → IsTree tree → FitsPlan tree → (kind : BlockKind) (epid : Epid) → IsTrue (stands_at tree kind epid) → 0 < epid.0
stands-positive tree is fits kind epid stands = by_node (node_with tree.nodes epid) refl stands
  where
    by_node : (o : Option ℕ) → node_with tree.nodes epid ≡ o →
        IsTrue (option_map_or (λ x. option_map_or (if is_tx kind || is_rx kind then is_host else is_endpoint) (planned tree x) false) o false) → 0 < epid.0
    by_node None found stands = absurd (false≢true stands)
    by_node (Some x) found stands = named-positive tree is fits x epid found

-- ---- which output a stream begins at

module _ (tree : Plan) (plan : RunPlan) (sound : IsSound tree plan) (t : ℕ) (there : t < length plan.streams) where
  -- the stream that begins at an output is the one out of it
  out-is : (b j : ℕ) → b < length plan.blocks → output_at plan b j ≡ Some (from_of plan t) → stream_out_of plan (block_at plan b) j ≡ Some t
  out-is b j lt at =
      let found = held (stream_from plan (from_of plan t)) ((sound.no_open_ports b lt).outs j (from_of plan t) at) in
      let place = position-Some (is_from (from_of plan t)) plan.streams found.0 no_stream found.1 in
      let ends : from_of plan found.0 ≡ from_of plan t = ap (λ (n : ℕ). let e : Epid = record { 0 = n } in e) (eqb-true (from_of plan found.0).0 (from_of plan t).0 place.1) in
      let same : found.0 ≡ t = sound.ports_free.0 found.0 t place.0 there ends in
      ap (option_and_then (stream_from plan)) at ∙ found.1 ∙ ap (λ (n : ℕ). Some n) same

  -- and no other output has it
  out-other : (b j k : ℕ) → output_at plan b j ≡ Some (from_of plan t) → (j ≡ k → ⊥) → stream_out_of plan (block_at plan b) k ≡ Some t → ⊥
  out-other b j k at apart out = apart (sound.endpoints_free.1 b b j k (from_of plan t) at (begins-there plan b k t out).output).1

  second-is : (b : ℕ) → output_at plan b 1 ≡ Some (from_of plan t) → is_second (block_at plan b) (from_of plan t) ≡ true
  second-is b at =
      ap (λ (e : Epid). e.0 == (from_of plan t).0) (get_or_from_slice_get (block_at plan b).outs 1 (from_of plan t) no_epid at)
      ∙ eq-eqb (from_of plan t).0 (from_of plan t).0 refl

  first-is : (b : ℕ) → output_at plan b 0 ≡ Some (from_of plan t) → 0 < (from_of plan t).0 → is_second (block_at plan b) (from_of plan t) ≡ false
  first-is b at positive = by_test (cases_Bool (is_second (block_at plan b) (from_of plan t))) (slice_get_cases (block_at plan b).outs 1).1
    where
      outs : List Epid
      outs = (block_at plan b).outs

      by_test : (is_second (block_at plan b) (from_of plan t) ≡ true) ⊎ (is_second (block_at plan b) (from_of plan t) ≡ false) →
          ((epid : Epid) × (1 < length outs) × (slice_get outs 1 ≡ Some epid) × (get_or outs 1 epid ≡ epid)) ⊎ ((length outs ≤ 1) × (slice_get outs 1 ≡ None)) →
          is_second (block_at plan b) (from_of plan t) ≡ false
      by_test (inr no_second) place = no_second
      by_test (inl yes_second) (inl place) =
          let number : (get_or outs 1 no_epid).0 ≡ (from_of plan t).0 = eqb-true (get_or outs 1 no_epid).0 (from_of plan t).0 yes_second in
          let same : place.0 ≡ from_of plan t =
          sym (get_or_from_slice_get outs 1 place.0 no_epid place.2) ∙ ap (λ (n : ℕ). let e : Epid = record { 0 = n } in e) number in
          let never : 0 ≡ 1 = (sound.endpoints_free.1 b b 0 1 (from_of plan t) at (place.2 ∙ ap (λ (e : Epid). Some e) same)).1 in
          absurd (omega (arith, never))
      by_test (inl yes_second) (inr past) =
          let number : (get_or outs 1 no_epid).0 ≡ (from_of plan t).0 = eqb-true (get_or outs 1 no_epid).0 (from_of plan t).0 yes_second in
          let zero_is : (get_or outs 1 no_epid).0 ≡ 0 = ap (λ (e : Epid). e.0) (get_or_past outs 1 no_epid past.0) in
          absurd (omega (arith, number, zero_is, positive))

-- ---- a feeding

module _ (w : State) (b i s : ℕ) (p : Packet) (steady : IsSteady w) (fits : FitsTree w.tree) (into : stream_into w.plan (block_at w.plan b) i ≡ Some s)
    (at : slice_get (stream_at w s).given (stream_at w s).taken ≡ Some p) (made : HaveMade w) where
  block : BlockPlan
  block = block_at w.plan b

  given : Lists
  given = gives (kept_at w (block_at w.plan b)) i p

  v : State
  v = gives_out (block_at w.plan b) (gives (kept_at w (block_at w.plan b)) i p) (on_stream s (taken_to ((stream_at w s).taken + 1)) w)

  fed : IsFed w v s p (stream_out_of w.plan (block_at w.plan b) 0) (stream_out_of w.plan (block_at w.plan b) 1) given
  unfolding v given
  fed = fed-state w (block_at w.plan b) s p (gives (kept_at w (block_at w.plan b)) i p)
      (subst (λ n. s < n) (sym steady.as_many) (ends-there w.plan b i s into).there)
      (λ j t out. subst (λ n. t < n) (sym steady.as_many) (begins-there w.plan b j t out).there) at

  within : i < inputs (block_at w.plan b).kind
  within = input-within w.tree w.plan steady.plan b i _ (ends-there w.plan b i s into).input

  -- what goes out of the block then
  given-more : (t : ℕ) → given_for w.plan (takens v) b t ≡ given_for w.plan (takens w) b t ++ given_at (block_at w.plan b) (plan_at w.plan t).from given
  unfolding given
  given-more t =
      let kind = (block_at w.plan b).kind in
      let item = (block_at w.plan b).item in
      let before = lists (fed_by w.plan (takens w) b 0) (fed_by w.plan (takens w) b 1) in
      let join = lists-joined w.tree w.plan steady.plan (takens w) (takens v) b i s p into (inputs-few kind i within) fed.others fed.taken in
      let more = (history_goes_on kind item before i p (kinds-fit w.tree w.plan steady.plan b) within).1 in
      ap (λ (l : Lists). given_at (block_at w.plan b) (plan_at w.plan t).from (block_of kind item l)) join
      ∙ ap (given_at (block_at w.plan b) (plan_at w.plan t).from) more
      ∙ given-joined (block_at w.plan b) (plan_at w.plan t).from (block_of kind item before) (gives (kept_at w (block_at w.plan b)) i p)

  -- where this is added to what was ready on a stream out of the block, it has what was made
  out-made : (t : ℕ) → t < length w.streams → producer_of w.plan t ≡ Some b →
      (stream_at v t).ready ≡ (stream_at w t).ready ++ given_at (block_at w.plan b) (plan_at w.plan t).from given → v.plan ≡ w.plan → HasMade v t
  out-made t there by ready plan =
      let old = stream_at w t in
      let st = plan_at w.plan t in
      let none = no-tx (block_at w.plan b).kind i within in
      let was = made t there ∙ made-of w.plan (takens w) b t by none in
      let more = given_at (block_at w.plan b) st.from given in
      let is = made-of w.plan (takens v) b t by none ∙ ap (numbered_from st 0) (given-more t) in
      let now = grown st old.sent old.ready more (given_for w.plan (takens w) b t) was in
      ap (λ (r : RunPlan). (stream_at v t).sent ++ numbered_from (plan_at r t) (length (stream_at v t).sent) (stream_at v t).ready) plan
      ∙ (λ k. fed.sent t k ++ numbered_from st (length (fed.sent t k)) (ready k))
      ∙ now ∙ sym is ∙ ap (λ (r : RunPlan). made_by r (takens v) t) (sym plan)

  -- a stream out of the block has what it gives at its output
  ready-out : (t : ℕ) → t < length w.plan.streams → producer_of w.plan t ≡ Some b →
      (stream_at v t).ready ≡ (stream_at w t).ready ++ given_at (block_at w.plan b) (plan_at w.plan t).from given
  ready-out t there by = by_output has.output has.at
    where
      has : HasOutput w.plan b (plan_at w.plan t).from
      has = has-output w.plan (plan_at w.plan t).from b by

      by_output : (j : ℕ) → output_at w.plan b j ≡ Some (plan_at w.plan t).from → (stream_at v t).ready ≡ (stream_at w t).ready ++ given_at (block_at w.plan b) (plan_at w.plan t).from given
      by_output zero place =
          let old = (stream_at w t).ready in
          let from = (plan_at w.plan t).from in
          let first = stream_out_of w.plan (block_at w.plan b) 0 in
          let second = stream_out_of w.plan (block_at w.plan b) 1 in
          let positive = stands-positive w.tree steady.queues.tree fits.plan (block_at w.plan b).kind from ((steady.plan.endpoints b has.there).outs 0 from place) in
          let mine = added-all first t given.first (out-is w.tree w.plan steady.plan t there b 0 has.there place) in
          let none = added-none second t given.second (out-other w.tree w.plan steady.plan t there b 0 1 place (λ e. omega (arith, e))) in
          fed.ready t ∙ (λ k. (old ++ mine k) ++ none k) ∙ append-nil (old ++ given.first)
          ∙ ap (λ (c : Bool). old ++ (if c then given.second else given.first)) (sym (first-is w.tree w.plan steady.plan t there b place positive))
      by_output (suc zero) place =
          let old = (stream_at w t).ready in
          let from = (plan_at w.plan t).from in
          let first = stream_out_of w.plan (block_at w.plan b) 0 in
          let second = stream_out_of w.plan (block_at w.plan b) 1 in
          let mine = added-all second t given.second (out-is w.tree w.plan steady.plan t there b 1 has.there place) in
          let none = added-none first t given.first (out-other w.tree w.plan steady.plan t there b 1 0 place (λ e. omega (arith, e))) in
          fed.ready t ∙ (λ k. (old ++ none k) ++ mine k) ∙ ap (λ xs. xs ++ given.second) (append-nil old)
          ∙ ap (λ (c : Bool). old ++ (if c then given.second else given.first)) (sym (second-is w.tree w.plan steady.plan t there b place))
      by_output (suc (suc j)) place =
          let low = outputs-few (block_at w.plan b).kind (suc (suc j)) (output-within w.tree w.plan steady.plan b (suc (suc j)) (plan_at w.plan t).from place) in
          absurd (omega (arith, low))

  -- any other stream has what it had
  other-made : (t : ℕ) → t < length w.streams → v.plan ≡ w.plan → (c : ℕ) → producer_of w.plan t ≡ Some c → (c ≡ b → ⊥) → HasMade v t
  other-made t there plan c by apart =
      let none = λ (j : ℕ) (out : stream_out_of w.plan (block_at w.plan b) j ≡ Some t).
      apart (same_Some c b (sym by ∙ producer-is w.tree w.plan steady.plan b j t out)) in
      let first = added-none (stream_out_of w.plan (block_at w.plan b) 0) t given.first (none 0) in
      let second = added-none (stream_out_of w.plan (block_at w.plan b) 1) t given.second (none 1) in
      let old = (stream_at w t).ready in
      let ready : (stream_at v t).ready ≡ old = fed.ready t ∙ (λ k. (old ++ first k) ++ second k) ∙ append-nil (old ++ []) ∙ append-nil old in
      made-on w v t plan
      (made-inputs w.plan (takens v) (takens w) t (λ d k u by_d comes. fed.others u (λ same.
      apart (same_Some c d (sym by ∙ by_d) ∙ (once w.tree w.plan steady.plan d b k i s (comes ∙ ap (λ (n : ℕ). Some n) same) into).0))))
      ((λ k. fed.sent t k ++ numbered_from (plan_at w.plan t) (length (fed.sent t k)) (ready k)) ∙ made t there)

  fed-made : (t : ℕ) → t < length w.streams → v.plan ≡ w.plan → HasMade v t
  fed-made t there plan = by_block (held (producer_of w.plan t) (steady.plan.ports t planned_there).0)
    where
      planned_there : t < length w.plan.streams
      planned_there = subst (λ n. t < n) steady.as_many there

      by_block : ((c : ℕ) × (producer_of w.plan t ≡ Some c)) → HasMade v t
      by_block found = elim (cases_Bool (found.0 == b)) [
        | inl same ↦
            let by : producer_of w.plan t ≡ Some b = found.1 ∙ ap (λ (n : ℕ). Some n) (eqb-true found.0 b same) in
            out-made t there by (ready-out t planned_there by) plan
        | inr other ↦ other-made t there plan found.0 found.1 (λ same. false≢true (sym other ∙ eq-eqb found.0 b same))
      ]

pub made-fed : (w : State) (b i : ℕ) → IsSteady w → FitsTree w.tree → HaveMade w → HaveMade (after w (Feed b i))
unfolding after v
made-fed w b i steady fits made t lt =
    let shape = shape_stays w (Happens (Feed b i)) in
    by_stream (stream_into w.plan (block_at w.plan b) i) refl shape.plan (subst (λ n. t < n) shape.streams lt)
  where
    by_packet : (s : ℕ) → stream_into w.plan (block_at w.plan b) i ≡ Some s → (o : Option Packet) → slice_get (stream_at w s).given (stream_at w s).taken ≡ o →
        (option_map_or (λ (p : Packet). gives_out (block_at w.plan b) (gives (kept_at w (block_at w.plan b)) i p) (on_stream s (taken_to ((stream_at w s).taken + 1)) w)) o w).plan ≡ w.plan →
        t < length w.streams →
        HasMade (option_map_or (λ (p : Packet). gives_out (block_at w.plan b) (gives (kept_at w (block_at w.plan b)) i p) (on_stream s (taken_to ((stream_at w s).taken + 1)) w)) o w) t
    by_packet s into None at plan there = made t there
    by_packet s into (Some p) at plan there = fed-made w b i s p steady fits into at made t there plan

    by_stream : (o : Option ℕ) → stream_into w.plan (block_at w.plan b) i ≡ o → (option_map_or (λ (s : ℕ). feeds_from (block_at w.plan b) i s w) o w).plan ≡ w.plan →
        t < length w.streams → HasMade (option_map_or (λ (s : ℕ). feeds_from (block_at w.plan b) i s w) o w) t
    by_stream None into plan there = made t there
    by_stream (Some s) into plan there = by_packet s into (slice_get (stream_at w s).given (stream_at w s).taken) refl plan there
