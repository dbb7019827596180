-- At which places of the order of choosing no node has something to do, by the flags of nodes.
use Rattle.std.proofs.Common.{◌≡◌, ℕ, zero, suc, ◌+◌, ◌-◌, ◌<◌, ◌≤◌, Bool, true, false, List, [], ◌∷◌, ◌++◌, length, refl, sym, ◌∙◌, ap, subst, Some, arith}
use Rattle.std.specs.Prelude.{◌&&◌, ◌||◌, slice_get}
use Rattle.std.proofs.Math.ListN.{get_or-map}
use Rattle.std.proofs.lemmas.Bool.{false≢true}
use Rattle.std.proofs.lemmas.List.{length-map}
use Rattle.chdr_packets.specs.declared.packet.Packet.{Packet}
use Rattle.fabric_flags.specs.Set.{IsNext, NoneFrom, flag_at}
use Rattle.net_machine.specs.declared.event.Event.TheVariants.{Ask, Hop, Lose, Reply}
use Rattle.net_machine.specs.Blocks.{has_packet}
use Rattle.net_machine.specs.Choice.{for_each}
use Rattle.net_machine.specs.Conditions.{can_reply, may}
use Rattle.net_machine.specs.Front.{Front}
use Rattle.net_machine.specs.State.{blank, node_in}
use Rattle.net_present.specs.Present.{Present, front_now}
use Rattle.fabric_lists.specs.SitesView.{has_work, working_in}
use Rattle.fabric_events.specs.declared.candidates.Sizes.{Sizes}
use Rattle.fabric_events.specs.Choosing.{IsStill, doable_now, sizes_of}
use Rattle.fabric_events.specs.Sizes.{candidates_in, first_loss, first_reply}
use Rattle.fabric_events.proofs.PlaceLemmas.{among, behind, each_at, each_length}
use Rattle.fabric_events.proofs.StillLemmas.{later_at, still_on, still_past, still_run}

-- each of them stands at its place
pub reply_at : (s : Sizes) (x : ℕ) → x < s.nodes → slice_get (candidates_in s) (first_reply s + x) ≡ Some (Reply x)
reply_at s x h =
    later_at s x (Some (Reply x))
    (among (for_each Reply s.nodes) (for_each Ask s.nodes ++ (for_each Lose s.queues ++ for_each Hop s.queues)) s.nodes x (Some (Reply x))
    (each_length Reply s.nodes) h (each_at Reply s.nodes x h))

pub ask_at : (s : Sizes) (x : ℕ) → x < s.nodes → slice_get (candidates_in s) (first_reply s + s.nodes + x) ≡ Some (Ask x)
ask_at s x h =
    let at : first_reply s + s.nodes + x ≡ first_reply s + (s.nodes + x) = omega arith in
    let e : s.nodes + x - s.nodes ≡ x = omega arith in
    let asks = for_each Ask s.nodes in
    let queues = for_each Lose s.queues ++ for_each Hop s.queues in
    ap (slice_get (candidates_in s)) at
    ∙ later_at s (s.nodes + x) (Some (Ask x))
    (behind (for_each Reply s.nodes) (asks ++ queues) s.nodes (s.nodes + x) (Some (Ask x)) (each_length Reply s.nodes) (omega arith)
    (ap (λ (n : ℕ). slice_get (asks ++ queues) n) e
    ∙ among asks queues s.nodes x (Some (Ask x)) (each_length Ask s.nodes) h (each_at Ask s.nodes x h)))

no_reply : (f : Front) (x : ℕ) (requests pending : List Packet) → (has_packet requests || has_packet pending) ≡ false
    → can_reply f x pending ≡ false
no_reply f x requests [] h = refl
no_reply f x [] (p ∷ ps) h = absurd (false≢true (sym h))
no_reply f x (r ∷ rs) (p ∷ ps) h = absurd (false≢true (sym h))

no_ask : (requests pending : List Packet) (place : Bool) → (has_packet requests || has_packet pending) ≡ false
    → (has_packet requests && place) ≡ false
no_ask [] pending place h = refl
no_ask (r ∷ rs) pending place h = absurd (false≢true (sym h))

-- a node with nothing to do neither replies nor asks
idle_reply : (p : Present) (x : ℕ) → has_work (node_in p.nodes x) ≡ false → doable_now p (Reply x) ≡ false
unfolding doable_now may
idle_reply p x h = no_reply (front_now p) x (node_in p.nodes x).requests (node_in p.nodes x).pending h

idle_ask : (p : Present) (x : ℕ) → has_work (node_in p.nodes x) ≡ false → doable_now p (Ask x) ≡ false
unfolding doable_now may
idle_ask p x h = no_ask (node_in p.nodes x).requests (node_in p.nodes x).pending _ h

-- a flag that is set is there
pub set_within : (flags : List Bool) (x : ℕ) → flag_at flags x ≡ true → x < length flags
set_within [] x h = absurd (false≢true h)
set_within (b ∷ flags) zero h = omega arith
set_within (b ∷ flags) (suc x) h = let rest = set_within flags x h in omega arith

-- of a present with these sizes, whose first Reply stands at place r, and with these flags of its nodes
module _ (p : Present) (s : Sizes) (r : ℕ) (flags : List Bool) (many : s ≡ sizes_of p) (at : r ≡ first_reply s)
    (is : flags ≡ working_in p.nodes) where
  idle_flag : (x : ℕ) → flag_at flags x ≡ false → has_work (node_in p.nodes x) ≡ false
  idle_flag x h = sym (ap (λ (fs : List Bool). flag_at fs x) is ∙ get_or-map has_work p.nodes x blank) ∙ h

  still_replies : (a b : ℕ) → b ≤ s.nodes → ((x : ℕ) → a ≤ x → x < b → flag_at flags x ≡ false) → IsStill p s (r + a) (r + b)
  still_replies a b few idle =
      still_run p s Reply r a b (λ x from to. ap (λ (n : ℕ). slice_get (candidates_in s) (n + x)) at ∙ reply_at s x (omega arith))
      (λ x from to. idle_reply p x (idle_flag x (idle x from to)))

  still_asks : (a b : ℕ) → b ≤ s.nodes → ((x : ℕ) → a ≤ x → x < b → flag_at flags x ≡ false)
      → IsStill p s (r + s.nodes + a) (r + s.nodes + b)
  still_asks a b few idle =
      still_run p s Ask (r + s.nodes) a b
      (λ x from to. ap (λ (n : ℕ). slice_get (candidates_in s) (n + s.nodes + x)) at ∙ ask_at s x (omega arith))
      (λ x from to. idle_ask p x (idle_flag x (idle x from to)))

  -- what is flagged is there
  pub node_within : (x : ℕ) → flag_at flags x ≡ true → x < s.nodes
  node_within x h =
      let there : x < length flags = set_within flags x h in
      let flagged : length flags ≡ length p.nodes = ap (λ (fs : List Bool). length fs) is ∙ length-map p.nodes has_work in
      let nodes : s.nodes ≡ length p.nodes = ap (λ (z : Sizes). z.nodes) many in
      omega arith

  -- up to the next node that replies, and past the last
  pub reply_next : (k x : ℕ) → r ≤ k → IsNext (flag_at flags) (k - r) x → IsStill p s k (r + x)
  reply_next k x from next =
      let there = node_within x next.here in
      still_on p s k r (r + x) (still_past p s k r from) (still_replies (k - r) x (omega arith) next.none)

  pub past_replies : (k : ℕ) → r ≤ k → NoneFrom (flag_at flags) (k - r) → IsStill p s k (r + s.nodes)
  past_replies k from none =
      still_on p s k r (r + s.nodes) (still_past p s k r from)
      (still_replies (k - r) s.nodes (omega arith) (λ x low high. none x low))

  -- so with asks, of which the flags were looked through from n on
  pub ask_next : (k n x : ℕ) → r ≤ k → NoneFrom (flag_at flags) (k - r) → n ≡ k - (r + s.nodes) → IsNext (flag_at flags) n x
      → IsStill p s k (r + s.nodes + x)
  ask_next k n x from before is next =
      let there = node_within x next.here in
      let here : IsNext (flag_at flags) (k - (r + s.nodes)) x = subst (λ (m : ℕ). IsNext (flag_at flags) m x) is next in
      still_on p s k (r + s.nodes) (r + s.nodes + x) (past_replies k from before) (still_asks (k - (r + s.nodes)) x (omega arith) here.none)

  pub past_asks : (k n l : ℕ) → r ≤ k → NoneFrom (flag_at flags) (k - r) → n ≡ k - (r + s.nodes) → NoneFrom (flag_at flags) n
      → l ≡ first_loss s → IsStill p s k l
  past_asks k n l from before is none last =
      let whole : r + s.nodes + s.nodes ≡ l = omega arith in
      let here : NoneFrom (flag_at flags) (k - (r + s.nodes)) = subst (NoneFrom (flag_at flags)) is none in
      subst (IsStill p s k) whole
      (still_on p s k (r + s.nodes) (r + s.nodes + s.nodes) (past_replies k from before)
      (still_asks (k - (r + s.nodes)) s.nodes (omega arith) (λ x low high. here x low)))
