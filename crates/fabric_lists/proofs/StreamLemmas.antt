-- Streams at their places, seen through what contracts read of each.
use Rattle.std.proofs.Common.{◌≡◌, ℕ, ◌<◌, ◌≤◌, Bool, false, List, length, sym, ◌∙◌, ap, subst, get_or, set}
use Rattle.std.specs.Prelude.{map}
use Rattle.std.proofs.Math.ListN.{get_or-eq_default}
use Rattle.std.proofs.Math.Seq.{map-set_same}
use Rattle.std.proofs.lemmas.List.{map-set, get_or-map, length-map}
use Rattle.net_machine.specs.Plans.{no_stream}
use Rattle.net_machine.specs.declared.plan.StreamPlan.{StreamPlan}
use Rattle.net_present.specs.Kept.{idle_now, now_at}
use Rattle.net_present.specs.Present.{StreamNow}
use Rattle.fabric_parts.specs.Streams.{StreamSeen, on_stream}
use Rattle.fabric_lists.specs.StreamList.{StreamList}
use Rattle.fabric_lists.specs.StreamsView.{now_in, on_at, plan_in, plan_seen, streams_of, tx_in, tx_seen}

-- what is read at a place of a list that is there
read : {A : Type 0} (seen : StreamSeen → A) (parts : List StreamSeen) (s : ℕ) (part : StreamSeen) (none : A) → s < length parts
    → part ≡ get_or parts s part → seen part ≡ get_or (map seen parts) s none
read seen parts s part none there is = ap seen is ∙ sym (get_or-map seen parts s part none there)

-- a stream that was read is the one that contracts see at its place
pub record Found (parts : List StreamSeen) (s : ℕ) (part : StreamSeen) : Type 0 where
  pub plan : part.plan ≡ plan_seen (streams_of parts).plans s
  pub tx : part.is_tx ≡ tx_seen (streams_of parts).txs s
  pub now : part.now ≡ now_at (streams_of parts).now s

pub found : (parts : List StreamSeen) (s : ℕ) (part : StreamSeen) → s < length parts → part ≡ get_or parts s part → Found parts s part
found parts s part there is = record {
  plan = read plan_in parts s part no_stream there is;
  tx = read tx_in parts s part false there is;
  now = read now_in parts s part idle_now there is;
}

-- a stream that was written is seen at its place
pub written : (parts : List StreamSeen) (s : ℕ) (old new : StreamSeen) (next : StreamNow → StreamNow) → s < length parts
    → old ≡ get_or parts s old → new ≡ on_stream next old → streams_of (set parts s new) ≡ on_at s next (streams_of parts)
written parts s old new next there is then =
    let plans : map plan_in (set parts s new) ≡ map plan_in parts =
    map-set_same plan_in parts s new old (ap plan_in then ∙ ap plan_in is) in
    let txs : map tx_in (set parts s new) ≡ map tx_in parts = map-set_same tx_in parts s new old (ap tx_in then ∙ ap tx_in is) in
    let now : map now_in (set parts s new) ≡ set (map now_in parts) s (next (now_at (map now_in parts) s)) =
    map-set now_in parts s new ∙ ap (set (map now_in parts) s) (ap now_in then ∙ ap next (read now_in parts s old idle_now there is)) in
    ap (λ (p : List StreamPlan). record { plans = p; txs = map tx_in (set parts s new); now = map now_in (set parts s new) }) plans
    ∙ ap (λ (t : List Bool). record { plans = map plan_in parts; txs = t; now = map now_in (set parts s new) }) txs
    ∙ ap (λ (n : List StreamNow). record { plans = map plan_in parts; txs = map tx_in parts; now = n }) now

-- where no stream is, what is kept is that of an idle one
pub idle_past : (parts : List StreamSeen) (s : ℕ) → length parts ≤ s → now_at (streams_of parts).now s ≡ idle_now
idle_past parts s past =
    let all : length (map now_in parts) ≤ s = subst (λ (n : ℕ). n ≤ s) (sym (length-map parts now_in)) past in
    get_or-eq_default (map now_in parts) idle_now all

pub plan_past : (parts : List StreamSeen) (s : ℕ) → length parts ≤ s → plan_seen (streams_of parts).plans s ≡ no_stream
plan_past parts s past =
    let all : length (map plan_in parts) ≤ s = subst (λ (n : ℕ). n ≤ s) (sym (length-map parts plan_in)) past in
    get_or-eq_default (map plan_in parts) no_stream all

-- the streams that contracts see are the parts
pub seen_in : (parts : List StreamSeen) (seen : StreamList) → record { items = parts } ≡ seen → parts ≡ seen.items
seen_in parts seen is = ap (λ (v : StreamList). v.items) is

pub there_in : (parts : List StreamSeen) (seen : StreamList) (s : ℕ) → record { items = parts } ≡ seen → s < length seen.items → s < length parts
there_in parts seen s is there = subst (λ (ps : List StreamSeen). s < length ps) (sym (seen_in parts seen is)) there

-- a stream that was read of those that contracts see
pub found_in : (parts : List StreamSeen) (seen : StreamList) (s : ℕ) (part : StreamSeen) → record { items = parts } ≡ seen
    → s < length seen.items → part ≡ get_or parts s part → Found seen.items s part
found_in parts seen s part is there here =
    subst (λ (ps : List StreamSeen). Found ps s part) (seen_in parts seen is) (found parts s part (there_in parts seen s is there) here)

-- and one that was written
pub written_in : (parts : List StreamSeen) (seen : StreamList) (s : ℕ) (old new : StreamSeen) (next : StreamNow → StreamNow)
    → record { items = parts } ≡ seen → s < length seen.items → old ≡ get_or parts s old → new ≡ on_stream next old
    → streams_of (set parts s new) ≡ on_at s next (streams_of seen.items)
written_in parts seen s old new next is there here then =
    written parts s old new next (there_in parts seen s is there) here then
    ∙ ap (λ (ps : List StreamSeen). on_at s next (streams_of ps)) (seen_in parts seen is)
