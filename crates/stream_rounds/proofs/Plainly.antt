-- What a choice looks at is no taking, and what it looks at stays the same while packets are handed out.
use Rattle.std.proofs.Common.{◌≡◌, ℕ, zero, suc, Bool, List, [], ◌∷◌, length, get_or, refl, sym, ap, subst, arith, ◌∙◌}
use Rattle.std.specs.Prelude.{None, Some, filter, slice_get}
use Rattle.std.specs.List.{All, flat_map, range_with_len}
use Rattle.std.proofs.Math.Seq.{map-set_same}
use Rattle.std.proofs.lemmas.List.Concat.{flat_map-cons}
use Rattle.std.proofs.lemmas.List.Elements.{All-append, All-filter, All-map}
use Rattle.std.proofs.lemmas.Option.{get_or_from_slice_get, slice_get_within}
use Rattle.chdr_packets.specs.declared.packet.Packet.{Packet}
use Rattle.chdr_words.specs.declared.command.CmdOp.TheVariants.{Init, Ping, Resync}
use Rattle.net_machine.specs.declared.event.Event.{Event}
use Rattle.net_machine.specs.declared.event.Event.TheVariants as event
use Rattle.net_machine.specs.Choice.{candidates, commands_of, feeds_of, for_each, listing}
use Rattle.net_machine.specs.Front.{Front, StreamFront}
use Rattle.net_machine.specs.Laws.{IsTaking}
use Rattle.net_present.specs.Kept.{idle_now}
use Rattle.net_present.specs.Present.{Present, StreamNow, front_now, front_now_of}
use Rattle.fabric_events.specs.Choosing.{chosen_now, doable_list, doable_now}
use Rattle.stream_rounds.specs.Presents.{at, handing, with_waiting}
use Rattle.stream_rounds.proofs.Lists.{none_first}
use Rattle.stream_rounds.proofs.Presents.{at-keeps}

-- an event is no taking
abbrev pub IsPlain : Event → Type 0
IsPlain e = IsTaking e → ⊥

all-none : {A : Type 0} (P : A → Type 0) → All P []
all-none P k d lt = absurd (omega (arith, lt))

all-more : {A : Type 0} (P : A → Type 0) (x : A) (xs : List A) → P x → All P xs → All P (x ∷ xs)
all-more P x xs first rest zero d lt = first
all-more P x xs first rest (suc k) d lt = rest k d (omega (arith, lt))

plain-each : (make : ℕ → Event) → ((k : ℕ) → IsPlain (make k)) → (n : ℕ) → All IsPlain (for_each make n)
plain-each make plain n = All-map IsPlain make (range_with_len 0 n) (λ k d lt. plain (get_or (range_with_len 0 n) k d))

plain-flat : (make : ℕ → List Event) → ((k : ℕ) → All IsPlain (make k)) → (ks : List ℕ) → All IsPlain (flat_map make ks)
plain-flat make plain [] = all-none IsPlain
plain-flat make plain (k ∷ ks) =
    subst (λ (es : List Event). All IsPlain es) (sym (flat_map-cons make k ks))
    (All-append IsPlain (make k) (flat_map make ks) (plain k) (plain-flat make plain ks))

plain-commands : (s : ℕ) → All IsPlain (commands_of s)
plain-commands s =
    all-more IsPlain (event.Command s Init) (event.Command s Ping ∷ event.Command s Resync ∷ []) (λ t. t)
    (all-more IsPlain (event.Command s Ping) (event.Command s Resync ∷ []) (λ t. t)
    (all-more IsPlain (event.Command s Resync) [] (λ t. t) (all-none IsPlain)))

plain-feeds : (b : ℕ) → All IsPlain (feeds_of b)
plain-feeds b =
    all-more IsPlain (event.Feed b 0) (event.Feed b 1 ∷ []) (λ t. t)
    (all-more IsPlain (event.Feed b 1) [] (λ t. t) (all-none IsPlain))

plain-candidates : (f : Front) → All IsPlain (candidates f)
plain-candidates f =
    All-append IsPlain _ _ (plain-each event.Enter (λ k t. t) (length f.streams))
    (All-append IsPlain _ _ (plain-flat commands_of plain-commands (range_with_len 0 (length f.streams)))
    (All-append IsPlain _ _ (plain-each event.Report (λ k t. t) (length f.streams))
    (All-append IsPlain _ _ (plain-flat feeds_of plain-feeds (range_with_len 0 (length f.plan.blocks)))
    (All-append IsPlain _ _ (plain-each event.Reply (λ k t. t) (length f.nodes))
    (All-append IsPlain _ _ (plain-each event.Ask (λ k t. t) (length f.nodes))
    (All-append IsPlain _ _ (plain-each event.Lose (λ k t. t) (length f.queues))
    (plain-each event.Hop (λ k t. t) (length f.queues))))))))

all-got : {A : Type 0} (P : A → Type 0) (xs : List A) (k : ℕ) (x : A) → All P xs → slice_get xs k ≡ Some x → P x
all-got P xs k x all is = subst P (get_or_from_slice_get xs k x x is) (all k x (slice_get_within xs k x is))

-- ---- the first that can happen

first-of : (p : Present) → chosen_now 0 p ≡ slice_get (doable_list p) 0
first-of p = refl

pub chosen-plain : (p : Present) (e : Event) → chosen_now 0 p ≡ Some e → IsPlain e
unfolding doable_list
chosen-plain p e is =
    all-got IsPlain (doable_list p) 0 e (All-filter (doable_now p) IsPlain (candidates (front_now p)) (plain-candidates (front_now p))) (sym (first-of p) ∙ is)

pub none-doable : (p : Present) → chosen_now 0 p ≡ None → doable_list p ≡ []
none-doable p is = none_first (doable_list p) (sym (first-of p) ∙ is)

-- ---- tests that agree at each event but takings

agree : (f g : Event → Bool) (es : List Event) → ((e : Event) → IsPlain e → f e ≡ g e) → All IsPlain es → filter f es ≡ filter g es
agree f g [] same plain = refl
agree f g (e ∷ es) same plain =
    let here = same e (plain 0 e (omega arith)) in
    let rest = agree f g es same (λ k d lt. plain (suc k) d (omega (arith, lt))) in
    rw (here, rest) refl

pub listing-agrees : (f g : Event → Bool) (p q : Front) → ((e : Event) → IsPlain e → f e ≡ g e) → p ≡ q → listing f p ≡ listing g q
listing-agrees f g p q same is =
    ap (λ (r : Front). filter f (candidates r)) is ∙ agree f g (candidates q) same (plain-candidates q)

-- ---- handing out

pub front-handing : (p : Present) (s : ℕ) (ps : List Packet) → front_now (handing s ps p) ≡ front_now p
front-handing p s ps =
    ap (λ (streams : List StreamFront). record (front_now p) { streams = streams })
    (map-set_same front_now_of p.streams s (with_waiting ps (at p s)) idle_now refl)

doable-same : (p q : Present) → front_now q ≡ front_now p → q.plan ≡ p.plan → ((s : ℕ) → (at q s).offered ≡ (at p s).offered)
    → (e : Event) → IsPlain e → doable_now q e ≡ doable_now p e
unfolding doable_now
doable-same p q front plan offered (event.Enter s) plain = rw (front, plan, offered s) refl
doable-same p q front plan offered (event.Command s op) plain = rw front refl
doable-same p q front plan offered (event.Report s) plain = rw front refl
doable-same p q front plan offered (event.Seen s n) plain = absurd (plain tt)
doable-same p q front plan offered (event.Feed b i) plain = rw front refl
doable-same p q front plan offered (event.Ask x) plain = rw front refl
doable-same p q front plan offered (event.Reply x) plain = rw front refl
doable-same p q front plan offered (event.Lose l) plain = rw front refl
doable-same p q front plan offered (event.Hop l) plain = rw front refl

pub doable-handing : (p : Present) (s : ℕ) (ps : List Packet) → doable_list (handing s ps p) ≡ doable_list p
unfolding doable_list
doable-handing p s ps =
    listing-agrees (doable_now (handing s ps p)) (doable_now p) (front_now (handing s ps p)) (front_now p)
    (doable-same p (handing s ps p) (front-handing p s ps) refl
    (λ t. at-keeps (λ (st : StreamNow). st.offered) p s (with_waiting ps) (λ st. refl) t))
    (front-handing p s ps)
