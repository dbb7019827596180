-- The journal of first events is that of the message, and there is one.
use Rattle.std.proofs.Common.{◌≡◌, ℕ, ◌≤◌, ◌<◌, ◌⊎◌, inl, inr, true, false, List, [], ◌∷◌, ◌++◌, length, refl, sym, ◌∙◌, ap, subst, set, drop}
use Rattle.std.specs.Prelude.{Option, Some, None}
use Rattle.std.proofs.lemmas.Bool.{both_ways, cases_lt}
use Rattle.std.proofs.lemmas.List.{get_or-set_same, set-set, set_past}
use Rattle.chdr_packets.specs.declared.packet.Packet.{Packet}
use Rattle.net_machine.specs.declared.event.Event.{Event}
use Rattle.net_machine.specs.Choice.{chosen}
use Rattle.net_machine.specs.Conditions.{enabled}
use Rattle.net_machine.specs.Laws.{HasFewInputs, IsTaking}
use Rattle.net_machine.specs.Moves.{after_all, moves_of}
use Rattle.net_machine.specs.State.{Node, State, blank, node_in}
use Rattle.net_machine.proofs.Laws.{chosen_is_enabled, nothing_is_chosen}
use Rattle.net_lone.specs.Laws.{AnsweredIsSettled, FirstIsOfTheMessage, MessageIsFirst, NoRequestWaits, OneEnd, OneHappens, OneIsEnabled}
use Rattle.net_lone.specs.Lone.{lone_after}
use Rattle.net_lone.specs.Runs.{Goes, IsFirst}
use Rattle.net_lone.specs.Stages.{Answered, Answering, Asking, Gone, IsLone, Lone, Stage, UnderWay, next_event, state_of, with_message}
use Rattle.net_lone.proofs.Bases.{base-of, some-same}
use Rattle.net_lone.proofs.Going.{goes-lone}
use Rattle.net_lone.proofs.Happening.{after-next, answer-back}
use Rattle.net_lone.proofs.Only.{only, there}

-- ---- one event

pub one-enabled : OneIsEnabled
one-enabled l e is = (
  only l.rest l.stage e (base-of l.rest is.settled) is.fits,
  there l.rest l.stage e (base-of l.rest is.settled) is.fits,
)

pub one-happens : OneHappens
one-happens l e is next = record {
  after = after-next l.rest l.stage e (base-of l.rest is.settled) is.fits next;
  lone = goes-lone l is;
}

-- the next event is no taking
abbrev TakesNothing : Option Event → Type 0
TakesNothing None = Unit {0}
TakesNothing (Some e) = IsTaking e → ⊥

takes-nothing : (stage : Stage) → TakesNothing (next_event stage)
takes-nothing (Asking x p) = λ t. t
takes-nothing (UnderWay q true p) = λ t. t
takes-nothing (UnderWay q false p) = λ t. t
takes-nothing (Answering x p) = λ t. t
takes-nothing (Answered x p) = tt
takes-nothing Gone = tt

few-with : (w : State) (stage : Stage) → HasFewInputs w.plan → HasFewInputs (with_message w stage).plan
few-with w (Asking x p) few = few
few-with w (UnderWay q marked p) few = few
few-with w (Answering x p) few = few
few-with w (Answered x p) few = few
few-with w Gone few = few

-- where nothing is chosen the message is at its end
none-next : (l : Lone) (e : Event) → IsLone l → chosen 0 (state_of l) ≡ None → next_event l.stage ≡ Some e → ⊥
none-next l e is none next =
    both_ways (enabled (state_of l) e) ((nothing_is_chosen 0 (state_of l) (few-with l.rest l.stage is.settled.few)).0 none e (subst TakesNothing next (takes-nothing l.stage)))
    ((one-enabled l e is).1 next)

-- ---- journals

pub first-goes : FirstIsOfTheMessage
unfolding IsFirst Goes after_all
first-goes l [] is first = record {
  end = l;
  ends = record {
    goes = refl;
    over = by_next (next_event l.stage) refl;
  };
  leaves = refl;
  lone = is;
}
  where
    by_next : (o : Option Event) → next_event l.stage ≡ o → o ≡ None
    by_next None at = refl
    by_next (Some e) at = absurd (none-next l e is first at)
first-goes l (e ∷ journal) is first =
    let next : next_event l.stage ≡ Some e = (one-enabled l e is).0 (chosen_is_enabled 0 (state_of l) e first.0) in
    let on = one-happens l e is next in
    let later = first-goes (lone_after l) journal on.lone (subst (λ (w : State). IsFirst w journal) on.after first.1) in
    record {
      end = later.end;
      ends = record {
        goes = (next, later.ends.goes);
        over = later.ends.over;
      };
      leaves = ap (λ (w : State). after_all w (moves_of journal)) on.after ∙ later.leaves;
      lone = later.lone;
    }

chosen-next : (l : Lone) (e : Event) → IsLone l → next_event l.stage ≡ Some e → chosen 0 (state_of l) ≡ Some e
chosen-next l e is next = by_choice (chosen 0 (state_of l)) refl
  where
    by_choice : (o : Option Event) → chosen 0 (state_of l) ≡ o → o ≡ Some e
    by_choice None at = absurd (none-next l e is at next)
    by_choice (Some f) at = sym ((one-enabled l f is).0 (chosen_is_enabled 0 (state_of l) f at)) ∙ next

pub goes-first : MessageIsFirst
unfolding IsFirst Goes
goes-first l end [] is ends = by_choice (chosen 0 (state_of l)) refl
  where
    by_choice : (o : Option Event) → chosen 0 (state_of l) ≡ o → o ≡ None
    by_choice None at = refl
    by_choice (Some f) at =
        let z : ◌≡◌ {A = Option Event} None (Some f) =
        sym (ap (λ (k : Lone). next_event k.stage) ends.goes ∙ ends.over) ∙ (one-enabled l f is).0 (chosen_is_enabled 0 (state_of l) f at) in
        absurd cc
goes-first l end (e ∷ journal) is ends =
    let on = one-happens l e is ends.goes.0 in (
      chosen-next l e is ends.goes.0,
      subst (λ (w : State). IsFirst w journal) (sym on.after) (goes-first (lone_after l) end journal on.lone (record { goes = ends.goes.1; over = ends.over })),
    )

pub one-end : OneEnd
unfolding Goes
one-end l a b [] [] first second = (refl, sym first.goes ∙ second.goes)
one-end l a b [] (e ∷ other) first second =
    let z : ◌≡◌ {A = Option Event} None (Some e) = sym (ap (λ (k : Lone). next_event k.stage) first.goes ∙ first.over) ∙ second.goes.0 in
    absurd cc
one-end l a b (e ∷ journal) [] first second =
    let z : ◌≡◌ {A = Option Event} None (Some e) = sym (ap (λ (k : Lone). next_event k.stage) second.goes ∙ second.over) ∙ first.goes.0 in
    absurd cc
one-end l a b (e ∷ journal) (f ∷ other) first second =
    let same : e ≡ f = some-same e f (sym first.goes.0 ∙ second.goes.0) in
    let later = one-end (lone_after l) a b journal other (record { goes = first.goes.1; over = first.over }) (record { goes = second.goes.1; over = second.over }) in
    ((λ i. same i ∷ later.0 i), later.1)

-- ---- the answer is taken out

nodes-answered : (nodes : List Node) (x : ℕ) (p : Packet) → (node_in nodes x).answers ≡ [] →
    let more : Node = record (node_in nodes x) { answers = (node_in nodes x).answers ++ p ∷ [] } in
    set (set nodes x more) x (record (node_in (set nodes x more) x) { answers = drop 1 (node_in (set nodes x more) x).answers }) ≡ nodes
nodes-answered nodes x p none = by_order (cases_lt x (length nodes))
  where
    more : Node
    more = record (node_in nodes x) { answers = (node_in nodes x).answers ++ p ∷ [] }

    taken : Node → Node
    taken m = record m { answers = drop 1 m.answers }

    by_order : (x < length nodes) ⊎ (length nodes ≤ x) → set (set nodes x more) x (taken (node_in (set nodes x more) x)) ≡ nodes
    by_order (inl lt) =
        ap (λ (m : Node). set (set nodes x more) x (taken m)) (get_or-set_same nodes x more blank lt)
        ∙ set-set nodes x more (taken more)
        ∙ ap (λ (ps : List Packet). set nodes x (record (node_in nodes x) { answers = drop 1 (ps ++ p ∷ []) })) none
        ∙ answer-back nodes x none
    by_order (inr past) =
        ap (λ (ns : List Node). set ns x (taken (node_in ns x))) (set_past nodes x more past) ∙ set_past nodes x (taken (node_in nodes x)) past

pub none-waits : NoRequestWaits
none-waits w x d settled is = (base-of w settled).asks x d is

pub answered-settled : AnsweredIsSettled
answered-settled w x p settled = ap (λ (nodes : List Node). record w { nodes = nodes }) (nodes-answered w.nodes x p ((base-of w settled).heard x))
