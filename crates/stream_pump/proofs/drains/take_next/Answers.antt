use Rattle.std.proofs.Common.{◌≡◌, ◌<◌, ◌≤◌, ◌++◌, List, [], length, arith, sym, ap, ◌∙◌}
use Rattle.std.proofs.lemmas.Bool.{false≢true}
use Rattle.std.proofs.lemmas.List.{get_or_read, get_or-set_same}
use Rattle.chdr_packets.specs.declared.packet.Packet.{Packet}
use Rattle.stream_pump.specs.Drains.{drain_at, waiting_at}
use Rattle.stream_pump.proofs.Waiting.{hands-first, hands-nothing, looking-on, looking-past}
use Rattle.stream_pump.proofs.drains.take_next.Goals.{then-ends_at_rx+in_ok-hand_out+else-len-before, else-ends_at_rx}
use Rattle.stream_pump.proofs.drains.take_next.Goals as goal

pub returns-then-len-before-clause-hands : goal.returns-then-len-before-clause-hands
returns-then-len-before-clause-hands c =
    let plan = c.args.plan.now in
    let s = c.loop-s.s in
    let drains = c.loop-s.drains.items in
    let drain = c.hand_out.new.drain in
    let end = c.streams-s-end.ensures in
    let lt : s < length plan.streams = let below = c.loop-s-test.true in omega (arith, below, end) in
    let many = c.requires.drains in
    let size = c.loop-s.drains.ok.0 in
    let kept = c.loop-s.invariant.looks.drains in
    let within : s < length drains =
    let had = c.args.drains.now.ok.0 in let same = ap (λ (ds : List (List Packet)). length ds) kept in omega (arith, lt, many, had, same) in
    let at : c.index.result.now ≡ drain_at drains s = get_or_read drains s c.index.result.now within c.index.ensures [] in
    let at_mut : c.index_mut.result.now ≡ drain_at drains s = get_or_read drains s c.index_mut.result.now within c.index_mut.ensures.value [] in
    let then : c.index-then-ends_at_rx.result.now ≡ drain = c.index-then-ends_at_rx.ensures ∙ get_or-set_same drains s drain c.index-then-ends_at_rx.result.now within in
    let before = c.len-before.ensures ∙ ap (λ (ps : List Packet). length ps) at in
    let now = c.len.ensures ∙ ap (λ (ps : List Packet). length ps) then in
    let more : length (drain_at drains s) < length drain = let gt = c.if-len-before.true in omega (arith, gt, before, now) in
    hands-first (length plan.streams) s c.args.net.now.present c.loop-s.net.present c.hand_out.new.net.present plan c.args.drains.now.items drains drain
    c.requires.plan.streams lt c.requires.plan.same (sym c.ends_at_rx.ensures ∙ c.if-ends_at_rx.true) c.loop-s.invariant.looks c.in_ok-hand_out.ensures.hands
    (c.in_ok-hand_out.ensures.drain ∙ ap (λ (ps : List Packet). ps ++ waiting_at c.loop-s.net.present s) at_mut) more

pub loop-s-preserved : goal.loop-s-preserved
loop-s-preserved c =
    let plan = c.args.plan.now in
    let s = c.loop-s.s in
    let drains = c.loop-s.drains.items in
    let end = c.streams-s-end.ensures in
    let lt : s < length plan.streams = let below = c.loop-s-test.true in omega (arith, below, end) in
    let many = c.requires.drains in
    let kept = c.loop-s.invariant.looks.drains in
    let within : s < length drains =
    let had = c.args.drains.now.ok.0 in let same = ap (λ (ds : List (List Packet)). length ds) kept in omega (arith, lt, many, had, same) in
    elim c.if-ends_at_rx.branch [
      | then-ends_at_rx+in_ok-hand_out+else-len-before w ↦
          let drain = w.hand_out.new.drain in
          let at : w.index.result.now ≡ drain_at drains s = get_or_read drains s w.index.result.now within w.index.ensures [] in
          let at_mut : w.index_mut.result.now ≡ drain_at drains s = get_or_read drains s w.index_mut.result.now within w.index_mut.ensures.value [] in
          let then : w.index-then-ends_at_rx.result.now ≡ drain = w.index-then-ends_at_rx.ensures ∙ get_or-set_same drains s drain w.index-then-ends_at_rx.result.now within in
          let before = w.len-before.ensures ∙ ap (λ (ps : List Packet). length ps) at in
          let now = w.len.ensures ∙ ap (λ (ps : List Packet). length ps) then in
          let few : length drain ≤ length (drain_at drains s) = let le = w.if-len-before.false in omega (arith, le, before, now) in
          rw (w.net-is, w.drains-is) (record {
            looks = looking-on s c.args.net.now.present c.loop-s.net.present w.hand_out.new.net.present c.args.drains.now.items drains drain c.loop-s.invariant.looks
                w.in_ok-hand_out.ensures.hands (w.in_ok-hand_out.ensures.drain ∙ ap (λ (ps : List Packet). ps ++ waiting_at c.loop-s.net.present s) at_mut) few;
            machine = λ u stands. w.in_ok-hand_out.ensures.machine u (c.loop-s.invariant.machine u stands);
            journal = w.in_ok-hand_out.ensures.journal ∙ c.loop-s.invariant.journal;
          })
      | else-ends_at_rx w ↦
          rw (w.net-is, w.drains-is) (record {
            looks = looking-past s c.args.net.now.present c.loop-s.net.present plan c.args.drains.now.items drains c.requires.plan.same
                (λ rx. absurd (false≢true (sym w.if-ends_at_rx.false ∙ c.ends_at_rx.ensures ∙ rx))) c.loop-s.invariant.looks;
            machine = c.loop-s.invariant.machine;
            journal = c.loop-s.invariant.journal;
          })
    ]

pub returns-clause-hands : goal.returns-clause-hands
returns-clause-hands c =
    let plan = c.args.plan.now in
    let end = c.streams-s-end.ensures in
    let all : c.loop-s.s ≡ length plan.streams = let low = c.loop-s-test.false in let high = c.loop-s.auto.s-end in omega (arith, end, low, high) in
    hands-nothing c.loop-s.s c.args.net.now.present c.loop-s.net.present c.args.drains.now.items c.loop-s.drains.items
    (c.requires.plan.streams ∙ sym all) c.loop-s.invariant.looks
