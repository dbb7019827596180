use Rattle.std.proofs.Common.{◌≡◌, ◌<◌, true, false, length, get_or, arith, sym, ◌∙◌}
use Rattle.std.proofs.lemmas.List.Elements.{Contains-get_or}
use Rattle.graph_core.specs.declared.place.Edge.{Edge}
use Rattle.graph_core.proofs.Reached.{swept_mark, swept_pass}
use Rattle.graph_core.proofs.reach.sweep.Goals as goal
use Rattle.graph_core.proofs.reach.sweep.Goals.{then-marks-edge+then-not-marks-edge, else-marks-edge, else-marks-edge-via-then-marks-edge+else-not-marks-edge, else-marks-edge-via-else-marks-edge}

start : Edge
start = record { from = record { block = 0; port = 0 }; to = record { block = 0; port = 0 } }

pub loop-edge-preserved : goal.loop-edge-preserved
unfolding start
loop-edge-preserved c =
    let i = c.loop-edge.edge-index in
    let es = c.args.edges.now in
    let lt : i < length es = omega arith in
    elim c.if-marks-edge.branch [
      | then-marks-edge+then-not-marks-edge w ↦
          rw (w.marks-is, w.moved-is)
          (swept_mark es c.args.marks.now c.loop-edge.marks c.loop-edge.moved i start c.loop-edge.invariant (get_or es i start)
          (Contains-get_or es i start lt)
          (rw c.loop-edge.auto.marks (c.requires.ends i start lt).1)
          w.if-marks-edge.true w.if-not-marks-edge.true)
      | else-marks-edge w ↦ rw (w.marks-is, w.moved-is)
          (swept_pass es c.args.marks.now c.loop-edge.marks c.loop-edge.moved i start c.loop-edge.invariant lt
          (λ m. elim w.else-marks-edge.branch [
            | else-marks-edge-via-then-marks-edge+else-not-marks-edge v ↦ v.if-not-marks-edge.false
            | else-marks-edge-via-else-marks-edge v ↦ let z : true ≡ false = sym m ∙ v.if-marks-edge.false in absurd cc
          ]))
    ]
