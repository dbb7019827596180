use Rattle.std.proofs.Common.{◌≡◌, ◌≤◌, Some, None, sym, ◌∙◌, arith, slice_get, length}
use Rattle.property_resolver.proofs.Started.{started_none, started_more, started_past, started_all}
use Rattle.property_resolver.proofs.start.users_values.Goals as goal
use Rattle.property_resolver.proofs.start.users_values.Goals.{in-Some+in_ok-keep, in_default}

pub loop-place-init : goal.loop-place-init
loop-place-init c = rw c.no_values-values.ensures (started_none c.args.graph.now.diagram)

pub loop-place-preserved : goal.loop-place-preserved
loop-place-preserved c =
    let d = c.args.graph.now.diagram in
    let i = c.loop-place.place in
    elim c.match-pair.branch [
      | in-Some+in_ok-keep w ↦
          let stands : slice_get d.users i ≡ Some (w.in-Some.at, w.in-Some.value) = rw c.users-users.ensures.users at (sym c.pair.ensures ∙ w.in-Some.is) in
          rw w.values-is (started_more d c.users-users.ensures.graph.diagram.single c.loop-place.values w.keep.new.values i w.in-Some.at w.in-Some.value c.loop-place.invariant stands w.in_ok-keep.ensures)
      | in_default w ↦
          let none : slice_get d.users i ≡ None = rw c.users-users.ensures.users at (sym c.pair.ensures ∙ w.in_default.is) in
          rw w.values-is (started_past d c.loop-place.values i none c.loop-place.invariant)
    ]

pub returns-clause-users : goal.returns-clause-users
returns-clause-users c =
    let d = c.args.graph.now.diagram in
    let n = rw c.users-users.ensures.users at c.len-place-end.ensures in
    let past : length d.users ≤ c.loop-place.place = omega (arith, n) in
    started_all d c.loop-place.values c.loop-place.place past c.loop-place.invariant
