use Rattle.std.proofs.Common.{◌∙◌, refl, sym, Some, None}
use Rattle.std.proofs.lemmas.Result.{err_from_is_err_and}
use Rattle.property_resolver.specs.Spreads.{beside}
use Rattle.property_resolver.proofs.Learned.{kept, contradicted, gives_beside, ports_step}
use Rattle.property_resolver.proofs.spread.spread_side.Goals as goal

pub returns-in_default-clause-cause : goal.returns-in_default-clause-cause
returns-in_default-clause-cause c =
    let a = c.args in
    let d = a.graph.now.diagram in
    record {
      pairs = c.loop-port.values;
      derivation = c.loop-port.invariant.0.derivation;
      from = a.at;
      at_block = refl;
      there = kept d a.values.now c.loop-port.values c.loop-port.invariant.0 a.at a.value c.requires.held;
      to = beside a.at a.side c.loop-port.port;
      fails = gives_beside d a.kind a.side c.loop-port.port a.at a.value None c.requires.stands
          (rw (← c.port_count-port-end.ensures) c.loop-port-test.true) (sym c.in_default.is ∙ c.carried.ensures);
    }

pub returns-in_err-learn-clause-cause : goal.returns-in_err-learn-clause-cause
returns-in_err-learn-clause-cause c =
    let p = err_from_is_err_and c.from_residual.result c.from_residual.ensures.1 in
    let a = c.args in
    let d = a.graph.now.diagram in
    rw (p.1, p.2) (contradicted d c.loop-port.values (beside a.at a.side c.loop-port.port) c.in-Some.derived c.loop-port.invariant.0.derivation _ a.at a.value
    (kept d a.values.now c.loop-port.values c.loop-port.invariant.0 a.at a.value c.requires.held)
    (gives_beside d a.kind a.side c.loop-port.port a.at a.value (Some c.in-Some.derived) c.requires.stands
    (rw (← c.port_count-port-end.ensures) c.loop-port-test.true) (sym c.in-Some.is ∙ c.carried.ensures))
    c.in_err-learn.field-0.0 c.in_err-learn.ensures.clash)

pub loop-port-preserved : goal.loop-port-preserved
loop-port-preserved c =
    let a = c.args in
    ports_step a.graph.now.diagram a.values.now c.loop-port.values c.learn.new.values c.loop-port.invariant.0 a.at a.value c.requires.held a.kind a.side c.loop-port.port c.in-Some.derived
    c.requires.stands (rw (← c.port_count-port-end.ensures) c.loop-port-test.true) (sym c.in-Some.is ∙ c.carried.ensures) c.loop-port.invariant.1 c.in_ok-learn.ensures.ok
