use Rattle.std.proofs.Common.{Some, sym, ◌∙◌, ap}
use Rattle.std.proofs.lemmas.Result.{err_from_is_err_and}
use Rattle.chdr_words.specs.declared.epid.Epid.{Epid}
use Rattle.route_writes.proofs.Finding.{number-none, number-there, unknown-a, unknown-b, unknown-host, unknown-none}
use Rattle.route_writes.proofs.route.located.Goals as goal

pub returns-in_err-host : goal.returns-in_err-host
returns-in_err-host c =
    let nodes = c.args.nodes.now in
    let p = err_from_is_err_and c.from_residual.result c.from_residual.ensures.1 in
    rw (p.1, p.2)
    (unknown-host nodes c.args.host c.args.a c.args.b (number-none nodes c.args.host c.in_err-host.ensures.0)
    ∙ ap (λ (e : Epid). Some e) (sym c.in_err-host.ensures.1))

pub returns-in_err-from : goal.returns-in_err-from
returns-in_err-from c =
    let nodes = c.args.nodes.now in
    let p = err_from_is_err_and c.from_residual-in_err-from.result c.from_residual-in_err-from.ensures.1 in
    rw (p.1, p.2)
    (unknown-a nodes c.args.host c.args.a c.args.b (number-there nodes c.args.host c.in_ok-host.host c.in_ok-host.ensures) (number-none nodes c.args.a c.in_err-from.ensures.0)
    ∙ ap (λ (e : Epid). Some e) (sym c.in_err-from.ensures.1))

pub returns-in_err-to : goal.returns-in_err-to
returns-in_err-to c =
    let nodes = c.args.nodes.now in
    let p = err_from_is_err_and c.from_residual-in_err-to.result c.from_residual-in_err-to.ensures.1 in
    rw (p.1, p.2)
    (unknown-b nodes c.args.host c.args.a c.args.b (number-there nodes c.args.host c.in_ok-host.host c.in_ok-host.ensures)
    (number-there nodes c.args.a c.in_ok-from.from c.in_ok-from.ensures) (number-none nodes c.args.b c.in_err-to.ensures.0)
    ∙ ap (λ (e : Epid). Some e) (sym c.in_err-to.ensures.1))

pub returns : goal.returns
returns c =
    let nodes = c.args.nodes.now in (
      unknown-none nodes c.args.host c.args.a c.args.b (number-there nodes c.args.host c.in_ok-host.host c.in_ok-host.ensures)
          (number-there nodes c.args.a c.in_ok-from.from c.in_ok-from.ensures) (number-there nodes c.args.b c.in_ok-to.to c.in_ok-to.ensures),
      c.in_ok-host.ensures,
      c.in_ok-from.ensures,
      c.in_ok-to.ensures,
    )
