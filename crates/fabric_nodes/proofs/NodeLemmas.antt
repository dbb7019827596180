-- A hop at an end node, which has no table.
use Rattle.std.proofs.Common.{◌≡◌, List, [], ◌∷◌, ap, refl, sym, cond, nat_lt, true, false}
use Rattle.std.specs.Prelude.{fold}
use Rattle.chdr_words.specs.Operation.{operation_of}
use Rattle.chdr_words.specs.declared.epid.Epid.{Epid}
use Rattle.chdr_words.specs.declared.management.Management.{Management}
use Rattle.chdr_words.specs.declared.management.MgmtOp.{MgmtOp}
use Rattle.chdr_words.specs.declared.operation.Operation.{Operation}
use Rattle.chdr_words.specs.declared.operation.Operation.TheVariants as op
use Rattle.net_nodes.specs.Perform.{Work, effect, first_hop, last_hop, operated, performed, work_of}
use Rattle.net_nodes.specs.Switch.{end_site}
use Rattle.net_nodes.specs.declared.end_node.EndNode.{EndNode}
use Rattle.net_nodes.specs.declared.site.Done.{Done}
use Rattle.net_nodes.specs.declared.site.Done.TheVariants as done
use Rattle.net_nodes.specs.declared.site.Site.{Site}
use Rattle.net_nodes.specs.declared.table.Place.{Place}
use Rattle.net_nodes.specs.Table.{with_exit}

-- an operation leaves an empty table empty
effect-empty : (site : Site) (src : Epid) (work : Work) (operation : Operation) → work.table ≡ [] →
    (effect site src work operation).table ≡ []
effect-empty site src work op.Nop e = e
effect-empty site src work op.Advertise e = ap (λ (table : List Place). with_exit table src site.arrival) e
effect-empty site src work (op.SelectDest port) e = e
effect-empty site src work op.Return e = e
effect-empty site src work op.InfoReq e = e
effect-empty site src work (op.InfoResp info) e = e
effect-empty site src work (op.CfgWrite cfg) e = elim (nat_lt cfg.value site.ports) as
    (λ b. (cond b (record work { table = with_exit work.table (record { 0 = cfg.addr }) cfg.value }) work).table ≡ [])
    [ true ↦ ap (λ (table : List Place). with_exit table (record { 0 = cfg.addr }) cfg.value) e | false ↦ e ]
effect-empty site src work (op.CfgRead addr) e = e
effect-empty site src work (op.CfgReadResp cfg) e = e
effect-empty site src work (op.Other code) e = e

fold-empty : (site : Site) (src : Epid) (work : Work) (ops : List MgmtOp) → work.table ≡ [] →
    (fold (operated site src) work ops).table ≡ []
fold-empty site src work [] e = e
fold-empty site src work (word ∷ ops) e =
    fold-empty site src (operated site src work word) ops (effect-empty site src work (operation_of word) e)

same-work : (work : Work) (table : List Place) (exit : Done) (last : List MgmtOp) → table ≡ work.table → exit ≡ work.exit →
    last ≡ work.last → work_of table exit last ≡ work
same-work work table exit last p q r = rw (p, q, r) refl

-- what a hop leaves at an end node, by its exit and the last hop
pub end-performed : (node : EndNode) (m : Management) (exit : Done) (last : List MgmtOp) →
    exit ≡ (performed (end_site node) [] m).exit → last ≡ (performed (end_site node) [] m).last →
    work_of [] exit last ≡ performed (end_site node) [] m
end-performed node m exit last is here =
    let table = fold-empty (end_site node) m.src (work_of [] done.Dead (last_hop m)) (first_hop m) refl in
    same-work (performed (end_site node) [] m) [] exit last (sym table) is here
