-- The entries of a table stay below a bound.
use Rattle.std.proofs.Common.{◌≡◌, ◌==◌, ℕ, ◌<◌, ◌≤◌, true, false, cond, List, [], ◌∷◌, map, fold, Some, sym, refl, ap, subst, arith}
use Rattle.std.specs.Prelude.{IfSome, nat_lt}
use Rattle.std.proofs.lemmas.Bool.{ltb-true}
use Rattle.std.proofs.lemmas.List.Elements.{All-nil, All-cons, All-head, All-tail}
use Rattle.chdr_words.specs.Operation.{operation_of}
use Rattle.chdr_words.specs.declared.epid.Epid.{Epid}
use Rattle.chdr_words.specs.declared.management.Management.{Management}
use Rattle.chdr_words.specs.declared.management.MgmtOp.{MgmtOp}
use Rattle.chdr_words.specs.declared.node_info.NodeKind.{NodeKind}
use Rattle.chdr_words.specs.declared.node_info.NodeKind.TheVariants as kinds
use Rattle.chdr_words.specs.declared.operation.Operation.{Operation}
use Rattle.chdr_words.specs.declared.operation.Operation.TheVariants.{Nop, Advertise, SelectDest, Return, InfoReq, InfoResp, CfgWrite, CfgRead, CfgReadResp, Other}
use Rattle.net_nodes.specs.Perform.{Work, effect, operated, first_hop, last_hop, performed, work_of}
use Rattle.net_nodes.specs.Switch.{FitsCrossbar, FitsAdapter, switch_site, crossbar_site, adapter_site}
use Rattle.net_nodes.specs.Table.{exit_of, with_exit, no_exit, HasEntries}
use Rattle.net_nodes.specs.declared.site.Done.{Done}
use Rattle.net_nodes.specs.declared.site.Done.TheVariants as done
use Rattle.net_nodes.specs.declared.site.Site.{Site}
use Rattle.net_nodes.specs.declared.switch.Switch.{Switch}
use Rattle.net_nodes.specs.declared.table.Place.{Place}

-- an entry, if there is one, is below the bound
abbrev pub IsBelow : ℕ → Place → Type 0
IsBelow bound place = IfSome place.exit (λ port. port < bound)

-- a table without entries
pub entries_none : (bound : ℕ) (epids : List Epid) → HasEntries bound (map no_exit epids)
entries_none bound [] = All-nil (IsBelow bound)
entries_none bound (epid ∷ epids) =
    All-cons (IsBelow bound) (no_exit epid) (map no_exit epids) tt (entries_none bound epids)

-- a new entry is below what bounds the ports
pub entries_written : (bound port : ℕ) (places : List Place) (epid : Epid) → port < bound → HasEntries bound places → HasEntries bound (with_exit places epid port)
entries_written bound port [] epid h e = e
entries_written bound port (place ∷ places) epid h e =
    let rest = All-tail (IsBelow bound) place places e in
    elim (place.epid.0 == epid.0) as (λ b. HasEntries bound (cond b (record { epid = place.epid; exit = Some port } ∷ places) (place ∷ with_exit places epid port))) [
      | true ↦ All-cons (IsBelow bound) (record { epid = place.epid; exit = Some port }) places h rest
      | false ↦ All-cons (IsBelow bound) place (with_exit places epid port) (All-head (IsBelow bound) place places e) (entries_written bound port places epid h rest)
    ]

-- what is found is below it too
pub entries_found : (bound : ℕ) (places : List Place) (epid : Epid) → HasEntries bound places → IfSome (exit_of places epid) (λ port. port < bound)
entries_found bound [] epid e = tt
entries_found bound (place ∷ places) epid e =
    elim (place.epid.0 == epid.0) as (λ b. IfSome (cond b place.exit (exit_of places epid)) (λ port. port < bound)) [
      | true ↦ All-head (IsBelow bound) place places e
      | false ↦ entries_found bound places epid (All-tail (IsBelow bound) place places e)
    ]

module _ (site : Site) (src : Epid) where
  pub effect_entries : (bound : ℕ) → site.arrival < bound → site.ports ≤ bound → (w : Work) (op : Operation) → HasEntries bound w.table → HasEntries bound (effect site src w op).table
  effect_entries bound a p w Nop e = e
  effect_entries bound a p w Advertise e = entries_written bound site.arrival w.table src a e
  effect_entries bound a p w (SelectDest port) e = e
  effect_entries bound a p w Return e = e
  effect_entries bound a p w InfoReq e = e
  effect_entries bound a p w (InfoResp info) e = e
  effect_entries bound a p w (CfgWrite cfg) e =
      elim (nat_lt cfg.value site.ports) as (λ b. nat_lt cfg.value site.ports ≡ b → HasEntries bound (cond b (record w { table = with_exit w.table (record { 0 = cfg.addr }) cfg.value }) w).table) [
        | true ↦ λ t. entries_written bound cfg.value w.table (record { 0 = cfg.addr }) (omega (arith, ltb-true cfg.value site.ports t, p)) e
        | false ↦ λ f. e
      ] refl
  effect_entries bound a p w (CfgRead addr) e = e
  effect_entries bound a p w (CfgReadResp cfg) e = e
  effect_entries bound a p w (Other code) e = e

  pub fold_entries : (bound : ℕ) → site.arrival < bound → site.ports ≤ bound → (ops : List MgmtOp) (w : Work) → HasEntries bound w.table → HasEntries bound (fold (operated site src) w ops).table
  fold_entries bound a p [] w e = e
  fold_entries bound a p (op ∷ ops) w e =
      fold_entries bound a p ops (operated site src w op) (effect_entries bound a p w (operation_of op) e)

-- a hop leaves entries below a bound of the ports
pub entries_performed : (site : Site) (table : List Place) (m : Management) (bound : ℕ) → site.arrival < bound → site.ports ≤ bound → HasEntries bound table → HasEntries bound (performed site table m).table
entries_performed site table m bound a p e =
    fold_entries site m.src bound a p (first_hop m) (work_of table done.Dead (last_hop m)) e

-- a node that fits does so when it has performed a hop
pub switch_performed : (kind : NodeKind) (old new : Switch) (arrival : ℕ) (m : Management) (exit : Done) (last : List MgmtOp) → arrival < old.ports → HasEntries old.ports old.table → work_of new.table exit last ≡ performed (switch_site kind old arrival) old.table m → HasEntries old.ports new.table
switch_performed kind old new arrival m exit last a e work =
    subst (HasEntries old.ports) (sym (ap (λ (w : Work). w.table) work)) (entries_performed (switch_site kind old arrival) old.table m old.ports a (omega arith) e)

pub crossbar_performed : (old new : Switch) (arrival : ℕ) (m : Management) (exit : Done) (last : List MgmtOp) → FitsCrossbar old → arrival < old.ports → work_of new.table exit last ≡ performed (crossbar_site old arrival) old.table m → new ≡ record old { table = new.table } → FitsCrossbar new
crossbar_performed old new arrival m exit last f a work kept =
    subst FitsCrossbar (sym kept) (record {
      instance = f.instance;
      some = f.some;
      many = f.many;
      linked = f.linked;
      entries = switch_performed kinds.Crossbar old new arrival m exit last a f.entries work;
    })

pub adapter_performed : (old new : Switch) (arrival : ℕ) (m : Management) (exit : Done) (last : List MgmtOp) → FitsAdapter old → arrival < old.ports → work_of new.table exit last ≡ performed (adapter_site old arrival) old.table m → new ≡ record old { table = new.table } → FitsAdapter new
adapter_performed old new arrival m exit last f a work kept =
    subst FitsAdapter (sym kept) (record {
      instance = f.instance;
      two = f.two;
      linked = f.linked;
      entries = switch_performed kinds.Transport old new arrival m exit last a f.entries work;
    })

pub ruleset entry_lemmas = (entries_none, entries_written, entries_found, entries_performed)
