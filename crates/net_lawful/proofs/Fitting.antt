-- Nodes stay fit, and so do requests, answers and management packets, wherever they are.
use Rattle.std.proofs.Common.{◌≡◌, ℕ, ◌+◌, ◌-◌, ◌*◌, ◌^◌, ◌<◌, ◌≤◌, ◌⊎◌, inl, inr, Bool, true, false, List, [], ◌∷◌, length, drop, fold, refl, sym, ◌∙◌, ap, subst, get_or, set, arith, suc, if◌then◌else◌, length-append}
use Rattle.std.specs.Prelude.{Option, Some, None, IfSome, nat_lt, slice_get}
use Rattle.std.specs.List.{sum_by}
use Rattle.std.specs.Option.{option_and_then, option_map_or}
use Rattle.std.proofs.lemmas.Bool.{false≢true}
use Rattle.std.proofs.lemmas.List.{length-map}
use Rattle.std.proofs.lemmas.List.Elements.{All-nil, All-weaker}
use Rattle.std.proofs.lemmas.List.FromFn.{length-range_with_len}
use Rattle.std.proofs.lemmas.List.Sums.{sum_by-cons, sum_by-set}
use Rattle.std.proofs.lemmas.Option.{slice_get_cases}
use Rattle.block_registers.specs.Operations.{Place as Port, accepts, acknowledgement, answer, outcome, reads_op, words_from, words_in, words_of}
use Rattle.chdr_packets.specs.Fits.{FitsBody}
use Rattle.chdr_packets.specs.Length.{body_length}
use Rattle.chdr_packets.specs.declared.packet.Body.TheVariants as body
use Rattle.chdr_packets.specs.declared.packet.Packet.{Packet}
use Rattle.chdr_words.specs.Control.{FitsControl}
use Rattle.chdr_words.specs.Management.{FitsManagement}
use Rattle.chdr_words.specs.Operation.{operation_of}
use Rattle.chdr_words.specs.declared.control.Control.{Control}
use Rattle.chdr_words.specs.declared.control.CtrlOp.{CtrlOp}
use Rattle.chdr_words.specs.declared.control.CtrlOp.TheVariants as ctrl
use Rattle.chdr_words.specs.declared.epid.Epid.{Epid}
use Rattle.chdr_words.specs.declared.management.Management.{Management}
use Rattle.chdr_words.specs.declared.management.MgmtOp.{MgmtOp}
use Rattle.chdr_words.specs.declared.operation.Operation.{Operation}
use Rattle.chdr_words.specs.declared.operation.Operation.TheVariants as op
use Rattle.net_nodes.specs.Budget.{FitsSite, budget, performed_packet}
use Rattle.net_nodes.specs.Perform.{Work, effect, first_hop, last_hop, operated, performed, work_of}
use Rattle.net_nodes.specs.Table.{HasEntries, with_exit}
use Rattle.net_nodes.specs.declared.site.Done.TheVariants as done
use Rattle.net_nodes.specs.declared.site.Site.{Site}
use Rattle.net_nodes.specs.declared.switch.Switch.{Switch}
use Rattle.net_nodes.specs.declared.table.Place.{Place}
use Rattle.net_nodes.proofs.Laws.{adapter_sites_fit, budget_stays, crossbar_sites_fit, end_sites_fit, performed_packets_fit}
use Rattle.net_topology.specs.Links.{end_of, end_port}
use Rattle.net_topology.specs.Ports.{link_bits}
use Rattle.net_topology.specs.Tree.{FitsNode, IsTree, epid_of, port_count, ports_of}
use Rattle.net_topology.specs.declared.plan.NodePlan.{NodePlan}
use Rattle.net_topology.specs.declared.plan.NodePlan.TheVariants.{Crossbar, Adapter, Host, Endpoint}
use Rattle.net_topology.specs.declared.plan.Plan.{Plan}
use Rattle.net_topology.proofs.Laws.{bits_tell_links, links_join_ports}
use Rattle.net_machine.specs.Nodes.{site_at, site_by}
use Rattle.net_machine.specs.Passing.{message, returned, walking}
use Rattle.net_machine.specs.Plans.{no_epid}
use Rattle.net_machine.specs.Queues.{back_vc}
use Rattle.net_nodes.specs.Switch.{end_site}
use Rattle.net_lawful.specs.Messages.{FitsTree, IsAnswerFit, IsControlFit, IsManagementFit}

-- ---- a performed packet is no longer than before

-- an operation adds one answer at most
effect-length : (site : Site) (src : Epid) (w : Work) (o : Operation) → length (effect site src w o).last ≤ length w.last + 1
effect-length site src w op.Nop = omega arith
effect-length site src w op.Advertise = omega arith
effect-length site src w (op.SelectDest port) = omega arith
effect-length site src w op.Return = omega arith
effect-length site src w op.InfoReq = omega (arith, length-append {A = MgmtOp})
effect-length site src w (op.InfoResp info) = omega arith
effect-length site src w (op.CfgWrite cfg) = by_port (nat_lt cfg.value site.ports)
  where
    by_port : (b : Bool) → length (if b then record w { table = with_exit w.table (record { 0 = cfg.addr }) cfg.value } else w).last ≤ length w.last + 1
    by_port true = omega arith
    by_port false = omega arith
effect-length site src w (op.CfgRead addr) = omega (arith, length-append {A = MgmtOp})
effect-length site src w (op.CfgReadResp cfg) = omega arith
effect-length site src w (op.Other code) = omega arith

fold-length : (site : Site) (src : Epid) (ops : List MgmtOp) (w : Work) → length (fold (operated site src) w ops).last ≤ length w.last + length ops
fold-length site src [] w = omega arith
fold-length site src (o ∷ ops) w =
    let rest = fold-length site src ops (operated site src w o) in
    let one = effect-length site src w (operation_of o) in
    omega (arith, rest, one)

-- the first list is gone, and the last has grown by no more than it had
sizes-behind : (hops : List (List MgmtOp)) (last : List MgmtOp) → 2 ≤ length hops
    → length last ≤ length (get_or hops (length hops - 1) []) + length (get_or hops 0 [])
    → sum_by length (set (drop 1 hops) (length hops - 2) last) ≤ sum_by length hops
sizes-behind [] last two le = absurd (omega (arith, two))
sizes-behind (hop ∷ []) last two le = absurd (omega (arith, two))
sizes-behind (hop ∷ next ∷ hops) last two le =
    let at : length (hop ∷ next ∷ hops) - 2 ≡ length hops = omega arith in
    let end : length (hop ∷ next ∷ hops) - 1 ≡ suc (length hops) = omega arith in
    let most : length last ≤ length (get_or (next ∷ hops) (length hops) []) + length hop =
    subst (λ i. length last ≤ length (get_or (hop ∷ next ∷ hops) i []) + length hop) end le in
    let grown = sum_by-set length (next ∷ hops) (length hops) last [] (omega arith) in
    let all = sum_by-cons length hop (next ∷ hops) in
    let same : sum_by length (set (next ∷ hops) (length (hop ∷ next ∷ hops) - 2) last) ≡ sum_by length (set (next ∷ hops) (length hops) last) = ap (λ i. sum_by length (set (next ∷ hops) i last)) at in
    omega (arith, same, most, grown, all)

performed-sizes : (site : Site) (table : List Place) (m : Management) → 2 ≤ length m.hops → sum_by length (performed_packet site table m).hops ≤ sum_by length m.hops
performed-sizes site table m two =
    sizes-behind m.hops (performed site table m).last two (fold-length site m.src (first_hop m) (work_of table done.Dead (last_hop m)))

-- ---- the nodes at which packets come are sites that fit

-- a site with ports below this number
pub record IsSite (site : Site) (bound : ℕ) : Type 0 where
  pub fits : FitsSite site
  pub arrival : site.arrival < bound
  pub ports : site.ports ≤ bound
  pub few : bound ≤ 2 ^ 8

site-by : (tree : Plan) (x port : ℕ) (node : NodePlan) → x < 1024 → FitsNode node → ((epid : Epid) → epid_of node ≡ Some epid → epid.0 < 2 ^ 16) →
    port < ports_of node → IsSite (site_by tree x port node) (ports_of node)
site-by tree x port (Crossbar ports) low fits small lt =
    let switch : Switch = record { instance = x; ports = ports; linked = link_bits tree.links x ports; table = [] } in
    let one = fits.0 in
    let many = fits.1 in
    record {
      fits = (crossbar_sites_fit switch port (record { instance = low; some = fits.0; many = fits.1; linked = (bits_tell_links tree x ports).0; entries = All-nil _ }) lt).0;
      arrival = lt;
      ports = omega arith;
      few = omega (arith, many);
    }
site-by tree x port Adapter low fits small lt =
    let switch : Switch = record { instance = x; ports = 2; linked = link_bits tree.links x 2; table = [] } in
    record {
      fits = (adapter_sites_fit switch port (record { instance = low; two = refl; linked = (bits_tell_links tree x 2).0; entries = All-nil _ }) lt).0;
      arrival = lt;
      ports = omega arith;
      few = omega arith;
    }
site-by tree x port (Host epid) low fits small lt =
    record { fits = end_sites_fit (record { instance = x; epid = epid }) low (small epid refl); arrival = omega arith; ports = omega arith; few = omega arith }
site-by tree x port (Endpoint epid bank) low fits small lt =
    record { fits = end_sites_fit (record { instance = x; epid = epid }) low (small epid refl); arrival = omega arith; ports = omega arith; few = omega arith }

pub site-fits : (tree : Plan) (d : ℕ) → IsTree tree → FitsTree tree → d < 2 * length tree.links →
    IsSite (site_at tree (end_of tree.links d) (end_port tree.links d)) (port_count tree.nodes (end_of tree.links d))
site-fits tree d is fit lt = by_node (slice_get_cases tree.nodes x).1
  where
    x : ℕ
    x = end_of tree.links d

    port : ℕ
    port = end_port tree.links d

    comes : port < port_count tree.nodes x
    comes = (links_join_ports tree is d lt).3

    there : x < length tree.nodes
    there = (links_join_ports tree is d lt).1

    here : Site
    here = end_site (record { instance = x; epid = no_epid })

    by_node : ((node : NodePlan) × (x < length tree.nodes) × (slice_get tree.nodes x ≡ Some node) × (get_or tree.nodes x node ≡ node)) ⊎ ((length tree.nodes ≤ x) × (slice_get tree.nodes x ≡ None)) →
        IsSite (site_at tree x port) (port_count tree.nodes x)
    by_node (inl found) =
        let node = found.0 in
        let few : x < 1024 = omega (arith, there, is.nodes.few, fit.plan.limit) in
        let fits : FitsNode node = subst FitsNode found.3 (fit.plan.nodes x node found.1) in
        let small = λ (epid : Epid) (has : epid_of node ≡ Some epid). fit.epids x epid (ap (option_and_then epid_of) found.2 ∙ has) in
        let comes_by : port < ports_of node = subst (λ o. port < option_map_or ports_of o 0) found.2 comes in
        subst (λ o. IsSite (option_map_or (site_by tree x port) o here) (option_map_or ports_of o 0)) (sym found.2) (site-by tree x port node few fits small comes_by)
    by_node (inr none) = let past = none.0 in absurd (omega (arith, past, there))

-- ---- a management packet is fit once its first hop is performed

higher : (bound : ℕ) (exit : Option ℕ) → bound ≤ 2 ^ 8 → IfSome exit (λ port. port < bound) → IfSome exit (λ port. port < 2 ^ 8)
higher bound None le h = tt
higher bound (Some port) le h = omega (arith, le, h)

pub entries-higher : (bound : ℕ) (places : List Place) → bound ≤ 2 ^ 8 → HasEntries bound places → HasEntries (2 ^ 8) places
entries-higher bound places le each =
    All-weaker (λ (place : Place). IfSome place.exit (λ port. port < bound)) (λ (place : Place). IfSome place.exit (λ port. port < 2 ^ 8)) (λ place h. higher bound place.exit le h) places each

-- the packet that goes on, or back to its source, once its first hop is performed
pub record IsPerformedFit (p : Packet) (m : Management) : Type 0 where
  pub goes_on : IsManagementFit (walking p m) m
  pub goes_back : IsAnswerFit (returned p m)

pub performed-fit : (site : Site) (bound : ℕ) (table : List Place) (p : Packet) (m : Management) → IsSite site bound → HasEntries bound table →
    p.body ≡ body.Management m → IsManagementFit p m → 2 ≤ length m.hops → IsPerformedFit p (performed_packet site table m)
performed-fit site bound table p m is entries has fit two =
    let fits : FitsManagement m = subst FitsBody has fit.fits.body in
    let long : 8 + 8 * length p.mdata + body_length (body.Management m) ≤ 65535 = subst (λ b. 8 + 8 * length p.mdata + body_length b ≤ 65535) has fit.fits.len in
    let sizes = performed-sizes site table m two in
    let now : FitsManagement (performed_packet site table m) =
    performed_packets_fit site table m is.fits (entries-higher bound table is.few entries) fits two fit.answers in
    let room : budget (performed_packet site table m) ≤ 256 = subst (λ n. n ≤ 256) (sym (budget_stays site table m two)) fit.answers in
    record {
      goes_on = record {
        fits = record { vc = fit.fits.vc; mdata = fit.fits.mdata; body = now; len = omega (arith, long, sizes) };
        source = fit.source;
        answers = room;
      };
      goes_back = record {
        fit = record {
          fits = record { vc = omega arith; mdata = fit.fits.mdata; body = now; len = omega (arith, long, sizes) };
          source = fit.source;
          answers = room;
        };
        goes = fit.source;
      };
    }

-- ---- an acknowledgement is fit

reads-few : (o : CtrlOp) (words : List ℕ) (addr : ℕ) (values : List ℕ) → length values ≤ 15 → length (reads_op o words addr values) ≤ 15
reads-few ctrl.Sleep words addr values le = omega arith
reads-few ctrl.Write words addr values le = omega arith
reads-few ctrl.Read words addr values le = omega arith
reads-few ctrl.ReadWrite words addr values le = omega arith
reads-few ctrl.BlockWrite words addr values le = omega arith
reads-few ctrl.BlockRead words addr values le =
    let all : length (words_from words addr (length values)) ≡ length values = length-map _ _ ∙ length-range_with_len 0 (length values) in
    omega (arith, all, le)
reads-few ctrl.Poll words addr values le = omega arith
reads-few (ctrl.Other code) words addr values le = omega arith
reads-few (ctrl.User code) words addr values le = omega arith

outcome-few : (place : Port) (c : Control) → length c.words ≤ 15 → length (words_in (outcome place c)) ≤ 15
unfolding outcome
outcome-few place c le = by_test (accepts place c)
  where
    by_test : (b : Bool) → length (words_in (if b then Some (reads_op c.op (words_of place) c.addr c.words) else None)) ≤ 15
    by_test true = reads-few c.op (words_of place) c.addr c.words le
    by_test false = omega arith

pub answer-fit : (own : Epid) (place : Port) (p : Packet) (c : Control) → p.body ≡ body.Control c → IsControlFit p c → c.ack ≡ false →
    IsAnswerFit (message back_vc c.src (body.Control (answer own place c)))
unfolding acknowledgement
answer-fit own place p c has fit asks =
    let fits : FitsControl c = subst FitsBody has fit.fits.body in
    let few = outcome-few place c fits.words in
    record {
      fit = record {
        fits = record {
          vc = omega arith;
          mdata = omega arith;
          body = record { seq = fits.seq; src_port = fits.dst_port; dst_port = fits.src_port; op = fits.op; enables = fits.enables; addr = fits.addr; words = few };
          len = omega (arith, few);
        };
        source = λ never. absurd (false≢true (sym never));
      };
      goes = fit.source asks;
    }
