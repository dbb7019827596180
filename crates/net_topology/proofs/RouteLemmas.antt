-- What an entry leads to: the ports of directed links, and the nodes with tables between them.
use Rattle.std.proofs.Common.{◌≡◌, ◌≢◌, ◌==◌, ℕ, ◌*◌, ◌<◌, true, false, length, Option, Some, None, slice_get, get_or, inl, inr, sym, ◌∙◌, refl, ap, subst, arith}
use Rattle.std.specs.Option.{option_and_then, option_map_or}
use Rattle.std.proofs.lemmas.Bool.{false≢true, ne_eqb}
use Rattle.std.proofs.lemmas.List.Quantifiers.{position-Some}
use Rattle.std.proofs.lemmas.Option.{slice_get_cases}
use Rattle.chdr_words.specs.declared.epid.Epid.{Epid}
use Rattle.net_topology.specs.declared.plan.NodePlan.{NodePlan}
use Rattle.net_topology.specs.declared.plan.NodePlan.TheVariants.{Crossbar, Adapter, Host, Endpoint}
use Rattle.net_topology.specs.declared.plan.Plan.{Plan}
use Rattle.net_topology.specs.Leads.{Exits, HasTable, has_table, turned_to, sent_on}
use Rattle.net_topology.specs.Links.{link_of, back_of, start_of, end_of, start_port, end_port, link_at}
use Rattle.net_topology.specs.Ranks.{MayFollow}
use Rattle.net_topology.specs.Tree.{IsTree, ports_of, port_count, has_epid, node_with, HasPorts}
use Rattle.net_topology.proofs.WalkLemmas.{start_of-even, start_of-odd}
use Rattle.net_topology.proofs.RankLemmas.{parity, start_of-back, back_below}
use Rattle.net_topology.proofs.PortLemmas.{LeavesBy, start_port-even, start_port-odd, start_port-back, one_leaves, link_at-start, choose_true, choose_false}

-- a node with more than one port has a table
pub table_of_ports : (node : NodePlan) → 1 < ports_of node → has_table node ≡ true
table_of_ports (Crossbar ports) h = refl
table_of_ports Adapter h = refl
table_of_ports (Host epid) h = absurd (omega arith)
table_of_ports (Endpoint epid bank) h = absurd (omega arith)

pub table_at_ports : (o : Option NodePlan) → 1 < option_map_or ports_of o 0 → option_map_or has_table o false ≡ true
table_at_ports None h = absurd (omega arith)
table_at_ports (Some node) h = table_of_ports node h

-- two ports that differ are at least two
pub two_ports : (p q n : ℕ) → p ≢ q → p < n → q < n → 1 < n
two_ports p q n ne a b = omega arith

-- an entry settles where a packet is sent
pub sent_by : (plan : Plan) (exits : Exits) (d : ℕ) (epid : Epid) (port : ℕ) → exits (end_of plan.links d) epid ≡ Some port → option_and_then (turned_to plan d) (exits (end_of plan.links d) epid) ≡ turned_to plan d port
sent_by plan exits d epid port e = ap (option_and_then (turned_to plan d)) e

-- an end node has one port
pub port_of_end : (epid : Epid) (node : NodePlan) → has_epid epid node ≡ true → ports_of node ≡ 1
port_of_end epid (Crossbar ports) h = absurd (false≢true h)
port_of_end epid Adapter h = absurd (false≢true h)
port_of_end epid (Host own) h = refl
port_of_end epid (Endpoint own bank) h = refl

module _ (plan : Plan) (tree : IsTree plan) where
  -- the port by which a directed link leaves is there
  pub start_port_there : (d : ℕ) → d < 2 * length plan.links → start_port plan.links d < port_count plan.nodes (start_of plan.links d)
  start_port_there d h =
      let j = (parity d).0 in
      elim (parity d).1 [
        | inl e ↦
            let ports : HasPorts plan.nodes (link_of plan.links j) = (tree.links j (omega arith)).ports in
            subst (λ p. p < port_count plan.nodes (start_of plan.links d)) (sym (ap (start_port plan.links) e ∙ start_port-even plan.links j)) (subst (λ x. (link_of plan.links j).a_port < port_count plan.nodes x) (sym (ap (start_of plan.links) e ∙ start_of-even plan.links j)) ports.0)
        | inr e ↦
            let ports : HasPorts plan.nodes (link_of plan.links j) = (tree.links j (omega arith)).ports in
            subst (λ p. p < port_count plan.nodes (start_of plan.links d)) (sym (ap (start_port plan.links) e ∙ start_port-odd plan.links j)) (subst (λ x. (link_of plan.links j).b_port < port_count plan.nodes x) (sym (ap (start_of plan.links) e ∙ start_of-odd plan.links j)) ports.1)
      ]

  -- and so is the port by which it comes
  pub end_port_there : (d : ℕ) → d < 2 * length plan.links → end_port plan.links d < port_count plan.nodes (end_of plan.links d)
  end_port_there d h =
      let back = start_port_there (back_of d) (back_below d (length plan.links) h) in
      subst (λ p. p < port_count plan.nodes (end_of plan.links d)) (start_port-back plan.links d) (subst (λ x. start_port plan.links (back_of d) < port_count plan.nodes x) (start_of-back plan.links d) back)

  -- where a packet goes on, it leaves by another port than it came by
  pub other_port : (d e : ℕ) → d < 2 * length plan.links → MayFollow plan.links d e → start_port plan.links e ≢ end_port plan.links d
  other_port d e h m same =
      let came : LeavesBy plan.links (back_of d) (end_of plan.links d) (end_port plan.links d) = record { from = start_of-back plan.links d; out = start_port-back plan.links d } in
      let goes : LeavesBy plan.links e (end_of plan.links d) (end_port plan.links d) = record { from = m.starts; out = same } in
      m.onward (one_leaves plan tree e (back_of d) (end_of plan.links d) (end_port plan.links d) m.there (back_below d (length plan.links) h) goes came)

  -- so the node has a table
  pub table_between : (d e : ℕ) → d < 2 * length plan.links → MayFollow plan.links d e → HasTable plan (end_of plan.links d)
  table_between d e h m =
      let out : start_port plan.links e < port_count plan.nodes (end_of plan.links d) = subst (λ x. start_port plan.links e < port_count plan.nodes x) m.starts (start_port_there e m.there) in
      table_at_ports (slice_get plan.nodes (end_of plan.links d)) (two_ports (start_port plan.links e) (end_port plan.links d) (port_count plan.nodes (end_of plan.links d)) (other_port d e h m) out (end_port_there d h))

  -- a routed table sends a packet on over the next link
  pub sent_on-routed : (exits : Exits) (d e : ℕ) (epid : Epid) → d < 2 * length plan.links → MayFollow plan.links d e → exits (end_of plan.links d) epid ≡ Some (start_port plan.links e) → sent_on plan exits epid d ≡ Some e
  sent_on-routed exits d e epid h m x =
      choose_true (option_map_or has_table (slice_get plan.nodes (end_of plan.links d)) false) _ _ (table_between d e h m)
      ∙ sent_by plan exits d epid (start_port plan.links e) x
      ∙ choose_false (start_port plan.links e == end_port plan.links d) _ _ (ne_eqb (start_port plan.links e) (end_port plan.links d) (other_port d e h m))
      ∙ ap (λ y. link_at plan.links y (start_port plan.links e)) (sym m.starts)
      ∙ link_at-start plan tree e m.there

  -- a node that has an EPID has one port
  pub one_port : (x : ℕ) (epid : Epid) → node_with plan.nodes epid ≡ Some x → (x < length plan.nodes) × (port_count plan.nodes x ≡ 1)
  one_port x epid n =
      let at : (d : NodePlan) → (x < length plan.nodes) × (has_epid epid (get_or plan.nodes x d) ≡ true) = λ d. ((position-Some (has_epid epid) plan.nodes x d n).0, (position-Some (has_epid epid) plan.nodes x d n).1) in
      elim (slice_get_cases plan.nodes x).1 [
        | inl f ↦ (f.1, ap (λ o. option_map_or ports_of o 0) f.2 ∙ port_of_end epid f.0 (ap (has_epid epid) (sym f.3) ∙ (at f.0).1))
        | inr f ↦ absurd (omega (arith, f.0, (at Adapter).0))
      ]
