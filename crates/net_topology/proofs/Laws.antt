-- The laws of specs/Laws, with their proofs, for the proofs of other crates.
use Rattle.std.proofs.Common.{◌+◌, length, sym, ◌∙◌, ap, arith}
use Rattle.net_topology.specs.declared.plan.Plan.{Plan}
use Rattle.net_topology.specs.Laws as law
use Rattle.net_topology.specs.Ranks.{is_ahead, rank_of}
use Rattle.net_topology.specs.Tree.{IsTree}
use Rattle.net_topology.proofs.AlongLemmas.{walk_is_way, leads_is_way, leads_way, none_itself, along_all, routed_all}
use Rattle.net_topology.proofs.BackLemmas.{NeverTurns-way}
use Rattle.net_topology.proofs.BitLemmas.{link_bits-below, bit_at-link_bits, bit_from_one, one_if}
use Rattle.net_topology.proofs.CheckLemmas.{way_of_is_way, links_few}
use Rattle.net_topology.proofs.EpidLemmas.{epid_from_found, found_from_epid}
use Rattle.net_topology.proofs.FaultLemmas.{tree_fault, one_fault, staged}
use Rattle.net_topology.proofs.LawLemmas.{forest, only_way, back_way, rank_falls, clear_link, start_there, end_there}
use Rattle.net_topology.proofs.PortLemmas.{link_at-start, link_at-some, goes_on, way_goes_on}
use Rattle.net_topology.proofs.RankLemmas.{count_below-most}
use Rattle.net_topology.proofs.RouteLemmas.{start_port_there, end_port_there}

module _ (plan : Plan) where
  pub ways_go_on : law.WaysGoOn plan
  ways_go_on a b d ds w = (w.0.2, w.1.1)

  pub ways_never_turn : law.WaysNeverTurn plan
  ways_never_turn a b ds w = NeverTurns-way plan.links (length plan.links) a b ds w

  pub ways_follow : law.WaysFollow plan
  ways_follow a b d e ds w = way_goes_on plan.links a b d e ds w

  pub ranks_are_bounded : law.RanksAreBounded plan
  ranks_are_bounded d = count_below-most (is_ahead plan.links d) (length plan.nodes)

  pub links_leave_by_ports : law.LinksLeaveByPorts plan
  links_leave_by_ports d node port h =
      let found = link_at-some plan.links node port d h in
      (found.1.from, found.1.out, found.0)

  pub other_ports_lead_on : law.OtherPortsLeadOn plan
  other_ports_lead_on d e port ne h = goes_on plan.links d e port ne h

  pub bits_tell_links : law.BitsTellLinks plan
  bits_tell_links node ports = (
    link_bits-below plan.links node ports,
    λ port l. (
      λ bit. bit_from_one _ (sym (bit_at-link_bits plan.links node ports port l) ∙ bit),
      λ there. bit_at-link_bits plan.links node ports port l ∙ ap one_if there,
    ),
  )

  pub trees_have_no_fault : law.TreesHaveNoFault plan
  trees_have_no_fault fault t h = tree_fault plan fault t h

  pub faults_are_unique : law.FaultsAreUnique plan
  faults_are_unique f g n m p q = one_fault plan f g (staged f n) (staged g m) p q

module _ (plan : Plan) (tree : IsTree plan) where
  pub ways_are_there : law.WaysAreThere plan
  ways_are_there a b p q = way_of_is_way plan a b tree p q

  pub ways_are_unique : law.WaysAreUnique plan
  ways_are_unique a b ds w = only_way plan tree a b ds w

  pub ways_lead_back : law.WaysLeadBack plan
  ways_lead_back a b p q = back_way plan tree a b p q

  pub walks_are_ways : law.WalksAreWays plan
  walks_are_ways a b ds w t = walk_is_way plan.links (length plan.links) a b ds (forest plan tree) w t

  pub ranks_fall : law.RanksFall plan
  ranks_fall d e h m = rank_falls plan tree d e h m

  pub some_link_is_clear : law.SomeLinkIsClear plan
  some_link_is_clear busy d h b = clear_link plan tree busy (rank_of plan d + 1) d (omega arith) h b

  pub links_are_few : law.LinksAreFew plan
  links_are_few = links_few plan (length plan.links) tree.links

  pub links_join_ports : law.LinksJoinPorts plan
  links_join_ports d h =
      (start_there plan tree d h, end_there plan tree d h, start_port_there plan tree d h, end_port_there plan tree d h)

  pub ports_name_links : law.PortsNameLinks plan
  ports_name_links d h = link_at-start plan tree d h

  pub epids_name_nodes : law.EpidsNameNodes plan
  epids_name_nodes x epid = (
    λ n. epid_from_found plan.nodes epid x n,
    λ e. found_from_epid plan.nodes epid x tree.nodes.distinct e,
  )

  pub routed_tables_lead : law.RoutedTablesLead plan
  routed_tables_lead exits a b x z r n m ne = routed_all plan tree exits a b x z r n m ne

  pub written_ways_lead : law.WrittenWaysLead plan
  written_ways_lead exits a b x z r n m ne = along_all plan tree exits a b x z r n m ne

  pub leads_along_ways : law.LeadsAlongWays plan
  leads_along_ways exits epid d z ds h l = leads_is_way plan tree exits epid z d ds h l

  pub leads_are_ways : law.LeadsAreWays plan
  leads_are_ways exits a b l = only_way plan tree l.source l.target _ (leads_way plan tree exits a b l)

  pub none_reaches_itself : law.NoneReachesItself plan
  none_reaches_itself exits a b l = none_itself plan tree exits a b l
