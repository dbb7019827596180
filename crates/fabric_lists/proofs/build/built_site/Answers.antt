use Rattle.std.proofs.Common.{◌∙◌, Bool, List, sym, ap}
use Rattle.chdr_words.specs.declared.epid.Epid.{Epid}
use Rattle.net_machine.specs.Begin.{built_node, exit_to}
use Rattle.net_machine.specs.State.{Node, blank}
use Rattle.net_nodes.specs.declared.table.Place.{Place}
use Rattle.net_topology.specs.declared.plan.Plan.{Plan}
use Rattle.fabric_nodes.specs.Shapes.{NodeSeen, empty_table, shape_at}
use Rattle.fabric_lists.specs.Routed.{routed_table}
use Rattle.fabric_lists.proofs.BuildLemmas.{empty-node, nothing-lies, routed-node}
use Rattle.fabric_lists.proofs.build.built_site.Goals as goal
use Rattle.fabric_lists.proofs.build.built_site.Goals.{then-routed, else-routed}

pub returns-clause-node : goal.returns-clause-node
returns-clause-node c =
    let tree = c.args.topology.now in
    let with_table : List Place → Node = λ ps. record blank { table = ps } in
    nothing-lies c.if-routed.node.table _ _ _ (built_node tree c.args.routed c.args.x) c.new-2.ensures c.new-3.ensures c.new-4.ensures
    (elim c.if-routed.branch [
      | then-routed w ↦ ap (λ (n : NodeSeen). with_table n.table) w.node-is ∙ ap with_table w.route.ensures.table
          ∙ ap (λ (es : List Epid). with_table (routed_table (shape_at tree c.args.x) (exit_to tree c.args.x) es)) c.requires.epids
          ∙ routed-node tree c.args.x ∙ ap (λ (b : Bool). built_node tree b c.args.x) (sym w.if-routed.true)
      | else-routed w ↦ ap (λ (n : NodeSeen). with_table n.table) w.node-is ∙ ap with_table c.in_ok-node.ensures.table
          ∙ ap (λ (p : Plan). with_table (empty_table (shape_at p c.args.x) c.args.epids.now)) c.requires.same
          ∙ ap (λ (es : List Epid). with_table (empty_table (shape_at tree c.args.x) es)) c.requires.epids
          ∙ empty-node tree c.args.x ∙ ap (λ (b : Bool). built_node tree b c.args.x) (sym w.if-routed.false)
    ])
