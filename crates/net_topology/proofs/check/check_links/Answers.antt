use Rattle.std.proofs.Common.{◌≡◌, ◌+◌, ◌≤◌, [], ◌∷◌, ◌++◌, length, subst, sym, arith, rules, below_more}
use Rattle.net_topology.specs.Parts.{HasRows}
use Rattle.net_topology.proofs.CheckLemmas.{links_few, HasRows-push}
use Rattle.net_topology.proofs.check.check_links.Goals as goal

pub check_link-requires-clause-number : goal.check_link-requires-clause-number
check_link-requires-clause-number c =
    let few : c.loop-k.k ≤ length c.args.plan.now.nodes = links_few c.args.plan.now c.loop-k.k c.loop-k.invariant.sound in
    omega arith

pub loop-k-preserved : goal.loop-k-preserved
loop-k-preserved c =
    let pushed : c.push-in-loop-k.new.self ≡ c.loop-k.rows ++ c.in_ok-next.next.items ∷ [] = search rules in
    record {
      sound = below_more _ _ c.loop-k.invariant.sound (search rules);
      rows = subst (HasRows c.args.plan.now (c.loop-k.k + 1)) (sym pushed) (HasRows-push c.args.plan.now c.loop-k.k c.loop-k.rows c.in_ok-next.next.items c.loop-k.invariant.rows (search rules));
    }
