use Rattle.std.proofs.Common.{◌≡◌, Some, refl, subst, sym}
use Rattle.net_topology.specs.declared.plan.Plan.{Plan}
use Rattle.rf_script_types.specs.Fits.{FitsCommand}
use Rattle.rf_script_types.specs.declared.command.ScriptCommand.{ScriptCommand}
use Rattle.script_worlds.specs.Books.{IsNetBook}
use Rattle.script_worlds.specs.Quiet.{IsPerformed}
use Rattle.script_worlds.specs.WorldView.{BuiltStands, new_net}
use Rattle.script_worlds.specs.Worlds.{UnlessRefused, plan_of, unless_refused, with_tree}
use Rattle.script_worlds.proofs.Fits.{block-fits, net-fits}
use Rattle.script_worlds.proofs.world.World.perform.Goals as goal

pub net-requires : goal.net-requires
net-requires g c =
    rw c.in_ok-plan-in-Net.ensures (net-fits c.requires.0 _ _ _ _ (subst (λ (command : ScriptCommand). FitsCommand c.requires.0 command) c.in-Net.is c.requires.1))

pub block-requires : goal.block-requires
block-requires g c =
    rw c.in_ok-block-in-Block.ensures (block-fits _ _ _ _ _ (subst (λ (command : ScriptCommand). FitsCommand c.requires.0 command) c.in-Block.is c.requires.1))

pub returns-in_ok-net-in-Net : goal.returns-in_ok-net-in-Net
returns-in_ok-net-in-Net g c =
    let told = c.in_ok-net-in-Net.field-0 in
    let old = c.args.self.now in
    let new = c.net.new.self in
    let slots = g.B.RegisterSlots.slots c.args.banks.now in
    let routed = c.in-Net.routed in
    let planned : c.in_ok-plan-in-Net.plan ≡ plan_of c.in-Net.nodes c.in-Net.links c.in-Net.room c.in-Net.limit = c.in_ok-plan-in-Net.ensures in
    let done = c.in_ok-net-in-Net.ensures in
    subst (λ (command : ScriptCommand). IsPerformed command old new slots slots told) (sym c.in-Net.is) (record {
      book = subst (λ (t : Plan). IsNetBook t told) planned done.book;
      setup = subst (λ (t : Plan). new.setup ≡ unless_refused told old.setup (with_tree t)) planned done.setup;
      net = subst (λ (t : Plan). new.net ≡ unless_refused told old.net (Some (new_net t routed))) planned done.net;
      banks = refl;
      stands = subst (λ (t : Plan). UnlessRefused told (BuiltStands t routed)) planned done.machine;
    })
