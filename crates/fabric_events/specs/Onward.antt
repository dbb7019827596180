-- Over which link a packet goes on.
use Rattle.std.specs.Prelude.{ℕ, Option, None, Some, if◌then◌else◌, length, nat_lt}
use Rattle.net_nodes.specs.Perform.{first_hop}
use Rattle.net_nodes.specs.declared.site.Done.{Done}
use Rattle.net_nodes.specs.declared.site.Done.TheVariants as done
use Rattle.chdr_words.specs.declared.management.Management.{Management}
use Rattle.net_topology.specs.Links.{end_of, end_port, link_at}
use Rattle.net_machine.specs.Nodes.{site_at}
use Rattle.net_topology.specs.declared.plan.Plan.{Plan}
use Rattle.net_machine.specs.Passing.{Outcome, Passes, Returns, Arrives, Ends}
use Rattle.fabric_nodes.specs.Exits.{exit_of_hop}

-- the link of a packet that passes on
abbrev pub link_onward : Outcome → Option ℕ
link_onward (Passes d p) = Some d
link_onward (Returns p) = None
link_onward Arrives = None
link_onward Ends = None

-- the link over which a packet with this exit leaves node x
abbrev pub leaving_over : Plan → ℕ → Done → Option ℕ
leaving_over tree x (done.Forward port) = link_at tree.links x port
leaving_over tree x done.Return = None
leaving_over tree x (done.NoSuchPort port) = None
leaving_over tree x done.Dead = None

-- the link over which a management packet goes on that came over d; without a hop besides the last it ends
abbrev pub hop_onward : Plan → ℕ → Management → Option ℕ
hop_onward tree d m = let x = end_of tree.links d in
    if nat_lt (length m.hops) 2 then None
    else leaving_over tree x (exit_of_hop (site_at tree x (end_port tree.links d)) (first_hop m))
