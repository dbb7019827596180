-- How many streams, blocks, nodes and queues a fabric has.
use Rattle.std.proofs.Common.{◌≡◌, ℕ, ◌*◌, ◌≤◌, length, sym, ◌∙◌, ap, arith}
use Rattle.std.proofs.lemmas.List.{length-map}
use Rattle.net_topology.specs.Tree.{IsChecked}
use Rattle.net_topology.specs.declared.plan.Plan.{Plan}
use Rattle.net_topology.proofs.Laws.{links_are_few}
use Rattle.fabric_nodes.specs.Sites.{node_of}
use Rattle.fabric_events.specs.declared.candidates.Sizes.{Sizes}
use Rattle.fabric_events.specs.declared.fabric.Fabric.{Fabric}
use Rattle.fabric_events.specs.Choosing.{sizes_of}
use Rattle.fabric_events.specs.Fabrics.{IsSound, present_of}
use Rattle.fabric_lists.specs.StreamsView.{now_in}
use Rattle.fabric_events.proofs.FrontLemmas.{node_count}

-- a tree has few links
pub few_links : (tree : Plan) → IsChecked tree → length tree.links ≤ 256
few_links tree checked =
    let links : length tree.links ≤ length tree.nodes = links_are_few tree checked.tree in
    let nodes = checked.tree.nodes.few in
    let limit = checked.fits.limit in
    omega arith

-- these numbers together
abbrev pub sizes : ℕ → ℕ → ℕ → ℕ → Sizes
sizes streams blocks nodes queues = record { streams = streams; blocks = blocks; nodes = nodes; queues = queues }

pub sizes_are : (f : Fabric) (streams blocks nodes links : ℕ) → IsSound f → streams ≡ length f.streams.items → blocks ≡ length f.plan.blocks
    → nodes ≡ length f.wires.nodes → links ≡ length f.wires.links → sizes streams blocks nodes (4 * links) ≡ sizes_of (present_of f)
sizes_are f streams blocks nodes links sound s b n l =
    let many : length f.queues.entries ≡ 2 * (2 * length f.wires.links) = sound.queues in
    let queues : 4 * links ≡ length f.queues.entries = omega arith in
    let there : streams ≡ length (present_of f).streams = s ∙ sym (length-map f.streams.items now_in) in
    let sites : nodes ≡ length (present_of f).nodes = n ∙ sym (node_count f sound) ∙ sym (length-map f.sites.items node_of) in
    ap (λ x. sizes x blocks nodes (4 * links)) there
    ∙ ap (λ x. sizes (length (present_of f).streams) x nodes (4 * links)) b
    ∙ ap (λ x. sizes (length (present_of f).streams) (length f.plan.blocks) x (4 * links)) sites
    ∙ ap (λ x. sizes (length (present_of f).streams) (length f.plan.blocks) (length (present_of f).nodes) x) queues
