-- A net rests as it is built.
use Rattle.std.proofs.Common.{◌≡◌, ℕ, zero, suc, Bool, true, false, List, [], ◌∷◌, get_or, length, map, refl, ap, ◌∙◌}
use Rattle.std.specs.Prelude.{◌&&◌, replicate, if◌then◌else◌}
use Rattle.std.specs.List.{range_with_len}
use Rattle.std.proofs.lemmas.List.{get_or_default}
use Rattle.chdr_packets.specs.declared.packet.Packet.{Packet}
use Rattle.chdr_words.specs.declared.command.CmdOp.TheVariants.{Init, Ping, Resync, Other}
use Rattle.net_topology.specs.Links.{link_at}
use Rattle.net_topology.specs.declared.plan.Plan.{Plan}
use Rattle.net_machine.specs.declared.event.Event.{Event}
use Rattle.net_machine.specs.declared.event.Event.TheVariants as event
use Rattle.net_machine.specs.Begin.{built_node, epids_of, place_for}
use Rattle.net_machine.specs.Blocks.{has_packet}
use Rattle.net_machine.specs.Conditions.{can_hop, can_lose, can_reply, has_place_over, may}
use Rattle.net_machine.specs.Front.{Queued}
use Rattle.net_machine.specs.Nodes.{is_switch}
use Rattle.net_machine.specs.Queues.{forward_vc, queue_count}
use Rattle.net_machine.specs.State.{Node, blank, node_in}
use Rattle.net_present.specs.Onward.{enabled_now}
use Rattle.net_present.specs.Present.{Present, front_now}
use Rattle.fabric_events.specs.Begun.{built_now}
use Rattle.fabric_net.specs.Standing.{IsResting}

-- what each made item has, each place has
each-made : {A : Type 0} (Q : A → Type 0) (make : ℕ → A) (d : A) → ((n : ℕ) → Q (make n)) → Q d → (ns : List ℕ) (k : ℕ) → Q (get_or (map make ns) k d)
each-made Q make d each here [] k = here
each-made Q make d each here (n ∷ ns) zero = each n
each-made Q make d each here (n ∷ ns) (suc k) = each-made Q make d each here ns k

each-copy : {A : Type 0} (Q : A → Type 0) (x d : A) → Q x → Q d → (n k : ℕ) → Q (get_or (replicate n x) k d)
each-copy Q x d there here zero k = here
each-copy Q x d there here (suc n) zero = there
each-copy Q x d there here (suc n) (suc k) = each-copy Q x d there here n k

-- nothing lies at a node as it is built
pub record IsBare (n : Node) : Type 0 where
  pub requests : n.requests ≡ []
  pub pending : n.pending ≡ []
  pub answers : n.answers ≡ []

bare-either : (b : Bool) (m n : Node) → IsBare m → IsBare n → IsBare (if b then m else n)
bare-either true m n first second = first
bare-either false m n first second = second

bare : (tree : Plan) (routed : Bool) (x : ℕ) → IsBare (built_node tree routed x)
bare tree routed x =
    bare-either (is_switch tree x) (record blank { table = map (place_for tree routed x) (epids_of tree) }) blank
    (record { requests = refl; pending = refl; answers = refl }) (record { requests = refl; pending = refl; answers = refl })

module _ (tree : Plan) (routed : Bool) where
  abbrev p : Present
  p = built_now tree routed

  bare-node : (x : ℕ) → IsBare (node_in p.nodes x)
  bare-node x = each-made IsBare (built_node tree routed) blank (bare tree routed) (record { requests = refl; pending = refl; answers = refl }) (range_with_len 0 (length tree.nodes)) x

  no-entry : (q : ℕ) → get_or p.queues q [] ≡ []
  no-entry q = each-copy (λ (es : List Queued). es ≡ []) [] [] refl refl (queue_count tree) q

  nothing : (e : Event) → enabled_now p e ≡ false
  unfolding may
  nothing (event.Enter s) = refl
  nothing (event.Hop q) = ap (can_hop (front_now p) q) (no-entry q)
  nothing (event.Seen s n) = refl
  nothing (event.Feed b i) = refl
  nothing (event.Report s) = refl
  nothing (event.Command s Init) = refl
  nothing (event.Command s Ping) = refl
  nothing (event.Command s Resync) = refl
  nothing (event.Command s (Other code)) = refl
  nothing (event.Lose q) = ap can_lose (no-entry q)
  nothing (event.Reply x) = ap (can_reply (front_now p) x) (bare-node x).pending
  nothing (event.Ask x) = ap (λ (packets : List Packet). has_packet packets && has_place_over (front_now p) forward_vc (link_at tree.links x 0)) (bare-node x).requests

  pub built-rests : IsResting p
  built-rests = record {
    empty = λ q d there. get_or_default p.queues q d [] there ∙ no-entry q;
    still = nothing;
    heard = λ x d there. ap (λ (n : Node). n.answers) (get_or_default p.nodes x d blank there) ∙ (bare-node x).answers;
  }
