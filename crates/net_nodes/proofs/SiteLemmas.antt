-- A node that fits is a site that fits.
use Rattle.std.proofs.Common.{◌≡◌, ℕ, ◌*◌, ◌%◌, ◌<◌, ◌≤◌, ◌^◌, List, Option, Some, None, arith}
use Rattle.std.specs.Prelude.{IfSome}
use Rattle.std.proofs.lemmas.List.Elements.{All-weaker}
use Rattle.std.proofs.lemmas.Nat.{one_shl}
use Rattle.net_nodes.proofs.EntryLemmas.{IsBelow}
use Rattle.net_nodes.specs.Budget.{FitsSite}
use Rattle.net_nodes.specs.Switch.{FitsCrossbar, FitsAdapter, crossbar_site, adapter_site, end_site}
use Rattle.net_nodes.specs.Table.{HasEntries}
use Rattle.net_nodes.specs.declared.end_node.EndNode.{EndNode}
use Rattle.net_nodes.specs.declared.switch.Switch.{Switch}
use Rattle.net_nodes.specs.declared.table.Place.{Place}

below_higher : (bound higher : ℕ) (exit : Option ℕ) → bound ≤ higher → IfSome exit (λ port. port < bound) → IfSome exit (λ port. port < higher)
below_higher bound higher None le h = tt
below_higher bound higher (Some port) le h = omega (arith, le, h)

entries_higher : (bound higher : ℕ) (places : List Place) → bound ≤ higher → HasEntries bound places → HasEntries higher places
entries_higher bound higher places le e =
    All-weaker (IsBelow bound) (IsBelow higher) (λ place h. below_higher bound higher place.exit le h) places e

pub crossbar_fits : (switch : Switch) (arrival : ℕ) → FitsCrossbar switch → arrival < switch.ports → FitsSite (crossbar_site switch arrival) × HasEntries (2 ^ 8) switch.table
crossbar_fits switch arrival f a =
    let many : switch.ports ≤ 32 = f.many in (
      record {
        info = record { extended = omega (arith, a, many); instance = omega (arith, f.instance); kind = tt };
        device = omega arith;
        arrival = omega (arith, a, many);
        ports = omega (arith, many);
      },
      entries_higher switch.ports (2 ^ 8) switch.table (omega (arith, many)) f.entries,
    )

pub adapter_fits : (switch : Switch) (arrival : ℕ) → FitsAdapter switch → arrival < switch.ports → FitsSite (adapter_site switch arrival) × HasEntries (2 ^ 8) switch.table
adapter_fits switch arrival f a =
    let two : switch.ports ≡ 2 = f.two in (
      record {
        info = record { extended = omega (arith, a, two); instance = omega (arith, f.instance); kind = tt };
        device = omega arith;
        arrival = omega (arith, a, two);
        ports = omega (arith, two);
      },
      entries_higher switch.ports (2 ^ 8) switch.table (omega (arith, two)) f.entries,
    )

pub end_node_fits : (node : EndNode) → node.instance < 1024 → node.epid.0 < 2 ^ 16 → FitsSite (end_site node)
end_node_fits node i e = record {
  info = record { extended = omega (arith, e); instance = omega (arith, i); kind = tt };
  device = omega arith;
  arrival = omega arith;
  ports = omega arith;
}

-- one, shifted by at most 32 in 64 bits
pub one_shifted : (k : ℕ) → k ≤ 32 → (1 * 2 ^ k) % 2 ^ 64 ≡ 2 ^ k
one_shifted k h = one_shl k 64 (omega arith)
