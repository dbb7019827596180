-- What `decode` and `encode` promise is what spelling a packet again promises.
use Rattle.std.proofs.Common.{◌≡◌, ℕ, ◌≤◌, List, [], length, take, Some, Ok, subst}
use Rattle.std.proofs.lemmas.List.{append-nil}
use Rattle.chdr_packets.specs.Grammar.{IsCanon, Spells}
use Rattle.chdr_packets.specs.Reading.{packet_read}
use Rattle.chdr_packets.specs.declared.packet.Packet.{Packet}
use Rattle.chdr_packets.proofs.Laws.{reads_back}
use Rattle.packet_uses.specs.Respelled.{IsRespelled}

pub respelled : (bytes again : List ℕ) (packet : Packet) (size : ℕ) → size ≤ length bytes → Spells packet (take size bytes) → IsCanon packet again → IsRespelled bytes again
respelled bytes again packet size within spells canonical = record {
  packet = packet;
  size = size;
  within = within;
  spells = spells;
  canonical = canonical;
  reads = subst (λ (l : List ℕ). packet_read l ≡ Ok (Some (packet, length again))) (append-nil again) (reads_back packet again [] canonical.spells);
}
