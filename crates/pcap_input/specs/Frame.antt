-- The UDP datagram of a port in an Ethernet frame. The packet begins at byte 14 of the frame; a byte that isn't there reads as 0.
use Rattle.std.specs.Prelude.{ℕ, ◌+◌, ◌-◌, ◌*◌, ◌/◌, ◌%◌, ◌==◌, ◌&&◌, ◌||◌, Bool, nat_le, if◌then◌else◌, List, length, slice_index, slice_range}
use Rattle.pcap_input.specs.declared.header.Order.TheVariants.{Big}
use Rattle.pcap_input.specs.declared.item.PcapItem.{PcapItem}
use Rattle.pcap_input.specs.declared.item.PcapItem.TheVariants.{Datagram, Cut, Other}
use Rattle.pcap_input.specs.Header.{half_at}

-- two bytes of the frame, high byte first
abbrev pub big_at : List ℕ → ℕ → ℕ
big_at frame at = half_at Big frame at

-- the type of Ethernet II is IPv4
abbrev pub is_ipv4 : List ℕ → Bool
is_ipv4 frame = slice_index frame 12 == 8 && slice_index frame 13 == 0

-- the packet's version, and the length of its header in bytes
abbrev pub version_of : List ℕ → ℕ
version_of frame = slice_index frame 14 / 16

abbrev pub head_of : List ℕ → ℕ
head_of frame = 4 * (slice_index frame 14 % 16)

-- the packet's total length
abbrev pub total_of : List ℕ → ℕ
total_of frame = big_at frame 16

-- it is no fragment: the flag for more fragments and the offset are 0
abbrev pub is_unfragmented : List ℕ → Bool
is_unfragmented frame = big_at frame 20 % 16384 == 0

-- its protocol is UDP
abbrev pub is_udp : List ℕ → Bool
is_udp frame = slice_index frame 23 == 17

-- both headers are stored
abbrev pub has_headers : List ℕ → Bool
has_headers frame = nat_le (14 + head_of frame + 8) (length frame)

-- where the UDP header begins: source port, destination port and length, two bytes each
abbrev pub udp_of : List ℕ → ℕ
udp_of frame = 14 + head_of frame

abbrev pub from_of : List ℕ → ℕ
from_of frame = big_at frame (udp_of frame)

abbrev pub to_of : List ℕ → ℕ
to_of frame = big_at frame (udp_of frame + 2)

abbrev pub length_of : List ℕ → ℕ
length_of frame = big_at frame (udp_of frame + 4)

-- one of its ports is this one
abbrev pub has_port : ℕ → List ℕ → Bool
has_port port frame = from_of frame == port || to_of frame == port

-- the packet's header is whole, and the total length leaves room for a UDP header behind it
abbrev pub has_room : List ℕ → Bool
has_room frame = nat_le 20 (head_of frame) && nat_le (head_of frame + 8) (total_of frame)

-- an unfragmented IPv4 packet of UDP, of which both headers are stored
abbrev pub is_packet : List ℕ → Bool
is_packet frame = (is_ipv4 frame && version_of frame == 4 && has_room frame) && is_unfragmented frame && is_udp frame && has_headers frame

-- the datagram has its header, and fits into the packet
abbrev pub fits_packet : List ℕ → Bool
fits_packet frame = nat_le 8 (length_of frame) && nat_le (length_of frame) (total_of frame - head_of frame)

-- all tests of a datagram of the port
abbrev pub is_datagram : ℕ → List ℕ → Bool
is_datagram port frame = is_packet frame && fits_packet frame && has_port port frame

-- all bytes of its payload are stored
abbrev pub is_stored : List ℕ → Bool
is_stored frame = nat_le (udp_of frame + length_of frame) (length frame)

-- the bytes behind the UDP header that its length counts
abbrev pub payload_of : List ℕ → List ℕ
payload_of frame = slice_range frame (udp_of frame + 8) (udp_of frame + length_of frame)

-- what the frame of the record with this number is
unfoldable pub item_of : ℕ → ℕ → List ℕ → PcapItem
item_of port number frame =
    if is_datagram port frame then (if is_stored frame then Datagram number (from_of frame) (to_of frame) (payload_of frame) else Cut number) else Other number
