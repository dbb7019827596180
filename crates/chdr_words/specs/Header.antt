-- The first word of a packet: VC 63..58, EOB 57, EOV 56, type 55..53, metadata words 52..48, number 47..32,
-- Length 31..16, destination 15..0.
use Rattle.std.specs.Prelude.{◌≡◌, ◌⊎◌, ℕ, ◌+◌, ◌*◌, ◌<◌, ◌^◌, ◌==◌, Bool, if◌then◌else◌}
use Rattle.chdr_words.specs.Field.{field}
use Rattle.chdr_words.specs.declared.header.Header.{Header}
use Rattle.chdr_words.specs.declared.header.PktType.{PktType}
use Rattle.chdr_words.specs.declared.header.PktType.TheVariants.{Management, Status, Command, Control, Plain, Timed, Reserved}

-- the type's number on the wire
abbrev pub type_number : PktType → ℕ
type_number Management = 0
type_number Status = 1
type_number Command = 2
type_number Control = 4
type_number Plain = 6
type_number Timed = 7
type_number (Reserved n) = n

-- the type that a number below 8 stands for
abbrev pub type_of : ℕ → PktType
type_of n =
    if n == 0 then Management else if n == 1 then Status else if n == 2 then Command else if n == 4 then Control
    else if n == 6 then Plain else if n == 7 then Timed else Reserved n

-- only 3 and 5 are reserved
abbrev pub FitsType : PktType → Type 0
FitsType Management = Unit {0}
FitsType Status = Unit {0}
FitsType Command = Unit {0}
FitsType Control = Unit {0}
FitsType Plain = Unit {0}
FitsType Timed = Unit {0}
FitsType (Reserved n) = (n ≡ 3) ⊎ (n ≡ 5)

-- each field fits its bits
pub record FitsHeader (h : Header) : Type 0 where
  pub vc : h.vc < 2 ^ 6
  pub pkt_type : FitsType h.pkt_type
  pub num_mdata : h.num_mdata < 2 ^ 5

-- a flag as one bit
abbrev pub bit_of : Bool → ℕ
bit_of flag = if flag then 1 else 0

-- the word that spells a header
abbrev pub header_word : Header → ℕ
header_word h = h.vc * 2 ^ 58 + bit_of h.eob * 2 ^ 57 + bit_of h.eov * 2 ^ 56 + type_number h.pkt_type * 2 ^ 53
    + h.num_mdata * 2 ^ 48 + h.seq * 2 ^ 32 + h.length * 2 ^ 16 + h.dst.0

-- the header that a word spells
abbrev pub header_of : ℕ → Header
header_of word = record {
  vc = field word 63 58;
  eob = field word 57 57 == 1;
  eov = field word 56 56 == 1;
  pkt_type = type_of (field word 55 53);
  num_mdata = field word 52 48;
  seq = field word 47 32;
  length = field word 31 16;
  dst = record { 0 = field word 15 0 };
}
