-- What a node tells of itself, in the payload of 48 bits of one operation.
use Rattle.std.specs.Prelude.{◌≡◌, ◌⊎◌, ◌==◌, if◌then◌else◌, ℕ, ◌+◌, ◌*◌, ◌<◌, ◌≤◌, ◌^◌}
use Rattle.chdr_words.specs.Field.{field}
use Rattle.chdr_words.specs.declared.node_info.NodeInfo.{NodeInfo}
use Rattle.chdr_words.specs.declared.node_info.NodeKind.{NodeKind}
use Rattle.chdr_words.specs.declared.node_info.NodeKind.TheVariants.{Crossbar, Endpoint, Transport, Other}

-- the codes without a name are 0 and 4 to 15
abbrev pub FitsNodeKind : NodeKind → Type 0
FitsNodeKind Crossbar = Unit {0}
FitsNodeKind Endpoint = Unit {0}
FitsNodeKind Transport = Unit {0}
FitsNodeKind (Other n) = (n ≡ 0) ⊎ ((4 ≤ n) × (n < 2 ^ 4))

-- each field fits its bits
pub record FitsInfo (info : NodeInfo) : Type 0 where
  pub extended : info.extended < 2 ^ 18
  pub instance : info.instance < 2 ^ 10
  pub kind : FitsNodeKind info.kind

-- the kind's number on the wire
abbrev pub node_kind_number : NodeKind → ℕ
node_kind_number Crossbar = 1
node_kind_number Endpoint = 2
node_kind_number Transport = 3
node_kind_number (Other n) = n

-- the payload: extended 47..30, instance 29..20, kind 19..16, device 15..0
abbrev pub info_payload : NodeInfo → ℕ
info_payload info =
    info.extended * 2 ^ 30 + info.instance * 2 ^ 20 + node_kind_number info.kind * 2 ^ 16 + info.device

-- the kind that a number below 16 stands for
abbrev pub node_kind_of : ℕ → NodeKind
node_kind_of n = if n == 1 then Crossbar else if n == 2 then Endpoint else if n == 3 then Transport else Other n

-- the information that a payload spells
abbrev pub info_of : ℕ → NodeInfo
info_of payload = record {
  extended = field payload 47 30;
  instance = field payload 29 20;
  kind = node_kind_of (field payload 19 16);
  device = field payload 15 0;
}
