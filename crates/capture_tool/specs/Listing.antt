-- The listing of a capture: a line for each packet, and the last line.
use Rattle.std.specs.Prelude.{ℕ, codes, decimal, Bool, true, false, List, length, Option, None, Some}
use Rattle.std.specs.List.{flat_map, sum_by}
use Rattle.chdr_words.specs.declared.status.Status.{Status}
use Rattle.chdr_words.specs.declared.command.Command.{Command}
use Rattle.chdr_words.specs.declared.control.Control.{Control}
use Rattle.chdr_words.specs.declared.management.Management.{Management}
use Rattle.chdr_packets.specs.declared.packet.Packet.{Packet}
use Rattle.chdr_packets.specs.declared.packet.Body.{Body}
use Rattle.chdr_packets.specs.declared.packet.Body.TheVariants as bodies
use Rattle.chdr_stream.specs.declared.placed.Placed.{Placed}
use Rattle.capture_tool.specs.declared.seen.Fault.{Fault}
use Rattle.capture_tool.specs.Names.{◌&◌, status_code_text, cmd_op_text, ctrl_op_text, ctrl_status_text}
use Rattle.capture_tool.specs.Seen.{fault_of, items_of}
use Rattle.capture_tool.specs.Text.{fault_line}

-- the sort of a packet
abbrev pub sort_text : Body → List ℕ
sort_text (bodies.Samples time payload) = codes " data"
sort_text (bodies.Status s) = codes " status"
sort_text (bodies.Command c) = codes " command"
sort_text (bodies.Control c) = codes " control"
sort_text (bodies.Management m) = codes " management"

abbrev pub bit_text : Bool → List ℕ
bit_text false = codes "0"
bit_text true = codes "1"

-- eob B eov B
abbrev pub flags_text : Bool → Bool → List ℕ
flags_text eob eov = codes " eob " & bit_text eob & codes " eov " & bit_text eov

-- SORT vc V eob B eov B seq S dst D meta M
abbrev pub head_text : Packet → List ℕ
head_text p =
    (sort_text p.body & codes " vc " & decimal p.vc)
    & (flags_text p.eob p.eov & codes " seq " & decimal p.seq)
    & (codes " dst " & decimal p.dst.0 & codes " meta " & decimal (length p.mdata))

-- the time, or - where there is none
abbrev pub time_text : Option ℕ → List ℕ
time_text None = codes "-"
time_text (Some time) = decimal time

-- time T bytes N
abbrev pub samples_text : Option ℕ → List ℕ → List ℕ
samples_text time payload = (codes " time " & time_text time) & codes " bytes " & decimal (length payload)

-- code C src E cap BYTES/PACKETS got BYTES/PACKETS info I buffer U
abbrev pub status_text : Status → List ℕ
status_text s =
    (codes " code " & status_code_text s.code & codes " src " & decimal s.src.0)
    & (codes " cap " & decimal s.cap_bytes & codes "/" & decimal s.cap_packets)
    & (codes " got " & decimal s.got_bytes & codes "/" & decimal s.got_packets)
    & (codes " info " & decimal s.info & codes " buffer " & decimal s.buffer)

-- op O src E data X packets P bytes B
abbrev pub command_text : Command → List ℕ
command_text c =
    (codes " op " & cmd_op_text c.op)
    & (codes " src " & decimal c.src.0 & codes " data " & decimal c.op_data)
    & (codes " packets " & decimal c.packets & codes " bytes " & decimal c.bytes)

-- a request or an acknowledgement
abbrev pub ack_text : Bool → List ℕ
ack_text false = codes " req"
ack_text true = codes " ack"

-- a space and each word
abbrev pub words_text : List ℕ → List ℕ
words_text words = flat_map (λ word. codes " " & decimal word) words

-- ACK src E seq Q ports SOURCE>DEST
abbrev pub ports_text : Control → List ℕ
ports_text c =
    ack_text c.ack
    & (codes " src " & decimal c.src.0 & codes " seq " & decimal c.seq)
    & (codes " ports " & decimal c.src_port & codes ">" & decimal c.dst_port)

-- time T op O status C
abbrev pub op_text : Control → List ℕ
op_text c =
    (codes " time " & time_text c.time)
    & (codes " op " & ctrl_op_text c.op)
    & (codes " status " & ctrl_status_text c.status)

-- enables X addr A words WORDS
abbrev pub access_text : Control → List ℕ
access_text c =
    (codes " enables " & decimal c.enables & codes " addr " & decimal c.addr)
    & (codes " words" & words_text c.words)

abbrev pub control_text : Control → List ℕ
control_text c = ports_text c & op_text c & access_text c

-- the operations of all hops
abbrev pub ops_in : Management → ℕ
ops_in m = sum_by length m.hops

-- src E version V width W hops H ops N
abbrev pub management_text : Management → List ℕ
management_text m =
    (codes " src " & decimal m.src.0 & codes " version " & decimal m.version)
    & (codes " width " & decimal m.width & codes " hops " & decimal (length m.hops))
    & (codes " ops " & decimal (ops_in m))

-- what a line tells of each sort
abbrev pub body_text : Body → List ℕ
body_text (bodies.Samples time payload) = samples_text time payload
body_text (bodies.Status s) = status_text s
body_text (bodies.Command c) = command_text c
body_text (bodies.Control c) = control_text c
body_text (bodies.Management m) = management_text m

-- the line of a packet
unfoldable pub line_of : Placed → List ℕ
line_of x = decimal x.at & head_text x.packet & body_text x.packet.body & codes "\n"

-- the lines of packets, end to end
abbrev pub lines_of : List Placed → List ℕ
lines_of items = flat_map line_of items

-- the last line: how many packets, or the fault
abbrev pub last_line : ℕ → Option Fault → List ℕ
last_line packets None = codes "packets " & decimal packets & codes "\n"
last_line packets (Some fault) = fault_line fault

-- what show writes of a capture
abbrev pub listed : List ℕ → List ℕ
listed bytes = lines_of (items_of bytes) & last_line (length (items_of bytes)) (fault_of bytes)

-- the operations of a packet's hops
abbrev pub ops_of : Body → ℕ
ops_of (bodies.Samples time payload) = 0
ops_of (bodies.Status s) = 0
ops_of (bodies.Command c) = 0
ops_of (bodies.Control c) = 0
ops_of (bodies.Management m) = ops_in m
