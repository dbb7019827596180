-- The lines of a report that stand under a command's own.
use Rattle.std.specs.Prelude.{ℕ, ◌==◌, zero, suc, codes, decimal, List, if◌then◌else◌, Option, length, min, slice_get}
use Rattle.chdr_words.specs.declared.epid.Epid.{Epid}
use Rattle.chdr_words.specs.declared.control.Control.{Control}
use Rattle.block_library.specs.declared.kind.BlockKind.{BlockKind}
use Rattle.block_library.specs.declared.line.Line.{Line}
use Rattle.net_machine.specs.declared.event.Event.{Event}
use Rattle.net_machine.specs.declared.event.Event.TheVariants as events
use Rattle.net_machine.specs.declared.tally.StreamEnd.{StreamEnd}
use Rattle.net_machine.specs.declared.tally.StreamEnd.TheVariants as ends
use Rattle.net_machine.specs.declared.tally.Tally.{Tally}
use Rattle.rf_script_types.specs.declared.act.Act.{Act}
use Rattle.rf_script_types.specs.declared.act.Act.TheVariants as acts
use Rattle.script_books.specs.declared.book.ActAnswer.{ActAnswer}
use Rattle.script_books.specs.declared.book.ActAnswer.TheVariants as act_answers
use Rattle.walk_books.specs.declared.found.FoundNode.{FoundNode}
use Rattle.script_lines.specs.Names.{cmd_op_text, ctrl_status_text, epid_text, kind_text, node_kind_text, sample_text, some_text}
use Rattle.script_lines.specs.Page.{◌&◌}

-- ---- lists of lines

-- the texts of the places below n, in order
unfoldable pub each : (ℕ → List ℕ) → ℕ → List ℕ
each f zero = codes ""
each f (suc k) = each f k & f k

-- the text of one item, by its place
abbrev pub line_at : {X : Type 0} → (ℕ → X → List ℕ) → List X → ℕ → List ℕ
line_at f xs k = some_text (f k) (slice_get xs k)

-- the texts of all items, each by its place
abbrev pub numbered : {X : Type 0} → (ℕ → X → List ℕ) → List X → List ℕ
numbered f xs = each (line_at f xs) (length xs)

-- ---- discover

-- the parent's instance, a point and the parent's port; the first node has none
abbrev pub via_text : ℕ → FoundNode → List ℕ
via_text place node = if place == 0 then codes "-" else (decimal node.parent & codes "." & decimal node.parent_port)

-- node I KIND ports P epid E via V
abbrev pub node_line : ℕ → FoundNode → List ℕ
node_line place node =
    (codes "node " & decimal node.instance & codes " " & node_kind_text node.kind)
    & (codes " ports " & decimal node.ports & codes " epid " & decimal node.epid.0)
    & codes " via " & via_text place node & codes "\n"

-- ---- run

abbrev pub event_text : Event → List ℕ
event_text (events.Enter s) = codes "Enter " & decimal s
event_text (events.Hop l) = codes "Hop " & decimal l
event_text (events.Seen s n) = codes "Seen " & decimal s & codes " " & decimal n
event_text (events.Feed b i) = codes "Feed " & decimal b & codes " " & decimal i
event_text (events.Report s) = codes "Report " & decimal s
event_text (events.Command s op) = (codes "Command " & decimal s) & codes " " & cmd_op_text op
event_text (events.Lose l) = codes "Lose " & decimal l
event_text (events.Reply n) = codes "Reply " & decimal n
event_text (events.Ask n) = codes "Ask " & decimal n

-- ev EVENT
abbrev pub event_line : Event → List ℕ
event_line event = codes "ev " & event_text event & codes "\n"

abbrev pub end_text : StreamEnd → List ℕ
end_text ends.Drained = codes "drained"
end_text (ends.Broken expected got) = codes "broken expected " & decimal expected & codes " got " & decimal got
end_text (ends.Undrained sent acked) = codes "undrained"

-- stream S P>C
abbrev pub route_text : ℕ → Option Epid → Option Epid → List ℕ
route_text s producer consumer = (codes "stream " & decimal s) & codes " " & epid_text producer & codes ">" & epid_text consumer

-- sent A delivered B acked D epochs E
abbrev pub tally_text : Tally → List ℕ
tally_text tally = (codes " sent " & decimal tally.sent & codes " delivered " & decimal tally.delivered)
    & (codes " acked " & decimal tally.acked & codes " epochs " & decimal tally.epochs)

-- stream S P>C sent A delivered B acked D epochs E END
abbrev pub stream_line : ℕ → Option Epid → Option Epid → StreamEnd → Tally → List ℕ
stream_line s producer consumer end tally =
    route_text s producer consumer & tally_text tally & codes " " & end_text end & codes "\n"

-- KIND B packets N samples M first F last Z
abbrev pub sink_line : Option BlockKind → Line → List ℕ
sink_line kind line =
    some_text kind_text kind & (codes " " & decimal line.block)
    & (codes " packets " & decimal line.packets & codes " samples " & decimal line.samples)
    & codes " first " & sample_text line.first & codes " last " & sample_text line.last & codes "\n"

-- peak S BYTES PACKETS
abbrev pub peak_line : ℕ → Tally → List ℕ
peak_line s tally = (codes "peak " & decimal s)
    & (codes " " & decimal tally.peak_bytes & codes " " & decimal tally.peak_packets) & codes "\n"

-- ---- control and duplex

-- a space and each word, of which a control payload has at most 15
abbrev pub words_text : List ℕ → List ℕ
words_text words = each (line_at (λ _ word. codes " " & decimal word) words) (min (length words) 15)

-- control STATUS WORDS
abbrev pub answer_text : Control → List ℕ
answer_text answer = codes "control " & ctrl_status_text answer.status & words_text answer.words

abbrev pub act_word : Act → List ℕ
act_word (acts.Control at to request) = codes "control"
act_word (acts.Unload at port) = codes "unload"
act_word (acts.Move at from to) = codes "move"

-- what came of an act
abbrev pub act_text : Act → ActAnswer → List ℕ
act_text act (act_answers.Answered answer) = answer_text answer
act_text act act_answers.Lost = codes "lost"
act_text act act_answers.Done = act_word act
act_text act act_answers.Empty = act_word act & codes " none"

-- act K ANSWER
abbrev pub act_line : ℕ → Act → ActAnswer → List ℕ
act_line k act answer = (codes "act " & decimal k) & codes " " & act_text act answer & codes "\n"
