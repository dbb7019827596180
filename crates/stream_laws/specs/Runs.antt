-- Laws of every list of acts, and of the tests of a stream's conditions; they ask for no legal run.
use Rattle.std.specs.Prelude.{◌≡◌, ◌↔◌, IsTrue, List, [], ◌∷◌, ◌++◌}
use Rattle.chdr_words.specs.declared.command.CmdOp.{CmdOp}
use Rattle.stream_endpoint.specs.Orders.{may_order}
use Rattle.stream_laws.specs.Machine.{Load, State, Terms}
use Rattle.stream_laws.specs.Acts.{Act, IsLegal, IsQuiet, IsStuck, MayOrder, after_all, is_quiet, is_stuck, Fill, Close, Enter, Order, Keep, Break, Discard, Obey, Renew, Take, Report, Hear, LosePacket, LoseCommand, LoseStatus}

-- what an act adds to what the producer has made
abbrev pub made_by : {A : Type 0} → Act A → List (Load A)
made_by (Fill loads) = loads
made_by Close = []
made_by (Enter load rest) = []
made_by (Order op) = []
made_by (Keep place load rest) = []
made_by (Break place load rest) = []
made_by (Discard place load rest) = []
made_by (Obey op told rest) = []
made_by (Renew told rest) = []
made_by (Take n) = []
made_by Report = []
made_by (Hear status rest) = []
made_by (LosePacket before place load behind) = []
made_by (LoseCommand before op told behind) = []
made_by (LoseStatus before status behind) = []

abbrev pub made : {A : Type 0} → List (Act A) → List (Load A)
made [] = []
made (act ∷ acts) = made_by act ++ made acts

-- What was sent, and what is ready behind it, is what the producer has made, in order.
abbrev pub SendsWhatWasMade : Type 0 → Type 0
SendsWhatWasMade A = (terms : Terms) (from : State A) (acts : List (Act A)) → IsLegal terms from acts
    → (after_all terms from acts).core.sent ++ (after_all terms from acts).core.ready
    ≡ (from.core.sent ++ from.core.ready) ++ made acts

-- The tests of a stream tell their conditions.
abbrev pub QuietIsTested : Type 0 → Type 0
QuietIsTested A = (st : State A) → IsTrue (is_quiet st) ↔ IsQuiet st

abbrev pub StuckIsTested : Type 0 → Type 0
StuckIsTested A = (terms : Terms) (st : State A) → IsTrue (is_stuck terms st)
    ↔ IsStuck terms.flow st.core.sender.outstanding st.core.closed st.core.ready

abbrev pub OrderIsTested : Type 0 → Type 0
OrderIsTested A = (terms : Terms) (st : State A) (op : CmdOp)
    → IsTrue (may_order st.core.sender (is_quiet st) (is_stuck terms st) op) ↔ MayOrder terms st op
