-- Why commands end: a number of a stream that each command lowers, and that only sending and losing
-- raise.
use Rattle.std.specs.Prelude.{◌≡◌, ℕ, zero, suc, ◌+◌, ◌*◌, ◌<◌, ◌≤◌, Bool, true, false}
use Rattle.chdr_words.specs.declared.command.CmdOp.{CmdOp}
use Rattle.stream_endpoint.specs.declared.state.OutState.{OutState}
use Rattle.stream_endpoint.specs.declared.state.OutState.TheVariants.{Opening, Running, Halted, Resyncing}
use Rattle.stream_endpoint.specs.Receiver.{is_due}
use Rattle.stream_endpoint.specs.Sender.{is_covered}
use Rattle.stream_laws.specs.Machine.{State, Terms}
use Rattle.stream_laws.specs.Acts.{Act, Allowed, after, Fill, Close, Enter, Order, Keep, Break, Discard, Obey, Renew, Take, Report, Hear, LosePacket, LoseCommand, LoseStatus}
use Rattle.stream_laws.specs.Chains.{orders}
use Rattle.stream_laws.specs.Invariant.{dues, goods}
use Rattle.stream_laws.specs.Talk.{traffic}

-- how far a stream is from its end: by the sender's state, the packets missing in this epoch, and
-- whether all that was sent is known
abbrev pub phase_by : OutState → ℕ → Bool → ℕ
phase_by Opening missing covered = 5
phase_by Running zero true = 0
phase_by Running zero false = 1
phase_by Running (suc missing) covered = 4
phase_by Halted missing covered = 0
phase_by Resyncing zero covered = 2
phase_by Resyncing (suc missing) covered = 3

-- what is under way of the last command or its answer: 0 if nothing is
abbrev pub asked_by : OutState → ℕ → Bool → ℕ → ℕ → ℕ → ℕ
asked_by Opening missing pinging traffic orders answers = traffic
asked_by Running missing true traffic orders answers = traffic
asked_by Running missing false traffic orders answers = 0
asked_by Halted missing pinging traffic orders answers = 0
asked_by Resyncing zero pinging traffic orders answers = orders + answers
asked_by Resyncing (suc missing) pinging traffic orders answers = orders

-- 1 if nothing is under way
abbrev pub unasked : ℕ → ℕ
unasked zero = 1
unasked (suc n) = 0

abbrev pub phase : {A : Type 0} → State A → ℕ
phase st = phase_by st.core.sender.state st.missing.packets (is_covered st.core.sender)

abbrev pub asked : {A : Type 0} → State A → ℕ
asked st = asked_by st.core.sender.state st.missing.packets st.core.sender.pinging
    (traffic st.forward (is_due st.core.receiver) st.back)
    (orders st.forward) (goods st.back + dues (is_due st.core.receiver))

-- twice the phase, and one more if no command is under way
abbrev pub potential : {A : Type 0} → State A → ℕ
potential st = 2 * phase st + unasked (asked st)

-- an act that neither sends nor loses
abbrev pub IsPlain : {A : Type 0} → Act A → Type 0
IsPlain (Fill loads) = Unit {0}
IsPlain Close = Unit {0}
IsPlain (Enter load rest) = ⊥
IsPlain (Order op) = ⊥
IsPlain (Keep place load rest) = Unit {0}
IsPlain (Break place load rest) = Unit {0}
IsPlain (Discard place load rest) = Unit {0}
IsPlain (Obey op told rest) = Unit {0}
IsPlain (Renew told rest) = Unit {0}
IsPlain (Take n) = Unit {0}
IsPlain Report = Unit {0}
IsPlain (Hear status rest) = Unit {0}
IsPlain (LosePacket before place load behind) = ⊥
IsPlain (LoseCommand before op told behind) = ⊥
IsPlain (LoseStatus before status behind) = ⊥

abbrev pub IsLow : {A : Type 0} → Terms → State A → Type 0
IsLow terms st = potential st ≤ 11

-- No plain act raises the phase or the potential.
abbrev pub StaysLow : {A : Type 0} → Terms → State A → Type 0
StaysLow {A} terms st = (act : Act A) → IsPlain act → Allowed terms st act
    → (phase (after terms st act) ≤ phase st) × (potential (after terms st act) ≤ potential st)

-- A command lowers the potential and leaves the phase.
abbrev pub Lowers : {A : Type 0} → Terms → State A → Type 0
Lowers {A} terms st = (op : CmdOp) → Allowed terms st (Order op)
    → (phase (after terms st (Order op)) ≡ phase st)
    × (potential (after terms st (Order op)) < potential st)
