-- Counts in each state that a legal run leaves: known, outstanding, buffered and taken, from the invariant.
use Rattle.std.proofs.Common.{◌≡◌, ◌+◌, ◌-◌, Bool, true, false, drop, refl, ap, subst, arith, length-drop}
use Rattle.std.proofs.lemmas.List.{length-take-le}
use Rattle.chdr_words.specs.declared.command.CmdOp.{CmdOp}
use Rattle.chdr_words.specs.declared.command.CmdOp.TheVariants.{Init, Ping, Resync, Other}
use Rattle.chdr_words.specs.declared.status.StatusCode.{StatusCode}
use Rattle.chdr_words.specs.declared.status.StatusCode.TheVariants.{Okay, CmdErr, SeqErr, DataErr, RtErr, Other as OtherCode}
use Rattle.stream_endpoint.specs.declared.count.Count.{Count}
use Rattle.stream_endpoint.specs.declared.flow.Policy.{Policy}
use Rattle.stream_endpoint.specs.declared.state.OutState.{OutState}
use Rattle.stream_endpoint.specs.declared.state.OutState.TheVariants.{Opening, Running, Halted, Resyncing}
use Rattle.stream_endpoint.specs.Counts.{spelled_minus}
use Rattle.stream_endpoint.specs.InEnd.{code_by}
use Rattle.stream_endpoint.specs.Receiver.{transferred}
use Rattle.stream_endpoint.specs.Sender.{Sender, after_code, after_gap, after_okay, commands, known}
use Rattle.stream_laws.specs.Machine.{State, Terms}
use Rattle.stream_laws.specs.Acts.{after, Fill, Close, Enter, Order, Keep, Break, Discard, Obey, Renew, Take, Report, Hear, LosePacket, LoseCommand, LoseStatus}
use Rattle.stream_laws.specs.Bounds.{IsHeld, IsKnown, OnlyEntersRaise, TakesOfBuffered}
use Rattle.stream_laws.specs.Chains.{bytes_told, packets_told}
use Rattle.stream_laws.specs.Invariant.{Rising}
use Rattle.stream_laws.specs.Laws.{IsRun}
use Rattle.stream_laws.proofs.Chains.{rises_le}
use Rattle.stream_laws.proofs.Consequences.{holds_run}
use Rattle.stream_laws.proofs.Numbers.{take_bytes}
use Rattle.stream_laws.proofs.StepsBack.{read_back}

pub known_and_outstanding : {A : Type 0} (terms : Terms) (st : State A) → IsRun terms st → IsKnown terms st
known_and_outstanding terms st run =
    let h = holds_run terms st run in
    let started = h.started in
    let credited = h.credited in
    let p : st.core.sender.sent.packets - st.core.sender.outstanding.packets + st.core.sender.outstanding.packets ≡ st.core.sender.sent.packets = omega arith in
    let b : st.core.sender.sent.bytes - st.core.sender.outstanding.bytes + st.core.sender.outstanding.bytes ≡ st.core.sender.sent.bytes = omega arith in
    record {
      from_packets = started.packets;
      from_bytes = started.bytes;
      all = λ i. record { packets = p i; bytes = b i };
      packets = credited.packets;
      bytes = credited.bytes;
    }

pub held_within : {A : Type 0} (terms : Terms) (st : State A) → IsRun terms st → IsHeld terms st
held_within terms st run =
    let h = holds_run terms st run in
    let balance = h.balanced in
    let credit = h.credited in
    let kp = rises_le packets_told _ st.back _ h.rising.packets in
    let kb = rises_le bytes_told _ st.back _ h.rising.bytes in
    record {
      packets = omega arith;
      bytes = omega arith;
      reached_packets = balance.held_packets;
      reached_bytes = balance.held_bytes;
    }

pub takes_of_buffered : {A : Type 0} (terms : Terms) (st : State A) → IsRun terms st → TakesOfBuffered terms st
takes_of_buffered terms st run n le =
    let counted = (holds_run terms st run).counted in
    let p = length-drop st.core.taken st.core.given in
    let q = length-take-le n (drop st.core.taken st.core.given) (omega arith) in
    let b = take_bytes st.core.given st.core.taken n in
    (omega arith, omega arith)

-- a status sets what is outstanding, whatever its code
okay_outstanding : (state : OutState) (policy : Policy) (missed : Bool) (s : Sender)
    → (after_okay state policy missed s).outstanding ≡ s.outstanding
okay_outstanding Opening policy missed s = refl
okay_outstanding Running policy true s = refl
okay_outstanding Running policy false s = refl
okay_outstanding Halted policy missed s = refl
okay_outstanding Resyncing policy missed s = refl

gap_outstanding : (state : OutState) (policy : Policy) (s : Sender)
    → (after_gap state policy s).outstanding ≡ s.outstanding
gap_outstanding Opening policy s = refl
gap_outstanding Running policy s = refl
gap_outstanding Halted policy s = refl
gap_outstanding Resyncing policy s = refl

code_outstanding : (code : StatusCode) (policy : Policy) (missed : Bool) (s : Sender)
    → (after_code code policy missed s).outstanding ≡ s.outstanding
code_outstanding Okay policy missed s = okay_outstanding s.state policy missed s
code_outstanding CmdErr policy missed s = refl
code_outstanding SeqErr policy missed s = gap_outstanding s.state policy s
code_outstanding DataErr policy missed s = refl
code_outstanding RtErr policy missed s = refl
code_outstanding (OtherCode code) policy missed s = refl

order_outstanding : (op : CmdOp) (s : Sender) → (commands op s).outstanding ≡ s.outstanding
order_outstanding Init s = refl
order_outstanding Ping s = refl
order_outstanding Resync s = refl
order_outstanding (Other code) s = refl

pub only_enters_raise : {A : Type 0} (terms : Terms) (st : State A) → IsRun terms st → OnlyEntersRaise terms st
only_enters_raise terms st run (Fill loads) allowed other = (omega arith, omega arith)
only_enters_raise terms st run Close allowed other = (omega arith, omega arith)
only_enters_raise terms st run (Enter load rest) allowed other = absurd (cc other)
only_enters_raise terms st run (Order op) allowed other =
    let same = order_outstanding op st.core.sender in
    let p = ap (λ (c : Count). c.packets) same in
    let b = ap (λ (c : Count). c.bytes) same in
    (omega arith, omega arith)
only_enters_raise terms st run (Keep place load rest) allowed other = (omega arith, omega arith)
only_enters_raise terms st run (Break place load rest) allowed other = (omega arith, omega arith)
only_enters_raise terms st run (Discard place load rest) allowed other = (omega arith, omega arith)
only_enters_raise terms st run (Obey op told rest) allowed other = (omega arith, omega arith)
only_enters_raise terms st run (Renew told rest) allowed other = (omega arith, omega arith)
only_enters_raise terms st run (Take n) allowed other = (omega arith, omega arith)
only_enters_raise terms st run Report allowed other = (omega arith, omega arith)
only_enters_raise terms st run (Hear s rest) e other =
    let h = holds_run terms st run in
    let rising = subst (Rising (known st.core.sender) (transferred st.core.receiver)) e h.rising in
    let left = read_back terms st s rest run.valid h e in
    let same = code_outstanding (code_by s.gap) terms.policy _ _ in
    let p : (after terms st (Hear s rest)).core.sender.outstanding.packets ≡ (spelled_minus st.core.sender.sent s.told).packets = ap (λ (c : Count). c.packets) same in
    let b : (after terms st (Hear s rest)).core.sender.outstanding.bytes ≡ (spelled_minus st.core.sender.sent s.told).bytes = ap (λ (c : Count). c.bytes) same in
    let lp : (spelled_minus st.core.sender.sent s.told).packets ≡ st.core.sender.sent.packets - s.told.packets = ap (λ (c : Count). c.packets) left in
    let lb : (spelled_minus st.core.sender.sent s.told).bytes ≡ st.core.sender.sent.bytes - s.told.bytes = ap (λ (c : Count). c.bytes) left in
    let fp = rising.packets.0 in
    let fb = rising.bytes.0 in
    let credit = h.credited in
    (omega arith, omega arith)
only_enters_raise terms st run (LosePacket before place load behind) allowed other = (omega arith, omega arith)
only_enters_raise terms st run (LoseCommand before op told behind) allowed other = (omega arith, omega arith)
only_enters_raise terms st run (LoseStatus before status behind) allowed other = (omega arith, omega arith)
