-- Any list of calls does with wrapped counts what the rules do with whole ones: by induction on the list.
use Rattle.std.proofs.Common.{◌≡◌, ◌↔◌, List, [], ◌∷◌, refl, sym, ◌∙◌, ap, subst}
use Rattle.stream_endpoint.specs.InEnd.{Receiving, kept as kept_in}
use Rattle.stream_endpoint.specs.OutEnd.{Sending, kept as kept_out, told_by}
use Rattle.stream_endpoint.specs.Receiver.{Receiver}
use Rattle.stream_endpoint.specs.Sender.{Sender}
use Rattle.endpoint_laws.specs.Calls.{AllMay, Arrive, Arrival, Hear, InAnswer, InCall, MayCallIn, MayCallOut, Number, Obey, Order, Ordered, OutAnswer, OutCall, Report, Reported, Send, Take, after_calls, after_in, after_out, answer_in, answer_out, answers, kept_after_in, kept_after_out}
use Rattle.endpoint_laws.specs.Laws.{AnyCallsReceive, AnyCallsSend}
use Rattle.endpoint_laws.proofs.KeptEnds.{kept_arrival, kept_arrives, kept_commands, kept_finds_room, kept_hears, kept_numbers, kept_obeys, kept_orders, kept_reports, kept_sends, kept_status, kept_takes}

sending-with : (end : Sending) (s t : Sender) → s ≡ t
    → (let p : Sending = record end { sender = s } in p) ≡ record end { sender = t }
sending-with end s t is = ap (λ (u : Sender). (let p : Sending = record end { sender = u } in p)) is

receiving-with : (end : Receiving) (r t : Receiver) → r ≡ t
    → (let p : Receiving = record end { receiver = r } in p) ≡ record end { receiver = t }
receiving-with end r t is = ap (λ (u : Receiver). (let p : Receiving = record end { receiver = u } in p)) is

out-goes_on : (call : OutCall) (end : Sending) → kept_after_out call (kept_out end) ≡ kept_out (after_out call end)
out-goes_on (Send wire) end = sending-with end _ _ (kept_sends wire end.sender)
out-goes_on (Hear status) end =
    sending-with end _ _ (kept_hears end.policy status.code (told_by status) end.sender).0
out-goes_on (Order op) end = sending-with end _ _ (kept_commands op end.sender)

out-answer : (call : OutCall) (end : Sending) → answer_out call (kept_out end) ≡ answer_out call end
out-answer (Send wire) end = ap Number (kept_numbers end.sender)
out-answer (Hear status) end = refl
out-answer (Order op) end = ap Ordered (kept_orders op end)

out-may : (call : OutCall) (end : Sending) → MayCallOut (kept_out end) call ↔ MayCallOut end call
out-may (Send wire) end = ((λ may. may), (λ may. may))
out-may (Hear status) end = ((λ may. may), (λ may. may))
out-may (Order op) end = ((λ may. may), (λ may. may))

pub any_calls_send : AnyCallsSend
any_calls_send [] whole = record { may = ((λ may. may), (λ may. may)); left = refl; told = refl }
any_calls_send (call ∷ calls) whole =
    let on = out-goes_on call whole in
    let later = any_calls_send calls (after_out call whole) in
    let here = out-may call whole in
    record {
      may = (
        (λ may. (here.0 may.0, later.may.0 (subst (λ (end : Sending). AllMay MayCallOut kept_after_out end calls) on may.1))),
        (λ may. (here.1 may.0, subst (λ (end : Sending). AllMay MayCallOut kept_after_out end calls) (sym on) (later.may.1 may.1))),
      );
      left = ap (λ (end : Sending). after_calls kept_after_out end calls) on ∙ later.left;
      told = ap (λ (a : OutAnswer). a ∷ answers kept_after_out answer_out (kept_after_out call (kept_out whole)) calls) (out-answer call whole)
          ∙ ap (λ (more : List OutAnswer). answer_out call whole ∷ more)
          (ap (λ (end : Sending). answers kept_after_out answer_out end calls) on ∙ later.told);
    }

in-goes_on : (call : InCall) (end : Receiving) → MayCallIn end call
    → kept_after_in call (kept_in end) ≡ kept_in (after_in call end)
in-goes_on (Arrive number wire) end may = receiving-with end _ _ (kept_arrives number wire end.receiver)
in-goes_on (Take taken) end may = receiving-with end _ _ (kept_takes taken end.receiver)
in-goes_on (Obey c told) end may = receiving-with end _ _ (kept_obeys c.op _ told end.receiver may)
in-goes_on Report end may = receiving-with end _ _ (kept_reports end.receiver)

in-answer : (call : InCall) (end : Receiving) → answer_in call (kept_in end) ≡ answer_in call end
in-answer (Arrive number wire) end = ap Arrival (kept_arrival number end.receiver)
in-answer (Take taken) end = refl
in-answer (Obey c told) end = refl
in-answer Report end = ap Reported (kept_status end)

in-may : (call : InCall) (end : Receiving) → MayCallIn end call → MayCallIn (kept_in end) call
in-may (Arrive number wire) end may = (kept_finds_room end.flow end.receiver number wire).1 may
in-may (Take taken) end may = may
in-may (Obey c told) end may = may
in-may Report end may = may

pub any_calls_receive : AnyCallsReceive
any_calls_receive [] whole may = (record { left = refl; told = refl }, tt)
any_calls_receive (call ∷ calls) whole may =
    let on = in-goes_on call whole may.0 in
    let both = any_calls_receive calls (after_in call whole) may.1 in
    let later = both.0 in (
      record {
        left = ap (λ (end : Receiving). after_calls kept_after_in end calls) on ∙ later.left;
        told = ap (λ (a : InAnswer). a ∷ answers kept_after_in answer_in (kept_after_in call (kept_in whole)) calls) (in-answer call whole)
            ∙ ap (λ (more : List InAnswer). answer_in call whole ∷ more)
            (ap (λ (end : Receiving). answers kept_after_in answer_in end calls) on ∙ later.told);
      },
      (
        in-may call whole may.0,
        subst (λ (end : Receiving). AllMay MayCallIn kept_after_in end calls) (sym on) both.1,
      ),
    )
