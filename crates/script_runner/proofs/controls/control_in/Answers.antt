use Rattle.std.proofs.Common.{None, Some, subst}
use Rattle.std.specs.Prelude.{Err}
use Rattle.ctrl_transactions.specs.Requests.{HostSeen}
use Rattle.ctrl_transactions.specs.Transactions.{HasAsked, IsTransaction}
use Rattle.ctrl_transactions.specs.declared.fault.CtrlFault.{CtrlFault}
use Rattle.script_runner.proofs.Controlling.{control-refused, control-told}
use Rattle.script_runner.proofs.controls.control_in.Goals as goal

pub returns-in-Some : goal.returns-in-Some
returns-in-Some g c =
    control-refused c.args.net.now (g.B.RegisterSlots.slots c.args.banks.now) c.args.dst c.args.request.now c.args.lose.now c.in-Some.refusal
    c.requires.settled c.in-Some.ensures

pub returns-in-Ok : goal.returns-in-Ok
returns-in-Ok g c =
    let slots = g.B.RegisterSlots.slots c.args.banks.now in
    let left = g.B.RegisterSlots.slots c.transact.new.banks in
    control-told c.args.net.now c.name.new.net c.transact.new.net slots left c.args.dst c.args.request.now c.args.lose.now (Some c.in-Ok.ack)
    c.transact.new.self c.stands.ensures c.in_ok-name.ensures.settled c.requires.first.first c.requires.first.asks c.in_default.ensures c.in_ok-name.ensures.machine
    (subst (λ (host : HostSeen). HasAsked (record { host = host; net = c.name.new.net; banks = slots }) c.args.dst c.args.request.now (Some c.in-Ok.ack)
    (record { host = c.transact.new.self; net = c.transact.new.net; banks = left })) c.new-host.ensures c.in-Ok.ensures)

pub returns-in-Err-NoAck : goal.returns-in-Err-NoAck
returns-in-Err-NoAck g c =
    let slots = g.B.RegisterSlots.slots c.args.banks.now in
    let left = g.B.RegisterSlots.slots c.transact.new.banks in
    control-told c.args.net.now c.name.new.net c.transact.new.net slots left c.args.dst c.args.request.now c.args.lose.now None
    c.transact.new.self c.stands.ensures c.in_ok-name.ensures.settled c.requires.first.first c.requires.first.asks c.in_default.ensures c.in_ok-name.ensures.machine
    (subst (λ (host : HostSeen). HasAsked (record { host = host; net = c.name.new.net; banks = slots }) c.args.dst c.args.request.now None
    (record { host = c.transact.new.self; net = c.transact.new.net; banks = left })) c.new-host.ensures
    (subst (λ (fault : CtrlFault). IsTransaction (record { host = c.new-host.result; net = c.name.new.net; banks = slots }) c.args.dst c.args.request.now
    (Err fault) (record { host = c.transact.new.self; net = c.transact.new.net; banks = left })) c.in-Err-NoAck.field-0-is c.in-Err-NoAck.ensures))
