use Rattle.std.proofs.Common.{◌≡◌, refl, arith}
use Rattle.fabric_events.specs.Fabrics.{present_of}
use Rattle.fabric_events.specs.Sizes.{first_loss, first_reply}
use Rattle.fabric_events.proofs.NodeStillLemmas.{ask_next, node_within, past_asks, reply_next}
use Rattle.fabric_events.proofs.fabric.Fabric.next_at_node.Goals as goal

pub returns-in-Some-clause-still : goal.returns-in-Some-clause-still
returns-in-Some-clause-still c =
    let first = c.requires.from in
    let at : c.replies-replies.result ≡ first_reply c.args.sizes = c.replies-replies.ensures in
    reply_next (present_of c.args.self.now) c.args.sizes c.replies-replies.result c.args.self.now.working c.requires.sizes at
    c.requires.sound.working c.args.k c.in-Some.x (omega arith) c.in-Some.ensures

pub returns-in-Some-clause-within : goal.returns-in-Some-clause-within
returns-in-Some-clause-within c =
    let at : c.replies-replies.result ≡ first_reply c.args.sizes = c.replies-replies.ensures in
    let there = node_within (present_of c.args.self.now) c.args.sizes c.replies-replies.result c.args.self.now.working c.requires.sizes at
    c.requires.sound.working c.in-Some.x c.in-Some.ensures.here in
    omega arith

pub returns-in-Some-next_from-clause-still : goal.returns-in-Some-next_from-clause-still
returns-in-Some-next_from-clause-still c =
    let first = c.requires.from in
    let at : c.replies-replies.result ≡ first_reply c.args.sizes = c.replies-replies.ensures in
    ask_next (present_of c.args.self.now) c.args.sizes c.replies-replies.result c.args.self.now.working c.requires.sizes at
    c.requires.sound.working c.args.k c.saturating_sub.result c.in-Some-next_from.x (omega arith) c.in_default.ensures
    c.saturating_sub.ensures c.in-Some-next_from.ensures

pub returns-in-Some-next_from-clause-within : goal.returns-in-Some-next_from-clause-within
returns-in-Some-next_from-clause-within c =
    let at : c.replies-replies.result ≡ first_reply c.args.sizes = c.replies-replies.ensures in
    let there = node_within (present_of c.args.self.now) c.args.sizes c.replies-replies.result c.args.self.now.working c.requires.sizes at
    c.requires.sound.working c.in-Some-next_from.x c.in-Some-next_from.ensures.here in
    omega arith

pub returns-in-None-clause-still : goal.returns-in-None-clause-still
returns-in-None-clause-still c =
    let first = c.requires.from in
    let at : c.replies-replies.result ≡ first_reply c.args.sizes = c.replies-replies.ensures in
    past_asks (present_of c.args.self.now) c.args.sizes c.replies-replies.result c.args.self.now.working c.requires.sizes at
    c.requires.sound.working c.args.k c.saturating_sub.result (first_loss c.args.sizes) (omega arith) c.in_default.ensures c.saturating_sub.ensures
    c.in-None.ensures refl
