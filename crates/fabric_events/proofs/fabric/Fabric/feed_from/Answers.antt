use Rattle.std.proofs.Common.{ℕ, ◌<◌, List, length, refl, sym, ◌∙◌, ap, subst, Option}
use Rattle.std.specs.Prelude.{All, IfSome}
use Rattle.block_library.specs.Memory.{gives}
use Rattle.chdr_packets.specs.declared.packet.Packet.{Packet}
use Rattle.net_machine.specs.declared.plan.RunPlan.{RunPlan}
use Rattle.net_present.specs.Kept.{block_now_at, now_at}
use Rattle.net_present.specs.Present.{Present}
use Rattle.net_present.specs.StreamSteps.{fed_now}
use Rattle.fabric_parts.specs.Ready.{IsShort}
use Rattle.fabric_lists.specs.BlocksView.{blocks_of}
use Rattle.fabric_lists.specs.Opened.{is_tx_stream}
use Rattle.fabric_events.specs.Fabrics.{present_of}
use Rattle.fabric_lists.specs.StreamsView.{StreamsSeen, streams_of}
use Rattle.fabric_events.proofs.fabric.Fabric.feed_from.Goals as goal
use Rattle.fabric_events.proofs.EventLemmas.{Fills, count_kept, on_some, ready_beside, ready_kept, sound_fed, stream_count}

pub become_ready-requires-clause-sound : goal.become_ready-requires-clause-sound
become_ready-requires-clause-sound c =
    let f = c.args.self.now in
    sound_fed f (record f { streams = c.feed-packet.new.streams; blocks = c.feed-fed.new.blocks }) c.args.s fed_now c.args.b c.args.i
    c.feed-packet.result c.requires.sound refl c.feed-packet.ensures.next c.feed-fed.ensures.now

pub become_ready-requires-clause-fits : goal.become_ready-requires-clause-fits
become_ready-requires-clause-fits c =
    let f = c.args.self.now in
    let given = gives (block_now_at (blocks_of f.blocks.items) c.args.b).kept c.args.i c.feed-packet.result in
    let mid = record f { streams = c.feed-packet.new.streams; blocks = c.feed-fed.new.blocks } in
    subst (λ (o : Option ℕ). IfSome o (Fills mid c.feed-fed.result.first)) (sym c.output_of-first.ensures)
    (on_some (Fills f given.first) (Fills mid c.feed-fed.result.first) _ (λ t is h. (
      subst (λ (n : ℕ). t < n) (sym (count_kept f.streams.items c.feed-packet.new.streams.items c.args.s fed_now c.feed-packet.ensures.next)) h.0,
      h.1,
      ap (λ (v : StreamsSeen). (now_at v.now t).ready) c.feed-packet.ensures.next
          ∙ ready_kept (streams_of f.streams.items).now c.args.s t fed_now (λ st. refl) ∙ h.2,
      subst (λ (ps : List Packet). All IsShort ps) (sym c.feed-fed.ensures.first) h.3,
    )) (c.requires.first c.feed-packet.result c.feed-packet.ensures.packet))

pub become_ready-requires-2-clause-fits : goal.become_ready-requires-2-clause-fits
become_ready-requires-2-clause-fits c =
    let f = c.args.self.now in
    let g = c.become_ready.new.self in
    let given = gives (block_now_at (blocks_of f.blocks.items) c.args.b).kept c.args.i c.feed-packet.result in
    let mid = record f { streams = c.feed-packet.new.streams; blocks = c.feed-fed.new.blocks } in
    let count = stream_count g c.become_ready.ensures.sound ∙ ap (λ (p : RunPlan). length p.streams) c.become_ready.ensures.plan
    ∙ sym (stream_count f c.requires.sound) in
    subst (λ (o : Option ℕ). IfSome o (Fills g c.feed-fed.result.second)) (sym c.output_of-second.ensures)
    (on_some (Fills f given.second) (Fills g c.feed-fed.result.second) _ (λ t is h. (
      subst (λ (n : ℕ). t < n) (sym count) h.0,
      ap (λ (p : RunPlan). is_tx_stream p t) c.become_ready.ensures.plan ∙ h.1,
      ap (λ (p : Present). (now_at p.streams t).ready) c.become_ready.ensures.present
          ∙ ready_beside c.output_of-first.result c.feed-fed.result.first (present_of mid) t
          (λ first. c.requires.apart t (sym c.output_of-first.ensures ∙ first) is)
          ∙ ap (λ (v : StreamsSeen). (now_at v.now t).ready) c.feed-packet.ensures.next
          ∙ ready_kept (streams_of f.streams.items).now c.args.s t fed_now (λ st. refl) ∙ h.2,
      subst (λ (ps : List Packet). All IsShort ps) (sym c.feed-fed.ensures.second) h.3,
    )) (c.requires.second c.feed-packet.result c.feed-packet.ensures.packet))
