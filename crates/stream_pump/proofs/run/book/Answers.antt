use Rattle.std.proofs.Common.{◌≡◌, ℕ, List, ap, length, map, subst, sym, ◌∙◌}
use Rattle.std.specs.List.{range_with_len}
use Rattle.chdr_packets.specs.declared.packet.Packet.{Packet}
use Rattle.net_machine.specs.Plans.{block_at, is_rx}
use Rattle.net_machine.specs.Tallies.{end_of, line_at, tally_of, taken_by}
use Rattle.net_machine.specs.declared.plan.RunPlan.{RunPlan}
use Rattle.run_books.specs.Books.{blocks_of}
use Rattle.stream_pump.specs.Drains.{AreTaken}
use Rattle.stream_pump.specs.Telling.{drained_by, has_line}
use Rattle.stream_pump.proofs.Rows.{same-kept}
use Rattle.stream_pump.proofs.Taking.{drained-is}
use Rattle.stream_pump.proofs.run.book.Goals as goal

pub returns-clause-tells : goal.returns-clause-tells
returns-clause-tells c = λ w stands taken.
    let p = c.args.net.now.present in
    let plan = c.args.plan.now in
    let drains = c.args.drains.items in
    let same : plan ≡ w.plan = sym c.requires.plan.same ∙ stands.now.plan in
    let many : c.len-streams.result ≡ length w.plan.streams = c.len-streams.ensures ∙ ap (λ (r : RunPlan). length r.streams) same in
    let drained = same-kept (drained_by plan drains) (taken_by w) (λ b. is_rx (block_at plan b).kind)
    (λ b rx. drained-is p w plan drains b c.requires.plan.same stands taken rx) (range_with_len 0 (length plan.blocks)) in
    record {
      ends = c.in_ok-ends.ensures w stands ∙ ap (λ (n : ℕ). map (end_of w) (range_with_len 0 n)) many;
      tallies = c.in_ok-tallies.ensures w stands ∙ ap (λ (n : ℕ). map (tally_of w) (range_with_len 0 n)) many;
      taken = c.in_ok-taken_lists.ensures ∙ drained ∙ ap (λ (r : RunPlan). map (taken_by w) (blocks_of is_rx r)) same;
      lines = c.in_ok-lines.ensures w stands (subst (λ (ds : List (List Packet)). AreTaken p w ds) (sym c.as_slice.ensures.value) taken)
          ∙ ap (λ (r : RunPlan). map (line_at w) (blocks_of has_line r)) same;
    }
