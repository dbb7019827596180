-- A net as it is built, and as a run begins in it, is the present of the machine's state.
use Rattle.std.proofs.Common.{◌≡◌, ℕ, zero, suc, ◌≤◌, Bool, true, false, List, [], ◌∷◌, length, refl, sym, ◌∙◌, ap, get_or, inl, inr, Option, None, Some, arith}
use Rattle.std.specs.Prelude.{map, replicate, if◌then◌else◌}
use Rattle.std.specs.List.{range_with_len}
use Rattle.std.specs.Option.{option_map_or}
use Rattle.std.proofs.Math.ListN.{get_or-map}
use Rattle.std.proofs.lemmas.Bool.{cases_lt}
use Rattle.std.proofs.lemmas.List.{length-map}
use Rattle.std.proofs.lemmas.List.FromFn.{get_or-map-range_with_len, length-map-range_with_len}
use Rattle.std.proofs.lemmas.Simd.{map-map}
use Rattle.block_library.proofs.Laws.{lines_grow}
use Rattle.block_library.specs.Lines.{empty_line}
use Rattle.block_library.specs.Memory.{Kept, kept_of, lists}
use Rattle.block_library.specs.declared.kind.BlockKind.{BlockKind}
use Rattle.block_library.specs.declared.kind.BlockKind.TheVariants.{Tx, Rx, Fifo, Split, Keep, Repeat, Replay, Switch, Sink}
use Rattle.block_library.specs.declared.line.Line.{Line}
use Rattle.chdr_packets.specs.declared.packet.Packet.{Packet}
use Rattle.net_machine.specs.Begin.{begun, opened}
use Rattle.net_machine.specs.Blocks.{fed_to}
use Rattle.net_machine.specs.Front.{queued}
use Rattle.net_machine.specs.Plans.{block_at, is_rx, no_block, stream_into}
use Rattle.net_machine.specs.Queues.{queue_count}
use Rattle.net_machine.specs.State.{State, idle}
use Rattle.net_machine.specs.Streams.{taken_of}
use Rattle.net_machine.specs.declared.plan.BlockPlan.{BlockPlan}
use Rattle.net_machine.specs.declared.plan.RunPlan.{RunPlan}
use Rattle.net_machine.specs.declared.plan.StreamPlan.{StreamPlan}
use Rattle.net_present.specs.Kept.{IsStreamNow, block_now, block_now_at, idle_block, idle_now, line_by, now_at, stream_now}
use Rattle.net_present.specs.Present.{BlockNow, StreamNow}
use Rattle.fabric_lists.specs.Opened.{opened_now, unfed}
use Rattle.fabric_events.specs.Begun.{BegunIsNow, BuiltIsNow}

-- nothing was taken on a stream that begins, or isn't there
module _ (plan : RunPlan) where
  taken-none : (streams : List StreamPlan) (s : ℕ) → (get_or (map (opened plan) streams) s idle).taken ≡ 0
  taken-none [] s = refl
  taken-none (st ∷ sts) zero = refl
  taken-none (st ∷ sts) (suc s) = taken-none sts s

  fed-none : (streams : List StreamPlan) (s : ℕ) → taken_of (get_or (map (opened plan) streams) s idle) ≡ []
  fed-none [] s = refl
  fed-none (st ∷ sts) zero = refl
  fed-none (st ∷ sts) (suc s) = fed-none sts s

  -- what is kept of each stream
  opened-at : (s : ℕ) → now_at (map (opened_now plan) plan.streams) s ≡ stream_now 0 0 (get_or (map (opened plan) plan.streams) s idle)
  opened-at s =
      ap (λ (ns : List StreamNow). get_or ns s idle_now) (sym (map-map (stream_now 0 0) (opened plan) plan.streams))
      ∙ get_or-map (stream_now 0 0) (map (opened plan) plan.streams) s idle

  stream-begins : (at_rx : Bool) (s : ℕ) → IsStreamNow at_rx (now_at (map (opened_now plan) plan.streams) s) (get_or (map (opened plan) plan.streams) s idle)
  stream-begins at_rx s = record {
    handed = 0;
    offered = 0;
    given = omega arith;
    ready = omega arith;
    fed = λ e. sym (taken-none plan.streams s);
    is = opened-at s;
  }

-- the line of a block that took nothing
line-none : (kind : BlockKind) (b item : ℕ) → line_by kind b item [] ≡ empty_line b
line-none Tx b item = refl
line-none Rx b item = refl
line-none Fifo b item = refl
line-none Split b item = refl
line-none (Keep n) b item = refl
line-none (Repeat n) b item = refl
line-none (Replay n) b item = refl
line-none (Switch n) b item = refl
line-none Sink b item = lines_grow.0 b item

-- either of two that are the same
either : {A : Type 0} (b : Bool) (x y : A) → x ≡ y → x ≡ (if b then x else y)
either true x y e = refl
either false x y e = e

-- what is kept of a block that is fed nothing
unfed-block : (w : State) (b : ℕ) (block : BlockPlan) → fed_to w block 0 ≡ [] → fed_to w block 1 ≡ []
    → record { kept = kept_of block.kind block.item (lists [] []); line = empty_line b } ≡ block_now w b block
unfed-block w b block first second =
    same (kept_of block.kind block.item (lists [] [])) (block_now w b block).kept (empty_line b) (block_now w b block).line
    (kept-none block.kind first second)
    (sym (ap (line_by block.kind b block.item) first ∙ line-none block.kind b block.item))
  where
    kept-none : (kind : BlockKind) → fed_to w block 0 ≡ [] → fed_to w block 1 ≡ []
        → kept_of block.kind block.item (lists [] []) ≡ (if is_rx kind then kept_of block.kind block.item (lists [] []) else kept_of block.kind block.item (lists (fed_to w block 0) (fed_to w block 1)))
    kept-none kind p q = either (is_rx kind) (kept_of block.kind block.item (lists [] [])) _ (ap (λ (ps : List Packet). kept_of block.kind block.item (lists ps [])) (sym p)
        ∙ ap (λ (ps : List Packet). kept_of block.kind block.item (lists (fed_to w block 0) ps)) (sym q))

    same : (k l : Kept) (x y : Line) → k ≡ l → x ≡ y → ◌≡◌ {A = BlockNow} (record { kept = k; line = x }) (record { kept = l; line = y })
    same k l x y p q = ap (λ (z : Kept). let n : BlockNow = record { kept = z; line = x } in n) p ∙ ap (λ (z : Line). let n : BlockNow = record { kept = l; line = z } in n) q

-- what is fed to a block whose streams begin
none-or : (f : ℕ → List Packet) → ((s : ℕ) → f s ≡ []) → (o : Option ℕ) → option_map_or f o [] ≡ []
none-or f none None = refl
none-or f none (Some s) = none s

-- of one that is there, and of one that isn't
past : {A : Type 0} (xs : List A) (b : ℕ) (d : A) → length xs ≤ b → get_or xs b d ≡ d
past [] b d h = refl
past (x ∷ xs) zero d h = absurd (omega arith)
past (x ∷ xs) (suc b) d h = past xs b d (omega arith)

unfed-at : (plan : RunPlan) (b : ℕ) → block_now_at (map (unfed plan) (range_with_len 0 (length plan.blocks))) b ≡ unfed plan b
unfed-at plan b = elim (cases_lt b (length plan.blocks)) [
  | inl there ↦ get_or-map-range_with_len (unfed plan) 0 (length plan.blocks) b b (idle_block b) there (omega arith)
  | inr beyond ↦ past (map (unfed plan) (range_with_len 0 (length plan.blocks))) b (idle_block b) (omega (arith, length-map-range_with_len (unfed plan) 0 (length plan.blocks)))
      ∙ ap (λ (block : BlockPlan). let n : BlockNow = record { kept = kept_of block.kind block.item (lists [] []); line = empty_line b } in n) (sym (past plan.blocks b no_block beyond))
]

pub begun_is_now : BegunIsNow
begun_is_now plan p w now =
    let v = begun plan w in
    record {
      tree = now.tree;
      plan = refl;
      queues = now.queues;
      nodes = now.nodes;
      as_many_streams = length-map plan.streams (opened_now plan) ∙ sym (length-map plan.streams (opened plan));
      streams = λ s. stream-begins plan _ s;
      as_many_blocks = length-map-range_with_len (unfed plan) 0 (length plan.blocks);
      blocks = λ b. unfed-at plan b ∙ unfed-block v b (block_at plan b)
          (none-or _ (fed-none plan plan.streams) (stream_into plan (block_at plan b) 0))
          (none-or _ (fed-none plan plan.streams) (stream_into plan (block_at plan b) 1));
      faults = refl;
      requests = refl;
      answers = refl;
    }

-- no entry is in a queue
none-queued : (n : ℕ) → replicate n [] ≡ map (map queued) (replicate n [])
none-queued zero = refl
none-queued (suc n) = ap (λ qs. [] ∷ qs) (none-queued n)

pub built_is_now : BuiltIsNow
built_is_now tree routed banks = record {
  tree = refl;
  plan = refl;
  queues = none-queued (queue_count tree);
  nodes = refl;
  as_many_streams = refl;
  streams = λ s. record { handed = 0; offered = 0; given = omega arith; ready = omega arith; fed = λ e. refl; is = refl };
  as_many_blocks = refl;
  blocks = λ b. refl;
  faults = refl;
  requests = refl;
  answers = refl;
}
