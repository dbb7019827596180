-- What enters uses up the fault that names it, and weighs little.
use Rattle.std.proofs.Common.{◌≡◌, ℕ, ◌+◌, ◌≤◌, ◌<◌, Bool, true, false, length, Option, Some, None, refl, arith, get_or-set_same, get_or-set_other, if◌then◌else◌}
use Rattle.rf_base.proofs.Places.{one-set}
use Rattle.chdr_packets.specs.declared.packet.Packet.{Packet}
use Rattle.net_faults.specs.declared.fault.Fault.{Fault}
use Rattle.net_machine.specs.Effects.{enters_over, joins, on_node, on_stream}
use Rattle.net_machine.specs.Faults.{is_named}
use Rattle.net_machine.specs.Queues.{queue_of}
use Rattle.net_machine.specs.State.{Node, State, Stream, Tag, idle, node_at, stream_at}
use Rattle.net_weights.specs.Charge.{faults_left, is_left, marks_left}
use Rattle.net_weights.specs.Work.{burden_of, node_weight, stream_weight, top_of, work}
use Rattle.net_weights.proofs.Calming.{HasKept, kept-same, marks-join}
use Rattle.net_weights.proofs.Leftovers.{HasCounts, HasGrown, faults-named}
use Rattle.net_weights.proofs.Working.{work-node_less, work-over, work-stream_less, work-stream_more}

counts-same : (st : Stream) → HasCounts st st
counts-same st = record { sent = omega arith; statuses = omega arith; commands = omega arith }

counts-on : (w : State) (s : ℕ) (next : Stream → Stream) → HasCounts (stream_at w s) (next (stream_at w s)) → (t : ℕ) → HasCounts (stream_at w t) (stream_at (on_stream s next w) t)
counts-on w s next here = one-set (λ (t : ℕ) new old. HasCounts old new) w.streams w.streams idle idle (next (stream_at w s)) s (λ t. counts-same (stream_at w t)) here

module _ (vc : ℕ) (marked : Bool) (p : Packet) (tag : Tag) (s : ℕ) (next : Stream → Stream) (w : State) where
  -- stream s changes, and a packet enters a queue
  abbrev pub sends : Option ℕ → State
  sends o = on_stream s next (enters_over o vc marked p tag w)

  pub sends-grown : (o : Option ℕ) → HasCounts (stream_at w s) (next (stream_at w s)) → HasGrown w (sends o)
  sends-grown None here = record { streams = counts-on w s next here; requests = omega arith; answers = omega arith; faults = refl }
  sends-grown (Some d) here = record { streams = counts-on w s next here; requests = omega arith; answers = omega arith; faults = refl }

  pub sends-marks : (o : Option ℕ) → marks_left (sends o) ≤ marks_left w + (if marked then 1 else 0)
  sends-marks None = omega arith
  sends-marks (Some d) = marks-join (queue_of d vc) (record { packet = p; marked = marked; tag = tag }) w

  pub sends-here : (o : Option ℕ) → s < length w.streams → stream_at (sends o) s ≡ next (stream_at w s)
  sends-here None there = get_or-set_same w.streams s (next (stream_at w s)) idle there
  sends-here (Some d) there = get_or-set_same w.streams s (next (stream_at w s)) idle there

  pub sends-other : (o : Option ℕ) (t : ℕ) → (t ≡ s → ⊥) → stream_at (sends o) t ≡ stream_at w t
  sends-other None t ne = get_or-set_other w.streams s t (next (stream_at w s)) idle ne
  sends-other (Some d) t ne = get_or-set_other w.streams s t (next (stream_at w s)) idle ne

  pub sends-kept : (o : Option ℕ) → HasKept (stream_at w s) (next (stream_at w s)) → (t : ℕ) → HasKept (stream_at w t) (stream_at (sends o) t)
  sends-kept None here = one-set (λ (t : ℕ) new old. HasKept old new) w.streams w.streams idle idle (next (stream_at w s)) s (λ t. kept-same (stream_at w t)) here
  sends-kept (Some d) here = one-set (λ (t : ℕ) new old. HasKept old new) w.streams w.streams idle idle (next (stream_at w s)) s (λ t. kept-same (stream_at w t)) here

  pub sends-work : (o : Option ℕ) → stream_weight (top_of w.tree) (next (stream_at w s)) ≤ stream_weight (top_of w.tree) (stream_at w s) →
      work (sends o) ≤ work w + (top_of w.tree + 1 + burden_of (top_of w.tree) p)
  sends-work None here = let more = work-stream_more s next 0 w (omega (arith, here)) in omega (arith, more)
  sends-work (Some d) here =
      let entered = work-over (Some d) vc marked p tag w in
      let more = work-stream_more s next 0 (joins (queue_of d vc) (record { packet = p; marked = marked; tag = tag }) w) (omega (arith, here)) in
      chain _ _ _ (work w) more entered
    where
      chain : (a b m old : ℕ) → a ≤ b + 0 → b ≤ old + m → a ≤ old + m
      chain a b m old le more = omega arith

  pub sends-less : (o : Option ℕ) (m : ℕ) → s < length w.streams → stream_weight (top_of w.tree) (next (stream_at w s)) + m ≤ stream_weight (top_of w.tree) (stream_at w s) →
      work (sends o) + m ≤ work w + (top_of w.tree + 1 + burden_of (top_of w.tree) p)
  sends-less None m there here = let less = work-stream_less s next m w there here in omega (arith, less)
  sends-less (Some d) m there here =
      let entered = work-over (Some d) vc marked p tag w in
      let less = work-stream_less s next m (joins (queue_of d vc) (record { packet = p; marked = marked; tag = tag }) w) there here in
      chain _ _ _ (work w) m less entered
    where
      chain : (a b k old m : ℕ) → a + m ≤ b → b ≤ old + k → a + m ≤ old + k
      chain a b k old m le more = omega arith

module _ (vc : ℕ) (marked : Bool) (p : Packet) (tag : Tag) (x : ℕ) (next : Node → Node) (w : State) where
  -- node x changes, and a packet enters a queue
  abbrev pub leaves_node : Option ℕ → State
  leaves_node o = on_node x next (enters_over o vc marked p tag w)

  pub node-grown : (o : Option ℕ) → HasGrown w (leaves_node o)
  node-grown None = record { streams = λ t. counts-same (stream_at w t); requests = omega arith; answers = omega arith; faults = refl }
  node-grown (Some d) = record { streams = λ t. counts-same (stream_at w t); requests = omega arith; answers = omega arith; faults = refl }

  pub node-marks : (o : Option ℕ) → marks_left (leaves_node o) ≤ marks_left w + (if marked then 1 else 0)
  node-marks None = omega arith
  node-marks (Some d) = marks-join (queue_of d vc) (record { packet = p; marked = marked; tag = tag }) w

  pub node-streams : (o : Option ℕ) → (leaves_node o).streams ≡ w.streams
  node-streams None = refl
  node-streams (Some d) = refl

  pub node-requests : (o : Option ℕ) → (leaves_node o).requests ≡ w.requests
  node-requests None = refl
  node-requests (Some d) = refl

  pub node-answers : (o : Option ℕ) → (leaves_node o).answers ≡ w.answers
  node-answers None = refl
  node-answers (Some d) = refl

  pub node-less : (o : Option ℕ) (m : ℕ) → x < length w.nodes → node_weight (top_of w.tree) (next (node_at w x)) + m ≤ node_weight (top_of w.tree) (node_at w x) →
      work (leaves_node o) + m ≤ work w + (top_of w.tree + 1 + burden_of (top_of w.tree) p)
  node-less None m there here = let less = work-node_less x next m w there here in omega (arith, less)
  node-less (Some d) m there here =
      let entered = work-over (Some d) vc marked p tag w in
      let less = work-node_less x next m (joins (queue_of d vc) (record { packet = p; marked = marked; tag = tag }) w) there here in
      chain _ _ _ (work w) m less entered
    where
      chain : (a b k old m : ℕ) → a + m ≤ b → b ≤ old + k → a + m ≤ old + k
      chain a b k old m le more = omega arith

-- what enters, marked where a fault names it, leaves no more faults and marks
pub names-fall : (w v : State) (name : Fault) → HasGrown w v → is_left v name ≡ false → is_left w name ≡ true → marks_left v ≤ marks_left w + (if is_named w.faults name then 1 else 0) →
    faults_left v + marks_left v ≤ faults_left w + marks_left w
names-fall w v name grown used left marks =
    let faults = faults-named w v name grown used left in
    sums (faults_left v) (faults_left w) (marks_left v) (marks_left w) (if is_named w.faults name then 1 else 0) faults marks
  where
    sums : (a b c d k : ℕ) → a + k ≤ b → c ≤ d + k → a + c ≤ b + d
    sums a b c d k first second = omega arith
