-- What stays of a present at each event, and how fast its counts rise.
use Rattle.std.specs.Prelude.{◌≡◌, ◌+◌, ◌≤◌, ℕ, length}
use Rattle.net_machine.specs.declared.event.Event.{Event}
use Rattle.net_present.specs.Kept.{block_now_at, now_at}
use Rattle.net_present.specs.Onward.{Held, goes_on}
use Rattle.net_present.specs.Present.{BlockNow, Present, StreamNow}

-- a block is of the same kind, for samples of the same size
pub record KeepsForm (old new : BlockNow) : Type 0 where
  pub kind : new.kept.kind ≡ old.kept.kind
  pub item : new.kept.item ≡ old.kept.item

-- both presents have one tree and one plan, as many queues, nodes, streams and blocks, and blocks of the same form
pub record KeepsSizes (old new : Present) : Type 0 where
  pub tree : new.tree ≡ old.tree
  pub plan : new.plan ≡ old.plan
  pub queues : length new.queues ≡ length old.queues
  pub nodes : length new.nodes ≡ length old.nodes
  pub streams : length new.streams ≡ length old.streams
  pub blocks : length new.blocks ≡ length old.blocks
  pub forms : (b : ℕ) → KeepsForm (block_now_at old.blocks b) (block_now_at new.blocks b)

-- Each event keeps that.
abbrev pub SizesStay : Type 0
SizesStay = (e : Event) (h : Held) → KeepsSizes h.present (goes_on e h).present

-- what is counted of a stream is at most n
pub record IsStreamCounted (n : ℕ) (st : StreamNow) : Type 0 where
  pub sent : st.sent ≤ n
  pub given : st.given ≤ n
  pub statuses : st.statuses ≤ n
  pub commands : st.commands ≤ n
  pub cuts : st.cuts ≤ n

-- so are all counts of a present
pub record IsCounted (n : ℕ) (p : Present) : Type 0 where
  pub streams : (s : ℕ) → IsStreamCounted n (now_at p.streams s)
  pub requests : p.requests ≤ n
  pub answers : p.answers ≤ n

-- Each event raises a count by one at most.
abbrev pub CountsRise : Type 0
CountsRise = (n : ℕ) (e : Event) (h : Held) → IsCounted n h.present → IsCounted (n + 1) (goes_on e h).present
