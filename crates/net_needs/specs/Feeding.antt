-- What a Feed asks of the parts of a net.
use Rattle.std.specs.Prelude.{◌≡◌, ◌<◌, ◌≤◌, ℕ, false, List, [], length, Some, All, slice_get}
use Rattle.block_library.specs.Blocks.{IsFeed, inputs}
use Rattle.block_library.specs.Memory.{gives}
use Rattle.chdr_packets.specs.Length.{length_of}
use Rattle.chdr_packets.specs.declared.packet.Packet.{Packet}
use Rattle.net_machine.specs.Plans.{block_at, is_tx, producer_of, stream_into, stream_out_of}
use Rattle.net_present.specs.Kept.{block_now_at, now_at}
use Rattle.net_present.specs.Present.{Present}

-- stream t begins at block b and has nothing ready, so that these packets, whose sizes can be spelled, become ready
pub record FillNeeds (p : Present) (b : ℕ) (packets : List Packet) (t : ℕ) : Type 0 where
  pub there : t < length p.streams
  pub producer : producer_of p.plan t ≡ Some b
  pub clear : (now_at p.streams t).ready ≡ []
  pub short : All (λ packet. length_of packet ≤ 65535) packets

-- what is kept of block b is of its kind and for samples of its size
pub record IsKeptAs (p : Present) (b : ℕ) : Type 0 where
  pub kind : (block_now_at p.blocks b).kept.kind ≡ (block_at p.plan b).kind
  pub item : (block_now_at p.blocks b).kept.item ≡ (block_at p.plan b).item

-- Block b is there and is no Tx. So is the stream into its input i, of which a packet waits that the block takes.
-- What it gives for that packet can become ready on the streams that begin at its outputs, which are not the same.
pub record FeedNeeds (p : Present) (b i : ℕ) : Type 0 where
  pub there : b < length p.blocks
  pub kept : IsKeptAs p b
  pub no_tx : is_tx (block_at p.plan b).kind ≡ false
  pub port : i < inputs (block_now_at p.blocks b).kept.kind
  pub stream : ℕ
  pub into : stream_into p.plan (block_at p.plan b) i ≡ Some stream
  pub stream_there : stream < length p.streams
  pub packet : Packet
  pub first : slice_get (now_at p.streams stream).waiting 0 ≡ Some packet
  pub waits : 0 < length (now_at p.streams stream).waiting
  pub feed : IsFeed (block_now_at p.blocks b).kept.item packet
  pub first_out : (t : ℕ) → stream_out_of p.plan (block_at p.plan b) 0 ≡ Some t
      → FillNeeds p b (gives (block_now_at p.blocks b).kept i packet).first t
  pub second_out : (t : ℕ) → stream_out_of p.plan (block_at p.plan b) 1 ≡ Some t
      → FillNeeds p b (gives (block_now_at p.blocks b).kept i packet).second t
  pub apart : (t : ℕ) → stream_out_of p.plan (block_at p.plan b) 0 ≡ Some t
      → stream_out_of p.plan (block_at p.plan b) 1 ≡ Some t → ⊥
