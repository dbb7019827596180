-- The payload of a management packet: word 0, and then the operations of each hop.
use Rattle.std.specs.Prelude.{◌≡◌, ℕ, ◌+◌, ◌-◌, ◌*◌, ◌/◌, ◌%◌, ◌<◌, ◌≤◌, ◌^◌, ◌==◌, ◌&&◌, ◌||◌, nat_le, Bool, if◌then◌else◌, List, [], ◌∷◌, length, drop, All, Result, Ok, Err}
use Rattle.std.specs.List.{flat_map, count_by}
use Rattle.chdr_words.specs.Field.{field, word_at, words_at, words_bytes}
use Rattle.chdr_words.specs.declared.fault.MsgFault.{MsgFault}
use Rattle.chdr_words.specs.declared.fault.MsgFault.TheVariants.{BadManagement}
use Rattle.chdr_words.specs.declared.management.Management.{Management}
use Rattle.chdr_words.specs.declared.management.MgmtOp.{MgmtOp}

-- an operation fits its word
pub record FitsOp (op : MgmtOp) : Type 0 where
  pub payload : op.payload < 2 ^ 48
  pub code : op.code < 2 ^ 8

-- a hop has 1 to 256 operations
pub record FitsHop (hop : List MgmtOp) : Type 0 where
  pub some : 0 < length hop
  pub many : length hop ≤ 256
  pub each : All FitsOp hop

-- each field fits its bits, with at most 1,023 hops
pub record FitsManagement (m : Management) : Type 0 where
  pub width : m.width < 2 ^ 3
  pub many : length m.hops ≤ 1023
  pub each : All FitsHop m.hops

-- an operation's word: payload 63..16, code 15..8, operations pending 7..0
abbrev pub op_word : MgmtOp → ℕ → ℕ
op_word op pending = op.payload * 2 ^ 16 + op.code * 2 ^ 8 + pending

-- the words of a hop, whose pending counts run down to 0
abbrev pub hop_words : List MgmtOp → List ℕ
hop_words [] = []
hop_words (op ∷ ops) = op_word op (length ops) ∷ hop_words ops

-- the words of hops, end to end
abbrev pub hops_words : List (List MgmtOp) → List ℕ
hops_words hops = flat_map hop_words hops

-- the bytes spell the management payload: word 0 with the bits 44..26 free, and exactly the words of its hops
pub record SpellsManagement (m : Management) (bytes : List ℕ) : Type 0 where
  pub head : 8 ≤ length bytes
  pub version : field (word_at bytes 0) 63 48 ≡ m.version
  pub width : field (word_at bytes 0) 47 45 ≡ m.width
  pub count : field (word_at bytes 0) 25 16 ≡ length m.hops
  pub src : field (word_at bytes 0) 15 0 ≡ m.src.0
  pub hops : drop 8 bytes ≡ words_bytes (hops_words m.hops)
  pub each : All FitsHop m.hops

-- the bytes spell no management payload
abbrev pub SpellsNoManagement : List ℕ → Type 0
SpellsNoManagement bytes = (m : Management) → ¬ SpellsManagement m bytes

-- its reserved bits are zero
abbrev pub management_plain : List ℕ → Bool
management_plain bytes = field (word_at bytes 0) 44 26 == 0

-- the operations that a word says are pending
abbrev pub pending_of : ℕ → ℕ
pending_of word = field word 7 0

-- the operation that a word spells
abbrev pub op_of : ℕ → MgmtOp
op_of word = record { payload = field word 63 16; code = field word 15 8 }

-- behind a word with n pending the counts run down, and the last is 0
abbrev pub runs_down : ℕ → List ℕ → Bool
runs_down pending [] = pending == 0
runs_down pending (word ∷ words) = (pending == 0 || pending == pending_of word + 1) && runs_down (pending_of word) words

-- the operation in front of the first hop
abbrev pub in_front : MgmtOp → List (List MgmtOp) → List (List MgmtOp)
in_front op [] = (op ∷ []) ∷ []
in_front op (hop ∷ hops) = (op ∷ hop) ∷ hops

-- reading: a hop ends at each word with nothing pending
abbrev pub hops_of : List ℕ → List (List MgmtOp)
hops_of [] = []
hops_of (word ∷ words) = if pending_of word == 0 then (op_of word ∷ []) ∷ hops_of words else in_front (op_of word) (hops_of words)

-- the words behind word 0
abbrev pub words_of : List ℕ → List ℕ
words_of bytes = words_at bytes 8 (length bytes / 8 - 1)

-- this number of words has nothing pending
abbrev pub hop_count : List ℕ → ℕ
hop_count words = count_by (λ word. pending_of word == 0) words

-- the words run down to the end of the last of this number of hops
abbrev pub are_hops : ℕ → List ℕ → Bool
are_hops count words = runs_down 0 words && hop_count words == count

-- whole words: word 0, and behind it as many hops as it says
abbrev pub management_formed : List ℕ → Bool
management_formed bytes = nat_le 8 (length bytes) && length bytes % 8 == 0 && are_hops (field (word_at bytes 0) 25 16) (words_of bytes)

-- reading: the fields of word 0, and the hops
abbrev pub management_of : List ℕ → Management
management_of bytes = record {
  version = field (word_at bytes 0) 63 48;
  width = field (word_at bytes 0) 47 45;
  src = record { 0 = field (word_at bytes 0) 15 0 };
  hops = hops_of (words_of bytes);
}

-- other payloads are refused
abbrev pub management_read : List ℕ → Result Management MsgFault
management_read bytes = if management_formed bytes then Ok (management_of bytes) else Err BadManagement

-- writing: word 0
abbrev pub management_head : Management → ℕ
management_head m = m.version * 2 ^ 48 + m.width * 2 ^ 45 + length m.hops * 2 ^ 16 + m.src.0

-- the canonical spelling's words
abbrev pub management_words : Management → List ℕ
management_words m = management_head m ∷ hops_words m.hops
