-- Which blocks and streams a run has: each was made by the last command before it whose book tells its number.
use Rattle.std.specs.Prelude.{ℕ, zero, suc, ◌==◌, Bool, false, if◌then◌else◌, List, Option, None, Some, slice_get}
use Rattle.chdr_words.specs.declared.epid.Epid.{Epid}
use Rattle.block_library.specs.declared.kind.BlockKind.{BlockKind}
use Rattle.graph_core.specs.declared.place.PortAt.{PortAt}
use Rattle.graph_core.specs.declared.place.Side.{Side}
use Rattle.rf_script_types.specs.declared.command.ScriptCommand.{ScriptCommand}
use Rattle.script_books.specs.declared.book.Book.{Book}
use Rattle.script_books.specs.declared.book.Book.TheVariants as book
use Rattle.script_books.specs.Commands.{epids_of, kind_of, port_of}

-- the book tells that this block was made, that this stream was
abbrev pub makes_block : ℕ → Book → Bool
makes_block n (book.Block number) = number == n
makes_block n _ = false

abbrev pub makes_stream : ℕ → Book → Bool
makes_stream n (book.Connect number) = number == n
makes_stream n _ = false

abbrev pub is_some_of : {X : Type 0} → (X → Bool) → Option X → Bool
is_some_of p None = false
is_some_of p (Some x) = p x

-- the last of the first k places at which the test holds
unfoldable pub last_place : {X : Type 0} → (X → Bool) → List X → ℕ → Option ℕ
last_place p xs zero = None
last_place p xs (suc k) = if is_some_of p (slice_get xs k) then Some k else last_place p xs k

abbrev pub then_some : {X Y : Type 0} → Option X → (X → Option Y) → Option Y
then_some None f = None
then_some (Some x) f = f x

-- the kind of a block, as the first k books tell
abbrev pub kind_at : List ScriptCommand → List Book → ℕ → ℕ → Option BlockKind
kind_at cs bs k block = then_some (last_place (makes_block block) bs k) (λ i. then_some (slice_get cs i) kind_of)

-- the EPID of a port
abbrev pub epid_at : List ScriptCommand → List Book → ℕ → Side → PortAt → Option Epid
epid_at cs bs k side at = then_some (last_place (makes_block at.block) bs k)
    (λ i. then_some (slice_get cs i) (λ c. slice_get (epids_of side c) at.port))

-- the EPID of a stream's consumer (Into) or of its producer (Out)
abbrev pub end_at : List ScriptCommand → List Book → ℕ → Side → ℕ → Option Epid
end_at cs bs k side stream = then_some (last_place (makes_stream stream) bs k)
    (λ i. then_some (slice_get cs i) (λ c. then_some (port_of side c) (epid_at cs bs i side)))
