-- The streams of a network as contracts see them, read from the fields.
use Rattle.std.specs.Prelude.{◌≡◌, List}
use Rattle.fabric_parts.specs.Streams.{StreamSeen}
use Rattle.fabric_lists.specs.StreamFlags.{flags_of}
use Rattle.fabric_lists.specs.declared.streams.Streams.TheInside.{Inside}

pub record StreamList : Type 0 where
  pub items : List StreamSeen

abbrev pub view_of : Inside → StreamList
view_of streams = record { items = streams.parts.items }

-- exactly the flags are set that the streams tell
abbrev pub IsSound : Inside → Type 0
IsSound streams = streams.flags ≡ flags_of streams.parts.items
