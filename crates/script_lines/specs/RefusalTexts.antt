-- The texts of refusals.
use Rattle.std.specs.Prelude.{ℕ, codes, decimal, List, max, min}
use Rattle.graph_core.specs.declared.place.PropAt.{PropAt}
use Rattle.graph_core.specs.declared.place.Prop.{Prop}
use Rattle.graph_core.specs.declared.place.Rule.{Rule}
use Rattle.graph_core.specs.declared.place.Rule.TheVariants as rules_by
use Rattle.rf_script_types.specs.Words.{property_name, side_name}
use Rattle.script_books.specs.declared.refusal.Refusal.{Refusal}
use Rattle.script_books.specs.declared.refusal.Refusal.TheVariants as refusals
use Rattle.script_lines.specs.Page.{◌&◌}

-- edge K or block B
abbrev pub rule_text : Rule → List ℕ
rule_text (rules_by.Edge k) = codes "edge " & decimal k
rule_text (rules_by.Block b) = codes "block " & decimal b

-- Clash BY PROP A B, A being the lesser value
abbrev pub clash_text : Rule → Prop → ℕ → ℕ → List ℕ
clash_text by prop held derived = codes "Clash " & rule_text by & codes " " & property_name prop
    & codes " " & decimal (min held derived) & codes " " & decimal (max held derived)

-- Unsettled block B SIDE P PROP
abbrev pub unsettled_text : PropAt → List ℕ
unsettled_text at = ((codes "Unsettled block " & decimal at.block) & codes " " & side_name at.side)
    & (codes " " & decimal at.port) & codes " " & property_name at.prop

abbrev pub refusal_text : Refusal → List ℕ
refusal_text (refusals.TooManyNodes count) = codes "TooManyNodes " & decimal count
refusal_text (refusals.DuplicateEpid epid) = codes "DuplicateEpid " & decimal epid.0
refusal_text (refusals.NetBadPort link) = codes "BadPort " & decimal link
refusal_text (refusals.PortTwice link) = codes "PortTwice " & decimal link
refusal_text (refusals.NetCycle link) = codes "Cycle " & decimal link
refusal_text (refusals.Apart node) = codes "Apart " & decimal node
refusal_text (refusals.BadLinkRoom room) = codes "BadLinkRoom " & decimal room
refusal_text refusals.NoNet = codes "NoNet"
refusal_text (refusals.NoHost epid) = codes "NoHost " & decimal epid.0
refusal_text (refusals.NoRoute epid) = codes "NoRoute " & decimal epid.0
refusal_text refusals.NoAck = codes "NoAck"
refusal_text (refusals.Unknown epid) = codes "Unknown " & decimal epid.0
refusal_text (refusals.Lost instance) = codes "Lost " & decimal instance
refusal_text (refusals.NotLoaded port) = codes "NotLoaded " & decimal port
refusal_text refusals.TooManyBlocks = codes "TooManyBlocks"
refusal_text (refusals.NoEndpoint epid) = codes "NoEndpoint " & decimal epid.0
refusal_text (refusals.EndpointTaken epid) = codes "EndpointTaken " & decimal epid.0
refusal_text refusals.TooManyStreams = codes "TooManyStreams"
refusal_text refusals.BadPort = codes "BadPort"
refusal_text refusals.PortTaken = codes "PortTaken"
refusal_text refusals.Cycle = codes "Cycle"
refusal_text (refusals.Loop epid) = codes "Loop " & decimal epid.0
refusal_text refusals.NoProperty = codes "NoProperty"
refusal_text (refusals.Clash by prop held derived) = clash_text by prop held derived
refusal_text (refusals.NotWhole block value) = codes "NotWhole block " & decimal block & codes " " & decimal value
refusal_text (refusals.Unsettled at) = unsettled_text at
refusal_text refusals.NotCommitted = codes "NotCommitted"
refusal_text (refusals.OpenPort block) = codes "OpenPort " & decimal block
refusal_text (refusals.Unrouted stream) = codes "Unrouted " & decimal stream
refusal_text (refusals.TooBig stream) = codes "TooBig " & decimal stream
refusal_text (refusals.TooMuch stream) = codes "TooMuch " & decimal stream
refusal_text (refusals.BadCut link) = codes "BadCut " & decimal link
refusal_text (refusals.TwinKind block) = codes "TwinKind " & decimal block
refusal_text (refusals.NoStream stream) = codes "NoStream " & decimal stream
refusal_text refusals.NotBuilt = codes "NotBuilt"
