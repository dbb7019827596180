-- The lines of a listing.
use Rattle.std.specs.Prelude.{ℕ, codes, decimal, List, ◌++◌, Option, None, Some}
use Rattle.capture_tool.specs.declared.seen.Counts.{Counts}
use Rattle.capture_tool.specs.declared.seen.Fault.{Fault}
use Rattle.capture_tool.specs.declared.seen.Why.{Why}
use Rattle.capture_tool.specs.declared.seen.Why.TheVariants.{ReservedType, BadLength, Truncated, BadStatusLength, BadCommandLength, BadControlLength, BadManagement, TooLong, BadMagic, BadVersion, BadLink, BadRecord}
use Rattle.capture_tool.specs.Seen.{seen_of}

abbrev pub why_text : Why → List ℕ
why_text ReservedType = codes "ReservedType"
why_text BadLength = codes "BadLength"
why_text Truncated = codes "Truncated"
why_text BadStatusLength = codes "BadStatusLength"
why_text BadCommandLength = codes "BadCommandLength"
why_text BadControlLength = codes "BadControlLength"
why_text BadManagement = codes "BadManagement"
why_text TooLong = codes "TooLong"
why_text BadMagic = codes "BadMagic"
why_text BadVersion = codes "BadVersion"
why_text BadLink = codes "BadLink"
why_text BadRecord = codes "BadRecord"

-- the last line at a fault
abbrev pub fault_line : Fault → List ℕ
fault_line fault = codes "fault " ++ why_text fault.why ++ (codes " at " ++ decimal fault.at ++ codes "\n")

-- the line of check
abbrev pub counts_line : Counts → List ℕ
counts_line counts = codes "packets " ++ decimal counts.packets ++ (codes " canonical " ++ decimal counts.canonical ++ codes "\n")

-- what check writes of what it saw
abbrev pub check_text : Counts → Option Fault → List ℕ
check_text counts None = counts_line counts
check_text counts (Some fault) = fault_line fault

-- what check writes of a capture
abbrev pub checked : List ℕ → List ℕ
checked bytes = check_text (seen_of bytes).counts (seen_of bytes).fault
