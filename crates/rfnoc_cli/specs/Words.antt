-- The words of the command line.
use Rattle.std.specs.Prelude.{ℕ, List, [], ◌∷◌, ◌&&◌, ◌≤◌, Bool, nat_le, nat_lt, slice_index, if◌then◌else◌, Option, None, Some, codes, map, String, string_bytes}
use Rattle.std.specs.declared.alloc.Global.{Global}
use Rattle.std.specs.List.{list_all}
use Rattle.std.specs.Str.{bytes_eq}
use Rattle.std.specs.Str.Parse.{digits_value}
use Rattle.rfnoc_cli.specs.declared.words.Form.{Form}
use Rattle.rfnoc_cli.specs.declared.words.Form.TheVariants.{RunOne, Show, Check, Pcap, Gen, GenRun}

-- `show`, `check`
abbrev pub one_word : List ℕ → Option Form
one_word word = if bytes_eq word (codes "show") then Some Show
    else if bytes_eq word (codes "check") then Some Check else None

-- a decimal digit
abbrev pub is_digit : ℕ → Bool
is_digit byte = nat_le 48 byte && nat_le byte 57

-- the number that digits write, if it has sixteen bits
abbrev pub number_of : List ℕ → Option ℕ
number_of text = if nat_lt (digits_value 10 text) 65536 then Some (digits_value 10 text) else None

-- decimal digits of which the first isn't 0, up to 65535
abbrev pub port_of : List ℕ → Option ℕ
port_of text = if nat_le 49 (slice_index text 0) && list_all is_digit text then number_of text else None

abbrev pub port_form : Option ℕ → Option Form
port_form None = None
port_form (Some port) = Some (Pcap port)

-- a number of packets: digits as of a port, 1 to 16384
abbrev pub packets_of : Option ℕ → Option ℕ
packets_of None = None
packets_of (Some n) = if nat_le 1 n && nat_le n 16384 then Some n else None

abbrev pub gen_form : (ℕ → Form) → Option ℕ → Option Form
gen_form form None = None
gen_form form (Some n) = Some (form n)

-- `run --one`, `pcap PORT`, `gen N`
abbrev pub two_words : List ℕ → List ℕ → Option Form
two_words first second = if bytes_eq first (codes "run") && bytes_eq second (codes "--one") then Some RunOne
    else if bytes_eq first (codes "pcap") then port_form (port_of second)
    else if bytes_eq first (codes "gen") then gen_form Gen (packets_of (port_of second)) else None

-- `gen N --run`
abbrev pub three_words : List ℕ → List ℕ → List ℕ → Option Form
three_words first second third = if bytes_eq first (codes "gen") && bytes_eq third (codes "--run")
    then gen_form GenRun (packets_of (port_of second)) else None

-- the form that the words are
unfoldable pub form_of_texts : List (List ℕ) → Option Form
form_of_texts [] = None
form_of_texts (word ∷ []) = one_word word
form_of_texts (first ∷ second ∷ []) = two_words first second
form_of_texts (first ∷ second ∷ third ∷ []) = three_words first second third
form_of_texts (_ ∷ _ ∷ _ ∷ _ ∷ _) = None

abbrev pub form_of_words : List (String Global) → Option Form
form_of_words words = form_of_texts (map (λ word. string_bytes word) words)

-- a form that generates has 1 to 16384 packets
abbrev pub FitsForm : Form → Type 0
FitsForm RunOne = Unit {0}
FitsForm Show = Unit {0}
FitsForm Check = Unit {0}
FitsForm (Pcap port) = Unit {0}
FitsForm (Gen n) = (1 ≤ n) × (n ≤ 16384)
FitsForm (GenRun n) = (1 ≤ n) × (n ≤ 16384)
