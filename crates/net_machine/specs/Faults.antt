-- Which packets a list of faults names.
use Rattle.std.specs.Prelude.{ℕ, ◌==◌, ◌&&◌, ◌++◌, not, Bool, true, false, List, filter}
use Rattle.std.specs.List.{list_any}
use Rattle.net_faults.specs.declared.fault.Fault.{Fault}
use Rattle.net_faults.specs.declared.fault.Fault.TheVariants.{Samples, Status, Command, Request, Answer}

-- a fault names packet k of the samples of stream s
abbrev pub names_samples : ℕ → ℕ → Fault → Bool
names_samples s k (Samples t j) = (t == s) && (j == k)
names_samples s k (Status t j) = false
names_samples s k (Command t j) = false
names_samples s k (Request j) = false
names_samples s k (Answer j) = false

-- a fault names status k of stream s
abbrev pub names_status : ℕ → ℕ → Fault → Bool
names_status s k (Samples t j) = false
names_status s k (Status t j) = (t == s) && (j == k)
names_status s k (Command t j) = false
names_status s k (Request j) = false
names_status s k (Answer j) = false

-- a fault names command k of stream s
abbrev pub names_command : ℕ → ℕ → Fault → Bool
names_command s k (Samples t j) = false
names_command s k (Status t j) = false
names_command s k (Command t j) = (t == s) && (j == k)
names_command s k (Request j) = false
names_command s k (Answer j) = false

-- a fault names request k
abbrev pub names_request : ℕ → Fault → Bool
names_request k (Samples t j) = false
names_request k (Status t j) = false
names_request k (Command t j) = false
names_request k (Request j) = j == k
names_request k (Answer j) = false

-- a fault names answer k
abbrev pub names_answer : ℕ → Fault → Bool
names_answer k (Samples t j) = false
names_answer k (Status t j) = false
names_answer k (Command t j) = false
names_answer k (Request j) = false
names_answer k (Answer j) = j == k

-- both faults name one packet
abbrev pub names_same : Fault → Fault → Bool
names_same (Samples s k) fault = names_samples s k fault
names_same (Status s k) fault = names_status s k fault
names_same (Command s k) fault = names_command s k fault
names_same (Request k) fault = names_request k fault
names_same (Answer k) fault = names_answer k fault

-- the packet of this name is to be lost
abbrev pub is_named : List Fault → Fault → Bool
is_named faults name = list_any (names_same name) faults

-- a fault names a request or an answer
abbrev pub is_transaction : Fault → Bool
is_transaction (Samples s k) = false
is_transaction (Status s k) = false
is_transaction (Command s k) = false
is_transaction (Request k) = true
is_transaction (Answer k) = true

-- the requests and answers of the new list take the place of those named before
abbrev pub renamed : List Fault → List Fault → List Fault
renamed old new = filter (λ f. not (is_transaction f)) old ++ filter is_transaction new
