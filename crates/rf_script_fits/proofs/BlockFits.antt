-- The command block, as it is read, fits.
use Rattle.std.proofs.Common.{◌≡◌, ℕ, ◌≤◌, Option, None, Some, refl, arith}
use Rattle.std.specs.Prelude.{Result, Ok, Err, IfSome}
use Rattle.block_library.specs.declared.kind.BlockKind.{BlockKind}
use Rattle.block_library.specs.declared.kind.BlockKind.TheVariants as kind
use Rattle.graph_core.specs.declared.place.Side.TheVariants.{Into, Out}
use Rattle.graph_core.specs.Ports.{port_count}
use Rattle.rf_script_types.specs.declared.command.ScriptCommand.TheVariants as command
use Rattle.rf_script_types.specs.declared.table.TheConstants.{IN_EPID, OUT_EPID, KEEP, TIMES, SWITCH, PACKETS, TIME}
use Rattle.rf_script_types.specs.declared.words.KindWord.{KindWord}
use Rattle.rf_script_types.specs.declared.words.KindWord.TheVariants as word
use Rattle.rf_script_types.specs.Fits.{IsIn, FitsKindNumber, FitsCount, FitsEnds, FitsBlock, FitsCommand}
use Rattle.rf_script_parts.specs.declared.scope.Scope.{Scope}
use Rattle.rf_script_parts.specs.Others.{only}
use Rattle.rf_script_parts.specs.Scope.{ends}
use Rattle.rf_script_parts.specs.Value.{number}
use Rattle.rf_script_reader.specs.Block.{kind_word, kind_of, block_fields, packets, time, block}
use Rattle.serde_json.specs.Data.{Data}
use Rattle.rf_script_fits.proofs.Gives.{Gives, good, bind, pass, after}
use Rattle.rf_script_fits.proofs.ValueFits.{number-fits, optional-fits}
use Rattle.rf_script_fits.proofs.EndFits.{NamesFit, ends-fit}

few_ins : (k : BlockKind) → port_count Into k ≤ 2
few_ins kind.Tx = omega arith
few_ins kind.Rx = omega arith
few_ins kind.Fifo = omega arith
few_ins kind.Split = omega arith
few_ins (kind.Keep n) = omega arith
few_ins (kind.Repeat n) = omega arith
few_ins (kind.Replay n) = omega arith
few_ins (kind.Switch n) = omega arith
few_ins kind.Sink = omega arith

few_outs : (k : BlockKind) → port_count Out k ≤ 2
few_outs kind.Tx = omega arith
few_outs kind.Rx = omega arith
few_outs kind.Fifo = omega arith
few_outs kind.Split = omega arith
few_outs (kind.Keep n) = omega arith
few_outs (kind.Repeat n) = omega arith
few_outs (kind.Replay n) = omega arith
few_outs (kind.Switch n) = omega arith
few_outs kind.Sink = omega arith

kind_of-fits : (w : KindWord) (d : Data) → Gives (kind_of w d) FitsKindNumber
kind_of-fits word.Tx d = good FitsKindNumber kind.Tx tt
kind_of-fits word.Rx d = good FitsKindNumber kind.Rx tt
kind_of-fits word.Fifo d = good FitsKindNumber kind.Fifo tt
kind_of-fits word.Split d = good FitsKindNumber kind.Split tt
kind_of-fits word.Keep d = bind (number KEEP d) _ (IsIn KEEP) FitsKindNumber (number-fits KEEP d tt) (λ n h. good FitsKindNumber (kind.Keep n) h)
kind_of-fits word.Repeat d = bind (number TIMES d) _ (IsIn TIMES) FitsKindNumber (number-fits TIMES d tt) (λ n h. good FitsKindNumber (kind.Repeat n) h)
kind_of-fits word.Replay d = bind (number TIMES d) _ (IsIn TIMES) FitsKindNumber (number-fits TIMES d tt) (λ n h. good FitsKindNumber (kind.Replay n) h)
kind_of-fits word.Switch d = bind (number SWITCH d) _ (IsIn SWITCH) FitsKindNumber (number-fits SWITCH d tt) (λ n h. good FitsKindNumber (kind.Switch n) h)
kind_of-fits word.Sink d = good FitsKindNumber kind.Sink tt

abbrev FitsPackets : BlockKind → ℕ → Type 0
FitsPackets kind.Tx n = IsIn PACKETS n
FitsPackets kind.Rx n = n ≡ 0
FitsPackets kind.Fifo n = n ≡ 0
FitsPackets kind.Split n = n ≡ 0
FitsPackets (kind.Keep m) n = n ≡ 0
FitsPackets (kind.Repeat m) n = n ≡ 0
FitsPackets (kind.Replay m) n = n ≡ 0
FitsPackets (kind.Switch m) n = n ≡ 0
FitsPackets kind.Sink n = n ≡ 0

abbrev FitsTime : BlockKind → Option ℕ → Type 0
FitsTime kind.Tx t = IfSome t (IsIn TIME)
FitsTime kind.Rx t = t ≡ None
FitsTime kind.Fifo t = t ≡ None
FitsTime kind.Split t = t ≡ None
FitsTime (kind.Keep m) t = t ≡ None
FitsTime (kind.Repeat m) t = t ≡ None
FitsTime (kind.Replay m) t = t ≡ None
FitsTime (kind.Switch m) t = t ≡ None
FitsTime kind.Sink t = t ≡ None

packets-fit : (k : BlockKind) (d : Data) → Gives (packets k d) (FitsPackets k)
packets-fit kind.Tx d = number-fits PACKETS d tt
packets-fit kind.Rx d = good (FitsPackets kind.Rx) 0 refl
packets-fit kind.Fifo d = good (FitsPackets kind.Fifo) 0 refl
packets-fit kind.Split d = good (FitsPackets kind.Split) 0 refl
packets-fit (kind.Keep m) d = good (FitsPackets (kind.Keep m)) 0 refl
packets-fit (kind.Repeat m) d = good (FitsPackets (kind.Repeat m)) 0 refl
packets-fit (kind.Replay m) d = good (FitsPackets (kind.Replay m)) 0 refl
packets-fit (kind.Switch m) d = good (FitsPackets (kind.Switch m)) 0 refl
packets-fit kind.Sink d = good (FitsPackets kind.Sink) 0 refl

time-fits : (k : BlockKind) (d : Data) → Gives (time k d) (FitsTime k)
time-fits kind.Tx d = optional-fits TIME d
time-fits kind.Rx d = good (FitsTime kind.Rx) None refl
time-fits kind.Fifo d = good (FitsTime kind.Fifo) None refl
time-fits kind.Split d = good (FitsTime kind.Split) None refl
time-fits (kind.Keep m) d = good (FitsTime (kind.Keep m)) None refl
time-fits (kind.Repeat m) d = good (FitsTime (kind.Repeat m)) None refl
time-fits (kind.Replay m) d = good (FitsTime (kind.Replay m)) None refl
time-fits (kind.Switch m) d = good (FitsTime (kind.Switch m)) None refl
time-fits kind.Sink d = good (FitsTime kind.Sink) None refl

count-fits : (k : BlockKind) (n : ℕ) (t : Option ℕ) → FitsPackets k n → FitsTime k t → FitsCount k n t
count-fits kind.Tx n t h i = (h, i)
count-fits kind.Rx n t h i = (h, i)
count-fits kind.Fifo n t h i = (h, i)
count-fits kind.Split n t h i = (h, i)
count-fits (kind.Keep m) n t h i = (h, i)
count-fits (kind.Repeat m) n t h i = (h, i)
count-fits (kind.Replay m) n t h i = (h, i)
count-fits (kind.Switch m) n t h i = (h, i)
count-fits kind.Sink n t h i = (h, i)

pub block-fits : (version : ℕ) (scope : Scope) (d : Data) → NamesFit scope.names → Gives (block scope d) (FitsCommand version)
unfolding block
block-fits version scope d names = let P = FitsCommand version in
    pass (kind_word d) _ P λ w.
    bind (kind_of w d) _ FitsKindNumber P (kind_of-fits w d) λ k h.
    bind (ends scope IN_EPID (port_count Into k) d) _ (FitsEnds IN_EPID (port_count Into k)) P (ends-fit scope IN_EPID (port_count Into k) d names (refl, refl) (few_ins k)) λ ins i.
    bind (ends scope OUT_EPID (port_count Out k) d) _ (FitsEnds OUT_EPID (port_count Out k)) P (ends-fit scope OUT_EPID (port_count Out k) d names (refl, refl) (few_outs k)) λ outs o.
    bind (packets k d) _ (FitsPackets k) P (packets-fit k d) λ count c.
    bind (time k d) _ (FitsTime k) P (time-fits k d) λ first t.
    after (only (block_fields k) d) _ P (good P (command.Block k ins outs count first)
    (record { number_fits = h; ins_fit = i; outs_fit = o; count_fits = count-fits k count first c t }))
