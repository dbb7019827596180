-- What a hop leaves of a packet: it fits, and its last hop grows by the answers that were asked.
use Rattle.std.proofs.Common.{◌≡◌, ◌==◌, ℕ, suc, ◌+◌, ◌-◌, ◌^◌, ◌<◌, ◌≤◌, Bool, true, false, cond, List, [], ◌∷◌, ◌++◌, length, get_or, set, drop, fold, Option, Some, None, inl, inr, ◌∙◌, refl, ap, arith, length-append, length-drop, length-set, get_or-set_same}
use Rattle.std.specs.Prelude.{All, IfSome, nat_lt, unwrap_or}
use Rattle.std.proofs.lemmas.List.Elements.{All-nil, All-cons, All-same, All-append, All-drop, All-set}
use Rattle.std.proofs.lemmas.List.Sums.{get_or-le-sum_by, sum_by-cons, sum_by-set}
use Rattle.net_nodes.proofs.EntryLemmas.{entries_found, effect_entries}
use Rattle.chdr_words.specs.Field.{field}
use Rattle.chdr_words.specs.Management.{FitsOp, FitsHop, FitsManagement}
use Rattle.chdr_words.specs.NodeInfo.{FitsInfo, FitsNodeKind, node_kind_number, info_payload}
use Rattle.chdr_words.specs.Operation.{operation_of}
use Rattle.chdr_words.specs.declared.epid.Epid.{Epid}
use Rattle.chdr_words.specs.declared.management.Management.{Management}
use Rattle.chdr_words.specs.declared.management.MgmtOp.{MgmtOp}
use Rattle.chdr_words.specs.declared.node_info.NodeInfo.{NodeInfo}
use Rattle.chdr_words.specs.declared.node_info.NodeKind.{NodeKind}
use Rattle.chdr_words.specs.declared.node_info.NodeKind.TheVariants as kind
use Rattle.chdr_words.specs.declared.operation.Operation.{Operation}
use Rattle.chdr_words.specs.declared.operation.Operation.TheVariants.{Nop, Advertise, SelectDest, Return, InfoReq, InfoResp, CfgWrite, CfgRead, CfgReadResp, Other}
use Rattle.net_nodes.specs.Budget.{asked_by, budget, performed_packet, FitsSite}
use Rattle.net_nodes.specs.Operations.{asked, asked_in}
use Rattle.net_nodes.specs.Perform.{Work, info_answer, read_answer, effect, operated, first_hop, last_hop, performed, work_of}
use Rattle.net_nodes.specs.Table.{exit_of, with_exit, HasEntries}
use Rattle.net_nodes.specs.declared.site.Done.TheVariants as done
use Rattle.net_nodes.specs.declared.site.Site.{Site}
use Rattle.net_nodes.specs.declared.table.Place.{Place}

-- the answers to an operation
abbrev pub answers_to : Site → List Place → Operation → List MgmtOp
answers_to site table Nop = []
answers_to site table Advertise = []
answers_to site table (SelectDest port) = []
answers_to site table Return = []
answers_to site table InfoReq = info_answer site ∷ []
answers_to site table (InfoResp info) = []
answers_to site table (CfgWrite cfg) = []
answers_to site table (CfgRead addr) = read_answer table addr ∷ []
answers_to site table (CfgReadResp cfg) = []
answers_to site table (Other code) = []

pub append_nothing : {A : Type 0} (xs : List A) → xs ≡ xs ++ []
append_nothing [] = refl
append_nothing (x ∷ xs) = ap (λ ys. x ∷ ys) (append_nothing xs)

module _ (site : Site) (src : Epid) where
  pub effect-last : (w : Work) (op : Operation) → (effect site src w op).last ≡ w.last ++ answers_to site w.table op
  effect-last w Nop = append_nothing w.last
  effect-last w Advertise = append_nothing w.last
  effect-last w (SelectDest port) = append_nothing w.last
  effect-last w Return = append_nothing w.last
  effect-last w InfoReq = refl
  effect-last w (InfoResp info) = append_nothing w.last
  effect-last w (CfgWrite cfg) =
      elim (nat_lt cfg.value site.ports) as (λ b. (cond b (record w { table = with_exit w.table (record { 0 = cfg.addr }) cfg.value }) w).last ≡ w.last ++ []) [
        | true ↦ append_nothing w.last
        | false ↦ append_nothing w.last
      ]
  effect-last w (CfgRead addr) = refl
  effect-last w (CfgReadResp cfg) = append_nothing w.last
  effect-last w (Other code) = append_nothing w.last

  -- there is an answer for each that is asked, and an answer asks none
  pub answers-count : (table : List Place) (op : Operation) → length (answers_to site table op) ≡ asked op
  answers-count table Nop = refl
  answers-count table Advertise = refl
  answers-count table (SelectDest port) = refl
  answers-count table Return = refl
  answers-count table InfoReq = refl
  answers-count table (InfoResp info) = refl
  answers-count table (CfgWrite cfg) = refl
  answers-count table (CfgRead addr) = refl
  answers-count table (CfgReadResp cfg) = refl
  answers-count table (Other code) = refl

  pub answers-ask : (table : List Place) (op : Operation) → asked_in (answers_to site table op) ≡ 0
  answers-ask table Nop = refl
  answers-ask table Advertise = refl
  answers-ask table (SelectDest port) = refl
  answers-ask table Return = refl
  answers-ask table InfoReq = refl
  answers-ask table (InfoResp info) = refl
  answers-ask table (CfgWrite cfg) = refl
  answers-ask table (CfgRead addr) = refl
  answers-ask table (CfgReadResp cfg) = refl
  answers-ask table (Other code) = refl

  pub asked_in-append : (xs ys : List MgmtOp) → asked_in (xs ++ ys) ≡ asked_in xs + asked_in ys
  asked_in-append [] ys = omega arith
  asked_in-append (x ∷ xs) ys = let h = asked_in-append xs ys in omega (arith, h)

  pub fold-length : (ops : List MgmtOp) (w : Work) → length (fold (operated site src) w ops).last ≡ length w.last + asked_in ops
  fold-length [] w = omega arith
  fold-length (op ∷ ops) w =
      let rest = fold-length ops (operated site src w op) in
      let one = ap length (effect-last w (operation_of op)) ∙ length-append w.last (answers_to site w.table (operation_of op)) in
      omega (arith, rest, one, answers-count w.table (operation_of op))

  pub fold-asked : (ops : List MgmtOp) (w : Work) → asked_in (fold (operated site src) w ops).last ≡ asked_in w.last
  fold-asked [] w = refl
  fold-asked (op ∷ ops) w =
      let rest = fold-asked ops (operated site src w op) in
      let one = ap asked_in (effect-last w (operation_of op)) ∙ asked_in-append w.last (answers_to site w.table (operation_of op)) in
      omega (arith, rest, one, answers-ask w.table (operation_of op))

-- ---- what is answered fits

pub kind_below : (k : NodeKind) → FitsNodeKind k → node_kind_number k < 16
kind_below kind.Crossbar f = omega arith
kind_below kind.Endpoint f = omega arith
kind_below kind.Transport f = omega arith
kind_below (kind.Other n) f = elim f [ inl e ↦ omega (arith, e) | inr h ↦ omega (arith, h.1) ]

pub info_below : (info : NodeInfo) → FitsInfo info → info.device < 2 ^ 16 → info_payload info < 2 ^ 48
info_below info f d = omega (arith, f.extended, f.instance, kind_below info.kind f.kind, d)

pub value_below : (exit : Option ℕ) → IfSome exit (λ port. port < 2 ^ 8) → unwrap_or exit 0xffffffff < 2 ^ 32
value_below None h = omega arith
value_below (Some port) h = omega (arith, h)

-- an address of 16 bits
abbrev pub HasAddress : Operation → Type 0
HasAddress Nop = Unit {0}
HasAddress Advertise = Unit {0}
HasAddress (SelectDest port) = Unit {0}
HasAddress Return = Unit {0}
HasAddress InfoReq = Unit {0}
HasAddress (InfoResp info) = Unit {0}
HasAddress (CfgWrite cfg) = Unit {0}
HasAddress (CfgRead addr) = addr < 2 ^ 16
HasAddress (CfgReadResp cfg) = Unit {0}
HasAddress (Other code) = Unit {0}

pub chosen : {A : Type 0} (P : A → Type 0) (b : Bool) (x y : A) → P x → P y → P (cond b x y)
chosen P true x y p q = p
chosen P false x y p q = q

pub address_below : (word : ℕ) → field word 15 0 < 2 ^ 16
address_below word = omega arith

pub address_of : (op : MgmtOp) → HasAddress (operation_of op)
address_of op =
    chosen HasAddress (op.code == 0) _ _ tt (chosen HasAddress (op.code == 1) _ _ tt (chosen HasAddress (op.code == 2) _ _ tt (chosen HasAddress (op.code == 3) _ _ tt (chosen HasAddress (op.code == 4) _ _ tt (chosen HasAddress (op.code == 5) _ _ tt (chosen HasAddress (op.code == 6) _ _ tt (chosen HasAddress (op.code == 7) _ _ (address_below op.payload) (chosen HasAddress (op.code == 8) _ _ tt tt))))))))

module _ (site : Site) (fits : FitsSite site) where
  pub answers-fit : (table : List Place) (op : Operation) → HasEntries (2 ^ 8) table → HasAddress op → All FitsOp (answers_to site table op)
  answers-fit table Nop e a = All-nil FitsOp
  answers-fit table Advertise e a = All-nil FitsOp
  answers-fit table (SelectDest port) e a = All-nil FitsOp
  answers-fit table Return e a = All-nil FitsOp
  answers-fit table InfoReq e a =
      All-cons FitsOp (info_answer site) [] (record { code = omega arith; payload = info_below site.info fits.info fits.device }) (All-nil FitsOp)
  answers-fit table (InfoResp info) e a = All-nil FitsOp
  answers-fit table (CfgWrite cfg) e a = All-nil FitsOp
  answers-fit table (CfgRead addr) e a =
      let value = value_below (exit_of table (record { 0 = addr })) (entries_found (2 ^ 8) table (record { 0 = addr }) e) in
      All-cons FitsOp (read_answer table addr) [] (record { code = omega arith; payload = omega (arith, value, a) }) (All-nil FitsOp)
  answers-fit table (CfgReadResp cfg) e a = All-nil FitsOp
  answers-fit table (Other code) e a = All-nil FitsOp

  pub fold-fits : (src : Epid) (ops : List MgmtOp) (w : Work) → HasEntries (2 ^ 8) w.table → All FitsOp w.last → All FitsOp (fold (operated site src) w ops).last
  fold-fits src [] w e f = f
  fold-fits src (op ∷ ops) w e f =
      let one = All-same FitsOp (operated site src w op).last (w.last ++ answers_to site w.table (operation_of op)) (effect-last site src w (operation_of op)) (All-append FitsOp w.last (answers_to site w.table (operation_of op)) f (answers-fit w.table (operation_of op) e (address_of op))) in
      fold-fits src ops (operated site src w op) (effect_entries site src (2 ^ 8) fits.arrival (omega (arith, fits.ports)) w (operation_of op) e) one

-- ---- the packet

-- the last of at least two lists, behind the first
pub last_behind : (hops : List (List MgmtOp)) (last : List MgmtOp) → 2 ≤ length hops → length (set (drop 1 hops) (length hops - 2) last) + 1 ≡ length hops
last_behind [] last h = absurd (omega (arith, h))
last_behind (hop ∷ hops) last h = omega (arith, length-set hops (length (hop ∷ hops) - 2) last)

-- the answers that are asked when the first list is gone and the last has grown
pub asked_behind : (hops : List (List MgmtOp)) (last : List MgmtOp) → 2 ≤ length hops → asked_in last ≡ asked_in (get_or hops (length hops - 1) []) → asked_by (set (drop 1 hops) (length hops - 2) last) + asked_in (get_or hops 0 []) ≡ asked_by hops
asked_behind [] last h e = absurd (omega (arith, h))
asked_behind (hop ∷ []) last h e = absurd (omega (arith, h))
asked_behind (hop ∷ next ∷ hops) last h e =
    let at : length (hop ∷ next ∷ hops) - 2 ≡ length hops = omega arith in
    let end : length (hop ∷ next ∷ hops) - 1 ≡ suc (length hops) = omega arith in
    let was : asked_in last ≡ asked_in (get_or (next ∷ hops) (length hops) []) = e ∙ ap (λ i. asked_in (get_or (hop ∷ next ∷ hops) i [])) end in
    let grown = sum_by-set asked_in (next ∷ hops) (length hops) last [] (omega arith) in
    let all = sum_by-cons asked_in hop (next ∷ hops) in
    let same : asked_by (set (next ∷ hops) (length (hop ∷ next ∷ hops) - 2) last) ≡ asked_by (set (next ∷ hops) (length hops) last) = ap (λ i. asked_by (set (next ∷ hops) i last)) at in
    omega (arith, same, was, grown, all)

pub last_is : (hops : List (List MgmtOp)) (last : List MgmtOp) → 2 ≤ length hops → get_or (set (drop 1 hops) (length hops - 2) last) (length (set (drop 1 hops) (length hops - 2) last) - 1) [] ≡ last
last_is hops last h =
    let long = last_behind hops last h in
    let at : length (set (drop 1 hops) (length hops - 2) last) - 1 ≡ length hops - 2 = omega (arith, long, h) in
    let inside : length hops - 2 < length (drop 1 hops) = omega (arith, h, length-drop 1 hops) in
    ap (λ i. get_or (set (drop 1 hops) (length hops - 2) last) i []) at ∙ get_or-set_same (drop 1 hops) (length hops - 2) last [] inside

module _ (site : Site) (table : List Place) (m : Management) (two : 2 ≤ length m.hops) where
  pub hops_fall : length (performed_packet site table m).hops + 1 ≡ length m.hops
  hops_fall = last_behind m.hops (performed site table m).last two

  pub grown : length (performed site table m).last ≡ length (last_hop m) + asked_in (first_hop m)
  grown = fold-length site m.src (first_hop m) (work_of table done.Dead (last_hop m))

  pub budget_stays : budget (performed_packet site table m) ≡ budget m
  budget_stays =
      let last = (performed site table m).last in
      let is : length (last_hop (performed_packet site table m)) ≡ length last = ap length (last_is m.hops last two) in
      let asks = asked_behind m.hops last two (fold-asked site m.src (first_hop m) (work_of table done.Dead (last_hop m))) in
      omega (arith, is, asks, grown)

  pub performed_fits : FitsSite site → HasEntries (2 ^ 8) table → FitsManagement m → budget m ≤ 256 → FitsManagement (performed_packet site table m)
  performed_fits fits entries f within =
      let last : FitsHop (last_hop m) = f.each (length m.hops - 1) [] (omega (arith, two)) in
      let first = get_or-le-sum_by asked_in m.hops 0 [] (omega (arith, two)) in
      let hop : FitsHop (performed site table m).last = record {
        some = omega (arith, grown, last.some);
        many = omega (arith, grown, first, within);
        each = fold-fits site fits m.src (first_hop m) (work_of table done.Dead (last_hop m)) entries last.each;
      } in
      record {
        width = f.width;
        many = omega (arith, hops_fall, f.many);
        each = All-set FitsHop (drop 1 m.hops) (length m.hops - 2) (performed site table m).last hop (All-drop FitsHop 1 m.hops f.each);
      }
