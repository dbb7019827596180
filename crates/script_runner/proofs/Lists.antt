-- Commands that were performed, one after another: one command more.
use Rattle.std.proofs.Common.{◌≡◌, ◌∙◌, ℕ, ◌+◌, ◌<◌, List, [], ◌∷◌, ◌++◌, None, Option, length, take, drop, get_or, zero, suc, refl, sym, ap, subst, arith, append-nil, false}
use Rattle.std.proofs.Math.Seq.{take-suc}
use Rattle.std.proofs.lemmas.List.{take-append-drop}
use Rattle.std.specs.Prelude.{Err, Ok, OnErr, OnOk, Result, is_err}
use Rattle.block_registers.specs.Registers.{Registers}
use Rattle.rf_script_types.specs.Fits.{Each, FitsCommand}
use Rattle.rf_script_types.specs.declared.command.ScriptCommand.{ScriptCommand}
use Rattle.script_books.specs.declared.book.Book.{Book}
use Rattle.script_runner.specs.Performed.{ArePerformed, IsOneThread, IsOneThreadSoFar, IsPerformed}
use Rattle.script_runner.specs.ScriptWorlds.{ScriptWorld, first_world}
use Rattle.script_runner.specs.Standing.{NetStandsFor, Performs, WorldStandsFor}
use Rattle.script_worlds.specs.WorldView.{WorldSeen}
use Rattle.script_worlds.specs.Worlds.{nothing}

pub one-more : (first mid last : ScriptWorld) (cs : List ScriptCommand) (bs : List Book) (c : ScriptCommand) (b : Book)
    → ArePerformed first cs bs mid → IsPerformed mid c b last → ArePerformed first (cs ++ c ∷ []) (bs ++ b ∷ []) last
unfolding ArePerformed
one-more first mid last [] [] c b done more = (last, (subst (λ (w : ScriptWorld). IsPerformed w c b last) done more, refl))
one-more first mid last (x ∷ cs) (y ∷ bs) c b done more = (done.0, (done.1.0, one-more done.0 mid last cs bs c b done.1.1 more))
one-more first mid last [] (y ∷ bs) c b done more = absurd done
one-more first mid last (x ∷ cs) [] c b done more = absurd done

-- these commands have these books, and leave a world for which the program's stands
abbrev pub IsSoFar : List (Option Registers) → List ScriptCommand → List Book → WorldSeen → List (Option Registers) → Type 0
IsSoFar slots cs bs seen banks = (w : ScriptWorld) × (ArePerformed (first_world slots) cs bs w × WorldStandsFor seen banks w)

pub begins : (slots : List (Option Registers)) (seen : WorldSeen) → seen ≡ record { setup = nothing; net = None } → IsSoFar slots [] [] seen slots
unfolding ArePerformed
begins slots seen is = (
  first_world slots,
  (
    refl,
    record {
      setup = ap (λ (s : WorldSeen). s.setup) (sym is);
      machine = subst (λ (s : WorldSeen). NetStandsFor s.net None) (sym is) tt;
      banks = refl;
    },
  ),
)

-- the first k commands and the next are the first k + 1
taken-more : (cs : List ScriptCommand) (k : ℕ) (c d : ScriptCommand) → k < length cs → get_or cs k d ≡ c → take k cs ++ c ∷ [] ≡ take (k + 1) cs
taken-more cs k c d lt is =
    let next-place : k + 1 ≡ suc k = omega arith in
    sym (ap (λ (n : ℕ). take n cs) next-place ∙ take-suc cs k d lt ∙ ap (λ (x : ScriptCommand). take k cs ++ x ∷ []) is)

goes-from : (slots : List (Option Registers)) (cs : List ScriptCommand) (bs : List Book) (k : ℕ) (c d : ScriptCommand) (b : Book) (new : WorldSeen)
    (left : List (Option Registers)) (mid last : ScriptWorld) → k < length cs → get_or cs k d ≡ c → ArePerformed (first_world slots) (take k cs) bs mid
    → IsPerformed mid c b last → WorldStandsFor new left last → IsSoFar slots (take (k + 1) cs) (bs ++ b ∷ []) new left
goes-from slots cs bs k c d b new left mid last lt is done more stands = (
  last,
  (
    subst (λ (xs : List ScriptCommand). ArePerformed (first_world slots) xs (bs ++ b ∷ []) last) (taken-more cs k c d lt is)
        (one-more (first_world slots) mid last (take k cs) bs c b done more),
    stands,
  ),
)

goes-with : (slots : List (Option Registers)) (cs : List ScriptCommand) (bs : List Book) (k : ℕ) (c d : ScriptCommand) (b : Book) (new : WorldSeen)
    (left : List (Option Registers)) (mid : ScriptWorld) → k < length cs → get_or cs k d ≡ c → ArePerformed (first_world slots) (take k cs) bs mid
    → Performs mid c b new left → IsSoFar slots (take (k + 1) cs) (bs ++ b ∷ []) new left
goes-with slots cs bs k c d b new left mid lt is done more =
    goes-from slots cs bs k c d b new left mid more.next lt is done more.performed more.stands

pub goes-on : (slots : List (Option Registers)) (cs : List ScriptCommand) (bs : List Book) (k : ℕ) (c d : ScriptCommand) (b : Book) (old new : WorldSeen)
    (banks left : List (Option Registers)) → k < length cs → get_or cs k d ≡ c → IsSoFar slots (take k cs) bs old banks
    → ((w : ScriptWorld) → WorldStandsFor old banks w → Performs w c b new left) → IsSoFar slots (take (k + 1) cs) (bs ++ b ∷ []) new left
goes-on slots cs bs k c d b old new banks left lt is so-far next =
    goes-with slots cs bs k c d b new left so-far.0 lt is so-far.1.0 (next so-far.0 so-far.1.1)

pub fits-one : (version : ℕ) (cs : List ScriptCommand) (k : ℕ) (d : ScriptCommand) → Each (FitsCommand version) cs → k < length cs
    → FitsCommand version (get_or cs k d)
fits-one version [] k d fits lt = absurd (omega arith)
fits-one version (c ∷ cs) zero d fits lt = fits.0
fits-one version (c ∷ cs) (suc k) d fits lt = fits-one version cs k d fits.1 (omega arith)

-- the first k commands were performed
pub performed-so-far : (slots : List (Option Registers)) (cs : List ScriptCommand) (k : ℕ) (bs : List Book) (seen : WorldSeen) (banks : List (Option Registers))
    → IsSoFar slots (take k cs) bs seen banks → IsOneThreadSoFar cs bs
performed-so-far slots cs k bs seen banks so-far = record {
  done = take k cs;
  rest = drop k cs;
  are = take-append-drop k cs;
  old = slots;
  last = so-far.0;
  performed = so-far.1.0;
}

pub on-err : {A E P : Type 0} (r : Result A E) → P → OnErr r P
on-err (Ok a) p = tt
on-err (Err e) p = p

-- all commands were performed
pub all-so-far : (cs : List ScriptCommand) (bs : List Book) (old new : List (Option Registers)) → IsOneThread cs bs old new → IsOneThreadSoFar cs bs
all-so-far cs bs old new all = record {
  done = cs;
  rest = [];
  are = append-nil cs;
  old = old;
  last = all.last;
  performed = all.performed;
}

pub on-ok : {A E P : Type 0} (r : Result A E) → OnOk r P → is_err r ≡ false → P
on-ok (Ok a) p e = p
on-ok (Err err) p e = absurd cc
