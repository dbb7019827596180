-- The hops of a management payload that fits have at most 261,888 operations.
use Rattle.std.proofs.Common.{◌≤◌, All, List, length, arith}
use Rattle.std.specs.List.{sum_by}
use Rattle.std.proofs.lemmas.List.Sums.{sum_by-le}
use Rattle.chdr_words.specs.declared.management.Management.{Management}
use Rattle.chdr_words.specs.declared.management.MgmtOp.{MgmtOp}
use Rattle.chdr_words.specs.Management.{FitsManagement}

-- 1,023 hops of 256 operations are the most
pub few_ops : (m : Management) → FitsManagement m → sum_by length m.hops ≤ 261888
few_ops m fits =
    let least : All (λ (hop : List MgmtOp). length hop ≤ 256) m.hops = λ k d lt. (fits.each k d lt).many in
    omega (arith, sum_by-le length 256 m.hops least, fits.many)
