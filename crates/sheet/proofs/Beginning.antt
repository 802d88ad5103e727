-- The page of a sheet that was just begun. Assumes nothing.
use Rattle.std.proofs.Common.{◌≡◌, ℕ, ◌*◌, false, List, ◌++◌, drop, replicate, Ok, Result, sym, ap, subst, ◌∙◌}
use Rattle.model.specs.declared.refusal.Refusal.{Refusal}
use Rattle.model.specs.Refusals.{cause}
use Rattle.model.proofs.Checks.{answered_at}
use Rattle.strikes.specs.declared.strike.Strike.{Strike}
use Rattle.sheet.specs.declared.sheet.Sheet.{Sheet}
use Rattle.sheet.specs.Pages.{page, sheet_of, begun_page}
use Rattle.sheet.specs.Causes.{begin_tests}
use Rattle.sheet.specs.Calls.{Begins}

pub begun_is : (n : ℕ) (pairs after : List ℕ) (records : List Strike) (sheet : Sheet) → (sheet ≡ sheet_of n 0 false) × (after ≡ replicate (n * n) 1 ++ drop (n * n) pairs) → page sheet after records ≡ begun_page n pairs records
begun_is n pairs after records sheet is = ap (λ x. page x after records) is.0 ∙ ap (λ ys. page (sheet_of n 0 false) ys records) is.1

-- which has no strikes
pub begun_bare : (n : ℕ) (pairs after : List ℕ) (records : List Strike) (r : Result Sheet Refusal) (sheet : Sheet) → r ≡ Ok sheet → Begins n pairs records r after → 0 ≡ sheet.strikes
begun_bare n pairs after records r sheet is begins =
    sym (ap (λ (x : Sheet). x.strikes) (answered_at (cause (begin_tests n pairs records)) sheet (subst (λ x. Begins n pairs records x after) is begins)).0.0)
