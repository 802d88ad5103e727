-- What a sheet that passes its checks is like, and that a page that came about by strikes passes them. Assumes nothing.
use Rattle.std.proofs.Common.{◌≡◌, ℕ, ◌+◌, ◌*◌, ◌<◌, ◌≤◌, Bool, false, not, eqb, List, [], ◌∷◌, length, sym, ap, ◌∙◌, subst, arith}
use Rattle.std.proofs.lemmas.Bool.{le-ltb, ltb-false, lt-leb, leb-false, eq-eqb, eqb-true, ne_eqb, or_from, or_parts, not_from_true, not-false}
use Rattle.model.proofs.Checks.{Clear, clear_parts, clear_append}
use Rattle.sheet.specs.declared.sheet.Sheet.{Sheet}
use Rattle.sheet.specs.Memory.{Memory, standing}
use Rattle.sheet.specs.Verdicts.{Setting, size}
use Rattle.sheet.specs.Genuine.{Genuine}
use Rattle.sheet.specs.Pages.{Page, holding, Came, unlike}
use Rattle.sheet.specs.Causes.{number_tests, sheet_tests, page_tests, settled_tests}

-- The numbers are states.
abbrev pub Inside : ℕ → List ℕ → Type 0
Inside n [] = Unit {0}
Inside n (s ∷ ss) = (s < n) × Inside n ss

-- A sheet of n states that adds up with its pairs, and numbers of its states.
pub record Fits (n : ℕ) (sheet : Sheet) (pairs : List ℕ) (numbers : List ℕ) : Type 0 where
  pub counted : sheet.count ≡ n
  pub room : n * n ≤ length pairs
  pub inside : Inside n numbers
  pub adds_up : standing (n * n) pairs + sheet.strikes ≡ n * n

within : (sheet : Sheet) (numbers : List ℕ) → Clear (number_tests sheet numbers) → Inside sheet.count numbers
within sheet [] clear = tt
within sheet (s ∷ ss) clear = (leb-false sheet.count s clear.0, within sheet ss clear.1)

none_outside : (sheet : Sheet) (numbers : List ℕ) → Inside sheet.count numbers → Clear (number_tests sheet numbers)
none_outside sheet [] h = tt
none_outside sheet (s ∷ ss) h = (lt-leb sheet.count s h.0, none_outside sheet ss h.1)

pub fits : (n : ℕ) (sheet : Sheet) (pairs : List ℕ) (numbers : List ℕ) → Clear (sheet_tests n sheet pairs numbers) → Fits n sheet pairs numbers
fits n sheet pairs numbers clear =
    let parts = clear_parts (number_tests sheet numbers) ((unlike n sheet pairs, 8) ∷ []) clear.1 in
    let p = or_parts (eqb sheet.count 0) _ parts.1.0 in
    let q = or_parts (not (eqb sheet.count n)) _ p.1 in
    let counted : sheet.count ≡ n = eqb-true _ _ (not-false _ q.0) in
    record {
      counted = counted;
      room = subst (λ k. k * k ≤ length pairs) counted (ltb-false _ _ clear.0);
      inside = subst (λ k. Inside k numbers) counted (within sheet numbers parts.0);
      adds_up = subst (λ k. standing (k * k) pairs + sheet.strikes ≡ k * k) counted (eqb-true _ _ (not-false _ q.1));
    }

-- the same of a call that has strike memory
pub page_fits : (n : ℕ) (p : Page) (numbers : List ℕ) → Clear (page_tests n p numbers) → Fits n p.sheet p.pairs numbers
page_fits n p numbers clear = fits n p.sheet p.pairs numbers (clear.0, clear.1.1)

-- the same of a call that needs a settled sheet
pub settled_fits : (n : ℕ) (sheet : Sheet) (pairs : List ℕ) (numbers : List ℕ) → Clear (settled_tests n sheet pairs numbers) → Fits n sheet pairs numbers
settled_fits n sheet pairs numbers clear = fits n sheet pairs numbers (clear_parts (sheet_tests n sheet pairs numbers) ((not sheet.settled, 9) ∷ []) clear).0

module _ {L : Type 0} (on : Setting L) (p : Page) (came : Came on p) where
  square : p.sheet.count * p.sheet.count ≡ size on * size on
  square = ap (λ n. n * n) came.counted

  alike : unlike (size on) p.sheet p.pairs ≡ false
  alike =
      let sum : standing (p.sheet.count * p.sheet.count) p.pairs + p.sheet.strikes ≡ p.sheet.count * p.sheet.count =
      ap (λ n. standing n p.pairs + p.sheet.strikes) square ∙ came.genuine.ready.adds_up ∙ sym square in
      or_from _ _ (ne_eqb p.sheet.count 0 (λ e. omega (arith, came.counted, came.some)))
      (or_from _ _ (not_from_true _ (eq-eqb p.sheet.count (size on) came.counted)) (not_from_true _ (eq-eqb _ _ sum)))

  pub came_clear : (numbers : List ℕ) → Inside (size on) numbers → Clear (page_tests (size on) p numbers)
  came_clear numbers inside =
      let none = none_outside p.sheet numbers (subst (λ k. Inside k numbers) (sym came.counted) inside) in
      let pairs_fit = le-ltb (length p.pairs) (p.sheet.count * p.sheet.count) (omega (arith, square, came.genuine.ready.pairs_fit)) in
      let records_fit = le-ltb (length p.records) (p.sheet.count * p.sheet.count) (omega (arith, square, came.genuine.ready.records_fit)) in
      (pairs_fit, (records_fit, clear_append (number_tests p.sheet numbers) ((unlike (size on) p.sheet p.pairs, 8) ∷ []) none (alike, tt)))

  -- other memory that is genuine
  pub came_holding : (z : Bool) (mem : Memory) → Genuine on z mem → Came on (holding p z mem)
  came_holding z mem g = record { some = came.some; counted = came.counted; genuine = g }
