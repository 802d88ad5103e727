-- How many lines a formula has, and how many bytes they take at least. Assumes nothing.
use Rattle.std.proofs.Common.{◌≡◌, ℕ, ◌+◌, ◌*◌, ◌≤◌, ◌<◌, List, [], ◌∷◌, length, refl, arith, length-append}
use Rattle.until.specs.declared.formula.Line.{Line}
use Rattle.until.specs.Formulas.{Formula, truth, at, and, until}
use Rattle.text.specs.FormulaTexts.{size, flat}
use Rattle.text.specs.FormulaParts.{bytes_of, Labelled}

pub size_some : {L : Type 0} (F : Formula L) → 0 < size F
size_some truth = omega arith
size_some (at a) = omega arith
size_some (and F G) = omega arith
size_some (until F G) = omega arith

pub length-flat : {L : Type 0} (k : ℕ) (F : Formula L) → length (flat k F) ≡ size F
length-flat k truth = refl
length-flat k (at a) = refl
length-flat {L} k (and F G) = omega (arith, length-append {A = Line L}, length-flat k F, length-flat (k + size F) G)
length-flat {L} k (until F G) = omega (arith, length-append {A = Line L}, length-flat k F, length-flat (k + size F) G)

-- two lines take 13 bytes, but for one byte
pub size_bytes : (F : Formula (List ℕ)) → Labelled F → 13 * size F ≤ 2 * length (bytes_of F) + 1
size_bytes truth h = omega arith
size_bytes (at a) h = omega (arith, length-append a (41 ∷ []), h.any)
size_bytes (and F G) h = omega (arith, length-append {A = ℕ}, size_bytes F h.0, size_bytes G h.1)
size_bytes (until F G) h = omega (arith, length-append {A = ℕ}, size_bytes F h.0, size_bytes G h.1)
