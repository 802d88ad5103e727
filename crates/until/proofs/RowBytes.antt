-- Reading a byte of a row. Assumes nothing.
use Rattle.std.proofs.Common.{◌≡◌, ℕ, ◌+◌, ◌*◌, ◌<◌, not, eqb, List, get_or, drop, ap, ◌∙◌}
use Rattle.std.proofs.lemmas.List.{get_or-take, get_or-drop}
use Rattle.until.specs.Rows.{row_of}
use Rattle.until.specs.Searches.{is_marked}

-- a byte of row k by its place among all bytes
pub row_byte : (n : ℕ) (bytes : List ℕ) (k u : ℕ) → u < n → get_or (row_of n bytes k) u 0 ≡ get_or bytes (k * n + u) 0
row_byte n bytes k u h = get_or-take n (drop (k * n) bytes) u 0 h ∙ get_or-drop (k * n) bytes u 0

pub row_is_marked : (n : ℕ) (bytes : List ℕ) (k u : ℕ) → u < n → is_marked (row_of n bytes k) u ≡ is_marked bytes (k * n + u)
row_is_marked n bytes k u h = ap (λ b. not (eqb b 0)) (row_byte n bytes k u h)
