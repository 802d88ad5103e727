-- Rows of bytes, one after the other. Assumes nothing.
use Rattle.std.specs.Prelude.{ℕ, ◌*◌, List, take, drop}

-- Row k of rows of n bytes.
abbrev pub row_of : ℕ → List ℕ → ℕ → List ℕ
row_of n bytes k = take n (drop (k * n) bytes)
