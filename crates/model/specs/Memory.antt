-- What lent memory holds. Assumes nothing.
use Rattle.std.specs.Prelude.{List, ◌++◌, length, drop}

-- The first places of memory hold these things, and the rest is as it was.
abbrev pub over : {A : Type 0} → List A → List A → List A
over front memory = front ++ drop (length front) memory
