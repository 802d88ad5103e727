-- Lines: how bytes are cut into pieces, and which bytes are a line. Assumes nothing.
use Rattle.std.specs.Prelude.{ℕ, ◌+◌, ◌-◌, Bool, true, false, cond, ◌&&◌, ◌||◌, List, [], ◌∷◌, length, take, drop, Option, Some, None, ◌==◌, nat_le, nat_lt}
use Rattle.std.specs.List.{slice_split}
use denote.Ref.{Bor}
use Rattle.text.specs.declared.form.Sort.{Sort}
use Rattle.text.specs.declared.form.Sort.TheVariants.{Open, Close, Space, Letter, Figure, Foreign}

-- The bytes that end a line and that part its words.
abbrev pub newline : ℕ
newline = 10

abbrev pub space : ℕ
space = 32

-- The pieces between the bytes `stop`, which are one more than those bytes.
abbrev pub pieces : ℕ → List ℕ → List (List ℕ)
pieces stop bytes = slice_split (λ b. b == stop) bytes

-- The pieces of what is left, if anything is.
abbrev pub pieces_of : ℕ → Option (Bor (List ℕ)) → List (List ℕ)
pieces_of stop None = []
pieces_of stop (Some bytes) = pieces stop bytes.now

abbrev pub first_piece : List (List ℕ) → List ℕ
first_piece [] = []
first_piece (p ∷ ps) = p

abbrev pub is_between : ℕ → ℕ → ℕ → Bool
is_between low high b = nat_le low b && nat_le b high

-- What a byte is for a line: ( and ) and a space, a letter from a to z, a digit or a minus, or none of these.
abbrev pub sort_of : ℕ → Sort
sort_of b =
    cond (b == 40) Open (cond (b == 41) Close (cond (b == space) Space
    (cond (is_between 97 122 b) Letter (cond (b == 45 || is_between 48 57 b) Figure Foreign))))

-- A byte of a word.
abbrev pub is_word : Sort → Bool
is_word Open = false
is_word Close = false
is_word Space = false
is_word Letter = true
is_word Figure = true
is_word Foreign = false

abbrev pub is_space_or_close : Sort → Bool
is_space_or_close Open = false
is_space_or_close Close = true
is_space_or_close Space = true
is_space_or_close Letter = false
is_space_or_close Figure = false
is_space_or_close Foreign = false

abbrev pub is_open : Sort → Bool
is_open Open = true
is_open Close = false
is_open Space = false
is_open Letter = false
is_open Figure = false
is_open Foreign = false

abbrev pub is_close : Sort → Bool
is_close Open = false
is_close Close = true
is_close Space = false
is_close Letter = false
is_close Figure = false
is_close Foreign = false

-- Which byte may come next: after ( a word or ), after a byte of a word one more, a space or ), after a space a word or (,
-- after ) a space or another.
abbrev pub may_precede : Sort → Sort → Bool
may_precede Open next = is_word next || is_close next
may_precede Close next = is_space_or_close next
may_precede Space next = is_word next || is_open next
may_precede Letter next = is_word next || is_space_or_close next
may_precede Figure next = is_word next || is_space_or_close next
may_precede Foreign next = false

-- How many brackets are open after a byte.
abbrev pub depth_after : Sort → ℕ → ℕ
depth_after Open depth = depth + 1
depth_after Close depth = depth - 1
depth_after Space depth = depth
depth_after Letter depth = depth
depth_after Figure depth = depth
depth_after Foreign depth = depth

-- The rest of a form, after a byte of this sort and with so many brackets open: each byte may follow the one before it, and
-- the last byte closes the first bracket.
abbrev pub closes : Sort → ℕ → List ℕ → Bool
closes before depth [] = depth == 0
closes before depth (b ∷ bs) =
    nat_lt 0 depth && (may_precede before (sort_of b) && closes (sort_of b) (depth_after (sort_of b) depth) bs)

-- One bracketed form from the first byte to the last, which begins with a letter.
abbrev pub is_form : List ℕ → Bool
is_form [] = false
is_form (b ∷ []) = false
is_form (b ∷ c ∷ cs) = b == 40 && (is_between 97 122 c && closes Letter 1 cs)

-- The most bytes of a line, without its newline.
abbrev pub line_bound : ℕ
line_bound = 512

abbrev pub is_line : List ℕ → Bool
is_line line = nat_le (length line) line_bound && is_form line

-- What stands between the first byte and the last.
abbrev pub inside : List ℕ → List ℕ
inside line = take (length line - 2) (drop 1 line)

-- Its words: the pieces between the spaces inside it. After the first come its items.
abbrev pub words : List ℕ → List (List ℕ)
words line = pieces space (inside line)

abbrev pub first_word : List ℕ → List ℕ
first_word line = first_piece (words line)
