-- The lines of a report, byte by byte. Assumes nothing.
use Rattle.std.specs.Prelude.{ℕ, zero, suc, Bool, true, false, not, List, [], ◌++◌, codes, decimal, ◌==◌, slice_index}
use Rattle.strikes.specs.declared.strike.Ground.{Ground}
use Rattle.strikes.specs.declared.strike.Ground.TheVariants.{ByLabel, ByStep}
use Rattle.strikes.specs.declared.strike.Strike.{Strike}

abbrev pub yes_or_no : Bool → List ℕ
yes_or_no true = codes "yes"
yes_or_no false = codes "no"

-- (compared 3), and its newline
abbrev pub compared_line : ℕ → List ℕ
compared_line n = codes "(compared " ++ (decimal n ++ codes ")\n")

-- (class 2 0), and its newline
abbrev pub class_line : ℕ → ℕ → List ℕ
class_line s c = codes "(class " ++ (decimal s ++ (codes " " ++ (decimal c ++ codes ")\n")))

-- label, or step 1
abbrev pub ground_words : Ground → List ℕ
ground_words ByLabel = codes "label"
ground_words (ByStep u) = codes "step " ++ decimal u

-- (strike 0 2 step 1), and its newline
abbrev pub strike_line : Strike → List ℕ
strike_line k =
    codes "(strike " ++ (decimal k.first ++ (codes " " ++ (decimal k.second ++ (codes " " ++ (ground_words k.ground ++ codes ")\n")))))

-- (start 0 2 no), and its newline
abbrev pub start_line : ℕ → ℕ → Bool → List ℕ
start_line s t is_below =
    codes "(start " ++ (decimal s ++ (codes " " ++ (decimal t ++ (codes " " ++ (yes_or_no is_below ++ codes ")\n")))))

-- (holds 3 yes), and its newline
abbrev pub holds_line : ℕ → Bool → List ℕ
holds_line s there = codes "(holds " ++ (decimal s ++ (codes " " ++ (yes_or_no there ++ codes ")\n")))

-- A line for each of the first n states, with yes where the byte of the state is not zero.
abbrev pub holds_lines : List ℕ → ℕ → List ℕ
holds_lines row zero = []
holds_lines row (suc s) = holds_lines row s ++ holds_line s (not (slice_index row s == 0))
