-- What the bytes of labels, strike records and sheets say, and the bytes that say it. Assumes nothing.
use Rattle.std.specs.Prelude.{ℕ, zero, suc, ◌+◌, ◌*◌, Bool, cond, not, ◌&&◌, ◌||◌, List, [], ◌∷◌, ◌++◌, length, take, drop, map, ◌==◌, nat_lt, slice_index}
use Rattle.std.specs.List.{slice_range}
use Rattle.std.specs.Int.{w16, w32, to_le_bytes, from_le_bytes}
use Rattle.model.specs.declared.flags.FlagSet.{FlagSet}
use Rattle.model.specs.Machines.{Meaning, no_states, tabled, is_sized}
use Rattle.strikes.specs.declared.strike.Ground.{Ground}
use Rattle.strikes.specs.declared.strike.Ground.TheVariants.{ByLabel, ByStep}
use Rattle.strikes.specs.declared.strike.Strike.{Strike}
use Rattle.sheet.specs.declared.sheet.Sheet.{Sheet}
use Rattle.sheet.specs.Verdicts.{strike}
use Rattle.sheet.specs.Pages.{Page, page, sheet_of}

-- Bytes by four; fewer at the end are left out.
abbrev pub fours : List ℕ → List (List ℕ)
fours (a ∷ b ∷ c ∷ d ∷ rest) = (a ∷ b ∷ c ∷ d ∷ []) ∷ fours rest
fours _ = []

-- A label: a set of flags, low byte first.
abbrev pub label_in : List ℕ → FlagSet
label_in four = record { bits = from_le_bytes w32 four }

abbrev pub labels_in : List ℕ → List FlagSet
labels_in bytes = map label_in (fours bytes)

-- The ground of a strike: 0 for label and anything else for a step, and the state that is stepped to.
abbrev pub ground_in : ℕ → ℕ → Ground
ground_in kind to = cond (kind == 0) ByLabel (ByStep to)

-- A strike record: two states and the ground.
abbrev pub record_in : List ℕ → Strike
record_in four = strike (slice_index four 0) (slice_index four 1) (ground_in (slice_index four 2) (slice_index four 3))

abbrev pub records_in : List ℕ → List Strike
records_in bytes = map record_in (fours bytes)

abbrev pub ground_bytes : Ground → List ℕ
ground_bytes ByLabel = 0 ∷ 0 ∷ []
ground_bytes (ByStep to) = 1 ∷ to ∷ []

abbrev pub record_bytes : Strike → List ℕ
record_bytes k = k.first ∷ k.second ∷ ground_bytes k.ground

-- Bytes with a record written at its place, where there is such a place.
abbrev pub with_record : List ℕ → ℕ → Strike → List ℕ
with_record (a ∷ b ∷ c ∷ d ∷ rest) zero k = record_bytes k ++ rest
with_record (a ∷ b ∷ c ∷ d ∷ rest) (suc i) k = a ∷ b ∷ c ∷ d ∷ with_record rest i k
with_record bytes i k = bytes

-- Bytes with records written in turn, from place i on.
abbrev pub with_records : List ℕ → ℕ → List Strike → List ℕ
with_records bytes i [] = bytes
with_records bytes i (k ∷ ks) = with_records (with_record bytes i k) (i + 1) ks

-- A sheet: the count, whether it is settled, and the number of strikes, low byte first.
abbrev pub sheet_in : List ℕ → Sheet
sheet_in bytes = sheet_of (slice_index bytes 0) (from_le_bytes w16 (slice_range bytes 2 4)) (not (slice_index bytes 1 == 0))

-- The area of a sheet with another number of strikes.
abbrev pub with_made : ℕ → List ℕ → List ℕ
with_made made bytes = take 2 bytes ++ to_le_bytes w16 made ++ drop 4 bytes

-- A table: how many states, the bytes of their labels, and a byte for each pair of them.
pub record Table : Type 0 where
  pub count : ℕ
  pub labels : List ℕ
  pub steps : List ℕ

abbrev pub table : ℕ → List ℕ → List ℕ → Table
table count labels steps = record { count = count; labels = labels; steps = steps }

-- An area is too short for the count.
abbrev pub short_table : Table → Bool
short_table t = nat_lt (length t.labels) (4 * t.count) || nat_lt (length t.steps) (t.count * t.count)

abbrev pub fits : Table → Bool
fits t = is_sized t.count && not (short_table t)

-- The machine of a table, of no states where its sizes do not fit.
abbrev pub machine_in : Table → Meaning FlagSet
machine_in t = cond (fits t) (tabled (labels_in (take (4 * t.count) t.labels)) (take (t.count * t.count) t.steps)) no_states

-- The areas of a sheet, its pairs and its strikes.
pub record Areas : Type 0 where
  pub sheet : List ℕ
  pub pairs : List ℕ
  pub strikes : List ℕ

abbrev pub areas : List ℕ → List ℕ → List ℕ → Areas
areas sheet pairs strikes = record { sheet = sheet; pairs = pairs; strikes = strikes }

-- The page that they hold.
abbrev pub page_in : Areas → Page
page_in a = page (sheet_in a.sheet) a.pairs (records_in a.strikes)
