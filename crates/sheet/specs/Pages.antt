-- A sheet with its memory, and why a call on it is refused. Assumes nothing.
use Rattle.std.specs.Prelude.{◌≡◌, ℕ, ◌+◌, ◌*◌, ◌<◌, Bool, false, cond, not, ◌||◌, List, [], ◌∷◌, ◌++◌, length, take, drop, replicate, is_some, Some, None, Option, ◌==◌, nat_le, nat_lt}
use Rattle.model.specs.Machines.{Meaning, states}
use Rattle.model.specs.Refusals.{cause}
use Rattle.strikes.specs.declared.strike.Strike.{Strike}
use Rattle.strikes.specs.Strikes.{names}
use Rattle.sheet.specs.declared.sheet.Sheet.{Sheet}
use Rattle.sheet.specs.Memory.{Memory, memory, stands, standing}
use Rattle.sheet.specs.Verdicts.{Setting, size, answered}
use Rattle.sheet.specs.Genuine.{Genuine}

pub record Page : Type 0 where
  pub sheet : Sheet
  pub pairs : List ℕ
  pub records : List Strike

abbrev pub page : Sheet → List ℕ → List Strike → Page
page sheet pairs records = record { sheet = sheet; pairs = pairs; records = records }

abbrev pub sheet_of : ℕ → ℕ → Bool → Sheet
sheet_of count strikes settled = record { count = count; strikes = strikes; settled = settled }

-- The page that begin makes of memory for n states: every pair stands.
abbrev pub begun_page : ℕ → List ℕ → List Strike → Page
begun_page n pairs records = page (sheet_of n 0 false) (replicate (n * n) 1 ++ drop (n * n) pairs) records

-- The memory of a page, with the number of strikes that its sheet has.
abbrev pub held : Page → Memory
held p = memory p.pairs p.records p.sheet.strikes

-- The page with this memory and its number of strikes, marked settled or not.
abbrev pub holding : Page → Bool → Memory → Page
holding p settled mem = page (sheet_of p.sheet.count mem.made settled) mem.pairs mem.records

-- The page came about by strikes with a ground since it was begun, for a machine that has states.
pub record Came {L : Type 0} (on : Setting L) (p : Page) : Type 0 where
  pub some : 0 < size on
  pub counted : p.sheet.count ≡ size on
  pub genuine : Genuine on p.sheet.settled (held p)

-- The pair memory, or the strike memory, is too short for the sheet's own count.
abbrev pub short_pairs : Sheet → List ℕ → Bool
short_pairs sheet pairs = nat_lt (length pairs) (sheet.count * sheet.count)

abbrev pub short_records : Sheet → List Strike → Bool
short_records sheet records = nat_lt (length records) (sheet.count * sheet.count)

-- The number is no state of the sheet.
abbrev pub outside : Sheet → ℕ → Bool
outside sheet s = nat_le sheet.count s

-- The count is 0 or not the machine's, or standing pairs and strikes do not add up.
abbrev pub unlike : ℕ → Sheet → List ℕ → Bool
unlike n sheet pairs =
    (sheet.count == 0) || (not (sheet.count == n) || not (standing (sheet.count * sheet.count) pairs + sheet.strikes == sheet.count * sheet.count))

-- The first of some strikes that names the pair (s, t).
abbrev pub first_naming : List Strike → ℕ → ℕ → Option Strike
first_naming [] s t = None
first_naming (k ∷ ks) s t = cond (names k s t) (Some k) (first_naming ks s t)

-- The first record of the pair (s, t).
abbrev pub record_of : Page → ℕ → ℕ → Option Strike
record_of p s t = first_naming (take p.sheet.strikes p.records) s t

-- Why each call is refused, if it is.
abbrev pub begin_cause : ℕ → List ℕ → List Strike → Option ℕ
begin_cause n pairs records = cause (((n == 0), 5) ∷ (nat_lt (length pairs) (n * n), 6) ∷ (nat_lt (length records) (n * n), 6) ∷ [])

abbrev pub try_cause : ℕ → Page → ℕ → ℕ → Option ℕ
try_cause n p s t =
    cause ((short_pairs p.sheet p.pairs, 6) ∷ (short_records p.sheet p.records, 6)
    ∷ (outside p.sheet s, 7) ∷ (outside p.sheet t, 7) ∷ (unlike n p.sheet p.pairs, 8) ∷ [])

abbrev pub sweep_cause : ℕ → Page → ℕ → Option ℕ
sweep_cause n p s =
    cause ((short_pairs p.sheet p.pairs, 6) ∷ (short_records p.sheet p.records, 6)
    ∷ (outside p.sheet s, 7) ∷ (unlike n p.sheet p.pairs, 8) ∷ [])

abbrev pub settle_cause : ℕ → Page → Option ℕ
settle_cause n p =
    cause ((short_pairs p.sheet p.pairs, 6) ∷ (short_records p.sheet p.records, 6) ∷ (unlike n p.sheet p.pairs, 8) ∷ [])

abbrev pub class_cause : ℕ → Sheet → List ℕ → ℕ → Option ℕ
class_cause n sheet pairs s =
    cause ((short_pairs sheet pairs, 6) ∷ (outside sheet s, 7) ∷ (unlike n sheet pairs, 8) ∷ (not sheet.settled, 9) ∷ [])

abbrev pub below_cause : ℕ → Sheet → List ℕ → ℕ → ℕ → Option ℕ
below_cause n sheet pairs s t =
    cause ((short_pairs sheet pairs, 6) ∷ (outside sheet s, 7) ∷ (outside sheet t, 7)
    ∷ (unlike n sheet pairs, 8) ∷ (not sheet.settled, 9) ∷ [])

abbrev pub reason_cause : ℕ → Page → ℕ → ℕ → Option ℕ
reason_cause n p s t =
    cause ((short_pairs p.sheet p.pairs, 6) ∷ (short_records p.sheet p.records, 6)
    ∷ (outside p.sheet s, 7) ∷ (outside p.sheet t, 7) ∷ (unlike n p.sheet p.pairs, 8)
    ∷ (stands n p.pairs s t, 10) ∷ (not (is_some (record_of p s t)), 10) ∷ [])

abbrev pub answer_cause : {L : Type 0} → Meaning L → Sheet → List ℕ → ℕ → ℕ → ℕ → ℕ → Option ℕ
answer_cause m sheet pairs room s t u =
    cause ((short_pairs sheet pairs, 6) ∷ (nat_lt room sheet.count, 6)
    ∷ (outside sheet s, 7) ∷ (outside sheet t, 7) ∷ (outside sheet u, 7)
    ∷ (unlike (states m) sheet pairs, 8) ∷ (not sheet.settled, 9)
    ∷ (not (stands (states m) pairs s t), 10) ∷ (not (m.step s u), 11) ∷ (not (answered m pairs s u t), 11) ∷ [])
