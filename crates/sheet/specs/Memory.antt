-- What the calls work on: pair bytes, strike records, and how many of the records are made. Assumes nothing.
use Rattle.std.specs.Prelude.{◌≡◌, ℕ, ◌+◌, ◌*◌, ◌≤◌, Bool, not, List, reverse, length, take, count_by, ◌==◌}
use Rattle.until.specs.Searches.{is_marked}
use Rattle.strikes.specs.declared.strike.Strike.{Strike}

pub record Memory : Type 0 where
  pub pairs : List ℕ
  pub records : List Strike
  pub made : ℕ

abbrev pub memory : List ℕ → List Strike → ℕ → Memory
memory pairs records made = record { pairs = pairs; records = records; made = made }

-- The byte of the pair (s, t), in n rows of n, is not zero.
abbrev pub stands : ℕ → List ℕ → ℕ → ℕ → Bool
stands n pairs s t = is_marked pairs (s * n + t)

-- How many of the first k pairs stand.
abbrev pub standing : ℕ → List ℕ → ℕ
standing k pairs = count_by (λ byte. not (byte == 0)) (take k pairs)

-- The strikes made, the newest first.
abbrev pub history : Memory → List Strike
history mem = reverse (take mem.made mem.records)

-- There is room for n states, and the standing pairs and the strikes add up.
pub record Ready (n : ℕ) (mem : Memory) : Type 0 where
  pub pairs_fit : n * n ≤ length mem.pairs
  pub records_fit : n * n ≤ length mem.records
  pub adds_up : standing (n * n) mem.pairs + mem.made ≡ n * n
