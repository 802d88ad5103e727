-- Machines: what one means, and what tables, traces and pairs of machines mean. Assumes nothing.
use Rattle.std.specs.Prelude.{ℕ, ◌+◌, ◌-◌, ◌*◌, ◌<◌, ◌≤◌, Bool, false, cond, not, ◌&&◌, T, List, [], ◌++◌, length, Option, ◌==◌, nat_le, nat_lt, slice_index}
use Rattle.std.specs.List.{slice_get}

-- The most states that a machine may have.
abbrev pub state_bound : ℕ
state_bound = 64

-- The states are the numbers below the length of labels.
pub record Meaning (L : Type 0) : Type 0 where
  pub labels : List L
  pub step : ℕ → ℕ → Bool

abbrev pub states : {L : Type 0} → Meaning L → ℕ
states m = length m.labels

-- The label of a state, or nothing where s is none.
abbrev pub label_of : {L : Type 0} → Meaning L → ℕ → Option L
label_of m s = slice_get m.labels s

-- m has a step from s to t.
pub record Step {L : Type 0} (m : Meaning L) (s t : ℕ) : Type 0 where
  pub from_state : s < states m
  pub to_state : t < states m
  pub there : T (m.step s t)

-- What every machine owes: its states are within the bound, and its steps lead from state to state.
pub record Bounded {L : Type 0} (m : Meaning L) : Type 0 where
  pub few : states m ≤ state_bound
  pub inside : (s t : ℕ) → T (m.step s t) → Step m s t

-- The machine of no states.
abbrev pub no_states : {L : Type 0} → Meaning L
no_states = record { labels = []; step = λ _ _. false }

-- s and t are both among the first n states.
abbrev pub are_states : ℕ → ℕ → ℕ → Bool
are_states n s t = nat_lt s n && nat_lt t n

-- A step where the byte of row s and column t is not zero.
abbrev pub tabled : {L : Type 0} → List L → List ℕ → Meaning L
tabled ls bytes = record {
  labels = ls;
  step = λ s t. are_states (length ls) s t && not (slice_index bytes (s * length ls + t) == 0);
}

-- From 1 state to the bound.
abbrev pub is_sized : ℕ → Bool
is_sized n = nat_le 1 n && nat_le n state_bound

-- A count from 1 to the bound, and a byte for each pair of states.
abbrev pub table_fits : ℕ → ℕ → Bool
table_fits n bytes = is_sized n && bytes == n * n

-- A table, or no states where its sizes do not fit.
abbrev pub table_meaning : {L : Type 0} → List L → List ℕ → Meaning L
table_meaning ls bytes = cond (table_fits (length ls) (length bytes)) (tabled ls bytes) no_states

-- A step from each state to the next.
abbrev pub traced : {L : Type 0} → List L → Meaning L
traced ls = record { labels = ls; step = λ s t. are_states (length ls) s t && (t == s + 1) }

-- A trace, or no states where it is longer than the bound. An empty one has none.
abbrev pub trace_meaning : {L : Type 0} → List L → Meaning L
trace_meaning ls = cond (nat_le (length ls) state_bound) (traced ls) no_states

-- The states of m, then those of n. As the steps of each lead to its own states, none crosses.
abbrev pub joined : {L : Type 0} → Meaning L → Meaning L → Meaning L
joined m n = record {
  labels = m.labels ++ n.labels;
  step = λ s t. cond (nat_lt s (states m)) (m.step s t) (nat_le (states m) t && n.step (s - states m) (t - states m));
}

-- Both, or no states where they are more than the bound together.
abbrev pub beside_meaning : {L : Type 0} → Meaning L → Meaning L → Meaning L
beside_meaning m n = cond (nat_le (states m + states n) state_bound) (joined m n) no_states
