-- Orders on labels: what "a is at most b" means for each. Assumes nothing.
use Rattle.std.specs.Prelude.{ℕ, zero, suc, ◌/◌, ◌%◌, ◌^◌, ◌<◌, Bool, true, not, ◌&&◌, ◌||◌, T, ◌==◌, int_le}
use Rattle.model.specs.declared.flags.FlagSet.{FlagSet}
use Rattle.model.specs.declared.band.Span.{Span}

-- The two laws that every order owes.
pub record Preorder {L : Type 0} (at_most : L → L → Bool) : Type 0 where
  pub reflexive : (a : L) → T (at_most a a)
  pub transitive : (a b c : L) → T (at_most a b) → T (at_most b c) → T (at_most a c)

-- How many flags a set may have.
abbrev pub flag_count : ℕ
flag_count = 32

-- Flag i is in the set.
abbrev pub has : FlagSet → ℕ → Bool
has a i = a.bits / 2 ^ i % 2 == 1

-- Each flag below k that is in a is in b.
abbrev pub within : ℕ → FlagSet → FlagSet → Bool
within zero a b = true
within (suc k) a b = (not (has a k) || has b k) && within k a b

-- Flags: every flag of a is in b.
abbrev pub flags_at_most : FlagSet → FlagSet → Bool
flags_at_most a b = within flag_count a b

-- The same as a statement.
abbrev pub Within : FlagSet → FlagSet → Type 0
Within a b = (i : ℕ) → i < flag_count → T (has a i) → T (has b i)

-- Band: b lies inside a, ends included.
abbrev pub band_at_most : Span → Span → Bool
band_at_most a b = int_le a.low b.low && int_le b.high a.high

-- Turned: b is at most a in the order below.
abbrev pub turned_at_most : {L : Type 0} → (L → L → Bool) → L → L → Bool
turned_at_most at_most a b = at_most b a

-- Exact: a is at most b, and b at most a, in the order below.
abbrev pub exact_at_most : {L : Type 0} → (L → L → Bool) → L → L → Bool
exact_at_most at_most a b = at_most a b && at_most b a

-- Both: labels are pairs, and each part is at most its like.
abbrev pub both_at_most : {K L : Type 0} → (K → K → Bool) → (L → L → Bool) → K × L → K × L → Bool
both_at_most one other a b = one a.0 b.0 && other a.1 b.1
