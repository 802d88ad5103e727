-- Each order keeps the two laws, whatever stands below it: proofs that the traits' members name. Assumes nothing.
use Rattle.std.specs.Prelude.{ℕ, zero, suc, Bool, true, false, not, ◌&&◌, ◌||◌, T, ℤ, ◌≤ℤ◌, int_le}
use Rattle.std.proofs.Common.{arith, rules}
use Rattle.std.proofs.lemmas.Int.{ints}
use Rattle.model.specs.declared.flags.FlagSet.{FlagSet}
use Rattle.model.specs.Orders.{Preorder, has, within, flags_at_most, flag_count, band_at_most, turned_at_most, exact_at_most, both_at_most}

-- Two tests that hold, and their parts.
pub both_hold : (x y : Bool) → T x → T y → T (x && y)
both_hold true true p q = tt
both_hold true false p q = absurd q
both_hold false y p q = absurd p

pub first_holds : (x y : Bool) → T (x && y) → T x
first_holds true y p = tt
first_holds false y p = absurd p

pub second_holds : (x y : Bool) → T (x && y) → T y
second_holds true y p = p
second_holds false y p = absurd p

implied_self : (x : Bool) → T (not x || x)
implied_self true = tt
implied_self false = tt

implied_through : (x y z : Bool) → T (not x || y) → T (not y || z) → T (not x || z)
implied_through false y z p q = tt
implied_through true true z p q = q
implied_through true false z p q = absurd p

within_self : (k : ℕ) (a : FlagSet) → T (within k a a)
within_self zero a = tt
within_self (suc k) a = both_hold _ _ (implied_self (has a k)) (within_self k a)

within_through : (k : ℕ) (a b c : FlagSet) → T (within k a b) → T (within k b c) → T (within k a c)
within_through zero a b c p q = tt
within_through (suc k) a b c p q =
    both_hold _ _
    (implied_through (has a k) (has b k) (has c k) (first_holds _ _ p) (first_holds _ _ q))
    (within_through k a b c (second_holds _ _ p) (second_holds _ _ q))

pub flags_lawful : Preorder flags_at_most
flags_lawful = record { reflexive = within_self flag_count; transitive = within_through flag_count }

-- A lawful order on what two functions take out of a label is lawful on the labels.
pub pulled_lawful : {J K L : Type 0} (f : L → J) (g : L → K) {one : J → J → Bool} {other : K → K → Bool} → Preorder one →
    Preorder other → Preorder (λ (a b : L). one (f a) (f b) && other (g a) (g b))
pulled_lawful f g p q = record {
  reflexive = λ a. grind (arith, p.reflexive (f a), q.reflexive (g a));
  transitive = λ a b c x y. grind (arith, p.transitive (f a) (f b) (f c), q.transitive (g a) (g b) (g c));
}

pub turned_lawful : {L : Type 0} {at_most : L → L → Bool} → Preorder at_most → Preorder (turned_at_most at_most)
turned_lawful p = record { reflexive = p.reflexive; transitive = λ a b c x y. p.transitive c b a y x }

pub exact_lawful : {L : Type 0} {at_most : L → L → Bool} → Preorder at_most → Preorder (exact_at_most at_most)
exact_lawful p = pulled_lawful (λ a. a) (λ a. a) p (turned_lawful p)

pub both_lawful : {K L : Type 0} {one : K → K → Bool} {other : L → L → Bool} → Preorder one → Preorder other →
    Preorder (both_at_most one other)
both_lawful p q = pulled_lawful (λ a. a.0) (λ a. a.1) p q

le_z_through : (a b c : ℤ) → a ≤ℤ b → b ≤ℤ c → a ≤ℤ c
le_z_through a b c p q = omega (arith, ints)

le_z_lawful : Preorder int_le
le_z_lawful = record { reflexive = λ a. search (rules, ints); transitive = λ a b c p q. search (rules, ints) }

pub band_lawful : Preorder band_at_most
band_lawful = pulled_lawful (λ a. a.low) (λ a. a.high) le_z_lawful (turned_lawful le_z_lawful)
