-- Places that rise, and those that a test picks. Assumes nothing.
use Rattle.std.proofs.Common.{◌≡◌, ℕ, zero, suc, ◌+◌, ◌<◌, ◌≤◌, Bool, false, cond, ◌&&◌, ◌||◌, List, [], ◌∷◌, ◌++◌, eqb, ltb, refl, arith, rules}
use Rattle.std.proofs.lemmas.Bool.Decides.{nat_tests}

-- Each place is above the one before it, the first is not below p, and all are below b.
abbrev pub Rising : ℕ → List ℕ → ℕ → Type 0
Rising p [] b = p ≤ b
Rising p (q ∷ qs) b = (p ≤ q) × Rising (q + 1) qs b

abbrev pub among : ℕ → List ℕ → Bool
among i [] = false
among i (q ∷ qs) = eqb i q || among i qs

-- The places below k that pass.
abbrev pub picked : (ℕ → Bool) → ℕ → List ℕ
picked f zero = []
picked f (suc q) = picked f q ++ cond (f q) (q ∷ []) []

rising_from : (o p : ℕ) (qs : List ℕ) (b : ℕ) → o ≤ p → Rising p qs b → Rising o qs b
rising_from o p [] b le h = omega arith
rising_from o p (q ∷ qs) b le h = (omega (arith, h.0), h.1)

pub rising_end : (p : ℕ) (qs : List ℕ) (b : ℕ) → Rising p qs b → p ≤ b
rising_end p [] b h = h
rising_end p (q ∷ qs) b h = omega (arith, h.0, rising_end (q + 1) qs b h.1)

rising_append : (p : ℕ) (xs : List ℕ) (b : ℕ) (ys : List ℕ) (c : ℕ) → Rising p xs b → Rising b ys c → Rising p (xs ++ ys) c
rising_append p [] b ys c h k = rising_from p b ys c h k
rising_append p (x ∷ xs) b ys c h k = (h.0, rising_append (x + 1) xs b ys c h.1 k)

pub rising_picked : (f : ℕ → Bool) (k : ℕ) → Rising 0 (picked f k) k
rising_picked f zero = omega arith
rising_picked f (suc q) = rising_append 0 (picked f q) q _ (suc q) (rising_picked f q) (search (rules, arith))

pub among_below : (i p : ℕ) (qs : List ℕ) (b : ℕ) → Rising p qs b → i < p → among i qs ≡ false
among_below i p [] b h low = refl
among_below i p (q ∷ qs) b h low = grind (arith, nat_tests, among_below i (q + 1) qs b h.1 (omega (arith, h.0)))

pub among_past : (i p : ℕ) (qs : List ℕ) (b : ℕ) → Rising p qs b → b ≤ i → among i qs ≡ false
among_past i p [] b h high = refl
among_past i p (q ∷ qs) b h high = grind (arith, nat_tests, rising_end (q + 1) qs b h.1, among_past i (q + 1) qs b h.1 high)

among_append : (i : ℕ) (xs ys : List ℕ) → among i (xs ++ ys) ≡ (among i xs || among i ys)
among_append i [] ys = refl
among_append i (x ∷ xs) ys = grind (arith, among_append i xs ys)

among_one : (i q : ℕ) (t : Bool) → among i (cond t (q ∷ []) []) ≡ (eqb i q && t)
among_one i q t = grind arith

pub among_picked : (f : ℕ → Bool) (i k : ℕ) → among i (picked f k) ≡ (ltb i k && f i)
among_picked f i zero = grind (arith, nat_tests)
among_picked f i (suc q) = grind (arith, nat_tests, among_append, among_picked f i q, among_one i q (f q))

-- Rising places are known by which they are.
pub same_places : (p : ℕ) (xs ys : List ℕ) (b : ℕ) → Rising p xs b → Rising p ys b → ((i : ℕ) → among i xs ≡ among i ys) → xs ≡ ys
same_places p [] [] b h k same = refl
same_places p [] (y ∷ ys) b h k same = grind (arith, nat_tests, same y)
same_places p (x ∷ xs) [] b h k same = grind (arith, nat_tests, same x)
same_places p (x ∷ xs) (y ∷ ys) b h k same = (λ j. first j ∷ same_places (x + 1) xs ys b h.1 (rising_from (x + 1) (y + 1) ys b (omega (arith, first)) k.1) rest j)
  where
    first : x ≡ y
    first = grind (arith, nat_tests, same x, same y, among_below x (y + 1) ys b k.1, among_below y (x + 1) xs b h.1)

    rest : (i : ℕ) → among i xs ≡ among i ys
    rest i = grind (arith, nat_tests, first, same i, among_below i (x + 1) xs b h.1, among_below i (y + 1) ys b k.1)
