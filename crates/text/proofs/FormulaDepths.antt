-- A formula is nested no deeper than the brackets of its bytes. Assumes nothing.
use Rattle.std.proofs.Common.{◌≡◌, ℕ, ◌+◌, ◌-◌, ◌<◌, ◌≤◌, ◌==◌, max, false, cond, ◌||◌, List, [], ◌∷◌, ◌++◌, length, get_or, drop, All, refl, add-one, drop-cons, arith}
use Rattle.std.proofs.lemmas.Bool.{cond_both}
use Rattle.std.proofs.lemmas.List.Elements.{All-head, All-tail}
use Rattle.until.specs.Formulas.{Formula, truth, at, and, until}
use Rattle.text.specs.declared.form.Sort.{Sort}
use Rattle.text.specs.declared.form.Sort.TheVariants.{Open, Close, Space, Letter, Figure, Foreign}
use Rattle.text.specs.Lines.{is_between, sort_of, depth_after}
use Rattle.text.specs.FormulaTexts.{deepest}
use Rattle.text.specs.FormulaParts.{bytes_of, Labelled, nesting}
use Rattle.text.proofs.FormulaFronts.{after_at, after_and, after_until}

after_more : (s : Sort) (d e : ℕ) → d ≤ e → depth_after s d ≤ depth_after s e
after_more Open d e h = omega arith
after_more Close d e h = omega arith
after_more Space d e h = h
after_more Letter d e h = h
after_more Figure d e h = h
after_more Foreign d e h = h

deepest_more : (bs : List ℕ) (d e : ℕ) → d ≤ e → deepest d bs ≤ deepest e bs
deepest_more [] d e h = h
deepest_more (b ∷ bs) d e h = omega (arith, deepest_more bs _ _ (after_more (sort_of b) d e h))

deepest_low : (bs : List ℕ) (d : ℕ) → d ≤ deepest d bs
deepest_low [] d = omega arith
deepest_low (b ∷ bs) d = omega arith

-- only a closing bracket lowers the depth
no_lower : (b d : ℕ) → (b == 41) ≡ false → d ≤ depth_after (sort_of b) d
no_lower b d h =
    rw h
    (cond_both (b == 40) Open (cond (b == 32) Space (cond (is_between 97 122 b) Letter (cond (b == 45 || is_between 48 57 b) Figure Foreign))) (λ s. d ≤ depth_after s d)
    (λ yes. omega arith)
    (λ no. cond_both (b == 32) Space (cond (is_between 97 122 b) Letter (cond (b == 45 || is_between 48 57 b) Figure Foreign)) (λ s. d ≤ depth_after s d)
    (λ yes. omega arith)
    (λ no. cond_both (is_between 97 122 b) Letter (cond (b == 45 || is_between 48 57 b) Figure Foreign) (λ s. d ≤ depth_after s d)
    (λ yes. omega arith)
    (λ no. cond_both (b == 45 || is_between 48 57 b) Figure Foreign (λ s. d ≤ depth_after s d) (λ yes. omega arith) (λ no. omega arith)))))

past_label : (a rest : List ℕ) (d : ℕ) → All (λ b. (b == 41) ≡ false) a → deepest d rest ≤ deepest d (a ++ rest)
past_label [] rest d h = omega arith
past_label (b ∷ a) rest d h =
    let here = no_lower b d (All-head (λ b. (b == 41) ≡ false) b a h) in
    let more = past_label a rest (depth_after (sort_of b) d) (All-tail (λ b. (b == 41) ≡ false) b a h) in
    let up = deepest_more rest d (depth_after (sort_of b) d) here in
    omega arith

-- a formula and what comes after it
record Within (d n : ℕ) (bytes rest : List ℕ) : Type 0 where
  nested : d + n ≤ deepest d bytes
  after : deepest d rest ≤ deepest d bytes

closed : (d : ℕ) (rest : List ℕ) → deepest d rest ≤ deepest (d + 1) (41 ∷ rest)
closed d rest = omega (arith, deepest_more rest d (d + 1 - 1) (omega arith))

two_within : (d m n : ℕ) (one two rest : List ℕ) → Within (d + 1) m one (32 ∷ two) → Within (d + 1) n two (41 ∷ rest) → (d + 1 + max m n ≤ deepest (d + 1) one) × (deepest d rest ≤ deepest (d + 1) one)
two_within d m n one two rest p q = (omega (arith, p.nested, p.after, q.nested), omega (arith, p.after, q.after, closed d rest))

within : (F : Formula (List ℕ)) (d : ℕ) (rest : List ℕ) → Labelled F → Within d (nesting F) (bytes_of F ++ rest) rest
within truth d rest h = record { nested = omega arith; after = omega (arith, closed d rest) }
within (at a) d rest h =
    rw after_at (record {
      nested = omega (arith, deepest_low (a ++ 41 ∷ rest) (d + 1));
      after = omega (arith, past_label a (41 ∷ rest) (d + 1) h.unclosed, closed d rest);
    })
within (and F G) d rest h =
    let two = two_within d _ _ _ _ rest (within F (d + 1) (32 ∷ (bytes_of G ++ 41 ∷ rest)) h.0) (within G (d + 1) (41 ∷ rest) h.1) in
    rw after_and (record { nested = omega (arith, two.0); after = omega (arith, two.1) })
within (until F G) d rest h =
    let two = two_within d _ _ _ _ rest (within F (d + 1) (32 ∷ (bytes_of G ++ 41 ∷ rest)) h.0) (within G (d + 1) (41 ∷ rest) h.1) in
    rw after_until (record { nested = omega (arith, two.0); after = omega (arith, two.1) })

pub nesting_deepest : (F : Formula (List ℕ)) (rest : List ℕ) → Labelled F → nesting F ≤ deepest 0 (bytes_of F ++ rest)
nesting_deepest F rest h = omega (arith, (within F 0 rest h).nested)

-- a byte more
pub one_deeper : (s : Sort) (d : ℕ) → depth_after s d ≤ d + 1
one_deeper Open d = omega arith
one_deeper Close d = omega arith
one_deeper Space d = omega arith
one_deeper Letter d = omega arith
one_deeper Figure d = omega arith
one_deeper Foreign d = omega arith

pub deepest_step : (line : List ℕ) (i d m : ℕ) → i < length line → d ≤ m → let e = depth_after (sort_of (get_or line i 0)) d in max (max e m) (deepest e (drop (i + 1) line)) ≡ max m (deepest d (drop i line))
deepest_step line i d m inside low =
    let e : ℕ = depth_after (sort_of (get_or line i 0)) d in
    let here : deepest d (drop i line) ≡ max d (deepest e (drop (i + 1) line)) = rw (add-one, drop-cons line i 0 inside) refl in
    omega (arith, deepest_low (drop (i + 1) line) e)
