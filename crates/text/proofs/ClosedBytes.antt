-- What closes ends with the last bracket, and has no newline. Assumes nothing.
use Rattle.std.proofs.Common.{◌≡◌, ℕ, ◌<◌, true, false, eqb, ltb, List, [], ◌∷◌, ◌++◌, ap, refl, ltb-true, eqb-true, arith}
use Rattle.std.proofs.lemmas.Bool.{and_parts, false_from_ne_true}
use Rattle.std.proofs.lemmas.Bool.Decides.{nat_tests}
use Rattle.std.proofs.lemmas.List.Elements.{All-nil, All-cons}
use Rattle.text.specs.declared.form.Sort.{Sort}
use Rattle.text.specs.declared.form.Sort.TheVariants.{Open, Close, Foreign}
use Rattle.text.specs.Lines.{sort_of, may_precede, depth_after, closes}
use Rattle.text.proofs.Pieces.{Lacks}

-- Only ) closes.
closing_byte : (b : ℕ) → sort_of b ≡ Close → b ≡ 41
closing_byte b is = grind (arith, nat_tests)

last_sort : (s : Sort) (depth : ℕ) → 0 < depth → depth_after s depth ≡ 0 → s ≡ Close
last_sort Close depth opened ends = refl
last_sort s depth opened ends = absurd (omega arith)

-- What a byte that goes on says of itself and of what follows.
record Goes (before : Sort) (depth b : ℕ) (bs : List ℕ) : Type 0 where
  opened : 0 < depth
  allowed : may_precede before (sort_of b) ≡ true
  closes_then : closes (sort_of b) (depth_after (sort_of b) depth) bs ≡ true

goes : (before : Sort) (depth b : ℕ) (bs : List ℕ) → closes before depth (b ∷ bs) ≡ true → Goes before depth b bs
goes before depth b bs is =
    let parts = and_parts (ltb 0 depth) _ is in
    let next = and_parts (may_precede before (sort_of b)) _ parts.1 in
    record { opened = ltb-true 0 depth parts.0; allowed = next.0; closes_then = next.1 }

-- What closes ends with ).
pub closes_end : (before : Sort) (depth b : ℕ) (bs : List ℕ) → closes before depth (b ∷ bs) ≡ true → (front : List ℕ) × (b ∷ bs ≡ front ++ 41 ∷ [])
closes_end before depth b [] is =
    let step = goes before depth b [] is in
    let last = closing_byte b (last_sort (sort_of b) depth step.opened (eqb-true _ 0 step.closes_then)) in
    ([], ap (λ c. c ∷ []) last)
closes_end before depth b (c ∷ cs) is =
    let step = goes before depth b (c ∷ cs) is in
    let end = closes_end (sort_of b) (depth_after (sort_of b) depth) c cs step.closes_then in
    (b ∷ end.0, ap (λ l. b ∷ l) end.1)

-- A newline follows nothing.
follows_none : (before : Sort) → may_precede before Foreign ≡ false
follows_none Open = refl
follows_none before = refl

no_newline : (before : Sort) (b : ℕ) → may_precede before (sort_of b) ≡ true → eqb b 10 ≡ false
no_newline before b allowed = false_from_ne_true (eqb b 10) (λ yes. let none = follows_none before in let same = ap sort_of (eqb-true b 10 yes) in cc)

pub closes_lacks : (before : Sort) (depth : ℕ) (bytes : List ℕ) → closes before depth bytes ≡ true → Lacks 10 bytes
closes_lacks before depth [] is = All-nil (λ b. eqb b 10 ≡ false)
closes_lacks before depth (b ∷ bs) is =
    let step = goes before depth b bs is in
    All-cons (λ c. eqb c 10 ≡ false) b bs (no_newline before b step.allowed) (closes_lacks (sort_of b) _ bs step.closes_then)
