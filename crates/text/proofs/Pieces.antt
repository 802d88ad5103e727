-- Bytes cut at a stop, and joined again. Assumes nothing.
use Rattle.std.proofs.Common.{◌≡◌, ℕ, ◌+◌, ◌-◌, ◌<◌, ◌≤◌, ◌==◌, ⊎_elim, false, List, [], ◌∷◌, ◌++◌, length, take, drop, Some, None, refl, sym, ap, ◌∙◌, eq-eqb, eqb-true, ltb-true, arith}
use Rattle.std.specs.List.{All, position, position_or_len, before_first, after_first, join_with_byte}
use Rattle.std.proofs.lemmas.Bool.{cases_lt}
use Rattle.std.proofs.lemmas.Bool.Decides.{nat_tests}
use Rattle.std.proofs.lemmas.List.{take_rest}
use Rattle.std.proofs.lemmas.List.Sums.{split_at_first, fails_before_first, passes_at_first}
use Rattle.std.proofs.lemmas.List.Splits.{slice_split_at, slice_split_first, slice_split_none, length-slice_split, join_with_byte-slice_split}
use Rattle.std.proofs.lemmas.Option.{cond_some}
use Rattle.text.specs.Lines.{pieces, first_piece}

-- There is a piece at least.
pub some_pieces : (stop : ℕ) (bytes : List ℕ) → 0 < length (pieces stop bytes)
some_pieces stop bytes = omega (arith, length-slice_split (λ b. b == stop) bytes)

-- The first of some pieces, and the others.
pub first_and_others : (ps : List (List ℕ)) → 0 < length ps → ps ≡ first_piece ps ∷ drop 1 ps
first_and_others [] some = absurd (omega arith)
first_and_others (p ∷ ps) some = refl

abbrev pub Lacks : ℕ → List ℕ → Type 0
Lacks stop bytes = All (λ b. (b == stop) ≡ false) bytes

-- Bytes with no stop are one piece, and so are those before the first stop.
pub pieces_whole : (stop : ℕ) (bytes : List ℕ) → Lacks stop bytes → pieces stop bytes ≡ bytes ∷ []
pieces_whole stop bytes lacks = slice_split_none (λ b. b == stop) bytes lacks

pub pieces_front : (stop : ℕ) (bytes rest : List ℕ) → Lacks stop bytes → pieces stop (bytes ++ stop ∷ rest) ≡ bytes ∷ pieces stop rest
pieces_front stop bytes rest lacks = slice_split_at (λ b. b == stop) bytes stop rest lacks (eq-eqb stop stop refl)

module _ (stop : ℕ) (bytes : List ℕ) where
  abbrev first_stop : ℕ
  first_stop = position_or_len (λ b. b == stop) bytes

  no_stop : length bytes ≤ first_stop → pieces stop bytes ≡ bytes ∷ []
  no_stop past = pieces_whole stop bytes (λ k d low. fails_before_first (λ b. b == stop) bytes k d (omega arith))

  -- The bytes are their pieces with the stop between.
  pub pieces_joined : (ps : List (List ℕ)) → pieces stop bytes ≡ ps → bytes ≡ join_with_byte stop ps
  pieces_joined ps are = sym (join_with_byte-slice_split stop bytes) ∙ ap (join_with_byte stop) are

  -- After the first piece come a stop and the bytes of the others.
  pub more_pieces : (p q : List ℕ) (ps : List (List ℕ)) → pieces stop bytes ≡ p ∷ q ∷ ps → (rest : List ℕ) × (bytes ≡ p ++ stop ∷ rest) × (pieces stop rest ≡ q ∷ ps)
  more_pieces p q ps is = ⊎_elim found (λ past. let whole = no_stop past in cc) (cases_lt first_stop (length bytes))
    where
      found : first_stop < length bytes → (rest : List ℕ) × (bytes ≡ p ++ stop ∷ rest) × (pieces stop rest ≡ q ∷ ps)
      found low =
          let test = λ (b : ℕ). b == stop in
          let rest = after_first test bytes in
          let cut = slice_split_first test bytes 0 low in
          let first : before_first test bytes ≡ p = cc in
          let at = eqb-true _ stop (passes_at_first test bytes 0 low) in
          (rest, split_at_first test bytes 0 low ∙ (λ i. first i ++ at i ∷ rest), cc)

  -- What is cut off at a first stop that was looked for.
  pub piece_found : (n : ℕ) → position (λ b. b == stop) bytes ≡ Some n → pieces stop bytes ≡ take n bytes ∷ pieces stop (take (length bytes - (n + 1)) (drop (n + 1) bytes))
  piece_found n e =
      let found = cond_some _ _ n e in
      slice_split_first (λ b. b == stop) bytes 0 (ltb-true _ _ found.0)
      ∙ ap (λ k. take k bytes ∷ pieces stop (drop (k + 1) bytes)) found.1
      ∙ ap (λ rest. take n bytes ∷ pieces stop rest) (sym (take_rest bytes (n + 1)))

  pub whole_piece : position (λ b. b == stop) bytes ≡ None → pieces stop bytes ≡ bytes ∷ []
  whole_piece e = no_stop (grind (arith, nat_tests))

-- A piece and those of some bytes come from the piece, a stop and the bytes.
pub pieces_of_two : (stop : ℕ) (bytes line rest : List ℕ) → pieces stop bytes ≡ line ∷ pieces stop rest → bytes ≡ line ++ stop ∷ rest
pieces_of_two stop bytes line rest cut = by (pieces stop rest) refl
  where
    by : (ps : List (List ℕ)) → pieces stop rest ≡ ps → bytes ≡ line ++ stop ∷ rest
    by [] none = let some = some_pieces stop rest in absurd (omega (arith, ap length none))
    by (q ∷ ps) is =
        let m = more_pieces stop bytes line q ps (cut ∙ ap (λ xs. line ∷ xs) is) in
        m.1 ∙ ap (λ xs. line ++ stop ∷ xs) (pieces_joined stop m.0 (q ∷ ps) m.2 ∙ sym (pieces_joined stop rest (q ∷ ps) is))
