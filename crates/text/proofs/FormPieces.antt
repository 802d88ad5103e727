-- The pieces of what stands inside a form. Assumes nothing.
use Rattle.std.proofs.Common.{◌≡◌, ℕ, List, [], ◌∷◌, ◌++◌, map, All, ℤ, codes, refl, sym, ap, ◌∙◌, append_assoc, append-nil, length-append, take_at, arith}
use Rattle.std.specs.Fmt.{signed_decimal}
use Rattle.std.specs.List.{join_with_byte}
use Rattle.std.proofs.lemmas.List.Elements.{All-head, All-tail}
use Rattle.text.specs.declared.word.Word.{Word}
use Rattle.text.specs.Lines.{pieces, inside}
use Rattle.text.specs.Numbers.{items}
use Rattle.text.specs.Words.{letters_of}
use Rattle.text.specs.Writings.{form}
use Rattle.text.proofs.Pieces.{Lacks, pieces_whole, pieces_front}
use Rattle.text.proofs.WrittenNumbers.{Small}
use Rattle.text.proofs.WordBytes.{number_in_word, letters_in_word, not_in_word}

pub inside_brackets : (bytes : List ℕ) → inside (40 ∷ (bytes ++ 41 ∷ [])) ≡ bytes
inside_brackets bytes = take_at bytes (41 ∷ []) _ (omega (arith, length-append bytes (41 ∷ [])))

pub inside_form : (w : Word) (zs : List ℤ) → inside (form w zs) ≡ letters_of w ++ items zs
inside_form w zs = ap (λ l. inside (40 ∷ l)) (sym (append_assoc (letters_of w) (items zs) (codes ")"))) ∙ inside_brackets (letters_of w ++ items zs)

-- A word and numbers, each after a space, are cut there.
pub pieces_items : (word : List ℕ) (zs : List ℤ) → Lacks 32 word → All Small zs → pieces 32 (word ++ items zs) ≡ word ∷ map signed_decimal zs
pieces_items word [] lacks small = ap (pieces 32) (append-nil word) ∙ pieces_whole 32 word lacks
pieces_items word (z ∷ zs) lacks small =
    let number = not_in_word 32 refl (signed_decimal z) (number_in_word z (All-head Small z zs small)) in
    pieces_front 32 word (signed_decimal z ++ items zs) lacks
    ∙ ap (λ ps. word ∷ ps) (pieces_items (signed_decimal z) zs number (All-tail Small z zs small))

pub form_pieces : (w : Word) (zs : List ℤ) → All Small zs → pieces 32 (inside (form w zs)) ≡ letters_of w ∷ map signed_decimal zs
form_pieces w zs small =
    ap (pieces 32) (inside_form w zs) ∙ pieces_items (letters_of w) zs (not_in_word 32 refl (letters_of w) (letters_in_word w)) small

pub joined_items : (word : List ℕ) (zs : List ℤ) → join_with_byte 32 (word ∷ map signed_decimal zs) ≡ word ++ items zs
joined_items word [] = sym (append-nil word)
joined_items word (z ∷ zs) = ap (λ l. word ++ 32 ∷ l) (joined_items (signed_decimal z) zs)
