-- Labels of formulas, cut at their brackets. Assumes nothing.
use Rattle.std.proofs.Common.{◌≡◌, ℕ, ◌<◌, ◌==◌, false, List, [], ◌∷◌, length, refl, sym, ap, subst, ◌∙◌, arith}
use Rattle.std.specs.List.{onto_first}
use Rattle.std.proofs.lemmas.Bool.{cond_both}
use Rattle.std.proofs.lemmas.List.Elements.{All-nil, All-cons}
use Rattle.text.specs.Lines.{pieces, first_piece}
use Rattle.text.specs.FormulaParts.{LabelFront}
use Rattle.text.proofs.Pieces.{Lacks, some_pieces, pieces_front, pieces_of_two}

first_onto : (b : ℕ) (ps : List (List ℕ)) → first_piece (onto_first b ps) ≡ b ∷ first_piece ps
first_onto b [] = refl
first_onto b (p ∷ ps) = refl

-- a piece lacks the stop
first_lacks : (stop : ℕ) (bytes : List ℕ) → Lacks stop (first_piece (pieces stop bytes))
first_lacks stop [] = All-nil (λ b. (b == stop) ≡ false)
first_lacks stop (b ∷ bs) =
    cond_both (b == stop) ([] ∷ pieces stop bs) (onto_first b (pieces stop bs)) (λ ps. Lacks stop (first_piece ps))
    (λ yes. All-nil (λ b. (b == stop) ≡ false))
    (λ no. rw first_onto (All-cons (λ b. (b == stop) ≡ false) b (first_piece (pieces stop bs)) no (first_lacks stop bs)))

-- a label and its bracket
pub label_front : (bytes label rest : List ℕ) → pieces 41 bytes ≡ label ∷ pieces 41 rest → 0 < length label → LabelFront bytes label rest
label_front bytes label rest e some = record {
  labelled = record { any = some; unclosed = subst (λ ps. Lacks 41 (first_piece ps)) e (first_lacks 41 bytes) };
  is = pieces_of_two 41 bytes label rest e;
}

pub no_label : (bytes : List ℕ) (p : List ℕ) → pieces 41 bytes ≡ p ∷ [] → (label rest : List ℕ) → LabelFront bytes label rest → ⊥
no_label bytes p e label rest front =
    let same : p ∷ [] ≡ label ∷ pieces 41 rest = sym e ∙ ap (pieces 41) front.is ∙ pieces_front 41 label rest front.labelled.unclosed in
    omega (arith, ap length same, some_pieces 41 rest)
