-- Labels stored at their states, from the first on, are the first of memory. Assumes nothing.
use Rattle.std.proofs.Common.{◌≡◌, ℕ, ◌+◌, ◌<◌, ◌≤◌, List, [], ◌∷◌, ◌++◌, length, get_or, set, drop, refl, sym, ap, ◌∙◌, arith, append_assoc}
use Rattle.std.proofs.lemmas.List.{append-nil, drop_more, set_at, length_push}
use Rattle.model.specs.Memory.{over}
use Rattle.text.specs.declared.fault.Side.TheVariants.{Right}
use Rattle.text.specs.Filling.{labels_stored}
use Rattle.text.proofs.SideRows.{right}
use Rattle.text.proofs.Held.{label_rows, step_rows}

module _ {L : Type 0} (memory : List L) where
  one_more : (done : List L) (l : L) (s : ℕ) → length done ≡ s → s < length memory → set (over done memory) s l ≡ over (done ++ l ∷ []) memory
  one_more done l s e low =
      ap (λ k. set (done ++ drop k memory) s l) e
      ∙ ap (λ xs. set (done ++ xs) s l) (drop_more memory s l low)
      ∙ set_at done (get_or memory s l) (drop (s + 1) memory) l s e
      ∙ sym (append_assoc done (l ∷ []) (drop (s + 1) memory))
      ∙ ap (λ k. (done ++ l ∷ []) ++ drop k memory) (sym (length_push done l ∙ ap (λ k. k + 1) e))

  steps_store_none : (now : List L) (qs : List ℕ) → labels_stored Right (right (step_rows qs)) now ≡ now
  steps_store_none now [] = refl
  steps_store_none now (q ∷ qs) = steps_store_none now qs

  pub labels_in_order : (s : ℕ) (ls : List L) (qs : List ℕ) (done : List L) → length done ≡ s → s + length ls ≤ length memory → labels_stored Right (right (label_rows s ls (step_rows qs))) (over done memory) ≡ over (done ++ ls) memory
  labels_in_order s [] qs done e room = steps_store_none (over done memory) qs ∙ ap (λ x. over x memory) (sym (append-nil done))
  labels_in_order s (l ∷ ls) qs done e room =
      ap (labels_stored Right (right (label_rows (s + 1) ls (step_rows qs)))) (one_more done l s e (omega arith))
      ∙ labels_in_order (s + 1) ls qs (done ++ l ∷ []) (length_push done l ∙ ap (λ k. k + 1) e) (omega arith)
      ∙ ap (λ x. over x memory) (append_assoc done (l ∷ []) ls)
