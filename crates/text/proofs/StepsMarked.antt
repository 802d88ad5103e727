-- Steps stored at their places, after the header has cleared them, are the grid of the places. Assumes nothing.
use Rattle.std.proofs.Common.{◌≡◌, ℕ, ◌+◌, ◌*◌, false, List, [], ◌∷◌, ◌++◌, length, set, replicate, drop, refl, sym, ap, ◌∙◌, arith, length-set}
use Rattle.std.proofs.lemmas.List.{length-replicate, set-append_left}
use Rattle.text.specs.declared.fault.Side.TheVariants.{Right}
use Rattle.text.specs.declared.row.Form.{Form}
use Rattle.text.specs.declared.row.Form.TheVariants.{Machine, Trace}
use Rattle.text.specs.declared.row.Row.{Row}
use Rattle.text.specs.declared.row.Row.TheVariants.{Header}
use Rattle.text.specs.Rows.{is_machine}
use Rattle.text.specs.Readings.{side_read, marked_at, grid, steps_after}
use Rattle.text.specs.Filling.{steps_stored}
use Rattle.text.proofs.SideRows.{right}
use Rattle.text.proofs.Held.{label_rows, step_rows}
use Rattle.text.proofs.Places.{Rising, rising_end}
use Rattle.text.proofs.Grids.{length-marked}

module _ {L : Type 0} where
  labels_mark_none : (s : ℕ) (ls : List L) (rows : List (Row L)) (now : List ℕ) → steps_stored Right (right (label_rows s ls rows)) now ≡ steps_stored Right (right rows) now
  labels_mark_none s [] rows now = refl
  labels_mark_none s (l ∷ ls) rows now = labels_mark_none (s + 1) ls rows now

steps_mark : (L : Type 0) (n place : ℕ) (qs bytes rest : List ℕ) → length bytes ≡ n * n → Rising place qs (n * n) → steps_stored Right (right (step_rows {L = L} qs)) (bytes ++ rest) ≡ marked_at bytes qs ++ rest
steps_mark L n place [] bytes rest e h = refl
steps_mark L n place (q ∷ qs) bytes rest e h =
    ap (steps_stored Right (right (step_rows {L = L} qs))) (set-append_left bytes rest q 1 (omega (arith, e, rising_end (q + 1) qs (n * n) h.1)))
    ∙ steps_mark L n (q + 1) qs (set bytes q 1) rest (length-set bytes q 1 ∙ e) h.1

module _ {L : Type 0} (ls : List L) (places memory : List ℕ) (rising : Rising 0 places (length ls * length ls)) where
  pub steps_marked : (form : Form) → (is_machine form ≡ false → places ≡ []) → steps_stored Right (right (Header form (length ls) ∷ label_rows 0 ls (step_rows places))) memory ≡ steps_after (side_read form (length ls)) places memory
  steps_marked Machine bare =
      let n = length ls in
      let clear = replicate (n * n) 0 in
      labels_mark_none 0 ls (step_rows places) (clear ++ drop (length clear) memory)
      ∙ steps_mark L n 0 places clear (drop (length clear) memory) (length-replicate (n * n) 0) rising
      ∙ ap (λ k. grid n places ++ drop k memory) (sym (length-marked clear places))
  steps_marked Trace bare = labels_mark_none 0 ls (step_rows places) memory ∙ ap (λ qs. steps_stored Right (right (step_rows {L = L} qs)) memory) (bare refl)
