-- Lines written one by one. Assumes nothing.
use Rattle.std.proofs.Common.{◌≡◌, ℕ, suc, ◌+◌, ◌<◌, true, List, [], ◌∷◌, ◌++◌, length, get_or, set, take, drop, Option, Some, is_some, Bor, ℤ, sym, ap, ◌∙◌, arith}
use Rattle.std.proofs.lemmas.Grind.{common_steps}
use Rattle.std.proofs.lemmas.List.{map-append, take_more}
use Rattle.std.proofs.lemmas.List.Elements.{All-get_or}
use Rattle.std.proofs.lemmas.List.Sums.{AllPass-from_list_all}
use Rattle.until.specs.declared.formula.Line.{Line}
use Rattle.text.specs.Numbers.{both}
use Rattle.text.specs.FormulaParts.{line_with, shown, line_of, lines_of}
use Rattle.text.proofs.FormulaMeanings.{lines_of-append, each_there}
use Rattle.text.proofs.AllThere.{all_there}

module _ {L : Type 0} (understood : List ℤ → Option L) where
  pub length-lines_of : (xs : List (Line (List ℕ))) (ys : List (Line L)) → lines_of understood xs ≡ Some ys → length xs ≡ length ys
  length-lines_of [] ys e = let none : [] ≡ ys = cc in ap length none
  length-lines_of (x ∷ xs) ys e =
      let f = all_there (line_of understood x) (lines_of understood xs) ys e in
      ap suc (length-lines_of xs f.others f.others_so) ∙ ap length (sym f.are)

  pub there_at : (xs : List (Line (Bor (List ℕ)))) (i : ℕ) (x : Line (Bor (List ℕ))) → is_some (lines_of understood (shown xs)) ≡ true → i < length xs → is_some (line_of understood (line_with (λ b. b.now) (get_or xs i x))) ≡ true
  there_at xs i x all inside =
      let each = AllPass-from_list_all (λ l. is_some (line_of understood (line_with (λ b. b.now) l))) xs (each_there understood xs ∙ all) in
      All-get_or (λ l. is_some (line_of understood (line_with (λ b. b.now) l)) ≡ true) xs i x inside each

  pub one_written : (xs : List (Line (Bor (List ℕ)))) (d : Line (Bor (List ℕ))) (k : ℕ) (lines : List (Line L)) (l : Line L) → k < length xs → k < length lines → line_of understood (line_with (λ b. b.now) (get_or xs k d)) ≡ Some l →
      lines_of understood (shown (take k xs)) ≡ Some (take k lines) → lines_of understood (shown (take (k + 1) xs)) ≡ Some (take (k + 1) (set lines k l))
  one_written xs d k lines l inside room read before =
      let x : Line (Bor (List ℕ)) = get_or xs k d in
      let written : take (k + 1) (set lines k l) ≡ take k lines ++ l ∷ [] = grind (arith, common_steps) in
      ap (λ ys. lines_of understood (shown ys)) (take_more xs k d inside)
      ∙ ap (lines_of understood) (map-append (line_with (λ b. b.now)) (take k xs) (x ∷ []))
      ∙ lines_of-append understood (shown (take k xs)) (line_with (λ b. b.now) x ∷ [])
      ∙ (λ i. both ◌++◌ (before i) (both ◌∷◌ (read i) (Some [])))
      ∙ ap Some (sym written)

  pub rest_kept : (old lines : List (Line L)) (k : ℕ) (l : Line L) → drop k lines ≡ drop k old → drop (k + 1) (set lines k l) ≡ drop (k + 1) old
  rest_kept old lines k l e = grind (arith, common_steps, ap (drop 1) e)
