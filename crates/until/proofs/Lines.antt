-- Lines that name earlier lines. Assumes nothing.
use Rattle.std.proofs.Common.{◌≡◌, ℕ, suc, ◌<◌, true, ◌&&◌, List, [], ◌∷◌, length, get_or, refl, ap, ◌∙◌, add-one, arith}
use Rattle.std.specs.List.{list_all, enumerate_from}
use Rattle.std.proofs.lemmas.List.Elements.{All-get_or}
use Rattle.std.proofs.lemmas.List.FromFn.{length-enumerate_from, get_or-enumerate_from}
use Rattle.std.proofs.lemmas.List.Sums.{AllPass-from_list_all}
use Rattle.until.specs.declared.formula.Line.{Line}
use Rattle.until.specs.Lines.{names_earlier, all_name_earlier}

module _ {L : Type 0} where
  -- each line with its number
  pub each_earlier : (k : ℕ) (ls : List (Line L)) → list_all (λ p. names_earlier p.0 p.1) (enumerate_from k ls) ≡ all_name_earlier k ls
  each_earlier k [] = refl
  each_earlier k (l ∷ ls) = ap (λ b. names_earlier k l && b) (rw add-one (each_earlier (suc k) ls))

  pub line_names : (ls : List (Line L)) (k : ℕ) (line : Line L) → all_name_earlier 0 ls ≡ true → k < length ls → line ≡ get_or ls k line → names_earlier k line ≡ true
  line_names ls k line all low is =
      let numbered = get_or-enumerate_from 0 ls k (0, line) low in
      let named = AllPass-from_list_all (λ p. names_earlier p.0 p.1) (enumerate_from 0 ls) (each_earlier 0 ls ∙ all) in
      let names = All-get_or (λ p. names_earlier p.0 p.1 ≡ true) (enumerate_from 0 ls) k (0, line) (omega (arith, length-enumerate_from 0 ls)) named in
      grind (arith, names, numbered, is)
