-- A row written between what stands before it and what stands after it. Assumes nothing.
use Rattle.std.proofs.Common.{◌≡◌, ℕ, ◌+◌, ◌*◌, ◌<◌, ◌≤◌, Bool, List, ◌++◌, length, get_or, take, drop, ap, ◌∙◌, subst, arith}
use Rattle.std.proofs.lemmas.Grind.{common_steps}
use Rattle.std.proofs.lemmas.List.{length-take}
use Rattle.std.proofs.lemmas.Slice.{drop-put_mid}
use Rattle.model.specs.Machines.{Meaning, states}
use Rattle.until.specs.declared.formula.Line.{Line}
use Rattle.until.specs.Lines.{Says}
use Rattle.until.specs.Filled.{HoldsBy, Filled}

pub row_filled : {L : Type 0} (at_most : L → L → Bool) (m : Meaning L) (line : Line L) (k n : ℕ) (before front row rest : List ℕ)
    → n ≡ states m → length front ≡ k * n → front ≡ take (k * n) before → rest ≡ drop (k * n) before → length row ≡ n
    → ((v : ℕ) → v < n → Says (get_or row v 0) (HoldsBy at_most m front line v))
    → Filled at_most m line k before (front ++ (row ++ drop n rest))
row_filled at_most m line k n before front row rest e short f r long said =
    let size : k * n ≡ k * states m = ap (λ i. k * i) e in
    let room : k * n ≤ length before = omega (arith, length-take (k * n) before, ap length f) in
    record {
      front = grind (arith, common_steps);
      said = λ s h.
          let read : get_or row s 0 ≡ get_or (front ++ (row ++ drop n rest)) (k * states m + s) 0 = grind (arith, common_steps) in
          let same : front ≡ take (k * states m) before = f ∙ ap (λ i. take i before) size in
          subst (λ xs. Says (get_or (front ++ (row ++ drop n rest)) (k * states m + s) 0) (HoldsBy at_most m xs line s)) same
          (subst (λ b. Says b (HoldsBy at_most m front line s)) read (said s (omega arith)));
      rest = ap (drop (k * states m + states m)) (cc) ∙ drop-put_mid (k * n) n before row (k * states m + states m) (omega arith) (omega arith) long;
    }
