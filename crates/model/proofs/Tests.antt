-- A test that holds is true, and the other way round. Assumes nothing.
use Rattle.std.proofs.Common.{◌≡◌, Bool, true, false, T, sym, refl, subst}

pub holds_true : (b : Bool) → T b → b ≡ true
holds_true true h = refl
holds_true false h = absurd h

pub true_holds : (b : Bool) → b ≡ true → T b
true_holds b e = subst T (sym e) tt

pub false_fails : (b : Bool) → b ≡ false → T b → ⊥
false_fails b e h = subst T e h
