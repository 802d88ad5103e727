-- The formula of a strike. Assumes nothing.
use Rattle.std.specs.Prelude.{ℕ, cond, List, [], ◌∷◌, ◌++◌, Some, None, Option, ◌==◌}
use Rattle.model.specs.Machines.{Meaning, label_of}
use Rattle.until.specs.Formulas.{Formula, truth, at, and, until}
use Rattle.strikes.specs.declared.strike.Ground.{Ground}
use Rattle.strikes.specs.declared.strike.Ground.TheVariants.{ByLabel, ByStep}
use Rattle.strikes.specs.declared.strike.Strike.{Strike}

module _ {L : Type 0} where
  -- F and the others joined by "and", nested to the right.
  abbrev pub conjoined : Formula L → List (Formula L) → Formula L
  conjoined F [] = F
  conjoined F (G ∷ Gs) = and F (conjoined G Gs)

  -- Formulas joined by "and"; (true) where there are none.
  abbrev pub conj : List (Formula L) → Formula L
  conj [] = truth
  conj (F ∷ Fs) = conjoined F Fs

  -- (at a), where there is a label.
  abbrev pub at_label : Option L → Formula L
  at_label None = truth
  at_label (Some a) = at a

  -- What tells a state from another on a ground, where J(u) is known of each state u.
  abbrev pub tell : Meaning L → (ℕ → Formula L) → ℕ → Ground → Formula L
  tell m J s ByLabel = at_label (label_of m s)
  tell m J s (ByStep u) = until (J s) (J u)

  -- The formulas of the strikes whose first state is u, in the order made.
  abbrev pub told : Meaning L → List Strike → ℕ → List (Formula L)
  told m [] u = []
  told m (k ∷ ks) u =
      told m ks u ++ cond (k.first == u) (tell m (λ v. conj (told m ks v)) k.first k.ground ∷ []) []

  -- The formula of the strike k, made after those of `earlier`.
  abbrev pub formula_of : Meaning L → List Strike → Strike → Formula L
  formula_of m earlier k = tell m (λ v. conj (told m earlier v)) k.first k.ground
