-- Lines that denote the formulas of strikes. Assumes nothing.
use Rattle.std.specs.Prelude.{◌≡◌, ℕ, ◌<◌, true, cond, List, [], ◌∷◌, ◌++◌, length, map, reverse, None, Some, Option, ◌==◌}
use Rattle.model.specs.Machines.{Meaning}
use Rattle.until.specs.declared.formula.Line.{Line}
use Rattle.until.specs.Formulas.{Formula}
use Rattle.until.specs.Lines.{denoted, all_name_earlier}
use Rattle.strikes.specs.declared.strike.Strike.{Strike}
use Rattle.strikes.specs.Told.{conjoined, formula_of}

module _ {L : Type 0} where
  -- Line k denotes F.
  pub record Denotes (ls : List (Line L)) (k : ℕ) (F : Formula L) : Type 0 where
    pub there : k < length ls
    pub said : denoted ls k ≡ F

  -- Line k was added at the end.
  pub record Added (before : List (Line L)) (l : Line L) (k : ℕ) (after : List (Line L)) : Type 0 where
    pub place : k ≡ length before
    pub lines : after ≡ before ++ l ∷ []

  -- Lines were added, which name earlier lines if those before do.
  pub record Continues (before after : List (Line L)) : Type 0 where
    pub more : List (Line L)
    pub begins : after ≡ before ++ more
    pub earlier : all_name_earlier 0 before ≡ true → all_name_earlier 0 after ≡ true

  -- A line, where there is one, denotes the formulas joined by "and"; there is none where there are no formulas.
  abbrev pub Joined : List (Line L) → Option ℕ → List (Formula L) → Type 0
  Joined ls None Fs = Fs ≡ []
  Joined ls (Some k) [] = ⊥
  Joined ls (Some k) (F ∷ Fs) = Denotes ls k (conjoined F Fs)

  -- The strikes stand beside lines that there are.
  abbrev pub Beside : List (Line L) → List (Strike × ℕ) → Type 0
  Beside ls [] = Unit {0}
  Beside ls (t ∷ ts) = (t.1 < length ls) × Beside ls ts

  -- What the lines denote beside which the strikes of v stand.
  abbrev pub formulas_of : List (Line L) → List (Strike × ℕ) → ℕ → List (Formula L)
  formulas_of ls [] v = []
  formulas_of ls (t ∷ ts) v = cond (t.0.first == v) (denoted ls t.1 ∷ formulas_of ls ts v) (formulas_of ls ts v)

module _ {L : Type 0} (m : Meaning L) where
  -- Each strike, the newest first, stands beside a line that denotes its formula.
  abbrev pub Tell : List (Line L) → List (Strike × ℕ) → Type 0
  Tell ls [] = Unit {0}
  Tell ls (t ∷ ts) = Denotes ls t.1 (formula_of m (map (λ t. t.0) ts) t.0) × Tell ls ts

  -- The strikes stand beside lines that denote their formulas, and all lines name earlier ones.
  pub record FormulaLines (strikes : List Strike) (ls : List (Line L)) (told : List (Strike × ℕ)) : Type 0 where
    pub names : map (λ t. t.0) told ≡ strikes
    pub tell : Tell ls (reverse told)
    pub earlier : all_name_earlier 0 ls ≡ true
