-- Formulas joined by "and" hold where each of them does. Assumes nothing.
use Rattle.std.proofs.Common.{ℕ, Bool, List, [], ◌∷◌, ◌++◌}
use Rattle.model.specs.Machines.{Meaning}
use Rattle.until.specs.Formulas.{Formula, Holds}
use Rattle.strikes.specs.Told.{conjoined, conj}

module _ {L : Type 0} (at_most : L → L → Bool) (m : Meaning L) (t : ℕ) where
  -- each of the formulas holds at t
  abbrev pub Each : List (Formula L) → Type 0
  Each [] = Unit {0}
  Each (F ∷ Fs) = Holds at_most m F t × Each Fs

  pub each_conjoined : (F : Formula L) (Fs : List (Formula L)) → Each (F ∷ Fs) → Holds at_most m (conjoined F Fs) t
  each_conjoined F [] h = h.0
  each_conjoined F (G ∷ Gs) h = (h.0, each_conjoined G Gs h.1)

  pub conjoined_each : (F : Formula L) (Fs : List (Formula L)) → Holds at_most m (conjoined F Fs) t → Each (F ∷ Fs)
  conjoined_each F [] h = (h, tt)
  conjoined_each F (G ∷ Gs) h = (h.0, conjoined_each G Gs h.1)

  pub each_conj : (Fs : List (Formula L)) → Each Fs → Holds at_most m (conj Fs) t
  each_conj [] h = tt
  each_conj (F ∷ Fs) h = each_conjoined F Fs h

  pub conj_each : (Fs : List (Formula L)) → Holds at_most m (conj Fs) t → Each Fs
  conj_each [] h = tt
  conj_each (F ∷ Fs) h = conjoined_each F Fs h

  pub each_front : (Fs Gs : List (Formula L)) → Each (Fs ++ Gs) → Each Fs
  each_front [] Gs h = tt
  each_front (F ∷ Fs) Gs h = (h.0, each_front Fs Gs h.1)

  pub each_back : (Fs Gs : List (Formula L)) → Each (Fs ++ Gs) → Each Gs
  each_back [] Gs h = h
  each_back (F ∷ Fs) Gs h = each_back Fs Gs h.1

  pub each_append : (Fs Gs : List (Formula L)) → Each Fs → Each Gs → Each (Fs ++ Gs)
  each_append [] Gs h k = k
  each_append (F ∷ Fs) Gs h k = (h.0, each_append Fs Gs h.1 k)
