-- The line of a refused formula is its own or the one after it. Assumes nothing.
use Rattle.std.proofs.Common.{◌≡◌, ℕ, ◌≤◌, Bool, true, false, cond, List, [], ◌∷◌, length, Option, Some, None, IfSome, Result, Ok, Err, MatchResult, ℤ, refl, sym, subst, ltb, arith}
use Rattle.until.specs.Formulas.{Formula}
use Rattle.text.specs.declared.fault.Fault.{Fault}
use Rattle.text.specs.declared.fault.Fault.TheVariants.{NoForm, WrongItems, OutOfOrder, ShortMemory, TooLong}
use Rattle.text.specs.declared.fault.Refused.{Refused}
use Rattle.text.specs.Lines.{newline, pieces}
use Rattle.text.specs.Faults.{refused, refused_at}
use Rattle.text.specs.Readings.{text_bound}
use Rattle.text.specs.FormulaTexts.{formula_places, line_checked, placed_first, line_in, Writes, alone, FormulaSaid}

abbrev pub Near : Refused ℕ → Type 0
Near e = IfSome e.place (λ k. k ≤ 2)

abbrev refusal : {A : Type 0} → Refused ℕ → Result A (Refused ℕ)
refusal e = Err e

near : {A : Type 0} (fault : Fault) (k : ℕ) (e : Refused ℕ) → k ≤ 2 → refusal {A = A} (refused_at fault k) ≡ Err e → Near e
near fault k e low h = let same : refused_at fault k ≡ e = cc in subst Near same low

checked_near : (line : List ℕ) (o : Result (Unit {0}) Fault) (e : Refused ℕ) → placed_first line o ≡ Err e → Near e
checked_near line (Ok u) e h = absurd (cc)
checked_near line (Err fault) e h = near fault 1 e (omega arith) h

line_near : (ps : List (List ℕ)) (e : Refused ℕ) → line_in ps ≡ Err e → Near e
line_near [] e h = near OutOfOrder 1 e (omega arith) h
line_near ([] ∷ []) e h = near OutOfOrder 1 e (omega arith) h
line_near ((b ∷ bs) ∷ []) e h = near NoForm 1 e (omega arith) h
line_near ([] ∷ piece ∷ more) e h = checked_near [] (line_checked []) e h
line_near ((b ∷ bs) ∷ piece ∷ more) e h = checked_near (b ∷ bs) (line_checked (b ∷ bs)) e h

unless_near : (long short : Bool) (ps : List (List ℕ)) (e : Refused ℕ) → cond long (Err (refused TooLong (Some 1))) (cond short (Err (refused ShortMemory None)) (line_in ps)) ≡ Err e → Near e
unless_near true short ps e h = near TooLong 1 e (omega arith) h
unless_near false true ps e h = let same : refused ShortMemory None ≡ e = cc in subst Near same tt
unless_near false false ps e h = line_near ps e h

module _ {L : Type 0} (understood : List ℤ → Option L) where
  alone_near : (F : Option (Formula L)) (ps : List (List ℕ)) (e : Refused ℕ) → alone understood F ps ≡ Err e → Near e
  alone_near None ps e h = near WrongItems 1 e (omega arith) h
  alone_near (Some F) [] e h = near OutOfOrder 2 e (omega arith) h
  alone_near (Some F) (line ∷ []) e h = near OutOfOrder 2 e (omega arith) h
  alone_near (Some F) (line ∷ [] ∷ []) e h = absurd (cc)
  alone_near (Some F) (line ∷ [] ∷ p ∷ ps) e h = near OutOfOrder 2 e (omega arith) h
  alone_near (Some F) (line ∷ (b ∷ bs) ∷ ps) e h = near OutOfOrder 2 e (omega arith) h

  -- What is said of a line that is looked at, or why it is not.
  abbrev Told : List ℕ → Result (Formula L) (Refused ℕ) → Result (List ℕ) (Refused ℕ) → Type 0
  Told text said o = MatchResult o (λ line. (F : Option (Formula L)) × Writes understood line F × (said ≡ alone understood F (pieces newline text))) (λ e. said ≡ Err e)

  told_near : (text : List ℕ) (e : Refused ℕ) (o : Result (List ℕ) (Refused ℕ)) → ((x : Refused ℕ) → o ≡ Err x → Near x) → Told text (Err e) o → Near e
  told_near text e (Ok line) rest t = alone_near t.0 (pieces newline text) e (sym t.2)
  told_near text e (Err x) rest t = let same : x ≡ e = cc in subst Near same (rest x refl)

  pub formula_near : (text : List ℕ) (room : ℕ) (e : Refused ℕ) → FormulaSaid understood text room (Err e) → Near e
  formula_near text room e says = told_near text e _ (unless_near (ltb text_bound (length text)) (ltb room formula_places) (pieces newline text)) says
