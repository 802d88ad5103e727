-- The formula of a strike holds at its first state and fails at its second. Assumes nothing.
use Rattle.std.proofs.Common.{◌≡◌, ℕ, ◌<◌, Bool, true, false, cond, not, ◌&&◌, ◌||◌, T, eqb, List, [], ◌∷◌, ◌++◌, Some, None, Option, sym, subst, eqb→eq}
use lib.Dec.{eqb_refl}
use Rattle.model.specs.Orders.{Preorder}
use Rattle.model.specs.Machines.{Meaning, states, label_of}
use Rattle.until.specs.Walks.{stop, go}
use Rattle.until.specs.Formulas.{Formula, Holds}
use Rattle.until.proofs.Walks.{walk_map}
use Rattle.strikes.specs.declared.strike.Ground.{Ground}
use Rattle.strikes.specs.declared.strike.Ground.TheVariants.{ByLabel, ByStep}
use Rattle.strikes.specs.declared.strike.Strike.{Strike}
use Rattle.strikes.specs.Simulations.{under}
use Rattle.strikes.specs.Strikes.{struck, Standing, Grounded, Fair, Lawful}
use Rattle.strikes.specs.Told.{conj, at_label, tell, told, formula_of}
use Rattle.strikes.specs.Statements.{StrikesTell}
use Rattle.strikes.proofs.Along.{under_self}
use Rattle.strikes.proofs.Conjoined.{Each, each_conj, conj_each, each_front, each_back, each_append}

-- A pair that stands and is not the one that k strikes stands after k.
pub standing_more : (k : Strike) (ks : List Strike) (s t : ℕ) → Standing ks s t → (k.first ≡ s → k.second ≡ t → ⊥) → Standing (k ∷ ks) s t
standing_more k ks s t h other = split (eqb k.first s) (eqb k.second t) (eqb→eq k.first s) (eqb→eq k.second t)
  where
    split : (b c : Bool) → (T b → k.first ≡ s) → (T c → k.second ≡ t) → T (not ((b && c) || struck ks s t))
    split true true f g = absurd (other (f tt) (g tt))
    split true false f g = h
    split false true f g = h
    split false false f g = h

module _ {L : Type 0} (at_most : L → L → Bool) (m : Meaning L) where
  -- J(u), by the strikes so far
  abbrev pub known : List Strike → ℕ → Formula L
  known ks u = conj (told m ks u)

  at_holds : (o : Option L) (t : ℕ) → T (under at_most o (label_of m t)) → Holds at_most m (at_label o) t
  at_holds None t h = tt
  at_holds (Some a) t h = h

  at_under : (o : Option L) (t : ℕ) → Holds at_most m (at_label o) t → T (under at_most o (label_of m t))
  at_under None t h = tt
  at_under (Some a) t h = h

  tell_fails : (J : ℕ → Formula L) (R : ℕ → ℕ → Type 0) → ((s t : ℕ) → t < states m → Holds at_most m (J s) t → R s t) →
      (s t : ℕ) → t < states m → (g : Ground) → Grounded at_most m R s t g → Holds at_most m (tell m J s g) t → ⊥
  tell_fails J R j s t ht ByLabel bad h = bad (at_under (label_of m s) t h)
  tell_fails J R j s t ht (ByStep u) e h = e.1 (walk_map m (j s) (j u) ht h)

  -- what a strike adds to the formulas told of u
  abbrev added : Strike → List Strike → ℕ → List (Formula L)
  added k ks u = cond (eqb k.first u) (formula_of m ks k ∷ []) []

  known_head : (k : Strike) (ks : List Strike) (s t : ℕ) → k.first ≡ s → Holds at_most m (known (k ∷ ks) s) t → Holds at_most m (formula_of m ks k) t
  known_head k ks s t e h =
      split (eqb k.first s) (subst (λ v. T (eqb k.first v)) e (eqb_refl k.first))
      (each_back at_most m t (told m ks s) (added k ks s) (conj_each at_most m t (told m (k ∷ ks) s) h))
    where
      split : (b : Bool) → T b → Each at_most m t (cond b (formula_of m ks k ∷ []) []) → Holds at_most m (formula_of m ks k) t
      split true b h = h.0
      split false b h = absurd b

  known_tail : (k : Strike) (ks : List Strike) (s t : ℕ) → Holds at_most m (known (k ∷ ks) s) t → Holds at_most m (known ks s) t
  known_tail k ks s t h = each_conj at_most m t (told m ks s) (each_front at_most m t (told m ks s) (added k ks s) (conj_each at_most m t (told m (k ∷ ks) s) h))

  formula_fails : (ks : List Strike) (k : Strike) → ((s t : ℕ) → t < states m → Holds at_most m (known ks s) t → Standing ks s t) →
      Fair at_most m (Standing ks) k → Holds at_most m (formula_of m ks k) k.second → ⊥
  formula_fails ks k j fair h = tell_fails (known ks) (Standing ks) j k.first k.second fair.second_state k.ground fair.grounded h

  -- Where all that is known of s holds, the pair stands.
  pub known_stands : (ks : List Strike) → Lawful at_most m ks → (s t : ℕ) → t < states m → Holds at_most m (known ks s) t → Standing ks s t
  known_stands [] law s t ht h = tt
  known_stands (k ∷ ks) law s t ht h =
      standing_more k ks s t (known_stands ks law.1 s t ht (known_tail k ks s t h))
      (λ e d. formula_fails ks k (known_stands ks law.1) law.0 (subst (λ v. Holds at_most m (formula_of m ks k) v) (sym d) (known_head k ks s t e h)))

  module _ (laws : Preorder at_most) where
    tell_holds : (J : ℕ → Formula L) (R : ℕ → ℕ → Type 0) → ((s : ℕ) → Holds at_most m (J s) s) →
        (s t : ℕ) (g : Ground) → Grounded at_most m R s t g → Holds at_most m (tell m J s g) s
    tell_holds J R j s t ByLabel bad = at_holds (label_of m s) s (under_self laws (label_of m s))
    tell_holds J R j s t (ByStep u) e = go (j s) e.0 (stop (j u))

    formula_holds : (ks : List Strike) (k : Strike) → ((s : ℕ) → Holds at_most m (known ks s) s) →
        Fair at_most m (Standing ks) k → Holds at_most m (formula_of m ks k) k.first
    formula_holds ks k j fair = tell_holds (known ks) (Standing ks) j k.first k.second k.ground fair.grounded

    known_more : (k : Strike) (ks : List Strike) (s : ℕ) → Holds at_most m (known ks s) s → Holds at_most m (formula_of m ks k) k.first → Holds at_most m (known (k ∷ ks) s) s
    known_more k ks s old new =
        each_conj at_most m s (told m (k ∷ ks) s)
        (each_append at_most m s (told m ks s) (added k ks s) (conj_each at_most m s (told m ks s) old) (split (eqb k.first s) (eqb→eq k.first s)))
      where
        split : (b : Bool) → (T b → k.first ≡ s) → Each at_most m s (cond b (formula_of m ks k ∷ []) [])
        split true f = (subst (λ v. Holds at_most m (formula_of m ks k) v) (f tt) new, tt)
        split false f = tt

    -- All that is known of s holds at s.
    pub known_holds : (ks : List Strike) → Lawful at_most m ks → (s : ℕ) → Holds at_most m (known ks s) s
    known_holds [] law s = tt
    known_holds (k ∷ ks) law s = known_more k ks s (known_holds ks law.1 s) (formula_holds ks k (known_holds ks law.1) law.0)

  lawful_before : (later ks : List Strike) → Lawful at_most m (later ++ ks) → Lawful at_most m ks
  lawful_before [] ks law = law
  lawful_before (k ∷ later) ks law = lawful_before later ks law.1

pub strikes_tell : {L : Type 0} {at_most : L → L → Bool} → Preorder at_most → StrikesTell at_most
strikes_tell {at_most = at_most} laws m later k earlier lawful =
    let law = lawful_before at_most m later (k ∷ earlier) lawful in (
      formula_holds at_most m laws earlier k (known_holds at_most m laws earlier law.1) law.0,
      formula_fails at_most m earlier k (known_stands at_most m earlier law.1) law.0,
    )
