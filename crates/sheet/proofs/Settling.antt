-- A pass that strikes nothing leaves no pair with a ground, so settling makes a stable sheet. Assumes nothing.
use Rattle.std.proofs.Common.{◌≡◌, ℕ, zero, suc, ◌+◌, ◌*◌, ◌<◌, Bool, true, false, T, eqb, List, None, sym, refl, ap, ◌∙◌, subst, ⊎_elim, add-one, arith}
use Rattle.std.proofs.lemmas.Bool.{cases_eq, both_ways, eqb-true, eqb-false, eq-eqb}
use Rattle.model.specs.Machines.{Bounded}
use Rattle.model.proofs.Tests.{holds_true}
use Rattle.strikes.specs.Strikes.{Stable}
use Rattle.sheet.specs.Memory.{Memory, stands, history}
use Rattle.sheet.specs.Verdicts.{Setting, size, applied, ground_of, tried, swept, passed, next, settled_in, settled}
use Rattle.sheet.specs.Genuine.{Genuine, Grown}
use Rattle.sheet.proofs.Grounds.{no_ground}
use Rattle.sheet.proofs.Readiness.{made_tried, made_swept, made_passed, made_few, by_verdict}
use Rattle.sheet.proofs.Agreement.{strikes_to_bytes}
use Rattle.sheet.proofs.Growing.{grown_then, grown_passed, genuine_passed, rests_passed}

module _ {L : Type 0} (on : Setting L) where
  -- the pair is struck, or has no ground
  abbrev pub Quiet : List ℕ → ℕ → ℕ → Type 0
  Quiet pairs s t = stands (size on) pairs s t ≡ true → ground_of on pairs s t ≡ None

  quiet_tried : (mem : Memory) (s t : ℕ) → (tried on mem s t).made ≡ mem.made → (tried on mem s t ≡ mem) × Quiet mem.pairs s t
  quiet_tried mem s t =
      by_verdict on mem.pairs s t (λ v. (applied (size on) mem v).made ≡ mem.made → (applied (size on) mem v ≡ mem) × Quiet mem.pairs s t)
      (λ gone _. (refl, λ stood. absurd (both_ways _ gone stood))) (λ _ none _. (refl, λ _. none)) (λ g _ _ e. absurd (omega arith))

  quiet_swept : (mem : Memory) (s t : ℕ) → (swept on mem s t).made ≡ mem.made → (swept on mem s t ≡ mem) × ((u : ℕ) → u < t → Quiet mem.pairs s u)
  quiet_swept mem s zero e = (refl, λ u l. absurd (omega arith))
  quiet_swept mem s (suc t) e =
      let so_far = quiet_swept mem s t (omega (arith, made_swept on mem s t, made_tried on (swept on mem s t) s t, e)) in
      let same : tried on (swept on mem s t) s t ≡ tried on mem s t = ap (λ x. tried on x s t) so_far.0 in
      let last = quiet_tried mem s t (ap (λ x. x.made) (sym same) ∙ e) in (
        same ∙ last.0,
        λ u l. ⊎_elim (λ here. subst (λ v. Quiet mem.pairs s v) (sym here) last.1) (λ before. so_far.1 u (omega arith)) (cases_eq u t),
      )

  quiet_passed : (mem : Memory) (s : ℕ) → (passed on mem s).made ≡ mem.made → (passed on mem s ≡ mem) × ((u t : ℕ) → u < s → t < size on → Quiet mem.pairs u t)
  quiet_passed mem zero e = (refl, λ u t l. absurd (omega arith))
  quiet_passed mem (suc s) e =
      let so_far = quiet_passed mem s (omega (arith, made_passed on mem s, made_swept on (passed on mem s) s (size on), e)) in
      let same : swept on (passed on mem s) s (size on) ≡ swept on mem s (size on) = ap (λ x. swept on x s (size on)) so_far.0 in
      let last = quiet_swept mem s (size on) (ap (λ x. x.made) (sym same) ∙ e) in (
        same ∙ last.0,
        λ u t l h. ⊎_elim (λ here. subst (λ v. Quiet mem.pairs v t) (sym here) (last.1 t h)) (λ before. so_far.1 u t (omega arith) h) (cases_eq u s),
      )

  module _ (bounded : Bounded on.machine) where
    quiet_stable : (z : Bool) (mem : Memory) → Genuine on z mem → ((s t : ℕ) → s < size on → t < size on → Quiet mem.pairs s t) → Stable on.at_most on.machine (history mem)
    quiet_stable z mem genuine quiet s t hs ht stands g grounded =
        let stood = holds_true _ (subst T (sym (genuine.agrees s t hs ht)) stands) in
        no_ground on bounded mem.pairs s t (quiet s t hs ht stood) g
        (strikes_to_bytes on.at_most on.machine mem.pairs (history mem) genuine.agrees s t hs ht g grounded)

    genuine_settled : (z : Bool) (mem : Memory) → Genuine on z mem → ((s t : ℕ) → s < size on → t < size on → Quiet mem.pairs s t) → Genuine on true mem
    genuine_settled z mem genuine quiet = record {
      ready = genuine.ready;
      lawful = genuine.lawful;
      agrees = genuine.agrees;
      stable = λ _. quiet_stable z mem genuine quiet;
    }

    -- what all passes leave is genuine and settled, and holds the strikes from before
    settled_step : (z : Bool) (mem : Memory) → Genuine on z mem → (rest : Memory × ℕ) →
        (((passed on mem (size on)).made ≡ mem.made → ⊥) → Genuine on true rest.0 × Grown (passed on mem (size on)) rest.0) →
        (b : Bool) → eqb (passed on mem (size on)).made mem.made ≡ b →
        Genuine on true (next b (passed on mem (size on)) rest).0 × Grown mem (next b (passed on mem (size on)) rest).0
    settled_step z mem genuine rest more true e =
        let quiet = quiet_passed mem (size on) (eqb-true _ _ e) in
        (subst (Genuine on true) (sym quiet.0) (genuine_settled z mem genuine (λ s t hs ht. quiet.1 s t hs ht)), grown_passed on mem (size on))
    settled_step z mem genuine rest more false e =
        let later = more (eqb-false _ _ e) in
        (later.0, grown_then mem (passed on mem (size on)) rest.0 (grown_passed on mem (size on)) later.1)

    settled_in_lem : (most : ℕ) (z : Bool) (mem : Memory) → Genuine on z mem → size on * size on < mem.made + most → Genuine on true (settled_in on most mem).0 × Grown mem (settled_in on most mem).0
    settled_in_lem zero z mem genuine few = absurd (omega (arith, made_few (size on) mem genuine.ready))
    settled_in_lem (suc most) z mem genuine few =
        let after = passed on mem (size on) in
        settled_step z mem genuine (settled_in on most after)
        (λ ne. settled_in_lem most z after (genuine_passed on bounded z mem genuine (size on) (omega arith)) (omega (arith, made_passed on mem (size on), ne)))
        (eqb after.made mem.made) refl

    pub settles : (z : Bool) (mem : Memory) → Genuine on z mem → Genuine on true (settled on mem).0 × Grown mem (settled on mem).0
    settles z mem genuine = settled_in_lem (size on * size on + 1) z mem genuine (omega arith)

    -- a settled sheet is settled by one pass that strikes nothing
    pub rests_settled : (mem : Memory) → Genuine on true mem → settled on mem ≡ (mem, 1)
    rests_settled mem genuine =
        let all = size on * size on in
        let still = rests_passed on bounded true refl mem genuine (size on) (omega arith) in
        ap (λ k. settled_in on k mem) (add-one all)
        ∙ ap (λ (x : Memory). next (eqb x.made mem.made) x (settled_in on all x)) still
        ∙ ap (λ b. next b mem (settled_in on all mem)) (eq-eqb mem.made mem.made refl)
