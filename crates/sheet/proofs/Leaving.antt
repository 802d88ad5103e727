-- What a call answers and leaves, once its check passed. Assumes nothing.
use Rattle.std.proofs.Common.{◌≡◌, ℕ, ◌+◌, ◌-◌, ◌*◌, ◌≤◌, true, Ok, Option, Result, sym, ap, subst, arith}
use Rattle.model.specs.declared.refusal.Refusal.{Refusal}
use Rattle.model.specs.Refusals.{Answered, Checked}
use Rattle.model.proofs.Checks.{when_answered, answered_at}
use Rattle.sheet.specs.Memory.{Memory}
use Rattle.sheet.specs.Verdicts.{Setting, size, swept, settled}
use Rattle.sheet.specs.Pages.{Page, held, holding}
use Rattle.sheet.proofs.Readiness.{made_swept, made_settled}

pub answered_after : {A B : Type 0} {Same Unchanged : Type 0} {Fits : B → Type 0} {Good : A → Type 0} (found : Option ℕ) (check : Result B Refusal) (b : B) (out : Result A Refusal) →
    Checked found Same Fits check → check ≡ Ok b → Answered Good out → Checked found Unchanged Good out
answered_after {Same = Same} {Fits = Fits} found check b out checked is good = when_answered (answered_at found b (subst (Checked found Same Fits) is checked)).1 good

module _ {L : Type 0} (on : Setting L) where
  pub made_by_sweep : (mem after : Memory) (s t : ℕ) → after ≡ swept on mem s t → mem.made ≤ after.made
  made_by_sweep mem after s t e = subst (λ x. mem.made ≤ x.made) (sym e) (made_swept on mem s t)

  pub made_by_settle : (mem after : Memory) (passes : ℕ) → (after, passes) ≡ settled on mem → mem.made ≤ after.made
  made_by_settle mem after passes e = subst (λ (x : Memory × ℕ). mem.made ≤ x.0.made) (sym e) (made_settled on (size on * size on + 1) mem)

  module _ (p : Page) (after : Memory) where
    pub sweep_leaves : (s : ℕ) → after ≡ swept on (held p) s (size on) →
        (p.sheet.strikes + (after.made - p.sheet.strikes) ≡ (swept on (held p) s (size on)).made) × (holding p p.sheet.settled after ≡ holding p p.sheet.settled (swept on (held p) s (size on)))
    sweep_leaves s e = (omega (arith, made_by_sweep (held p) after s (size on) e, ap (λ (x : Memory). x.made) e), ap (holding p p.sheet.settled) e)

    pub settle_leaves : (passes : ℕ) → (after, passes) ≡ settled on (held p) →
        (p.sheet.strikes + (after.made - p.sheet.strikes) ≡ (settled on (held p)).0.made) × (passes ≡ (settled on (held p)).1) × (holding p true after ≡ holding p true (settled on (held p)).0)
    settle_leaves passes e = (
      omega (arith, made_by_settle (held p) after passes e, ap (λ (x : Memory × ℕ). x.0.made) e),
      ap (λ (x : Memory × ℕ). x.1) e,
      ap (λ (x : Memory × ℕ). holding p true x.0) e,
    )
