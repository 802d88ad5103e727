-- What each call answers, and what its sheet and memory then are. Assumes nothing.
use Rattle.std.specs.Prelude.{◌≡◌, ℕ, ◌+◌, ◌*◌, Bool, true, false, ◌&&◌, List, ◌++◌, length, drop, replicate, Some, Result}
use Rattle.model.specs.declared.refusal.Refusal.{Refusal}
use Rattle.model.specs.Machines.{Meaning, states}
use Rattle.model.specs.Refusals.{Checked, cause}
use Rattle.until.specs.Rows.{row_of}
use Rattle.until.specs.Searches.{Written}
use Rattle.strikes.specs.declared.strike.Strike.{Strike}
use Rattle.sheet.specs.declared.sheet.Sheet.{Sheet}
use Rattle.sheet.specs.declared.verdict.Verdict.{Verdict}
use Rattle.sheet.specs.Memory.{stands}
use Rattle.sheet.specs.Verdicts.{Setting, size, least, verdict_of, tried, swept, settled}
use Rattle.sheet.specs.Pages.{Page, sheet_of, held, holding, record_of, begin_cause, try_cause, sweep_cause, settle_cause, class_cause, below_cause, reason_cause, answer_cause}
use Rattle.sheet.specs.Causes.{record_tests, step_tests}

-- Begin: n states, no strikes, not settled; each of the first n×n pair bytes is 1.
abbrev pub Begins : ℕ → List ℕ → List Strike → Result Sheet Refusal → List ℕ → Type 0
Begins n pairs records r after =
    Checked (begin_cause n pairs records) (after ≡ pairs)
    (λ sheet. (sheet ≡ sheet_of n 0 false) × (after ≡ replicate (n * n) 1 ++ drop (n * n) pairs)) r

module _ {L : Type 0} (on : Setting L) where
  -- Try: the verdict, and the page with the pair tried.
  abbrev pub Tries : Page → ℕ → ℕ → Result Verdict Refusal → Page → Type 0
  Tries p s t r after =
      Checked (try_cause (size on) p s t) (after ≡ p)
      (λ v. (v ≡ verdict_of on p.pairs s t) × (after ≡ holding p p.sheet.settled (tried on (held p) s t))) r

  -- Sweep: how many pairs of row s it struck, and the page with all of them tried in turn.
  abbrev pub Sweeps : Page → ℕ → Result ℕ Refusal → Page → Type 0
  Sweeps p s r after =
      Checked (sweep_cause (size on) p s) (after ≡ p)
      (λ k. (p.sheet.strikes + k ≡ (swept on (held p) s (size on)).made) × (after ≡ holding p p.sheet.settled (swept on (held p) s (size on)))) r

  -- Settle: how many strikes it made, the passes taken, and the settled page after them.
  abbrev pub Settles : Page → Result (ℕ × ℕ) Refusal → Page → Type 0
  Settles p r after =
      Checked (settle_cause (size on) p) (after ≡ p)
      (λ a. (p.sheet.strikes + a.0 ≡ (settled on (held p)).0.made) × (a.1 ≡ (settled on (held p)).1) × (after ≡ holding p true (settled on (held p)).0)) r

-- s and u stand both ways.
abbrev pub are_alike : ℕ → List ℕ → ℕ → ℕ → Bool
are_alike n pairs s u = stands n pairs s u && stands n pairs u s

-- The smallest u that is s or stands both ways with s.
abbrev pub class_of : ℕ → List ℕ → ℕ → ℕ
class_of n pairs s = least (are_alike n pairs s) s

abbrev pub Classes : ℕ → Sheet → List ℕ → ℕ → Result ℕ Refusal → Type 0
Classes n sheet pairs s r = Checked (class_cause n sheet pairs s) (Unit {0}) (λ c. c ≡ class_of n pairs s) r

-- Below: whether (s, t) stands.
abbrev pub Belows : ℕ → Sheet → List ℕ → ℕ → ℕ → Result Bool Refusal → Type 0
Belows n sheet pairs s t r = Checked (below_cause n sheet pairs s t) (Unit {0}) (λ b. b ≡ stands n pairs s t) r

-- What reason answers once the sheet is checked. Only functions of the crate cite it.
abbrev pub ShowsRecord : ℕ → Page → ℕ → ℕ → Result Strike Refusal → Type 0
ShowsRecord n p s t r = Checked (cause (record_tests n p s t)) (Unit {0}) (λ k. record_of p s t ≡ Some k) r

-- Reason: the first record of a struck pair.
abbrev pub Reasons : ℕ → Page → ℕ → ℕ → Result Strike Refusal → Type 0
Reasons n p s t r = Checked (reason_cause n p s t) (Unit {0}) (λ k. record_of p s t ≡ Some k) r

-- What answer answers once the sheet is checked. Only functions of the crate cite it.
abbrev pub WritesWalk : {L : Type 0} → Meaning L → List ℕ → ℕ → ℕ → ℕ → List ℕ → Result ℕ Refusal → List ℕ → Type 0
WritesWalk m pairs s t u walk r after =
    Checked (cause (step_tests m pairs s t u)) (after ≡ walk)
    (λ k. Written m (row_of (states m) pairs s) (row_of (states m) pairs u) t walk after k) r

-- Answer: a walk of the fewest steps from t, with (s, v) standing at every state v before its last, and (u, v) at its last.
abbrev pub Answers : {L : Type 0} → Meaning L → Sheet → List ℕ → ℕ → ℕ → ℕ → List ℕ → Result ℕ Refusal → List ℕ → Type 0
Answers m sheet pairs s t u walk r after =
    Checked (answer_cause m sheet pairs (length walk) s t u) (after ≡ walk)
    (λ k. Written m (row_of (states m) pairs s) (row_of (states m) pairs u) t walk after k) r
