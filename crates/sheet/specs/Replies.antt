-- What one call of a run replies, and the page after it. Assumes nothing.
use Rattle.std.specs.Prelude.{◌≡◌, ℕ, ◌≤◌, Bool, cond, List, length, take, Some, None, Option, Ok, Err, Result, nat_le}
use Rattle.model.specs.declared.refusal.Refusal.{Refusal}
use Rattle.model.specs.Machines.{Meaning}
use Rattle.strikes.specs.declared.strike.Strike.{Strike}
use Rattle.sheet.specs.declared.sheet.Sheet.{Sheet}
use Rattle.sheet.specs.declared.verdict.Verdict.{Verdict}
use Rattle.sheet.specs.declared.request.Request.{Request}
use Rattle.sheet.specs.declared.request.Request.TheVariants.{Try, Sweep, Settle, Class, Below, Reason, Answer}
use Rattle.sheet.specs.declared.request.Reply.{Reply}
use Rattle.sheet.specs.declared.request.Reply.TheVariants.{Tried, Swept, Settled, ClassIs, IsBelow, ReasonIs, Walked}
use Rattle.sheet.specs.Verdicts.{Setting, size}
use Rattle.sheet.specs.Pages.{Page}
use Rattle.sheet.specs.Calls.{Tries, Sweeps, Settles, Classes, Belows, Reasons, Answers}

-- What a call replied: a good reply, or a refusal.
abbrev pub Replied : Type 0
Replied = Result Reply Refusal

-- A good answer under its name, or the refusal.
abbrev pub reply : {A : Type 0} → (A → Reply) → Result A Refusal → Replied
reply name (Ok a) = Ok (name a)
reply name (Err e) = Err e

-- The states of a walk that was written.
abbrev pub walk_of : Reply → Option (List ℕ)
walk_of (Walked k memory) = cond (nat_le k (length memory)) (Some (take k memory)) None
walk_of _ = None

module _ {L : Type 0} (on : Setting L) where
  -- The reply to a request on the page p, and the page after it, as the contract of the call says. A walk is written into some memory
  -- with a place for each state.
  abbrev pub Replies : Page → Request → Replied → Page → Type 0
  Replies p (Try s t) a after = (r : Result Verdict Refusal) × (a ≡ reply Tried r) × Tries on p s t r after
  Replies p (Sweep s) a after = (r : Result ℕ Refusal) × (a ≡ reply Swept r) × Sweeps on p s r after
  Replies p Settle a after = (r : Result (ℕ × ℕ) Refusal) × (a ≡ reply (λ x. Settled x.0 x.1) r) × Settles on p r after
  Replies p (Class s) a after = (r : Result ℕ Refusal) × (a ≡ reply ClassIs r) × Classes (size on) p.sheet p.pairs s r × (after ≡ p)
  Replies p (Below s t) a after = (r : Result Bool Refusal) × (a ≡ reply IsBelow r) × Belows (size on) p.sheet p.pairs s t r
      × (after ≡ p)
  Replies p (Reason s t) a after = (r : Result Strike Refusal) × (a ≡ reply ReasonIs r) × Reasons (size on) p s t r × (after ≡ p)
  Replies p (Answer s t u) a after =
      (r : Result ℕ Refusal) × (walk : List ℕ) × (memory : List ℕ) × (a ≡ reply (λ k. Walked k memory) r)
      × (size on ≤ length walk) × Answers on.machine p.sheet p.pairs s t u walk r memory × (after ≡ p)

-- The reply to a request for an answer: a walk is written into a copy of the blank memory.
abbrev pub Walks : {L : Type 0} → Meaning L → List ℕ → Sheet → List ℕ → ℕ → ℕ → ℕ → Replied → Type 0
Walks m blank sheet pairs s t u a = (r : Result ℕ Refusal) × (memory : List ℕ) × (a ≡ reply (λ k. Walked k memory) r)
    × Answers m sheet pairs s t u blank r memory

-- The same as Replies, where every walk is written into such a copy.
abbrev pub RepliesInto : {L : Type 0} → Setting L → List ℕ → Page → Request → Replied → Page → Type 0
RepliesInto on blank p (Answer s t u) a after = Walks on.machine blank p.sheet p.pairs s t u a × (after ≡ p)
RepliesInto on blank p q a after = Replies on p q a after
