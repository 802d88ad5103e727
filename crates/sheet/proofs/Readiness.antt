-- Room and the sum of pairs and strikes last from try to try. Assumes nothing.
use Rattle.std.proofs.Common.{◌≡◌, ℕ, zero, suc, ◌+◌, ◌*◌, ◌<◌, ◌≤◌, Bool, true, false, cond, not, eqb, List, length, get_or, take, set, Some, None, count_by, Option, refl, ap, ◌∙◌, arith}
use lib.Seq.{take-set-lt}
use lib.Arith.{digits_lt}
use Rattle.std.proofs.lemmas.List.Sums.{sum_by-set, get_or-le-sum_by}
use Rattle.std.proofs.lemmas.List.{length-set, length-take-le, get_or-take}
use Rattle.std.proofs.lemmas.Bool.{cond_both}
use Rattle.strikes.specs.declared.strike.Ground.{Ground}
use Rattle.strikes.specs.declared.strike.Strike.{Strike}
use Rattle.sheet.specs.declared.verdict.Verdict.{Verdict}
use Rattle.sheet.specs.declared.verdict.Verdict.TheVariants.{StaysStruck, Stays, Struck}
use Rattle.sheet.specs.Memory.{Memory, memory, stands, Ready}
use Rattle.sheet.specs.Verdicts.{Setting, size, judged, strike, applied, ground_of, verdict_of, tried, swept, passed, next, settled_in}

-- 1 for a byte that stands
abbrev bit : ℕ → ℕ
bit byte = cond (not (eqb byte 0)) 1 0

abbrev digit : Bool → ℕ
digit b = cond b 1 0

module _ (n : ℕ) (mem : Memory) (ready : Ready n mem) (s t : ℕ) (hs : s < n) (ht : t < n) (stood : stands n mem.pairs s t ≡ true) where
  place_low : s * n + t < n * n
  place_low = digits_lt hs ht

  one_there : bit (get_or (take (n * n) mem.pairs) (s * n + t) 0) ≡ 1
  one_there = ap bit (get_or-take (n * n) mem.pairs (s * n + t) 0 place_low) ∙ ap digit stood

  long : s * n + t < length (take (n * n) mem.pairs)
  long = omega (arith, length-take-le (n * n) mem.pairs ready.pairs_fit, place_low)

  -- a standing pair leaves room for its strike
  pub strike_room : mem.made < n * n
  strike_room = omega (arith, ready.adds_up, one_there, get_or-le-sum_by bit (take (n * n) mem.pairs) (s * n + t) 0 long)

  pub ready_strike : (k : Strike) → Ready n (memory (set mem.pairs (s * n + t) 0) (set mem.records mem.made k) (mem.made + 1))
  ready_strike k = record {
    pairs_fit = omega (arith, length-set mem.pairs (s * n + t) 0, ready.pairs_fit);
    records_fit = omega (arith, length-set mem.records mem.made k, ready.records_fit);
    adds_up = omega (
      arith,
      ready.adds_up,
      one_there,
      sum_by-set bit (take (n * n) mem.pairs) (s * n + t) 0 0 long,
      ap (λ xs. count_by (λ b. not (eqb b 0)) xs) (take-set-lt (n * n) mem.pairs (s * n + t) 0 place_low),
    );
  }

module _ {L : Type 0} (on : Setting L) where
  -- the three verdicts, and when they are given
  pub by_verdict : (pairs : List ℕ) (s t : ℕ) (P : Verdict → Type 0) → (stands (size on) pairs s t ≡ false → P StaysStruck) →
      (stands (size on) pairs s t ≡ true → ground_of on pairs s t ≡ None → P Stays) →
      ((g : Ground) → stands (size on) pairs s t ≡ true → ground_of on pairs s t ≡ Some g → P (Struck (strike s t g))) → P (verdict_of on pairs s t)
  by_verdict pairs s t P before stays struck = cond_both (stands (size on) pairs s t) _ StaysStruck P (by_ground (ground_of on pairs s t) refl) before
    where
      by_ground : (o : Option Ground) → ground_of on pairs s t ≡ o → stands (size on) pairs s t ≡ true → P (judged s t o)
      by_ground None e stood = stays stood e
      by_ground (Some g) e stood = struck g stood e

  pub ready_tried : (mem : Memory) → Ready (size on) mem → (s t : ℕ) → s < size on → t < size on → Ready (size on) (tried on mem s t)
  ready_tried mem ready s t hs ht =
      by_verdict mem.pairs s t (λ v. Ready (size on) (applied (size on) mem v)) (λ _. ready) (λ _ _. ready) (λ g stood _. ready_strike (size on) mem ready s t hs ht stood (strike s t g))

  pub made_tried : (mem : Memory) (s t : ℕ) → mem.made ≤ (tried on mem s t).made
  made_tried mem s t = by_verdict mem.pairs s t (λ v. mem.made ≤ (applied (size on) mem v).made) (λ _. omega arith) (λ _ _. omega arith) (λ g _ _. omega arith)

  pub ready_swept : (mem : Memory) → Ready (size on) mem → (s : ℕ) → s < size on → (t : ℕ) → t ≤ size on → Ready (size on) (swept on mem s t)
  ready_swept mem ready s hs zero h = ready
  ready_swept mem ready s hs (suc t) h = ready_tried (swept on mem s t) (ready_swept mem ready s hs t (omega arith)) s t hs (omega arith)

  pub made_swept : (mem : Memory) (s t : ℕ) → mem.made ≤ (swept on mem s t).made
  made_swept mem s zero = omega arith
  made_swept mem s (suc t) = omega (arith, made_swept mem s t, made_tried (swept on mem s t) s t)

  pub ready_passed : (mem : Memory) → Ready (size on) mem → (s : ℕ) → s ≤ size on → Ready (size on) (passed on mem s)
  ready_passed mem ready zero h = ready
  ready_passed mem ready (suc s) h = ready_swept (passed on mem s) (ready_passed mem ready s (omega arith)) s (omega arith) (size on) (omega arith)

  pub made_passed : (mem : Memory) (s : ℕ) → mem.made ≤ (passed on mem s).made
  made_passed mem zero = omega arith
  made_passed mem (suc s) = omega (arith, made_passed mem s, made_swept (passed on mem s) s (size on))

-- no more strikes than pairs
pub made_few : (n : ℕ) (mem : Memory) → Ready n mem → mem.made ≤ n * n
made_few n mem ready = omega (arith, ready.adds_up)

-- one pair more of a row
pub swept_few : {L : Type 0} (on : Setting L) (start now after : Memory) (s t : ℕ) → Ready (size on) start → s < size on → t < size on →
    now ≡ swept on start s t → after ≡ tried on now s t → after.made ≤ size on * size on
swept_few on start now after s t ready hs ht e f =
    made_few (size on) after (rw (f, e) (ready_swept on start ready s hs (suc t) (omega arith)))

-- a whole pass
pub ready_pass : {L : Type 0} (on : Setting L) (now after : Memory) → Ready (size on) now → after ≡ passed on now (size on) → Ready (size on) after × (now.made ≤ after.made) × (after.made ≤ size on * size on)
ready_pass on now after ready e =
    let there : Ready (size on) after = rw e (ready_passed on now ready (size on) (omega arith)) in
    (there, rw e (made_passed on now (size on)), made_few (size on) after there)

-- all passes
pub made_settled : {L : Type 0} (on : Setting L) (most : ℕ) (mem : Memory) → mem.made ≤ (settled_in on most mem).0.made
made_settled on zero mem = omega arith
made_settled on (suc most) mem =
    let after = passed on mem (size on) in
    more (eqb after.made mem.made) after (settled_in on most after) (omega (arith, made_passed on mem (size on), made_settled on most after)) (made_passed on mem (size on))
  where
    more : (b : Bool) (after : Memory) (rest : Memory × ℕ) → mem.made ≤ rest.0.made → mem.made ≤ after.made → mem.made ≤ (next b after rest).0.made
    more true after rest x y = y
    more false after rest x y = x
