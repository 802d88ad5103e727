-- The numbers of good answers are small. Assumes nothing.
use Rattle.std.proofs.Common.{◌≡◌, ℕ, zero, suc, ◌+◌, ◌*◌, ◌^◌, ◌<◌, ◌≤◌, Bool, true, false, eqb, List, [], ◌∷◌, length, None, Ok, Result, mul-le-mul, sym, ap, subst, ◌∙◌, arith}
use Rattle.model.specs.Machines.{Meaning, Bounded, states}
use Rattle.model.specs.declared.refusal.Refusal.{Refusal}
use Rattle.model.specs.declared.flags.FlagSet.{FlagSet}
use Rattle.model.specs.Refusals.{cause}
use Rattle.model.proofs.Checks.{answered_at, none_clear}
use Rattle.until.proofs.Decided.{shortest_few}
use Rattle.until.proofs.Trail.{visited_length}
use Rattle.until.specs.Rows.{row_of}
use Rattle.until.specs.Searches.{is_marked}
use Rattle.std.proofs.lemmas.Bool.{ltb-false}
use Rattle.sheet.specs.declared.sheet.Sheet.{Sheet}
use Rattle.sheet.specs.declared.verdict.Verdict.{Verdict}
use Rattle.sheet.specs.Memory.{Memory, Ready}
use Rattle.sheet.specs.Verdicts.{Setting, size, passed, next, settled_in, tried, swept, settled}
use Rattle.sheet.specs.Pages.{Page, sheet_of, held, holding}
use Rattle.sheet.specs.Causes.{page_tests, settled_tests, answer_tests}
use Rattle.sheet.specs.Calls.{are_alike, Tries, Sweeps, Settles, Classes, Answers}
use Rattle.host.specs.declared.table.FlagTable.{FlagTable}
use Rattle.host.proofs.Pages.{flags_of}
use Rattle.sheet.proofs.Came.{Fits, page_fits, settled_fits}
use Rattle.sheet.proofs.Grounds.{least_first}
use Rattle.sheet.proofs.Readiness.{ready_tried, ready_swept, ready_passed, made_few}

square_small : (n : ℕ) → n ≤ 64 → n * n ≤ 4096
square_small n h = omega (arith, mul-le-mul h h)

-- a page whose checks find no cause is ready
page_ready : (n : ℕ) (p : Page) (numbers : List ℕ) → cause (page_tests n p numbers) ≡ None → Ready n (held p) × Fits n p.sheet p.pairs numbers
page_ready n p numbers none =
    let clear = none_clear (page_tests n p numbers) none in
    let fit = page_fits n p numbers clear in
    let room : p.sheet.count * p.sheet.count ≤ length p.records = ltb-false _ _ clear.1.0 in
    (record { pairs_fit = fit.room; records_fit = subst (λ k. k * k ≤ length p.records) fit.counted room; adds_up = fit.adds_up }, fit)

-- what a call that strikes leaves: room, no more strikes than pairs, and the count
pub record Small (p after : Page) (z : Bool) : Type 0 where
  pub made : after.sheet.strikes < 2 ^ 16
  pub room : after.sheet.strikes ≤ length after.records
  pub kept : after.sheet ≡ sheet_of p.sheet.count after.sheet.strikes z

module _ {L : Type 0} (on : Setting L) where
  ready_settled : (most : ℕ) (mem : Memory) → Ready (size on) mem → Ready (size on) (settled_in on most mem).0
  ready_settled zero mem ready = ready
  ready_settled (suc most) mem ready =
      let after = ready_passed on mem ready (size on) (omega arith) in
      by_end (eqb (passed on mem (size on)).made mem.made) (passed on mem (size on)) (settled_in on most (passed on mem (size on))) after (ready_settled most (passed on mem (size on)) after)
    where
      by_end : (b : Bool) (after : Memory) (rest : Memory × ℕ) → Ready (size on) after → Ready (size on) rest.0 → Ready (size on) (next b after rest).0
      by_end true after rest x y = x
      by_end false after rest x y = y

  passes_few : (most : ℕ) (mem : Memory) → (settled_in on most mem).1 ≤ most
  passes_few zero mem = omega arith
  passes_few (suc most) mem = by_end (eqb (passed on mem (size on)).made mem.made) (settled_in on most (passed on mem (size on))) (passes_few most (passed on mem (size on)))
    where
      by_end : (b : Bool) (rest : Memory × ℕ) → rest.1 ≤ most → (next b (passed on mem (size on)) rest).1 ≤ suc most
      by_end true rest h = omega arith
      by_end false rest h = omega arith

  small : (p after : Page) (z : Bool) (mem : Memory) → size on ≤ 64 → Ready (size on) mem → after ≡ holding p z mem → Small p after z
  small p after z mem few ready is =
      let all = square_small (size on) few in
      let sheet : after.sheet ≡ sheet_of p.sheet.count mem.made z = ap (λ (x : Page). x.sheet) is in
      let made : after.sheet.strikes ≡ mem.made = ap (λ (x : Sheet). x.strikes) sheet in
      let records : length after.records ≡ length mem.records = ap (λ (x : Page). length x.records) is in
      record {
        made = omega (arith, all, made, made_few (size on) mem ready);
        room = omega (arith, made, records, made_few (size on) mem ready, ready.records_fit);
        kept = sheet ∙ ap (λ k. sheet_of p.sheet.count k z) (sym made);
      }

-- the same after each of them, on a table
module _ (table : FlagTable) (p after : Page) where
  abbrev by_flags : Setting FlagSet
  by_flags = flags_of table

  pub try_small : (s t : ℕ) (r : Result Verdict Refusal) (v : Verdict) → r ≡ Ok v → Tries by_flags p s t r after → Small p after p.sheet.settled
  try_small s t r v is tries =
      let good = answered_at (cause (page_tests (size by_flags) p (s ∷ t ∷ []))) v (subst (λ x. Tries by_flags p s t x after) is tries) in
      let ready = page_ready (size by_flags) p (s ∷ t ∷ []) good.1 in
      small by_flags p after p.sheet.settled (tried by_flags (held p) s t) table.few (ready_tried by_flags (held p) ready.0 s t ready.1.inside.0 ready.1.inside.1.0) good.0.1

  pub sweep_small : (s : ℕ) (r : Result ℕ Refusal) (k : ℕ) → r ≡ Ok k → Sweeps by_flags p s r after → Small p after p.sheet.settled × (k < 2 ^ 16)
  sweep_small s r k is sweeps =
      let n = size by_flags in
      let good = answered_at (cause (page_tests n p (s ∷ []))) k (subst (λ x. Sweeps by_flags p s x after) is sweeps) in
      let ready = page_ready n p (s ∷ []) good.1 in
      let there = ready_swept by_flags (held p) ready.0 s ready.1.inside.0 n (omega arith) in
      (small by_flags p after p.sheet.settled (swept by_flags (held p) s n) table.few there good.0.1, omega (arith, good.0.0, made_few n _ there, square_small n table.few))

  pub settle_small : (r : Result (ℕ × ℕ) Refusal) (a : ℕ × ℕ) → r ≡ Ok a → Settles by_flags p r after → Small p after true × (a.0 < 2 ^ 16) × (a.1 < 2 ^ 16)
  settle_small r a is settles =
      let n = size by_flags in
      let good = answered_at (cause (page_tests n p [])) a (subst (λ x. Settles by_flags p x after) is settles) in
      let ready = page_ready n p [] good.1 in
      let there = ready_settled by_flags (n * n + 1) (held p) ready.0 in
      let all = square_small n table.few in (
        small by_flags p after true (settled by_flags (held p)).0 table.few there good.0.2,
        omega (arith, good.0.0, made_few n _ there, all),
        omega (arith, good.0.1, passes_few by_flags (n * n + 1) (held p), all),
      )

-- a class is no greater than the state asked for
pub class_small : (n : ℕ) (sheet : Sheet) (pairs : List ℕ) (s c : ℕ) → n ≤ 64 → Classes n sheet pairs s (Ok c) → c < 2 ^ 8
class_small n sheet pairs s c few classes =
    let good = answered_at (cause (settled_tests n sheet pairs (s ∷ []))) c classes in
    let fit = settled_fits n sheet pairs (s ∷ []) (none_clear (settled_tests n sheet pairs (s ∷ [])) good.1) in
    let first = least_first (are_alike n pairs s) s in
    omega (arith, first.most, fit.inside.0, good.0, few)

-- a walk of the fewest steps has few states
pub walk_small : {L : Type 0} (m : Meaning L) → Bounded m → (sheet : Sheet) (pairs : List ℕ) (s t u : ℕ) (walk after : List ℕ) (k : ℕ) → Answers m sheet pairs s t u walk (Ok k) after → k < 2 ^ 8
walk_small m bounded sheet pairs s t u walk after k answers =
    let good = answered_at (cause (answer_tests m sheet pairs (length walk) s t u)) k answers in
    let steps = shortest_few m (is_marked (row_of (states m) pairs s)) (is_marked (row_of (states m) pairs u)) bounded good.0.walk good.0.shortest in
    omega (arith, bounded.few, good.0.counted, visited_length good.0.walk, steps)
