-- A walk written from its end, state by state, along the states before. Assumes nothing.
use Rattle.std.proofs.Common.{◌≡◌, ℕ, ◌+◌, ◌-◌, ◌<◌, ◌≤◌, List, Some, Option, IsSome, ◌∷◌, ◌++◌, length, drop, set, sym, refl, ap, ◌∙◌, subst, ⊎_elim, arith}
use Rattle.std.proofs.lemmas.List.{length-set, drop-set}
use Rattle.model.specs.Machines.{Meaning, Step, states}
use Rattle.until.specs.declared.search.Visit.{Visit}
use Rattle.until.specs.Walks.{Walk, stop, go, steps, visited}
use Rattle.until.specs.Searches.{Marked, WalkOver, WalkFromState, Written}
use Rattle.until.specs.Explored.{Found, Closest, steps_of}
use Rattle.until.proofs.Walks.{walk_last, walk_end}

pub visited_length : {S : ℕ → ℕ → Type 0} {P Q : ℕ → Type 0} {t : ℕ} (w : Walk S P Q t) → length (visited w) ≡ steps w + 1
visited_length (stop q) = refl
visited_length (go p e w) = omega (arith, visited_length w)

module _ {L : Type 0} (m : Meaning L) (row goal : List ℕ) (visit : ℕ → Option Visit) where
  -- The state cur is to be written at `left`. The walk from there on is written, but for cur.
  pub record Trail (before : List ℕ) (total : ℕ) (memory : List ℕ) (cur left : ℕ) : Type 0 where
    pub far : IsSome (visit cur) × (steps_of (visit cur) ≡ left)
    pub part : left ≤ total
    pub room : total < length memory
    pub walk : WalkOver m row (Marked goal) cur
    pub long : steps walk + left ≡ total
    pub written : cur ∷ drop (left + 1) memory ≡ visited walk ++ drop (total + 1) before

  pub trail_start : (before : List ℕ) (last total : ℕ) → Closest (Marked goal) visit last → total ≡ steps_of (visit last) → total < length before → Trail before total before last total
  trail_start before last total best is room = record {
    far = (best.near, sym is);
    part = omega arith;
    room = room;
    walk = stop best.is_goal;
    long = omega arith;
    written = refl;
  }

  -- once cur is written
  trail_there : {before : List ℕ} {total : ℕ} {memory : List ℕ} {cur left : ℕ} (t : Trail before total memory cur left) → drop left (set memory left cur) ≡ visited t.walk ++ drop (total + 1) before
  trail_there {memory = memory} {cur = cur} {left = left} t = drop-set memory left cur (omega (arith, t.part, t.room)) ∙ t.written

  module _ {s : ℕ} (found : Found (states m) (Step m) (Marked row) s visit) {before : List ℕ} {total : ℕ} {memory : List ℕ} {cur left : ℕ} (t : Trail before total memory cur left) where
    pub trail_more : (v : Visit) → visit cur ≡ Some v → 0 < left → Trail before total (set memory left cur) v.before (left - 1)
    trail_more v is h =
        let b = v.before in
        let r : IsSome (visit b) × (steps_of (visit b) ≡ left - 1) × Marked row b × Step m b cur = rw is at (found.back cur (left - 1) t.far.0 (omega (arith, t.far.1))) in
        let next : left - 1 + 1 ≡ left = omega arith in
        record {
          far = (r.0, r.1);
          part = omega (arith, t.part);
          room = omega (arith, t.room, length-set memory left cur);
          walk = go r.2 r.3 t.walk;
          long = omega (arith, t.long);
          written = rw next (ap (λ xs. b ∷ xs) (trail_there t));
        }

  module _ {s : ℕ} (found : Found (states m) (Step m) (Marked row) s visit) {before : List ℕ} {last total : ℕ} (best : Closest (Marked goal) visit last) (is : total ≡ steps_of (visit last)) {memory : List ℕ} {left : ℕ} (none : left ≡ 0) where
    -- where the search began the walk is whole
    trail_whole : Trail before total memory s left → Written m row goal s before (set memory left s) (total + 1)
    trail_whole t =
        let start = (found.walks s t.far.0).0 in
        let whole : set memory left s ≡ visited t.walk ++ drop (total + 1) before = ap (λ k. drop k (set memory left s)) (sym none) ∙ trail_there t in
        record {
          from_state = start;
          walk = t.walk;
          shortest = λ v.
              let e = walk_end v in
              let f = found.least e.0 start e.2 in
              omega (arith, t.long, f.1, e.3, best.least e.0 e.1 f.0);
          counted = omega (arith, visited_length t.walk, t.long);
          memory = whole;
        }

    -- and it is there where no step is left
    pub trail_end : {cur : ℕ} → Trail before total memory cur left → Written m row goal s before (set memory left cur) (total + 1)
    trail_end {cur} t =
        let w = found.walks cur t.far.0 in
        let home : s ≡ cur = ⊎_elim (λ z. z.1) (λ z. absurd (omega (arith, z.4, w.2, t.far.1, none))) (walk_last w.1) in
        subst (λ u. Trail before total memory u left → Written m row goal s before (set memory left u) (total + 1)) home trail_whole t

  pub no_trail : {s : ℕ} → Found (states m) (Step m) (Marked row) s visit
      → ((v : ℕ) → Marked goal v → IsSome (visit v) → ⊥) → WalkFromState m row (Marked goal) s → ⊥
  no_trail found none w =
      let e = walk_end w.1 in
      none e.0 e.1 (found.least e.0 w.0 e.2).0
