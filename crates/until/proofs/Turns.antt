-- The same over the array of visits and the queue: the invariants of the two loops of the search, and their steps. Assumes nothing.
use Rattle.std.proofs.Common.{◌≡◌, ℕ, zero, suc, ◌+◌, ◌<◌, ◌≤◌, List, [], ◌∷◌, ◌++◌, Some, None, Option, IsSome, IsNone, length, get_or, take, set, replicate, count_by, sym, refl, ap, ◌∙◌, subst, cond, ⊎_elim, arith}
use lib.Seq.{take-set-lt}
use Rattle.std.specs.Option.{is_some}
use Rattle.std.proofs.lemmas.Bool.{cases_eq}
use Rattle.std.proofs.lemmas.List.Sums.{sum_by-take-le, sum_by-set, count_by-le-length}
use Rattle.std.proofs.lemmas.List.{length-take, get_or-take, length-set, get_or-set_same, get_or-set_other, get_or_push, get_or_append_left, length_push}
use Rattle.model.specs.Machines.{state_bound}
use Rattle.until.specs.declared.search.Visit.{Visit}
use Rattle.until.specs.Explored.{steps_of, visit, Found}
use Rattle.until.proofs.Breadth.{Going, going_start, going_next, going_full, going_push, going_end}

abbrev pub at : List ℕ → ℕ → ℕ
at xs i = get_or xs i 0

-- Between turns of the queue. As many states are visited as are queued, so the queue has room for one that is not.
pub record Outer (n : ℕ) (S : ℕ → ℕ → Type 0) (ok : ℕ → Type 0) (start : ℕ) (found : List (Option Visit)) (order : List ℕ) (head : ℕ) : Type 0 where
  pub bounded : n ≤ state_bound
  pub found_long : length found ≡ state_bound
  pub counted : count_by is_some (take n found) ≡ length order
  pub ahead : head ≤ length order
  pub going : Going n S ok start (visit found) (at order) head (length order)

-- Within a turn: the first of the queue is the state before `next`, and its steps to the states below t are followed.
pub record Inner (n : ℕ) (S : ℕ → ℕ → Type 0) (ok : ℕ → Type 0) (start head : ℕ) (next : Visit) (found : List (Option Visit)) (order : List ℕ) (t : ℕ) : Type 0 where
  pub outer : Outer n S ok start found order head
  pub some : head < length order
  pub first : at order head ≡ next.before
  pub far : next.steps ≡ steps_of (visit found next.before) + 1
  pub seen : (u : ℕ) → u < t → S next.before u → IsSome (visit found u) × (steps_of (visit found u) ≤ next.steps)

-- one more of the first n is visited
counted_more : (n : ℕ) (xs : List (Option Visit)) (t : ℕ) (v : Visit) → n ≤ length xs → t < n → IsNone (visit xs t) → count_by is_some (take n (set xs t (Some v))) ≡ count_by is_some (take n xs) + 1
counted_more n xs t v long l fresh =
    let low : t < length (take n xs) = omega (arith, length-take n xs) in
    let was : cond {A = ℕ} (is_some (get_or (take n xs) t None)) 1 0 ≡ 0 = rw (get_or-take n xs t None l, fresh) refl in
    ap (count_by is_some) (take-set-lt n xs t (Some v) l) ∙ omega (arith, sum_by-set (λ o. cond {A = ℕ} (is_some o) 1 0) (take n xs) t (Some v) None low, was)

-- at first none is visited
pub none_visited : (k u : ℕ) → IsNone (visit (replicate k None) u)
none_visited zero u = refl
none_visited (suc k) zero = refl
none_visited (suc k) (suc u) = none_visited k u

pub outer_start : {n : ℕ} {S : ℕ → ℕ → Type 0} {ok : ℕ → Type 0} {start : ℕ} (v : Visit) (order : List ℕ) → n ≤ state_bound → start < n → v.steps ≡ 0 → order ≡ start ∷ []
    → Outer n S ok start (set (replicate state_bound None) start (Some v)) order 0
outer_start {n = n} {start = start} v order bounded within no_steps alone =
    let fresh : List (Option Visit) = replicate state_bound None in
    let low : start < state_bound = omega arith in
    let none : (u : ℕ) → IsNone (visit fresh u) = none_visited state_bound in
    let uncounted : count_by is_some (take n fresh) ≡ 0 = omega (arith, sum_by-take-le (λ o. cond (is_some o) 1 0) fresh n) in
    rw alone record {
      bounded = bounded;
      found_long = length-set fresh start (Some v);
      counted = counted_more n fresh start v bounded within (none start) ∙ ap (λ k. k + 1) uncounted;
      ahead = omega arith;
      going = going_start within (get_or-set_same fresh start (Some v) None low) no_steps
          (λ u ne. ap is_some (get_or-set_other fresh start u (Some v) None ne) ∙ none u)
          refl;
    }

module _ {n : ℕ} {S : ℕ → ℕ → Type 0} {ok : ℕ → Type 0} {start : ℕ} {found : List (Option Visit)} {order : List ℕ} {head : ℕ}
    (out : Outer n S ok start found order head) where
  -- there is room while a state is not yet visited
  pub room_left : (t : ℕ) → t < n → IsNone (visit found t) → length order < n
  room_left t l fresh =
      let v : Visit = record { steps = 0; before = 0 } in
      omega (
        arith,
        counted_more n found t v (omega (arith, out.found_long, out.bounded)) l fresh,
        count_by-le-length is_some (take n (set found t (Some v))),
        length-take n (set found t (Some v)),
        out.counted,
      )

  -- where as many states are queued as there are, all are visited
  pub outer_full : n ≤ length order → start < n → ((a b : ℕ) → S a b → b < n) → Found n S ok start (visit found)
  outer_full all within inside = going_end (going_full out.going (λ u l. visited u l (visit found u) refl) inside) (omega arith) within
    where
      visited : (u : ℕ) → u < n → (o : Option Visit) → visit found u ≡ o → IsSome o
      visited u l None e = absurd (omega (arith, all, room_left u l (ap is_some e)))
      visited u l (Some v) e = refl

  -- the first of the queue is a state that is visited
  pub outer_first : (s : ℕ) → head < length order → at order head ≡ s → (s < state_bound) × IsSome (visit found s)
  outer_first s some e = let q = out.going.queued head some in rw (← e) (omega (arith, q.0, out.bounded), q.1)

  -- the first of the queue is done with
  outer_next : head < length order
      → (ok (at order head) → (t : ℕ) → S (at order head) t → IsSome (visit found t) × (steps_of (visit found t) ≤ steps_of (visit found (at order head)) + 1))
      → Outer n S ok start found order (head + 1)
  outer_next some done = record { bounded = out.bounded; found_long = out.found_long; counted = out.counted; ahead = omega arith; going = going_next out.going some done }

  -- it may not be gone on from
  pub outer_skip : (s : ℕ) → head < length order → at order head ≡ s → (ok s → ⊥) → Outer n S ok start found order (head + 1)
  outer_skip s some e no_way = outer_next some (λ o. absurd (no_way (subst ok e o)))

module _ {n : ℕ} {S : ℕ → ℕ → Type 0} {ok : ℕ → Type 0} {start head : ℕ} {next : Visit} {found : List (Option Visit)} {order : List ℕ} {t : ℕ}
    (inn : Inner n S ok start head next found order t) where
  -- t is visited already, or the state before has no step to it
  pub inner_skip : (S next.before t → IsSome (visit found t)) → t < n → Inner n S ok start head next found order (t + 1)
  inner_skip old within = record {
    outer = inn.outer;
    some = inn.some;
    first = inn.first;
    far = inn.far;
    seen = λ u h st. ⊎_elim
        (λ e. let there : IsSome (visit found u) = rw e (old (subst (S next.before) e st)) in
        (there, omega (arith, inn.outer.going.near u there inn.some, ap (λ v. steps_of (visit found v)) inn.first, inn.far)))
        (λ ne. inn.seen u (omega arith) st)
        (cases_eq u t);
  }

  pub inner_push : t < n → IsNone (visit found t) → ok next.before → S next.before t
      → Inner n S ok start head next (set found t (Some next)) (order ++ t ∷ []) (t + 1)
  inner_push within fresh o st =
      let out = inn.outer in
      let after : List (Option Visit) = set found t (Some next) in
      let room : length order < n = room_left out t within fresh in
      let low : t < length found = omega (arith, out.found_long, out.bounded) in
      let longer = length_push order t in
      let here : visit after t ≡ Some next = get_or-set_same found t (Some next) None low in
      let other : (u : ℕ) → (u ≡ t → ⊥) → visit after u ≡ visit found u = λ u ne. get_or-set_other found t u (Some next) None ne in
      let from : IsSome (visit found next.before) = rw inn.first at (out.going.queued head inn.some).1 in
      record {
        outer = record {
          bounded = out.bounded;
          found_long = length-set found t (Some next) ∙ out.found_long;
          counted = counted_more n found t next (omega (arith, out.found_long, out.bounded)) within fresh ∙ ap (λ k. k + 1) out.counted ∙ sym longer;
          ahead = omega (arith, inn.some);
          going = rw longer (going_push out.going inn.some within fresh (omega arith) inn.first inn.far o st here other
              (get_or_push order t 0 (length order) refl) (λ i h. get_or_append_left order (t ∷ []) 0 i h));
        };
        some = omega (arith, inn.some);
        first = get_or_append_left order (t ∷ []) 0 head inn.some ∙ inn.first;
        far = rw (other next.before (λ e. cc)) inn.far;
        seen = λ u h st'. ⊎_elim
            (λ (e : u ≡ t). rw (e, here) (refl, omega arith))
            (λ ne. rw (other u ne) (inn.seen u (omega arith) st'))
            (cases_eq u t);
      }

  -- every state has been tried
  pub inner_end : n ≤ t → ((a b : ℕ) → S a b → b < n) → Outer n S ok start found order (head + 1)
  inner_end all inside = outer_next inn.outer inn.some (λ o u st.
      let st' : S next.before u = subst (λ v. S v u) inn.first st in
      let r = inn.seen u (omega (arith, inside next.before u st')) st' in
      (r.0, omega (arith, r.1, inn.far, ap (λ v. steps_of (visit found v)) inn.first)))
