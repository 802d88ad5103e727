-- What the breadth-first search keeps true of its visits and its queue, turn by turn. Assumes nothing.
use Rattle.std.proofs.Common.{◌≡◌, ℕ, zero, suc, ◌+◌, ◌<◌, ◌≤◌, ◌⊎◌, Some, Option, IsSome, IsNone, sym, refl, ap, ◌∙◌, subst, inl, inr, ⊎_elim, arith}
use Rattle.std.proofs.lemmas.Bool.{cases_eq, cases_lt, false≢true}
use Rattle.until.specs.declared.search.Visit.{Visit}
use Rattle.until.specs.Walks.{stop, steps}
use Rattle.until.specs.Explored.{To, steps_of, before_of, Found}
use Rattle.until.proofs.Walks.{walk_on, walk_last}

-- The queue `order` holds the visited states in the order of their steps; those before `head` are done with.
pub record Going (n : ℕ) (S : ℕ → ℕ → Type 0) (ok : ℕ → Type 0) (s : ℕ) (visit : ℕ → Option Visit) (order : ℕ → ℕ) (head tail : ℕ) : Type 0 where
  pub room : tail ≤ n
  pub start : IsSome (visit s) × (steps_of (visit s) ≡ 0)
  -- what is queued is a state that is visited, and no farther away than its place
  pub queued : (i : ℕ) → i < tail → (order i < n) × IsSome (visit (order i)) × (steps_of (visit (order i)) ≤ i)
  pub sorted : (i j : ℕ) → i ≤ j → j < tail → steps_of (visit (order i)) ≤ steps_of (visit (order j))
  -- what is visited is queued
  pub placed : (u : ℕ) → IsSome (visit u) → (i : ℕ) × (i < tail) × (order i ≡ u)
  -- nothing is more than a step farther than the first of the queue
  pub near : (u : ℕ) → IsSome (visit u) → head < tail → steps_of (visit u) ≤ steps_of (visit (order head)) + 1
  -- the states before lead back to the start, a step at a time
  pub back : (u : ℕ) → IsSome (visit u) → ((u ≡ s) × (steps_of (visit u) ≡ 0)) ⊎ (let b = before_of (visit u) in IsSome (visit b) × (steps_of (visit b) + 1 ≡ steps_of (visit u)) × ok b × S b u)
  -- each step from a state that is done with leads to one that is visited
  pub closed : (i : ℕ) → i < head → ok (order i) → (t : ℕ) → S (order i) t → IsSome (visit t) × (steps_of (visit t) ≤ steps_of (visit (order i)) + 1)

-- the queue holds the start alone
pub going_start : {n : ℕ} {S : ℕ → ℕ → Type 0} {ok : ℕ → Type 0} {s : ℕ} {visit : ℕ → Option Visit} {order : ℕ → ℕ} {v : Visit}
    → s < n → visit s ≡ Some v → v.steps ≡ 0 → ((u : ℕ) → (u ≡ s → ⊥) → IsNone (visit u)) → order 0 ≡ s
    → Going n S ok s visit order 0 1
going_start {n = n} {s = s} {visit = visit} {order = order} within here none_before none o =
    let there : IsSome (visit s) × (steps_of (visit s) ≡ 0) = rw here (refl, none_before) in
    let only : (u : ℕ) → IsSome (visit u) → u ≡ s = λ u h. ⊎_elim (λ e. e) (λ ne. absurd (let no = none u ne in cc)) (cases_eq u s) in
    let first : (i : ℕ) → i < 1 → order i ≡ s = λ i h. ap order (omega arith) ∙ o in
    record {
      room = omega arith;
      start = there;
      queued = λ i h. rw (first i h) (within, there.0, omega (arith, there.1));
      sorted = λ i j h m. rw (first i (omega arith), first j m) (omega arith);
      placed = λ u h. (0, omega arith, o ∙ sym (only u h));
      near = λ u h m. omega (arith, ap (λ v. steps_of (visit v)) (only u h), there.1);
      back = λ u h. inl (only u h, rw (only u h) there.1);
      closed = λ i h. absurd (omega arith);
    }

module _ {n : ℕ} {S : ℕ → ℕ → Type 0} {ok : ℕ → Type 0} {s : ℕ} {visit : ℕ → Option Visit} {order : ℕ → ℕ} {head tail : ℕ} (g : Going n S ok s visit order head tail) where
  -- the first state of the queue is done with
  pub going_next : head < tail
      → (ok (order head) → (t : ℕ) → S (order head) t → IsSome (visit t) × (steps_of (visit t) ≤ steps_of (visit (order head)) + 1))
      → Going n S ok s visit order (head + 1) tail
  going_next some done = record {
    room = g.room;
    start = g.start;
    queued = g.queued;
    sorted = g.sorted;
    placed = g.placed;
    near = λ u h m. omega (arith, g.near u h some, g.sorted head (head + 1) (omega arith) m);
    back = g.back;
    closed = λ i h. ⊎_elim
        (λ e. rw e done)
        (λ ne. g.closed i (omega arith))
        (cases_eq i head);
  }

  -- where every state is visited, the rest of the queue is done with
  pub going_full : ((u : ℕ) → u < n → IsSome (visit u)) → ((a b : ℕ) → S a b → b < n) → Going n S ok s visit order tail tail
  going_full full inside = record {
    room = g.room;
    start = g.start;
    queued = g.queued;
    sorted = g.sorted;
    placed = g.placed;
    near = λ u h m. absurd (omega arith);
    back = g.back;
    closed = λ i h o t st. ⊎_elim
        (λ l. g.closed i l o t st)
        (λ l.
        let there : IsSome (visit t) = full t (inside (order i) t st) in
        (there, omega (arith, g.near t there (omega arith), g.sorted head i l h)))
        (cases_lt i head);
  }

  -- a state that the first one steps to joins the queue
  module _ {visit' : ℕ → Option Visit} {order' : ℕ → ℕ} {t : ℕ} {next : Visit} (some : head < tail) (within : t < n) (fresh : IsNone (visit t)) (fits : tail + 1 ≤ n)
      (first : order head ≡ next.before) (far : next.steps ≡ steps_of (visit next.before) + 1) (o : ok next.before) (st : S next.before t)
      (here : visit' t ≡ Some next) (other : (u : ℕ) → (u ≡ t → ⊥) → visit' u ≡ visit u)
      (last : order' tail ≡ t) (before : (i : ℕ) → i < tail → order' i ≡ order i)
    where
      -- what was visited stays
      stays : (u : ℕ) → IsSome (visit u) → visit' u ≡ visit u
      stays u h = other u (λ e. cc)

      queue_stays : (i : ℕ) → i < tail → (order' i ≡ order i) × (visit' (order' i) ≡ visit (order i))
      queue_stays i h =
          let e : order' i ≡ order i = before i h in
          (e, ap visit' e ∙ stays (order i) (g.queued i h).1)

      newest : visit' (order' tail) ≡ Some next
      newest = ap visit' last ∙ here

      pub going_push : Going n S ok s visit' order' head (tail + 1)
      going_push =
          let from : (next.before < n) × IsSome (visit next.before) × (steps_of (visit next.before) ≤ head) = rw first at (g.queued head some) in
          record {
            room = fits;
            start = rw (stays s g.start.0) g.start;
            queued = λ i h. ⊎_elim
                (λ (e : i ≡ tail). rw (e, newest, last) (within, refl, omega arith))
                (λ ne. let q = queue_stays i (omega arith) in rw (q.1, q.0) (g.queued i (omega arith)))
                (cases_eq i tail);
            sorted = λ i j h m. ⊎_elim
                (λ (e : j ≡ tail). ⊎_elim
                (λ (d : i ≡ tail). rw (d, e) (omega arith))
                (λ (ne : i ≡ tail → ⊥). let q = queue_stays i (omega arith) in
                let r = g.queued i (omega arith) in
                rw (q.1, e, newest) (omega (arith, far, ap (λ v. steps_of (visit v)) first, g.near (order i) r.1 some)))
                (cases_eq i tail))
                (λ ne. rw ((queue_stays i (omega arith)).1, (queue_stays j (omega arith)).1) (g.sorted i j h (omega arith)))
                (cases_eq j tail);
            placed = λ u h. ⊎_elim
                (λ e. (tail, omega arith, last ∙ sym e))
                (λ ne. let p = g.placed u (rw (other u ne) at h) in
                (p.0, omega (arith, p.1), (queue_stays p.0 p.1).0 ∙ p.2))
                (cases_eq u t);
            near = λ u h m. rw (queue_stays head some).1 (⊎_elim
                (λ (e : u ≡ t). rw (e, here, first) (omega (arith, far)))
                (λ ne. rw (other u ne) (g.near u (rw (other u ne) at h) some))
                (cases_eq u t));
            back = λ u h. ⊎_elim
                (λ (e : u ≡ t). rw (e, here) (inr (rw (stays next.before from.1) from.1, rw (stays next.before from.1) (sym far), o, st)))
                (λ ne. rw (other u ne)
                (⊎_elim
                (λ p. inl p)
                (λ p. inr (rw (stays (before_of (visit u)) p.0) p))
                (g.back u (rw (other u ne) at h))))
                (cases_eq u t);
            closed = λ i h a v b.
                let q = queue_stays i (omega arith) in
                let r = g.closed i h (subst ok q.0 a) v (subst (λ w. S w v) q.0 b) in
                rw (q.1, stays v r.0) r;
          }

  -- nothing is left in the queue
  module _ (left : tail ≤ head) where
    -- back to the start by the states before
    walks : (k u : ℕ) → IsSome (visit u) → steps_of (visit u) ≡ k → (w : To S ok s u) × (steps w ≡ k)
    walks zero u h e =
        ⊎_elim
        (λ p. (stop (sym p.0), refl))
        (λ p. absurd (omega (arith, p.1)))
        (g.back u h)
    walks (suc k) u h e =
        ⊎_elim
        (λ p. absurd (omega (arith, p.1)))
        (λ p.
        let before = walks k (before_of (visit u)) p.0 (omega (arith, p.1)) in
        let longer = walk_on before.0 p.2 p.3 in
        (longer.0, longer.1 ∙ ap suc before.1))
        (g.back u h)

    -- along a walk, from its last step
    least : (k u : ℕ) (w : To S ok s u) → steps w ≡ k → IsSome (visit u) × (steps_of (visit u) ≤ k)
    least zero u w e =
        ⊎_elim
        (λ p. rw (← p.1) (g.start.0, omega (arith, g.start.1)))
        (λ p. absurd (omega (arith, p.4)))
        (walk_last w)
    least (suc k) u w e =
        ⊎_elim
        (λ p. absurd (omega (arith, p.0)))
        (λ p.
        let t = p.0 in
        let before : IsSome (visit t) × (steps_of (visit t) ≤ k) = least k t p.1 (omega (arith, p.4)) in
        let place = g.placed t before.0 in
        let ok_there : ok (order place.0) = subst ok (sym place.2) p.2 in
        let step_there : S (order place.0) u = subst (λ v. S v u) (sym place.2) p.3 in
        let after = g.closed place.0 (omega (arith, place.1)) ok_there u step_there in
        (after.0, omega (arith, ap (λ v. steps_of (visit v)) place.2, after.1, before.1)))
        (walk_last w)

    pub going_end : s < n → Found n S ok s visit
    going_end start = record {
      within = λ u h. let p = g.placed u h in omega (arith, (g.queued p.0 p.1).0, p.2);
      walks = λ u h. let w = walks (steps_of (visit u)) u h refl in (start, w.0, w.1);
      least = λ u l w. least (steps w) u w refl;
      few = λ u h. let p = g.placed u h in omega (arith, p.1, (g.queued p.0 p.1).2, ap (λ v. steps_of (visit v)) p.2, g.room);
      back = λ u k h e.
          ⊎_elim
          (λ p. absurd (omega (arith, p.1)))
          (λ p. (p.0, omega (arith, p.1), p.2, p.3))
          (g.back u h);
    }

-- nothing is found from what is no state
pub none_found : {n : ℕ} {S : ℕ → ℕ → Type 0} {ok : ℕ → Type 0} {s : ℕ} {visit : ℕ → Option Visit} → n ≤ s → ((u : ℕ) → IsNone (visit u)) → Found n S ok s visit
none_found {visit = visit} no_state none =
    let no : (u : ℕ) → IsSome (visit u) → ⊥ = λ u h. false≢true (sym (none u) ∙ h) in
    record {
      within = λ u h. absurd (no u h);
      walks = λ u h. absurd (no u h);
      least = λ u l. absurd (omega arith);
      few = λ u h. absurd (no u h);
      back = λ u k h. absurd (no u h);
    }
