-- The law over runs follows from the promises of the calls. Assumes nothing.
use Rattle.std.proofs.Common.{◌≡◌, ℕ, zero, suc, ◌+◌, ◌<◌, ◌≤◌, true, false, cond, not, T, leb, ltb, ◌⊎◌, ◌↔◌, List, [], ◌∷◌, ◌++◌, length, take, drop, set, IfOk, Some, Ok, Result, sym, refl, ap, ◌∙◌, subst, inl, inr, ⊎_elim, add-one, arith}
use lib.ListN.{length-replicate}
use Rattle.std.specs.List.{slice_get}
use Rattle.std.proofs.lemmas.Option.{none-some, slice_get_within, slice_get_cases}
use Rattle.std.proofs.lemmas.Result.{IfOk-at_ok}
use Rattle.std.proofs.lemmas.List.{length_push, take_more_set, length-take-le}
use Rattle.std.proofs.lemmas.Bool.{le-ltb, cases_eq, cond-true, cond-false, le-leb, lt-leb, not-false}
use Rattle.model.specs.declared.refusal.Refusal.{Refusal}
use Rattle.model.specs.Orders.{Preorder}
use Rattle.model.specs.Machines.{Bounded, Step, state_bound}
use Rattle.model.specs.Refusals.{Checked, cause}
use Rattle.model.proofs.Checks.{when_answered, answered_at, none_clear, clear_none, clear_append}
use Rattle.strikes.specs.declared.strike.Strike.{Strike}
use Rattle.strikes.specs.Statements.{Entails, Same}
use Rattle.sheet.specs.declared.request.Request.{Request}
use Rattle.sheet.specs.declared.request.Request.TheVariants.{Try, Sweep, Settle, Class, Below, Reason, Answer}
use Rattle.sheet.specs.declared.verdict.Verdict.TheVariants.{Struck}
use Rattle.sheet.specs.declared.request.Reply.TheVariants.{Tried, Swept, Settled, ClassIs, IsBelow, ReasonIs, Walked}
use Rattle.sheet.specs.Memory.{stands}
use Rattle.sheet.specs.Verdicts.{Setting, size}
use Rattle.sheet.specs.declared.sheet.Sheet.{Sheet}
use Rattle.sheet.specs.Pages.{Page, page, held, begun_page, Came}
use Rattle.sheet.specs.Causes.{begin_tests}
use Rattle.sheet.specs.Calls.{Begins}
use Rattle.sheet.specs.Replies.{Replied, Replies, RepliesInto}
use Rattle.sheet.specs.Tells.{Represents}
use Rattle.sheet.specs.Promises.{Onward, Says, Kept, CameUnderAll}
use Rattle.sheet.specs.Law.{Asked, Law, PageLaw}
use Rattle.sheet.specs.Runs.{run_tests, blank_walk, InTurn, Ran}
use Rattle.sheet.proofs.Beginning.{begun_is}
use Rattle.sheet.proofs.Telling.{stands_entails, stands_largest}
use Rattle.sheet.proofs.Later.{struck_later, onward_self, onward_then, says_later}
use Rattle.sheet.proofs.Keeping.{kept}

-- what stands at a place of a list
nth_some : {A : Type 0} (xs : List A) (i : ℕ) → i < length xs → (x : A) × (slice_get xs i ≡ Some x)
nth_some xs i h = ⊎_elim (λ at. (at.0, at.2)) (λ past. absurd (omega arith)) (slice_get_cases xs i).1

nth_last : {A : Type 0} (xs : List A) (y x : A) (i : ℕ) → slice_get (xs ++ y ∷ []) i ≡ Some x → ((i < length xs) × (slice_get xs i ≡ Some x)) ⊎ ((i ≡ length xs) × (y ≡ x))
nth_last [] y x zero e = inr (refl, cc)
nth_last [] y x (suc i) e = cc
nth_last (a ∷ xs) y x zero e = inl (omega arith, e)
nth_last (a ∷ xs) y x (suc i) e = ⊎_elim (λ l. inl (omega (arith, l.0), l.1)) (λ r. inr (ap suc r.0, r.1)) (nth_last xs y x i e)

-- two states have one representative exactly when the same formulas hold at them
same_class : {L : Type 0} (on : Setting L) (s t c d : ℕ) → Represents on s c → Represents on t d → (c ≡ d) ↔ Same on.at_most on.machine s t
same_class on s t c d x y = (
  λ e F.
      let z : Same on.at_most on.machine t c = subst (Same on.at_most on.machine t) (sym e) y.alike in
      (λ h. (z F).1 ((x.alike F).0 h), λ h. (x.alike F).1 ((z F).0 h)),
  λ same.
      let up : c ≤ d = x.least d y.state (λ F. (λ h. (y.alike F).0 ((same F).0 h), λ h. (same F).1 ((y.alike F).1 h))) in
      let down : d ≤ c = y.least c x.state (λ F. (λ h. (x.alike F).0 ((same F).1 h), λ h. (same F).0 ((x.alike F).1 h))) in
      omega (arith, up, down),
)

-- the pages up to place k, then another
pub then_page : (ℕ → Page) → ℕ → Page → ℕ → Page
then_page pages k after i = cond (leb i k) (pages i) after

page_before : (pages : ℕ → Page) (k : ℕ) (after : Page) (i : ℕ) → i ≤ k → then_page pages k after i ≡ pages i
unfolding then_page
page_before pages k after i h = cond-true (leb i k) (pages i) after (le-leb i k h)

page_after : (pages : ℕ → Page) (k : ℕ) (after : Page) → then_page pages k after (suc k) ≡ after
unfolding then_page
page_after pages k after = cond-false (leb (suc k) k) (pages (suc k)) after (lt-leb (suc k) k (omega arith))

module _ {L : Type 0} (on : Setting L) where
  pub in_turn_none : (requests : List Request) (begun : Page) → InTurn on (λ _. begun) requests [] begun begun
  in_turn_none requests begun = record { begins = refl; turn = λ i q a asked. absurd (none-some a asked.1); ends = refl }

  pub in_turn_more : (pages : ℕ → Page) (requests : List Request) (replies : List Replied) (begun p after : Page) → InTurn on pages requests replies begun p →
      (q : Request) (a : Replied) → slice_get requests (length replies) ≡ Some q → RepliesInto on blank_walk p q a after → InTurn on (then_page pages (length replies) after) requests (replies ++ a ∷ []) begun after
  in_turn_more pages requests replies begun p after run q a next replied = record {
    begins = page_before pages k after zero (omega arith) ∙ run.begins;
    turn = λ i q' a' asked.
        ⊎_elim
        (λ old.
        let turn = run.turn i q' a' (asked.0, old.1) in
        subst (λ x. RepliesInto on blank_walk x q' a' (then_page pages k after (suc i))) (sym (page_before pages k after i (omega (arith, old.0))))
        (subst (λ x. RepliesInto on blank_walk (pages i) q' a' x) (sym (page_before pages k after (suc i) (omega (arith, old.0)))) turn))
        (λ new.
        let q_is : Some q ≡ Some q' = sym next ∙ ap (slice_get requests) (sym new.0) ∙ asked.0 in
        let same : q ≡ q' = cc in
        subst (λ j. RepliesInto on blank_walk (then_page pages k after j) q' a' (then_page pages k after (suc j))) (sym new.0)
        (subst (λ x. RepliesInto on blank_walk x q' a' (then_page pages k after (suc k))) (sym (page_before pages k after k (omega arith) ∙ run.ends))
        (subst (λ x. RepliesInto on blank_walk p q' a' x) (sym (page_after pages k after))
        (subst (λ x. RepliesInto on blank_walk p x a' after) same (subst (λ x. RepliesInto on blank_walk p q x after) new.1 replied)))))
        (nth_last replies a a' i asked.1);
    ends = ap (then_page pages k after) (length_push replies a ∙ add-one k) ∙ page_after pages k after;
  }
    where
      k : ℕ
      k = length replies

  -- what is written into a copy of the blank memory is written into memory with a place for each state
  replied_into : (blank : List ℕ) → size on ≤ length blank → (p : Page) (q : Request) (a : Replied) (after : Page) → RepliesInto on blank p q a after → Replies on p q a after
  replied_into blank room p (Answer s t u) a after x = (x.0.0, blank, x.0.1, x.0.2, room, x.0.3, x.1)
  replied_into blank room p q a after x = x

  -- Replies made in turn, each as stated, from a page that came about by strikes.
  module _ (bounded : Bounded on.machine) (laws : Preorder on.at_most) (pages : ℕ → Page) (requests : List Request) (replies : List Replied) (came : Came on (pages zero))
      (few : length replies ≤ length requests) (turn : (i : ℕ) (q : Request) (a : Replied) → Asked requests replies i q a → Replies on (pages i) q a (pages (suc i))) where
    asked_low : (i : ℕ) (q : Request) (a : Replied) → Asked requests replies i q a → i < length replies
    asked_low i q a asked = slice_get_within replies i a asked.1

    pub came_at : (i : ℕ) → i ≤ length replies → Came on (pages i)
    came_at zero h = came
    came_at (suc i) h =
        let q = nth_some requests i (omega (arith, few)) in
        let a = nth_some replies i (omega arith) in
        (kept on bounded (pages i) (came_at i (omega arith)) laws q.0 a.0 (pages (suc i)) (turn i q.0 a.0 (q.1, a.1))).onward.came

    pub kept_at : (i : ℕ) (q : Request) (a : Replied) → Asked requests replies i q a → Kept on (pages i) q a (pages (suc i))
    kept_at i q a asked = kept on bounded (pages i) (came_at i (omega (arith, asked_low i q a asked))) laws q a (pages (suc i)) (turn i q a asked)

    pub onward_at : (i j : ℕ) → i ≤ j → j ≤ length replies → Onward on (pages i) (pages j)
    onward_at i zero h l = let e : i ≡ zero = omega arith in subst (λ k. Onward on (pages k) (pages zero)) (sym e) (onward_self on (pages zero) (came_at zero l))
    onward_at i (suc j) h l =
        let q = nth_some requests j (omega (arith, few)) in
        let a = nth_some replies j (omega arith) in
        ⊎_elim
        (λ e. subst (λ k. Onward on (pages k) (pages (suc j))) (sym e) (onward_self on (pages (suc j)) (came_at (suc j) l)))
        (λ e. onward_then on (pages i) (pages j) (pages (suc j)) (onward_at i j (omega (arith, h, e)) (omega arith)) (kept_at j q.0 a.0 (q.1, a.1)).onward)
        (cases_eq i (suc j))

    pub says_at : (i j : ℕ) (q : Request) (a : Replied) → i < j → j ≤ length replies → Asked requests replies i q a → Says on (pages j) q a
    says_at i j q a h l asked = says_later on (pages (suc i)) (pages j) (onward_at (suc i) j h l) q a (kept_at i q a asked).says

    pub settled_at : (i j : ℕ) (b : Replied) → i < j → j ≤ length replies → Asked requests replies i Settle b → (pages j).sheet.settled ≡ true
    settled_at i j b h l asked = let g = (kept_at i Settle b asked).given in (says_at i j Settle b h l asked g.0 g.1 g.2).0

    -- the page on which a later request was made is settled
    pub was_settled : (i j : ℕ) (b : Replied) (q : Request) (a : Replied) → i < j → Asked requests replies i Settle b → Asked requests replies j q a → (pages j).sheet.settled ≡ true
    was_settled i j b q a h x y = settled_at i j b h (omega (arith, asked_low j q a y)) x

    -- what an earlier reply said, on the page on which a later request was made
    said : (i j : ℕ) (q q' : Request) (a a' : Replied) → i < j → Asked requests replies i q a → Asked requests replies j q' a' → Says on (pages j) q a
    said i j q q' a a' h x y = says_at i j q a h (omega (arith, asked_low j q' a' y)) x

    -- on a settled page what every formula of s says of t is that (s, t) stands
    entailed_stands : (j s t u : ℕ) → j ≤ length replies → (pages j).sheet.settled ≡ true → Step on.machine s u → t < size on → Entails on.at_most on.machine s t → T (stands (size on) (pages j).pairs s t)
    entailed_stands j s t u low z step ht all = (stands_entails on bounded laws (pages j).sheet.settled (held (pages j)) (came_at j low).genuine z s t step.from_state ht).1 all

    pub running_law : Law on (pages (length replies)) requests replies
    running_law = record {
      classes = λ i j s t c d x y. same_class on s t c d ((kept_at i (Class s) (Ok (ClassIs c)) x).says c refl) ((kept_at j (Class t) (Ok (ClassIs d)) y).says d refl);
      below = λ i s t b x. ((kept_at i (Below s t) (Ok (IsBelow b)) x).says b refl).0;
      shown = λ i s t k x. says_at i (length replies) (Reason s t) (Ok (ReasonIs k)) (asked_low i (Reason s t) (Ok (ReasonIs k)) x) (omega arith) x k refl;
      walked = λ i s t u k memory x. (kept_at i (Answer s t u) (Ok (Walked k memory)) x).says k memory refl;
      tries = λ i s t a x. (kept_at i (Try s t) a x).given;
      sweeps = λ i s a x. (kept_at i (Sweep s) a x).given;
      settles = λ i a x. (kept_at i Settle a x).given;
      classes_given = λ i j s a b h x y. (kept_at j (Class s) a y).given (was_settled i j b (Class s) a h x y);
      below_given = λ i j s t a b h x y. (kept_at j (Below s t) a y).given (was_settled i j b (Below s t) a h x y);
      walks_given = λ i j s t u a b h x y step ht all.
          let z = was_settled i j b (Answer s t u) a h x y in
          (kept_at j (Answer s t u) a y).given z step ht (entailed_stands j s t u (omega (arith, asked_low j (Answer s t u) a y)) z step ht all);
      no_has_reason = λ i j s t a h x y. (kept_at j (Reason s t) a y).given ((said i j (Below s t) (Reason s t) (Ok (IsBelow false)) a h x y false refl).1 refl);
      strike_has_reason = λ i j s t v a h x says y. (kept_at j (Reason s t) a y).given (said i j (Try s t) (Reason s t) (Ok (Tried v)) a h x y v refl says);
      stays_struck = λ i j s t v w h x says y. ((kept_at j (Try s t) (Ok (Tried w)) y).rests w refl).0 (said i j (Try s t) (Try s t) (Ok (Tried v)) (Ok (Tried w)) h x y v refl says);
      no_more_tries = λ i j s t b k h x y. ((kept_at j (Try s t) (Ok (Tried (Struck k))) y).rests (Struck k) refl).1 (was_settled i j b (Try s t) (Ok (Tried (Struck k))) h x y) k refl;
      no_more_sweeps = λ i j s k b h x y. (kept_at j (Sweep s) (Ok (Swept k)) y).rests k refl (was_settled i j b (Sweep s) (Ok (Swept k)) h x y);
      settles_once = λ i j k l b h x y. (kept_at j Settle (Ok (Settled k l)) y).rests k l refl (was_settled i j b Settle (Ok (Settled k l)) h x y);
    }

  -- The law of a run with a reply to each request.
  module _ (bounded : Bounded on.machine) (laws : Preorder on.at_most) (pages : ℕ → Page) (requests : List Request) (replies : List Replied) (begun last : Page) (came : Came on begun)
      (all : length replies ≡ length requests) (run : InTurn on pages requests replies begun last) where
    room : size on ≤ length blank_walk
    room = omega (arith, bounded.few, length-replicate {A = ℕ} state_bound 0)

    begins : Came on (pages zero)
    begins = subst (Came on) (sym run.begins) came

    few : length replies ≤ length requests
    few = omega (arith, all)

    turn : (i : ℕ) (q : Request) (a : Replied) → Asked requests replies i q a → Replies on (pages i) q a (pages (suc i))
    turn i q a asked = replied_into blank_walk room (pages i) q a (pages (suc i)) (run.turn i q a asked)

    came_in : (i : ℕ) → i ≤ length requests → Came on (pages i)
    came_in i h = came_at bounded laws pages requests replies begins few turn i (omega (arith, h, all))

    kept_in : (i : ℕ) (q : Request) (a : Replied) → Asked requests replies i q a → Kept on (pages i) q a (pages (suc i))
    kept_in = kept_at bounded laws pages requests replies begins few turn

    onward_in : (i j : ℕ) → i ≤ j → j ≤ length requests → Onward on (pages i) (pages j)
    onward_in i j h l = onward_at bounded laws pages requests replies begins few turn i j h (omega (arith, l, all))

    replied_law : Law on last requests replies
    replied_law = subst (λ p. Law on p requests replies) run.ends (running_law bounded laws pages requests replies begins few turn)

    pub in_turn_law : PageLaw on pages requests replies
    in_turn_law = record {
      shown_there = λ i s t k x. subst (λ p. Says on p (Reason s t) (Ok (ReasonIs k))) (unmoved i s t (Ok (ReasonIs k)) x) (kept_in i (Reason s t) (Ok (ReasonIs k)) x).says k refl;
      standing_walks_given = λ i j s t u a b h x y. (kept_in j (Answer s t u) a y).given (was_settled bounded laws pages requests replies begins few turn i j b (Answer s t u) a h x y);
      reasons_given = λ i s t a x. (kept_in i (Reason s t) a x).given;
      came = came_in;
      struck_is_zero = λ i s t h hs ht. let agrees = (came_in i h).genuine.agrees s t hs ht in (λ was. agrees ∙ ap not was, λ gone. not-false _ (sym agrees ∙ gone));
      adds_up = λ i h. (came_in i h).genuine.ready.adds_up;
      pairs_stay_struck = λ i j s t h l. struck_later (held (pages i)) (held (pages j)) (onward_in i j h l).grown s t;
      settled = λ i b x. settled_at bounded laws pages requests replies begins few turn i (suc i) b (omega arith) (slice_get_within replies i b x.1) x;
      largest = λ i h z. stands_largest on bounded laws (pages i).sheet.settled (held (pages i)) (came_in i h).genuine z;
      stays_settled = λ i j h l. (onward_in i j h l).rests;
    }
      where
        unmoved : (i s t : ℕ) (a : Replied) → Asked requests replies i (Reason s t) a → pages (suc i) ≡ pages i
        unmoved i s t a x = (run.turn i (Reason s t) a x).3

  -- a request more, whose reply is written at its place
  pub in_turn_next : (requests : List Request) (replies : List Replied) (k : ℕ) (begun p after : Page) → (pages : ℕ → Page) × InTurn on pages requests (take k replies) begun p →
      (q : Request) (a b : Replied) → k < length replies → slice_get requests k ≡ Some q → a ≡ b → RepliesInto on blank_walk p q b after → (pages : ℕ → Page) × InTurn on pages requests (take (k + 1) (set replies k a)) begun after
  in_turn_next requests replies k begun p after (pages, run) q a b low asked is replied =
      let there = ap (slice_get requests) (length-take-le k replies (omega (arith, low))) ∙ asked in (
        then_page pages (length (take k replies)) after,
        subst (λ xs. InTurn on (then_page pages (length (take k replies)) after) requests xs begun after) (sym (take_more_set replies k a low))
            (in_turn_more pages requests (take k replies) begun p after run q a there (subst (λ x. RepliesInto on blank_walk p q x after) (sym is) replied)),
      )

  -- the requests of a run all made, on the sheet that was begun
  pub run_answers : Bounded on.machine → Preorder on.at_most → (pairs pairs_begun : List ℕ) (records : List Strike) (r : Result Sheet Refusal) (sheet : Sheet) → r ≡ Ok sheet → Begins (size on) pairs records r pairs_begun →
      IfOk r (λ x. CameUnderAll on.machine (page x pairs_begun records)) → (requests : List Request) (before after : List Replied) (k : ℕ) → k ≡ length requests → k ≤ length before → length after ≡ length before → drop k after ≡ drop k before →
      {Unchanged : Type 0} (s : Sheet) (pairs_after : List ℕ) (records_after : List Strike) → (pages : ℕ → Page) × InTurn on pages requests (take k after) (page sheet pairs_begun records) (page s pairs_after records_after) →
      Checked (cause (run_tests (size on) pairs records requests before)) Unchanged (λ x. Ran on requests before after (begun_page (size on) pairs records) (page x pairs_after records_after)) (Ok s)
  run_answers bounded laws pairs pairs_begun records r sheet is begins came requests before after k all places kept rest s pairs_after records_after (pages, run) =
      let n = size on in
      let begun = begun_page n pairs records in
      let last = page s pairs_after records_after in
      let good = answered_at (cause (begin_tests n pairs records)) sheet (subst (λ x. Begins n pairs records x pairs_begun) is begins) in
      let same = begun_is n pairs pairs_begun records sheet good.0 in
      let clear = clear_append (begin_tests n pairs records) ((ltb (length before) (length requests), 6) ∷ []) (none_clear (begin_tests n pairs records) good.1) (le-ltb _ _ (omega (arith, places, all)), tt) in
      let in_turn : InTurn on pages requests (take (length requests) after) begun last =
      subst (λ p. InTurn on pages requests (take (length requests) after) p last) same (subst (λ i. InTurn on pages requests (take i after) (page sheet pairs_begun records) last) all run) in
      when_answered (clear_none (run_tests n pairs records requests before) clear) (record {
        kept = kept;
        rest = subst (λ i. drop i after ≡ drop i before) all rest;
        pages = pages;
        in_turn = in_turn;
        law = in_turn_law bounded laws pages requests (take (length requests) after) begun last (subst (Came on) same (IfOk-at_ok (λ x. CameUnderAll on.machine (page x pairs_begun records)) is came on.at_most))
            (length-take-le (length requests) after (omega (arith, places, kept, all))) in_turn;
      })

  -- the law of the replies of a run that was made so
  pub ran_law : Bounded on.machine → Preorder on.at_most → (requests : List Request) (before after : List Replied) (begun last : Page) → length requests ≤ length before → Ran on requests before after begun last → Law on last requests (take (length requests) after)
  ran_law bounded laws requests before after begun last places ran =
      replied_law bounded laws ran.pages requests (take (length requests) after) begun last (subst (Came on) ran.in_turn.begins (ran.law.came zero (omega arith)))
      (length-take-le (length requests) after (omega (arith, places, ran.kept))) ran.in_turn
