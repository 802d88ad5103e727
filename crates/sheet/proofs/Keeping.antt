-- Every call on a page that came about by strikes keeps its promise. Assumes nothing.
use Rattle.std.proofs.Common.{◌≡◌, ℕ, ◌+◌, ◌<◌, ◌≤◌, Bool, true, false, not, T, ◌↔◌, List, [], ◌∷◌, length, take, is_some, Some, Ok, Err, Result, sym, refl, ap, ◌∙◌, subst, arith}
use Rattle.std.proofs.lemmas.Bool.{cond-false, le-ltb, not-false, not_from_true}
use Rattle.model.specs.declared.refusal.Refusal.{Refusal}
use Rattle.model.specs.Orders.{Preorder}
use Rattle.model.specs.Machines.{Bounded}
use Rattle.model.proofs.Checks.{Clear, refused_at, answered_at, none_clear, clear_none, clear_parts, clear_append}
use Rattle.model.proofs.Tests.{holds_true}
use Rattle.until.proofs.Decided.{walks_decides}
use Rattle.strikes.specs.declared.strike.Strike.{Strike}
use Rattle.strikes.specs.Statements.{Entails}
use Rattle.sheet.specs.declared.verdict.Verdict.{Verdict}
use Rattle.sheet.specs.declared.request.Request.{Request}
use Rattle.sheet.specs.declared.request.Request.TheVariants.{Try, Sweep, Settle, Class, Below, Reason, Answer}
use Rattle.sheet.specs.declared.request.Reply.TheVariants.{Tried, Swept, Settled, ClassIs, IsBelow, ReasonIs, Walked}
use Rattle.sheet.specs.Memory.{Memory, stands, history}
use Rattle.sheet.specs.Verdicts.{Setting, size, applied, tried, swept, settled}
use Rattle.sheet.specs.Genuine.{Genuine, Grown}
use Rattle.sheet.specs.Pages.{Page, held, holding, Came, record_of}
use Rattle.sheet.specs.Causes.{sheet_tests, page_tests, settled_tests, try_tests, sweep_tests, settle_tests, class_tests, below_tests, record_tests, reason_tests, step_tests, answer_tests}
use Rattle.sheet.specs.Calls.{Tries, Sweeps, Settles, Classes, Belows, Reasons, Answers}
use Rattle.sheet.specs.Replies.{Replied, reply, Replies}
use Rattle.sheet.specs.Tells.{SaysStruck, Represents, Answering}
use Rattle.sheet.specs.Promises.{Onward, Says, Given, Rests, Kept}
use Rattle.sheet.proofs.Came.{Inside, page_fits, settled_fits, came_clear, came_holding}
use Rattle.sheet.proofs.Growing.{grown_tried, grown_swept, genuine_tried, genuine_swept, rests_tried, rests_swept, struck_tried}
use Rattle.sheet.proofs.Settling.{settles, rests_settled}
use Rattle.sheet.proofs.Telling.{no_byte_struck, strike_shown, stands_entails, class_represents, stands_largest, written_answers}
use Rattle.sheet.proofs.Records.{naming_record, naming_there, struck_low}
use Rattle.sheet.proofs.Later.{onward_self}

module _ {L : Type 0} (on : Setting L) (bounded : Bounded on.machine) (p : Page) (came : Came on p) where
  genuine : Genuine on p.sheet.settled (held p)
  genuine = came.genuine

  -- the same reply and page
  as_it_was : (q : Request) (a b : Replied) (after : Page) → a ≡ b → after ≡ p → Kept on p q b p → Kept on p q a after
  as_it_was q a b after same still k = subst (λ x. Kept on p q x after) (sym same) (subst (Kept on p q b) (sym still) k)

  -- a refusal says nothing
  refused_says : (q : Request) (e : Refusal) → Says on p q (Err e)
  refused_says (Try s t) e = λ v is says. cc
  refused_says (Sweep s) e = tt
  refused_says Settle e = λ k l is. cc
  refused_says (Class s) e = λ c is. cc
  refused_says (Below s t) e = λ b is. cc
  refused_says (Reason s t) e = λ k is. cc
  refused_says (Answer s t u) e = λ k memory is. cc

  refused_rests : (q : Request) (e : Refusal) → Rests on p q (Err e)
  refused_rests (Try s t) e = λ v is. cc
  refused_rests (Sweep s) e = λ k is. cc
  refused_rests Settle e = λ k l is. cc
  refused_rests (Class s) e = tt
  refused_rests (Below s t) e = tt
  refused_rests (Reason s t) e = tt
  refused_rests (Answer s t u) e = tt

  refused_kept : (q : Request) (e : Refusal) (after : Page) → after ≡ p → Given on p q (Err e) → Kept on p q (Err e) after
  refused_kept q e after same given =
      subst (Kept on p q (Err e)) (sym same) (record { onward = onward_self on p came; says = refused_says q e; given = given; rests = refused_rests q e })

  -- the page with other genuine memory, which is the same where the page is settled
  onward_to : (z : Bool) (mem : Memory) → Genuine on z mem → Grown (held p) mem → (p.sheet.settled ≡ true → (z ≡ true) × (mem ≡ held p)) → (after : Page) → after ≡ holding p z mem → Onward on p after
  onward_to z mem g grown same after e = subst (Onward on p) (sym e) (record {
    came = came_holding on p came z mem g;
    grown = grown;
    rests = λ settled. let stays = same settled in ap (holding p z) stays.1 ∙ ap (λ b. holding p b (held p)) (stays.0 ∙ sym settled);
  })

  pub try_kept : (s t : ℕ) (r : Result Verdict Refusal) (after : Page) → Tries on p s t r after → Kept on p (Try s t) (reply Tried r) after
  try_kept s t (Err e) after checked =
      let no_answer = refused_at _ e checked in
      refused_kept (Try s t) e after no_answer.0 (λ hs ht. absurd (no_answer.1 (clear_none (try_tests (size on) p s t) (came_clear on p came (s ∷ t ∷ []) (hs, (ht, tt))))))
  try_kept s t (Ok v) after checked =
      let good = answered_at _ v checked in
      let low = (page_fits (size on) p (s ∷ t ∷ []) (none_clear (try_tests (size on) p s t) good.1)).inside in
      let z = p.sheet.settled in
      record {
        onward = onward_to z (tried on (held p) s t) (genuine_tried on bounded z (held p) genuine s t low.0 low.1.0) (grown_tried on (held p) s t)
            (λ settled. (settled, rests_tried on bounded z (held p) genuine settled s t low.0 low.1.0)) after good.0.1;
        says = λ w is says.
            let same : v ≡ w = cc in
            subst (λ x. Says on x (Try s t) (Ok (Tried w))) (sym good.0.1) (λ w' is' says'. struck_tried on bounded z (held p) genuine s t low.0 low.1.0 (subst SaysStruck (sym same ∙ good.0.0) says)) w refl says;
        given = λ hs ht. (v, refl);
        rests = λ w is.
            let same : v ≡ w = cc in (
              λ was. sym same ∙ good.0.0 ∙ cond-false _ _ _ (genuine.agrees s t low.0 low.1.0 ∙ ap not was),
              λ settled k strikes.
                  let still : tried on (held p) s t ≡ held p = rests_tried on bounded z (held p) genuine settled s t low.0 low.1.0 in
                  let more : (tried on (held p) s t).made ≡ p.sheet.strikes + 1 = ap (λ x. (applied (size on) (held p) x).made) (sym good.0.0 ∙ same ∙ strikes) in
                  omega (arith, ap (λ x. x.made) still, more),
            );
      }

  pub sweep_kept : (s : ℕ) (r : Result ℕ Refusal) (after : Page) → Sweeps on p s r after → Kept on p (Sweep s) (reply Swept r) after
  sweep_kept s (Err e) after checked =
      let no_answer = refused_at _ e checked in
      refused_kept (Sweep s) e after no_answer.0 (λ hs. absurd (no_answer.1 (clear_none (sweep_tests (size on) p s) (came_clear on p came (s ∷ []) (hs, tt)))))
  sweep_kept s (Ok k) after checked =
      let good = answered_at _ k checked in
      let low = (page_fits (size on) p (s ∷ []) (none_clear (sweep_tests (size on) p s) good.1)).inside.0 in
      let z = p.sheet.settled in
      let still : z ≡ true → swept on (held p) s (size on) ≡ held p = λ settled. rests_swept on bounded z settled (held p) genuine s low (size on) (omega arith) in
      record {
        onward = onward_to z (swept on (held p) s (size on)) (genuine_swept on bounded z (held p) genuine s low (size on) (omega arith)) (grown_swept on (held p) s (size on))
            (λ settled. (settled, still settled)) after good.0.1;
        says = tt;
        given = λ hs. (k, refl);
        rests = λ l is settled. let same : k ≡ l = cc in omega (arith, same, good.0.0, ap (λ x. x.made) (still settled));
      }

  -- on a settled page the tests of a call that needs one pass, and tests that pass say that it is settled
  settled_clear : (numbers : List ℕ) → p.sheet.settled ≡ true → Inside (size on) numbers → Clear (settled_tests (size on) p.sheet p.pairs numbers)
  settled_clear numbers is_settled inside =
      let clear = came_clear on p came numbers inside in
      clear_append (sheet_tests (size on) p.sheet p.pairs numbers) ((not p.sheet.settled, 9) ∷ []) (clear.0, clear.1.1) (not_from_true _ is_settled, tt)

  settled_low : (numbers : List ℕ) → Clear (settled_tests (size on) p.sheet p.pairs numbers) → Inside (size on) numbers × (p.sheet.settled ≡ true)
  settled_low numbers clear =
      let parts = clear_parts (sheet_tests (size on) p.sheet p.pairs numbers) ((not p.sheet.settled, 9) ∷ []) clear in
      ((settled_fits (size on) p.sheet p.pairs numbers clear).inside, not-false _ parts.1.0)

  module _ (laws : Preorder on.at_most) where
    pub settle_kept : (r : Result (ℕ × ℕ) Refusal) (after : Page) → Settles on p r after → Kept on p Settle (reply (λ x. Settled x.0 x.1) r) after
    settle_kept (Err e) after checked =
        let no_answer = refused_at _ e checked in
        absurd (no_answer.1 (clear_none (settle_tests (size on) p) (came_clear on p came [] tt)))
    settle_kept (Ok a) after checked =
        let good = answered_at _ a checked in
        let done = settles on bounded p.sheet.settled (held p) genuine in
        let still : p.sheet.settled ≡ true → settled on (held p) ≡ (held p, 1) = λ z. rests_settled on bounded (held p) (subst (λ b. Genuine on b (held p)) z genuine) in
        record {
          onward = onward_to true (settled on (held p)).0 done.0 done.1 (λ z. (refl, ap (λ x. x.0) (still z))) after good.0.2;
          says = subst (λ x. Says on x Settle (Ok (Settled a.0 a.1))) (sym good.0.2) (λ k l is. (refl, stands_largest on bounded laws true (settled on (held p)).0 done.0 refl));
          given = (a.0, a.1, refl);
          rests = λ k l is z.
              let first : a.0 ≡ k = cc in
              let second : a.1 ≡ l = cc in
              (omega (arith, first, good.0.0, ap (λ x. x.0.made) (still z)), sym second ∙ good.0.1 ∙ ap (λ x. x.1) (still z));
        }

    pub class_kept : (s : ℕ) (r : Result ℕ Refusal) → Classes (size on) p.sheet p.pairs s r → Kept on p (Class s) (reply ClassIs r) p
    class_kept s (Err e) checked =
        let no_answer = refused_at _ e checked in
        refused_kept (Class s) e p refl (λ settled hs. absurd (no_answer.1 (clear_none (class_tests (size on) p.sheet p.pairs s) (settled_clear (s ∷ []) settled (hs, tt)))))
    class_kept s (Ok c) checked =
        let good = answered_at _ c checked in
        let low = settled_low (s ∷ []) (none_clear (class_tests (size on) p.sheet p.pairs s) good.1) in
        record {
          onward = onward_self on p came;
          says = λ d is. let same : c ≡ d = cc in subst (Represents on s) (sym good.0 ∙ same) (class_represents on bounded laws p.sheet.settled (held p) genuine low.1 s low.0.0);
          given = λ settled hs. (c, refl);
          rests = tt;
        }

    pub below_kept : (s t : ℕ) (r : Result Bool Refusal) → Belows (size on) p.sheet p.pairs s t r → Kept on p (Below s t) (reply IsBelow r) p
    below_kept s t (Err e) checked =
        let no_answer = refused_at _ e checked in
        refused_kept (Below s t) e p refl (λ settled hs ht. absurd (no_answer.1 (clear_none (below_tests (size on) p.sheet p.pairs s t) (settled_clear (s ∷ t ∷ []) settled (hs, (ht, tt))))))
    below_kept s t (Ok b) checked =
        let good = answered_at _ b checked in
        let low = settled_low (s ∷ t ∷ []) (none_clear (below_tests (size on) p.sheet p.pairs s t) good.1) in
        record {
          onward = onward_self on p came;
          says = λ d is.
              let same : b ≡ d = cc in
              let d_is : d ≡ stands (size on) p.pairs s t = sym same ∙ good.0 in (
                subst (λ x. T x ↔ Entails on.at_most on.machine s t) (sym d_is) (stands_entails on bounded laws p.sheet.settled (held p) genuine low.1 s t low.0.0 low.0.1.0),
                λ no. no_byte_struck on bounded laws p.sheet.settled (held p) genuine s t low.0.0 low.0.1.0 (sym d_is ∙ no),
              );
          given = λ settled hs ht. (b, refl);
          rests = tt;
        }

    pub reason_kept : (s t : ℕ) (r : Result Strike Refusal) → Reasons (size on) p s t r → Kept on p (Reason s t) (reply ReasonIs r) p
    reason_kept s t (Err e) checked =
        let no_answer = refused_at _ e checked in
        refused_kept (Reason s t) e p refl (λ was.
        let low = struck_low on (history (held p)) genuine.lawful s t was in
        let byte : stands (size on) p.pairs s t ≡ false = genuine.agrees s t low.0 low.1 ∙ ap not was in
        let found : not (is_some (record_of p s t)) ≡ false = ap not (naming_there (take p.sheet.strikes p.records) s t was) in
        absurd (no_answer.1 (clear_none (reason_tests (size on) p s t) (clear_append (page_tests (size on) p (s ∷ t ∷ [])) (record_tests (size on) p s t) (came_clear on p came (s ∷ t ∷ []) (low.0, (low.1, tt))) (byte, (found, tt))))))
    reason_kept s t (Ok d) checked =
        let good = answered_at _ d checked in
        record {
          onward = onward_self on p came;
          says = λ k is.
              let same : d ≡ k = cc in
              let at = naming_record (held p) s t k (good.0 ∙ ap Some same) in
              strike_shown on bounded laws p.sheet.settled (held p) genuine s t at.0 k at.1 at.2 at.3 at.4 at.5;
          given = λ was. (d, refl);
          rests = tt;
        }

    pub answer_kept : (s t u : ℕ) (walk : List ℕ) (r : Result ℕ Refusal) (memory : List ℕ) → size on ≤ length walk → Answers on.machine p.sheet p.pairs s t u walk r memory → Kept on p (Answer s t u) (reply (λ k. Walked k memory) r) p
    answer_kept s t u walk (Err e) memory room checked =
        let no_answer = refused_at _ e checked in
        refused_kept (Answer s t u) e p refl (λ settled step ht stood.
        let hs : s < size on = step.from_state in
        let w = ((stands_largest on bounded laws p.sheet.settled (held p) genuine settled).simulation s t hs ht stood).1 u step in
        let answers = (walks_decides on.machine (stands (size on) p.pairs s) (stands (size on) p.pairs u) bounded t).1 w in
        let clear = clear_append (settled_tests (size on) p.sheet p.pairs (s ∷ t ∷ u ∷ [])) (step_tests on.machine p.pairs s t u) (settled_clear (s ∷ t ∷ u ∷ []) settled (hs, (ht, (step.to_state, tt))))
        (not_from_true _ (holds_true _ stood), (not_from_true _ (holds_true _ step.there), (not_from_true _ answers, tt))) in
        absurd (no_answer.1 (clear_none (answer_tests on.machine p.sheet p.pairs (length walk) s t u) (clear.0, (le-ltb (length walk) p.sheet.count (omega (arith, came.counted, room)), clear.1)))))
    answer_kept s t u walk (Ok d) memory room checked =
        let good = answered_at _ d checked in
        let clear = none_clear (answer_tests on.machine p.sheet p.pairs (length walk) s t u) good.1 in
        let low = settled_low (s ∷ t ∷ u ∷ []) (clear_parts (settled_tests (size on) p.sheet p.pairs (s ∷ t ∷ u ∷ [])) (step_tests on.machine p.pairs s t u) (clear.0, clear.1.1)).0 in
        record {
          onward = onward_self on p came;
          says = λ k shown is.
              let same : d ≡ k = cc in
              let written : memory ≡ shown = cc in
              subst (Answering on s t u k) written (subst (λ x. Answering on s t u x memory) same (written_answers on bounded laws p.sheet.settled (held p) genuine low.1 s t u d walk memory low.0.0 low.0.1.1.0 good.0));
          given = λ settled step ht stood. (d, memory, refl);
          rests = tt;
        }

    -- every request of a run
    pub kept : (q : Request) (a : Replied) (after : Page) → Replies on p q a after → Kept on p q a after
    kept (Try s t) a after x = subst (λ y. Kept on p (Try s t) y after) (sym x.1) (try_kept s t x.0 after x.2)
    kept (Sweep s) a after x = subst (λ y. Kept on p (Sweep s) y after) (sym x.1) (sweep_kept s x.0 after x.2)
    kept Settle a after x = subst (λ y. Kept on p Settle y after) (sym x.1) (settle_kept x.0 after x.2)
    kept (Class s) a after x = as_it_was (Class s) a _ after x.1 x.3 (class_kept s x.0 x.2)
    kept (Below s t) a after x = as_it_was (Below s t) a _ after x.1 x.3 (below_kept s t x.0 x.2)
    kept (Reason s t) a after x = as_it_was (Reason s t) a _ after x.1 x.3 (reason_kept s t x.0 x.2)
    kept (Answer s t u) a after x = as_it_was (Answer s t u) a _ after x.3 x.6 (answer_kept s t u x.1 x.0 x.2 x.4 x.5)
