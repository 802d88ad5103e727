-- What was struck, shown and said is so on every later page. Assumes nothing.
use Rattle.std.proofs.Common.{◌≡◌, ℕ, List, ◌++◌, reverse, take, drop, sym, refl, ap, ◌∙◌, subst, arith}
use Rattle.std.specs.List.{slice_get}
use Rattle.std.proofs.lemmas.List.{reverse-append, take-take, take-append-drop}
use Rattle.std.proofs.lemmas.Bool.{or_right}
use Rattle.until.specs.Formulas.{Holds}
use Rattle.strikes.specs.declared.strike.Strike.{Strike}
use Rattle.strikes.specs.Strikes.{struck}
use Rattle.strikes.specs.Told.{formula_of}
use Rattle.sheet.specs.declared.request.Request.{Request}
use Rattle.sheet.specs.declared.request.Request.TheVariants.{Try, Sweep, Settle, Class, Below, Reason, Answer}
use Rattle.sheet.specs.Memory.{Memory, history}
use Rattle.sheet.specs.Verdicts.{Setting}
use Rattle.sheet.specs.Genuine.{Grown}
use Rattle.sheet.specs.Pages.{Page, held, Came}
use Rattle.sheet.specs.Replies.{Replied}
use Rattle.sheet.specs.Tells.{IsStruck, Shown}
use Rattle.sheet.specs.Promises.{Onward, Says}
use Rattle.sheet.proofs.Growing.{grown_self, grown_then}
use Rattle.sheet.proofs.Records.{struck_append, nth_take}

module _ (before after : Memory) (grown : Grown before after) where
  pub struck_later : (s t : ℕ) → IsStruck before s t → IsStruck after s t
  struck_later s t h =
      let rest : List Strike = drop before.made (take after.made after.records) in
      let e : history after ≡ reverse rest ++ history before =
      ap reverse (sym (take-append-drop before.made (take after.made after.records)))
      ∙ reverse-append (take before.made (take after.made after.records)) rest
      ∙ ap (λ xs. reverse rest ++ reverse xs) (take-take before.made after.made after.records grown.more ∙ grown.kept) in
      ap (λ ks. struck ks s t) e ∙ struck_append (reverse rest) (history before) s t ∙ or_right (struck (reverse rest) s t) (struck (history before) s t) h

  shown_later : {L : Type 0} (on : Setting L) (s t : ℕ) (k : Strike) → Shown on before s t k → Shown on after s t k
  shown_later on s t k h =
      let front : take h.place after.records ≡ take h.place before.records =
      sym (take-take h.place before.made after.records (omega (arith, h.early))) ∙ ap (take h.place) grown.kept ∙ take-take h.place before.made before.records (omega (arith, h.early)) in
      let same : reverse (take h.place after.records) ≡ reverse (take h.place before.records) = ap reverse front in
      record {
        place = h.place;
        early = omega (arith, h.early, grown.more);
        there = sym (nth_take after.records before.made h.place h.early) ∙ ap (λ xs. slice_get xs h.place) grown.kept ∙ nth_take before.records before.made h.place h.early ∙ h.there;
        first = h.first;
        second = h.second;
        holds = subst (λ ks. Holds on.at_most on.machine (formula_of on.machine ks k) s) (sym same) h.holds;
        fails = λ x. h.fails (subst (λ ks. Holds on.at_most on.machine (formula_of on.machine ks k) t) same x);
      }

module _ {L : Type 0} (on : Setting L) where
  pub onward_self : (p : Page) → Came on p → Onward on p p
  onward_self p came = record { came = came; grown = grown_self (held p); rests = λ _. refl }

  pub onward_then : (a b c : Page) → Onward on a b → Onward on b c → Onward on a c
  onward_then a b c x y = record {
    came = y.came;
    grown = grown_then (held a) (held b) (held c) x.grown y.grown;
    rests = λ settled. y.rests (ap (λ p. p.sheet.settled) (x.rests settled) ∙ settled) ∙ x.rests settled;
  }

  pub says_later : (p after : Page) → Onward on p after → (q : Request) (a : Replied) → Says on p q a → Says on after q a
  says_later p after m (Try s t) a h = λ v is says. struck_later (held p) (held after) m.grown s t (h v is says)
  says_later p after m (Sweep s) a h = tt
  says_later p after m Settle a h = λ k l is. subst (λ x. Says on x Settle a) (sym (m.rests (h k l is).0)) h k l is
  says_later p after m (Class s) a h = h
  says_later p after m (Below s t) a h = λ b is. ((h b is).0, λ no. struck_later (held p) (held after) m.grown s t ((h b is).1 no))
  says_later p after m (Reason s t) a h = λ k is. shown_later (held p) (held after) m.grown on s t k (h k is)
  says_later p after m (Answer s t u) a h = h
