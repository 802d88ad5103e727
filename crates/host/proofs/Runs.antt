-- Runs of the calls of a host keep the law of runs. Assumes nothing.
use Rattle.std.proofs.Common.{◌≡◌, ℕ, zero, suc, Bool, true, false, List, [], ◌∷◌, length, IfOk, Some, Ok, Err, Result, refl, sym, ap, ◌∙◌, subst, arith}
use Rattle.std.specs.List.{slice_get}
use Rattle.std.proofs.lemmas.Bool.{cond_both}
use Rattle.std.proofs.lemmas.Option.{none-some, same_Some}
use Rattle.sheet.specs.Pages.{page}
use Rattle.model.specs.declared.refusal.Refusal.{Refusal}
use Rattle.model.specs.declared.refusal.Refusal.TheVariants.{NoStates, ShortMemory, NoSuchState, OtherSheet, NotSettled, OtherPair, NoSuchStep, LineNotEarlier}
use Rattle.model.specs.Refusals.{number_of}
use Rattle.model.specs.Orders.{flags_at_most}
use Rattle.model.specs.OrderLaws.{flags_lawful}
use Rattle.model.specs.Machines.{Bounded, no_states}
use Rattle.model.specs.MachineLaws.{tabled_bounded}
use Rattle.model.specs.Memory.{over}
use Rattle.sheet.specs.declared.request.Request.{Request}
use Rattle.sheet.specs.declared.request.Request.TheVariants.{Try, Sweep, Settle, Class, Below, Reason, Answer}
use Rattle.sheet.specs.declared.request.Reply.{Reply}
use Rattle.sheet.specs.declared.request.Reply.TheVariants.{Tried, Swept, Settled, ClassIs, IsBelow, ReasonIs, Walked}
use Rattle.sheet.specs.Replies.{Replied, reply, Replies}
use Rattle.sheet.specs.Promises.{CameUnderAll}
use Rattle.sheet.specs.Law.{Asked, Law}
use Rattle.sheet.proofs.Running.{running_law}
use Rattle.host.specs.Bytes.{record_bytes, records_in, Table, fits, machine_in, Areas, page_in}
use Rattle.host.specs.Said.{verdict_bytes, number_bytes, settled_bytes, state_bytes, bool_bytes, returned, said, lacks_at_begin}
use Rattle.host.specs.Calls.{on, HostBegins}
use Rattle.host.specs.Runs.{Exchange, reply_bytes, WalksIn, Tells, Enough, HostMakes, HostRunsKeepTheLaw}
use Rattle.host.proofs.ByFour.{fit_labels}

machine_bounded : (t : Table) → Bounded (machine_in t)
machine_bounded t = cond_both (fits t) _ no_states (λ m. Bounded m) (λ fit. tabled_bounded _ _ (fit_labels t fit).0) (λ _. record { few = omega arith; inside = λ s u h. absurd h })

refused_not_zero : (e : Refusal) → 0 ≡ number_of e → ⊥
refused_not_zero NoStates n = omega arith
refused_not_zero ShortMemory n = omega arith
refused_not_zero NoSuchState n = omega arith
refused_not_zero OtherSheet n = omega arith
refused_not_zero NotSettled n = omega arith
refused_not_zero OtherPair n = omega arith
refused_not_zero NoSuchStep n = omega arith
refused_not_zero LineNotEarlier n = omega arith

good_by_number : {A : Type 0} (P : A → Type 0) (Q : Type 0) (r : Result A Refusal) → IfOk r (λ a. P a × Q) → 0 ≡ returned r → Q
good_by_number P Q (Ok a) promise n = promise.1
good_by_number P Q (Err e) promise n = absurd (refused_not_zero e n)

-- a begin that went well leaves a page that came about by strikes
begun : (t : Table) (before after : Areas) → HostBegins t before 0 after → CameUnderAll (machine_in t) (page_in after)
begun t before after begins = by_area (lacks_at_begin t before.sheet) refl
  where
    by_area : (b : Bool) → lacks_at_begin t before.sheet ≡ b → CameUnderAll (machine_in t) (page_in after)
    by_area true e = let six = (begins.refused e).0 in absurd (omega (arith, six))
    by_area false e = let c = begins.called e in good_by_number (λ sheet. page_in after ≡ page sheet after.pairs (records_in after.strikes)) (CameUnderAll (machine_in t) (page_in after)) c.0 c.1.promise c.2

-- the reply of a call, told by its number and bytes
reply_told : {A : Type 0} (name : A → Reply) (bytes : A → List ℕ) (r : Result A Refusal) (x : Exchange) → ((a : A) → reply_bytes (name a) ≡ bytes a) → ((a : A) → WalksIn (name a) x.walked) → x.number ≡ returned r → x.answer ≡ said bytes r x.area → Tells (reply name r) x
reply_told name bytes (Ok a) x same walks n is = record { number = n; answer = is ∙ ap (λ bs. over bs x.area) (sym (same a)); walk = walks a }
reply_told name bytes (Err e) x same walks n is = record { number = n; answer = is; walk = tt }

module _ (t : Table) where
  -- the call of one request
  one : (before : Areas) (q : Request) (x : Exchange) (after : Areas) → Enough t before q x → HostMakes t before q x after → (a : Replied) × Replies (on t) (page_in before) q a (page_in after) × Tells a x
  one before (Try s u) x after enough makes = let c = makes.called enough.0 in (reply Tried c.0, (c.0, refl, c.1.answer), reply_told Tried verdict_bytes c.0 x (λ _. refl) (λ _. tt) c.2 c.3)
  one before (Sweep s) x after enough makes = let c = makes.called enough.0 in (reply Swept c.0, (c.0, refl, c.1.answer), reply_told Swept number_bytes c.0 x (λ _. refl) (λ _. tt) c.2 c.3)
  one before Settle x after enough makes =
      let c = makes.called enough.0 in (reply (λ a. Settled a.0 a.1) c.0, (c.0, refl, c.1.answer), reply_told (λ a. Settled a.0 a.1) settled_bytes c.0 x (λ _. refl) (λ _. tt) c.2 c.3)
  one before (Class s) x after enough makes = let c = makes.0.called enough.0 in (reply ClassIs c.0, (c.0, refl, c.1.answer, ap page_in makes.1), reply_told ClassIs state_bytes c.0 x (λ _. refl) (λ _. tt) c.2 c.3)
  one before (Below s u) x after enough makes = let c = makes.0.called enough.0 in (reply IsBelow c.0, (c.0, refl, c.1.answer, ap page_in makes.1), reply_told IsBelow bool_bytes c.0 x (λ _. refl) (λ _. tt) c.2 c.3)
  one before (Reason s u) x after enough makes = let c = makes.0.called enough.0 in (reply ReasonIs c.0, (c.0, refl, c.1.answer, ap page_in makes.1), reply_told ReasonIs record_bytes c.0 x (λ _. refl) (λ _. tt) c.2 c.3)
  one before (Answer s u v) x after enough makes =
      let c = makes.0.called enough.0 in
      (reply (λ k. Walked k x.walked) c.0, (c.0, x.walk, x.walked, refl, enough.1, c.1.answer, ap page_in makes.1), reply_told (λ k. Walked k x.walked) state_bytes c.0 x (λ _. refl) (λ _. refl) c.2 c.3)

  -- a reply more at the front
  replied_first : (q : Request) (qs : List Request) (areas_at : ℕ → Areas) (b : Replied) (bs : List Replied) → Replies (on t) (page_in (areas_at zero)) q b (page_in (areas_at (suc zero))) →
      ((i : ℕ) (p : Request) (a : Replied) → Asked qs bs i p a → Replies (on t) (page_in (areas_at (suc i))) p a (page_in (areas_at (suc (suc i))))) →
      (i : ℕ) (p : Request) (a : Replied) → Asked (q ∷ qs) (b ∷ bs) i p a → Replies (on t) (page_in (areas_at i)) p a (page_in (areas_at (suc i)))
  replied_first q qs areas_at b bs first rest zero p a asked =
      subst (λ x. Replies (on t) (page_in (areas_at zero)) x a (page_in (areas_at (suc zero)))) (same_Some q p asked.0)
      (subst (λ y. Replies (on t) (page_in (areas_at zero)) q y (page_in (areas_at (suc zero)))) (same_Some b a asked.1) first)
  replied_first q qs areas_at b bs first rest (suc i) p a asked = rest i p a asked

  told_first : (exchange : ℕ → Exchange) (b : Replied) (bs : List Replied) → Tells b (exchange zero) → ((i : ℕ) (a : Replied) → slice_get bs i ≡ Some a → Tells a (exchange (suc i))) →
      (i : ℕ) (a : Replied) → slice_get (b ∷ bs) i ≡ Some a → Tells a (exchange i)
  told_first exchange b bs first rest zero a e = subst (λ x. Tells x (exchange zero)) (same_Some b a e) first
  told_first exchange b bs first rest (suc i) a e = rest i a e

  -- a reply to each request
  each : (requests : List Request) (areas_at : ℕ → Areas) (exchange : ℕ → Exchange) →
      ((i : ℕ) (q : Request) → slice_get requests i ≡ Some q → Enough t (areas_at i) q (exchange i) × HostMakes t (areas_at i) q (exchange i) (areas_at (suc i))) →
      (replies : List Replied) × (length replies ≡ length requests) × ((i : ℕ) (q : Request) (a : Replied) → Asked requests replies i q a → Replies (on t) (page_in (areas_at i)) q a (page_in (areas_at (suc i))))
      × ((i : ℕ) (a : Replied) → slice_get replies i ≡ Some a → Tells a (exchange i))
  each [] areas_at exchange turn = ([], refl, λ i q a asked. absurd (none-some a asked.1), λ i a e. absurd (none-some a e))
  each (q ∷ qs) areas_at exchange turn =
      let first = turn zero q refl in
      let here = one (areas_at zero) q (exchange zero) (areas_at (suc zero)) first.0 first.1 in
      let rest = each qs (λ i. areas_at (suc i)) (λ i. exchange (suc i)) (λ i. turn (suc i)) in
      (here.0 ∷ rest.0, ap suc rest.1, replied_first q qs areas_at here.0 rest.0 here.1 rest.2, told_first exchange here.0 rest.0 here.2 rest.3)

pub host_runs_keep_the_law : HostRunsKeepTheLaw
host_runs_keep_the_law t areas_at requests exchange run =
    let built = each t requests areas_at exchange run.turn in
    let came = begun t run.before (areas_at zero) run.begins flags_at_most in
    let law = running_law (on t) (machine_bounded t) flags_lawful (λ i. page_in (areas_at i)) requests built.0 came (omega (arith, built.1)) built.2 in
    record { replies = built.0; all = built.1; told = built.3; replied = built.2; law = subst (λ k. Law (on t) (page_in (areas_at k)) requests built.0) built.1 law }
