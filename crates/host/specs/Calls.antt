-- What each call of a host answers, and what its areas then hold. Assumes nothing.
use Rattle.std.specs.Prelude.{◌≡◌, ℕ, ◌≤◌, List, length, drop, take, Ok, Err, Result, IfOk, slice_set}
use Rattle.model.specs.declared.refusal.Refusal.{Refusal}
use Rattle.model.specs.declared.flags.FlagSet.{FlagSet}
use Rattle.model.specs.Orders.{flags_at_most}
use Rattle.model.specs.Machines.{states}
use Rattle.strikes.specs.declared.strike.Strike.{Strike}
use Rattle.sheet.specs.declared.request.Request.{Request}
use Rattle.sheet.specs.declared.request.Request.TheVariants.{Try, Sweep, Settle, Class, Below, Reason, Answer}
use Rattle.sheet.specs.declared.request.Reply.TheVariants.{Tried, Swept, Settled, ClassIs, IsBelow, ReasonIs, Walked}
use Rattle.sheet.specs.Verdicts.{Setting, setting}
use Rattle.sheet.specs.Pages.{Page, page}
use Rattle.sheet.specs.Calls.{Begins, Tries, Sweeps, Settles, Classes, Belows, Reasons, Answers}
use Rattle.sheet.specs.Replies.{Replied, reply}
use Rattle.sheet.specs.Promises.{Promise, CameUnderAll, PromiseUnderAll}
use Rattle.host.specs.Bytes.{record_bytes, records_in, with_records, sheet_in, with_made, Table, machine_in, Areas, areas, page_in}
use Rattle.host.specs.Said.{verdict_bytes, number_bytes, settled_bytes, state_bytes, bool_bytes, sheet_bytes, answer_size, lacks, lacks_at_begin, Hosted}

-- The table under the order by flags.
abbrev pub on : Table → Setting FlagSet
on table = setting flags_at_most (machine_in table)

-- The areas with a later page: the number of strikes in that of the sheet, and each strike made since after those before.
abbrev pub with_page : Areas → Page → Areas
with_page a p =
    let made = (sheet_in a.sheet).strikes in
    areas (with_made p.sheet.strikes a.sheet) p.pairs (with_records a.strikes made (drop made (take p.sheet.strikes p.records)))

-- The same, and the sheet marked as settled.
abbrev pub with_settled : Areas → Page → Areas
with_settled a p = let b = with_page a p in areas (slice_set b.sheet 1 1) b.pairs b.strikes

-- What an answer leaves in the areas: `after` where it is good, and `before` where it is a refusal.
abbrev pub left_by : {A : Type 0} → Result A Refusal → Areas → Areas → Areas
left_by (Ok a) before after = after
left_by (Err e) before after = before

-- A call of the sheet as its own contract says, with its promise, and what it leaves in the areas, where it takes some that may
-- be written.
pub record Makes (Answered Promised Leaves : Type 0) : Type 0 where
  pub answer : Answered
  pub promise : Promised
  pub leaves : Leaves

-- Each call: what it is handed, and then the number that it returns and what it leaves.
abbrev pub HostBegins : Table → Areas → ℕ → Areas → Type 0
HostBegins table before number after =
    Hosted (lacks_at_begin table before.sheet) (after ≡ before)
    (λ r. Makes (Begins (states (machine_in table)) before.pairs (records_in before.strikes) r after.pairs)
    (IfOk r (λ sheet.
    (page_in after ≡ page sheet after.pairs (records_in after.strikes)) × CameUnderAll (machine_in table) (page_in after)))
    (after.strikes ≡ before.strikes))
    sheet_bytes before.sheet number after.sheet

module _ (table : Table) (before : Areas) where
  abbrev pub HostTries : ℕ → ℕ → List ℕ → ℕ → Areas → List ℕ → Type 0
  HostTries s t area number after answer =
      Hosted (lacks table before.sheet area (answer_size (Try s t))) (after ≡ before)
      (λ r. Makes (Tries (on table) (page_in before) s t r (page_in after))
      (Promise (on table) (page_in before) (Try s t) (reply Tried r) (page_in after))
      (after ≡ left_by r before (with_page before (page_in after))))
      verdict_bytes area number answer

  abbrev pub HostSweeps : ℕ → List ℕ → ℕ → Areas → List ℕ → Type 0
  HostSweeps s area number after answer =
      Hosted (lacks table before.sheet area (answer_size (Sweep s))) (after ≡ before)
      (λ r. Makes (Sweeps (on table) (page_in before) s r (page_in after))
      (Promise (on table) (page_in before) (Sweep s) (reply Swept r) (page_in after))
      (after ≡ left_by r before (with_page before (page_in after))))
      number_bytes area number answer

  abbrev pub HostSettles : List ℕ → ℕ → Areas → List ℕ → Type 0
  HostSettles area number after answer =
      Hosted (lacks table before.sheet area (answer_size Settle)) (after ≡ before)
      (λ r. Makes (Settles (on table) (page_in before) r (page_in after))
      (Promise (on table) (page_in before) Settle (reply (λ a. Settled a.0 a.1) r) (page_in after))
      (after ≡ left_by r before (with_settled before (page_in after))))
      settled_bytes area number answer

  abbrev pub HostReasons : ℕ → ℕ → List ℕ → ℕ → List ℕ → Type 0
  HostReasons s t area number answer =
      Hosted (lacks table before.sheet area (answer_size (Reason s t))) (Unit {0})
      (λ r. Makes (Reasons (states (machine_in table)) (page_in before) s t r)
      (PromiseUnderAll (machine_in table) (page_in before) (Reason s t) (reply ReasonIs r))
      (Unit {0}))
      record_bytes area number answer

module _ (table : Table) (sheet pairs : List ℕ) where
  -- The promise of a call that takes no strikes, whatever they are.
  abbrev pub Promises : Request → Replied → Type 0
  Promises q a = (records : List Strike) → PromiseUnderAll (machine_in table) (page (sheet_in sheet) pairs records) q a

  abbrev pub HostClasses : ℕ → List ℕ → ℕ → List ℕ → Type 0
  HostClasses s area number answer =
      Hosted (lacks table sheet area (answer_size (Class s))) (Unit {0})
      (λ r. Makes (Classes (states (machine_in table)) (sheet_in sheet) pairs s r)
      (Promises (Class s) (reply ClassIs r))
      (Unit {0}))
      state_bytes area number answer

  abbrev pub HostBelows : ℕ → ℕ → List ℕ → ℕ → List ℕ → Type 0
  HostBelows s t area number answer =
      Hosted (lacks table sheet area (answer_size (Below s t))) (Unit {0})
      (λ r. Makes (Belows (states (machine_in table)) (sheet_in sheet) pairs s t r)
      (Promises (Below s t) (reply IsBelow r))
      (Unit {0}))
      bool_bytes area number answer

  abbrev pub HostAnswers : ℕ → ℕ → ℕ → List ℕ → List ℕ → ℕ → List ℕ → List ℕ → Type 0
  HostAnswers s t u walk area number walk_after answer =
      Hosted (lacks table sheet area (answer_size (Answer s t u))) (walk_after ≡ walk)
      (λ r. Makes (Answers (machine_in table) (sheet_in sheet) pairs s t u walk r walk_after)
      (states (machine_in table) ≤ length walk → Promises (Answer s t u) (reply (λ k. Walked k walk_after) r))
      (Unit {0}))
      state_bytes area number answer
