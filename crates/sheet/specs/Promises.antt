-- What each call promises on a page that came about by strikes. Assumes nothing.
use Rattle.std.specs.Prelude.{◌≡◌, ℕ, ◌<◌, Bool, true, false, T, ◌↔◌, List, ◌≢◌, Ok}
use Rattle.model.specs.Orders.{Preorder}
use Rattle.model.specs.Machines.{Meaning, Step}
use Rattle.strikes.specs.declared.strike.Strike.{Strike}
use Rattle.strikes.specs.Statements.{Entails}
use Rattle.sheet.specs.declared.verdict.Verdict.{Verdict}
use Rattle.sheet.specs.declared.verdict.Verdict.TheVariants.{StaysStruck, Struck}
use Rattle.sheet.specs.declared.request.Request.{Request}
use Rattle.sheet.specs.declared.request.Request.TheVariants.{Try, Sweep, Settle, Class, Below, Reason, Answer}
use Rattle.sheet.specs.declared.request.Reply.TheVariants.{Tried, Swept, Settled, ClassIs, IsBelow, ReasonIs, Walked}
use Rattle.sheet.specs.Memory.{stands}
use Rattle.sheet.specs.Verdicts.{Setting, setting, size}
use Rattle.sheet.specs.Genuine.{Grown}
use Rattle.sheet.specs.Pages.{Page, held, Came}
use Rattle.sheet.specs.Replies.{Replied}
use Rattle.sheet.specs.Tells.{IsStruck, SaysStruck, Represents, Shown, Answering, Largest}

module _ {L : Type 0} (on : Setting L) where
  -- From a page to a later one: it came about by strikes, with those from before, and a settled page is as it was.
  pub record Onward (p after : Page) : Type 0 where
    pub came : Came on after
    pub grown : Grown (held p) (held after)
    pub rests : p.sheet.settled ≡ true → after ≡ p

  -- What the reply to a request says of the page that it leaves.
  abbrev pub Says : Page → Request → Replied → Type 0
  Says p (Try s t) a = (v : Verdict) → a ≡ Ok (Tried v) → SaysStruck v → IsStruck (held p) s t
  Says p (Sweep s) a = Unit {0}
  Says p Settle a = (k l : ℕ) → a ≡ Ok (Settled k l) → (p.sheet.settled ≡ true) × Largest on p.pairs
  Says p (Class s) a = (c : ℕ) → a ≡ Ok (ClassIs c) → Represents on s c
  Says p (Below s t) a = (b : Bool) → a ≡ Ok (IsBelow b) →
      (T b ↔ Entails on.at_most on.machine s t) × (b ≡ false → IsStruck (held p) s t)
  Says p (Reason s t) a = (k : Strike) → a ≡ Ok (ReasonIs k) → Shown on (held p) s t k
  Says p (Answer s t u) a = (k : ℕ) (memory : List ℕ) → a ≡ Ok (Walked k memory) → Answering on s t u k memory

  -- When the request is answered on this page, and not refused.
  abbrev pub Given : Page → Request → Replied → Type 0
  Given p (Try s t) a = s < size on → t < size on → (v : Verdict) × (a ≡ Ok (Tried v))
  Given p (Sweep s) a = s < size on → (k : ℕ) × (a ≡ Ok (Swept k))
  Given p Settle a = (k : ℕ) × (l : ℕ) × (a ≡ Ok (Settled k l))
  Given p (Class s) a = p.sheet.settled ≡ true → s < size on → (c : ℕ) × (a ≡ Ok (ClassIs c))
  Given p (Below s t) a = p.sheet.settled ≡ true → s < size on → t < size on → (b : Bool) × (a ≡ Ok (IsBelow b))
  Given p (Reason s t) a = IsStruck (held p) s t → (k : Strike) × (a ≡ Ok (ReasonIs k))
  Given p (Answer s t u) a =
      p.sheet.settled ≡ true → Step on.machine s u → t < size on → T (stands (size on) p.pairs s t) →
      (k : ℕ) × (memory : List ℕ) × (a ≡ Ok (Walked k memory))

  -- A struck pair stays struck, and on a settled page nothing is struck.
  abbrev pub Rests : Page → Request → Replied → Type 0
  Rests p (Try s t) a =
      (v : Verdict) → a ≡ Ok (Tried v) → (IsStruck (held p) s t → v ≡ StaysStruck)
      × (p.sheet.settled ≡ true → (k : Strike) → v ≢ Struck k)
  Rests p (Sweep s) a = (k : ℕ) → a ≡ Ok (Swept k) → p.sheet.settled ≡ true → k ≡ 0
  Rests p Settle a = (k l : ℕ) → a ≡ Ok (Settled k l) → p.sheet.settled ≡ true → (k ≡ 0) × (l ≡ 1)
  Rests p (Class s) a = Unit {0}
  Rests p (Below s t) a = Unit {0}
  Rests p (Reason s t) a = Unit {0}
  Rests p (Answer s t u) a = Unit {0}

  -- All that is so after a call on a page that came about by strikes.
  pub record Kept (p : Page) (q : Request) (a : Replied) (after : Page) : Type 0 where
    pub onward : Onward p after
    pub says : Says after q a
    pub given : Given p q a
    pub rests : Rests p q a

  -- The promise of a call on the page p, where p came about by strikes.
  abbrev pub Promise : Page → Request → Replied → Page → Type 0
  Promise p q a after = Came on p → Kept p q a after

-- The same of a call that takes no order and leaves the page as it is: under every order by which the page came about.
abbrev pub PromiseUnderAll : {L : Type 0} → Meaning L → Page → Request → Replied → Type 0
PromiseUnderAll {L} m p q a = (at_most : L → L → Bool) → Preorder at_most → Promise (setting at_most m) p q a p

-- A page that was just begun came about by strikes under every order.
abbrev pub CameUnderAll : {L : Type 0} → Meaning L → Page → Type 0
CameUnderAll {L} m p = (at_most : L → L → Bool) → Came (setting at_most m) p
