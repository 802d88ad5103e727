-- Runs of the calls of a host, and what their numbers and bytes tell. Assumes nothing.
use Rattle.std.specs.Prelude.{◌≡◌, ℕ, zero, suc, ◌≤◌, false, List, length, Some, IfOk}
use Rattle.std.specs.List.{slice_get}
use Rattle.model.specs.Machines.{states}
use Rattle.sheet.specs.declared.request.Request.{Request}
use Rattle.sheet.specs.declared.request.Request.TheVariants.{Try, Sweep, Settle, Class, Below, Reason, Answer}
use Rattle.sheet.specs.declared.request.Reply.{Reply}
use Rattle.sheet.specs.declared.request.Reply.TheVariants.{Tried, Swept, Settled, ClassIs, IsBelow, ReasonIs, Walked}
use Rattle.sheet.specs.Replies.{Replied, Replies}
use Rattle.sheet.specs.Law.{Asked, Law}
use Rattle.host.specs.Bytes.{record_bytes, Table, machine_in, Areas, page_in}
use Rattle.host.specs.Said.{verdict_bytes, number_bytes, settled_bytes, state_bytes, bool_bytes, answer_size, returned, said, lacks}
use Rattle.host.specs.Calls.{on, HostBegins, HostTries, HostSweeps, HostSettles, HostClasses, HostBelows, HostReasons, HostAnswers}

-- What a call was handed beside its table and the sheet's areas, and what it told: the number that it returned, and two areas.
pub record Exchange : Type 0 where
  pub number : ℕ
  -- The area of the answer, before and after.
  pub area : List ℕ
  pub answer : List ℕ
  -- The area of walks, before and after.
  pub walk : List ℕ
  pub walked : List ℕ

-- The bytes of a good reply.
abbrev pub reply_bytes : Reply → List ℕ
reply_bytes (Tried v) = verdict_bytes v
reply_bytes (Swept k) = number_bytes k
reply_bytes (Settled k l) = settled_bytes (k, l)
reply_bytes (ClassIs c) = state_bytes c
reply_bytes (IsBelow b) = bool_bytes b
reply_bytes (ReasonIs k) = record_bytes k
reply_bytes (Walked k memory) = state_bytes k

-- The walk of a reply stands in the area of walks.
abbrev pub WalksIn : Reply → List ℕ → Type 0
WalksIn (Walked k memory) walked = memory ≡ walked
WalksIn a walked = Unit {0}

-- The number and the bytes tell the reply.
pub record Tells (a : Replied) (x : Exchange) : Type 0 where
  pub number : x.number ≡ returned a
  pub answer : x.answer ≡ said reply_bytes a x.area
  pub walk : IfOk a (λ b. WalksIn b x.walked)

-- There is a place for each state in the area of walks, where the request writes one.
abbrev pub WalkFits : Table → Request → List ℕ → Type 0
WalkFits table (Answer s t u) walk = states (machine_in table) ≤ length walk
WalkFits table q walk = Unit {0}

-- The areas are long enough for the request.
abbrev pub Enough : Table → Areas → Request → Exchange → Type 0
Enough table before q x = (lacks table before.sheet x.area (answer_size q) ≡ false) × WalkFits table q x.walk

-- The call of a request was made as its contract says, on areas that are then as they are after it.
abbrev pub HostMakes : Table → Areas → Request → Exchange → Areas → Type 0
HostMakes table before (Try s t) x after = HostTries table before s t x.area x.number after x.answer
HostMakes table before (Sweep s) x after = HostSweeps table before s x.area x.number after x.answer
HostMakes table before Settle x after = HostSettles table before x.area x.number after x.answer
HostMakes table before (Class s) x after = HostClasses table before.sheet before.pairs s x.area x.number x.answer × (after ≡ before)
HostMakes table before (Below s t) x after = HostBelows table before.sheet before.pairs s t x.area x.number x.answer × (after ≡ before)
HostMakes table before (Reason s t) x after = HostReasons table before s t x.area x.number x.answer × (after ≡ before)
HostMakes table before (Answer s t u) x after =
    HostAnswers table before.sheet before.pairs s t u x.walk x.area x.number x.walked x.answer × (after ≡ before)

-- A run: a begin that went well, and then the calls of the requests in turn, each on the areas that the one before it left.
pub record HostRun (table : Table) (areas_at : ℕ → Areas) (requests : List Request) (exchange : ℕ → Exchange) : Type 0 where
  pub before : Areas
  pub begins : HostBegins table before 0 (areas_at zero)
  pub turn : (i : ℕ) (q : Request) → slice_get requests i ≡ Some q →
      Enough table (areas_at i) q (exchange i) × HostMakes table (areas_at i) q (exchange i) (areas_at (suc i))

-- There is one reply to each request: the sheet's, on the page that the areas hold then, told by the number and the bytes. The
-- replies keep the law of runs.
pub record HostLaw (table : Table) (areas_at : ℕ → Areas) (requests : List Request) (exchange : ℕ → Exchange) : Type 0 where
  pub replies : List Replied
  pub all : length replies ≡ length requests
  pub told : (i : ℕ) (a : Replied) → slice_get replies i ≡ Some a → Tells a (exchange i)
  pub replied : (i : ℕ) (q : Request) (a : Replied) → Asked requests replies i q a →
      Replies (on table) (page_in (areas_at i)) q a (page_in (areas_at (suc i)))
  pub law : Law (on table) (page_in (areas_at (length requests))) requests replies

abbrev pub HostRunsKeepTheLaw : Type 0
HostRunsKeepTheLaw = (table : Table) (areas_at : ℕ → Areas) (requests : List Request) (exchange : ℕ → Exchange) →
    HostRun table areas_at requests exchange → HostLaw table areas_at requests exchange
