-- The law over runs: what the replies to any list of requests promise. Assumes nothing.
use Rattle.std.specs.Prelude.{◌≡◌, ℕ, suc, ◌+◌, ◌*◌, ◌<◌, ◌≤◌, Bool, true, false, T, ◌↔◌, List, length, Some, Ok}
use Rattle.std.specs.List.{slice_get}
use Rattle.model.specs.Machines.{Step}
use Rattle.strikes.specs.declared.strike.Strike.{Strike}
use Rattle.strikes.specs.Statements.{Entails, Same}
use Rattle.sheet.specs.declared.verdict.Verdict.{Verdict}
use Rattle.sheet.specs.declared.verdict.Verdict.TheVariants.{StaysStruck, Struck}
use Rattle.sheet.specs.declared.request.Request.{Request}
use Rattle.sheet.specs.declared.request.Request.TheVariants.{Try, Sweep, Settle, Class, Below, Reason, Answer}
use Rattle.sheet.specs.declared.request.Reply.TheVariants.{Tried, Swept, Settled, ClassIs, IsBelow, ReasonIs, Walked}
use Rattle.sheet.specs.Memory.{stands, standing}
use Rattle.sheet.specs.Verdicts.{Setting, size}
use Rattle.sheet.specs.Pages.{Page, held, Came}
use Rattle.sheet.specs.Replies.{Replied}
use Rattle.sheet.specs.Tells.{IsStruck, SaysStruck, Shown, Answering, Largest}

-- The request at place i got this reply.
abbrev pub Asked : List Request → List Replied → ℕ → Request → Replied → Type 0
Asked requests replies i q a = (slice_get requests i ≡ Some q) × (slice_get replies i ≡ Some a)

module _ {L : Type 0} (on : Setting L) where
  -- The law that the replies keep among themselves; p is the page after the last of them.
  pub record Law (p : Page) (requests : List Request) (replies : List Replied) : Type 0 where
    -- class numbers agree exactly when the same until formulas hold
    pub classes : (i j s t c d : ℕ) → Asked requests replies i (Class s) (Ok (ClassIs c)) →
        Asked requests replies j (Class t) (Ok (ClassIs d)) → (c ≡ d) ↔ Same on.at_most on.machine s t
    -- below says yes exactly when every until formula of the first state holds at the second
    pub below : (i s t : ℕ) (b : Bool) → Asked requests replies i (Below s t) (Ok (IsBelow b)) → T b ↔ Entails on.at_most on.machine s t
    -- a strike that is shown tells its pair apart
    pub shown : (i s t : ℕ) (k : Strike) → Asked requests replies i (Reason s t) (Ok (ReasonIs k)) → Shown on (held p) s t k
    -- a walk that is written answers, and none is shorter
    pub walked : (i s t u k : ℕ) (memory : List ℕ) → Asked requests replies i (Answer s t u) (Ok (Walked k memory)) →
        Answering on s t u k memory
    -- what is not refused: tries and sweeps in range, and settling
    pub tries : (i s t : ℕ) (a : Replied) → Asked requests replies i (Try s t) a → s < size on → t < size on →
        (v : Verdict) × (a ≡ Ok (Tried v))
    pub sweeps : (i s : ℕ) (a : Replied) → Asked requests replies i (Sweep s) a → s < size on → (k : ℕ) × (a ≡ Ok (Swept k))
    pub settles : (i : ℕ) (a : Replied) → Asked requests replies i Settle a → (k : ℕ) × (l : ℕ) × (a ≡ Ok (Settled k l))
    -- after settling: classes, below, and the answer to each step of a standing pair
    pub classes_given : (i j s : ℕ) (a b : Replied) → i < j → Asked requests replies i Settle b →
        Asked requests replies j (Class s) a → s < size on → (c : ℕ) × (a ≡ Ok (ClassIs c))
    pub below_given : (i j s t : ℕ) (a b : Replied) → i < j → Asked requests replies i Settle b →
        Asked requests replies j (Below s t) a → s < size on → t < size on → (c : Bool) × (a ≡ Ok (IsBelow c))
    pub walks_given : (i j s t u : ℕ) (a b : Replied) → i < j → Asked requests replies i Settle b →
        Asked requests replies j (Answer s t u) a →
        Step on.machine s u → t < size on → Entails on.at_most on.machine s t → (k : ℕ) × (memory : List ℕ) × (a ≡ Ok (Walked k memory))
    -- the reason of a pair that was said to be struck
    pub no_has_reason : (i j s t : ℕ) (a : Replied) → i < j → Asked requests replies i (Below s t) (Ok (IsBelow false)) →
        Asked requests replies j (Reason s t) a → (k : Strike) × (a ≡ Ok (ReasonIs k))
    pub strike_has_reason : (i j s t : ℕ) (v : Verdict) (a : Replied) → i < j →
        Asked requests replies i (Try s t) (Ok (Tried v)) → SaysStruck v → Asked requests replies j (Reason s t) a →
        (k : Strike) × (a ≡ Ok (ReasonIs k))
    -- struck pairs stay struck, and after settling nothing is struck
    pub stays_struck : (i j s t : ℕ) (v w : Verdict) → i < j → Asked requests replies i (Try s t) (Ok (Tried v)) →
        SaysStruck v → Asked requests replies j (Try s t) (Ok (Tried w)) → w ≡ StaysStruck
    pub no_more_tries : (i j s t : ℕ) (b : Replied) (k : Strike) → i < j → Asked requests replies i Settle b →
        Asked requests replies j (Try s t) (Ok (Tried (Struck k))) → ⊥
    pub no_more_sweeps : (i j s k : ℕ) (b : Replied) → i < j → Asked requests replies i Settle b →
        Asked requests replies j (Sweep s) (Ok (Swept k)) → k ≡ 0
    pub settles_once : (i j k l : ℕ) (b : Replied) → i < j → Asked requests replies i Settle b →
        Asked requests replies j Settle (Ok (Settled k l)) → (k ≡ 0) × (l ≡ 1)

-- The law of the pages of a run in which the request at place i was made on page i.
pub record PageLaw {L : Type 0} (on : Setting L) (pages : ℕ → Page) (requests : List Request) (replies : List Replied) : Type 0 where
  -- a strike that is shown tells its pair apart by the strikes of its own page
  pub shown_there : (i s t : ℕ) (k : Strike) → Asked requests replies i (Reason s t) (Ok (ReasonIs k)) → Shown on (held (pages i)) s t k
  -- after settling: the answer to each step of a pair that stands
  pub standing_walks_given : (i j s t u : ℕ) (a b : Replied) → i < j → Asked requests replies i Settle b →
      Asked requests replies j (Answer s t u) a →
      Step on.machine s u → t < size on → T (stands (size on) (pages j).pairs s t) →
      (k : ℕ) × (memory : List ℕ) × (a ≡ Ok (Walked k memory))
  -- the reason of every struck pair, and so of each that was said to be struck or not below
  pub reasons_given : (i s t : ℕ) (a : Replied) → Asked requests replies i (Reason s t) a → IsStruck (held (pages i)) s t →
      (k : Strike) × (a ≡ Ok (ReasonIs k))
  -- every page came about by strikes with a ground since it was begun, its zero bytes are the pairs struck, and standing
  -- pairs and strikes add up
  pub came : (i : ℕ) → i ≤ length requests → Came on (pages i)
  pub struck_is_zero : (i s t : ℕ) → i ≤ length requests → s < size on → t < size on →
      IsStruck (held (pages i)) s t ↔ (stands (size on) (pages i).pairs s t ≡ false)
  pub adds_up : (i : ℕ) → i ≤ length requests →
      standing (size on * size on) (pages i).pairs + (pages i).sheet.strikes ≡ size on * size on
  pub pairs_stay_struck : (i j s t : ℕ) → i ≤ j → j ≤ length requests → IsStruck (held (pages i)) s t → IsStruck (held (pages j)) s t
  -- settling settles, a settled page holds the largest simulation, and it stays as it is
  pub settled : (i : ℕ) (b : Replied) → Asked requests replies i Settle b → (pages (suc i)).sheet.settled ≡ true
  pub largest : (i : ℕ) → i ≤ length requests → (pages i).sheet.settled ≡ true → Largest on (pages i).pairs
  pub stays_settled : (i j : ℕ) → i ≤ j → j ≤ length requests → (pages i).sheet.settled ≡ true → pages j ≡ pages i
