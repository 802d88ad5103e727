-- What a whole run answers. Assumes nothing.
use Rattle.std.specs.Prelude.{◌≡◌, ℕ, zero, suc, Bool, List, [], ◌∷◌, ◌++◌, length, take, drop, replicate, Ok, Err, Result, nat_lt}
use Rattle.model.specs.declared.refusal.Refusal.{Refusal}
use Rattle.model.specs.Machines.{state_bound}
use Rattle.model.specs.Refusals.{Checked, cause}
use Rattle.strikes.specs.declared.strike.Strike.{Strike}
use Rattle.sheet.specs.declared.sheet.Sheet.{Sheet}
use Rattle.sheet.specs.declared.request.Request.{Request}
use Rattle.sheet.specs.Verdicts.{Setting, size}
use Rattle.sheet.specs.Pages.{Page, page, begun_page}
use Rattle.sheet.specs.Causes.{begin_tests}
use Rattle.sheet.specs.Replies.{Replied, RepliesInto}
use Rattle.sheet.specs.Law.{Asked, PageLaw}

-- Why a run is refused, if it is: as begin, or there are more requests than places for replies.
abbrev pub run_tests : ℕ → List ℕ → List Strike → List Request → List Replied → List (Bool × ℕ)
run_tests n pairs records requests replies = begin_tests n pairs records ++ (nat_lt (length replies) (length requests), 6) ∷ []

-- The memory into which a run's walks are written.
abbrev pub blank_walk : List ℕ
blank_walk = replicate state_bound 0

-- Each request was made in turn, on the page that the one before it left.
pub record InTurn {L : Type 0} (on : Setting L) (pages : ℕ → Page) (requests : List Request) (replies : List Replied) (begun last : Page) : Type 0 where
  pub begins : pages zero ≡ begun
  pub turn : (i : ℕ) (q : Request) (a : Replied) → Asked requests replies i q a →
      RepliesInto on blank_walk (pages i) q a (pages (suc i))
  pub ends : pages (length replies) ≡ last

-- There is a reply to each request, made in turn, the law of the pages holds, and the places past the replies are untouched.
pub record Ran {L : Type 0} (on : Setting L) (requests : List Request) (before after : List Replied) (begun last : Page) : Type 0 where
  pub kept : length after ≡ length before
  pub rest : drop (length requests) after ≡ drop (length requests) before
  pub pages : ℕ → Page
  pub in_turn : InTurn on pages requests (take (length requests) after) begun last
  pub law : PageLaw on pages requests (take (length requests) after)

-- A refusal changes nothing; else the requests ran, from a page that was just begun to the sheet and memory at the end.
abbrev pub Runs : {L : Type 0} → Setting L → List ℕ → List Strike → List Request → List Replied → Result Sheet Refusal →
    List ℕ → List Strike → List Replied → Type 0
Runs on pairs records requests replies r pairs_after records_after replies_after =
    Checked (cause (run_tests (size on) pairs records requests replies)) ((pairs_after ≡ pairs) × (records_after ≡ records) × (replies_after ≡ replies))
    (λ sheet. Ran on requests replies replies_after (begun_page (size on) pairs records) (page sheet pairs_after records_after)) r

-- How many strikes there are after a run: none where it is refused.
abbrev pub strikes_after : Result Sheet Refusal → ℕ
strikes_after (Ok sheet) = sheet.strikes
strikes_after (Err e) = 0
