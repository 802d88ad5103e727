-- Sheets that are settled, from memory where nothing is struck. Assumes nothing.
use Rattle.std.specs.Prelude.{◌≡◌, ℕ, ◌*◌, Bool, true, List, take, replicate}
use Rattle.strikes.specs.declared.strike.Ground.TheVariants.{ByLabel}
use Rattle.strikes.specs.declared.strike.Strike.{Strike}
use Rattle.sheet.specs.Memory.{Memory, memory, stands}
use Rattle.sheet.specs.Verdicts.{Setting, size, strike, settled}
use Rattle.sheet.specs.Pages.{Page, page, sheet_of, Came}
use Rattle.sheet.specs.Calls.{class_of}
use Rattle.report.specs.declared.settled.Settled.{Settled}

-- What a place for a strike holds before any is made.
abbrev pub blank : Strike
blank = strike 0 0 ByLabel

-- Memory for n states where every pair stands.
abbrev pub begun : ℕ → Memory
begun n = memory (replicate (n * n) 1) (replicate (n * n) blank) 0

module _ {L : Type 0} (on : Setting L) where
  -- The same once every pair that has a ground is struck.
  abbrev pub settled_memory : Memory
  settled_memory = (settled on (begun (size on))).0

  abbrev pub settled_page : Page
  settled_page = page (sheet_of (size on) settled_memory.made true) settled_memory.pairs settled_memory.records

  -- The class of a state, whether one is below another, and the strikes in the order made.
  abbrev pub class_on : ℕ → ℕ
  class_on s = class_of (size on) settled_memory.pairs s

  abbrev pub is_below : ℕ → ℕ → Bool
  is_below s t = stands (size on) settled_memory.pairs s t

  abbrev pub strikes_on : List Strike
  strikes_on = take settled_memory.made settled_memory.records

-- A sheet with its memory, as a page.
abbrev pub page_of : Settled → Page
page_of s = page s.sheet s.pairs.items s.strikes.items

-- The page is settled, and came about by strikes with a ground.
pub record IsSettled {L : Type 0} (on : Setting L) (p : Page) : Type 0 where
  pub came : Came on p
  pub is : p ≡ settled_page on
