-- The line that says why a text is refused, and where. Assumes nothing.
use Rattle.std.specs.Prelude.{ℕ, List, [], ◌++◌, Option, Some, None, option_map, codes, decimal}
use Rattle.text.specs.declared.fault.Side.{Side}
use Rattle.text.specs.declared.fault.Side.TheVariants.{Order as OrderSide, Left as LeftSide, Right as RightSide}
use Rattle.text.specs.declared.fault.Place.{Place}
use Rattle.text.specs.declared.fault.Refused.{Refused}
use Rattle.text.specs.Faults.{number_of, refused}
use Rattle.report.specs.declared.refused.Section.{Section}
use Rattle.report.specs.declared.refused.Section.TheVariants.{Order, Left, Right, Machine, Formula}
use Rattle.report.specs.declared.refused.Spot.{Spot}

abbrev pub spot : Section → ℕ → Spot
spot section line = record { section = section; line = line }

-- A side of two machines, and a line there.
abbrev pub section_of : Side → Section
section_of OrderSide = Order
section_of LeftSide = Left
section_of RightSide = Right

abbrev pub spot_of : Place → Spot
spot_of p = spot (section_of p.side) p.line

abbrev pub refused_there : Refused Place → Refused Spot
refused_there r = refused r.fault (option_map spot_of r.place)

abbrev pub section_word : Section → List ℕ
section_word Order = codes "order"
section_word Left = codes "left"
section_word Right = codes "right"
section_word Machine = codes "machine"
section_word Formula = codes "formula"

-- A part of a text and a line, each after a space, or nothing
abbrev pub spot_words : Option Spot → List ℕ
spot_words None = []
spot_words (Some p) = codes " " ++ (section_word p.section ++ (codes " " ++ decimal p.line))

-- (refused 4 left 3), or (refused 6), and its newline
abbrev pub refused_line : Refused Spot → List ℕ
refused_line r = codes "(refused " ++ (decimal (number_of r.fault) ++ (spot_words r.place ++ codes ")\n"))
