-- What is wrong with a text, and where. Assumes nothing.
use Rattle.std.specs.Prelude.{ℕ, List, Option, Some, option_map, codes}
use Rattle.text.specs.declared.fault.Fault.{Fault}
use Rattle.text.specs.declared.fault.Fault.TheVariants.{NoForm, UnknownWord, WrongItems, OutOfOrder, WrongCount, ShortMemory, TooDeep, TooLong}
use Rattle.text.specs.declared.fault.Side.{Side}
use Rattle.text.specs.declared.fault.Place.{Place}
use Rattle.text.specs.declared.fault.Refused.{Refused}

abbrev pub number_of : Fault → ℕ
number_of NoForm = 1
number_of UnknownWord = 2
number_of WrongItems = 3
number_of OutOfOrder = 4
number_of WrongCount = 5
number_of ShortMemory = 6
number_of TooDeep = 12
number_of TooLong = 13

-- What a fault is printed as.
abbrev pub words_of : Fault → List ℕ
words_of NoForm = codes "not a line"
words_of UnknownWord = codes "unknown word"
words_of WrongItems = codes "wrong items"
words_of OutOfOrder = codes "out of order"
words_of WrongCount = codes "no states or too many"
words_of ShortMemory = codes "memory too short"
words_of TooDeep = codes "nested too deep"
words_of TooLong = codes "text too long"

abbrev pub refused : {P : Type 0} → Fault → Option P → Refused P
refused fault place = record { fault = fault; place = place }

abbrev pub place : Side → ℕ → Place
place side line = record { side = side; line = line }

-- Refused at a line.
abbrev pub refused_at : Fault → ℕ → Refused ℕ
refused_at fault line = refused fault (Some line)

-- The line alone.
abbrev pub line_alone : Refused Place → Refused ℕ
line_alone r = refused r.fault (option_map (λ p. p.line) r.place)
