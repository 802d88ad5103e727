-- What the bytes of answers say, and how a call of a host answers. Assumes nothing.
use Rattle.std.specs.Prelude.{◌≡◌, ℕ, Bool, true, false, cond, ◌&&◌, ◌||◌, List, [], ◌∷◌, ◌++◌, length, Ok, Err, Result, nat_lt}
use Rattle.std.specs.Int.{w16, to_le_bytes}
use Rattle.model.specs.declared.refusal.Refusal.{Refusal}
use Rattle.model.specs.Refusals.{number_of}
use Rattle.model.specs.Memory.{over}
use Rattle.model.specs.Machines.{is_sized}
use Rattle.sheet.specs.declared.sheet.Sheet.{Sheet}
use Rattle.sheet.specs.declared.request.Request.{Request}
use Rattle.sheet.specs.declared.request.Request.TheVariants.{Try, Sweep, Settle, Class, Below, Reason, Answer}
use Rattle.sheet.specs.declared.verdict.Verdict.{Verdict}
use Rattle.sheet.specs.declared.verdict.Verdict.TheVariants.{StaysStruck, Stays, Struck}
use Rattle.host.specs.Bytes.{record_bytes, Table, short_table}

-- A verdict: 0 where the pair stays struck, 1 where it stays, 2 where it is struck now; then the strike, or zeros.
abbrev pub verdict_bytes : Verdict → List ℕ
verdict_bytes StaysStruck = 0 ∷ 0 ∷ 0 ∷ 0 ∷ 0 ∷ []
verdict_bytes Stays = 1 ∷ 0 ∷ 0 ∷ 0 ∷ 0 ∷ []
verdict_bytes (Struck k) = 2 ∷ record_bytes k

-- A number of strikes or passes, low byte first.
abbrev pub number_bytes : ℕ → List ℕ
number_bytes k = to_le_bytes w16 k

-- How many strikes a settle made, and the passes that it took.
abbrev pub settled_bytes : ℕ × ℕ → List ℕ
settled_bytes a = number_bytes a.0 ++ number_bytes a.1

-- A state, or how many states a walk has.
abbrev pub state_bytes : ℕ → List ℕ
state_bytes s = s ∷ []

abbrev pub bool_byte : Bool → ℕ
bool_byte b = cond b 1 0

-- Yes is 1, and no is 0.
abbrev pub bool_bytes : Bool → List ℕ
bool_bytes b = bool_byte b ∷ []

-- A whole sheet.
abbrev pub sheet_bytes : Sheet → List ℕ
sheet_bytes sheet = sheet.count ∷ bool_byte sheet.settled ∷ number_bytes sheet.strikes

-- How many bytes the answer to a request has.
abbrev pub answer_size : Request → ℕ
answer_size (Try s t) = 5
answer_size (Sweep s) = 2
answer_size Settle = 4
answer_size (Class s) = 1
answer_size (Below s t) = 1
answer_size (Reason s t) = 4
answer_size (Answer s t u) = 1

-- The number that a call returns: 0, or that of the refusal.
abbrev pub returned : {A : Type 0} → Result A Refusal → ℕ
returned (Ok a) = 0
returned (Err e) = number_of e

-- The answer's area: its bytes at the front, or as it was.
abbrev pub said : {A : Type 0} → (A → List ℕ) → Result A Refusal → List ℕ → List ℕ
said bytes (Ok a) area = over (bytes a) area
said bytes (Err e) area = area

-- The table, the area of the sheet or the answer's is too short.
abbrev pub lacks : Table → List ℕ → List ℕ → ℕ → Bool
lacks t sheet area size = short_table t || (nat_lt (length sheet) 4 || nat_lt (length area) size)

-- The same for a begin, which answers into the area of the sheet. Where the count is that of no machine, it is refused by 5.
abbrev pub lacks_at_begin : Table → List ℕ → Bool
lacks_at_begin t sheet = is_sized t.count && lacks t sheet [] 0

-- A call of a host is refused by 6 where one of these is too short, and leaves all as it was. Else it is the call of the
-- sheet on what the bytes say, whose answer r is told by the number and the bytes in the answer's area.
pub record Hosted {A : Type 0} (short : Bool) (Unchanged : Type 0) (Called : Result A Refusal → Type 0)
    (bytes : A → List ℕ) (area : List ℕ) (number : ℕ) (answer : List ℕ) : Type 0 where
  pub refused : short ≡ true → (number ≡ 6) × (answer ≡ area) × Unchanged
  pub called : short ≡ false → (r : Result A Refusal) × Called r × (number ≡ returned r) × (answer ≡ said bytes r area)
