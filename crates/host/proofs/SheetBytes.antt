-- What is read of the bytes of a sheet that were written. Assumes nothing.
use Rattle.std.proofs.Common.{◌≡◌, ℕ, ◌^◌, ◌<◌, ◌≤◌, Bool, true, false, not, eqb, List, [], ◌∷◌, length, set, refl, ap, ◌∙◌, arith}
use Rattle.std.specs.Int.{w16, from_le_bytes}
use Rattle.model.specs.Memory.{over}
use Rattle.sheet.specs.declared.sheet.Sheet.{Sheet}
use Rattle.sheet.specs.Pages.{sheet_of}
use Rattle.host.specs.Bytes.{sheet_in, with_made}
use Rattle.host.specs.Said.{number_bytes, bool_byte, sheet_bytes}

number_again : (k : ℕ) → k < 2 ^ 16 → from_le_bytes w16 (number_bytes k) ≡ k
number_again k h = omega arith

bool_again : (b : Bool) → not (eqb (bool_byte b) 0) ≡ b
bool_again true = refl
bool_again false = refl

-- the byte of a test, as the machine holds it
pub byte_of : (b : Bool) → mir.Val.bool_byte b ≡ bool_byte b
byte_of true = refl
byte_of false = refl

pub made_read : (bytes : List ℕ) (made : ℕ) → 4 ≤ length bytes → made < 2 ^ 16 → sheet_in (with_made made bytes) ≡ sheet_of (sheet_in bytes).count made (sheet_in bytes).settled
made_read (a ∷ b ∷ c ∷ d ∷ rest) made h few = ap (λ k. sheet_of a k (not (eqb b 0))) (number_again made few)
made_read [] made h few = absurd (omega arith)
made_read (a ∷ []) made h few = absurd (omega arith)
made_read (a ∷ b ∷ []) made h few = absurd (omega arith)
made_read (a ∷ b ∷ c ∷ []) made h few = absurd (omega arith)

pub settled_read : (bytes : List ℕ) (made : ℕ) → 4 ≤ length bytes → made < 2 ^ 16 → sheet_in (set (with_made made bytes) 1 1) ≡ sheet_of (sheet_in bytes).count made true
settled_read (a ∷ b ∷ c ∷ d ∷ rest) made h few = ap (λ k. sheet_of a k true) (number_again made few)
settled_read [] made h few = absurd (omega arith)
settled_read (a ∷ []) made h few = absurd (omega arith)
settled_read (a ∷ b ∷ []) made h few = absurd (omega arith)
settled_read (a ∷ b ∷ c ∷ []) made h few = absurd (omega arith)

pub sheet_read : (sheet : Sheet) (bytes : List ℕ) → sheet.strikes < 2 ^ 16 → sheet_in (over (sheet_bytes sheet) bytes) ≡ sheet
sheet_read sheet bytes few = ap (λ b. sheet_of sheet.count (from_le_bytes w16 (number_bytes sheet.strikes)) b) (bool_again sheet.settled) ∙ ap (λ k. sheet_of sheet.count k sheet.settled) (number_again sheet.strikes few)
