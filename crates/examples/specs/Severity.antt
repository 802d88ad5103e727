-- Alarms by how grave they are. Assumes nothing.
use Rattle.std.specs.Prelude.{ℕ, Bool, nat_le}
use Rattle.std.proofs.Common.{le→leb, leb→le, le_refl, le_trans}
use Rattle.model.specs.Orders.{Preorder}
use Rattle.examples.specs.declared.severity.Alarm.{Alarm}
use Rattle.examples.specs.declared.severity.Alarm.TheVariants.{Quiet, Warning, Fault}

abbrev pub grade_of : Alarm → ℕ
grade_of Quiet = 0
grade_of Warning = 1
grade_of Fault = 2

-- b is at least as grave as a.
abbrev pub no_graver : Alarm → Alarm → Bool
no_graver a b = nat_le (grade_of a) (grade_of b)

pub no_graver_lawful : Preorder no_graver
no_graver_lawful = record {
  reflexive = λ a. le→leb (grade_of a) (grade_of a) (le_refl (grade_of a));
  transitive = λ a b c p q. le→leb (grade_of a) (grade_of c) (le_trans (leb→le (grade_of a) (grade_of b) p) (leb→le (grade_of b) (grade_of c) q));
}
