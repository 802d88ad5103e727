-- A call of a host that makes the call of the sheet. Assumes nothing.
use Rattle.std.proofs.Common.{◌≡◌, ℕ, Bool, false, List, Result, subst}
use Rattle.std.proofs.lemmas.Bool.{both_ways}
use Rattle.model.specs.declared.refusal.Refusal.{Refusal}
use Rattle.model.specs.declared.flags.FlagSet.{FlagSet}
use Rattle.model.specs.Machines.{Meaning}
use Rattle.sheet.specs.declared.sheet.Sheet.{Sheet}
use Rattle.host.specs.Said.{returned, said, Hosted}

-- where no area is too short
pub hosted : {A : Type 0} {short : Bool} {Unchanged : Type 0} {Called : Result A Refusal → Type 0} {bytes : A → List ℕ} {area answer : List ℕ} {number : ℕ} (r : Result A Refusal) →
    short ≡ false → Called r → number ≡ returned r → answer ≡ said bytes r area → Hosted short Unchanged Called bytes area number answer
hosted r e called told written = record { refused = λ t. absurd (both_ways _ e t); called = λ _. (r, called, told, written) }

-- what is said of the machine, the sheet and the answer of a call, where the bytes say them
pub carried : {A : Type 0} (P : Meaning FlagSet → Sheet → Result A Refusal → Type 0) {m n : Meaning FlagSet} {sheet now : Sheet} {r q : Result A Refusal} → m ≡ n → sheet ≡ now → r ≡ q → P m sheet r → P n now q
carried P {m} {n} {sheet} {now} {r} {q} d e f p = subst (λ x. P n now x) f (subst (λ x. P n x r) e (subst (λ x. P x sheet r) d p))
