-- From a state of a lent area to a later one, with records written in the places from i to before j. Assumes nothing.
use Rattle.std.specs.Prelude.{◌≡◌, ℕ, suc, ◌+◌, List, [], ◌∷◌, ◌++◌, length, refl}
use Rattle.std.proofs.Common.{sym, ap, ◌∙◌, length-append, arith}
use Rattle.strikes.specs.declared.strike.Strike.{Strike}
use Rattle.sheet.specs.Lasting.{Lasting}
use Rattle.host.specs.Bytes.{with_record, with_records}

-- The area keeps its name, and strikes were written in turn in those places.
pub record Recorded {N : Type 0} (i j : ℕ) (before after : N × List ℕ) : Type 0 where
  pub named : after.0 ≡ before.0
  pub strikes : List Strike
  pub many : i + length strikes ≡ j
  pub written : after.1 ≡ with_records before.1 i strikes

-- Some strikes written, and then others.
with_records_append : (bytes : List ℕ) (i : ℕ) (ks ls : List Strike) →
    with_records bytes i (ks ++ ls) ≡ with_records (with_records bytes i ks) (i + length ks) ls
with_records_append bytes i [] ls = let e : i + 0 ≡ i = omega arith in ap (λ k. with_records bytes k ls) (sym e)
with_records_append bytes i (k ∷ ks) ls =
    let e : i + 1 + length ks ≡ i + suc (length ks) = omega arith in
    with_records_append (with_record bytes i k) (i + 1) ks ls ∙ ap (λ j. with_records (with_records (with_record bytes i k) (i + 1) ks) j ls) e

recorded_then : {N : Type 0} (i j k : ℕ) (a b c : N × List ℕ) → Recorded i j a b → Recorded j k b c → Recorded i k a c
recorded_then i j k a b c p q = record {
  named = q.named ∙ p.named;
  strikes = p.strikes ++ q.strikes;
  many = omega (arith, length-append p.strikes q.strikes, p.many, q.many);
  written = q.written ∙ ap (λ bytes. with_records bytes j q.strikes) p.written ∙ ap (λ x. with_records (with_records a.1 i p.strikes) x q.strikes) (sym p.many) ∙ sym (with_records_append a.1 i p.strikes q.strikes);
}

pub recorded_lasting : {S N : Type 0} (name : S → N) (bytes : S → List ℕ) →
    Lasting (λ i j a b. Recorded i j (name a, bytes a) (name b, bytes b))
recorded_lasting name bytes = record {
  at_once = λ i a. record { named = refl; strikes = []; many = omega arith; written = refl };
  then = λ i j k a b c. recorded_then i j k (name a, bytes a) (name b, bytes b) (name c, bytes c);
}
