-- What a report tells is so. Assumes nothing.
use Rattle.std.proofs.Common.{◌≡◌, ℕ, ◌+◌, ◌*◌, ◌<◌, false, true, cond, not, eqb, reverse, take, drop, replicate, Some, sym, ap, ◌∙◌, subst, refl, arith}
use Rattle.std.specs.List.{slice_get, count_by}
use Rattle.std.proofs.lemmas.Nat.{mul-add-lt}
use Rattle.std.proofs.lemmas.List.{length-replicate, length-take, take-take, get_or-replicate, take_all}
use Rattle.std.proofs.lemmas.List.Folds.{sum_by-replicate}
use Rattle.std.proofs.lemmas.Option.{slice_get_within}
use Rattle.model.proofs.Tests.{true_holds}
use Rattle.model.specs.Orders.{Preorder}
use Rattle.model.specs.Machines.{Bounded}
use Rattle.until.specs.Formulas.{Holds}
use Rattle.strikes.specs.declared.strike.Strike.{Strike}
use Rattle.strikes.specs.Strikes.{Lawful}
use Rattle.strikes.specs.Told.{formula_of}
use Rattle.strikes.proofs.Telling.{strikes_tell}
use Rattle.sheet.specs.Memory.{standing}
use Rattle.sheet.specs.Verdicts.{Setting, size}
use Rattle.sheet.specs.Genuine.{Genuine}
use Rattle.sheet.proofs.Settling.{settles}
use Rattle.sheet.proofs.Records.{nth_take, naming_there}
use Rattle.sheet.proofs.Telling.{stands_entails, class_represents, history_split, no_byte_struck}
use Rattle.report.specs.Settled.{blank, begun, settled_memory, strikes_on}
use Rattle.report.specs.Tells.{ReportTells}

all_stand : (k : ℕ) → standing k (replicate k 1) ≡ k
all_stand k =
    ap (count_by (λ byte. not (eqb byte 0))) (take_all k (replicate k 1) (omega (arith, length-replicate {A = ℕ} k 1)))
    ∙ sum_by-replicate (λ byte. cond (not (eqb byte 0)) 1 0) k 1
    ∙ omega arith

module _ {L : Type 0} (on : Setting L) where
  begun_genuine : Genuine on false (begun (size on))
  begun_genuine =
      let n = size on in
      record {
        ready = record {
          pairs_fit = omega (arith, length-replicate {A = ℕ} (n * n) 1);
          records_fit = omega (arith, length-replicate {A = Strike} (n * n) blank);
          adds_up = omega (arith, all_stand (n * n));
        };
        lawful = tt;
        agrees = λ s t hs ht. ap (λ byte. not (eqb byte 0)) (get_or-replicate (n * n) (s * n + t) 1 0 (mul-add-lt s n t n hs ht));
        stable = λ e. absurd (cc);
      }

  module _ (bounded : Bounded on.machine) (laws : Preorder on.at_most) where
    done : Genuine on true (settled_memory on)
    done = (settles on bounded false (begun (size on)) begun_genuine).0

    strike_tells : (place : ℕ) (k : Strike) → slice_get (strikes_on on) place ≡ Some k →
        Holds on.at_most on.machine (formula_of on.machine (reverse (take place (strikes_on on))) k) k.first × (Holds on.at_most on.machine (formula_of on.machine (reverse (take place (strikes_on on))) k) k.second → ⊥)
    strike_tells place k at =
        let mem = settled_memory on in
        let low = slice_get_within (strikes_on on) place k at in
        let early : place < mem.made = omega (arith, low, length-take mem.made mem.records) in
        let split = history_split mem place k early (sym (nth_take mem.records mem.made place early) ∙ at) (omega (arith, low, length-take mem.made mem.records)) in
        subst (λ xs. Holds on.at_most on.machine (formula_of on.machine (reverse xs) k) k.first × (Holds on.at_most on.machine (formula_of on.machine (reverse xs) k) k.second → ⊥))
        (sym (take-take place mem.made mem.records (omega arith)))
        (strikes_tell laws on.machine (reverse (drop (place + 1) (take mem.made mem.records))) k (reverse (take place mem.records)) (subst (Lawful on.at_most on.machine) split done.lawful))

    pub report_tells : ReportTells on
    report_tells = record {
      below = λ s t hs ht. stands_entails on bounded laws true (settled_memory on) done refl s t hs ht;
      class = λ s hs. class_represents on bounded laws true (settled_memory on) done refl s hs;
      strikes = strike_tells;
      all = λ s t hs ht e. true_holds _ (naming_there (strikes_on on) s t (no_byte_struck on bounded laws true (settled_memory on) done s t hs ht e));
    }
