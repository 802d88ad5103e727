-- The text of a machine laid from its parts. Assumes nothing.
use Rattle.std.proofs.Common.{List, Option, Some, ℤ, refl, subst, sym}
use Rattle.model.specs.Machines.{Meaning, states}
use Rattle.text.specs.declared.writing.Pen.{Pen}
use Rattle.text.specs.Writings.{header_line, all_spelled, step_lines, machine_lines}
use Rattle.text.specs.Laying.{Lays, LaysIfSpelled}
use Rattle.text.proofs.Laying.{lays_then}
use Rattle.text.proofs.Labels.{Labelled}

module _ {L : Type 0} (spelled : L → Option (List ℤ)) (m : Meaning L) where
  pub machine_laid : {p p1 p2 q : Pen} → Lays p (header_line (states m)) p1 → Labelled spelled m.labels p1 p2 → Lays p2 (step_lines m.step (states m) (states m)) q → LaysIfSpelled (all_spelled spelled m.labels) (machine_lines m) p (Some tt) q
  machine_laid {p} {p1} {p2} {q} header labels steps =
      subst (λ o. LaysIfSpelled o (machine_lines m) p (Some tt) q) (sym labels.all)
      (refl, lays_then header (lays_then labels.laid steps))
