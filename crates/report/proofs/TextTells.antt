-- What the report on a text tells is so. Assumes nothing.
use Rattle.std.proofs.Common.{◌≡◌, ℕ, ◌+◌, ◌<◌, ◌≤◌, List, length, Result, Ok, Err, refl, sym, ap, ◌∙◌, subst, leb, arith}
use Rattle.std.specs.Result.{IfOk}
use Rattle.std.proofs.lemmas.Bool.{cond-true, le-leb}
use Rattle.std.proofs.lemmas.List.{length-append}
use Rattle.model.specs.declared.flags.FlagSet.{FlagSet}
use Rattle.model.specs.declared.band.Span.{Span}
use Rattle.model.specs.Machines.{Meaning, Bounded, states, state_bound, no_states, traced, joined, beside_meaning}
use Rattle.model.specs.MachineLaws.{tabled_bounded, traced_bounded, beside_bounded}
use Rattle.text.specs.declared.fault.Side.TheVariants.{Left, Right}
use Rattle.text.specs.declared.fault.Place.{Place}
use Rattle.text.specs.declared.fault.Refused.{Refused}
use Rattle.text.specs.declared.row.Form.{Form}
use Rattle.text.specs.declared.row.Form.TheVariants.{Machine, Trace}
use Rattle.text.specs.TextOrderLaws.{text_lawful}
use Rattle.text.specs.Readings.{labels_on, places_on, side_said, grid, Said}
use Rattle.text.proofs.Grids.{grid_fits}
use Rattle.text.specs.Statements.{machine_of, machine_on}
use Rattle.report.specs.Comparisons.{setting_said, read_of}
use Rattle.report.specs.TextTells.{TextTells}
use Rattle.text.proofs.SidesCounted.{Counted, two_counted}
use Rattle.report.proofs.Sides.{said_of}
use Rattle.report.proofs.Tells.{report_tells}

-- A machine with these labels.
record Has (labels : List (FlagSet × Span)) (m : Meaning (FlagSet × Span)) : Type 0 where
  bounded : Bounded m
  counted : states m ≡ length labels

module _ (labels : List (FlagSet × Span)) (some : 0 < length labels) (few : length labels ≤ state_bound) where
  machine_has : (form : Form) (places : List ℕ) → Has labels (machine_of form labels (grid (length labels) places))
  machine_has Machine places =
      subst (Has labels) (sym (grid_fits labels places some few)) (record { bounded = tabled_bounded labels (grid (length labels) places) few; counted = refl })
  machine_has Trace places =
      subst (Has labels) (sym (cond-true (leb (length labels) state_bound) (traced labels) no_states (le-leb (length labels) state_bound few))) (record { bounded = traced_bounded labels few; counted = refl })

module _ (said : Said) (q : Counted said.rows) where
  left : Has (labels_on Left said.rows) (machine_on Left said.rows)
  left = machine_has (labels_on Left said.rows) q.some_left (omega (arith, q.few)) (side_said Left said.rows).form (places_on Left said.rows)

  right : Has (labels_on Right said.rows) (machine_on Right said.rows)
  right = machine_has (labels_on Right said.rows) q.some_right (omega (arith, q.few)) (side_said Right said.rows).form (places_on Right said.rows)

  both : states (beside_meaning (machine_on Left said.rows) (machine_on Right said.rows)) ≡ states (machine_on Left said.rows) + states (machine_on Right said.rows)
  both =
      let m = machine_on Left said.rows in
      let n = machine_on Right said.rows in
      ap states (cond-true (leb (states m + states n) state_bound) (joined m n) no_states (le-leb _ _ (omega (arith, left.counted, right.counted, q.few)))) ∙ length-append m.labels n.labels

  text_tells : TextTells said
  text_tells = record {
    left = omega (arith, left.counted, q.some_left);
    right = omega (arith, both, right.counted, q.some_right);
    report = report_tells (setting_said said) (beside_bounded left.bounded right.bounded) (text_lawful said.order);
  }

pub read_tells : (text : List ℕ) → IfOk (read_of text) TextTells
read_tells text = by (read_of text) refl
  where
    by : (o : Result Said (Refused Place)) → read_of text ≡ o → IfOk o TextTells
    by (Ok said) e = text_tells said (two_counted text said (said_of text said e))
    by (Err e) _ = tt
