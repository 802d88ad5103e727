-- The text of a machine is not too long, and neither is that of two. Assumes nothing.
use Rattle.std.proofs.Common.{◌≡◌, ℕ, ◌+◌, ◌*◌, ◌≤◌, List, [], ◌∷◌, ◌++◌, length, Option, Some, ℤ, pos, arith, length-append}
use Rattle.std.proofs.lemmas.Fmt.{length-decimal-le}
use Rattle.model.specs.declared.flags.FlagSet.{FlagSet}
use Rattle.model.specs.declared.band.Span.{Span}
use Rattle.model.specs.Machines.{Meaning, states, state_bound}
use Rattle.text.specs.declared.order.Base.TheVariants.{Flags, Band}
use Rattle.text.specs.declared.order.TextOrder.{TextOrder}
use Rattle.text.specs.declared.order.TextOrder.TheVariants.{Plain, Turned, Exact, Both}
use Rattle.text.specs.declared.word.Word.TheVariants.{Trace as TraceWord}
use Rattle.text.specs.declared.row.Form.{Form}
use Rattle.text.specs.declared.row.Form.TheVariants.{Machine, Trace}
use Rattle.text.specs.Spelling.{Spelling}
use Rattle.text.specs.OrderLines.{text_spelled}
use Rattle.text.specs.TextOrderLaws.{text_spelling}
use Rattle.text.specs.Readings.{text_bound}
use Rattle.text.specs.Writings.{line, header_line, label_lines, step_lines, all_spelled, machine_lines, side_lines, order_line, two_lines}
use Rattle.text.proofs.AllSpelled.{spelled_each}
use Rattle.text.proofs.Lengths.{header_length, labels_length, steps_length}

trace_header_length : (n : ℕ) → n ≤ 64 → length (line TraceWord (pos n ∷ [])) ≤ 13
trace_header_length n h = let a = length-decimal-le 2 n (omega arith) (omega arith) (omega arith) in simp length-append (omega arith)

order_length : (order : TextOrder) → length (order_line order) ≤ 22
order_length (Plain Flags) = omega arith
order_length (Plain Band) = omega arith
order_length (Turned Flags) = omega arith
order_length (Turned Band) = omega arith
order_length (Exact Flags) = omega arith
order_length (Exact Band) = omega arith
order_length Both = omega arith

module _ {L : Type 0} (spelled : L → Option (List ℤ)) (understood : List ℤ → Option L) (laws : Spelling spelled understood) (m : Meaning L) (numbers : List (List ℤ)) (few : states m ≤ state_bound) (e : all_spelled spelled m.labels ≡ Some numbers) where
  pub machine_length : length (machine_lines m numbers) ≤ 13 + 890 * states m
  machine_length =
      let n = states m in
      omega (
        arith,
        length-append (header_line n) (label_lines 0 numbers ++ step_lines m.step n n),
        length-append (label_lines 0 numbers) (step_lines m.step n n),
        header_length n few,
        labels_length spelled understood laws 0 m.labels numbers (omega arith) e,
        steps_length m.step n n few few,
      )

  side_length : (form : Form) → length (side_lines form m numbers) ≤ 13 + 890 * states m
  side_length Machine = machine_length
  side_length Trace =
      omega (
        arith,
        length-append (line TraceWord (pos (length numbers) ∷ [])) (label_lines 0 numbers),
        trace_header_length (length numbers) (omega (arith, spelled_each spelled m.labels numbers e)),
        labels_length spelled understood laws 0 m.labels numbers (omega arith) e,
      )

pub two_length : (order : TextOrder) (form : Form) (left right : Meaning (FlagSet × Span)) (left_numbers right_numbers : List (List ℤ)) → states left + states right ≤ state_bound →
    all_spelled (text_spelled order) left.labels ≡ Some left_numbers → all_spelled (text_spelled order) right.labels ≡ Some right_numbers → length (two_lines order form left left_numbers right right_numbers) ≤ text_bound
two_length order form left right left_numbers right_numbers few e f =
    omega (
      arith,
      length-append (order_line order) (side_lines form left left_numbers ++ machine_lines right right_numbers),
      length-append (side_lines form left left_numbers) (machine_lines right right_numbers),
      order_length order,
      side_length _ _ (text_spelling order) left left_numbers (omega arith) e form,
      machine_length _ _ (text_spelling order) right right_numbers (omega arith) f,
    )
