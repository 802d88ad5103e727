use Rattle.std.proofs.Common.{◌≡◌, false, arith, sym, subst}
use Rattle.std.proofs.lemmas.Grind.{common_steps}
use Rattle.std.proofs.lemmas.List.{with_items_is}
use Rattle.model.specs.declared.flags.FlagSet.{FlagSet}
use Rattle.model.specs.declared.band.Span.{Span}
use Rattle.text.specs.Readings.{SideMemory, side_memory, is_short, ReadsTwo}
use Rattle.report.proofs.Sides.{sides_read}
use Rattle.report.proofs.comparison.read.Goals as goal

pub returns-clause-says : goal.returns-clause-says
returns-clause-says c =
    let left = side_memory c.deref_mut.result.now c.deref_mut-2.result.now in
    let right = side_memory c.deref_mut-3.result.now c.deref_mut-4.result.now in
    let left_long : is_short left ≡ false = grind (arith, common_steps) in
    let right_long : is_short right ≡ false = grind (arith, common_steps) in
    let new = c.read_two.new in
    let before = c.args.left.now in
    let after = c.args.right.now in
    let a = with_items_is before.labels new.left_labels (grind (arith, common_steps)) in
    let b = with_items_is before.steps new.left_steps (grind (arith, common_steps)) in
    let d = with_items_is after.labels new.right_labels (grind (arith, common_steps)) in
    let e = with_items_is after.steps new.right_steps (grind (arith, common_steps)) in
    let P : SideMemory (FlagSet × Span) × SideMemory (FlagSet × Span) → Type 0 = λ p. ReadsTwo c.args.text.now left right c.read_two.result p.0 p.1 in
    sides_read c.args.text.now left right _ _ left_long right_long c.read_two.result
    (subst P (λ i. (side_memory (sym a i) (sym b i), side_memory (sym d i) (sym e i))) c.read_two.ensures)
