use Rattle.std.proofs.Common.{length, Some, None, ap, sym, ◌∙◌, arith, rules, lit<}
use Rattle.std.specs.Prelude.{codes}
use Rattle.std.proofs.lemmas.Bool.Decides.{Decides-eqb}
use Rattle.std.proofs.lemmas.Slice.Eq.{strip_prefix_is}
use Rattle.text.proofs.FormulaReads.{if_none, shown_push, length-shown, spent, reads_some, reads_at, reads_two, reads_and, reads_until, no_first, no_second, no_at, no_and, no_until, no_word, no_depth, no_next, reads_next}
use Rattle.text.proofs.formula.+formula.Goals as goal

pub formula-returns-in_err-label-clause-none : goal.formula-returns-in_err-label-clause-none
formula-returns-in_err-label-clause-none t c =
    let is = strip_prefix_is Decides-eqb c.args.bytes.now (codes "(at ") (Some c.in-Some-strip_prefix.rest) c.in-Some-strip_prefix.ensures.cases in
    if_none _ (no_at _ _ _ is c.in_err-label.ensures.none)

pub formula-returns-in-Some-strip_prefix-clause-read : goal.formula-returns-in-Some-strip_prefix-clause-read
formula-returns-in-Some-strip_prefix-clause-read t c =
    let is = strip_prefix_is Decides-eqb c.args.bytes.now (codes "(at ") (Some c.in-Some-strip_prefix.rest) c.in-Some-strip_prefix.ensures.cases in
    reads_at _ _ is c.in_ok-label.ensures.read (shown_push _ _ _ c.push-in-Some-strip_prefix.ensures.items)

pub formula-returns-in_err-f-clause-none : goal.formula-returns-in_err-f-clause-none
formula-returns-in_err-f-clause-none t c =
    let is = strip_prefix_is Decides-eqb c.args.bytes.now (codes "(and ") (Some c.in-Some-strip_prefix-2.rest) c.in-Some-strip_prefix-2.ensures.cases in
    if_none _ (no_and _ _ _ is (no_first _ _ c.in_err-f.ensures.none))

pub formula-operand-requires-in-Some-strip_prefix-2 : goal.formula-operand-requires-in-Some-strip_prefix-2
formula-operand-requires-in-Some-strip_prefix-2 t c =
    let is = strip_prefix_is Decides-eqb c.args.bytes.now (codes "(and ") (Some c.in-Some-strip_prefix-2.rest) c.in-Some-strip_prefix-2.ensures.cases in
    let used = spent _ _ c.args.lines.now.items c.operand.new.lines.items c.in_ok-f.ensures.read in
    (search rules, omega (arith, ap length is))

pub formula-returns-in_err-g-clause-none : goal.formula-returns-in_err-g-clause-none
formula-returns-in_err-g-clause-none t c =
    let is = strip_prefix_is Decides-eqb c.args.bytes.now (codes "(and ") (Some c.in-Some-strip_prefix-2.rest) c.in-Some-strip_prefix-2.ensures.cases in
    if_none _ (no_and _ _ _ is (no_second _ _ _ _ _ c.in_ok-f.ensures.read c.in_err-g.ensures.none))

pub formula-push-requires-in-Some-strip_prefix-2 : goal.formula-push-requires-in-Some-strip_prefix-2
formula-push-requires-in-Some-strip_prefix-2 t c =
    let is = strip_prefix_is Decides-eqb c.args.bytes.now (codes "(and ") (Some c.in-Some-strip_prefix-2.rest) c.in-Some-strip_prefix-2.ensures.cases in
    let used = spent _ _ c.args.lines.now.items c.operand.new.lines.items c.in_ok-f.ensures.read in
    let more = spent _ _ c.operand.new.lines.items c.operand-in-Some-strip_prefix-2.new.lines.items c.in_ok-g.ensures.read in
    (lit< tt, omega (arith, ap length is))

pub formula-returns-in-Some-strip_prefix-2-clause-read : goal.formula-returns-in-Some-strip_prefix-2-clause-read
formula-returns-in-Some-strip_prefix-2-clause-read t c =
    let is = strip_prefix_is Decides-eqb c.args.bytes.now (codes "(and ") (Some c.in-Some-strip_prefix-2.rest) c.in-Some-strip_prefix-2.ensures.cases in
    let two = reads_two _ _ _ _ _ _ _ _ c.in_ok-f.ensures.read c.in_ok-g.ensures.read (c.in_ok-f.ensures.number ∙ sym (length-shown _)) (c.in_ok-g.ensures.number ∙ sym (length-shown _)) in
    reads_and two is (shown_push _ _ _ c.push-in-Some-strip_prefix-2.ensures.items)

pub formula-returns-in_err-f-2-clause-none : goal.formula-returns-in_err-f-2-clause-none
formula-returns-in_err-f-2-clause-none t c =
    let is = strip_prefix_is Decides-eqb c.args.bytes.now (codes "(until ") (Some c.in-Some-strip_prefix-3.rest) c.in-Some-strip_prefix-3.ensures.cases in
    if_none _ (no_until _ _ _ is (no_first _ _ c.in_err-f-2.ensures.none))

pub formula-operand-requires-in-Some-strip_prefix-3-2 : goal.formula-operand-requires-in-Some-strip_prefix-3-2
formula-operand-requires-in-Some-strip_prefix-3-2 t c =
    let is = strip_prefix_is Decides-eqb c.args.bytes.now (codes "(until ") (Some c.in-Some-strip_prefix-3.rest) c.in-Some-strip_prefix-3.ensures.cases in
    let used = spent _ _ c.args.lines.now.items c.operand-in-Some-strip_prefix-3.new.lines.items c.in_ok-f-2.ensures.read in
    (search rules, omega (arith, ap length is))

pub formula-returns-in_err-g-2-clause-none : goal.formula-returns-in_err-g-2-clause-none
formula-returns-in_err-g-2-clause-none t c =
    let is = strip_prefix_is Decides-eqb c.args.bytes.now (codes "(until ") (Some c.in-Some-strip_prefix-3.rest) c.in-Some-strip_prefix-3.ensures.cases in
    if_none _ (no_until _ _ _ is (no_second _ _ _ _ _ c.in_ok-f-2.ensures.read c.in_err-g-2.ensures.none))

pub formula-push-requires-in-Some-strip_prefix-3 : goal.formula-push-requires-in-Some-strip_prefix-3
formula-push-requires-in-Some-strip_prefix-3 t c =
    let is = strip_prefix_is Decides-eqb c.args.bytes.now (codes "(until ") (Some c.in-Some-strip_prefix-3.rest) c.in-Some-strip_prefix-3.ensures.cases in
    let used = spent _ _ c.args.lines.now.items c.operand-in-Some-strip_prefix-3.new.lines.items c.in_ok-f-2.ensures.read in
    let more = spent _ _ c.operand-in-Some-strip_prefix-3.new.lines.items c.operand-in-Some-strip_prefix-3-2.new.lines.items c.in_ok-g-2.ensures.read in
    (lit< tt, omega (arith, ap length is))

pub formula-returns-in-Some-strip_prefix-3-clause-read : goal.formula-returns-in-Some-strip_prefix-3-clause-read
formula-returns-in-Some-strip_prefix-3-clause-read t c =
    let is = strip_prefix_is Decides-eqb c.args.bytes.now (codes "(until ") (Some c.in-Some-strip_prefix-3.rest) c.in-Some-strip_prefix-3.ensures.cases in
    let two = reads_two _ _ _ _ _ _ _ _ c.in_ok-f-2.ensures.read c.in_ok-g-2.ensures.read (c.in_ok-f-2.ensures.number ∙ sym (length-shown _)) (c.in_ok-g-2.ensures.number ∙ sym (length-shown _)) in
    reads_until two is (shown_push _ _ _ c.push-in-Some-strip_prefix-3.ensures.items)

pub formula-returns-clause-none : goal.formula-returns-clause-none
formula-returns-clause-none t c =
    no_word _ c.args.bytes.now
    (strip_prefix_is Decides-eqb c.args.bytes.now (codes "(true)") None c.in_default.ensures.cases)
    (strip_prefix_is Decides-eqb c.args.bytes.now (codes "(at ") None c.in_default-strip_prefix.ensures.cases)
    (strip_prefix_is Decides-eqb c.args.bytes.now (codes "(and ") None c.in_default-strip_prefix-2.ensures.cases)
    (strip_prefix_is Decides-eqb c.args.bytes.now (codes "(until ") None c.in_default-strip_prefix-3.ensures.cases)

pub operand-returns-in_err-checked_sub-clause-none : goal.operand-returns-in_err-checked_sub-clause-none
operand-returns-in_err-checked_sub-clause-none t c = if_none _ (no_depth _ _ _ (omega (arith, c.in_err-checked_sub.ensures)))

pub operand-overflow_sub-result : goal.operand-overflow_sub-result
operand-overflow_sub-result t c =
    let some = reads_some _ _ c.args.lines.now.items c.formula.new.lines.items c.in_ok-rest.ensures.read in
    omega (arith, c.len.ensures.value)

pub operand-returns-in_err-strip_prefix-clause-none : goal.operand-returns-in_err-strip_prefix-clause-none
operand-returns-in_err-strip_prefix-clause-none t c =
    if_none _ (no_next _ _ _ _ _ _ c.in_ok-rest.ensures.read (strip_prefix_is Decides-eqb c.in_ok-rest.rest.now c.args.next.now None c.in_err-strip_prefix.ensures.cases))

pub operand-returns-clause-read : goal.operand-returns-clause-read
operand-returns-clause-read t c =
    reads_next (strip_prefix_is Decides-eqb c.in_ok-rest.rest.now c.args.next.now (Some c.in_ok-strip_prefix.field-0) c.in_ok-strip_prefix.ensures.cases) c.in_ok-rest.ensures.read

pub operand-returns-clause-number : goal.operand-returns-clause-number
operand-returns-clause-number t c =
    let some = reads_some _ _ c.args.lines.now.items c.formula.new.lines.items c.in_ok-rest.ensures.read in
    omega (arith, c.len.ensures.value)
