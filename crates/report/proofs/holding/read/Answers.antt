use Rattle.std.proofs.Common.{◌≡◌, Ok, Some, option_map, rules, subst}
use Rattle.text.specs.Questions.{question, held_parts}
use Rattle.report.specs.QuestionsRead.{ReadsMachine, ReadsFormula}
use Rattle.report.proofs.QuestionsRead.{read_as_asked}
use Rattle.report.proofs.holding.read.Goals as goal

pub returns-clause-says : goal.returns-clause-says
returns-clause-says c =
    let parts = c.in_ok-parts.parts in
    let formula = c.in_ok-formula.formula.now in
    let cut : Ok (held_parts parts) ≡ question c.args.text.now = search rules in
    let there : option_map (λ bytes. bytes.now) parts.formula ≡ Some formula = search rules in
    let machine = subst (ReadsMachine parts.order parts.machine.now c.read_states.new.places) (c.in_ok-states.was) c.read_states.ensures.reads in
    let lines = subst (ReadsFormula parts.order formula parts.lines c.read_lines.new.lines) (c.in_ok-lines.was) c.read_lines.ensures.reads in
    read_as_asked c.args.text.now parts formula c.in_ok-states.states c.in_ok-lines.lines c.read_states.new.places c.read_lines.new.lines cut there machine lines
