use Rattle.std.proofs.Common.{rules}
use Rattle.report.proofs.QuestionsRead.{line_fits, formula_read, formula_line}
use Rattle.report.proofs.holding.read_lines.Goals as goal

pub moved_answer-requires : goal.moved_answer-requires
moved_answer-requires c =
    line_fits c.args.before c.requires.short c.read_formula-answer.result
    (formula_line c.args.order.now c.args.text.now c.args.lines.now c.read_formula-answer.new.lines c.requires.lines (search rules) c.read_formula-answer.result c.read_formula-answer.ensures.read)

pub returns-clause-reads : goal.returns-clause-reads
returns-clause-reads c =
    let all = formula_read c.args.order.now c.args.text.now c.args.lines.now c.read_formula-answer.new.lines c.requires.lines (search rules) c.read_formula-answer.result c.read_formula-answer.ensures.read c.args.before in
    search (rules, all)
