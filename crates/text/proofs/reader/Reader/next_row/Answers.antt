use Rattle.std.proofs.Common.{rules, ◌≡◌, subst, Err}
use Rattle.text.specs.Leading.{Leads, left}
use Rattle.text.proofs.Leading.{leads_fault}
use Rattle.text.proofs.reader.Reader.next_row.Goals as goal

pub returns-in_err-row-clause-leads : goal.returns-in_err-row-clause-leads
returns-in_err-row-clause-leads g c =
    let u = g.O.Spelled.understood c.args.order.now in
    let at = left c.args.self.now.text.now c.args.self.now.line c.args.self.now.due in
    let refused : Err c.in_err-row.field-0.0 ≡ c.from_residual.result = search rules in
    subst (λ r. Leads u c.args.shape at r at) refused
    (leads_fault u c.args.shape c.args.self.now.due c.args.self.now.line c.args.self.now.text.now c.cut.result.0.now c.in-Some.rest.now (search rules) c.in_err-row.field-0.0 (search rules))
