use Rattle.std.proofs.Common.{◌≡◌, ok_or, rules, sym, ap, ◌∙◌}
use Rattle.text.specs.declared.fault.Fault.TheVariants.{WrongItems}
use Rattle.text.specs.Lines.{inside}
use Rattle.text.specs.OrderLines.{order_named}
use Rattle.text.proofs.OrderSays.{order_says}
use Rattle.text.proofs.order_line.order_of.Goals as goal

pub returns : goal.returns
returns c =
    let named : c.named.result ≡ order_named (inside c.args.line.now) = search rules in
    c.ok_or-2.ensures.value
    ∙ ap (λ o. ok_or o WrongItems) named
    ∙ sym (order_says c.args.line.now c.in_ok-ok_or.field-0 (search rules) (search rules) (search rules))
