use Rattle.std.proofs.Common.{◌≡◌, ◌∙◌, sym, rules}
use Rattle.std.specs.Str.{IsUtf8}
use Rattle.text.proofs.Numerals.{no_text_none, unread_none, read_number}
use Rattle.text.proofs.number.number.Goals as goal

pub returns-in_err-ok : goal.returns-in_err-ok
returns-in_err-ok c =
    let h : IsUtf8 c.args.bytes.now → ⊥ = search rules in
    c.from_residual.ensures ∙ sym (no_text_none _ h)

pub returns-in_err-number : goal.returns-in_err-number
returns-in_err-number c =
    let bs = c.args.bytes.now in
    let same : c.in_ok-ok.field-0.now ≡ bs = search rules in
    c.from_residual-in_err-number.ensures ∙ sym (unread_none bs c.parse.result (rw same at c.parse.ensures.value.0) (sym c.ok-2.ensures.value ∙ c.in_err-number.was))

pub returns-in_default : goal.returns-in_default
returns-in_default c =
    let bs = c.args.bytes.now in
    let same : c.in_ok-ok.field-0.now ≡ bs = search rules in
    c.then_some.ensures ∙ read_number bs c.parse.result c.in_ok-number.number c.contains.result (rw same at c.parse.ensures.value.0) (sym c.ok-2.ensures.value ∙ c.in_ok-number.was)
    (record { plus = search rules; zeros = search rules; negative = search rules }) c.contains.ensures.value
