-- The orders that a text may name are lawful, and their labels are read as they are written: proofs that the traits' members name. Assumes nothing.
use Rattle.std.specs.Prelude.{◌&&◌, ◌==◌, pos, refl}
use Rattle.std.proofs.Common.{rules}
use Rattle.model.specs.Orders.{Preorder}
use Rattle.model.specs.OrderLaws.{flags_lawful, band_lawful, turned_lawful, exact_lawful, both_lawful}
use Rattle.text.specs.declared.order.Base.{Base}
use Rattle.text.specs.declared.order.Base.TheVariants.{Flags, Band}
use Rattle.text.specs.declared.order.TextOrder.{TextOrder}
use Rattle.text.specs.declared.order.TextOrder.TheVariants.{Plain, Turned, Exact, Both}
use Rattle.text.specs.Spelling.{Spelling}
use Rattle.text.specs.SpellingLaws.{flags_spelling, band_spelling, both_spelling, part_spelling}
use Rattle.text.specs.OrderLines.{base_at_most, text_at_most, int_eq, no_flags, no_span, base_spelled, base_understood, text_spelled, text_understood}

pub base_lawful : (base : Base) → Preorder (base_at_most base)
base_lawful Flags = record { reflexive = λ a. flags_lawful.reflexive a.0; transitive = λ a b c. flags_lawful.transitive a.0 b.0 c.0 }
base_lawful Band = record { reflexive = λ a. band_lawful.reflexive a.1; transitive = λ a b c. band_lawful.transitive a.1 b.1 c.1 }

pub text_lawful : (o : TextOrder) → Preorder (text_at_most o)
text_lawful (Plain base) = base_lawful base
text_lawful (Turned base) = turned_lawful (base_lawful base)
text_lawful (Exact base) = exact_lawful (base_lawful base)
text_lawful Both = both_lawful flags_lawful band_lawful

pub base_spelling : (base : Base) → Spelling (base_spelled base) (base_understood base)
base_spelling Flags = part_spelling (λ l. l.0) (λ l. int_eq l.1.low (pos 0) && int_eq l.1.high (pos 0)) (λ f. (f, no_span)) (λ f. refl) (λ f. refl) (λ l e. search rules) flags_spelling
base_spelling Band = part_spelling (λ l. l.1) (λ l. l.0.bits == 0) (λ s. (no_flags, s)) (λ s. refl) (λ s. refl) (λ l e. search rules) band_spelling

pub text_spelling : (o : TextOrder) → Spelling (text_spelled o) (text_understood o)
text_spelling (Plain base) = base_spelling base
text_spelling (Turned base) = base_spelling base
text_spelling (Exact base) = base_spelling base
text_spelling Both = both_spelling
