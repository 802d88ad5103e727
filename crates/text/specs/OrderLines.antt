-- The orders that a text may name, and the lines that name them. Assumes nothing.
use Rattle.std.specs.Prelude.{ℕ, Bool, true, false, cond, ◌&&◌, List, [], ◌∷◌, ◌++◌, Option, None, option_map, ◌==◌, ℤ, pos, bytes_eq, codes, int_le}
use Rattle.std.specs.List.{find}
use Rattle.model.specs.declared.flags.FlagSet.{FlagSet}
use Rattle.model.specs.declared.band.Span.{Span}
use Rattle.model.specs.Orders.{flags_at_most, band_at_most, turned_at_most, exact_at_most, both_at_most}
use Rattle.text.specs.declared.order.Base.{Base}
use Rattle.text.specs.declared.order.Base.TheVariants.{Flags, Band}
use Rattle.text.specs.declared.order.TextOrder.{TextOrder}
use Rattle.text.specs.declared.order.TextOrder.TheVariants.{Plain, Turned, Exact, Both}
use Rattle.text.specs.declared.word.Word.{Word}
use Rattle.text.specs.declared.word.Word.TheVariants.{Flags as FlagsWord, Band as BandWord, Turned as TurnedWord, Exact as ExactWord, Both as BothWord}
use Rattle.text.specs.Spelling.{flag_set, span, flags_spelled, flags_understood, band_spelled, band_understood, both_spelled, both_understood}

-- Labels of every text are pairs; a base looks at its own part.
abbrev pub base_at_most : Base → FlagSet × Span → FlagSet × Span → Bool
base_at_most Flags a b = flags_at_most a.0 b.0
base_at_most Band a b = band_at_most a.1 b.1

abbrev pub text_at_most : TextOrder → FlagSet × Span → FlagSet × Span → Bool
text_at_most (Plain base) = base_at_most base
text_at_most (Turned base) = turned_at_most (base_at_most base)
text_at_most (Exact base) = exact_at_most (base_at_most base)
text_at_most Both = both_at_most flags_at_most band_at_most

-- No flags, and the band from 0 to 0: what stands in the part that a base does not look at.
abbrev pub no_flags : FlagSet
no_flags = flag_set 0

abbrev pub no_span : Span
no_span = span (pos 0) (pos 0)

abbrev pub int_eq : ℤ → ℤ → Bool
int_eq y z = int_le y z && int_le z y

abbrev pub base_spelled : Base → FlagSet × Span → Option (List ℤ)
base_spelled Flags l = cond (int_eq l.1.low (pos 0) && int_eq l.1.high (pos 0)) (flags_spelled l.0) None
base_spelled Band l = cond (l.0.bits == 0) (band_spelled l.1) None

abbrev pub base_understood : Base → List ℤ → Option (FlagSet × Span)
base_understood Flags zs = option_map (λ f. (f, no_span)) (flags_understood zs)
base_understood Band zs = option_map (λ s. (no_flags, s)) (band_understood zs)

abbrev pub text_spelled : TextOrder → FlagSet × Span → Option (List ℤ)
text_spelled (Plain base) = base_spelled base
text_spelled (Turned base) = base_spelled base
text_spelled (Exact base) = base_spelled base
text_spelled Both = both_spelled

abbrev pub text_understood : TextOrder → List ℤ → Option (FlagSet × Span)
text_understood (Plain base) = base_understood base
text_understood (Turned base) = base_understood base
text_understood (Exact base) = base_understood base
text_understood Both = both_understood

-- The words that name orders.
abbrev pub is_order_word : Word → Bool
is_order_word FlagsWord = true
is_order_word BandWord = true
is_order_word TurnedWord = true
is_order_word ExactWord = true
is_order_word BothWord = true
is_order_word w = false

abbrev pub base_letters : Base → List ℕ
base_letters Flags = codes "flags"
base_letters Band = codes "band"

-- How an order is named between the brackets of its line.
abbrev pub order_letters : TextOrder → List ℕ
order_letters (Plain base) = base_letters base
order_letters (Turned base) = codes "turned (" ++ (base_letters base ++ codes ")")
order_letters (Exact base) = codes "exact (" ++ (base_letters base ++ codes ")")
order_letters Both = codes "both (flags) (band)"

abbrev pub all_orders : List TextOrder
all_orders = Plain Flags ∷ Plain Band ∷ Turned Flags ∷ Turned Band ∷ Exact Flags ∷ Exact Band ∷ Both ∷ []

-- The order that is named so, if any.
abbrev pub order_named : List ℕ → Option TextOrder
order_named bytes = find (λ o. bytes_eq (order_letters o) bytes) all_orders
