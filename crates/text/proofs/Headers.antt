-- The headers of the rows that are left, after those already seen. Assumes nothing.
use Rattle.std.proofs.Common.{◌≡◌, ℕ, ◌∷◌, Option, Some, None, Result, Ok, Err, refl, sym, ◌∙◌, subst}
use Rattle.std.specs.Option.{option_or}
use Rattle.text.specs.declared.fault.Side.{Side}
use Rattle.text.specs.declared.fault.Side.TheVariants.{Order, Left, Right}
use Rattle.text.specs.declared.fault.Place.{Place}
use Rattle.text.specs.declared.fault.Refused.{Refused}
use Rattle.text.specs.declared.reading.SideRead.{SideRead}
use Rattle.text.specs.declared.row.Form.{Form}
use Rattle.text.specs.declared.row.Row.{Row}
use Rattle.text.specs.declared.row.Row.TheVariants.{Header, Label, Step}
use Rattle.text.specs.Readings.{Rows, header_on, also_row, side_read}

or_twice : (a b c : Option SideRead) → option_or (option_or a b) c ≡ option_or a (option_or b c)
or_twice None b c = refl
or_twice (Some a) b c = refl

module _ {L : Type 0} where
  -- What is seen on both sides and what is left say what all rows say.
  pub record Seen (left right : Option SideRead) (all rest : Rows L) : Type 0 where
    pub left_so : header_on Left all ≡ option_or left (header_on Left rest)
    pub right_so : header_on Right all ≡ option_or right (header_on Right rest)

  -- The same where all rows are read, and the same refusal where they are not.
  abbrev pub SeenOf : Option SideRead → Option SideRead → Result (Rows L) (Refused Place) → Result (Rows L) (Refused Place) → Type 0
  SeenOf left right all (Err e) = all ≡ Err e
  SeenOf left right all (Ok rest) = (rs : Rows L) × (all ≡ Ok rs) × Seen left right rs rest

  pub seen_start : (all : Result (Rows L) (Refused Place)) → SeenOf None None all all
  seen_start (Err e) = refl
  seen_start (Ok rs) = (rs, refl, record { left_so = refl; right_so = refl })

  module _ (left right : Option SideRead) (all : Result (Rows L) (Refused Place)) where
    seen_row : (r : Side × Row L) (after : Result (Rows L) (Refused Place)) → SeenOf left right all (also_row r after) → (left' right' : Option SideRead) →
        ((rest : Rows L) → option_or left (header_on Left (r ∷ rest)) ≡ option_or left' (header_on Left rest)) → ((rest : Rows L) → option_or right (header_on Right (r ∷ rest)) ≡ option_or right' (header_on Right rest)) →
        SeenOf left' right' all after
    seen_row r (Err e) s left' right' x y = s
    seen_row r (Ok rest) s left' right' x y = (s.0, s.1, record { left_so = s.2.left_so ∙ x rest; right_so = s.2.right_so ∙ y rest })

    module _ (before after : Result (Rows L) (Refused Place)) (s : SeenOf left right all before) where
      pub seen_left : (form : Form) (n : ℕ) → before ≡ also_row (Left, Header form n) after → SeenOf (option_or left (Some (side_read form n))) right all after
      seen_left form n e = seen_row (Left, Header form n) after (subst (SeenOf left right all) e s) _ _ (λ rest. sym (or_twice left (Some (side_read form n)) (header_on Left rest))) (λ rest. refl)

      pub seen_right : (form : Form) (n : ℕ) → before ≡ also_row (Right, Header form n) after → SeenOf left (option_or right (Some (side_read form n))) all after
      seen_right form n e = seen_row (Right, Header form n) after (subst (SeenOf left right all) e s) _ _ (λ rest. refl) (λ rest. sym (or_twice right (Some (side_read form n)) (header_on Right rest)))

      pub seen_neither : (form : Form) (n : ℕ) → before ≡ also_row (Order, Header form n) after → SeenOf left right all after
      seen_neither form n e = seen_row (Order, Header form n) after (subst (SeenOf left right all) e s) _ _ (λ rest. refl) (λ rest. refl)

      pub seen_label : (side : Side) (k : ℕ) (l : L) → before ≡ also_row (side, Label k l) after → SeenOf left right all after
      seen_label side k l e = seen_row (side, Label k l) after (subst (SeenOf left right all) e s) _ _ (λ rest. refl) (λ rest. refl)

      pub seen_step : (side : Side) (q : ℕ) → before ≡ also_row (side, Step q) after → SeenOf left right all after
      seen_step side q e = seen_row (side, Step q) after (subst (SeenOf left right all) e s) _ _ (λ rest. refl) (λ rest. refl)
