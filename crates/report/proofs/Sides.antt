-- What reading two machines leaves in memory is what the text says. Assumes nothing.
use Rattle.std.proofs.Common.{◌≡◌, ℕ, ◌*◌, Bool, true, false, cond, ◌||◌, List, length, take, drop, replicate, Some, Result, Ok, Err, refl, sym, ap, ◌∙◌, subst, unwrap_or, arith}
use Rattle.std.specs.Result.{MatchResult}
use Rattle.std.proofs.lemmas.List.{take_at, length-replicate}
use Rattle.model.specs.declared.flags.FlagSet.{FlagSet}
use Rattle.model.specs.declared.band.Span.{Span}
use Rattle.model.specs.Memory.{over}
use Rattle.text.specs.declared.fault.Side.{Side}
use Rattle.text.specs.declared.fault.Side.TheVariants.{Order, Left, Right}
use Rattle.text.specs.declared.fault.Place.{Place}
use Rattle.text.specs.declared.fault.Refused.{Refused}
use Rattle.text.specs.declared.reading.TwoRead.{TwoRead}
use Rattle.text.specs.declared.row.Form.{Form}
use Rattle.text.specs.declared.row.Form.TheVariants.{Machine, Trace}
use Rattle.text.specs.Faults.{place}
use Rattle.text.specs.Readings.{Rows, labels_on, places_on, header_on, side_said, side_read, no_side, grid, steps_after, is_short, unless_refused, two_said, two_read, Said, SideMemory, side_memory, filled, ReadsTwo}
use Rattle.text.proofs.Grids.{length-marked}
use Rattle.report.specs.declared.places.Places.{Places}
use Rattle.text.specs.Statements.{machine_of, machine_on}
use Rattle.report.specs.Comparisons.{read_of}
use Rattle.report.specs.Sides.{first_states, AreSides}
use Rattle.text.proofs.SidesCounted.{Counted, two_counted}

length-grid : (n : ℕ) (places : List ℕ) → length (grid n places) ≡ n * n
length-grid n places = length-marked (replicate (n * n) 0) places ∙ length-replicate {A = ℕ} (n * n) 0

-- The front of memory that was written over.
take-over : {A : Type 0} (n : ℕ) (front memory : List A) → length front ≡ n → take n (over front memory) ≡ front
take-over n front memory e = take_at front (drop (length front) memory) n e

-- A side whose rows fill memory is the machine that they say.
side_says : (form : Form) (labels : List (FlagSet × Span)) (places : List ℕ) (mem : SideMemory (FlagSet × Span)) (ls : List (FlagSet × Span)) (ss : List ℕ) →
    ls ≡ over labels mem.labels → ss ≡ steps_after (side_read form (length labels)) places mem.steps →
    machine_of form (take (length labels) ls) (take (length labels * length labels) ss) ≡ machine_of form labels (grid (length labels) places)
side_says Machine labels places mem ls ss e f =
    let n = length labels in
    (λ i. machine_of Machine ((ap (take n) e ∙ take-over n labels mem.labels refl) i) ((ap (take (n * n)) f ∙ take-over (n * n) (grid n places) mem.steps (length-grid n places)) i))
side_says Trace labels places mem ls ss e f =
    ap (λ x. machine_of Trace x (take (length labels * length labels) ss)) (ap (take (length labels)) e ∙ take-over (length labels) labels mem.labels refl)

module _ (side : Side) (rs : Rows (FlagSet × Span)) (form : Form) (header : header_on side rs ≡ Some (side_read form (length (labels_on side rs)))) where
  pub side_is : side_said side rs ≡ side_read form (length (labels_on side rs))
  side_is = ap (λ h. unwrap_or h no_side) header

  pub side_filled : (mem : SideMemory (FlagSet × Span)) (p : Places) → side_memory p.labels.items p.steps.items ≡ filled side rs mem → first_states (side_said side rs).form (side_said side rs).count p ≡ machine_on side rs
  side_filled mem p full =
      ap (λ x. first_states x.form x.count p) side_is
      ∙ side_says form (labels_on side rs) (places_on side rs) mem p.labels.items p.steps.items (ap (λ m. m.labels) full) (ap (λ m. m.steps) full ∙ ap (λ x. steps_after x (places_on side rs) mem.steps) side_is)
      ∙ ap (λ x. machine_of x.form (labels_on side rs) (grid (length (labels_on side rs)) (places_on side rs))) (sym side_is)

are_sides : (said : Said) → Counted said.rows → (left right : SideMemory (FlagSet × Span)) (left_after right_after : Places) → side_memory left_after.labels.items left_after.steps.items ≡ filled Left said.rows left →
    side_memory right_after.labels.items right_after.steps.items ≡ filled Right said.rows right → AreSides said (two_read said) left_after right_after
are_sides said q left right left_after right_after left_full right_full =
    let rs = said.rows in
    let is_left = side_is Left rs q.form q.left in
    let is_right = side_is Right rs Machine q.right in
    record {
      order = refl;
      left_says = side_filled Left rs q.form q.left left left_after left_full;
      right_says = ap (λ x. first_states x.form (side_said Right rs).count right_after) (sym is_right) ∙ side_filled Right rs Machine q.right right right_after right_full;
      some = omega (arith, ap (λ x. x.count) is_right, q.some_right);
      few = omega (arith, ap (λ x. x.count) is_left, ap (λ x. x.count) is_right, q.few);
    }

not_refused : {A E : Type 0} (b : Bool) (e : E) (r : Result A E) (a : A) → cond b (Err e) r ≡ Ok a → r ≡ Ok a
not_refused true e r a h = absurd (cc)
not_refused false e r a h = h

-- A text that is not too long is read as it says.
pub said_of : (text : List ℕ) (said : Said) → read_of text ≡ Ok said → two_said text ≡ Ok said
said_of text said h = not_refused _ _ _ said h

module _ (text : List ℕ) (left right : SideMemory (FlagSet × Span)) (left_after right_after : Places) (left_long : is_short left ≡ false) (right_long : is_short right ≡ false) (r : Result TwoRead (Refused Place))
    (reads : ReadsTwo text left right r (side_memory left_after.labels.items left_after.steps.items) (side_memory right_after.labels.items right_after.steps.items)) where
  -- What is told of an answer.
  abbrev Told : Result TwoRead (Refused Place) → Type 0
  Told r = MatchResult r (λ two. (said : Said) × (read_of text ≡ Ok said) × AreSides said two left_after right_after) (λ e. read_of text ≡ Err e)

  abbrev Read : Result Said (Refused Place) → Type 0
  Read o =
      MatchResult o
      (λ said. (r ≡ Ok (two_read said)) × (side_memory left_after.labels.items left_after.steps.items ≡ filled Left said.rows left) × (side_memory right_after.labels.items right_after.steps.items ≡ filled Right said.rows right))
      (λ e. (r ≡ Err e) × (side_memory left_after.labels.items left_after.steps.items ≡ left) × (side_memory right_after.labels.items right_after.steps.items ≡ right))

  pub sides_read : Told r
  sides_read = by (read_of text) refl (subst Read (λ i. unless_refused text (place Order 1) (left_long i || right_long i) (two_said text)) reads)
    where
      by : (o : Result Said (Refused Place)) → read_of text ≡ o → Read o → Told r
      by (Ok said) e h = subst Told (sym h.0) (said, e, are_sides said (two_counted text said (said_of text said e)) left right left_after right_after h.1 h.2)
      by (Err x) e h = subst Told (sym h.0) e
