-- What reading a text answers, once its rows are known and stored. Assumes nothing.
use Rattle.std.proofs.Common.{◌≡◌, ℕ, ◌≤◌, Bool, true, false, cond, List, length, Option, Some, None, Result, Ok, Err, ℤ, refl, sym, ap, ◌∙◌, subst, ltb, is_ok, unwrap_or}
use Rattle.std.specs.Result.{MatchResult, IfOk}
use Rattle.std.proofs.lemmas.Bool.{or_parts, ltb-false}
use Rattle.text.specs.declared.fault.Fault.TheVariants.{TooLong, ShortMemory}
use Rattle.text.specs.declared.fault.Side.TheVariants.{Left, Right}
use Rattle.text.specs.declared.fault.Place.{Place}
use Rattle.text.specs.declared.fault.Refused.{Refused}
use Rattle.text.specs.declared.reading.SideRead.{SideRead}
use Rattle.text.specs.declared.row.Shape.TheVariants.{Alone}
use Rattle.text.specs.Spelling.{Spelling}
use Rattle.text.specs.Faults.{refused}
use Rattle.text.specs.Rows.{label_places}
use Rattle.text.specs.Readings.{header_on, side_said, alone_said, unless_refused, text_bound, by_line, no_side, SideMemory, is_short, filled, ReadsAlone}
use Rattle.text.specs.Filling.{stored}
use Rattle.text.proofs.SidesRead.{alone_is_read}
use Rattle.text.proofs.Stored.{rows_said}

pub good_is : {A E F : Type 0} (Q : E → Type 0) (h : Result A E) (m : Result A F) (y : A) → is_ok m ≡ is_ok h → MatchResult h (λ x. m ≡ Ok x) Q → m ≡ Ok y → h ≡ Ok y
good_is Q (Ok x) m y v t e = cc
good_is Q (Err e') m y v t e = absurd (cc (ap is_ok e, v))

abbrev tested : {A P : Type 0} → P → Bool → Bool → Result A (Refused P) → Result A (Refused P)
tested first long short r = cond long (Err (refused TooLong (Some first))) (cond short (Err (refused ShortMemory None)) r)

tests_passed : {A P : Type 0} (first : P) (long short : Bool) → tested {A = Unit {0}} first long short (Ok tt) ≡ Ok tt → (r : Result A (Refused P)) → (short ≡ false) × (tested first long short r ≡ r)
tests_passed first true short h r = absurd (cc)
tests_passed first false true h r = absurd (cc)
tests_passed first false false h r = (refl, refl)

-- A text that passes the first tests is read.
pub read_if_passed : {A P : Type 0} (text : List ℕ) (first : P) (short : Bool) → unless_refused {A = Unit {0}} text first short (Ok tt) ≡ Ok tt → (r : Result A (Refused P)) → (short ≡ false) × (unless_refused text first short r ≡ r)
read_if_passed text first short h r = tests_passed first (ltb text_bound (length text)) short h r

module _ {A E B : Type 0} (f : A → B) (h : Result B E) where
  pub said_good : (said : Result A E) → MatchResult said (λ rs. h ≡ Ok (f rs)) (λ e. h ≡ Err e) → (b : B) → h ≡ Ok b → (rs : A) × (said ≡ Ok rs) × (b ≡ f rs)
  said_good (Ok rs) t b good = (rs, refl, cc)
  said_good (Err e) t b good = absurd (cc)

  pub said_bad : (said : Result A E) → MatchResult said (λ rs. h ≡ Ok (f rs)) (λ e. h ≡ Err e) → (e : E) → h ≡ Err e → said ≡ Err e
  said_bad (Ok rs) t e bad = absurd (cc)
  said_bad (Err e') t e bad = cc

-- There is room for labels where memory is not short.
pub room : {L : Type 0} (memory : SideMemory L) → is_short memory ≡ false → label_places ≤ length memory.labels
room memory h = ltb-false (length memory.labels) label_places (or_parts _ _ h).0

pub good_match : {A E : Type 0} (P : A → Type 0) (Q : E → Type 0) (x : Result A E) (a : A) → x ≡ Ok a → P a → MatchResult x P Q
good_match P Q x a is p = subst (λ y. MatchResult y P Q) (sym is) p

pub bad_match : {A E : Type 0} (P : A → Type 0) (Q : E → Type 0) (x : Result A E) (e : E) → x ≡ Err e → Q e → MatchResult x P Q
bad_match P Q x e is q = subst (λ y. MatchResult y P Q) (sym is) q

-- A machine alone whose rows are read and stored.
pub reads_alone : {L : Type 0} (spelled : L → Option (List ℤ)) (understood : List ℤ → Option L) → Spelling spelled understood → (text : List ℕ) (memory after : SideMemory L) (h : Result (Option SideRead × Option SideRead) (Refused Place)) (a b : Option SideRead) →
    MatchResult (alone_said understood text) (λ rs. h ≡ Ok (header_on Left rs, header_on Right rs)) (λ e. h ≡ Err e) → h ≡ Ok (a, b) → unless_refused {A = Unit {0}} {P = ℕ} text 1 (is_short memory) (Ok tt) ≡ Ok tt →
    IfOk (alone_said understood text) (λ rs. after ≡ stored Right rs memory) → (side : SideRead) → side ≡ unwrap_or b no_side → ReadsAlone understood text memory (Ok side.count) after
reads_alone {L} spelled understood laws text memory after h a b tells good passed keeps side is =
    let s = said_good (λ rs. (header_on Left rs, header_on Right rs)) h (alone_said understood text) tells (a, b) good in
    let rs = s.0 in
    let p = read_if_passed {P = ℕ} text 1 (is_short memory) passed (by_line (alone_said understood text)) in
    let kept : after ≡ stored Right rs memory = subst (λ x. IfOk x (λ rs. after ≡ stored Right rs memory)) s.1 keeps in
    let read = alone_is_read spelled understood laws Alone 1 text rs s.1 in
    let answer : Result ℕ (Refused ℕ) = Ok side.count in
    good_match (λ rs. (answer ≡ Ok (side_said Right rs).count) × (after ≡ filled Right rs memory)) (λ e. (answer ≡ Err e) × (after ≡ memory))
    (unless_refused text 1 (is_short memory) (by_line (alone_said understood text))) rs (p.1 ∙ ap by_line s.1)
    (ap (λ x. Ok x.count) (is ∙ ap (λ x. unwrap_or x no_side) (ap (λ x. x.1) s.2)), kept ∙ rows_said read.held Right rs read.on_right memory (room memory p.0))
