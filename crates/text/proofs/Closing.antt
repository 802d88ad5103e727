-- Which bytes go on to the last bracket of a form. Assumes nothing.
use Rattle.std.proofs.Common.{◌≡◌, ℕ, ◌<◌, true, List, [], ◌∷◌, ◌++◌, length, All, ℤ, codes, refl, ap, ◌∙◌, lt-ltb, append_assoc, arith}
use Rattle.std.specs.Fmt.{signed_decimal}
use Rattle.std.proofs.lemmas.Bool.{and_from, or_left}
use Rattle.std.proofs.lemmas.List.Elements.{All-head, All-tail}
use Rattle.text.specs.declared.form.Sort.{Sort}
use Rattle.text.specs.declared.form.Sort.TheVariants.{Close, Space, Letter, Figure, Foreign}
use Rattle.text.specs.Lines.{sort_of, is_word, may_precede, depth_after, closes}
use Rattle.text.specs.Numbers.{items}
use Rattle.text.proofs.WrittenNumbers.{Small}
use Rattle.text.proofs.WordBytes.{InWord, number_in_word, number_begins}

-- A byte of a word is a letter or a figure.
pub by_word : (P : Sort → Type 0) → P Letter → P Figure → (s : Sort) → is_word s ≡ true → P s
by_word P letter figure Letter is = letter
by_word P letter figure Figure is = figure
by_word P letter figure s is = cc

-- A word may begin after this byte.
abbrev pub BeforeWord : Sort → Type 0
BeforeWord before = may_precede before Letter ≡ true

before_word : (before next : Sort) → BeforeWord before → is_word next ≡ true → may_precede before next ≡ true
before_word Close next begins is = cc
before_word Foreign next begins is = cc
before_word before next begins is = or_left (is_word next) _ is

-- What is left closes after any byte of a word.
abbrev pub ClosesAfterWord : ℕ → List ℕ → Type 0
ClosesAfterWord depth rest = (last : Sort) → is_word last ≡ true → closes last depth rest ≡ true

module _ (depth : ℕ) (opened : 0 < depth) where
  byte_closes : (before : Sort) (b : ℕ) (rest : List ℕ) → BeforeWord before → InWord b → closes (sort_of b) depth rest ≡ true → closes before depth (b ∷ rest) ≡ true
  byte_closes before b rest begins is after =
      let stays = by_word (λ s. depth_after s depth ≡ depth) refl refl (sort_of b) is in
      and_from _ _ (lt-ltb 0 depth opened) (and_from _ _ (before_word before (sort_of b) begins is) (ap (λ d. closes (sort_of b) d rest) stays ∙ after))

  pub word_closes : (before : Sort) (word rest : List ℕ) → BeforeWord before → 0 < length word → All InWord word → ClosesAfterWord depth rest → closes before depth (word ++ rest) ≡ true
  word_closes before [] rest begins some all after = absurd (omega arith)
  word_closes before (b ∷ []) rest begins some all after = let is = All-head InWord b [] all in byte_closes before b rest begins is (after (sort_of b) is)
  word_closes before (b ∷ c ∷ cs) rest begins some all after =
      let is = All-head InWord b (c ∷ cs) all in
      let goes_on = by_word BeforeWord refl refl (sort_of b) is in
      byte_closes before b (c ∷ cs ++ rest) begins is (word_closes (sort_of b) (c ∷ cs) rest goes_on (omega arith) (All-tail InWord b (c ∷ cs) all) after)

-- Numbers, each after a space, and the last bracket.
pub items_close : (zs : List ℤ) → All Small zs → ClosesAfterWord 1 (items zs ++ codes ")")
items_close [] small = by_word (λ last. closes last 1 (codes ")") ≡ true) refl refl
items_close (z ∷ zs) small =
    let first = All-head Small z zs small in
    let others = items_close zs (All-tail Small z zs small) in
    let word = word_closes 1 (omega arith) Space (signed_decimal z) (items zs ++ codes ")") refl (number_begins z first) (number_in_word z first) others in
    let number = ap (closes Space 1) (append_assoc (signed_decimal z) (items zs) (codes ")")) ∙ word in
    by_word (λ last. closes last 1 (items (z ∷ zs) ++ codes ")") ≡ true) number number
