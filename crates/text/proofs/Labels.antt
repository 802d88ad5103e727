-- Lines of labels laid one after the other. Assumes nothing.
use Rattle.std.proofs.Common.{◌≡◌, ℕ, ◌+◌, ◌≤◌, List, [], ◌∷◌, ◌++◌, length, take, Option, Some, None, ℤ, refl, append-nil, append_assoc, length-take-le, subst, ap, sym, ◌∙◌, arith}
use Rattle.std.specs.List.{slice_get}
use Rattle.std.proofs.lemmas.List.{take_more}
use Rattle.std.proofs.lemmas.Option.{slice_get_within, get_or_from_slice_get}
use Rattle.text.specs.declared.writing.Pen.{Pen}
use Rattle.text.specs.Spelling.{Spelling}
use Rattle.text.specs.Writings.{label_line, all_spelled, label_lines}
use Rattle.text.specs.Laying.{Lays, LaysIfSpelled}
use Rattle.text.proofs.Laying.{lays_then}
use Rattle.text.proofs.Lengths.{labels_length}
use Rattle.text.proofs.AllSpelled.{spelled_each, spelled_push}

label_lines_push : (k : ℕ) (numbers : List (List ℤ)) (zs : List ℤ) → label_lines k (numbers ++ (zs ∷ [])) ≡ label_lines k numbers ++ label_line (k + length numbers) zs
label_lines_push k [] zs = append-nil _ ∙ ap (λ s. label_line s zs) (omega arith)
label_lines_push k (ys ∷ numbers) zs =
    ap (λ l. label_line k ys ++ l) (label_lines_push (k + 1) numbers zs ∙ ap (λ s. label_lines (k + 1) numbers ++ label_line s zs) (omega arith))
    ∙ sym (append_assoc (label_line k ys) _ _)

module _ {L : Type 0} (spelled : L → Option (List ℤ)) where
  -- The labels can be written, and their lines were laid.
  pub record Labelled (ls : List L) (p q : Pen) : Type 0 where
    pub numbers : List (List ℤ)
    pub all : all_spelled spelled ls ≡ Some numbers
    pub laid : Lays p (label_lines 0 numbers) q

  -- So they are, where laying them was not given up.
  pub labelled_all : {p q : Pen} (ls : List L) (u : Unit {0}) → LaysIfSpelled (all_spelled spelled ls) (label_lines 0) p (Some u) q → Labelled ls p q
  labelled_all {p} {q} ls u h = by (all_spelled spelled ls) refl h
    where
      by : (o : Option (List (List ℤ))) → all_spelled spelled ls ≡ o → LaysIfSpelled o (label_lines 0) p (Some u) q → Labelled ls p q
      by None e h = absurd (cc)
      by (Some numbers) e h = record { numbers = numbers; all = e; laid = h.1 }

  take_label : (ls : List L) (s : ℕ) (l : L) → slice_get ls s ≡ Some l → take (s + 1) ls ≡ take s ls ++ (l ∷ [])
  take_label ls s l is = take_more ls s l (slice_get_within ls s l is) ∙ ap (λ x. take s ls ++ (x ∷ [])) (get_or_from_slice_get ls s l l is)

  -- What was looked up and found is the label.
  pub label_found : (ls : List L) (s : ℕ) (o : Option L) (l : L) → o ≡ slice_get ls s → o ≡ Some l → slice_get ls s ≡ Some l
  label_found ls s o l looked found = sym looked ∙ found

  -- The line of one more.
  pub labelled_more : {p q r : Pen} (ls : List L) (s : ℕ) (l : L) (zs : List ℤ) → Labelled (take s ls) p q → slice_get ls s ≡ Some l → Some zs ≡ spelled l → Lays q (label_line s zs) r → Labelled (take (s + 1) ls) p r
  labelled_more {p} {q} {r} ls s l zs done at h more =
      let within = slice_get_within ls s l at in
      let count : length done.numbers ≡ s = spelled_each spelled (take s ls) done.numbers done.all ∙ length-take-le s ls (omega arith) in
      let lines : label_lines 0 (done.numbers ++ (zs ∷ [])) ≡ label_lines 0 done.numbers ++ label_line s zs =
      label_lines_push 0 done.numbers zs ∙ ap (λ k. label_lines 0 done.numbers ++ label_line k zs) (omega arith) in
      subst (λ x. Labelled x p r) (sym (take_label ls s l at))
      (record {
        numbers = done.numbers ++ (zs ∷ []);
        all = spelled_push spelled (take s ls) l done.numbers zs done.all h;
        laid = subst (λ x. Lays p x r) (sym lines) (lays_then done.laid more);
      })

  -- They are not long.
  pub labelled_length : (understood : List ℤ → Option L) → Spelling spelled understood → {p q : Pen} (ls : List L) → length ls ≤ 64 → Labelled ls p q → q.length ≤ p.length + 3712
  labelled_length understood laws ls few done =
      omega (arith, done.laid.length, labels_length spelled understood laws 0 ls done.numbers (omega arith) done.all)
