-- What the areas hold after a call that strikes. Assumes nothing.
use Rattle.std.proofs.Common.{◌≡◌, ℕ, suc, ◌+◌, ◌<◌, ◌≤◌, List, [], ◌∷◌, length, get_or, take, drop, set, refl, sym, ap, ap₂, ◌∙◌, arith}
use Rattle.std.proofs.lemmas.List.{length-set, drop_more, get_or-set_same, get_or-set_other, length-take-le, get_or-take, drop_all}
use Rattle.strikes.specs.declared.strike.Strike.{Strike}
use Rattle.host.specs.Bytes.{records_in, with_record, with_records}
use Rattle.host.specs.Recorded.{Recorded}
use Rattle.host.proofs.ByFour.{read_with_record}

-- records written in turn, as a list
abbrev placed : List Strike → ℕ → List Strike → List Strike
placed xs i [] = xs
placed xs i (k ∷ ks) = placed (set xs i k) (i + 1) ks

read_with_records : (bytes : List ℕ) (i : ℕ) (ks : List Strike) → records_in (with_records bytes i ks) ≡ placed (records_in bytes) i ks
read_with_records bytes i [] = refl
read_with_records bytes i (k ∷ ks) = read_with_records (with_record bytes i k) (i + 1) ks ∙ ap (λ xs. placed xs (i + 1) ks) (read_with_record bytes i k)

length_placed : (xs : List Strike) (i : ℕ) (ks : List Strike) → length (placed xs i ks) ≡ length xs
length_placed xs i [] = refl
length_placed xs i (k ∷ ks) = length_placed (set xs i k) (i + 1) ks ∙ length-set xs i k

-- what stands before them stays
before_placed : (xs : List Strike) (j : ℕ) (ks : List Strike) (i : ℕ) (d : Strike) → i < j → get_or (placed xs j ks) i d ≡ get_or xs i d
before_placed xs j [] i d l = refl
before_placed xs j (k ∷ ks) i d l = before_placed (set xs j k) (j + 1) ks i d (omega arith) ∙ get_or-set_other xs j i k d (λ e. omega arith)

placed_there : (xs : List Strike) (i : ℕ) (ks : List Strike) → i + length ks ≤ length xs → drop i (take (i + length ks) (placed xs i ks)) ≡ ks
placed_there xs i [] h = let e : i + 0 ≡ i = omega arith in drop_all i (take (i + 0) xs) (omega (arith, length-take-le (i + 0) xs h))
placed_there xs i (k ∷ ks) h =
    let e : i + suc (length ks) ≡ i + 1 + length ks = omega arith in
    let ys = placed (set xs i k) (i + 1) ks in
    let long : length ys ≡ length xs = length_placed (set xs i k) (i + 1) ks ∙ length-set xs i k in
    let front = take (i + suc (length ks)) ys in
    let size : length front ≡ i + suc (length ks) = length-take-le (i + suc (length ks)) ys (omega (arith, long, h)) in
    let at : get_or front i k ≡ k = get_or-take (i + suc (length ks)) ys i k (omega arith) ∙ before_placed (set xs i k) (i + 1) ks i k (omega arith) ∙ get_or-set_same xs i k k (omega (arith, h)) in
    let rest : drop (i + 1) front ≡ ks = ap (λ n. drop (i + 1) (take n ys)) e ∙ placed_there (set xs i k) (i + 1) ks (omega (arith, length-set xs i k, h)) in
    drop_more front i k (omega (arith, size)) ∙ ap₂ (λ x xs. x ∷ xs) at rest

-- the strikes that were written are those between the numbers of strikes
pub recorded_since : {N : Type 0} (name later : N) (bytes after : List ℕ) (i j : ℕ) → Recorded i j (name, bytes) (later, after) → j ≤ length (records_in after) → after ≡ with_records bytes i (drop i (take j (records_in after)))
recorded_since name later bytes after i j r room =
    let read : records_in after ≡ placed (records_in bytes) i r.strikes = ap records_in r.written ∙ read_with_records bytes i r.strikes in
    let long : length (records_in after) ≡ length (records_in bytes) = ap (λ (xs : List Strike). length xs) read ∙ length_placed (records_in bytes) i r.strikes in
    let since : drop i (take j (records_in after)) ≡ r.strikes = ap (λ n. drop i (take n (records_in after))) (sym r.many) ∙ ap (λ xs. drop i (take (i + length r.strikes) xs)) read ∙ placed_there (records_in bytes) i r.strikes (omega (arith, r.many, room, long)) in
    r.written ∙ ap (with_records bytes i) (sym since)
