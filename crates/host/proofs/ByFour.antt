-- Bytes by four: as chunks, and with a record written. Assumes nothing.
use Rattle.std.proofs.Common.{◌≡◌, ℕ, true, zero, suc, ◌+◌, ◌*◌, ◌/◌, ◌<◌, ◌≤◌, List, [], ◌∷◌, ◌++◌, length, get_or, take, map, Some, None, set, refl, sym, ap, ◌∙◌, arith, rules}
use Rattle.std.specs.List.{slice_get}
use Rattle.std.specs.Option.{option_map}
use Rattle.std.proofs.lemmas.Option.{slice_get-map, slice_get-get_or, slice_get_past}
use Rattle.std.proofs.lemmas.List.{length-map, length-take-le}
use Rattle.std.specs.Simd.{first_chunks}
use borrow.Rule.Slice.PartMut.{put_mid}
use Rattle.strikes.specs.declared.strike.Ground.{Ground}
use Rattle.strikes.specs.declared.strike.Ground.TheVariants.{ByLabel, ByStep}
use Rattle.strikes.specs.declared.strike.Strike.{Strike}
use Rattle.model.specs.Machines.{state_bound}
use Rattle.host.specs.Bytes.{Table, fits, fours, label_in, labels_in, record_in, records_in, ground_bytes, record_bytes, with_record}

four_more : (n : ℕ) → suc (suc (suc (suc n))) / 4 ≡ suc (n / 4)
four_more n = omega arith

times_more : (n : ℕ) → 4 * suc n ≡ suc (suc (suc (suc (4 * n))))
times_more n = omega arith

pub length_fours : (bytes : List ℕ) → length (fours bytes) ≡ length bytes / 4
length_fours [] = omega arith
length_fours (a ∷ []) = omega arith
length_fours (a ∷ b ∷ []) = omega arith
length_fours (a ∷ b ∷ c ∷ []) = omega arith
length_fours (a ∷ b ∷ c ∷ d ∷ rest) = ap suc (length_fours rest) ∙ sym (four_more (length rest))

-- the whole chunks of four
pub chunks_fours : (bytes : List ℕ) → first_chunks 4 (length bytes / 4) bytes ≡ fours bytes
chunks_fours [] = refl
chunks_fours (a ∷ []) = refl
chunks_fours (a ∷ b ∷ []) = refl
chunks_fours (a ∷ b ∷ c ∷ []) = refl
chunks_fours (a ∷ b ∷ c ∷ d ∷ rest) = rw (four_more (length rest)) (ap (λ xs. (a ∷ b ∷ c ∷ d ∷ []) ∷ xs) (chunks_fours rest))

-- one of them by its place
module _ (bytes : List ℕ) (k : ℕ) (chunks : List (List ℕ)) (are : chunks ≡ first_chunks 4 (length bytes / 4) bytes) where
  same : chunks ≡ fours bytes
  same = are ∙ chunks_fours bytes

  pub chunk_there : (d : List ℕ) → k < length chunks → Some (get_or chunks k d) ≡ slice_get (fours bytes) k
  chunk_there d low = sym (slice_get-get_or chunks k d low) ∙ ap (λ xs. slice_get xs k) same

  pub chunk_past : length chunks ≤ k → None ≡ slice_get (fours bytes) k
  chunk_past past = sym (slice_get_past chunks k past) ∙ ap (λ xs. slice_get xs k) same

-- what is read of one of them
pub read_four : {A : Type 0} (f : List ℕ → A) (bytes : List ℕ) (k : ℕ) → slice_get (map f (fours bytes)) k ≡ option_map f (slice_get (fours bytes) k)
read_four f bytes k = slice_get-map f (fours bytes) k

pub length_labels : (bytes : List ℕ) → length (labels_in bytes) ≡ length bytes / 4
length_labels bytes = length-map (fours bytes) label_in ∙ length_fours bytes

pub length_records : (bytes : List ℕ) → length (records_in bytes) ≡ length bytes / 4
length_records bytes = length-map (fours bytes) record_in ∙ length_fours bytes

-- a record lies within its bytes
pub whole_record : (bytes : List ℕ) (k : ℕ) → k < length (records_in bytes) → 4 * k + 4 ≤ length bytes
whole_record bytes k low = omega (arith, length_records bytes)

pub labels_taken : (n : ℕ) (bytes : List ℕ) → 4 * n ≤ length bytes → length (labels_in (take (4 * n) bytes)) ≡ n
labels_taken n bytes h = omega (arith, length_labels (take (4 * n) bytes), length-take-le (4 * n) bytes h)

-- what is written is read
pub read_again : (s t : ℕ) (g : Ground) (rest : List ℕ) → records_in (s ∷ t ∷ ground_bytes g ++ rest) ≡ record { first = s; second = t; ground = g } ∷ records_in rest
read_again s t ByLabel rest = refl
read_again s t (ByStep u) rest = refl

pub read_with_record : (bytes : List ℕ) (i : ℕ) (k : Strike) → records_in (with_record bytes i k) ≡ set (records_in bytes) i k
read_with_record (a ∷ b ∷ c ∷ d ∷ rest) zero k = read_again k.first k.second k.ground rest
read_with_record (a ∷ b ∷ c ∷ d ∷ rest) (suc i) k = ap (λ ks. record_in (a ∷ b ∷ c ∷ d ∷ []) ∷ ks) (read_with_record rest i k)
read_with_record [] i k = refl
read_with_record (a ∷ []) i k = refl
read_with_record (a ∷ b ∷ []) i k = refl
read_with_record (a ∷ b ∷ c ∷ []) i k = refl

-- a record written into its four bytes
written_at : (bytes : List ℕ) (i : ℕ) (k : Strike) → i < length bytes / 4 → put_mid (4 * i) 4 bytes (record_bytes k) ≡ with_record bytes i k
written_at (a ∷ b ∷ c ∷ d ∷ rest) zero k h = by_ground k.ground
  where
    by_ground : (g : Ground) → put_mid 0 4 (a ∷ b ∷ c ∷ d ∷ rest) (k.first ∷ k.second ∷ ground_bytes g) ≡ k.first ∷ k.second ∷ ground_bytes g ++ rest
    by_ground ByLabel = refl
    by_ground (ByStep u) = refl
written_at (a ∷ b ∷ c ∷ d ∷ rest) (suc i) k h = rw (times_more i) (ap (λ xs. a ∷ b ∷ c ∷ d ∷ xs) (written_at rest i k (omega (arith, four_more (length rest)))))
written_at [] i k h = absurd (omega arith)
written_at (a ∷ []) i k h = absurd (omega arith)
written_at (a ∷ b ∷ []) i k h = absurd (omega arith)
written_at (a ∷ b ∷ c ∷ []) i k h = absurd (omega arith)

module _ (bytes : List ℕ) (i : ℕ) (k : Strike) where
  pub written : (n : ℕ) (four : List ℕ) → i < length (records_in bytes) → n ≡ 4 → four ≡ record_bytes k → put_mid (4 * i) n bytes four ≡ with_record bytes i k
  written n four low e f = rw (e, f) (written_at bytes i k (omega (arith, low, length_records bytes)))

  -- and where there is no such place
  pub unwritten : length (records_in bytes) ≤ i → with_record bytes i k ≡ bytes
  unwritten past = none bytes i (omega (arith, past, length_records bytes))
    where
      none : (bytes : List ℕ) (i : ℕ) → length bytes / 4 ≤ i → with_record bytes i k ≡ bytes
      none (a ∷ b ∷ c ∷ d ∷ rest) zero h = absurd (omega (arith, four_more (length rest)))
      none (a ∷ b ∷ c ∷ d ∷ rest) (suc i) h = ap (λ xs. a ∷ b ∷ c ∷ d ∷ xs) (none rest i (omega (arith, four_more (length rest))))
      none [] i h = refl
      none (a ∷ []) i h = refl
      none (a ∷ b ∷ []) i h = refl
      none (a ∷ b ∷ c ∷ []) i h = refl

-- a table that fits has a label and a row of steps for each state
pub fit_labels : (t : Table) → fits t ≡ true → (length (labels_in (take (4 * t.count) t.labels)) ≤ state_bound) × (length (take (t.count * t.count) t.steps) ≡ length (labels_in (take (4 * t.count) t.labels)) * length (labels_in (take (4 * t.count) t.labels)))
fit_labels t fit = search (rules, labels_taken, length-take-le)
