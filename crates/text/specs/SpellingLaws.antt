-- Labels are read as they are written: proofs that the traits' members name. Assumes nothing.
use Rattle.std.specs.Prelude.{◌≡◌, ◌^◌, Bool, true, false, cond, List, [], ◌∷◌, ◌++◌, Option, Some, None, option_map, ℤ, pos, negsuc, nat_lt}
use Rattle.std.proofs.Common.{rules}
use Rattle.model.specs.declared.flags.FlagSet.{FlagSet}
use Rattle.model.specs.declared.band.Span.{Span}
use Rattle.text.specs.Numbers.{both}
use Rattle.text.specs.Spelling.{Spelling, flags_spelled, flags_understood, band_spelled, band_understood, fits, both_spelled, both_understood}

flags_back : (zs : List ℤ) (f : FlagSet) → flags_understood zs ≡ Some f → flags_spelled f ≡ Some zs
flags_back [] f e = cc
flags_back (pos n ∷ []) f e = search rules
flags_back (negsuc n ∷ []) f e = cc
flags_back (y ∷ z ∷ zs) f e = cc

pub flags_spelling : Spelling flags_spelled flags_understood
flags_spelling = record {
  back = flags_back;
  forth = λ zs f e. search rules;
  few = λ zs f e. search rules;
  small = λ zs f e. search rules;
}

band_back : (zs : List ℤ) (s : Span) → band_understood zs ≡ Some s → band_spelled s ≡ Some zs
band_back [] s e = cc
band_back (z ∷ []) s e = cc
band_back (y ∷ z ∷ []) s e = search rules
band_back (x ∷ y ∷ z ∷ zs) s e = cc

pub band_spelling : Spelling band_spelled band_understood
band_spelling = record {
  back = band_back;
  forth = λ zs s e. search rules;
  few = λ zs s e. search rules;
  small = λ zs s e. search rules;
}

-- What is joined of two parts that may be missing has both.
joined_parts : (a b : Bool) (xs ys zs : List ℤ) → both ◌++◌ (cond a (Some xs) None) (cond b (Some ys) None) ≡ Some zs → (a ≡ true) × (b ≡ true) × (xs ++ ys ≡ zs)
joined_parts true true xs ys zs e = search rules
joined_parts true false xs ys zs e = cc
joined_parts false b xs ys zs e = cc

both_parts : (zs : List ℤ) (l : FlagSet × Span) → both_spelled l ≡ Some zs → (nat_lt l.0.bits (2 ^ 32) ≡ true) × (fits l.1 ≡ true) × (pos l.0.bits ∷ l.1.low ∷ l.1.high ∷ [] ≡ zs)
both_parts zs l e = joined_parts _ _ _ _ zs e

both_back : (zs : List ℤ) (l : FlagSet × Span) → both_understood zs ≡ Some l → both_spelled l ≡ Some zs
both_back [] l e = cc
both_back (z ∷ zs) l e = search (rules, flags_back (z ∷ []) l.0, band_back zs l.1)

pub both_spelling : Spelling both_spelled both_understood
both_spelling = record {
  back = both_back;
  forth = λ zs l e. search (rules, both_parts zs l e);
  few = λ zs l e. search (rules, both_parts zs l e);
  small = λ zs l e. search (rules, both_parts zs l e);
}

-- Labels of which one part is written, and what is left out is known.
pub part_spelling : {K L : Type 0} {spelled : K → Option (List ℤ)} {understood : List ℤ → Option K} (part : L → K) (known : L → Bool) (whole : K → L) → ((k : K) → part (whole k) ≡ k) → ((k : K) → known (whole k) ≡ true) → ((l : L) → known l ≡ true → whole (part l) ≡ l) → Spelling spelled understood → Spelling (λ l. cond (known l) (spelled (part l)) None) (λ zs. option_map whole (understood zs))
part_spelling part known whole same_part is_known same_whole p = record {
  back = λ zs l e. search rules;
  forth = λ zs l e. search rules;
  few = λ zs l e. search rules;
  small = λ zs l e. search rules;
}
