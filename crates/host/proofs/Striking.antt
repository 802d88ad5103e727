-- A call of a host that may strike, which makes the call of the sheet. Assumes nothing.
use Rattle.std.proofs.Common.{◌≡◌, ℕ, ◌^◌, ◌<◌, ◌≤◌, true, false, ltb, List, length, take, drop, set, Ok, Result, sym, ap, ap₂, subst, ◌∙◌}
use Rattle.std.proofs.lemmas.Bool.{ltb-false, or_parts}
use Rattle.model.specs.declared.refusal.Refusal.{Refusal}
use Rattle.model.specs.declared.flags.FlagSet.{FlagSet}
use Rattle.model.specs.Machines.{Meaning}
use Rattle.sheet.specs.declared.sheet.Sheet.{Sheet}
use Rattle.sheet.specs.Pages.{Page, page, sheet_of}
use Rattle.host.specs.Bytes.{machine_in, records_in, with_records, sheet_in, with_made, Table, short_table, areas, page_in}
use Rattle.host.specs.Recorded.{Recorded}
use Rattle.host.specs.Said.{lacks}
use Rattle.host.specs.Calls.{Makes}
use Rattle.host.proofs.Pages.{page_on}
use Rattle.host.proofs.Leaving.{recorded_since}
use Rattle.host.proofs.SheetBytes.{made_read, settled_read}

-- where no area is too short, that of the sheet is long enough
pub long_enough : (t : Table) (sheet area : List ℕ) (size : ℕ) → lacks t sheet area size ≡ false → 4 ≤ length sheet
long_enough t sheet area size enough = ltb-false _ _ (or_parts (ltb (length sheet) 4) _ (or_parts (short_table t) _ enough).1).0

-- the sheet that is read after a call
module _ (sheet after : List ℕ) (now later : Sheet) (is_now : now ≡ sheet_in sheet) (long : 4 ≤ length sheet) (few : later.strikes < 2 ^ 16) where
  pub made_later : later ≡ sheet_of now.count later.strikes now.settled → after ≡ with_made later.strikes sheet → sheet_in after ≡ later
  made_later kept written =
      ap sheet_in written ∙ made_read sheet later.strikes long few ∙ ap (λ (x : Sheet). sheet_of x.count later.strikes x.settled) (sym is_now) ∙ sym kept

  pub settled_later : later ≡ sheet_of now.count later.strikes true → after ≡ set (with_made later.strikes sheet) 1 1 → sheet_in after ≡ later
  settled_later kept written =
      ap sheet_in written ∙ settled_read sheet later.strikes long few ∙ ap (λ (x : Sheet). sheet_of x.count later.strikes true) (sym is_now) ∙ sym kept

-- what the areas then hold
module _ (sheet_after pairs_after strikes_after written : List ℕ) (later : Sheet) (read : sheet_in sheet_after ≡ later) (back : strikes_after ≡ written) where
  page_left : page later pairs_after (records_in written) ≡ page_in (areas sheet_after pairs_after strikes_after)
  page_left = ap₂ (λ x bytes. page x pairs_after (records_in bytes)) (sym read) (sym back)

  module _ {N : Type 0} (name name_after : N) (sheet strikes : List ℕ) (now : Sheet) (is_now : now ≡ sheet_in sheet)
      (filled : Recorded now.strikes later.strikes (name, strikes) (name_after, written)) (room : later.strikes ≤ length (records_in written)) where
    strikes_left : strikes_after ≡ with_records strikes (sheet_in sheet).strikes (drop (sheet_in sheet).strikes (take (sheet_in sheet_after).strikes (records_in strikes_after)))
    strikes_left =
        subst (λ (x : Sheet). strikes_after ≡ with_records strikes x.strikes (drop x.strikes (take (sheet_in sheet_after).strikes (records_in strikes_after)))) is_now
        (subst (λ (x : Sheet). strikes_after ≡ with_records strikes now.strikes (drop now.strikes (take x.strikes (records_in strikes_after)))) (sym read)
        (subst (λ bytes. bytes ≡ with_records strikes now.strikes (drop now.strikes (take later.strikes (records_in bytes)))) (sym back)
        (recorded_since name name_after strikes written now.strikes later.strikes filled room)))

    areas_left : (f : ℕ → List ℕ → List ℕ) → sheet_after ≡ f later.strikes sheet →
        areas sheet_after pairs_after strikes_after ≡ areas (f (sheet_in sheet_after).strikes sheet) pairs_after (with_records strikes (sheet_in sheet).strikes (drop (sheet_in sheet).strikes (take (sheet_in sheet_after).strikes (records_in strikes_after))))
    areas_left f is = ap₂ (λ x y. areas x pairs_after y) (is ∙ ap (λ (x : Sheet). f x.strikes sheet) (sym read)) strikes_left

-- what is said of the machine, the pages and the answer of a call, where the bytes say them
carried_pages : {A : Type 0} (P : Meaning FlagSet → Page → Result A Refusal → Page → Type 0) {m n : Meaning FlagSet} {p before : Page} {r q : Result A Refusal} {after later : Page} →
    m ≡ n → p ≡ before → r ≡ q → after ≡ later → P m p r after → P n before q later
carried_pages P {m} {n} {p} {before} {r} {q} {after} {later} d e f g x =
    subst (P n before q) g (subst (λ y. P n before y after) f (subst (λ y. P n y r after) e (subst (λ y. P y p r after) d x)))

-- a call that struck, and what the areas then hold
module _ {A : Type 0} (P Q : Meaning FlagSet → Page → Result A Refusal → Page → Type 0) (f : ℕ → List ℕ → List ℕ) where
  pub struck : {N : Type 0} (t : Table) (m : Meaning FlagSet) (sheet pairs strikes sheet_after pairs_after strikes_after written : List ℕ) (now later : Sheet) (r : Result A Refusal) (v : A) (name name_after : N) →
      m ≡ machine_in t → now ≡ sheet_in sheet → r ≡ Ok v → sheet_in sheet_after ≡ later → sheet_after ≡ f later.strikes sheet → strikes_after ≡ written →
      Recorded now.strikes later.strikes (name, strikes) (name_after, written) → later.strikes ≤ length (records_in written) →
      P m (page_on now pairs strikes) r (page_on later pairs_after written) → Q m (page_on now pairs strikes) r (page_on later pairs_after written) →
      Makes (P (machine_in t) (page_in (areas sheet pairs strikes)) (Ok v) (page_in (areas sheet_after pairs_after strikes_after))) (Q (machine_in t) (page_in (areas sheet pairs strikes)) (Ok v) (page_in (areas sheet_after pairs_after strikes_after)))
      (areas sheet_after pairs_after strikes_after ≡ areas (f (sheet_in sheet_after).strikes sheet) pairs_after (with_records strikes (sheet_in sheet).strikes (drop (sheet_in sheet).strikes (take (sheet_in sheet_after).strikes (records_in strikes_after)))))
  struck t m sheet pairs strikes sheet_after pairs_after strikes_after written now later r v name name_after machine is_now is read marked back filled room answer promise =
      let before = ap (λ x. page_on x pairs strikes) is_now in
      let after = page_left sheet_after pairs_after strikes_after written later read back in
      record {
        answer = carried_pages P machine before is after answer;
        promise = carried_pages Q machine before is after promise;
        leaves = areas_left sheet_after pairs_after strikes_after written later read back name name_after sheet strikes now is_now filled room f marked;
      }
