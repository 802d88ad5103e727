-- What stands, classes and records tell, where the memory is genuine. Assumes nothing.
use Rattle.std.proofs.Common.{◌≡◌, ℕ, ◌+◌, ◌<◌, Bool, true, false, T, ◌↔◌, List, [], ◌∷◌, ◌++◌, reverse, length, get_or, take, drop, Some, sym, ap, ◌∙◌, subst, ⊎_elim, arith}
use Rattle.std.specs.List.{slice_get}
use Rattle.std.proofs.lemmas.List.{reverse-append, take_more, take-take, take-append-drop, take-append-le, take_all}
use Rattle.std.proofs.lemmas.Option.{slice_get-get_or}
use Rattle.std.proofs.lemmas.Bool.{cases_lt, and_parts, and_from, both_ways, not-false}
use Rattle.model.specs.Orders.{Preorder}
use Rattle.model.specs.Machines.{Bounded}
use Rattle.model.proofs.Tests.{holds_true, true_holds}
use Rattle.until.specs.Walks.{visited}
use Rattle.until.specs.Rows.{row_of}
use Rattle.until.specs.Searches.{Marked, Written}
use Rattle.until.specs.Formulas.{Holds}
use Rattle.until.proofs.Walks.{walk_map, map_steps, map_visited}
use Rattle.strikes.specs.declared.strike.Strike.{Strike}
use Rattle.strikes.specs.Strikes.{Lawful}
use Rattle.strikes.specs.Told.{formula_of}
use Rattle.strikes.specs.Statements.{Entails, Same}
use Rattle.strikes.proofs.Entailment.{standing_is_entailment}
use Rattle.strikes.proofs.Telling.{strikes_tell}
use Rattle.strikes.proofs.Stability.{stable_simulation}
use Rattle.strikes.proofs.Largest.{simulation_stands}
use Rattle.sheet.specs.Memory.{Memory, stands, history}
use Rattle.sheet.specs.Verdicts.{Setting, size}
use Rattle.sheet.specs.Genuine.{Genuine}
use Rattle.sheet.specs.Tells.{IsStruck, Represents, Shown, Answering, Largest}
use Rattle.sheet.specs.Calls.{are_alike, class_of}
use Rattle.until.proofs.RowBytes.{row_is_marked}
use Rattle.sheet.proofs.Grounds.{First, least_first}

-- the strikes before one, that one, and those after it
pub history_split : (mem : Memory) (place : ℕ) (k : Strike) → place < mem.made → slice_get mem.records place ≡ Some k → place < length mem.records
    → history mem ≡ reverse (drop (place + 1) (take mem.made mem.records)) ++ (k ∷ reverse (take place mem.records))
history_split mem place k early there low =
    let rest : List Strike = drop (place + 1) (take mem.made mem.records) in
    let at = slice_get-get_or mem.records place k low in
    let is : get_or mem.records place k ≡ k = cc in
    let before : take (place + 1) (take mem.made mem.records) ≡ take place mem.records ++ (k ∷ []) =
    take-take (place + 1) mem.made mem.records (omega arith) ∙ take_more mem.records place k low ∙ ap (λ y. take place mem.records ++ (y ∷ [])) is in
    ap reverse (sym (take-append-drop (place + 1) (take mem.made mem.records)))
    ∙ reverse-append (take (place + 1) (take mem.made mem.records)) rest
    ∙ ap (λ ys. reverse rest ++ ys) (ap reverse before ∙ reverse-append (take place mem.records) (k ∷ []))

module _ {L : Type 0} (on : Setting L) (bounded : Bounded on.machine) (laws : Preorder on.at_most) (z : Bool) (mem : Memory) (genuine : Genuine on z mem) where
  -- a pair is struck exactly when its byte says so
  pub no_byte_struck : (s t : ℕ) → s < size on → t < size on → stands (size on) mem.pairs s t ≡ false → IsStruck mem s t
  no_byte_struck s t hs ht e = not-false _ (sym (genuine.agrees s t hs ht) ∙ e)

  pub strike_shown : (s t place : ℕ) (k : Strike) → place < mem.made → slice_get mem.records place ≡ Some k → place < length mem.records → k.first ≡ s → k.second ≡ t → Shown on mem s t k
  strike_shown s t place k early there low first second =
      let lawful = subst (Lawful on.at_most on.machine) (history_split mem place k early there low) genuine.lawful in
      let told = strikes_tell laws on.machine (reverse (drop (place + 1) (take mem.made mem.records))) k (reverse (take place mem.records)) lawful in
      record {
        place = place;
        early = early;
        there = there;
        first = first;
        second = second;
        holds = subst (λ v. Holds on.at_most on.machine (formula_of on.machine (reverse (take place mem.records)) k) v) first told.0;
        fails = λ h. told.1 (subst (λ v. Holds on.at_most on.machine (formula_of on.machine (reverse (take place mem.records)) k) v) (sym second) h);
      }

  module _ (settled : z ≡ true) where
    pub stands_entails : (s t : ℕ) → s < size on → t < size on → T (stands (size on) mem.pairs s t) ↔ Entails on.at_most on.machine s t
    stands_entails s t hs ht =
        let told = standing_is_entailment laws on.machine bounded (history mem) genuine.lawful (genuine.stable settled) s t hs ht in
        let same = genuine.agrees s t hs ht in
        (λ b. told.0 (subst T same b), λ all. subst T (sym same) (told.1 all))

    alike_same : (s u : ℕ) → s < size on → u < size on → are_alike (size on) mem.pairs s u ≡ true → Same on.at_most on.machine s u
    alike_same s u hs hu e F =
        let p = and_parts _ _ e in
        ((stands_entails s u hs hu).0 (true_holds _ p.0) F, (stands_entails u s hu hs).0 (true_holds _ p.1) F)

    same_alike : (s u : ℕ) → s < size on → u < size on → Same on.at_most on.machine s u → are_alike (size on) mem.pairs s u ≡ true
    same_alike s u hs hu same =
        and_from _ _ (holds_true _ ((stands_entails s u hs hu).1 (λ F. (same F).0))) (holds_true _ ((stands_entails u s hu hs).1 (λ F. (same F).1)))

    -- the class number is the least state with the same formulas
    pub class_represents : (s : ℕ) → s < size on → Represents on s (class_of (size on) mem.pairs s)
    class_represents s hs = record {
      state = omega (arith, first.most);
      alike =
          ⊎_elim
          (λ l. alike_same s c hs (omega (arith, first.most)) (first.has l))
          (λ l. let e : s ≡ c = omega (arith, first.most) in subst (Same on.at_most on.machine s) e (λ F. (λ x. x, λ x. x)))
          (cases_lt c s);
      least = λ u hu same.
          ⊎_elim
          (λ l. absurd (both_ways _ (first.before u l) (same_alike s u hs hu same)))
          (λ l. l)
          (cases_lt u c);
    }
      where
        p : ℕ → Bool
        p = are_alike (size on) mem.pairs s

        c : ℕ
        c = class_of (size on) mem.pairs s

        first : First p s c
        first = least_first p s

    pub stands_largest : Largest on mem.pairs
    stands_largest = record {
      simulation = λ s t hs ht b.
          let sim = stable_simulation on.at_most on.machine bounded (history mem) (genuine.stable settled) s t hs ht (subst T (genuine.agrees s t hs ht) b) in
          (sim.0, λ u step. walk_map on.machine (λ v hv. subst T (sym (genuine.agrees s v hs hv))) (λ v hv. subst T (sym (genuine.agrees u v step.to_state hv))) ht (sim.1 u step));
      contains = λ r sim s t hs ht h.
          subst T (sym (genuine.agrees s t hs ht)) (simulation_stands on.at_most on.machine (λ a b. T (r a b)) sim (history mem) genuine.lawful s t hs ht h);
    }

    -- a row of bytes says what entails
    module _ (s : ℕ) (hs : s < size on) (v : ℕ) (hv : v < size on) where
      row_entails : Marked (row_of (size on) mem.pairs s) v → Entails on.at_most on.machine s v
      row_entails x = (stands_entails s v hs hv).0 (subst T (row_is_marked (size on) mem.pairs s v hv) x)

      entails_row : Entails on.at_most on.machine s v → Marked (row_of (size on) mem.pairs s) v
      entails_row x = subst T (sym (row_is_marked (size on) mem.pairs s v hv)) ((stands_entails s v hs hv).1 x)

    pub written_answers : (s t u k : ℕ) (before after : List ℕ) → s < size on → u < size on →
        Written on.machine (row_of (size on) mem.pairs s) (row_of (size on) mem.pairs u) t before after k → Answering on s t u k after
    written_answers s t u k before after hs hu w =
        let there = walk_map on.machine (row_entails s hs) (row_entails u hu) w.from_state w.walk in
        let same_visits = map_visited on.machine (row_entails s hs) (row_entails u hu) w.from_state w.walk in
        record {
          walk = there;
          shortest = λ v.
              let back = walk_map on.machine (entails_row s hs) (entails_row u hu) w.from_state v in
              omega (
                arith,
                w.shortest back,
                map_steps on.machine (row_entails s hs) (row_entails u hu) w.from_state w.walk,
                map_steps on.machine (entails_row s hs) (entails_row u hu) w.from_state v,
              );
          counted = w.counted ∙ ap length (sym same_visits);
          written = ap (take k) w.memory ∙ take-append-le k (visited w.walk) (drop k before) (omega (arith, w.counted)) ∙ take_all k (visited w.walk) (omega (arith, w.counted)) ∙ sym same_visits;
        }
