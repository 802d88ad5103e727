-- Genuine memory stays genuine from try to try, and a settled one stays as it is. Assumes nothing.
use Rattle.std.proofs.Common.{◌≡◌, ℕ, zero, suc, ◌+◌, ◌*◌, ◌<◌, ◌≤◌, Bool, true, T, eqb, List, [], ◌∷◌, reverse, length, take, set, Some, sym, refl, ap, ◌∙◌, subst, arith}
use Rattle.std.proofs.lemmas.List.{reverse-append, take_more_set, take-set, take-take}
use Rattle.std.proofs.lemmas.Bool.{and_from, or_left, eq-eqb, not-false}
use Rattle.model.specs.Machines.{Bounded}
use Rattle.model.proofs.Tests.{true_holds}
use Rattle.strikes.specs.declared.strike.Ground.{Ground}
use Rattle.strikes.specs.declared.strike.Strike.{Strike}
use Rattle.strikes.specs.Strikes.{Standing, Grounded, Fair, Lawful, names, struck}
use Rattle.sheet.specs.declared.verdict.Verdict.TheVariants.{Struck}
use Rattle.sheet.specs.Memory.{Memory, memory, stands, history}
use Rattle.sheet.specs.Verdicts.{Setting, size, strike, applied, ground_of, verdict_of, tried, swept, passed}
use Rattle.sheet.specs.Genuine.{Agrees, Genuine, Grown}
use Rattle.sheet.specs.Tells.{SaysStruck}
use Rattle.sheet.proofs.Grounds.{ground_there}
use Rattle.sheet.proofs.Readiness.{strike_room, ready_strike, by_verdict}
use Rattle.sheet.proofs.Agreement.{agrees_strike, bytes_to_strikes}

history_more : (mem : Memory) (k : Strike) (pairs : List ℕ) → mem.made < length mem.records → history (memory pairs (set mem.records mem.made k) (mem.made + 1)) ≡ k ∷ history mem
history_more mem k pairs h = ap reverse (take_more_set mem.records mem.made k h) ∙ reverse-append (take mem.made mem.records) (k ∷ [])

pub grown_self : (mem : Memory) → Grown mem mem
grown_self mem = record { more = omega arith; kept = refl }

pub grown_then : (a b c : Memory) → Grown a b → Grown b c → Grown a c
grown_then a b c x y = record {
  more = omega (arith, x.more, y.more);
  kept =
      sym (take-take a.made b.made c.records x.more)
      ∙ ap (take a.made) y.kept
      ∙ take-take a.made b.made b.records x.more
      ∙ x.kept;
}

module _ {L : Type 0} (on : Setting L) (bounded : Bounded on.machine) (z : Bool) (mem : Memory) (genuine : Genuine on z mem) where
  module _ (s t : ℕ) (hs : s < size on) (ht : t < size on) (stood : stands (size on) mem.pairs s t ≡ true) where
    standing : Standing (history mem) s t
    standing = subst T (genuine.agrees s t hs ht) (true_holds _ stood)

    history_strike : (g : Ground) → history (applied (size on) mem (Struck (strike s t g))) ≡ strike s t g ∷ history mem
    history_strike g = history_more mem (strike s t g) (set mem.pairs (s * size on + t) 0) (omega (arith, strike_room (size on) mem genuine.ready s t hs ht stood, genuine.ready.records_fit))

    grounded_strike : (g : Ground) → ground_of on mem.pairs s t ≡ Some g → Grounded on.at_most on.machine (Standing (history mem)) s t g
    grounded_strike g e = bytes_to_strikes on.at_most on.machine mem.pairs (history mem) genuine.agrees s t hs ht g (ground_there on bounded mem.pairs s t g e)

    -- a settled sheet has no ground left
    no_ground_left : z ≡ true → (g : Ground) → ground_of on mem.pairs s t ≡ Some g → ⊥
    no_ground_left settled g e = genuine.stable settled s t hs ht standing g (grounded_strike g e)

    genuine_strike : (g : Ground) → ground_of on mem.pairs s t ≡ Some g → Genuine on z (applied (size on) mem (Struck (strike s t g)))
    genuine_strike g e =
        let grown = history_strike g in
        let fair : Fair on.at_most on.machine (Standing (history mem)) (strike s t g) = record { first_state = hs; second_state = ht; stands = standing; grounded = grounded_strike g e } in
        record {
          ready = ready_strike (size on) mem genuine.ready s t hs ht stood (strike s t g);
          lawful = subst (Lawful on.at_most on.machine) (sym grown) (fair, genuine.lawful);
          agrees = subst (Agrees (size on) (set mem.pairs (s * size on + t) 0)) (sym grown) (agrees_strike (size on) mem.pairs (history mem) genuine.agrees genuine.ready.pairs_fit s t hs ht g);
          stable = λ settled. absurd (no_ground_left settled g e);
        }

    struck_strike : (g : Ground) → struck (history (applied (size on) mem (Struck (strike s t g)))) s t ≡ true
    struck_strike g = subst (λ ks. struck ks s t ≡ true) (sym (history_strike g)) (or_left (names (strike s t g) s t) (struck (history mem) s t) (and_from (eqb s s) (eqb t t) (eq-eqb s s refl) (eq-eqb t t refl)))

  -- a pair that a try says is struck is so after it
  pub struck_tried : (s t : ℕ) → s < size on → t < size on → SaysStruck (verdict_of on mem.pairs s t) → struck (history (tried on mem s t)) s t ≡ true
  struck_tried s t hs ht =
      by_verdict on mem.pairs s t (λ v. SaysStruck v → struck (history (applied (size on) mem v)) s t ≡ true)
      (λ gone _. not-false _ (sym (genuine.agrees s t hs ht) ∙ gone)) (λ _ _ says. absurd says) (λ g stood _ _. struck_strike s t hs ht stood g)

  pub genuine_tried : (s t : ℕ) → s < size on → t < size on → Genuine on z (tried on mem s t)
  genuine_tried s t hs ht = by_verdict on mem.pairs s t (λ v. Genuine on z (applied (size on) mem v)) (λ _. genuine) (λ _ _. genuine) (λ g stood e. genuine_strike s t hs ht stood g e)

  pub rests_tried : z ≡ true → (s t : ℕ) → s < size on → t < size on → tried on mem s t ≡ mem
  rests_tried settled s t hs ht = by_verdict on mem.pairs s t (λ v. applied (size on) mem v ≡ mem) (λ _. refl) (λ _ _. refl) (λ g stood e. absurd (no_ground_left s t hs ht stood settled g e))

module _ {L : Type 0} (on : Setting L) where
  pub grown_tried : (mem : Memory) (s t : ℕ) → Grown mem (tried on mem s t)
  grown_tried mem s t =
      by_verdict on mem.pairs s t (λ v. Grown mem (applied (size on) mem v)) (λ _. grown_self mem) (λ _ _. grown_self mem)
      (λ g _ _. record { more = omega arith; kept = take-set mem.records mem.made (strike s t g) })

  pub grown_swept : (mem : Memory) (s t : ℕ) → Grown mem (swept on mem s t)
  grown_swept mem s zero = grown_self mem
  grown_swept mem s (suc t) = grown_then mem (swept on mem s t) (swept on mem s (suc t)) (grown_swept mem s t) (grown_tried (swept on mem s t) s t)

  pub grown_passed : (mem : Memory) (s : ℕ) → Grown mem (passed on mem s)
  grown_passed mem zero = grown_self mem
  grown_passed mem (suc s) = grown_then mem (passed on mem s) (passed on mem (suc s)) (grown_passed mem s) (grown_swept (passed on mem s) s (size on))

  module _ (bounded : Bounded on.machine) (z : Bool) where
    pub genuine_swept : (mem : Memory) → Genuine on z mem → (s : ℕ) → s < size on → (t : ℕ) → t ≤ size on → Genuine on z (swept on mem s t)
    genuine_swept mem g s hs zero h = g
    genuine_swept mem g s hs (suc t) h = genuine_tried on bounded z (swept on mem s t) (genuine_swept mem g s hs t (omega arith)) s t hs (omega arith)

    pub genuine_passed : (mem : Memory) → Genuine on z mem → (s : ℕ) → s ≤ size on → Genuine on z (passed on mem s)
    genuine_passed mem g zero h = g
    genuine_passed mem g (suc s) h = genuine_swept (passed on mem s) (genuine_passed mem g s (omega arith)) s (omega arith) (size on) (omega arith)

    module _ (settled : z ≡ true) (mem : Memory) (g : Genuine on z mem) where
      pub rests_swept : (s : ℕ) → s < size on → (t : ℕ) → t ≤ size on → swept on mem s t ≡ mem
      rests_swept s hs zero h = refl
      rests_swept s hs (suc t) h = ap (λ x. tried on x s t) (rests_swept s hs t (omega arith)) ∙ rests_tried on bounded z mem g settled s t hs (omega arith)

      pub rests_passed : (s : ℕ) → s ≤ size on → passed on mem s ≡ mem
      rests_passed zero h = refl
      rests_passed (suc s) h = ap (λ x. swept on x s (size on)) (rests_passed s (omega arith)) ∙ rests_swept s (omega arith) (size on) (omega arith)
