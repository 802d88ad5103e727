-- The bytes say what the strikes say, before a strike and after. Assumes nothing.
use Rattle.std.proofs.Common.{ℕ, ◌+◌, ◌*◌, ◌<◌, ◌≤◌, Bool, T, List, ◌∷◌, length, set, sym, subst, arith}
use Rattle.std.proofs.lemmas.Nat.{mul-add-lt, same_from_place}
use Rattle.std.proofs.lemmas.Grind.{common_steps}
use Rattle.std.proofs.lemmas.Bool.Decides.{nat_tests}
use Rattle.model.specs.Machines.{Meaning, states}
use Rattle.until.proofs.Walks.{walk_map}
use Rattle.strikes.specs.declared.strike.Ground.{Ground}
use Rattle.strikes.specs.declared.strike.Ground.TheVariants.{ByLabel, ByStep}
use Rattle.strikes.specs.declared.strike.Strike.{Strike}
use Rattle.strikes.specs.Strikes.{Standing, Grounded}
use Rattle.sheet.specs.Memory.{stands}
use Rattle.sheet.specs.Verdicts.{strike}
use Rattle.sheet.specs.Genuine.{Agrees}

module _ (n : ℕ) (pairs : List ℕ) (ks : List Strike) (agrees : Agrees n pairs ks) (room : n * n ≤ length pairs) (a b : ℕ) (ha : a < n) (hb : b < n) (g : Ground) where
  pub agrees_strike : Agrees n (set pairs (a * n + b) 0) (strike a b g ∷ ks)
  agrees_strike s t hs ht =
      let before = agrees s t hs ht in
      let place = mul-add-lt a n b n ha hb in
      let same = same_from_place a b s t n hb ht in
      grind (arith, common_steps, nat_tests)

-- A ground among the bytes is a ground after the strikes, and the other way round.
module _ {L : Type 0} (at_most : L → L → Bool) (m : Meaning L) (pairs : List ℕ) (ks : List Strike) (agrees : Agrees (states m) pairs ks) (s t : ℕ) (hs : s < states m) (ht : t < states m) where
  pub bytes_to_strikes : (g : Ground) → Grounded at_most m (λ a b. T (stands (states m) pairs a b)) s t g → Grounded at_most m (Standing ks) s t g
  bytes_to_strikes ByLabel bad = bad
  bytes_to_strikes (ByStep u) e =
      (e.0, λ w. e.1 (walk_map m (λ v hv. subst T (sym (agrees s v hs hv))) (λ v hv. subst T (sym (agrees u v e.0.to_state hv))) ht w))

  pub strikes_to_bytes : (g : Ground) → Grounded at_most m (Standing ks) s t g → Grounded at_most m (λ a b. T (stands (states m) pairs a b)) s t g
  strikes_to_bytes ByLabel bad = bad
  strikes_to_bytes (ByStep u) e =
      (e.0, λ w. e.1 (walk_map m (λ v hv. subst T (agrees s v hs hv)) (λ v hv. subst T (agrees u v e.0.to_state hv)) ht w))
