-- What stands after a lawful and stable list is entailment. Assumes nothing.
use Rattle.std.proofs.Common.{Bool}
use Rattle.model.specs.Orders.{Preorder}
use Rattle.strikes.specs.Statements.{StandingIsEntailment, AlikeIsSame}
use Rattle.strikes.proofs.Along.{holds_along}
use Rattle.strikes.proofs.Telling.{known, known_holds, known_stands}
use Rattle.strikes.proofs.Stability.{stable_simulation}

module _ {L : Type 0} {at_most : L → L → Bool} (laws : Preorder at_most) where
  pub standing_is_entailment : StandingIsEntailment at_most
  standing_is_entailment m bounded ks law stable s t hs ht = (
    λ r F h. holds_along laws m (stable_simulation at_most m bounded ks stable) F s t hs ht r h,
    λ all. known_stands at_most m ks law s t ht (all (known at_most m ks s) (known_holds at_most m laws ks law s)),
  )

  pub alike_is_same : AlikeIsSame at_most
  alike_is_same m bounded ks law stable s t hs ht =
      let there = standing_is_entailment m bounded ks law stable s t hs ht in
      let back = standing_is_entailment m bounded ks law stable t s ht hs in
      (λ r F. (there.0 r.0 F, back.0 r.1 F), λ same. (there.1 (λ F. (same F).0), back.1 (λ F. (same F).1)))
