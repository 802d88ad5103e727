-- What a simulation carries from state to state. Assumes nothing.
use Rattle.std.proofs.Common.{ℕ, ◌<◌, Bool, T, Some, None, Option}
use Rattle.model.specs.Orders.{Preorder}
use Rattle.model.specs.Machines.{Meaning, states, label_of, Step}
use Rattle.until.specs.Walks.{Walk, stop, go}
use Rattle.until.specs.Formulas.{Formula, truth, at, and, until, meets, Holds}
use Rattle.until.proofs.Walks.{walk_map, walk_join}
use Rattle.strikes.specs.Simulations.{under, Simulation}

module _ {L : Type 0} {at_most : L → L → Bool} (laws : Preorder at_most) where
  pub under_self : (o : Option L) → T (under at_most o o)
  under_self None = tt
  under_self (Some a) = laws.reflexive a

  meets_under : (a : L) (b c : Option L) → T (meets at_most a b) → T (under at_most b c) → T (meets at_most a c)
  meets_under a None c h k = absurd h
  meets_under a (Some b) None h k = absurd k
  meets_under a (Some b) (Some c) h k = laws.transitive a b c h k

  module _ (m : Meaning L) {R : ℕ → ℕ → Type 0} (sim : Simulation at_most m R) where
    -- what is carried from state to state is carried from walk to walk
    walk_along : {P Q : ℕ → Type 0}
        (f : (s t : ℕ) → s < states m → t < states m → R s t → P s → P t)
        (g : (s t : ℕ) → s < states m → t < states m → R s t → Q s → Q t)
        (s : ℕ) (t : ℕ) → s < states m → t < states m → R s t → Walk (Step m) P Q s → Walk (Step m) P Q t
    walk_along f g s t hs ht r (stop q) = stop (g s t hs ht r q)
    walk_along f g s t hs ht r (go {u = u} p e w) =
        walk_join m (walk_map m (λ v hv rv. f s v hs hv rv p) (λ v hv rv. walk_along f g u v e.to_state hv rv w) ht ((sim s t hs ht r).1 u e))

    -- every formula is carried over
    pub holds_along : (F : Formula L) (s t : ℕ) → s < states m → t < states m → R s t → Holds at_most m F s → Holds at_most m F t
    holds_along truth s t hs ht r h = tt
    holds_along (at a) s t hs ht r h = meets_under a (label_of m s) (label_of m t) h (sim s t hs ht r).0
    holds_along (and F G) s t hs ht r h = (holds_along F s t hs ht r h.0, holds_along G s t hs ht r h.1)
    holds_along (until F G) s t hs ht r h = walk_along (holds_along F) (holds_along G) s t hs ht r h
