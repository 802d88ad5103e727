-- Tables, traces and pairs of machines are bounded. Assumes nothing.
use Rattle.std.specs.Prelude.{ℕ, ◌+◌, ◌-◌, ◌<◌, ◌≤◌, Bool, ◌&&◌, T, List, length, nat_le}
use Rattle.std.proofs.Common.{rules, length-append}
use Rattle.std.proofs.lemmas.Bool.{leb-true, cond_both}
use Rattle.model.specs.Machines.{Meaning, Bounded, states, state_bound, no_states, are_states, tabled, traced, joined, beside_meaning}

module _ {L : Type 0} where
  nothing_bounded : Bounded {L = L} no_states
  nothing_bounded = record { few = search rules; inside = λ s t h. absurd h }

  -- Steps that are tested to lead from state to state do.
  tested_bounded : (ls : List L) (more : ℕ → ℕ → Bool) → length ls ≤ state_bound →
      Bounded (record { labels = ls; step = λ s t. are_states (length ls) s t && more s t })
  tested_bounded ls more few = record { few = few; inside = λ s t h. search rules }

  pub tabled_bounded : (ls : List L) (bytes : List ℕ) → length ls ≤ state_bound → Bounded (tabled ls bytes)
  tabled_bounded ls bytes few = tested_bounded ls _ few

  pub traced_bounded : (ls : List L) → length ls ≤ state_bound → Bounded (traced ls)
  traced_bounded ls few = tested_bounded ls _ few

  joined_inside : (m n : Meaning L) → Bounded m → Bounded n → (s t : ℕ) → T ((joined m n).step s t) →
      (s < states m + states n) × (t < states m + states n)
  joined_inside m n p q s t h = search (rules, p.inside s t, q.inside (s - states m) (t - states m))

  joined_bounded : (m n : Meaning L) → Bounded m → Bounded n → states m + states n ≤ state_bound → Bounded (joined m n)
  joined_bounded m n p q few = record {
    few = search (rules, length-append);
    inside = λ s t h. search (rules, length-append, joined_inside m n p q s t h);
  }

  pub beside_bounded : {m n : Meaning L} → Bounded m → Bounded n → Bounded (beside_meaning m n)
  beside_bounded {m} {n} p q =
      cond_both (nat_le (states m + states n) state_bound) (joined m n) no_states (λ x. Bounded x) (λ e. joined_bounded m n p q (leb-true _ _ e)) (λ _. nothing_bounded)
