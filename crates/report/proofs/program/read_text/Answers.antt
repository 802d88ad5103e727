use Rattle.std.proofs.Common.{◌≡◌, [], ◌++◌, ◌∙◌, ℕ, List, Option, Some, None, option_map, take, vec_items, IfSome, OnOk, ap, subst}
use Rattle.report.proofs.program.read_text.Goals as goal

-- Nothing, and then the first bytes of what remains.
front : (o : Option (List ℕ)) (n : ℕ) (before after : List ℕ) → before ≡ [] → IfSome (option_map (take n) o) (λ xs. after ≡ before ++ xs) → IfSome o (λ bytes. after ≡ take n bytes)
front None n before after none h = tt
front (Some bytes) n before after none h = h ∙ ap (λ b. b ++ take n bytes) none

pub returns : goal.returns
returns g c =
    let before = vec_items c.new-text.result in
    let after = vec_items c.read_to_end.new.buf in
    let read : IfSome (option_map (take c.take.result.limit) (g.R.Read.remaining c.take.result.inner)) (λ xs. after ≡ before ++ xs) =
    subst (λ r. OnOk r (IfSome (option_map (take c.take.result.limit) (g.R.Read.remaining c.take.result.inner)) (λ xs. after ≡ before ++ xs))) c.in_ok-read_to_end.was c.read_to_end.ensures.bytes in
    let from = subst (λ k. IfSome (option_map (take k) (g.R.Read.remaining c.take.result.inner)) (λ xs. after ≡ before ++ xs)) c.take.ensures.limit read in
    front (g.R.Read.remaining c.args.reader) 60001 before after c.new-text.ensures.items
    (subst (λ reader. IfSome (option_map (take 60001) (g.R.Read.remaining reader)) (λ xs. after ≡ before ++ xs)) c.take.ensures.inner from)
