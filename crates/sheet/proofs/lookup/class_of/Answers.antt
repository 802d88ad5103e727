use Rattle.std.proofs.Common.{◌≡◌, true, false, rules, tests}
use Rattle.std.proofs.lemmas.Iterator.{first_from_Range}
use Rattle.sheet.specs.Calls.{are_alike}
use Rattle.sheet.proofs.Least.{least_from_find}
use Rattle.sheet.proofs.lookup.class_of.Goals as goal

pub returns : goal.returns
returns c =
    let p = are_alike c.args.rows.width c.args.rows.bytes.now c.args.s in
    let found = least_from_find p c.args.s c.find.result
    (first_from_Range _ _ _ _ (λ u. p u ≡ true) (λ u. p u ≡ false) c.find.ensures.ran (λ u q k. search (rules, tests)) (λ u q k. search (rules, tests))) in
    search (rules, tests, found, c.unwrap_or.ensures)
