use Rattle.std.proofs.Common.{take, sym, ◌∙◌, rules, tests}
use Rattle.std.proofs.lemmas.Iterator.Search.{find_from_yields_List}
use Rattle.std.proofs.lemmas.Iterator.Adapters.{option_map_id}
use Rattle.strikes.specs.Strikes.{names}
use Rattle.sheet.proofs.Reading.{YieldsList-from_reads}
use Rattle.sheet.proofs.Records.{find_naming}
use Rattle.sheet.proofs.lookup.first_naming.Goals as goal

pub returns : goal.returns
returns g c =
    let records = g.S.StrikeRecords.records c.args.strikes.now in
    sym (option_map_id c.find.result)
    ∙ find_from_yields_List (λ k. names k c.args.s c.args.t) _ _ c.find.result c.find.ensures.ran
    (YieldsList-from_reads _ records c.args.made c.map_while.ensures.source c.map_while.ensures.closure (λ k r q e. search (rules, tests))) (λ x b q k. search (rules, tests))
    ∙ find_naming (take c.args.made records) c.args.s c.args.t
