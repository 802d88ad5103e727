-- The pages and the setting of a call, as its parts say them. Assumes nothing.
use Rattle.std.proofs.Common.{ℕ, List}
use Rattle.model.specs.declared.flags.FlagSet.{FlagSet}
use Rattle.model.specs.Orders.{flags_at_most}
use Rattle.model.specs.Machines.{Meaning, tabled}
use Rattle.sheet.specs.declared.sheet.Sheet.{Sheet}
use Rattle.sheet.specs.Verdicts.{Setting, setting}
use Rattle.sheet.specs.Pages.{Page, page}
use Rattle.host.specs.declared.table.FlagTable.{FlagTable}
use Rattle.host.specs.Bytes.{labels_in, records_in}

abbrev pub meaning_of : FlagTable → Meaning FlagSet
meaning_of table = tabled (labels_in table.labels.now) table.steps.now

abbrev pub flags_of : FlagTable → Setting FlagSet
flags_of table = setting flags_at_most (meaning_of table)

abbrev pub page_on : Sheet → List ℕ → List ℕ → Page
page_on sheet pairs strikes = page sheet pairs (records_in strikes)
