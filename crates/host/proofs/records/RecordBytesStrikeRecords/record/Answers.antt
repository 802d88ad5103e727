use Rattle.std.proofs.Common.{rules}
use Rattle.host.proofs.ByFour.{read_four}
use Rattle.host.proofs.records.RecordBytesStrikeRecords.record.Goals as goal

pub returns : goal.returns
returns c = search (rules, read_four)
