use Rattle.host.proofs.ByFour.{chunk_there, chunk_past}
use Rattle.host.proofs.fours.four_at.Goals as goal

pub returns-then-k-fours : goal.returns-then-k-fours
returns-then-k-fours c = chunk_past c.args.bytes.now c.args.k c.as_chunks.result.0.now c.as_chunks.ensures.front c.if-k-fours.true

pub returns : goal.returns
returns c = chunk_there c.args.bytes.now c.args.k c.as_chunks.result.0.now c.as_chunks.ensures.front _ c.if-k-fours.false
