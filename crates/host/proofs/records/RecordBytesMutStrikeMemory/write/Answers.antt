use Rattle.std.proofs.Common.{[], ◌∷◌, refl, sym, ap, ◌∙◌, rules, arith}
use Rattle.host.specs.Bytes.{records_in}
use Rattle.host.proofs.ByFour.{whole_record, written, unwritten, read_with_record}
use Rattle.host.proofs.records.RecordBytesMutStrikeMemory.write.Goals as goal

pub overflow_mul-at : goal.overflow_mul-at
overflow_mul-at c = omega (arith, c.told-self, whole_record c.args.self.now.bytes.now c.args.k (omega arith))

pub overflow_add-at : goal.overflow_add-at
overflow_add-at c = omega (arith, c.told-self, whole_record c.args.self.now.bytes.now c.args.k (omega arith))

pub slice_bounds-copy_from_slice-end : goal.slice_bounds-copy_from_slice-end
slice_bounds-copy_from_slice-end c = let end = whole_record c.args.self.now.bytes.now c.args.k (omega arith) in search (rules, end)

pub returns-then-k-room-clause-filled : goal.returns-then-k-room-clause-filled
returns-then-k-room-clause-filled c = record {
  named = refl;
  strikes = c.args.strike ∷ [];
  many = refl;
  written = sym (unwritten c.args.self.now.bytes.now c.args.k c.args.strike (omega arith));
}

pub returns-clause-written : goal.returns-clause-written
returns-clause-written c =
    let now = written c.args.self.now.bytes.now c.args.k c.args.strike _ c.copy_from_slice.new.self (omega arith) (omega arith) (c.copy_from_slice.ensures.after ∙ c.record_bytes.ensures) in
    ap records_in now ∙ read_with_record c.args.self.now.bytes.now c.args.k c.args.strike

pub returns-clause-filled : goal.returns-clause-filled
returns-clause-filled c = record {
  named = refl;
  strikes = c.args.strike ∷ [];
  many = refl;
  written = written c.args.self.now.bytes.now c.args.k c.args.strike _ c.copy_from_slice.new.self (omega arith) (omega arith) (c.copy_from_slice.ensures.after ∙ c.record_bytes.ensures);
}
