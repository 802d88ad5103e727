use Rattle.std.proofs.Common.{arith, ap, sym, ◌∙◌, ◌+◌}
use Rattle.std.proofs.lemmas.List.{set_past}
use Rattle.text.proofs.Laying.{lays_byte}
use Rattle.text.proofs.writing.Pen.put.Goals as goal
use Rattle.text.proofs.writing.Pen.put.Goals.{then-self, else-self}

pub loop-byte-preserved : goal.loop-byte-preserved
loop-byte-preserved c =
    lays_byte _ _ c.loop-byte-test.true c.loop-byte.invariant
    (elim c.if-self.branch [
      | then-self w ↦ record {
        same_memory = ap (λ p. p.memory.ghost_name) w.self-is;
        memory = ap (λ p. p.memory.now) w.self-is;
        length = ap (λ p. p.length + 1) w.self-is;
      }
      | else-self w ↦ record {
        same_memory = ap (λ p. p.memory.ghost_name) w.self-is;
        memory = ap (λ p. p.memory.now) w.self-is ∙ sym (set_past _ _ _ (omega arith));
        length = ap (λ p. p.length + 1) w.self-is;
      }
    ])
