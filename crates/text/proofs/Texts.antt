-- A text that is read is that of the machine that it says and of no other, and the text of a machine is read. Assumes nothing.
use Rattle.std.proofs.Common.{◌≡◌, ℕ, ◌<◌, ◌≤◌, [], List, length, Option, Ok, ℤ, refl, sym, ap, ◌∙◌, unwrap_or, arith}
use Rattle.model.specs.Machines.{state_bound}
use Rattle.text.specs.declared.fault.Side.TheVariants.{Right}
use Rattle.text.specs.declared.row.Form.TheVariants.{Machine}
use Rattle.text.specs.declared.row.Shape.TheVariants.{Alone}
use Rattle.text.specs.declared.row.Due.TheVariants.{Header as HeaderDue}
use Rattle.text.specs.Spelling.{Spelling}
use Rattle.text.specs.Readings.{Rows, labels_on, side_read, no_side, alone_said}
use Rattle.text.specs.Writings.{all_spelled}
use Rattle.text.specs.Statements.{machine_on, ReadIsWritten, WrittenIsRead, SameText}
use Rattle.text.proofs.SideRows.{right, rows_of_right}
use Rattle.text.proofs.Held.{rows_of, says_labels}
use Rattle.text.proofs.SidesRead.{alone_is_read}
use Rattle.text.proofs.SideTexts.{SideTold, told_as, side_told, same_side_text}
use Rattle.text.proofs.SidesWritten.{written_held, written_text, same_machine}
use Rattle.text.proofs.ReadsInOrder.{last_says}
use Rattle.text.proofs.WrittenParts.{wrote, is_written}
use Rattle.text.proofs.TextLength.{machine_length}

module _ {L : Type 0} (spelled : L → Option (List ℤ)) (understood : List ℤ → Option L) (laws : Spelling spelled understood) where
  -- What is told of a text alone, and which machine it says.
  pub record AloneTold (text : List ℕ) (rs : Rows L) : Type 0 where
    pub told : SideTold spelled Right Machine rs text
    pub some : 0 < length (labels_on Right rs)
    pub few : length (labels_on Right rs) ≤ state_bound

  pub alone_told : (text : List ℕ) (rs : Rows L) → alone_said understood text ≡ Ok rs → AloneTold text rs
  alone_told text rs h =
      let r = alone_is_read spelled understood laws Alone 1 text rs h in
      let labels = says_labels r.held Right rs r.on_right in
      record {
        told = told_as spelled Right rs r.machine (sym r.is) (side_told r.held Right rs r.on_right);
        some = rw labels r.held.some;
        few = rw labels r.held.few;
      }

  pub read_is_written : ReadIsWritten spelled understood
  read_is_written text rs h =
      let t = alone_told text rs h in
      let told = t.told in
      let labels = told.labels_so in
      record {
        counted = ap (λ o. unwrap_or o no_side) told.written.counted ∙ ap (λ ls. side_read Machine (length ls)) (sym labels);
        is = is_written spelled (machine_on Right rs) text (record {
          numbers = told.written.numbers;
          spelled_so = ap (all_spelled spelled) labels ∙ told.written.spelled_so;
          some = rw labels t.some;
          few = rw labels t.few;
          is = sym told.is;
        });
      }

  pub written_is_read : WrittenIsRead spelled understood
  written_is_read m bounded room text h =
      let w = wrote spelled m room text h in
      let held = written_held spelled Machine m w.some bounded.few w.numbers w.spelled_so in
      let rs = right (rows_of held) in
      record {
        rs = rs;
        said =
            ap (alone_said understood) (sym w.is ∙ written_text spelled Machine m w.some bounded.few w.numbers w.spelled_so)
            ∙ last_says understood Alone spelled laws held (HeaderDue Right 0) 1 Right refl (omega (arith, bounded.few)) refl refl refl (λ place k. refl);
        same = same_machine spelled Machine m w.some bounded.few w.numbers w.spelled_so Right rs (rows_of_right [] (rows_of held)) bounded;
        short = omega (arith, machine_length spelled understood laws m w.numbers bounded.few w.spelled_so, bounded.few, ap length w.is);
      }

  pub same_text : SameText understood
  same_text a b rs qs h k same = same_side_text Right rs qs refl refl (alone_told a rs h).told (alone_told b qs k).told same
