-- Settling a sheet that was begun on fresh memory. Assumes nothing.
use Rattle.std.proofs.Common.{◌≡◌, ℕ, ◌*◌, ◌≤◌, false, true, List, ◌++◌, length, replicate, Ok, ap, ◌∙◌}
use Rattle.std.proofs.lemmas.List.{append-nil, drop_all}
use Rattle.model.proofs.Checks.{answered_at}
use Rattle.strikes.specs.declared.strike.Strike.{Strike}
use Rattle.sheet.specs.declared.sheet.Sheet.{Sheet}
use Rattle.sheet.specs.declared.request.Request.TheVariants.{Settle}
use Rattle.sheet.specs.Verdicts.{Setting, size, settled}
use Rattle.sheet.specs.Pages.{Page, page, sheet_of, held, holding, begin_cause, settle_cause, Came}
use Rattle.sheet.specs.Calls.{Begins, Settles}
use Rattle.sheet.specs.Replies.{Replied}
use Rattle.sheet.specs.Promises.{Promise}
use Rattle.report.specs.Settled.{begun, IsSettled}

module _ {L : Type 0} (on : Setting L) where
  -- A page where every pair stands, with no room to spare.
  fresh : (pairs pairs_begun : List ℕ) (records : List Strike) (sheet : Sheet) → length pairs ≤ size on * size on → Begins (size on) pairs records (Ok sheet) pairs_begun →
      page sheet pairs_begun records ≡ page (sheet_of (size on) 0 false) (replicate (size on * size on) 1) records
  fresh pairs pairs_begun records sheet few b =
      let q = (answered_at (begin_cause (size on) pairs records) sheet b).0 in
      let filled = q.1 ∙ ap (λ xs. replicate (size on * size on) 1 ++ xs) (drop_all (size on * size on) pairs few) ∙ append-nil _ in
      (λ i. page (q.0 i) (filled i) records)

  pub settles : (pairs pairs_begun : List ℕ) (records : List Strike) (sheet : Sheet) → length pairs ≤ size on * size on → records ≡ (begun (size on)).records → Begins (size on) pairs records (Ok sheet) pairs_begun →
      Came on (page sheet pairs_begun records) → (a : ℕ × ℕ) (reply : Replied) (after : Page) → Settles on (page sheet pairs_begun records) (Ok a) after → Promise on (page sheet pairs_begun records) Settle reply after → IsSettled on after
  settles pairs pairs_begun records sheet few blanks b came a reply after s promise =
      let before = page sheet pairs_begun records in
      let start = fresh pairs pairs_begun records sheet few b ∙ ap (page (sheet_of (size on) 0 false) (replicate (size on * size on) 1)) blanks in
      let q = (answered_at (settle_cause (size on) before) a s).0 in
      record { came = (promise came).onward.came; is = q.2 ∙ ap (λ p. holding p true (settled on (held p)).0) start }
