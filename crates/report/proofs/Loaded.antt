-- A lent list that is loaded is written as it is; and what `fill` leaves of a lent list is what was read. A list over fifteen is refused
-- without its findings, and a report has at most fifteen. Assumes nothing.
use Prim.Native.Nat.{ℕ}
use mathlib.Core.Path.{◌≡◌, ap, ◌∙◌}
use mathlib.Core.List.{List}
use borrow.Author.Tests.{ltb-false}
use lib.Dec.{ltb}
use lib.ListN.{length, take}
use Rattle.reading.specs.Lent.{laid}
use Rattle.reading.specs.Refusal.{Answer}
use Rattle.reading.proofs.Picked.{by-test}
use Rattle.findings.specs.declared.Finding.{Finding}
use Rattle.findings.specs.declared.Findings.{Findings}
use Rattle.findings.specs.Lent.{places_of, loaded_of}
use Rattle.findings.proofs.Laws.{load-held, list_held}
use Rattle.rules.proofs.Filled.{filled-by}
use Rattle.report.specs.Write.{write_of, found_of, written_over}
use Rattle.report.specs.Read.{content_of, contained, reading_of, read_after}
use Rattle.report.proofs.Fits.{found-held}
use Rattle.report.proofs.Trip.{few_held}

-- ---- writing
module _ (flags : ℕ) (ys : List Finding) (room : ℕ) where
  pub load-answer : found_of flags (loaded_of ys) room ≡ write_of flags ys room
  unfolding found_of write_of
  load-answer = by-test (ltb 15 (length ys))
      (λ e. rw e)
      (λ e. let h = ltb-false 15 (length ys) e in ap (λ (f : Findings). found_of flags f room) (load-held ys h) ∙ found-held flags ys room h)

  pub load_after : (out : List ℕ) → written_over (found_of flags (loaded_of ys) room) flags (take (loaded_of ys).count (loaded_of ys).items) out ≡ written_over (write_of flags ys room) flags ys out
  unfolding write_of written_over
  load_after out =
      ap (λ (v : Answer ℕ). written_over v flags (take (loaded_of ys).count (loaded_of ys).items) out) load-answer
      ∙ by-test (ltb 15 (length ys))
      (λ e. rw e)
      (λ e. let h = ltb-false 15 (length ys) e in ap (λ (l : List Finding). written_over (write_of flags ys room) flags l out) (ap (λ (f : Findings). take f.count f.items) (load-held ys h) ∙ list_held ys))

-- ---- reading
pub read-filled : (s : List ℕ) {f : Findings} {r : ℕ} {zs : List Finding} (list : List Finding) → f ≡ (reading_of s).findings
    → (r ≡ places_of (length list) 15 f.count) × (zs ≡ laid (take r f.items) list) → zs ≡ read_after s list
unfolding read_after
read-filled s list e p = let h = few_held s in filled-by (contained (content_of s)) list 15 e h h p
