-- What linting finds can always be reported: at most fifteen findings, all of the table's, with flags of two bits. So want of room is the
-- only refusal. Assumes nothing.
use Rattle.std.specs.Prelude.{Ok, Err}
use Prim.Native.Nat.{ℕ, ◌+◌, ◌≤◌}
use mathlib.Core.Path.{◌≡◌, ◌∙◌}
use mathlib.Core.List.{List}
use native.Mathlib.Omega.{arith}
use borrow.Author.Tests.{le-ltb}
use lib.ListN.{length, take}
use Rattle.reading.specs.Bytes.{AllBytes}
use Rattle.reading.specs.Refusal.{Answer}
use Rattle.findings.specs.declared.Finding.{Finding}
use Rattle.findings.specs.Hold.{holding}
use Rattle.findings.proofs.Laws.{list_held}
use Rattle.decoders.specs.Identity.{identity_of}
use Rattle.decoders.specs.Timing.{timings_of}
use Rattle.rules.specs.declared.Edition.{Edition}
use Rattle.rules.specs.Lint.{findings_of}
use Rattle.rules.proofs.Inside.{inside}
use Rattle.rules.proofs.Never.{at-most-fifteen}
use Rattle.report.specs.Form.{rest_of}
use Rattle.report.specs.Read.{content_of}
use Rattle.report.specs.Write.{fitted, write_of, found_of, written_over, flags_for, lint_report_of, lint_report_after}
use Rattle.report.proofs.Trip.{Reportable, written-reads}

-- a list by value is written as it is
pub found-held : (flags : ℕ) (l : List Finding) (room : ℕ) → length l ≤ 15 → found_of flags (holding l) room ≡ write_of flags l room
unfolding found_of holding
found-held flags l room h = rw (le-ltb 15 (length l) h, list_held l)

pub fits : (flags : ℕ) (l : List Finding) (room : ℕ) → Reportable flags l → write_of flags l room ≡ fitted (length l) room
unfolding write_of
fits flags l room ok = rw (le-ltb 15 (length l) ok.few, le-ltb 3 flags ok.flagged, ok.listed)

pub flags-few : {A B : Type 0} (a : Answer A) (b : Answer B) → flags_for a b ≤ 3
flags-few (Ok a) (Ok b) = omega arith
flags-few (Ok a) (Err t) = omega arith
flags-few (Err t) (Ok b) = omega arith
flags-few (Err t) (Err u) = omega arith

module _ (e : Edition) (s : List ℕ) (bytes : AllBytes s) where
  pub lint-fits : (flags room : ℕ) → flags ≤ 3 → found_of flags (holding (findings_of e s)) room ≡ fitted (length (findings_of e s)) room
  lint-fits flags room h =
      found-held flags (findings_of e s) room (at-most-fifteen e s)
      ∙ fits flags (findings_of e s) room (record { flagged = h; few = at-most-fifteen e s; listed = inside e s bytes })

  -- `lint_report` skips the checks of `write_findings`: it answers, and leaves the buffer, as that call does on the same findings
  pub lint-answer : (room : ℕ) → found_of (flags_for (identity_of s) (timings_of s)) (holding (findings_of e s)) room ≡ lint_report_of e s room
  unfolding lint_report_of
  lint-answer room = lint-fits (flags_for (identity_of s) (timings_of s)) room (flags-few (identity_of s) (timings_of s))

  pub lint-after : (out : List ℕ)
      → written_over (found_of (flags_for (identity_of s) (timings_of s)) (holding (findings_of e s)) (length out)) (flags_for (identity_of s) (timings_of s)) (take (holding (findings_of e s)).count (holding (findings_of e s)).items) out ≡ lint_report_after e s out
  unfolding lint_report_after
  lint-after out = rw (lint-answer (length out), list_held (findings_of e s))

  -- in a buffer with room, what `lint_report` leaves reads back: the flags and findings of the image
  pub lint-reads : (out : List ℕ) → rest_of (length (findings_of e s)) + 2 ≤ length out
      → content_of (lint_report_after e s out) ≡ Ok (record { flags = flags_for (identity_of s) (timings_of s); findings = findings_of e s })
  unfolding lint_report_after lint_report_of
  lint-reads out h =
      let flags = flags_for (identity_of s) (timings_of s) in
      let l = findings_of e s in
      let ok : Reportable flags l = record { flagged = flags-few (identity_of s) (timings_of s); few = at-most-fifteen e s; listed = inside e s bytes } in
      let room : fitted (length l) (length out) ≡ Ok (rest_of (length l) + 2) = rw (le-ltb (length out) (rest_of (length l) + 2) h) in
      rw (← fits flags l (length out) ok) (written-reads flags l (length out) out (fits flags l (length out) ok ∙ room))
