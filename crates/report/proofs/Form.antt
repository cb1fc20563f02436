-- A report is five bytes, and fourteen for each finding: the largest, of fifteen findings, has 215. Assumes nothing.
use Rattle.std.specs.Prelude.{Ok}
use Prim.Native.Nat.{ℕ, ◌+◌, ◌*◌, ◌≤◌}
use mathlib.Core.Path.{◌≡◌, refl}
use mathlib.Core.List.{List, [], ◌∷◌}
use native.Mathlib.Omega.{arith}
use lib.ListN.{length, length-append, replicate}
use Rattle.findings.specs.declared.Finding.{Finding}
use Rattle.rules.specs.Table.{non_standard_data_rate, row_of, in_table}
use Rattle.report.specs.Form.{finding_size, head_size, finding_bytes, body_of, report_of}
use Rattle.report.specs.Write.{write_of}

pub length-body : (l : List Finding) → length (body_of l) ≡ finding_size * length l
length-body [] = refl
length-body (f ∷ l) = omega (arith, length-body l, length-append (finding_bytes f) (body_of l))

pub length-report : (flags : ℕ) (l : List Finding) → length (report_of flags l) ≡ head_size + finding_size * length l
length-report flags l = omega (arith, length-body l)

pub largest : (flags : ℕ) (l : List Finding) → length l ≤ 15 → length (report_of flags l) ≤ 215
largest flags l h = omega (arith, length-report flags l)

-- and a list that can be written reaches it
abbrev pub fifteen : List Finding
fifteen = replicate 15 (non_standard_data_rate 4000)

pub reached : (length (report_of 3 fifteen) ≡ 215) × (write_of 3 fifteen 215 ≡ Ok 215)
unfolding write_of in_table row_of
reached = (refl, refl)
