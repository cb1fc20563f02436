-- How large a call's count may be. Assumes nothing.
use Rattle.std.proofs.Common.{◌≡◌, ℕ, ◌+◌, ◌≤◌, List, Bool, true, false, Ok, Err, length, take, ltb, arith}
use Rattle.std.proofs.lemmas.List.{take_all}
use Rattle.reading.specs.Pick.{pick}
use Rattle.reading.specs.Refusal.{Answer}
use Rattle.reading.specs.declared.Refusal.TheVariants.{BufferTooSmall}
use Rattle.decoders.specs.Cas.{cas_list}
use Rattle.decoders.specs.declared.timing.CasLatencies.{CasLatencies}
use Rattle.decoders.proofs.Listing.{few}
use Rattle.manufacturing.specs.Part.{part_of}
use Rattle.manufacturing.proofs.Trim.{part-few}
use Rattle.rules.specs.declared.Edition.{Edition}
use Rattle.rules.specs.Lint.{findings_of}
use Rattle.rules.proofs.Never.{at-most-fifteen}
use Rattle.report.specs.Form.{rest_of}
use Rattle.report.specs.Write.{lint_report_of}

pub cas_few : (set : CasLatencies) → length (cas_list set) ≤ 40
unfolding cas_list
cas_few set = few set 40

pub part_few : (s : List ℕ) → length (part_of s) ≤ 30
part_few s = part-few s

-- thirty places have room for all of a part number
pub part_whole : (s : List ℕ) (room : ℕ) → 30 ≤ room → take room (part_of s) ≡ part_of s
part_whole s room h = take_all room (part_of s) (omega (arith, part-few s))

-- a size that is answered is the report's
size : (short : Bool) (m n : ℕ) → ◌≡◌ {A = Answer ℕ} (pick short (Err BufferTooSmall) (Ok m)) (Ok n) → n ≡ m
size true m n e = cc
size false m n e = cc

pub report_small : (edition : Edition) (s : List ℕ) (room n : ℕ) → lint_report_of edition s room ≡ Ok n → n ≤ 215
unfolding lint_report_of
report_small edition s room n e =
    let k = length (findings_of edition s) in
    let z : n ≡ rest_of k + 2 = size (ltb room (rest_of k + 2)) (rest_of k + 2) n e in
    omega (arith, at-most-fifteen edition s)
