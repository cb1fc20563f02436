-- The numbers of a block and of the length of its part number. Assumes nothing.
use Rattle.std.proofs.Common.{◌≡◌, ℕ, List, Ok, Err, length, refl}
use Rattle.reading.specs.Refusal.{Answer, onward}
use Rattle.manufacturing.specs.Block.{manufacturing_of}
use Rattle.manufacturing.specs.Part.{part_of}
use Rattle.manufacturing.specs.declared.DateMode.{DateMode}
use Rattle.manufacturing.specs.declared.Manufacturing.{Manufacturing}
use Rattle.roostcord.specs.Numbers.{manufacturing_numbers, numbers_in}
use Rattle.roostcord.specs.Parts.{labelled_in}
use Rattle.roostcord.specs.declared.numbers.Labelled.{Labelled}

of : (n : ℕ) (block : Answer Manufacturing)
    → numbers_in (λ (l : Labelled). manufacturing_numbers l.block l.part_len) (onward Err block (λ m. Ok (record { block = m; part_len = n }))) ≡ numbers_in (λ m. manufacturing_numbers m n) block
of n (Ok m) = refl
of n (Err why) = refl

pub numbers_labelled : (mode : DateMode) (s : List ℕ)
    → numbers_in (λ (l : Labelled). manufacturing_numbers l.block l.part_len) (labelled_in mode s) ≡ numbers_in (λ m. manufacturing_numbers m (length (part_of s))) (manufacturing_of mode s)
numbers_labelled mode s = of (length (part_of s)) (manufacturing_of mode s)
