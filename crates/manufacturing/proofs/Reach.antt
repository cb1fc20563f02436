-- The block and the part number look at no byte outside the table: an image masked to its bytes decodes the same. So they look at the first
-- 555 bytes alone, which is the number that the table reaches to. Assumes nothing.
use mathlib.Core.Path.{◌≡◌, refl}
use Rattle.std.specs.Prelude.{Ok, Err}
use Prim.Native.Nat.{ℕ, ◌<◌, ◌≤◌}
use mathlib.Core.List.{List}
use lib.ListN.{length, get_or}
use Rattle.reading.specs.Pick.{pick}
use Rattle.reading.specs.View.{view, Within}
use Rattle.reading.specs.Ranges.{missing_at, truncated_by, reach_of, Only}
use Rattle.reading.specs.declared.Refusal.TheVariants.{StrictDate}
use Rattle.reading.specs.Made.{firsts}
use Rattle.reading.proofs.Reach.{only-within, none-missing, cut}
use Rattle.manufacturing.specs.Block.{manufacturing_ranges, date_refused, block_at, manufacturing_at, manufacturing_of}
use Rattle.manufacturing.specs.Part.{field_at, part_at, part_kept_at}
use Rattle.manufacturing.specs.declared.DateMode.{DateMode}
use Rattle.manufacturing.specs.declared.DateMode.TheVariants.{AsIs, Strict}

pub manufacturing-only : (mode : DateMode) → Only manufacturing_ranges (manufacturing_at mode)
unfolding missing_at
manufacturing-only AsIs = λ v. refl
manufacturing-only Strict = λ v. refl

pub part-only : Only manufacturing_ranges part_at
unfolding missing_at field_at firsts
part-only = λ v. refl

pub part-kept-only : Only manufacturing_ranges part_kept_at
unfolding missing_at field_at firsts
part-kept-only = λ v. refl

-- the length that document 02 names follows
pub manufacturing-length : reach_of manufacturing_ranges ≡ 555
manufacturing-length = refl

pub manufacturing-reach : (mode : DateMode) → Within (reach_of manufacturing_ranges) (manufacturing_at mode)
manufacturing-reach mode = only-within manufacturing_ranges (manufacturing-only mode)

pub part-reach : Within (reach_of manufacturing_ranges) part_at
part-reach = only-within manufacturing_ranges part-only

pub part-kept-reach : Within (reach_of manufacturing_ranges) part_kept_at
part-kept-reach = only-within manufacturing_ranges part-kept-only

-- the answer for an image that is long enough, and for one that is not
module _ (mode : DateMode) (s : List ℕ) where
  pub block_long : reach_of manufacturing_ranges ≤ length s
      → manufacturing_of mode s ≡ pick (date_refused mode (get_or s 515 0) (get_or s 516 0)) (Err StrictDate) (Ok (block_at (view s)))
  unfolding manufacturing_of
  block_long h = rw (none-missing manufacturing_ranges s h) refl

  pub block_short : length s < reach_of manufacturing_ranges → manufacturing_of mode s ≡ Err (truncated_by (missing_at manufacturing_ranges (view s)))
  unfolding manufacturing_of
  block_short h = cut manufacturing_ranges s Err _ h
