-- `manufacturing::part_field` meets its contract: an image that has the block has the thirty bytes. The search leaves it open. Assumes nothing.
use Rattle.std.proofs.Common.{◌≡◌, ◌∙◌, ◌<◌, ◌≤◌, ℕ, List, Bor, ap, arith, length, drop, take, Option, Some, None}
use Rattle.std.specs.Option.{option_copied, MatchOption}
use Rattle.std.specs.Array.{IsFirstChunk}
use Rattle.std.proofs.lemmas.List.{take_all, length-drop, length-take}
use Rattle.manufacturing.proofs.Trim.{field_long}
use Rattle.manufacturing.proofs.part_field.Goals as goal

-- the first n elements of a list that has no fewer
chunk : (xs : List ℕ) (o : Option (Bor (List ℕ))) (n : ℕ) → n ≤ length xs → MatchOption o (length xs < n) (λ y. IsFirstChunk xs y.now n) → option_copied o ≡ Some (take n xs)
chunk xs None n h c = absurd (omega arith)
chunk xs (Some y) n h c = ap Some c.same

pub returns : goal.returns
returns c =
    let s = c.args.image.now in
    let fits : 30 ≤ length (take 30 (drop 521 s)) = omega (arith, length-take 30 (drop 521 s), length-drop 521 s) in
    chunk _ c.first_chunk.result 30 fits c.first_chunk.ensures.cases ∙ ap Some (take_all 30 (take 30 (drop 521 s)) (omega (arith, length-take 30 (drop 521 s)))) ∙ field_long s (omega arith)
