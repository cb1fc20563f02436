-- The ascending list of a CAS set, bit by bit: one bit more adds its latency behind the others, or nothing. Assumes nothing.
use Rattle.std.proofs.Common.{◌≡◌, ℕ, ◌+◌, ◌*◌, ◌<◌, ◌≤◌, true, false, List, [], ◌∷◌, ◌++◌, map, length, slice_set, refl, cond, arith, append-nil, length-append, zero-add}
use Rattle.std.proofs.lemmas.List.FromFn.{filter_of_map_range_with_len_more, length-map-range_with_len}
use Rattle.std.proofs.lemmas.List.Sums.{length-filter, count_by-le-length}
use Rattle.std.specs.List.{range_with_len}
use Rattle.reading.proofs.Laid.{laid_next}
use Rattle.decoders.specs.Cas.{in_set, first_latencies}
use Rattle.decoders.specs.declared.timing.CasLatencies.{CasLatencies}

module _ (set : CasLatencies) where
  pub few : (n : ℕ) → length (first_latencies set n) ≤ n
  unfolding first_latencies
  few n =
      let all = map (λ bit. 20 + 2 * bit) (range_with_len 0 n) in
      omega (arith, length-filter (in_set set) all, count_by-le-length (in_set set) all, length-map-range_with_len (λ bit. 20 + 2 * bit) 0 n)

  pub no_latencies : first_latencies set 0 ≡ []
  unfolding first_latencies
  no_latencies = refl

  -- one bit more
  pub one_more : (n : ℕ) → first_latencies set (n + 1) ≡ first_latencies set n ++ cond (in_set set (20 + 2 * n)) ((20 + 2 * n) ∷ []) []
  unfolding first_latencies
  one_more n = filter_of_map_range_with_len_more (in_set set) (λ bit. 20 + 2 * bit) 0 n n (zero-add n)

-- what the loop of `list` goes by
pub ruleset list_steps = (few, no_latencies, one_more, laid_next, length-append, append-nil)
