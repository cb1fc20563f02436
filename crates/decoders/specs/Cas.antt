-- Document 01, "CAS set": bytes 24 to 28 joined low byte first into a 40-bit mask. Bit k stands for CL 20 + 2k; a bit past 39 never counts.
-- Assumes nothing.
use Rattle.std.specs.Prelude.{ℕ, ◌+◌, ◌-◌, ◌*◌, ◌/◌, ◌%◌, ◌^◌, Bool, List, length, filter, map, leb, ltb, eqb, Ok, Err}
use Rattle.std.specs.List.{range_with_len}
use Rattle.reading.specs.Pick.{pick, and}
use Rattle.reading.specs.declared.Refusal.TheVariants.{ListTooShort}
use Rattle.reading.specs.Lent.{listed}
use Rattle.reading.specs.Refusal.{Answer}
use Rattle.decoders.specs.declared.timing.CasLatencies.{CasLatencies}

abbrev pub cas_of : (b0 b1 b2 b3 b4 : ℕ) → CasLatencies
cas_of b0 b1 b2 b3 b4 = record { 0 = b0 + b1 * 2 ^ 8 + b2 * 2 ^ 16 + b3 * 2 ^ 24 + b4 * 2 ^ 32 }

-- bit k of a number
abbrev pub bit_set : ℕ → ℕ → Bool
bit_set n k = eqb (n / 2 ^ k % 2) 1

-- at or above 20, an even way above, and the bit half that way up is one of the 40 and set
abbrev pub in_set : CasLatencies → ℕ → Bool
in_set set cl =
    and (leb 20 cl)
    (and (eqb ((cl - 20) % 2) 0)
    (and (ltb ((cl - 20) / 2) 40)
    (bit_set set.0 ((cl - 20) / 2))))

-- of the latencies of the first n bits, 20, 22, .., those in the set
unfoldable pub first_latencies : CasLatencies → (n : ℕ) → List ℕ
first_latencies set n = filter (in_set set) (map (λ bit. 20 + 2 * bit) (range_with_len 0 n))

-- the ascending list: of the latencies 20, 22, .. 98, those in the set
unfoldable pub cas_list : CasLatencies → List ℕ
cas_list set = first_latencies set 40

-- refusal 4 under 40 places, and else the count
unfoldable pub cas_list_of : CasLatencies → List ℕ → Answer ℕ
cas_list_of set out = pick (ltb (length out) 40) (Err ListTooShort) (Ok (length (cas_list set)))

-- the lent list afterwards: the latencies in the first places, and as it was under 40
unfoldable pub cas_list_after : CasLatencies → List ℕ → List ℕ
cas_list_after set out = listed 40 (cas_list set) out
