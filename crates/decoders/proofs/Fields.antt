-- A code field taken with a mask is a remainder by a power of two, and bytes joined by shifts are a sum: one law for every width.
-- Assumes nothing.
use Prim.Native.Nat.{ℕ, ◌+◌, ◌-◌, ◌*◌, ◌^◌, ◌%◌, ◌<◌}
use mathlib.Core.Path.{◌≡◌, sym}
use native.Mathlib.Nat.{mod-eq_of_lt, add_comm}
use lib.Bits.{bit_and, bit_or, and_mask, or_shifted_r}

-- the remainder that a definition says is the mask that the code takes
pub masked : (w n : ℕ) → n % 2 ^ w ≡ bit_and n (2 ^ w - 1)
masked w n = sym (and_mask n w)

-- a byte shifted above a number that has only the bits below it, and joined by `|`, is a sum
pub joined : (k w m b : ℕ) → m < 2 ^ k → b * 2 ^ k < 2 ^ w → bit_or m (b * 2 ^ k % 2 ^ w) ≡ m + b * 2 ^ k
joined k w m b h f = rw (mod-eq_of_lt f, or_shifted_r b k m h) (add_comm (b * 2 ^ k) m)
