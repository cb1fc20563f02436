-- The count of the clock table held against the smallest whole n with n * tCK at or above the time, which document 01 had before 2026-06: it is never
-- above that n, and below it by no more than three thousandths of n - 1, rounded up; for each n that much does occur. Assumes nothing.
use Prim.Native.Nat.{ℕ, ◌+◌, ◌*◌, ◌/◌, ◌%◌, ◌<◌, ◌≤◌}
use mathlib.Core.Path.{◌≡◌, refl}
use native.Mathlib.Omega.{arith}
use native.Mathlib.Nat.{div-add-mod', div-mul-le_self, div-lt_iff_lt-mul, div-div-eq-div-mul, zero-div, mod-lt, add-mul, le_of_mul-le-mul_right, lt_of_mul-lt-mul_right}
use lib.Dec.{eqb}
use borrow.Author.Tests.{eqb-true, eqb-false}
use Rattle.reading.proofs.Picked.{by-test}
use Rattle.decoders.specs.Clocks.{Smallest, smallest_of, clocks_of}

pub smallest : (tck time : ℕ) → 0 < tck → Smallest tck time (smallest_of tck time)
smallest tck time pos =
    let q = time / tck in
    let whole : q * tck + time % tck ≡ time = div-add-mod' time tck in
    by-test (eqb (time % tck) 0)
    (λ e.
    let none : time % tck ≡ 0 = eqb-true (time % tck) 0 e in
    let same : q + 0 ≡ q = omega arith in
    rw (e, same) (record {
      reaches = omega arith;
      least = λ m h. le_of_mul-le-mul_right (omega arith) pos;
    }))
    (λ e.
    let some : time % tck ≡ 0 → ⊥ = eqb-false (time % tck) 0 e in
    let left : time % tck < tck = mod-lt time pos in
    let more : (q + 1) * tck ≡ q * tck + 1 * tck = add-mul q 1 tck in
    rw e (record {
      reaches = omega (arith, more);
      least = λ m h.
          let short : q * tck < m * tck = omega (arith, some) in
          let before : q < m = lt_of_mul-lt-mul_right tck short in
          omega arith;
    }))

-- two divisions are one by the product
pub at_once : (tck time : ℕ) → clocks_of tck time ≡ time * 997 / (tck * 1000) + 1
at_once tck time = let both : time * 997 / tck / 1000 ≡ time * 997 / (tck * 1000) = div-div-eq-div-mul (time * 997) tck 1000 in omega (arith, both)

-- the count is itself a smallest one: of the n with n * tCK above 997 thousandths of the time
pub guarded : (tck time : ℕ) → 0 < tck → Smallest (tck * 1000) (time * 997 + 1) (clocks_of tck time)
guarded tck time pos = grind (arith, at_once, div-lt_iff_lt-mul)

module _ (tck time : ℕ) (pos : 0 < tck) where
  pub never-above : 0 < time → clocks_of tck time ≤ smallest_of tck time
  never-above some =
      let n = smallest_of tck time in
      let long : time ≤ n * tck = (smallest tck time pos).reaches in
      (guarded tck time pos).least n (omega (arith, long))

  pub near : smallest_of tck time ≤ clocks_of tck time + (3 * smallest_of tck time + 996) / 1000
  near =
      let q = time / tck in
      let n = clocks_of tck time in
      let fit : q * tck ≤ time = div-mul-le_self time tck in
      let long : time * 997 + 1 ≤ n * (tck * 1000) = (guarded tck time pos).reaches in
      let less : 997 * q < 1000 * n = lt_of_mul-lt-mul_right tck (omega (arith, fit, long)) in
      by-test (eqb (time % tck) 0) (λ e. rw e (omega (arith, less))) (λ e. rw e (omega (arith, less)))

pub zero-is-one : (tck : ℕ) → clocks_of tck 0 ≡ 1
zero-is-one tck = let none : 0 / tck ≡ 0 = zero-div tck in omega (arith, none)

-- the bound is reached for each n = m + 1: with tCK 1000 and one picosecond above m cycles
module _ (m : ℕ) where
  pub reached-at : smallest_of 1000 (m * 1000 + 1) ≡ m + 1
  reached-at = let one : (m * 1000 + 1) % 1000 ≡ 1 = omega arith in rw one (omega arith)

  pub reached : clocks_of 1000 (m * 1000 + 1) + (3 * (m + 1) + 996) / 1000 ≡ m + 1
  reached = omega arith

-- the request's own numbers
pub asked-before : smallest_of 312 17500 ≡ 57
asked-before = refl

pub asked : clocks_of 312 17500 ≡ 56
asked = refl
