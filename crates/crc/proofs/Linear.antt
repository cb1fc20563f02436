-- What is linear: its value of an exclusive or is the exclusive or of its values. Shifts are, and so are sums and chains of what is; and two
-- linear functions that agree on every power of two agree. Assumes nothing.
use Prim.Native.Nat.{ℕ, zero, suc, ◌+◌, ◌*◌, ◌/◌, ◌%◌, ◌^◌, ◌<◌}
use mathlib.Core.Path.{◌≡◌, refl, sym, ap, ap₂, ◌∙◌}
use mathlib.Core.Bool.{Bool, true}
use native.Mathlib.Nat.{add-zero, div-add-mod', mod-lt, not-suc-le-zero, le_of_suc-le-suc, one-mul, zero-mul}
use native.Mathlib.Omega.{arith}
use lib.Dec.{eqb, lit<}
use lib.Pow.{pow_pos, shr_lt}
use lib.Bits.{bit_xor, xor_assoc, xor_comm, xor_shr, xor_mod, xor_block, xor_shifted, xor_self, xor_zero_r}
use borrow.Author.Tests.{eqb-true}
use Rattle.reading.specs.Pick.{and}
use Rattle.reading.proofs.Picked.{both}

-- a bit is 0 or 1
pub bit-cases : (P : ℕ → Type 0) → P 0 → P 1 → (x : ℕ) → x < 2 → P x
bit-cases P p q zero h = p
bit-cases P p q (suc zero) h = q
bit-cases P p q (suc (suc x)) h = absurd (not-suc-le-zero (le_of_suc-le-suc (le_of_suc-le-suc h)))

pub bit-lt : (n : ℕ) → n % 2 < 2
bit-lt n = mod-lt n (lit< tt)

pub medial : (a b c d : ℕ) → bit_xor (bit_xor a b) (bit_xor c d) ≡ bit_xor (bit_xor a c) (bit_xor b d)
medial a b c d =
    xor_assoc a b (bit_xor c d)
    ∙ ap (bit_xor a) (sym (xor_assoc b c d) ∙ ap (λ (x : ℕ). bit_xor x d) (xor_comm b c) ∙ xor_assoc c b d)
    ∙ sym (xor_assoc a c (bit_xor b d))

abbrev pub Linear : (ℕ → ℕ) → Type 0
Linear f = (a b : ℕ) → f (bit_xor a b) ≡ bit_xor (f a) (f b)

pub lin-id : Linear (λ v. v)
lin-id a b = refl

pub lin-after : (f g : ℕ → ℕ) → Linear f → Linear g → Linear (λ v. f (g v))
lin-after f g lf lg a b = ap f (lg a b) ∙ lf (g a) (g b)

pub lin-sum : (f g : ℕ → ℕ) → Linear f → Linear g → Linear (λ v. bit_xor (f v) (g v))
lin-sum f g lf lg a b = ap₂ bit_xor (lf a b) (lg a b) ∙ medial (f a) (f b) (g a) (g b)

pub lin-shr : (k : ℕ) → Linear (λ v. v / 2 ^ k)
lin-shr k a b = xor_shr a b k

pub lin-mod : (w : ℕ) → Linear (λ v. v % 2 ^ w)
lin-mod w a b = xor_mod a b w

pub lin-times : (k : ℕ) → Linear (λ v. v * 2 ^ k)
lin-times k a b =
    sym (add-zero (bit_xor a b * 2 ^ k))
    ∙ sym (xor_block k a b 0 0 (pow_pos k) (pow_pos k))
    ∙ ap₂ bit_xor (add-zero (a * 2 ^ k)) (add-zero (b * 2 ^ k))

pub lin-shl : (k w : ℕ) → Linear (λ v. v * 2 ^ k % 2 ^ w)
lin-shl k w = lin-after (λ v. v % 2 ^ w) (λ v. v * 2 ^ k) (lin-mod w) (lin-times k)

-- a number where bit k is 1, and else 0
pub lin-bit : (k c : ℕ) → Linear (λ v. v / 2 ^ k % 2 * c)
lin-bit k c a b =
    ap (λ (x : ℕ). x * c) (ap (λ (x : ℕ). x % 2) (xor_shr a b k) ∙ xor_mod (a / 2 ^ k) (b / 2 ^ k) 1)
    ∙ of-bits (a / 2 ^ k % 2) (b / 2 ^ k % 2) (bit-lt (a / 2 ^ k)) (bit-lt (b / 2 ^ k))
  where
    of-bits : (x y : ℕ) → x < 2 → y < 2 → bit_xor x y * c ≡ bit_xor (x * c) (y * c)
    of-bits x y hx hy =
        bit-cases (λ x. bit_xor x y * c ≡ bit_xor (x * c) (y * c)) (sym (ap (λ (z : ℕ). bit_xor z (y * c)) (zero-mul c)))
        (bit-cases (λ y. bit_xor 1 y * c ≡ bit_xor (1 * c) (y * c))
        (sym (ap (bit_xor (1 * c)) (zero-mul c) ∙ xor_zero_r (1 * c)))
        (zero-mul c ∙ sym (xor_self (1 * c)))
        y
        hy)
        x
        hx

none : (f g : ℕ → ℕ) → Linear f → Linear g → f 0 ≡ g 0
none f g lf lg = lf 0 0 ∙ xor_self (f 0) ∙ sym (lg 0 0 ∙ xor_self (g 0))

-- two functions agree on the powers of two below 2 ^ n
abbrev pub same_bits : (f g : ℕ → ℕ) → ℕ → Bool
same_bits f g zero = true
same_bits f g (suc n) = and (eqb (f (2 ^ n)) (g (2 ^ n))) (same_bits f g n)

-- so, being linear, they agree on every number below it
pub by_bits : (f g : ℕ → ℕ) → Linear f → Linear g → (n : ℕ) → same_bits f g n ≡ true → (v : ℕ) → v < 2 ^ n → f v ≡ g v
by_bits f g lf lg zero e v h =
    let z : v ≡ 0 = omega arith in
    rw z (none f g lf lg)
by_bits f g lf lg (suc n) e v h =
    let t = both (eqb (f (2 ^ n)) (g (2 ^ n))) (same_bits f g n) e in
    let top : (x : ℕ) → x < 2 → f (x * 2 ^ n) ≡ g (x * 2 ^ n) =
    bit-cases (λ x. f (x * 2 ^ n) ≡ g (x * 2 ^ n)) (rw (zero-mul (2 ^ n)) (none f g lf lg)) (rw (one-mul (2 ^ n)) (eqb-true (f (2 ^ n)) (g (2 ^ n)) t.0))
    in
    let halves : v ≡ bit_xor (v / 2 ^ n * 2 ^ n) (v % 2 ^ n) = sym (xor_shifted (v / 2 ^ n) n (v % 2 ^ n) (mod-lt v (pow_pos n)) ∙ div-add-mod' v (2 ^ n)) in
    let w : 1 + n ≡ suc n = omega arith in
    ap f halves ∙ lf (v / 2 ^ n * 2 ^ n) (v % 2 ^ n)
    ∙ ap₂ bit_xor (top (v / 2 ^ n) (shr_lt 1 n (rw w h))) (by_bits f g lf lg n t.1 (v % 2 ^ n) (mod-lt v (pow_pos n)))
    ∙ sym (lg (v / 2 ^ n * 2 ^ n) (v % 2 ^ n)) ∙ ap g (sym halves)
