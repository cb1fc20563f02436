-- One byte and eight bytes at once. What the code computes is linear in the register, as the definition is, and the two agree on every power
-- of two, which is computed; so they agree. Assumes nothing.
use Prim.Native.Nat.{ℕ, zero, suc, ◌+◌, ◌*◌, ◌/◌, ◌%◌, ◌^◌, ◌<◌}
use mathlib.Core.Path.{◌≡◌, refl, sym, ap, ap₂, ◌∙◌}
use mathlib.Core.Bool.{Bool, true}
use mathlib.Core.List.{List}
use native.Mathlib.Nat.{zero-add, pow-suc, div-one, mod-lt, mod-one, mod-eq_of_lt}
use native.Mathlib.Omega.{arith}
use lib.Dec.{lit<}
use lib.Pow.{pow_pos}
use lib.ListN.{length, get_or}
use lib.Bits.{bit_xor, xor_assoc, xor_comm, xor_shifted, xor_zero_r}
use Rattle.std.specs.Int.{w64, byte_at, bytes_high_first, from_be_bytes}
use Rattle.std.proofs.lemmas.Nat.{be_bytes_8, pow-add, mod-pow-add}
use Rattle.reading.specs.Pick.{and}
use Rattle.reading.proofs.Picked.{both}
use Rattle.crc.specs.Crc.{shifted, shifts, byte_in, crc_from}
use Rattle.crc.proofs.Linear.{Linear, lin-id, lin-after, lin-sum, lin-shr, lin-mod, lin-times, lin-shl, same_bits, by_bits}
use Rattle.crc.proofs.Laws.{shifts-linear}

-- 0x1021 times x in a register of w bits
unfoldable pub folded : (w x : ℕ) → ℕ
folded w x = bit_xor (bit_xor (x * 2 ^ 12 % 2 ^ w) (x * 2 ^ 5 % 2 ^ w)) x

folded-linear : (w : ℕ) → Linear (folded w)
unfolding folded
folded-linear w =
    lin-sum (λ x. bit_xor (x * 2 ^ 12 % 2 ^ w) (x * 2 ^ 5 % 2 ^ w)) (λ x. x)
    (lin-sum (λ x. x * 2 ^ 12 % 2 ^ w) (λ x. x * 2 ^ 5 % 2 ^ w) (lin-shl 12 w) (lin-shl 5 w)) lin-id

-- v, and v moved down by so many bits
abbrev pub plus : (ℕ → ℕ) → ℕ → ℕ → ℕ
plus f k v = bit_xor (f v) (v / 2 ^ k)

lin-plus : (f : ℕ → ℕ) (k : ℕ) → Linear f → Linear (plus f k)
lin-plus f k l = lin-sum f (λ v. v / 2 ^ k) l (lin-shr k)

-- ---- one byte

unfoldable pub one : ℕ → ℕ
one v = bit_xor (v * 2 ^ 8 % 2 ^ 16) (folded 16 (plus (λ t. t) 4 (v / 2 ^ 8)))

one-linear : Linear one
unfolding one
one-linear =
    lin-sum (λ v. v * 2 ^ 8 % 2 ^ 16) (λ v. folded 16 (plus (λ t. t) 4 (v / 2 ^ 8))) (lin-shl 8 16)
    (lin-after (folded 16) (λ v. plus (λ t. t) 4 (v / 2 ^ 8)) (folded-linear 16)
    (lin-after (plus (λ t. t) 4) (λ v. v / 2 ^ 8) (lin-plus (λ t. t) 4 lin-id) (lin-shr 8)))

pub one-once : (v : ℕ) → v < 65536 → shifts 8 v ≡ one v
unfolding one folded shifted
one-once = by_bits (shifts 8) one (shifts-linear 8) one-linear 16 refl

-- ---- eight bytes: the quotient in four lines, and what 0x1021 times it leaves

unfoldable pub line1 : ℕ → ℕ
line1 = plus (plus (plus (λ v. v) 4) 11) 16

unfoldable pub line2 : ℕ → ℕ
line2 = plus (plus (plus (λ v. v) 8) 22) 32

unfoldable pub line3 : ℕ → ℕ
line3 = plus (plus (λ v. v) 16) 44

unfoldable pub line4 : ℕ → ℕ
line4 = plus (λ v. v) 32

unfoldable pub eight : ℕ → ℕ
eight v = folded 64 (line4 (line3 (line2 (line1 v)))) % 2 ^ 16

eight-linear : Linear eight
unfolding eight line1 line2 line3 line4
eight-linear =
    lin-after (λ v. v % 2 ^ 16) (λ v. folded 64 (line4 (line3 (line2 (line1 v))))) (lin-mod 16)
    (lin-after (folded 64) (λ v. line4 (line3 (line2 (line1 v)))) (folded-linear 64)
    (lin-after line4 (λ v. line3 (line2 (line1 v))) (lin-plus (λ v. v) 32 lin-id)
    (lin-after line3 (λ v. line2 (line1 v)) (lin-plus (plus (λ v. v) 16) 44 (lin-plus (λ v. v) 16 lin-id))
    (lin-after line2 line1
    (lin-plus (plus (plus (λ v. v) 8) 22) 32 (lin-plus (plus (λ v. v) 8) 22 (lin-plus (λ v. v) 8 lin-id)))
    (lin-plus (plus (plus (λ v. v) 4) 11) 16 (lin-plus (plus (λ v. v) 4) 11 (lin-plus (λ v. v) 4 lin-id)))))))

shifts-add : (n m r : ℕ) → shifts m (shifts n r) ≡ shifts (n + m) r
shifts-add zero m r = ap (λ (k : ℕ). shifts k r) (sym (zero-add m))
shifts-add (suc n) m r =
    let e : suc (n + m) ≡ suc n + m = omega arith in
    shifts-add n m (shifted r) ∙ ap (λ (k : ℕ). shifts k r) e

-- the register alone
start : (r : ℕ) → r < 65536 → shifts 64 r ≡ eight (r * 2 ^ 48)
unfolding eight line1 line2 line3 line4 folded shifted
start = by_bits (shifts 64) (λ r. eight (r * 2 ^ 48)) (shifts-linear 64) (lin-after eight (λ r. r * 2 ^ 48) eight-linear (lin-times 48)) 16 refl

-- a byte enters, and k bytes are still to come: a byte by itself is moved at once. That is tested for each k below n
abbrev tested : (n : ℕ) → Bool
tested zero = true
tested (suc k) = and (same_bits (λ b. shifts (8 + 8 * k) (b * 2 ^ 8)) (λ b. eight (b * 2 ^ (8 * k))) 8) (tested k)

eight-tested : tested 8 ≡ true
unfolding eight line1 line2 line3 line4 folded shifted
eight-tested = refl

enters : (m : ℕ) → same_bits (λ b. shifts (8 + m) (b * 2 ^ 8)) (λ b. eight (b * 2 ^ m)) 8 ≡ true
    → (r v b : ℕ) → b < 256 → shifts (8 + m) r ≡ eight v → shifts m (byte_in r b) ≡ eight (bit_xor v (b * 2 ^ m))
unfolding byte_in
enters m t r v b h e =
    shifts-add 8 m (bit_xor r (b * 256))
    ∙ shifts-linear (8 + m) r (b * 256)
    ∙ ap₂ bit_xor e
    (by_bits (λ b. shifts (8 + m) (b * 2 ^ 8)) (λ b. eight (b * 2 ^ m))
    (lin-after (shifts (8 + m)) (λ b. b * 2 ^ 8) (shifts-linear (8 + m)) (lin-times 8))
    (lin-after eight (λ b. b * 2 ^ m) eight-linear (lin-times m)) 8 t b h)
    ∙ sym (eight-linear v (b * 2 ^ m))

byte-lt : (k n : ℕ) → byte_at k n < 256
byte-lt zero n = mod-lt n (lit< tt)
byte-lt (suc k) n = mod-lt (n / 256 ^ suc k) (lit< tt)

worth : (k : ℕ) → 256 ^ k ≡ 2 ^ (8 * k)
worth zero = refl
worth (suc k) =
    let more : 8 * suc k ≡ 8 * k + 8 = omega arith in
    pow-suc 256 k ∙ ap (λ (x : ℕ). x * 256) (worth k) ∙ sym (ap (λ (j : ℕ). 2 ^ j) more ∙ pow-add 2 (8 * k) 8)

byte-is : (k n : ℕ) → byte_at k n ≡ n / 2 ^ (8 * k) % 256
byte-is zero n = ap (λ (x : ℕ). x % 256) (sym (div-one n))
byte-is (suc k) n = ap (λ (p : ℕ). n / p % 256) (worth (suc k))

-- the lowest k bytes of a number enter, the highest of them first
enter : (k : ℕ) → tested k ≡ true → (n r v : ℕ) → shifts (8 * k) r ≡ eight v → crc_from r (bytes_high_first k n) ≡ eight (bit_xor v (n % 2 ^ (8 * k)))
enter zero t n r v e = e ∙ ap eight (sym (ap (bit_xor v) (mod-one n) ∙ xor_zero_r v))
enter (suc k) t n r v e =
    let b = byte_at k n in
    let more : 8 * suc k ≡ 8 + 8 * k = omega arith in
    let tests = both _ _ t in
    enter k tests.1 n (byte_in r b) (bit_xor v (b * 2 ^ (8 * k))) (enters (8 * k) tests.0 r v b (byte-lt k n) (rw more at e))
    ∙ ap eight
    (xor_assoc v (b * 2 ^ (8 * k)) (n % 2 ^ (8 * k))
    ∙ ap (bit_xor v)
    (xor_shifted b (8 * k) (n % 2 ^ (8 * k)) (mod-lt n (pow_pos (8 * k)))
    ∙ ap (λ (x : ℕ). x * 2 ^ (8 * k) + n % 2 ^ (8 * k)) (byte-is k n)
    ∙ sym (ap (λ (j : ℕ). n % 2 ^ j) more ∙ mod-pow-add n 8 (8 * k))))

-- eight bytes enter as the number that they are, highest first
pub eight-once : (r : ℕ) (bytes : List ℕ) → r < 65536 → length bytes ≡ 8 → ((i : ℕ) → get_or bytes i 0 < 256)
    → crc_from r bytes ≡ eight (bit_xor (from_be_bytes w64 bytes) (r * 2 ^ 48))
eight-once r bytes h size small =
    let n = from_be_bytes w64 bytes in
    let fits : n < 2 ^ 64 = omega (arith, small 0, small 1, small 2, small 3, small 4, small 5, small 6, small 7) in
    ap (crc_from r) (sym (be_bytes_8 bytes n size small refl))
    ∙ enter 8 eight-tested n r (r * 2 ^ 48) (start r h)
    ∙ ap eight (xor_comm (r * 2 ^ 48) (n % 2 ^ 64) ∙ ap (λ (x : ℕ). bit_xor x (r * 2 ^ 48)) (mod-eq_of_lt fits))
