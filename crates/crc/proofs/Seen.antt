-- What the CRC always sees: a change of one byte, or of two neighbouring ones. Two bytes that enter are sixteen bits that are added to the
-- register before it moves, and a register that moves, or that bytes enter, never forgets what it held. Assumes nothing.
use Rattle.std.specs.Prelude.{Ok}
use Prim.Native.Nat.{ℕ, zero, suc, ◌+◌, ◌*◌, ◌/◌, ◌%◌, ◌<◌}
use mathlib.Core.Path.{◌≡◌, refl, sym, ap, ◌∙◌}
use mathlib.Core.Bool.{Bool, true, false}
use mathlib.Core.List.{List, [], ◌∷◌, ◌++◌}
use native.Mathlib.Nat.{mod-eq_of_lt, mod-lt}
use native.Mathlib.Omega.{arith}
use lib.Bits.{bit_xor, xor_assoc, xor_lt, xor_self, xor_comm, xor_shifted}
use lib.Dec.{lit<}
use lib.ListN.{length, get_or, length-append}
use lib.Seq.{take_at, get_or-append-add}
use borrow.Author.Tests.{eqb-true}
use Rattle.reading.specs.Refusal.{Answer, onward}
use Rattle.crc.specs.Crc.{shifted, shifts, byte_in, crc_from, crc_of}
use Rattle.crc.specs.Base.{base_crc_of}
use Rattle.crc.proofs.Linear.{bit-cases, bit-lt, lin-times, by_bits}
use Rattle.crc.proofs.Laws.{shifts-linear, crc-join}
use Rattle.crc.proofs.Base.{sound-long}
use Rattle.crc.proofs.Refused.{crc-is}

-- ---- what is added without carries can be taken away again

undo : (r x : ℕ) → bit_xor r (bit_xor r x) ≡ x
undo r x = sym (xor_assoc r r x) ∙ ap (λ (y : ℕ). bit_xor y x) (xor_self r)

cancel : (r x y : ℕ) → bit_xor r x ≡ bit_xor r y → x ≡ y
cancel r x y e = sym (undo r x) ∙ ap (bit_xor r) e ∙ undo r y

xor_same : (a b : ℕ) → bit_xor a b ≡ 0 → a ≡ b
xor_same a b e = sym (cancel a b a (e ∙ sym (xor_self a)))

-- ---- a register that moves stays one of sixteen bits, and no two move to the same

shifted-lt : (r : ℕ) → shifted r < 65536
unfolding shifted
shifted-lt r = xor_lt 16 (r * 2 % 65536) (r / 32768 % 2 * 0x1021) (mod-lt (r * 2) (lit< tt)) (omega (arith, bit-lt (r / 32768)))

-- bits 0 to 14, moved up, are an even number, and 0x1021 is an odd one: only 0 moves to 0
shifted-zero : (r : ℕ) → r < 65536 → shifted r ≡ 0 → r ≡ 0
unfolding shifted
shifted-zero r h e =
    let top : r / 32768 < 2 = omega arith in
    bit-cases (λ x. r / 32768 ≡ x → r * 2 % 65536 ≡ x * 0x1021 → r ≡ 0)
    (λ i j. let low : r * 2 < 65536 = omega arith in omega (arith, mod-eq_of_lt low))
    (λ i j. absurd (omega arith))
    (r / 32768) top refl (xor_same (r * 2 % 65536) (r / 32768 * 0x1021) (rw (mod-eq_of_lt top) at e))

shifts-lt : (n r : ℕ) → shifts (suc n) r < 65536
shifts-lt zero r = shifted-lt r
shifts-lt (suc n) r = shifts-lt n (shifted r)

shifts-zero : (n r : ℕ) → r < 65536 → shifts n r ≡ 0 → r ≡ 0
shifts-zero zero r h e = e
shifts-zero (suc n) r h e = shifted-zero r h (shifts-zero n (shifted r) (shifted-lt r) e)

shifts-once : (n r s : ℕ) → r < 65536 → s < 65536 → shifts n r ≡ shifts n s → r ≡ s
shifts-once n r s h k e =
    let gone = shifts-linear n r s ∙ ap (λ (x : ℕ). bit_xor x (shifts n s)) e ∙ xor_self (shifts n s) in
    xor_same r s (shifts-zero n (bit_xor r s) (xor_lt 16 r s h k) gone)

-- nor with something added to both
added-once : (n r x y : ℕ) → x < 65536 → y < 65536 → shifts n (bit_xor r x) ≡ shifts n (bit_xor r y) → x ≡ y
added-once n r x y h k e =
    shifts-once n x y h k (cancel (shifts n r) (shifts n x) (shifts n y) (sym (shifts-linear n r x) ∙ e ∙ shifts-linear n r y))

byte-lt : (r b : ℕ) → byte_in r b < 65536
unfolding byte_in
byte-lt r b = shifts-lt 7 (bit_xor r (b * 256))

-- what entered before is never forgotten: the same bytes take no two registers to the same
pub from-once : (bytes : List ℕ) (r s : ℕ) → r < 65536 → s < 65536 → crc_from r bytes ≡ crc_from s bytes → r ≡ s
unfolding byte_in
from-once [] r s h k e = e
from-once (b ∷ bytes) r s h k e =
    added-once 8 (b * 256) r s h k
    (ap (shifts 8) (xor_comm (b * 256) r) ∙ from-once bytes (byte_in r b) (byte_in s b) (byte-lt r b) (byte-lt s b) e ∙ ap (shifts 8) (xor_comm s (b * 256)))

-- ---- so two bytes enter as one number of sixteen bits

-- a byte in the high half is that byte in the low half, moved up eight times
moved : (b : ℕ) → b < 256 → b * 256 ≡ shifts 8 b
unfolding shifted
moved = by_bits (λ b. b * 256) (shifts 8) (lin-times 8) (shifts-linear 8) 8 refl

pair-in : (r a b : ℕ) → b < 256 → byte_in (byte_in r a) b ≡ shifts 16 (bit_xor r (a * 256 + b))
unfolding byte_in
pair-in r a b h =
    ap (λ (x : ℕ). shifts 8 (bit_xor (shifts 8 (bit_xor r (a * 256))) x)) (moved b h)
    ∙ ap (shifts 8) (sym (shifts-linear 8 (bit_xor r (a * 256)) b))
    ∙ ap (shifts 16) (xor_assoc r (a * 256) b ∙ ap (bit_xor r) (xor_shifted a 8 b h))

-- a change of two neighbouring bytes, wherever they stand, changes the CRC
pub two_bytes : (p q : List ℕ) (a b c d : ℕ) → a < 256 → b < 256 → c < 256 → d < 256
    → crc_of (p ++ (a ∷ b ∷ q)) ≡ crc_of (p ++ (c ∷ d ∷ q)) → (a ≡ c) × (b ≡ d)
two_bytes p q a b c d ha hb hc hd e =
    let r = crc_of p in
    let entered = from-once q _ _ (byte-lt (byte_in r a) b) (byte-lt (byte_in r c) d) (sym (crc-join p (a ∷ b ∷ q)) ∙ e ∙ crc-join p (c ∷ d ∷ q)) in
    let same = added-once 16 r (a * 256 + b) (c * 256 + d) (omega arith) (omega arith) (sym (pair-in r a b hb) ∙ entered ∙ pair-in r c d hd) in
    (omega arith, omega arith)

-- and so does a change of one
pub one_byte : (p q : List ℕ) (a c : ℕ) → a < 256 → c < 256 → crc_of (p ++ (a ∷ q)) ≡ crc_of (p ++ (c ∷ q)) → a ≡ c
unfolding byte_in
one_byte p q a c ha hc e =
    let r = crc_of p in
    let entered = from-once q _ _ (byte-lt r a) (byte-lt r c) (sym (crc-join p (a ∷ q)) ∙ e ∙ crc-join p (c ∷ q)) in
    let same = added-once 8 r (a * 256) (c * 256) (omega arith) (omega arith) entered in
    omega arith

-- ---- the check of the base block sees it

-- an image that it says yes of holds the CRC of its first 510 bytes behind them
fits : (s t : List ℕ) → length s ≡ 510 → base_crc_of (s ++ t) ≡ Ok true → crc_of s ≡ get_or t 0 0 + 256 * get_or t 1 0
fits s t h e =
    let long = sound-long (s ++ t) (ap {B = Bool} (λ (x : Answer Bool). onward (λ t. false) x (λ b. b)) e) in
    eqb-true (crc_of s) (get_or t 0 0 + 256 * get_or t 1 0) (cc (crc-is (s ++ t) long, take_at s t 510 h, behind 0, behind 1))
  where
    behind : (i : ℕ) → get_or (s ++ t) (510 + i) 0 ≡ get_or t i 0
    behind i = rw (← h) (get_or-append-add s t i 0)

-- of two images that it says yes of, alike behind byte 509, and before it but for two neighbouring bytes, those two are alike as well
pub never-unseen : (p q t : List ℕ) (a b c d : ℕ) → a < 256 → b < 256 → c < 256 → d < 256 → length (p ++ (a ∷ b ∷ q)) ≡ 510
    → base_crc_of ((p ++ (a ∷ b ∷ q)) ++ t) ≡ Ok true → base_crc_of ((p ++ (c ∷ d ∷ q)) ++ t) ≡ Ok true → (a ≡ c) × (b ≡ d)
never-unseen p q t a b c d ha hb hc hd h e f =
    two_bytes p q a b c d ha hb hc hd
    (fits (p ++ (a ∷ b ∷ q)) t h e
    ∙ sym (fits (p ++ (c ∷ d ∷ q)) t (omega (arith, length-append p (a ∷ b ∷ q), length-append p (c ∷ d ∷ q))) f))
