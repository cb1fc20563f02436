-- The codes of both widths are DDR5's: what its tables have for a code is what the code doubles to, and a code past 3 is refused by either
-- generation. And no image is decoded by both. Assumes nothing.
use Rattle.std.specs.Prelude.{Ok, Err}
use Prim.Native.Nat.{ℕ, ◌*◌, ◌^◌, ◌<◌}
use mathlib.Core.Path.{◌≡◌, refl, subst, ◌∙◌}
use mathlib.Core.List.{List, [], ◌∷◌}
use native.Mathlib.Omega.{arith}
use borrow.Author.Tests.{lt-ltb, eqb-true, eqb-false}
use lib.Dec.{eqb, ltb}
use Rattle.reading.specs.Pick.{pick}
use Rattle.reading.specs.declared.Refusal.TheVariants.{UnknownEnum}
use Rattle.reading.specs.View.{View}
use Rattle.reading.specs.Refusal.{Answer, onward}
use Rattle.reading.specs.Ranges.{missing_at}
use Rattle.reading.proofs.Picked.{by-test}
use Rattle.reading.proofs.Reach.{by-missing}
use Rattle.decoders.specs.Codes.{meant, size_of, device_of, io_width_table, io_width_of, bus_width_of, bits_in}
use Rattle.decoders.specs.Identity.{identity_ranges, identity_at}
use Rattle.decoders.specs.declared.identity.IdentityAndBase.{IdentityAndBase}
use Rattle.ddr4.specs.Module.{ddr4_at}
use Rattle.ddr4.specs.declared.Ddr4.{Ddr4}
use Rattle.ddr4.proofs.Refused.{decoded-sound}

-- a table whose four codes double a first number
pub doubling : (field first code : ℕ) → meant field ((0, first * 2 ^ 0) ∷ (1, first * 2 ^ 1) ∷ (2, first * 2 ^ 2) ∷ (3, first * 2 ^ 3) ∷ []) code ≡ pick (ltb 3 code) (Err (UnknownEnum field code)) (Ok (first * 2 ^ code))
doubling field first code =
    by-test (eqb code 0) (λ e. let z : code ≡ 0 = eqb-true code 0 e in rw z refl) (λ e₀.
    by-test (eqb code 1) (λ e. let z : code ≡ 1 = eqb-true code 1 e in rw z refl) (λ e₁.
    by-test (eqb code 2) (λ e. let z : code ≡ 2 = eqb-true code 2 e in rw z refl) (λ e₂.
    by-test (eqb code 3) (λ e. let z : code ≡ 3 = eqb-true code 3 e in rw z refl) (λ e₃.
    let h : 3 < code = omega (arith, eqb-false code 0 e₀, eqb-false code 1 e₁, eqb-false code 2 e₂, eqb-false code 3 e₃) in
    rw (e₀, e₁, e₂, e₃, lt-ltb 3 code h) refl))))

-- a table read for a number of what its codes stand for
abbrev numbered : {A : Type 0} → (A → ℕ) → List (ℕ × A) → List (ℕ × ℕ)
numbered f [] = []
numbered f ((k, x) ∷ rows) = (k, f x) ∷ numbered f rows

number_of : {A : Type 0} (f : A → ℕ) (field : ℕ) (rows : List (ℕ × A)) (code : ℕ) → onward Err (meant field rows code) (λ x. Ok (f x)) ≡ meant field (numbered f rows) code
number_of f field [] code = refl
number_of f field ((k, x) ∷ rows) code = by-test (eqb code k) (λ e. rw e refl) (λ e. rw e (number_of f field rows code))

pub io-as-ddr5 : (code : ℕ) → onward Err (io_width_of code) (λ width. Ok (bits_in width)) ≡ pick (ltb 3 code) (Err (UnknownEnum 5 code)) (Ok (4 * 2 ^ code))
unfolding io_width_of
io-as-ddr5 code = number_of bits_in 5 io_width_table code ∙ doubling 5 4 code

pub bus-as-ddr5 : (code : ℕ) → bus_width_of code ≡ pick (ltb 3 code) (Err (UnknownEnum 8 code)) (Ok (8 * 2 ^ code))
unfolding bus_width_of
bus-as-ddr5 code = doubling 8 8 code

-- nothing is given
abbrev NotGiven : {A : Type 0} → Answer A → Type 0
NotGiven (Ok a) = ⊥
NotGiven (Err t) = Unit {0}

behind : {A B : Type 0} (s : Answer A) (go : A → Answer B) → ((a : A) → NotGiven (go a)) → NotGiven (onward Err s go)
behind (Ok a) go h = h a
behind (Err t) go h = tt

-- DDR5 refuses what has DDR4's type
other-type : (v : View) → v.byte 2 ≡ 0x0C → NotGiven (identity_at v)
unfolding device_of
other-type v e =
    by-missing (missing_at identity_ranges v)
    (λ m. rw (m, e) (behind (size_of _) _ (λ size. tt)))
    (λ i m. rw m tt)

pub never_both : (v : View) {d : Ddr4} {i : IdentityAndBase} → ddr4_at v ≡ Ok d → identity_at v ≡ Ok i → ⊥
never_both v e f = subst NotGiven f (other-type v (decoded-sound v e).type)
