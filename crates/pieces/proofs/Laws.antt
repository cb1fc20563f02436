-- Laws of `overlaid`, the bytes of a piece laid over those that are kept: it recurses on both, and so does each law. Assumes nothing.
use Rattle.std.proofs.Common.{◌≡◌, ℕ, ◌+◌, ◌-◌, List, [], ◌∷◌, ◌++◌, length, take, drop, zero, suc, refl, ap}
use Rattle.std.proofs.Math.Seq.{take-nil, drop-nil}
use native.Mathlib.Nat.{suc-add, zero-add, sub-zero, zero-sub}
use native.Mathlib.Numerals.{unary_clauses}
use Rattle.pieces.specs.Fed.{overlaid}

-- nothing laid over
pub over_none : (k : List ℕ) (at : ℕ) → overlaid k at [] ≡ k
unfolding overlaid
over_none [] at = refl
over_none (x ∷ k) zero = refl
over_none (x ∷ k) (suc at) = ap (λ (l : List ℕ). x ∷ l) (over_none k at)

-- from the front on
over-front : (k p : List ℕ) → overlaid k 0 p ≡ take (length k) p ++ drop (length p) k
unfolding overlaid
over-front [] p = rw drop-nil refl
over-front (x ∷ k) [] = refl
over-front (x ∷ k) (y ∷ p) = ap (λ l. y ∷ l) (over-front k p)

-- what stands before the piece, as much of the piece as there is room for, and what stands behind it
pub over_laid : (k : List ℕ) (at : ℕ) (p : List ℕ) → overlaid k at p ≡ take at k ++ (take (length k - at) p ++ drop (at + length p) k)
unfolding overlaid
over_laid [] at p = rw (take-nil, drop-nil, zero-sub) refl
over_laid (x ∷ k) zero p = rw (zero-add, sub-zero) (over-front (x ∷ k) p)
over_laid (x ∷ k) (suc at) p = simp unary_clauses (rw suc-add (ap (λ l. x ∷ l) (over_laid k at p)))
