-- The rule for a piece, by its three cases, and what an answer says of the call. Assumes nothing.
use Rattle.std.proofs.Common.{◌≡◌, ℕ, ◌+◌, ◌≤◌, Ok, Err, length, refl, arith}
use lib.Dec.{eqb, leb}
use borrow.Author.Tests.{leb-true}
use Rattle.reading.specs.Pick.{and}
use Rattle.reading.specs.Refusal.{Answer}
use Rattle.reading.specs.declared.Refusal.{Refusal}
use Rattle.pieces.specs.Fed.{longest, accepted_at}
use Rattle.pieces.specs.Run.{Call, takes}

module _ (n offset len : ℕ) where
  -- a count that is given is that with the piece, and within the longest image
  pub given : {m : ℕ} → accepted_at n offset len ≡ Ok m → (m ≡ n + len) × (m ≤ longest)
  given {m} e = grind (arith, leb-true)

-- a piece is taken where its offset is the count taken and the total stays within the longest image
pub takes-when : (n : ℕ) (c : Call) → takes n c ≡ and (eqb c.offset n) (leb (n + length c.piece) longest)
takes-when n c = grind arith

-- an answer has two ends
pub by_answer : {P : Type 0} (x : Answer ℕ) → ((m : ℕ) → x ≡ Ok m → P) → ((t : Refusal) → x ≡ Err t → P) → P
by_answer (Ok m) f g = f m refl
by_answer (Err t) f g = g t refl
