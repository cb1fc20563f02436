-- What a state holds: a fresh one nothing, and one that took a piece that piece too. A state that refused a piece is as it was.
-- Assumes nothing.
use Rattle.std.proofs.Common.{◌≡◌, ℕ, zero, suc, ◌≤◌, true, false, Ok, List, [], ◌∷◌, ◌++◌, length, replicate, refl, sym, ap, ◌∙◌, arith, length-append}
use borrow.Author.Tests.{eq-eqb, le-leb, leb-true}
use Rattle.rules.specs.declared.Edition.{Edition}
use Rattle.pieces.specs.Fed.{overlaid, fed_by, fresh_pieces, kept_bytes, longest, padded, Holds}
use Rattle.pieces.specs.Run.{Call, takes, answer_at}
use Rattle.pieces.specs.declared.Pieces.{Pieces}
use Rattle.pieces.proofs.Laws.{over_none}

padded-none : (n : ℕ) → padded n [] ≡ replicate n 0
unfolding padded
padded-none zero = refl
padded-none (suc n) = ap (λ (l : List ℕ). 0 ∷ l) (padded-none n)

-- a piece laid over what is kept, past the bytes that are held
over-padded : (n : ℕ) (b p : List ℕ) → overlaid (padded n b) (length b) p ≡ padded n (b ++ p)
unfolding overlaid padded
over-padded zero b p = refl
over-padded (suc n) [] [] = refl
over-padded (suc n) [] (y ∷ p) = ap (λ (l : List ℕ). y ∷ l) (over-padded n [] p)
over-padded (suc n) (x ∷ b) p = ap (λ (l : List ℕ). x ∷ l) (over-padded n b p)

pub fresh_holds : (e : Edition) → Holds (fresh_pieces e) []
fresh_holds e = record { count = refl; fits = omega arith; first = sym (padded-none kept_bytes) }

-- a call that is not taken leaves the state as it was
pub refused : (s : Pieces) (c : Call) → takes s.taken c ≡ false → (fed_by s c.offset c.piece).state ≡ s
refused s c e = grind arith

-- an empty piece at the right offset is taken and changes nothing
pub empty-piece : (s : Pieces) → s.taken ≤ longest → fed_by s s.taken [] ≡ record { state = s; answer = Ok s.taken }
empty-piece s h = grind (arith, over_none, eq-eqb, le-leb)

-- the piece of a call that is taken is held behind what was held
pub taken : {s : Pieces} {b : List ℕ} → Holds s b → (c : Call) → takes (length b) c ≡ true → Holds (fed_by s c.offset c.piece).state (b ++ c.piece)
taken {s} {b} h c e = record {
  count = grind (arith, h.count, length-append);
  fits = grind (arith, length-append, leb-true);
  first = grind (arith, h.count, h.first, over-padded);
}

-- the answer goes by the count held and the call
pub answered : {s : Pieces} {b : List ℕ} → Holds s b → (c : Call) → (fed_by s c.offset c.piece).answer ≡ answer_at (length b) c
answered h c = rw h.count refl

-- no answer changes the edition
pub same-edition : (s : Pieces) (c : Call) → (fed_by s c.offset c.piece).state.edition ≡ s.edition
same-edition s c = grind arith

-- what is held, with the edition, says what the state is
pub same-state : {s t : Pieces} {b : List ℕ} → Holds s b → Holds t b → s.edition ≡ t.edition → s ≡ t
same-state h k e i = record { kept = (h.first ∙ sym k.first) i; taken = (h.count ∙ sym k.count) i; edition = e i }
