-- Document 01, "Pieces": what feeding a piece to a state gives, one answer and one later state; the edition as document 02, 2026-05, has it.
-- Assumes nothing.
use Rattle.std.specs.Prelude.{ℕ, zero, suc, ◌+◌, ◌≤◌, ◌≡◌, List, [], ◌∷◌, length, take, replicate, eqb, leb, Ok, Err}
use Rattle.reading.specs.Pick.{pick}
use Rattle.reading.specs.declared.Refusal.TheVariants.{TooLong, WrongOffset}
use Rattle.reading.specs.Refusal.{Answer, onward}
use Rattle.rules.specs.declared.Edition.{Edition}
use Rattle.rules.specs.declared.Edition.TheVariants.{Second}
use Rattle.rules.specs.Lint.{edition_of}
use Rattle.pieces.specs.declared.Pieces.{Pieces}
use Rattle.pieces.specs.declared.Fed.{Fed}

-- how many of an image's first bytes are kept, and the most bytes that it has
abbrev pub kept_bytes : ℕ
kept_bytes = 555

abbrev pub longest : ℕ
longest = 2048

abbrev pub fresh_pieces : Edition → Pieces
fresh_pieces e = record { kept = replicate kept_bytes 0; taken = 0; edition = e }

-- the bytes k with the bytes p laid over them from place `at` on; what would stand past k's end is dropped
unfoldable pub overlaid : List ℕ → ℕ → List ℕ → List ℕ
overlaid [] at p = []
overlaid (k ∷ ks) (suc at) p = k ∷ overlaid ks at p
overlaid (k ∷ ks) zero [] = k ∷ ks
overlaid (k ∷ ks) zero (x ∷ p) = x ∷ overlaid ks zero p

-- a fresh state of the edition that a number stands for; where it stands for none, refusal 14 and edition 2's
abbrev pub fresh_by : (number : ℕ) → Fed
fresh_by n = onward (λ t. record { state = fresh_pieces Second; answer = Err t }) (edition_of n) (λ e. record { state = fresh_pieces e; answer = Ok 0 })

-- the rule for a piece of so many bytes at an offset, after so many bytes taken: the offset is looked at before the length
abbrev pub accepted_at : (taken offset len : ℕ) → Answer ℕ
accepted_at taken offset len =
    pick (eqb offset taken)
    (pick (leb (taken + len) longest) (Ok (taken + len)) (Err TooLong))
    (Err (WrongOffset taken))

-- the state after an answer: with the piece and of the same edition, or as it was
abbrev pub state_after : Pieces → List ℕ → Answer ℕ → Pieces
state_after s piece answer = onward (λ t. s) answer (λ total. record { kept = overlaid s.kept s.taken piece; taken = total; edition = s.edition })

abbrev pub fed_by : Pieces → (offset : ℕ) → List ℕ → Fed
fed_by s offset piece =
    let answer = accepted_at s.taken offset (length piece) in
    record { state = state_after s piece answer; answer = answer }

-- what is kept of the bytes that have arrived: all of them while they are few
abbrev pub kept_of : Pieces → List ℕ
kept_of s = take s.taken s.kept

-- the first n bytes of b, and 0 for those that b does not have
unfoldable pub padded : ℕ → List ℕ → List ℕ
padded zero b = []
padded (suc n) [] = 0 ∷ padded n []
padded (suc n) (x ∷ b) = x ∷ padded n b

-- s holds the bytes b
pub record Holds (s : Pieces) (b : List ℕ) : Type 0 where
  pub count : s.taken ≡ length b
  pub fits : length b ≤ longest
  pub first : s.kept ≡ padded kept_bytes b
