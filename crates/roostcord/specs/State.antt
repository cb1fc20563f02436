-- A pieces state in lent bytes: the count taken in two bytes, low byte first, and the bytes that are kept. A count has twelve bits;
-- no feeding leads past the longest image. The bit above them is set where the edition is 1. Assumes nothing.
use Rattle.std.specs.Prelude.{ℕ, ◌+◌, ◌*◌, ◌/◌, ◌%◌, List, [], ◌∷◌, ◌++◌, Bool, eqb, ltb, length, get_or, take, drop, Ok, Err}
use Rattle.reading.specs.Pick.{pick}
use Rattle.reading.specs.declared.Refusal.TheVariants.{ListTooShort}
use Rattle.reading.specs.Refusal.{Answer, onward}
use Rattle.rules.specs.declared.Edition.{Edition}
use Rattle.rules.specs.declared.Edition.TheVariants.{First, Second}
use Rattle.pieces.specs.declared.Pieces.{Pieces}
use Rattle.pieces.specs.Fed.{kept_bytes, fed_by, fresh_pieces, kept_of}
use Rattle.pieces.specs.Run.{Call}
use Rattle.roostcord.specs.Chosen.{chosen, chosen_after}

abbrev pub state_size : ℕ
state_size = 2 + kept_bytes

-- fewer bytes than a state has
abbrev pub short : List ℕ → Bool
short s = ltb (length s) state_size

abbrev pub count_in : List ℕ → ℕ
count_in s = get_or s 0 0 + 256 * (get_or s 1 0 % 16)

abbrev pub edition_in : List ℕ → Edition
edition_in s = pick (eqb (get_or s 1 0 / 16 % 2) 1) First Second

-- an edition's bit, as it stands in the second byte
abbrev pub mark : Edition → ℕ
mark First = 16
mark Second = 0

-- the state that the bytes are, and the bytes that a state is
abbrev pub state_in : List ℕ → Pieces
state_in s = record { kept = take kept_bytes (drop 2 s); taken = count_in s; edition = edition_in s }

abbrev pub state_bytes : Pieces → List ℕ
state_bytes p = p.taken % 256 ∷ (p.taken / 256 + mark p.edition) ∷ p.kept

-- what has arrived, as far as it is kept
abbrev pub arrived_in : List ℕ → List ℕ
arrived_in s = kept_of (state_in s)

-- a question to a state: refusal 4 where there is none
abbrev pub asked : {A : Type 0} → List ℕ → Answer A → Answer A
asked s answer = pick (short s) (Err ListTooShort) answer

unfoldable pub fresh_in : (number : ℕ) → List ℕ → Answer ℕ
fresh_in n s = chosen n (λ e. asked s (Ok 0))

unfoldable pub fresh_after : (number : ℕ) → List ℕ → List ℕ
fresh_after n s = chosen_after n s (λ e. pick (short s) s (state_bytes (fresh_pieces e) ++ drop state_size s))

unfoldable pub feed_in : List ℕ → (offset : ℕ) → List ℕ → Answer ℕ
feed_in s offset piece = asked s (fed_by (state_in s) offset piece).answer

-- the bytes of the later state where the piece was taken, and else the bytes as they were
unfoldable pub feed_after : List ℕ → (offset : ℕ) → List ℕ → List ℕ
feed_after s offset piece =
    pick (short s) s
    (onward (λ t. s) (fed_by (state_in s) offset piece).answer (λ n. state_bytes (fed_by (state_in s) offset piece).state ++ drop state_size s))

unfoldable pub taken_in : List ℕ → Answer ℕ
taken_in s = asked s (Ok (count_in s))

-- the bytes that a run of calls leads to, and the answers that the bytes give
unfoldable pub fed_bytes : List ℕ → List Call → List ℕ
fed_bytes s [] = s
fed_bytes s (c ∷ cs) = fed_bytes (feed_after s c.offset c.piece) cs

unfoldable pub said_bytes : List ℕ → List Call → List (Answer ℕ)
said_bytes s [] = []
said_bytes s (c ∷ cs) = feed_in s c.offset c.piece ∷ said_bytes (feed_after s c.offset c.piece) cs
