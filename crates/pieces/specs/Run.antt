-- A run of calls of `feed`. Which of its pieces are taken, and what each call is answered, is said of the calls alone. Assumes nothing.
use Rattle.std.specs.Prelude.{ℕ, ◌+◌, Bool, true, false, List, [], ◌∷◌, ◌++◌, length}
use Rattle.reading.specs.Pick.{pick}
use Rattle.reading.specs.Refusal.{Answer, onward}
use Rattle.rules.specs.declared.Edition.{Edition}
use Rattle.pieces.specs.Fed.{fresh_pieces, accepted_at, fed_by}
use Rattle.pieces.specs.declared.Pieces.{Pieces}

pub record Call : Type 0 where
  pub offset : ℕ
  pub piece : List ℕ

-- the answer to a call after n bytes, and whether its piece is taken
abbrev pub answer_at : ℕ → Call → Answer ℕ
answer_at n c = accepted_at n c.offset (length c.piece)

abbrev pub takes : ℕ → Call → Bool
takes n c = onward (λ t. false) (answer_at n c) (λ total. true)

-- the pieces that are taken of a run of calls, after n bytes
unfoldable pub taken_from : ℕ → List Call → List (List ℕ)
taken_from n [] = []
taken_from n (c ∷ cs) = pick (takes n c) (c.piece ∷ taken_from (n + length c.piece) cs) (taken_from n cs)

-- pieces, joined in order
unfoldable pub join : List (List ℕ) → List ℕ
join [] = []
join (p ∷ ps) = p ++ join ps

-- the bytes that a run of calls brings to a fresh state
abbrev pub image : List Call → List ℕ
image cs = join (taken_from 0 cs)

-- the state that a run of calls leads to
unfoldable pub run_from : Pieces → List Call → Pieces
run_from s [] = s
run_from s (c ∷ cs) = run_from (fed_by s c.offset c.piece).state cs

-- from a fresh one of an edition
abbrev pub run : Edition → List Call → Pieces
run e cs = run_from (fresh_pieces e) cs

-- the answers to a run of calls after n bytes
unfoldable pub answers_from : ℕ → List Call → List (Answer ℕ)
answers_from n [] = []
answers_from n (c ∷ cs) = answer_at n c ∷ answers_from (pick (takes n c) (n + length c.piece) n) cs

-- the answers that the states give
unfoldable pub said_from : Pieces → List Call → List (Answer ℕ)
said_from s [] = []
said_from s (c ∷ cs) = (fed_by s c.offset c.piece).answer ∷ said_from (fed_by s c.offset c.piece).state cs

-- pieces sent one after the other, the first at n
unfoldable pub in_order : ℕ → List (List ℕ) → List Call
in_order n [] = []
in_order n (p ∷ ps) = record { offset = n; piece = p } ∷ in_order (n + length p) ps
