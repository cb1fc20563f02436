-- A run of calls from a fresh state leads to a state that holds the join of the pieces taken. Which those are goes by the calls alone, so
-- how the bytes were cut does not matter. Assumes nothing.
use Prim.Native.Nat.{ℕ, ◌+◌, ◌≤◌}
use mathlib.Core.Path.{◌≡◌, refl, sym, ap, ◌∙◌}
use mathlib.Core.List.{List, [], ◌∷◌, ◌++◌, append-nil, append_assoc}
use native.Mathlib.Omega.{arith}
use lib.ListN.{length, length-append}
use borrow.Author.Tests.{eq-eqb, le-leb}
use Rattle.reading.proofs.Picked.{by-test}
use Rattle.rules.specs.declared.Edition.{Edition}
use Rattle.pieces.specs.Fed.{fresh_pieces, longest, Holds}
use Rattle.pieces.specs.Run.{Call, takes, taken_from, join, image, run_from, run, answers_from, said_from, in_order}
use Rattle.pieces.specs.declared.Pieces.{Pieces}
use Rattle.pieces.proofs.Holding.{fresh_holds, taken, refused, answered, same-edition, same-state}

-- what a run does with a state that holds b: the pieces taken are held too, and each call is answered by what was held before it
record Ran (s : Pieces) (b : List ℕ) (cs : List Call) : Type 0 where
  holds : Holds (run_from s cs) (b ++ join (taken_from (length b) cs))
  says : said_from s cs ≡ answers_from (length b) cs

ran : (cs : List Call) {s : Pieces} {b : List ℕ} → Holds s b → Ran s b cs
unfolding run_from join taken_from said_from answers_from
ran [] h = record { holds = rw append-nil h; says = refl }
ran (c ∷ cs) {s} {b} h = by-test (takes (length b) c)
    (λ e.
    let r = ran cs (taken h c e) in
    record {
      holds = rw e (rw (append_assoc, length-append) at r.holds);
      says = rw e (λ i. answered h c i ∷ (rw length-append at r.says) i);
    })
    (λ e.
    let r = ran cs h in
    let same = refused s c (rw h.count e) in
    record {
      holds = rw (e, same) r.holds;
      says = rw (e, same) (λ i. answered h c i ∷ r.says i);
    })

-- the run theorem, for any list of calls
pub run_holds : (e : Edition) (cs : List Call) → Holds (run e cs) (image cs)
run_holds e cs = (ran cs (fresh_holds e)).holds

-- the answers go by the calls alone
pub run-says : (e : Edition) (cs : List Call) → said_from (fresh_pieces e) cs ≡ answers_from 0 cs
run-says e cs = (ran cs (fresh_holds e)).says

-- and the edition stays
from-edition : (cs : List Call) (s : Pieces) → (run_from s cs).edition ≡ s.edition
unfolding run_from
from-edition [] s = refl
from-edition (c ∷ cs) s = from-edition cs _ ∙ same-edition s c

pub run-edition : (e : Edition) (cs : List Call) → (run e cs).edition ≡ e
run-edition e cs = from-edition cs (fresh_pieces e)

-- two runs of one edition that bring the same bytes lead to the same state, however they were cut
pub run-same : (e : Edition) (cs ds : List Call) → image cs ≡ image ds → run e cs ≡ run e ds
run-same e cs ds h = same-state (run_holds e cs) (rw h (run_holds e ds)) (run-edition e cs ∙ sym (run-edition e ds))

-- pieces sent in order are all taken
pub taken_from-in_order : (n : ℕ) (ps : List (List ℕ)) → n + length (join ps) ≤ longest → taken_from n (in_order n ps) ≡ ps
unfolding taken_from in_order join
taken_from-in_order n [] h = refl
taken_from-in_order n (p ∷ ps) h = grind (arith, eq-eqb, le-leb, length-append, taken_from-in_order (n + length p) ps)

-- and bring their join
pub in-order-image : (ps : List (List ℕ)) → length (join ps) ≤ longest → image (in_order 0 ps) ≡ join ps
in-order-image ps h = ap join (taken_from-in_order 0 ps (omega arith))
