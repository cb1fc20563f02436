-- `spdlint::read_full` meets its contract: one more read goes on where those before it ended. The search leaves it open. Assumes nothing.
use Rattle.std.proofs.Common.{◌≡◌, ℕ, ◌+◌, ◌≤◌, List, ◌++◌, rules, length, take, sym, ap, ◌∙◌, subst, length-take-le}
use Rattle.std.proofs.KnownBytes.{Consumes-trans}
use Rattle.std.specs.Io.KnownBytes.{Consumes}
use borrow.Rule.Slice.PartMut.{put_mid, post_of}
use lib.Seq.{take-append-le, take-append-add}
use Rattle.spdlint.proofs.read_full.Goals as goal

-- the front of a buffer to whose part from `got` on something was written
further : (got k n : ℕ) (buffer part : List ℕ) → got ≤ length buffer → n ≤ length part → take got buffer ++ take n part ≡ take (got + n) (put_mid got k buffer part)
further got k n buffer part h fits =
    let rest = part ++ post_of got k buffer in
    ap (λ (l : List ℕ). take got buffer ++ l) (sym (take-append-le n part (post_of got k buffer) fits))
    ∙ sym (take-append-add (take got buffer) rest n)
    ∙ ap (λ (m : ℕ). take (m + n) (put_mid got k buffer part)) (length-take-le got buffer h)

pub loop-got-preserved : goal.loop-got-preserved
loop-got-preserved g c =
    (search rules, search rules, subst (Consumes _ _) (further _ _ _ _ _ c.loop-got.invariant.0 c.in_ok-n.ensures.bound.0) (Consumes-trans _ _ _ _ _ c.loop-got.invariant.2 c.in_ok-n.ensures.bytes.0))
