-- A question that looks within the bytes that are kept is answered by them as by the whole image: so is every question of a state.
-- Assumes nothing.
use Prim.Native.Nat.{ℕ, zero, suc, ◌≤◌}
use mathlib.Core.Path.{◌≡◌, refl, sym, ap, ◌∙◌}
use mathlib.Core.Bool.{Bool, true}
use mathlib.Core.List.{List, [], ◌∷◌}
use native.Mathlib.Omega.{arith}
use lib.ListN.{length, take}
use lib.Dec.{leb, ltb}
use borrow.Author.Tests.{le-leb, lt-ltb, leb-true, ltb-true}
use Rattle.reading.specs.Pick.{pick}
use Rattle.reading.specs.View.{View, view, clip, Within}
use Rattle.reading.proofs.Clip.{within}
use Rattle.decoders.specs.Identity.{identity_of}
use Rattle.decoders.specs.Timing.{timings_of}
use Rattle.decoders.proofs.Reach.{identity-reach, timings-reach}
use Rattle.manufacturing.specs.Block.{manufacturing_of}
use Rattle.manufacturing.specs.Part.{part_of, part_kept_of}
use Rattle.manufacturing.specs.declared.DateMode.{DateMode}
use Rattle.manufacturing.proofs.Reach.{manufacturing-reach, part-reach, part-kept-reach}
use Rattle.crc.specs.Base.{base_crc_of}
use Rattle.crc.proofs.Reach.{crc-reach}
use Rattle.findings.specs.Hold.{holding}
use Rattle.rules.specs.declared.Edition.{Edition}
use Rattle.rules.specs.Lint.{findings_of, lint_of}
use Rattle.rules.proofs.Reach.{lint-reach}
use Rattle.rules.proofs.Never.{at-most-fifteen}
use Rattle.pieces.specs.Fed.{kept_bytes, kept_of, padded, Holds}
use Rattle.pieces.specs.Run.{Call, run, image}
use Rattle.pieces.specs.declared.Pieces.{Pieces}
use Rattle.pieces.proofs.Running.{run_holds, run-edition, run-same}

-- as many of the padded bytes as there are: the first n
take-padded : (n : ℕ) (b : List ℕ) → take (length b) (padded n b) ≡ take n b
unfolding padded
take-padded zero [] = refl
take-padded zero (x ∷ b) = refl
take-padded (suc n) [] = refl
take-padded (suc n) (x ∷ b) = ap (λ (l : List ℕ). x ∷ l) (take-padded n b)

pub kept-first : {s : Pieces} {b : List ℕ} → Holds s b → kept_of s ≡ take kept_bytes b
kept-first {b = b} h = rw (h.count, h.first) (take-padded kept_bytes b)

-- the law, for a definition d that looks within the bytes kept
pub asked : {X : Type 0} {d : View → X} → Within kept_bytes d → {s : Pieces} {b : List ℕ} → Holds s b → d (view (kept_of s)) ≡ d (view b)
asked {d = d} w {b = b} h = ap (λ (l : List ℕ). d (view l)) (kept-first h) ∙ within d kept_bytes w b

-- the first n of the first m bytes are the first n
module _ (n m : ℕ) (h : n ≤ m) where
  below_both : (k : ℕ) (t : Bool) → pick (leb k n) (pick (leb k m) t true) true ≡ pick (leb k n) t true
  below_both k t = grind (arith, le-leb, leb-true)

  byte-both : (i x : ℕ) → pick (ltb i n) (pick (ltb i m) x 0) 0 ≡ pick (ltb i n) x 0
  byte-both i x = grind (arith, lt-ltb, ltb-true)

  clip-clip : (v : View) → clip n (clip m v) ≡ clip n v
  clip-clip v i = record { below = λ k. below_both k (v.below k) i; byte = λ k. byte-both k (v.byte k) i }

  -- what looks within fewer bytes looks within more
  pub within_more : {X : Type 0} {d : View → X} → Within n d → Within m d
  within_more {d = d} w v = w v ∙ sym (w (clip m v) ∙ ap d (clip-clip v))

-- every question of a state, after any run of calls, is answered for the bytes that the run brought
module _ (e : Edition) (cs : List Call) where
  asked-run : {X : Type 0} {d : View → X} {n : ℕ} → n ≤ kept_bytes → Within n d → d (view (kept_of (run e cs))) ≡ d (view (image cs))
  asked-run {n = n} h w = asked (within_more n kept_bytes h w) (run_holds e cs)

  pub run-identity : identity_of (kept_of (run e cs)) ≡ identity_of (image cs)
  unfolding identity_of
  run-identity = asked-run (omega arith) identity-reach

  pub run-timings : timings_of (kept_of (run e cs)) ≡ timings_of (image cs)
  unfolding timings_of
  run-timings = asked-run (omega arith) timings-reach

  pub run-manufacturing : (mode : DateMode) → manufacturing_of mode (kept_of (run e cs)) ≡ manufacturing_of mode (image cs)
  unfolding manufacturing_of
  run-manufacturing mode = asked-run (omega arith) (manufacturing-reach mode)

  pub run-part : part_of (kept_of (run e cs)) ≡ part_of (image cs)
  unfolding part_of
  run-part = asked-run (omega arith) part-reach

  pub run-part-kept : part_kept_of (kept_of (run e cs)) ≡ part_kept_of (image cs)
  unfolding part_kept_of
  run-part-kept = asked-run (omega arith) part-kept-reach

  pub run-crc : base_crc_of (kept_of (run e cs)) ≡ base_crc_of (image cs)
  unfolding base_crc_of
  run-crc = asked-run (omega arith) crc-reach

  pub run-findings : findings_of e (kept_of (run e cs)) ≡ findings_of e (image cs)
  run-findings = asked-run (omega arith) (lint-reach e)

  pub run-lint : lint_of e (kept_of (run e cs)) ≡ lint_of e (image cs)
  run-lint i = record { identity = run-identity i; timings = run-timings i; findings = holding (run-findings i) }

  -- as the state asks it, under the edition that it has
  pub run-lint-kept : lint_of (run e cs).edition (kept_of (run e cs)) ≡ lint_of e (image cs)
  run-lint-kept = ap (λ (d : Edition). lint_of d (kept_of (run e cs))) (run-edition e cs) ∙ run-lint

  -- and there are never more than fifteen
  pub run-few : length (findings_of e (kept_of (run e cs))) ≤ 15
  run-few = at-most-fifteen e (kept_of (run e cs))

  pub run-count : (run e cs).taken ≡ length (image cs)
  run-count = (run_holds e cs).count

-- two runs of one edition whose taken pieces join to the same bytes give the same answer to whatever is asked of their states
pub same_answer : {X : Type 0} (ask : Pieces → X) (e : Edition) (cs ds : List Call) → image cs ≡ image ds → ask (run e cs) ≡ ask (run e ds)
same_answer ask e cs ds h = ap ask (run-same e cs ds h)
