-- What stands behind a report is not looked at, be it accepted or refused: bytes that are as many as their first two announce are read from
-- those alone. Refusal 9 is for the others, and for them alone. Assumes nothing.
use Rattle.std.specs.Prelude.{Ok, Err}
use Prim.Native.Nat.{ℕ, zero, suc, ◌+◌, ◌*◌, ◌<◌, ◌≤◌}
use mathlib.Core.Path.{◌≡◌, refl, ap₂, sym}
use mathlib.Core.List.{List, ◌∷◌, ◌++◌}
use mathlib.Core.Bool.{Bool, true, false}
use native.Mathlib.Omega.{arith}
use borrow.Author.Tests.{ltb-false, eqb-true, eqb-false, le-ltb}
use lib.Dec.{eqb, ltb}
use lib.ListN.{length, get_or, drop, take, length-append, get_or-append}
use lib.Seq.{get_or-drop, get_or-take, length-take-le}
use Rattle.reading.specs.Pick.{pick}
use Rattle.reading.specs.declared.Refusal.TheVariants.{ReportCut, ReportMalformed, ReportVersion}
use Rattle.reading.specs.Refusal.{Answer}
use Rattle.reading.proofs.Picked.{by-test, either}
use Rattle.findings.specs.declared.Finding.{Finding}
use Rattle.rules.specs.Table.{all_in}
use Rattle.report.specs.Form.{finding_size, head_size, form_version, rest_of, findings_in}
use Rattle.report.proofs.Turns.{Agree, finding-agrees}
use Rattle.report.specs.Read.{Content, length_in, content_in, content_of, reading_of, read_of, read_after}

-- as many bytes as the first two announce
pub record Whole (s : List ℕ) : Type 0 where
  pub told : 2 ≤ length s
  pub all : 2 + length_in s ≤ length s

agree-drop : (m k : ℕ) (s t : List ℕ) → Agree (m + k) s t → Agree k (drop m s) (drop m t)
agree-drop m k s t a i h = rw (get_or-drop m s i 0, get_or-drop m t i 0) (a (m + i) (omega arith))

findings-agree : (n : ℕ) (s t : List ℕ) → Agree (finding_size * n) s t → findings_in s n ≡ findings_in t n
findings-agree zero s t a = refl
findings-agree (suc n) s t a =
    ap₂ ◌∷◌ (finding-agrees s t (λ i h. a i (omega arith)))
    (findings-agree n (drop finding_size s) (drop finding_size t) (agree-drop finding_size (finding_size * n) s t (λ i h. a i (omega arith))))

positive : (n : ℕ) → (n ≡ 0 → ⊥) → 0 < n
positive zero h = absurd (h refl)
positive (suc n) h = omega arith

-- a test that both pass alike, with ends that are alike
ends : {A : Type 0} (b : Bool) {x y z w : A} → (b ≡ true → x ≡ z) → (b ≡ false → y ≡ w) → pick b x y ≡ pick b z w
ends true p q = p refl
ends false p q = q refl

module _ (s t : List ℕ) (w : Whole s) (h : 2 + length_in s ≤ length t) (a : Agree (2 + length_in s) s t) where
  -- from the flags on, which three bytes behind the length reach
  abbrev fromFlags : List ℕ → Answer Content
  fromFlags u =
      pick (ltb 3 (get_or u 3 0)) (Err ReportMalformed)
      (pick (ltb 15 (get_or u 4 0)) (Err ReportMalformed)
      (pick (eqb (length_in s) (rest_of (get_or u 4 0)))
      (pick (all_in (findings_in (drop head_size u) (get_or u 4 0))) (Ok (content_in u)) (Err ReportMalformed))
      (Err ReportMalformed)))

  body-agrees : 3 ≤ length_in s → fromFlags s ≡ fromFlags t
  body-agrees k =
      rw (a 3 (omega arith), a 4 (omega arith))
      (ends (ltb 3 (get_or t 3 0)) (λ _. refl) (λ _. ends (ltb 15 (get_or t 4 0)) (λ _. refl) (λ _. ends (eqb (length_in s) (rest_of (get_or t 4 0)))
      (λ size.
      let z = eqb-true (length_in s) (rest_of (get_or t 4 0)) size in
      rw (findings-agree (get_or t 4 0) (drop head_size s) (drop head_size t) (agree-drop head_size (finding_size * get_or t 4 0) s t (λ i q. a i (omega arith)))))
      (λ _. refl))))

  -- the announced bytes are all that is looked at
  pub announced-alone : content_of s ≡ content_of t
  unfolding content_of
  announced-alone =
      let n : length_in t ≡ length_in s = rw (a 0 (omega arith), a 1 (omega arith)) in
      rw (le-ltb (length s) 2 w.told, le-ltb (length s) (2 + length_in s) w.all, le-ltb (length t) 2 (omega arith), le-ltb (length t) (2 + length_in t) (omega arith), n)
      (ends (eqb (length_in s) 0) (λ _. refl) (λ some.
      let k = positive (length_in s) (eqb-false (length_in s) 0 some) in
      rw (a 2 (omega arith))
      (ends (eqb (get_or t 2 0) form_version) (λ _. ends (ltb (length_in s) 3) (λ _. refl) (λ three. body-agrees (ltb-false (length_in s) 3 three))) (λ _. refl))))

-- ---- refusal 9
abbrev NotCut : Answer Content → Type 0
NotCut x = x ≡ Err ReportCut → ⊥

pub whole-not-cut : (s : List ℕ) → Whole s → content_of s ≡ Err ReportCut → ⊥
unfolding content_of
whole-not-cut s w =
    let value : NotCut (Ok (content_in s)) = λ z. cc in
    let ten : NotCut (Err ReportVersion) = λ z. cc in
    let eleven : NotCut (Err ReportMalformed) = λ z. cc in
    rw (le-ltb (length s) 2 w.told, le-ltb (length s) (2 + length_in s) w.all)
    (either NotCut (eqb (length_in s) 0) eleven
    (either NotCut (eqb (get_or s 2 0) form_version)
    (either NotCut (ltb (length_in s) 3) eleven
    (either NotCut (ltb 3 (get_or s 3 0)) eleven
    (either NotCut (ltb 15 (get_or s 4 0)) eleven
    (either NotCut (eqb (length_in s) (rest_of (get_or s 4 0)))
    (either NotCut (all_in (findings_in (drop head_size s) (get_or s 4 0))) value eleven)
    eleven))))
    ten))

pub not-cut-whole : (s : List ℕ) → (content_of s ≡ Err ReportCut → ⊥) → Whole s
unfolding content_of
not-cut-whole s h =
    by-test (ltb (length s) 2)
    (λ e. absurd (h (rw e)))
    (λ e. by-test (ltb (length s) (2 + length_in s))
    (λ f. absurd (h (rw (e, f))))
    (λ f. record { told = ltb-false (length s) 2 e; all = ltb-false (length s) (2 + length_in s) f }))

-- ---- of every report that refusal 9 is not for
module _ (s : List ℕ) (w : Whole s) where
  pub announced : content_of s ≡ content_of (take (2 + length_in s) s)
  announced =
      announced-alone s (take (2 + length_in s) s) w (omega (arith, length-take-le (2 + length_in s) s w.all))
      (λ i h. sym (get_or-take (2 + length_in s) s i 0 h))

  module _ (t : List ℕ) where
    pub behind : content_of (s ++ t) ≡ content_of s
    behind = sym (announced-alone s (s ++ t) w (omega (arith, w.all, length-append s t)) (λ i h. sym (get_or-append s t 0 i (omega (arith, w.all)))))

    -- what the calls answer, and the lent list afterwards
    pub reading-behind : reading_of (s ++ t) ≡ reading_of s
    reading-behind = rw behind

    pub read_behind : (len : ℕ) → read_of (s ++ t) len ≡ read_of s len
    unfolding read_of
    read_behind len = rw behind

    pub read-after-behind : (list : List Finding) → read_after (s ++ t) list ≡ read_after s list
    unfolding read_after
    read-after-behind list = rw behind
