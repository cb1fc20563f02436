-- Reading gives back what was written, whatever stands behind it; and what is read as a report is the report of what was read. A finding's
-- bytes say all of it but the severity, which its code gives. Assumes nothing.
use Rattle.std.specs.Prelude.{Ok, Err}
use Prim.Native.Nat.{ℕ, zero, suc, ◌+◌, ◌*◌, ◌/◌, ◌%◌, ◌<◌, ◌≤◌}
use mathlib.Core.Path.{◌≡◌, refl, ap, ap₂, sym, ◌∙◌, subst}
use mathlib.Core.List.{List, [], ◌∷◌, ◌++◌, append_assoc}
use mathlib.Core.Bool.{Bool, true, false}
use native.Mathlib.Omega.{arith}
use native.Mathlib.Nat.{not-suc-le-zero, le_of_suc-le-suc}
use borrow.Author.Tests.{eqb-true, ltb-false}
use lib.Dec.{eqb, ltb}
use lib.ListN.{length, get_or, drop, take, length-append, length-drop, take-append-drop}
use lib.Seq.{get_or-drop, drop-drop}
use Rattle.reading.specs.Bytes.{AllBytes}
use Rattle.reading.specs.Pick.{pick}
use Rattle.reading.specs.Refusal.{Answer}
use Rattle.reading.specs.declared.Refusal.{Refusal}
use Rattle.reading.proofs.Picked.{both}
use Rattle.findings.specs.declared.Finding.{Finding}
use Rattle.findings.specs.Same.{same_severity}
use Rattle.findings.proofs.Same.{same-severity-is}
use Rattle.rules.specs.Table.{in_table, all_in}
use Rattle.report.specs.Form.{finding_size, head_size, form_version, finding_bytes, body_of, head_of, report_of, rest_of, severity_for, finding_in, findings_in}
use Rattle.report.specs.Read.{Content, length_in, content_in, content_of, contained}
use Rattle.report.specs.Write.{write_of, written_over}
use Rattle.report.proofs.Form.{length-body, length-report}
use Rattle.report.proofs.Turns.{length-findings}
use Rattle.report.proofs.Stated.{passed}

-- what the form takes
pub record Reportable (flags : ℕ) (l : List Finding) : Type 0 where
  pub flagged : flags ≤ 3
  pub few : length l ≤ 15
  pub listed : all_in l ≡ true

-- ---- what was written reads back
number-back : (n : ℕ) → n / 16777216 * 16777216 + n / 65536 % 256 * 65536 + n / 256 % 256 * 256 + n % 256 ≡ n
number-back n = omega arith

severity-back : (f : Finding) → in_table f ≡ true → severity_for f.code ≡ f.severity
unfolding in_table
severity-back f e = same-severity-is (severity_for f.code) f.severity (both (same_severity (severity_for f.code) f.severity) _ e).0

finding-back : (f : Finding) (r : List ℕ) → in_table f ≡ true → finding_in (finding_bytes f ++ r) ≡ f
finding-back f r e = rw (severity-back f e, number-back f.first, number-back f.second, number-back f.third)

findings-back : (l : List Finding) (r : List ℕ) → all_in l ≡ true → findings_in (body_of l ++ r) (length l) ≡ l
findings-back [] r e = refl
findings-back (f ∷ l) r e =
    let p = both (in_table f) (all_in l) e in
    ap₂ ◌∷◌ (finding-back f (body_of l ++ r) p.0) (findings-back l r p.1)

pub read-report : (flags : ℕ) (l : List Finding) (r : List ℕ) → Reportable flags l → content_of (report_of flags l ++ r) ≡ Ok (record { flags = flags; findings = l })
read-report flags l r ok =
    let s = report_of flags l ++ r in
    let w : length_in s ≡ rest_of (length l) = omega arith in
    let n : length s ≡ head_size + (finding_size * length l + length r) = omega (arith, length-append (body_of l) r, length-body l) in
    passed s (omega arith) refl ok.flagged ok.few w
    ∙ rw (findings-back l r ok.listed, ok.listed)

-- ---- tests that end in a value have been passed
module _ {A : Type 0} where
  no_value : {P : Type 0} {why : Refusal} {a : A} → Err why ≡ Ok a → P
  no_value e = cc

  unless : (t : Bool) (why : Refusal) (x : Answer A) {a : A} → pick t (Err why) x ≡ Ok a → (t ≡ false) × (x ≡ Ok a)
  unless true why x e = no_value e
  unless false why x e = (refl, e)

  provided : (t : Bool) (x : Answer A) (why : Refusal) {a : A} → pick t x (Err why) ≡ Ok a → (t ≡ true) × (x ≡ Ok a)
  provided true x why e = (refl, e)
  provided false x why e = no_value e

-- what gives a size was reportable
pub written-form : (flags : ℕ) (l : List Finding) (room : ℕ) {n : ℕ} → write_of flags l room ≡ Ok n → Reportable flags l
unfolding write_of
written-form flags l room e =
    let t1 = unless (ltb 15 (length l)) _ _ e in
    let t2 = unless (ltb 3 flags) _ _ t1.1 in
    let t3 = provided (all_in l) _ _ t2.1 in
    record { flagged = ltb-false 3 flags t2.0; few = ltb-false 15 (length l) t1.0; listed = t3.0 }

-- in whatever stood in the buffer before
pub written-reads : (flags : ℕ) (l : List Finding) (room : ℕ) {n : ℕ} (out : List ℕ) → write_of flags l room ≡ Ok n
    → content_of (written_over (write_of flags l room) flags l out) ≡ Ok (record { flags = flags; findings = l })
unfolding written_over
written-reads flags l room out e = rw e (read-report flags l (drop (length (report_of flags l)) out) (written-form flags l room e))

-- ---- what is read is a report
record Passed (s : List ℕ) : Type 0 where
  pub whole : 2 + length_in s ≤ length s
  pub version : get_or s 2 0 ≡ form_version
  pub size : length_in s ≡ rest_of (get_or s 4 0)
  pub form : Reportable (get_or s 3 0) (findings_in (drop head_size s) (get_or s 4 0))

-- the tests of `content_of` that a report has passed
read-passed : (s : List ℕ) {c : Content} → content_of s ≡ Ok c → Passed s × (content_in s ≡ c)
unfolding content_of
read-passed s e =
    let t1 = unless (ltb (length s) 2) _ _ e in
    let t2 = unless (ltb (length s) (2 + length_in s)) _ _ t1.1 in
    let t3 = unless (eqb (length_in s) 0) _ _ t2.1 in
    let t4 = provided (eqb (get_or s 2 0) form_version) _ _ t3.1 in
    let t5 = unless (ltb (length_in s) 3) _ _ t4.1 in
    let t6 = unless (ltb 3 (get_or s 3 0)) _ _ t5.1 in
    let t7 = unless (ltb 15 (get_or s 4 0)) _ _ t6.1 in
    let t8 = provided (eqb (length_in s) (rest_of (get_or s 4 0))) _ _ t7.1 in
    let t9 = provided (all_in (findings_in (drop head_size s) (get_or s 4 0))) _ _ t8.1 in
    let n = length-findings (get_or s 4 0) (drop head_size s) in
    let q = t9.1 in (
      record {
        whole = ltb-false (length s) (2 + length_in s) t2.0;
        version = eqb-true (get_or s 2 0) form_version t4.0;
        size = eqb-true (length_in s) (rest_of (get_or s 4 0)) t8.0;
        form = record { flagged = ltb-false 3 (get_or s 3 0) t6.0; few = omega (arith, ltb-false 15 (get_or s 4 0) t7.0); listed = t9.0 };
      },
      cc,
    )

-- the first n elements, one by one
abbrev each : (n i : ℕ) → List ℕ → List ℕ
each zero i t = []
each (suc n) i t = get_or t i 0 ∷ each n (suc i) t

each-cons : (n i x : ℕ) (t : List ℕ) → each n (suc i) (x ∷ t) ≡ each n i t
each-cons zero i x t = refl
each-cons (suc n) i x t = rw (each-cons n (suc i) x t)

take-each : (n : ℕ) (t : List ℕ) → n ≤ length t → take n t ≡ each n 0 t
take-each zero t h = refl
take-each (suc n) [] h = absurd (not-suc-le-zero h)
take-each (suc n) (x ∷ t) h = rw (each-cons n 0 x t, take-each n t (le_of_suc-le-suc h))

digits : (a b c d : ℕ) → a < 256 → b < 256 → c < 256 → d < 256
    → ((a * 16777216 + b * 65536 + c * 256 + d) / 16777216 ≡ a) × ((a * 16777216 + b * 65536 + c * 256 + d) / 65536 % 256 ≡ b)
    × ((a * 16777216 + b * 65536 + c * 256 + d) / 256 % 256 ≡ c) × ((a * 16777216 + b * 65536 + c * 256 + d) % 256 ≡ d)
digits a b c d ha hb hc hd = omega arith

bytes_drop : (k : ℕ) (s : List ℕ) → AllBytes s → AllBytes (drop k s)
bytes_drop k s h i = rw (get_or-drop k s i 0) (h (k + i))

finding-bytes : (t : List ℕ) → AllBytes t → finding_size ≤ length t → finding_bytes (finding_in t) ≡ take finding_size t
finding-bytes t h n =
    let a = digits (get_or t 2 0) (get_or t 3 0) (get_or t 4 0) (get_or t 5 0) (h 2) (h 3) (h 4) (h 5) in
    let b = digits (get_or t 6 0) (get_or t 7 0) (get_or t 8 0) (get_or t 9 0) (h 6) (h 7) (h 8) (h 9) in
    let c = digits (get_or t 10 0) (get_or t 11 0) (get_or t 12 0) (get_or t 13 0) (h 10) (h 11) (h 12) (h 13) in
    rw (a.0, a.1, a.2, a.3, b.0, b.1, b.2, b.3, c.0, c.1, c.2, c.3) (sym (take-each finding_size t n))

body_bytes : (n : ℕ) (t : List ℕ) → AllBytes t → finding_size * n ≤ length t → body_of (findings_in t n) ++ drop (finding_size * n) t ≡ t
body_bytes zero t h k = refl
body_bytes (suc n) t h k =
    let e : finding_size * suc n ≡ finding_size + finding_size * n = omega arith in
    let r : body_of (findings_in (drop finding_size t) n) ++ drop (finding_size * suc n) t ≡ drop finding_size t =
    rw (e, ← drop-drop (finding_size * n) finding_size t) (body_bytes n (drop finding_size t) (bytes_drop finding_size t h) (omega (arith, length-drop finding_size t))) in
    append_assoc (finding_bytes (finding_in t)) (body_of (findings_in (drop finding_size t) n)) (drop (finding_size * suc n) t)
    ∙ ap₂ ◌++◌ (finding-bytes t h (omega arith)) r
    ∙ take-append-drop finding_size t

whole-report : (s : List ℕ) → AllBytes s → Passed s
    → s ≡ report_of (get_or s 3 0) (findings_in (drop head_size s) (get_or s 4 0)) ++ drop (length (report_of (get_or s 3 0) (findings_in (drop head_size s) (get_or s 4 0)))) s
whole-report s h p =
    let n = get_or s 4 0 in
    let l = findings_in (drop head_size s) n in
    let f = get_or s 3 0 in
    let len : length l ≡ n = length-findings n (drop head_size s) in
    let h0 : rest_of n / 256 ≡ get_or s 0 0 = omega (arith, h 0, h 1) in
    let h1 : rest_of n % 256 ≡ get_or s 1 0 = omega (arith, h 0, h 1) in
    let head : head_of f (length l) ≡ take head_size s = rw (len, h0, h1, take-each head_size s (omega arith), p.version) in
    let size : length (report_of f l) ≡ head_size + finding_size * n = omega (arith, length-report f l) in
    let body : body_of l ++ drop (head_size + finding_size * n) s ≡ drop head_size s =
    rw (← drop-drop (finding_size * n) head_size s) (body_bytes n (drop head_size s) (bytes_drop head_size s h) (omega (arith, length-drop head_size s))) in
    let whole : report_of f l ++ drop (head_size + finding_size * n) s ≡ s =
    append_assoc (head_of f (length l)) (body_of l) (drop (head_size + finding_size * n) s) ∙ ap₂ ◌++◌ head body ∙ take-append-drop head_size s in
    sym whole ∙ ap (λ (k : ℕ). report_of f l ++ drop k s) (sym size)

module _ (s : List ℕ) {c : Content} (e : content_of s ≡ Ok c) where
  pub reportable-read : Reportable c.flags c.findings
  reportable-read =
      let p = read-passed s e in
      subst (λ (d : Content). Reportable d.flags d.findings) p.1 p.0.form

  -- no other bytes are accepted
  pub report-read : AllBytes s → Reportable c.flags c.findings × (s ≡ report_of c.flags c.findings ++ drop (length (report_of c.flags c.findings)) s)
  report-read h =
      let p = read-passed s e in
      (reportable-read, subst (λ (d : Content). s ≡ report_of d.flags d.findings ++ drop (length (report_of d.flags d.findings)) s) p.1 (whole-report s h p.0))

-- a report has at most fifteen findings
few-read : (s : List ℕ) (v : Answer Content) → content_of s ≡ v → length (contained v) ≤ 15
few-read s (Ok c) e = (reportable-read s e).few
few-read s (Err why) e = omega arith

pub few_held : (s : List ℕ) → length (contained (content_of s)) ≤ 15
few_held s = few-read s (content_of s) refl
