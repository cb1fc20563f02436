-- What one turn of each loop makes of what the turns before it made, and what the last leaves. Assumes nothing.
use Rattle.std.specs.Prelude.{◌&&◌}
use Rattle.std.specs.Simd.{first_chunks}
use Rattle.std.specs.List.{list_all}
use Rattle.std.specs.Int.{w32, to_be_bytes}
use Rattle.std.proofs.Common.{◌≡◌, ℕ, zero, suc, ◌+◌, ◌^◌, ◌*◌, ◌/◌, ◌%◌, ◌<◌, ◌≤◌, Bool, true, false, List, [], ◌∷◌, ◌++◌, length, take, drop, get_or, set, refl, ap, sym, ◌∙◌, append_assoc, add-one, take-suc, length-take-le, drop-drop, arith}
use Rattle.std.proofs.lemmas.List.{get_or-take, take_more_set, take_all}
use Rattle.std.proofs.lemmas.Slice.{take-put_mid}
use native.Mathlib.Nat.{not-suc-le-zero, le_of_suc-le-suc}
use Rattle.reading.specs.Pick.{and}
use Rattle.findings.specs.declared.Finding.{Finding}
use Rattle.findings.specs.declared.Findings.{Findings}
use Rattle.findings.specs.Hold.{blank_finding, blank_items, holding}
use Rattle.findings.proofs.Laws.{kept-few, over, over-step, load-held}
use Rattle.rules.specs.Table.{in_table, all_in}
use Rattle.report.specs.Form.{finding_size, finding_bytes, body_of, big_endian, finding_in, findings_in}
use Rattle.report.proofs.Form.{length-body, length-report}

-- ---- all_in
both-hold : (a b : Bool) → (a && b) ≡ and a b
both-hold true b = refl
both-hold false b = refl

pub each_in : (l : List Finding) → list_all in_table l ≡ all_in l
each_in [] = refl
each_in (f ∷ l) = rw (each_in l) (both-hold (in_table f) (all_in l))

-- ---- put_finding: what stands in front grows
pub as-bytes : (n : ℕ) → n < 2 ^ 32 → to_be_bytes w32 n ≡ big_endian n []
as-bytes n h =
    let top : n / 256 ^ 3 % 256 ≡ n / 16777216 = omega arith in
    rw top refl

pub ruleset fronts = (take_more_set, take-put_mid, take_all, as-bytes)

-- ---- put_report: one finding more
pub body-last : (l : List Finding) (f : Finding) → body_of (l ++ (f ∷ [])) ≡ body_of l ++ finding_bytes f
body-last [] f = refl
body-last (g ∷ l) f = rw (body-last l f)

pub body-more : (l : List Finding) (i : ℕ) (d : Finding) → i < length l → body_of (take (i + 1) l) ≡ body_of (take i l) ++ finding_bytes (get_or l i d)
body-more l i d h = rw (add-one, take-suc l i d h) (body-last (take i l) (get_or l i d))

pub ruleset rows = (body-more, take-put_mid, take_all, length-body, length-report)

-- ---- read_body: the findings of the first i places stand over blank places
pub length-findings : (n : ℕ) (t : List ℕ) → length (findings_in t n) ≡ n
length-findings zero t = refl
length-findings (suc n) t = ap suc (length-findings n (drop finding_size t))

-- the same bytes in the first k places
abbrev pub Agree : (k : ℕ) → (s t : List ℕ) → Type 0
Agree k s t = (i : ℕ) → i < k → get_or s i 0 ≡ get_or t i 0

pub finding-agrees : (s t : List ℕ) → Agree finding_size s t → finding_in s ≡ finding_in t
finding-agrees s t a =
    rw (
      a 0 (omega arith),
      a 1 (omega arith),
      a 2 (omega arith),
      a 3 (omega arith),
      a 4 (omega arith),
      a 5 (omega arith),
      a 6 (omega arith),
      a 7 (omega arith),
      a 8 (omega arith),
      a 9 (omega arith),
      a 10 (omega arith),
      a 11 (omega arith),
      a 12 (omega arith),
      a 13 (omega arith),
    )

-- the i-th of k records of fourteen bytes is the i-th of n findings
pub record-at : (n k : ℕ) (t : List ℕ) (i : ℕ) (d : List ℕ) (e : Finding) → i < n → i < k → finding_in (get_or (first_chunks finding_size k t) i d) ≡ get_or (findings_in t n) i e
record-at zero k t i d e h m = absurd (not-suc-le-zero h)
record-at (suc n) zero t i d e h m = absurd (not-suc-le-zero m)
record-at (suc n) (suc k) t zero d e h m = finding-agrees (take finding_size t) t (λ j k. get_or-take finding_size t j 0 k)
record-at (suc n) (suc k) t (suc i) d e h m = record-at n k (drop finding_size t) i d e (le_of_suc-le-suc h) (le_of_suc-le-suc m)

pub next-kept : (n k : ℕ) (t : List ℕ) (i : ℕ) (d : List ℕ) → n ≤ 15 → i < n → i < k
    → set (over i (findings_in t n) blank_items) i (finding_in (get_or (first_chunks finding_size k t) i d)) ≡ over (i + 1) (findings_in t n) blank_items
next-kept n k t i d few h m =
    rw (record-at n k t i d blank_finding h m) (over-step blank_finding (findings_in t n) blank_items i (omega (arith, length-findings n t)) (omega arith))

-- places that hold a list of at most fifteen
pub all-kept : (l : List Finding) (n : ℕ) → length l ≡ n → n ≤ 15 → ◌≡◌ {A = Findings} (record { items = over n l blank_items; count = n }) (holding l)
all-kept l n e h = rw (← e) (rw (kept-few (length l) (omega arith)) at (load-held l (omega arith)))
