-- The numbers of findings, one behind the other, and bytes behind a report. Assumes nothing.
use Rattle.std.proofs.Common.{◌≡◌, ℕ, zero, suc, ◌+◌, ◌-◌, ◌*◌, ◌≤◌, List, [], ◌∷◌, ◌++◌, Ok, Err, length, take, set, length-append, length-take-le, append_assoc, refl, sym, ap, ◌∙◌, arith}
use borrow.Rule.Slice.PartMut.{put_mid}
use Rattle.reading.specs.Lent.{laid}
use Rattle.reading.proofs.Laid.{laid_block}
use Rattle.findings.specs.declared.Finding.{Finding}
use Rattle.findings.specs.declared.Findings.{Findings}
use Rattle.findings.specs.Hold.{holding}
use Rattle.findings.proofs.Laws.{list_held}
use Rattle.reading.specs.Refusal.{Answer}
use Rattle.report.specs.Read.{Content, content_of, counted, contained, reading_of}
use Rattle.report.specs.declared.Reading.{Reading}
use Rattle.report.specs.declared.Counted.{Counted}
use Rattle.report.proofs.Trip.{reportable-read}
use Rattle.report.proofs.Behind.{Whole, behind}
use Rattle.roostcord.specs.Word.{word_of}
use Rattle.roostcord.specs.Numbers.{finding_numbers, report_list, listed_in, list_after}

-- ---- one finding more
numbers-last : (l : List Finding) (f : Finding) → finding_numbers (l ++ (f ∷ [])) ≡ finding_numbers l ++ finding_numbers (f ∷ [])
numbers-last [] f = refl
numbers-last (g ∷ l) f = rw (numbers-last l f)

pub length-numbers : (l : List Finding) → length (finding_numbers l) ≡ 6 * length l
length-numbers [] = refl
length-numbers (f ∷ l) = omega (arith, length-numbers l)

-- behind the first places of a list, the next six take one finding more
pub numbers-on : (l : List Finding) (f : Finding) (from : ℕ) (d : List ℕ) (n : ℕ) → n ≡ length l → from ≤ length d
    → put_mid (from + 6 * n) (from + 6 * n + 6 - (from + 6 * n)) (laid (take from d ++ finding_numbers l) d) (finding_numbers (f ∷ [])) ≡ laid (take from d ++ finding_numbers (l ++ (f ∷ []))) d
numbers-on l f from d n h room =
    let p : length (take from d ++ finding_numbers l) ≡ from + 6 * n = omega (arith, length-append (take from d) (finding_numbers l), length-take-le from d room, length-numbers l) in
    laid_block (take from d ++ finding_numbers l) d (finding_numbers (f ∷ [])) (from + 6 * n) 6 p refl
    ∙ ap (λ (m : List ℕ). laid m d) (append_assoc (take from d) (finding_numbers l) (finding_numbers (f ∷ [])) ∙ ap (λ (m : List ℕ). take from d ++ m) (sym (numbers-last l f)))

-- a list is its first places laid into it
pub front-laid : (from : ℕ) (d : List ℕ) → laid (take from d) d ≡ d
front-laid zero d = refl
front-laid (suc n) [] = refl
front-laid (suc n) (x ∷ d) = ap (λ (l : List ℕ). x ∷ l) (front-laid n d)

-- flags in the first place, and numbers behind them
pub flags_first : (flags : ℕ) (numbers out : List ℕ) → 1 ≤ length out → laid (take 1 (set out 0 flags) ++ numbers) (set out 0 flags) ≡ laid (flags ∷ numbers) out
flags_first flags numbers [] h = absurd (omega arith)
flags_first flags numbers (x ∷ out) h = refl

-- ---- what the reader's answer says of the definition
pub record Heard (s : List ℕ) (g : Reading) (head : Counted) : Type 0 where
  pub few : head.count ≤ 15
  pub numbers : report_list s ≡ Ok (head.flags ∷ finding_numbers (take head.count g.findings.items))
  pub long : length (finding_numbers (take head.count g.findings.items)) ≡ 6 * head.count

module _ (s : List ℕ) (g : Reading) (e : g ≡ reading_of s) (head : Counted) where
  heard-of : (v : Answer Content) → content_of s ≡ v → Ok head ≡ counted v → Heard s g head
  unfolding report_list holding
  heard-of (Err t) h q = absurd (let z : ◌≡◌ {A = ℕ} 0 1 = cc in omega arith)
  heard-of (Ok c) h q =
      let r : ◌≡◌ {A = Counted} head (record { flags = c.flags; count = length c.findings }) = cc in
      let n : head.count ≡ length c.findings = ap (λ (t : Counted). t.count) r in
      let f : g.findings ≡ holding c.findings = ap (λ (t : Reading). t.findings) e ∙ ap (λ (t : Answer Content). holding (contained t)) h in
      let l : take head.count g.findings.items ≡ c.findings = rw n (ap (λ (t : Findings). take (length c.findings) t.items) f ∙ list_held c.findings) in
      record {
        few = omega (arith, (reportable-read s h).few);
        numbers = rw h (λ i. Ok (ap (λ (t : Counted). t.flags) (sym r) i ∷ finding_numbers (sym l i)));
        long = omega (arith, length-numbers (take head.count g.findings.items), ap (λ (t : List Finding). length t) l);
      }

  pub heard : g.answer ≡ Ok head → Heard s g head
  heard q = heard-of (content_of s) refl (sym q ∙ ap (λ (t : Reading). t.answer) e)

-- ---- bytes behind a report, be it accepted or refused, change neither the answer nor what the list holds afterwards
pub report-behind : (s t : List ℕ) → Whole s → report_list (s ++ t) ≡ report_list s
unfolding report_list
report-behind s t w = rw (behind s w t)

pub word-behind : (s t : List ℕ) → Whole s → (out : List ℕ)
    → (word_of (listed_in 91 (report_list (s ++ t)) (length out)) ≡ word_of (listed_in 91 (report_list s) (length out))) × (list_after 91 (report_list (s ++ t)) out ≡ list_after 91 (report_list s) out)
word-behind s t w out = rw (report-behind s t w) (refl, refl)
