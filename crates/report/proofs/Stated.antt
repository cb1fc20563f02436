-- What reading answers, by what stands before the findings; and what is left of it where every test there is passed. Assumes nothing.
use Rattle.std.specs.Prelude.{Ok, Err}
use Rattle.std.proofs.Common.{ℕ, ◌≡◌, ◌+◌, ◌≤◌, List, Bool, true, false, length, drop, get_or, refl, arith}
use borrow.Author.Tests.{le-ltb, eq-eqb, ne_eqb}
use Rattle.reading.specs.Pick.{pick}
use Rattle.reading.specs.declared.Refusal.TheVariants.{ReportMalformed}
use Rattle.reading.specs.Refusal.{Answer, onward}
use Rattle.rules.specs.Table.{all_in}
use Rattle.report.specs.Form.{head_size, form_version, rest_of, findings_in}
use Rattle.report.specs.Read.{Content, length_in, content_in, content_of}
use Rattle.report.specs.Body.{start_of}
use Rattle.report.specs.declared.Counted.{Counted}

-- going on from what is picked
past : {A B : Type 0} (go : A → Answer B) (t : Bool) (x y : Answer A) → onward Err (pick t x y) go ≡ pick t (onward Err x go) (onward Err y go)
past go true x y = refl
past go false x y = refl

module _ (s : List ℕ) where
  -- the findings that so many times fourteen bytes are, where they are the table's
  abbrev pub with_findings : Counted → Answer Content
  with_findings c =
      let l = findings_in (drop head_size s) c.count in
      pick (all_in l) (Ok (record { flags = c.flags; findings = l })) (Err ReportMalformed)

  pub by_start : content_of s ≡ onward Err (start_of s) with_findings
  unfolding content_of start_of
  by_start = simp past

  -- a whole body: all that is left is whether its findings are the table's
  pub passed : 2 + length_in s ≤ length s → get_or s 2 0 ≡ form_version → get_or s 3 0 ≤ 3 → get_or s 4 0 ≤ 15 → length_in s ≡ rest_of (get_or s 4 0)
      → content_of s ≡ pick (all_in (findings_in (drop head_size s) (get_or s 4 0))) (Ok (content_in s)) (Err ReportMalformed)
  unfolding content_of
  passed w v f n e =
      rw (
        le-ltb (length s) 2 (omega arith),
        le-ltb (length s) (2 + length_in s) w,
        ne_eqb (length_in s) 0 (λ z. omega arith),
        eq-eqb (get_or s 2 0) form_version v,
        le-ltb (length_in s) 3 (omega arith),
        le-ltb 3 (get_or s 3 0) f,
        le-ltb 15 (get_or s 4 0) n,
        eq-eqb (length_in s) (rest_of (get_or s 4 0)) e,
      )
