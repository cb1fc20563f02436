-- Which refusals a DDR4 image gives: 1 exactly where a byte of its table is missing, with the smallest such offset, then that of the first
-- check that refuses. What is decoded passed them all, so no time of its record was below zero. Assumes nothing.
use Rattle.std.specs.Prelude.{Option, Some, None, Ok, Err}
use Prim.Native.Nat.{ℕ, ◌≤◌}
use mathlib.Core.Path.{◌≡◌, refl, sym, ap, subst, ◌∙◌}
use mathlib.Core.List.{List, [], ◌∷◌}
use mathlib.Core.Bool.{Bool, true, false, not}
use native.Mathlib.Omega.{arith}
use borrow.Author.Tests.{eqb-true, ltb-false}
use lib.IntN.{ℤ, pos, negsuc}
use lib.Signed.{lt_z}
use lib.Dec.{T, eqb}
use Rattle.reading.specs.View.{View}
use Rattle.reading.specs.declared.Refusal.TheVariants.{Truncated}
use Rattle.reading.specs.Refusal.{told}
use Rattle.reading.specs.declared.Refusal.{Refusal}
use Rattle.reading.specs.Ranges.{missing_at, whole}
use Rattle.reading.proofs.Reach.{by-missing}
use Rattle.reading.proofs.Refused.{OfRefused}
use Rattle.ddr4.specs.Times.{whole_of, tck_at, taa_at, trcd_at, trp_at, tras_at, trc_at}
use Rattle.ddr4.specs.Module.{ddr4_ranges, timebase_at, density_at, io_width_at, bus_width_at, record_at, checks_at, first_of, ddr4_at}
use Rattle.ddr4.specs.declared.Ddr4.{Ddr4}
use Rattle.ddr4.proofs.Checks.{given}

-- P holds of what each check that refuses says
abbrev pub OfChecks : (Refusal → Type 0) → List (Bool × Refusal) → Type 0
OfChecks P [] = Unit {0}
OfChecks P ((test, why) ∷ checks) = (test ≡ true → P why) × OfChecks P checks

first-refusals : {A : Type 0} (P : Refusal → Type 0) (x : A) (checks : List (Bool × Refusal)) → OfChecks P checks → OfRefused P (first_of (Ok x) checks)
first-refusals P x [] h = tt
first-refusals P x ((true, why) ∷ checks) h = h.0 refl
first-refusals P x ((false, why) ∷ checks) h = first-refusals P x checks h.1

-- no check refuses
abbrev pub Passes : List (Bool × Refusal) → Type 0
Passes [] = Unit {0}
Passes ((test, why) ∷ checks) = (test ≡ false) × Passes checks

all_pass : {A : Type 0} (x : A) (checks : List (Bool × Refusal)) {d : A} → first_of (Ok x) checks ≡ Ok d → Passes checks
all_pass x [] e = tt
all_pass x ((true, why) ∷ checks) e = absurd (let z : ◌≡◌ {A = ℕ} 0 1 = cc in omega arith)
all_pass x ((false, why) ∷ checks) e = (refl, all_pass x checks e)

-- a time that is not below zero is its picoseconds
kept_whole : (z : ℤ) → lt_z z (pos 0) ≡ false → pos (whole_of z) ≡ z
kept_whole (pos n) e = refl
kept_whole (negsuc n) e = absurd (subst T e tt)

-- what is decoded: the type, codes that their tables have, and times that are none below zero
pub record Sound (v : View) (d : Ddr4) : Type 0 where
  pub type : v.byte 2 ≡ 0x0C
  pub timebase : timebase_at v ≡ 0
  pub density : density_at v ≤ 7
  pub io : io_width_at v ≤ 3
  pub bus : bus_width_at v ≤ 3
  pub tck : pos d.tck ≡ tck_at v
  pub taa : pos d.taa ≡ taa_at v
  pub trcd : pos d.trcd ≡ trcd_at v
  pub trp : pos d.trp ≡ trp_at v
  pub tras : d.tras ≡ tras_at v
  pub trc : pos d.trc ≡ trc_at v

same-type : (n : ℕ) → not (eqb n 0x0C) ≡ false → eqb n 0x0C ≡ true
same-type n = back (eqb n 0x0C)
  where
    back : (t : Bool) → not t ≡ false → t ≡ true
    back true e = refl
    back false e = sym e

module _ (v : View) where
  -- what holds of the refusal of a missing byte, and of each check, holds of every refusal
  pub ddr4-refusals : (P : Refusal → Type 0) → ((i : ℕ) → missing_at ddr4_ranges v ≡ Some i → P (Truncated i)) → OfChecks P (checks_at v) → OfRefused P (ddr4_at v)
  ddr4-refusals P of-missing of-checks = by-missing (missing_at ddr4_ranges v)
      (λ e. rw e (first-refusals P (record_at v) (checks_at v) of-checks))
      (λ i e. rw e (of-missing i e))

  pub ddr4-named : (i : ℕ) → missing_at ddr4_ranges v ≡ Some i → ddr4_at v ≡ Err (Truncated i)
  ddr4-named i e = rw e refl

  abbrev Missed : Refusal → Type 0
  Missed t = (told t).number ≡ 1 → missing_at ddr4_ranges v ≡ Some (told t).first

  pub ddr4-exactly : (t : Refusal) → ddr4_at v ≡ Err t → Missed t
  ddr4-exactly t e = subst (OfRefused Missed) e (ddr4-refusals Missed (λ i m z. m) (λ _ z. absurd (omega arith), (λ _ z. absurd (omega arith), (λ _ z. absurd (omega arith), (λ _ z. absurd (omega arith), (λ _ z. absurd (omega arith), (λ _ z. absurd (omega arith), (λ _ z. absurd (omega arith), (λ _ z. absurd (omega arith), (λ _ z. absurd (omega arith), (λ _ z. absurd (omega arith), tt)))))))))))

  checked : {d : Ddr4} (m : Option ℕ) → whole Err m (first_of (Ok (record_at v)) (checks_at v)) ≡ Ok d → first_of (Ok (record_at v)) (checks_at v) ≡ Ok d
  checked None e = e
  checked (Some i) e = absurd (let z : ◌≡◌ {A = ℕ} 0 1 = cc in omega arith)

  pub decoded-sound : {d : Ddr4} → ddr4_at v ≡ Ok d → Sound v d
  decoded-sound {d} e =
      let f = checked (missing_at ddr4_ranges v) e in
      let r : record_at v ≡ d = given (record_at v) (checks_at v) f in
      let p = all_pass (record_at v) (checks_at v) f in
      let low = p.1.1.1.1.1 in
      record {
        type = eqb-true (v.byte 2) 0x0C (same-type (v.byte 2) p.0);
        timebase = let h = ltb-false 0 (timebase_at v) p.1.0 in omega arith;
        density = ltb-false 7 (density_at v) p.1.1.0;
        io = ltb-false 3 (io_width_at v) p.1.1.1.0;
        bus = ltb-false 3 (bus_width_at v) p.1.1.1.1.0;
        tck = ap (λ (x : Ddr4). pos x.tck) (sym r) ∙ kept_whole (tck_at v) low.0;
        taa = ap (λ (x : Ddr4). pos x.taa) (sym r) ∙ kept_whole (taa_at v) low.1.0;
        trcd = ap (λ (x : Ddr4). pos x.trcd) (sym r) ∙ kept_whole (trcd_at v) low.1.1.0;
        trp = ap (λ (x : Ddr4). pos x.trp) (sym r) ∙ kept_whole (trp_at v) low.1.1.1.0;
        tras = ap (λ (x : Ddr4). x.tras) (sym r);
        trc = ap (λ (x : Ddr4). pos x.trc) (sym r) ∙ kept_whole (trc_at v) low.1.1.1.1.0;
      }
