-- The package rule cannot occur on a decoded image: package and dies come from one row of the decoder's table. So of the sixteen rules
-- at most fifteen speak. A rated profile has five rules. Assumes nothing.
use Rattle.std.specs.Prelude.{Option, None, Ok, Err}
use Prim.Native.Nat.{ℕ, ◌+◌, ◌/◌, ◌%◌, ◌≤◌}
use mathlib.Core.Path.{◌≡◌, refl, subst}
use mathlib.Core.List.{List, [], ◌∷◌, ◌++◌}
use native.Mathlib.Omega.{arith}
use lib.Dec.{eqb}
use lib.ListN.{length, take, drop, length-append}
use Rattle.reading.specs.View.{View, view}
use Rattle.reading.specs.Refusal.{Answer, onward}
use Rattle.reading.specs.Ranges.{missing_at}
use Rattle.reading.proofs.Picked.{either}
use Rattle.reading.proofs.Reach.{by-missing}
use Rattle.findings.specs.Hold.{cat}
use Rattle.findings.proofs.Laws.{length-cat, cat-append}
use Rattle.findings.specs.declared.Finding.{Finding}
use Rattle.decoders.specs.Codes.{meant, package_table, bus_width_table, size_of, device_of, module_of, density_of, package_of, io_width_of, bank_groups_of, banks_of, bus_width_of, channels_of}
use Rattle.decoders.specs.Identity.{identity_ranges, identity_at, identity_of}
use Rattle.decoders.specs.declared.identity.IdentityAndBase.{IdentityAndBase}
use Rattle.decoders.specs.declared.identity.PackageType.{PackageType}
use Rattle.rules.specs.Rules.{coherence, each, rated_rules}
use Rattle.rules.specs.Lint.{on_given, lint_rules, lint_at, findings_of, rated_findings}
use Rattle.rules.specs.declared.RatedTimings.{RatedTimings}
use Rattle.rules.specs.declared.Edition.{Edition}

-- P holds of the value, where one is given
abbrev pub OfGiven : {A : Type 0} → Answer A → (A → Type 0) → Type 0
OfGiven (Ok a) P = P a
OfGiven (Err t) P = Unit {0}

given : {A : Type 0} (P : A → Type 0) {s : Answer A} {a : A} → s ≡ Ok a → OfGiven s P → P a
given P e h = subst (λ t. OfGiven t P) e h

-- a chain goes on with the value that the step gives, and a refusal ends it
through : {A B : Type 0} (P : B → Type 0) (s : Answer A) (go : A → Answer B) → ((a : A) → s ≡ Ok a → OfGiven (go a) P) → OfGiven (onward Err s go) P
through P (Ok a) go h = h a refl
through P (Err t) go h = tt

abbrev Coherent : PackageType → ℕ → Type 0
Coherent kind dies = coherence kind dies ≡ None

-- what holds of all that a table's codes stand for, holds of what it gives
abbrev AllOf : {A : Type 0} → (A → Type 0) → List (ℕ × A) → Type 0
AllOf P [] = Unit {0}
AllOf P ((k, x) ∷ rows) = P x × AllOf P rows

table_of : {A : Type 0} (P : A → Type 0) (field : ℕ) (rows : List (ℕ × A)) (code : ℕ) → AllOf P rows → OfGiven (meant field rows code) P
table_of P field [] code h = tt
table_of P field ((k, x) ∷ rows) code h = either (λ s. OfGiven s P) (eqb code k) h.0 (table_of P field rows code h.1)

packages : (code : ℕ) → OfGiven (package_of code) (λ p. Coherent p.package_type p.die_count)
unfolding package_of
packages code = table_of (λ p. Coherent p.package_type p.die_count) 4 package_table code (refl, (refl, (refl, (refl, (refl, (refl, tt))))))

buses : (code : ℕ) → OfGiven (bus_width_of code) (λ bits. bits ≤ 64)
unfolding bus_width_of
buses code = table_of (λ bits. bits ≤ 64) 8 bus_width_table code (omega arith, (omega arith, (omega arith, (omega arith, tt))))

-- what the tables let into a record
pub record Decoded (d : IdentityAndBase) : Type 0 where
  pub coherent : Coherent d.package_type d.die_count
  pub bus : d.primary_bus_width_bits ≤ 64

pub decoded : (v : View) → OfGiven (identity_at v) Decoded
decoded v =
    by-missing (missing_at identity_ranges v)
    (λ e. rw e
    (through Decoded (size_of (v.byte 0 / 16 % 8)) _ (λ size _.
    through Decoded (device_of (v.byte 2)) _ (λ device _.
    through Decoded (module_of (v.byte 3 % 16)) _ (λ m _.
    through Decoded (density_of (v.byte 4 % 32)) _ (λ density _.
    through Decoded (package_of (v.byte 4 / 32 % 8)) _ (λ p of-p.
    through Decoded (io_width_of (v.byte 6 / 32 % 8)) _ (λ width _.
    through Decoded (bank_groups_of (v.byte 7 / 32 % 8)) _ (λ groups _.
    through Decoded (banks_of (v.byte 7 % 8)) _ (λ banks _.
    through Decoded (bus_width_of (v.byte 235 % 8)) _ (λ bus of-bus.
    through Decoded (channels_of (v.byte 235 / 32 % 8)) _ (λ channels _.
    record {
      coherent = given _ of-p (packages (v.byte 4 / 32 % 8));
      bus = given _ of-bus (buses (v.byte 235 % 8));
    }))))))))))))
    (λ i e. rw e tt)

silent : (said : Answer IdentityAndBase) → OfGiven said Decoded → on_given (λ d. coherence d.package_type d.die_count) said ≡ None
silent said h = grind arith

pub never : (v : View) → on_given (λ d. coherence d.package_type d.die_count) (identity_at v) ≡ None
never v = silent (identity_at v) (decoded v)

-- what a caller of the decoder has of it
pub coherent : (s : List ℕ) (d : IdentityAndBase) → identity_of s ≡ Ok d → coherence d.package_type d.die_count ≡ None
unfolding identity_of
coherent s d e = (subst (λ t. OfGiven t Decoded) e (decoded (view s))).coherent

-- a row of answers with a silent one in it gives fewer findings than it has answers
fewer : (xs ys : List (Option Finding)) (x : Option Finding) → x ≡ None → length (cat (xs ++ (x ∷ ys))) ≤ length xs + length ys
fewer xs ys x e = rw (e, cat-append xs (None ∷ ys), length-append) (omega (arith, length-cat xs, length-cat ys))

-- eight rules stand before the package rule and seven behind it
pub fits : (e : Edition) (v : View) → length (cat (each (lint_rules e) v)) ≤ 15
fits e v = fewer (take 8 (each (lint_rules e) v)) (drop 9 (each (lint_rules e) v)) _ (never v)

pub at-most-fifteen : (e : Edition) (s : List ℕ) → length (findings_of e s) ≤ 15
unfolding lint_at
at-most-fifteen e s = fits e (view s)

pub at-most-five : (e : Edition) (r : RatedTimings) → length (rated_findings e r) ≤ 5
unfolding rated_findings
at-most-five e r = length-cat (each (rated_rules e) r)
