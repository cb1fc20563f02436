-- What the editions have to do with each other. Of the sixteen rules fifteen do not ask for the edition; the one that does, on the data rate, is the
-- last. So the findings under edition 1 are those under edition 2, in the same order, and behind them at most one on the rate: `added_at` says
-- which. Nothing is promised in these terms. Assumes nothing.
use Rattle.std.specs.Prelude.{Option, Some, None}
use Prim.Native.Nat.{ℕ}
use mathlib.Core.Path.{◌≡◌, refl, sym, ap, ◌∙◌}
use mathlib.Core.Bool.{true, false}
use mathlib.Core.Logic.{◌⊎◌, inl, inr, ⊎_elim}
use mathlib.Core.List.{List, [], ◌∷◌, ◌++◌, append-nil, append_assoc}
use native.Mathlib.Omega.{arith}
use lib.ListN.{take}
use Rattle.reading.specs.Pick.{pick}
use Rattle.reading.specs.View.{View}
use Rattle.reading.specs.Refusal.{Answer}
use Rattle.findings.specs.declared.Finding.{Finding}
use Rattle.findings.specs.Hold.{to_list, cat}
use Rattle.findings.proofs.Laws.{cat-append}
use Rattle.decoders.specs.Timing.{timings_at, rate_of}
use Rattle.decoders.specs.declared.timing.Timings.{Timings}
use Rattle.rules.specs.declared.RatedTimings.{RatedTimings}
use Rattle.rules.specs.declared.Edition.{Edition}
use Rattle.rules.specs.declared.Edition.TheVariants.{First, Second}
use Rattle.rules.specs.Table.{non_standard_data_rate}
use Rattle.rules.specs.Rules.{on_ladder, standard_rate, rated_rules, each}
use Rattle.rules.specs.Lint.{on_given, lint_rules, lint_at, rated_findings}

-- what edition 1 alone finds: a rate that is on the second ladder and not on the first
abbrev pub only_first : (rate : ℕ) → Option Finding
only_first rate = pick (on_ladder First rate) None (pick (on_ladder Second rate) (Some (non_standard_data_rate rate)) None)

-- a rule on the rate, asked of an image
abbrev pub of_rate : (ℕ → Option Finding) → Answer Timings → Option Finding
of_rate rule said = on_given (λ t. rule (rate_of t.tckavg_min.0)) said

abbrev pub rate_at : Edition → View → Option Finding
rate_at e v = of_rate (standard_rate e) (timings_at v)

abbrev pub added_at : View → List Finding
added_at v = to_list (of_rate only_first (timings_at v))

-- 6400 is on both ladders, and 6800 on the second alone
pub on_both : only_first 6400 ≡ None
unfolding on_ladder
on_both = refl

pub on_one : only_first 6800 ≡ Some (non_standard_data_rate 6800)
unfolding on_ladder
on_one = refl

-- ---- the rule on a rate
-- what is on the first ladder is on the second
pub first-second : (rate : ℕ) → on_ladder First rate ≡ true → on_ladder Second rate ≡ true
unfolding on_ladder
first-second rate e = grind arith

none : only_first 0 ≡ None
unfolding on_ladder
none = refl

rate-more : (rate : ℕ) → to_list (standard_rate First rate) ≡ to_list (standard_rate Second rate) ++ to_list (only_first rate)
rate-more rate = grind (arith, first-second rate, none)

said_more : (s : Answer Timings) → to_list (of_rate (standard_rate First) s) ≡ to_list (of_rate (standard_rate Second) s) ++ to_list (of_rate only_first s)
said_more s = grind (arith, rate-more)

-- ---- a row of rules' answers, the last of which adds what z has
behind : (xs : List (Option Finding)) (x y z : Option Finding) → to_list x ≡ to_list y ++ to_list z → cat (xs ++ (x ∷ [])) ≡ cat (xs ++ (y ∷ [])) ++ to_list z
behind xs x y z e = grind (arith, cat-append, append-nil, append_assoc)

-- ---- an image
-- what the fifteen other rules say, which is the same under both editions
abbrev pub others : View → List (Option Finding)
others v = take 15 (each (lint_rules Second) v)

pub rate-last : (e : Edition) (v : View) → each (lint_rules e) v ≡ others v ++ (rate_at e v ∷ [])
rate-last e v = refl

-- THE THEOREM
pub first_more : (v : View) → lint_at First v ≡ lint_at Second v ++ added_at v
unfolding lint_at
first_more v = behind (others v) (rate_at First v) (rate_at Second v) (of_rate only_first (timings_at v)) (said_more (timings_at v))

-- where the rate rule speaks under 2, it says the same under 1
same-rate : (rate : ℕ) (f : Finding) → standard_rate Second rate ≡ Some f → standard_rate First rate ≡ Some f
same-rate rate f e = grind (arith, first-second rate)

said_same : (s : Answer Timings) (f : Finding) → of_rate (standard_rate Second) s ≡ Some f → of_rate (standard_rate First) s ≡ Some f
said_same s f e = grind (arith, same-rate)

pub rate-kept : (v : View) (f : Finding) → rate_at Second v ≡ Some f → rate_at First v ≡ Some f
rate-kept v f e = said_same (timings_at v) f e

-- and then all findings are the same
pub rate-same : (v : View) (f : Finding) → rate_at Second v ≡ Some f → lint_at First v ≡ lint_at Second v
unfolding lint_at
rate-same v f e = ap (λ (x : Option Finding). cat (others v ++ (x ∷ []))) (rate-kept v f e ∙ sym e)

-- at most one finding more, and that of a rate on the second ladder alone
pub record Beyond (rate : ℕ) : Type 0 where
  pub not_first : on_ladder First rate ≡ false
  pub second : on_ladder Second rate ≡ true

one-rate : (rate : ℕ) → (to_list (only_first rate) ≡ []) ⊎ (Beyond rate × (to_list (only_first rate) ≡ non_standard_data_rate rate ∷ []))
one-rate rate = grind arith

one-said : (s : Answer Timings) → (to_list (of_rate only_first s) ≡ []) ⊎ ((rate : ℕ) × (Beyond rate × (to_list (of_rate only_first s) ≡ non_standard_data_rate rate ∷ [])))
one-said s = grind (arith, one-rate)

pub one_more : (v : View) → (lint_at First v ≡ lint_at Second v) ⊎ ((rate : ℕ) × (Beyond rate × (lint_at First v ≡ lint_at Second v ++ (non_standard_data_rate rate ∷ []))))
one_more v = ⊎_elim
    (λ e. inl (first_more v ∙ ap (λ (l : List Finding). lint_at Second v ++ l) e ∙ append-nil (lint_at Second v)))
    (λ e. inr (e.0, (e.1.0, first_more v ∙ ap (λ (l : List Finding). lint_at Second v ++ l) e.1.1)))
    (one-said (timings_at v))

-- ---- a rated profile: its rule on the rate is the last of five
pub rated-more : (r : RatedTimings) → rated_findings First r ≡ rated_findings Second r ++ to_list (only_first r.data_rate_mt_s)
unfolding rated_findings
rated-more r =
    let rate = r.data_rate_mt_s in
    behind (take 4 (each (rated_rules Second) r)) (standard_rate First rate) (standard_rate Second rate) (only_first rate) (rate-more rate)
