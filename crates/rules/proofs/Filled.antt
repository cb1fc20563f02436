-- What a lent list is after `findings::fill` was given an array that holds a list. Assumes nothing.
use Prim.Native.Nat.{ℕ, ◌≤◌}
use mathlib.Core.Path.{◌≡◌}
use mathlib.Core.List.{List}
use lib.ListN.{length, take}
use Rattle.reading.specs.Lent.{laid, listed}
use Rattle.findings.specs.Hold.{holding}
use Rattle.findings.specs.Lent.{places_of}
use Rattle.findings.specs.declared.Finding.{Finding}
use Rattle.findings.specs.declared.Findings.{Findings}
use Rattle.findings.proofs.Laws.{filled}

pub filled-by : {f : Findings} {r : ℕ} {zs : List Finding} (l xs : List Finding) (need : ℕ) → f ≡ holding l → length l ≤ 15 → length l ≤ need
    → (r ≡ places_of (length xs) need f.count) × (zs ≡ laid (take r f.items) xs) → zs ≡ listed need l xs
unfolding holding
filled-by l xs need e h k p = rw (p.1, p.0, e) (filled l xs need h k)
