-- The search for the smallest missing offset, range by range. Assumes nothing.
use Rattle.std.specs.Prelude.{Option, Some, None, fold}
use Prim.Native.Nat.{ℕ, zero, suc, ◌+◌, max}
use mathlib.Core.Path.{◌≡◌}
use mathlib.Core.List.{List, [], ◌∷◌}
use native.Mathlib.Omega.{arith}
use lib.Dec.{ltb}
use lib.ListN.{length}
use Rattle.reading.specs.Pick.{pick}
use Rattle.reading.specs.View.{View, view}
use Rattle.reading.specs.Ranges.{first_lacking, smaller, missing_at}

-- of n bytes from i on an image lacks those past its end: the first is i itself, or the one at its end
pub lacks : (s : List ℕ) (n i m : ℕ) → m ≡ max i (length s) → first_lacking (view s) i n ≡ pick (ltb m (i + n)) (Some m) None
lacks s zero i m e = grind arith
lacks s (suc n) i m e = grind (arith, lacks s n (suc i) m)

smaller-none : (a : Option ℕ) → smaller a None ≡ a
smaller-none a = grind arith

smaller-assoc : (a b c : Option ℕ) → smaller (smaller a b) c ≡ smaller a (smaller b c)
smaller-assoc a b c = grind arith

-- the ranges one after the other, from what was found before
from-found : (v : View) (ranges : List (ℕ × ℕ)) (m : Option ℕ) → fold (λ least r. smaller least (first_lacking v r.0 r.1)) m ranges ≡ smaller m (missing_at ranges v)
unfolding missing_at
from-found v [] m = grind (arith, smaller-none)
from-found v ((start, n) ∷ ranges) m = grind (arith, from-found v ranges, smaller-assoc)

pub each_range : (v : View) (ranges : List (ℕ × ℕ)) → fold (λ least r. smaller least (first_lacking v r.0 r.1)) None ranges ≡ missing_at ranges v
each_range v ranges = from-found v ranges None
