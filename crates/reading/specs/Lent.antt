-- A lent list or buffer after a call has written to it. Assumes nothing.
use Rattle.std.specs.Prelude.{ℕ, List, ◌++◌, ltb, length, drop}
use Rattle.reading.specs.Pick.{pick}

-- p stands in the first places, and the places past it are as they were
abbrev pub laid : {X : Type 0} → List X → List X → List X
laid p lent = p ++ drop (length p) lent

-- the same after a call that asks for so many places: as it was where there are fewer
abbrev pub listed : {X : Type 0} → (need : ℕ) → List X → List X → List X
listed need p lent = pick (ltb (length lent) need) lent (laid p lent)
