-- A definition that goes by tests picks its case with `pick`. Assumes nothing.
use Rattle.std.specs.Prelude.{Bool, true, false}

-- the first where the test holds, and else the second
abbrev pub pick : {A : Type 0} → Bool → A → A → A
pick true a b = a
pick false a b = b

abbrev pub and : Bool → Bool → Bool
and a b = pick a b false
