-- Each check by itself, with what is good where it passes. Only private functions promise in these terms. Assumes nothing.
use Rattle.std.specs.Prelude.{ℕ, Bool, not, eqb, ltb, [], ◌∷◌, pos, Ok}
use Rattle.std.specs.Int.Signed.{lt_z}
use Rattle.reading.specs.Refusal.{Answer}
use Rattle.reading.specs.declared.Refusal.{Refusal}
use Rattle.reading.specs.declared.Refusal.TheVariants.{NegativeTime, NotDdr5, UnknownEnum}
use Rattle.ddr4.specs.Times.{time_of, whole_of}
use Rattle.ddr4.specs.Module.{first_of}

-- one check alone
abbrev pub checked : {A : Type 0} → A → Bool × Refusal → Answer A
checked good check = first_of (Ok good) (check ∷ [])

-- byte 2 says DDR4
unfoldable pub ddr4_type_of : ℕ → Answer (Unit {0})
ddr4_type_of byte2 = checked tt (not (eqb byte2 0x0C), NotDdr5 byte2)

-- a code that its field's table has, up to the last of it
unfoldable pub code_of : (field last code : ℕ) → Answer ℕ
code_of field last code = checked code (ltb last code, UnknownEnum field code)

-- a time that is not below zero, in picoseconds
unfoldable pub whole_time_of : (place units fine : ℕ) → Answer ℕ
whole_time_of place units fine = checked (whole_of (time_of units fine)) (lt_z (time_of units fine) (pos 0), NegativeTime place)
