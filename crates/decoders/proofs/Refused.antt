-- Which refusals a decoder gives: 1 exactly where a byte of its table is missing, with the smallest such offset. Assumes nothing.
use Rattle.std.specs.Prelude.{Some, Err}
use Prim.Native.Nat.{ℕ, ◌/◌, ◌%◌, ◌<◌, ◌≤◌}
use mathlib.Core.Path.{◌≡◌, refl, subst}
use mathlib.Core.List.{List, [], ◌∷◌}
use native.Mathlib.Omega.{arith}
use lib.Dec.{eqb}
use Rattle.reading.specs.View.{View}
use Rattle.reading.specs.declared.Refusal.TheVariants.{NotDdr5, Truncated, UnknownEnum}
use Rattle.reading.specs.Refusal.{told}
use Rattle.reading.specs.declared.Refusal.{Refusal}
use Rattle.reading.specs.Ranges.{missing_at}
use Rattle.reading.proofs.Picked.{either}
use Rattle.reading.proofs.Reach.{by-missing}
use Rattle.reading.proofs.Refused.{OfRefused, onward-refused}
use Rattle.decoders.specs.Codes.{meant, size_table, module_table, density_table, package_table, io_width_table, bank_group_table, banks_table, bus_width_table, channel_table}
use Rattle.decoders.specs.Codes.{size_of, device_of, module_of, density_of, package_of, io_width_of, bank_groups_of, banks_of, bus_width_of, channels_of}
use Rattle.decoders.specs.Identity.{identity_ranges, identity_at}
use Rattle.decoders.specs.Timing.{timing_ranges, timings_at}

-- what holds of the refusal of a missing byte, of another device type and of each unknown code, holds of every refusal
module _ (P : Refusal → Type 0) (v : View) where
  module _ (of-type : P (NotDdr5 (v.byte 2))) (of_code : (field code : ℕ) → field ≤ 9 → code < 32 → P (UnknownEnum field code)) where
    in_table : {A : Type 0} (field : ℕ) (rows : List (ℕ × A)) (code : ℕ) → field ≤ 9 → code < 32 → OfRefused P (meant field rows code)
    in_table field [] code h k = of_code field code h k
    in_table field ((n, x) ∷ rows) code h k = either (OfRefused P) (eqb code n) tt (in_table field rows code h k)

    device : OfRefused P (device_of (v.byte 2))
    unfolding device_of
    device = either (OfRefused P) (eqb (v.byte 2) 0x12) tt of-type

    pub identity-refusals : ((i : ℕ) → missing_at identity_ranges v ≡ Some i → P (Truncated i)) → OfRefused P (identity_at v)
    unfolding size_of module_of density_of package_of io_width_of bank_groups_of banks_of bus_width_of channels_of
    identity-refusals of-missing = by-missing (missing_at identity_ranges v)
        (λ e. rw e
        (onward-refused P (size_of (v.byte 0 / 16 % 8)) _ (in_table 1 size_table (v.byte 0 / 16 % 8) (omega arith) (omega arith)) (λ size.
        onward-refused P (device_of (v.byte 2)) _ device (λ d.
        onward-refused P (module_of (v.byte 3 % 16)) _ (in_table 2 module_table (v.byte 3 % 16) (omega arith) (omega arith)) (λ m.
        onward-refused P (density_of (v.byte 4 % 32)) _ (in_table 3 density_table (v.byte 4 % 32) (omega arith) (omega arith)) (λ density.
        onward-refused P (package_of (v.byte 4 / 32 % 8)) _ (in_table 4 package_table (v.byte 4 / 32 % 8) (omega arith) (omega arith)) (λ p.
        onward-refused P (io_width_of (v.byte 6 / 32 % 8)) _ (in_table 5 io_width_table (v.byte 6 / 32 % 8) (omega arith) (omega arith)) (λ width.
        onward-refused P (bank_groups_of (v.byte 7 / 32 % 8)) _ (in_table 6 bank_group_table (v.byte 7 / 32 % 8) (omega arith) (omega arith)) (λ g.
        onward-refused P (banks_of (v.byte 7 % 8)) _ (in_table 7 banks_table (v.byte 7 % 8) (omega arith) (omega arith)) (λ b.
        onward-refused P (bus_width_of (v.byte 235 % 8)) _ (in_table 8 bus_width_table (v.byte 235 % 8) (omega arith) (omega arith)) (λ bus.
        onward-refused P (channels_of (v.byte 235 / 32 % 8)) _ (in_table 9 channel_table (v.byte 235 / 32 % 8) (omega arith) (omega arith)) (λ c. tt))))))))))))
        (λ i e. rw e (of-missing i e))

  pub timings-refusals : ((i : ℕ) → missing_at timing_ranges v ≡ Some i → P (Truncated i)) → OfRefused P (timings_at v)
  timings-refusals of-missing = by-missing (missing_at timing_ranges v) (λ e. rw e tt) (λ i e. rw e (of-missing i e))

-- refused 1 exactly where a byte is missing, which is the one that is named
module _ (v : View) where
  pub identity-named : (i : ℕ) → missing_at identity_ranges v ≡ Some i → identity_at v ≡ Err (Truncated i)
  identity-named i e = rw e refl

  pub timings-named : (i : ℕ) → missing_at timing_ranges v ≡ Some i → timings_at v ≡ Err (Truncated i)
  timings-named i e = rw e refl

  abbrev Named : List (ℕ × ℕ) → Refusal → Type 0
  Named ranges t = (told t).number ≡ 1 → missing_at ranges v ≡ Some (told t).first

  pub identity-exactly : (t : Refusal) → identity_at v ≡ Err t → Named identity_ranges t
  identity-exactly t e =
      subst (OfRefused (Named identity_ranges)) e
      (identity-refusals (Named identity_ranges) v (λ z. absurd (omega arith)) (λ field code h k z. absurd (omega arith)) (λ i m z. m))

  pub timings-exactly : (t : Refusal) → timings_at v ≡ Err t → Named timing_ranges t
  timings-exactly t e = subst (OfRefused (Named timing_ranges)) e (timings-refusals (Named timing_ranges) v (λ i m z. m))
