-- Document 01, "Bench examples": the lines marked P, as one list, and what each says. Assumes nothing.
use Rattle.std.specs.Prelude.{ℕ, ◌+◌, ◌/◌, ◌%◌, ◌≡◌, List, [], ◌∷◌, Bool, true, false, Ok, Err}
use Rattle.reading.specs.View.{View, view}
use Rattle.reading.specs.Refusal.{Answer, onward}
use Rattle.reading.specs.declared.Refusal.{Refusal}
use Rattle.reading.specs.declared.Refusal.TheVariants.{UnknownEnum}
use Rattle.reading.specs.Made.{Image, bytes_of}
use Rattle.findings.specs.declared.Finding.{Finding}
use Rattle.decoders.specs.Cas.{cas_of, in_set}
use Rattle.decoders.specs.Timing.{rate_of}
use Rattle.decoders.specs.Identity.{identity_at}
use Rattle.decoders.specs.declared.identity.IdentityAndBase.{IdentityAndBase}
use Rattle.decoders.specs.declared.identity.ModuleType.TheVariants.{Udimm}
use Rattle.decoders.specs.declared.identity.DensityPerDie.TheVariants.{Gb16}
use Rattle.decoders.specs.declared.identity.PackageType.TheVariants.{ThreeDs}
use Rattle.rules.specs.declared.ClockTimingParam.TheVariants.{Trcd, Trp}
use Rattle.rules.specs.declared.Edition.TheVariants.{Second}
use Rattle.rules.specs.Table.{non_integer_cas_latency, cas_latency_not_supported, non_integer_clock_timing, reserved_bytes_nonzero}
use Rattle.rules.specs.Lint.{lint_at}

-- what a line of the bench says
pub data Line : Type 1 where
  -- the image decodes, and a field of its identity is so
  field : {A : Type 0} → Image → (IdentityAndBase → A) → A → Line
  -- the image's identity is refused so
  refusal : Image → Refusal → Line
  -- the data rate of a cycle time
  rate : (tck rate : ℕ) → Line
  -- whether a CL is in the set of five bytes
  cas : (b0 b1 b2 b3 b4 cl : ℕ) → Bool → Line
  -- the findings of the image under edition 2 are these and no others
  finds : Image → List Finding → Line

-- a field alone of what a decoder said
abbrev pub only : {A B : Type 0} → (A → B) → Answer A → Answer B
only f said = onward Err said (λ a. Ok (f a))

-- a line holds of images as they are seen
abbrev pub holds : (Image → View) → Line → Type 0
holds see (field image f value) = only f (identity_at (see image)) ≡ Ok value
holds see (refusal image why) = identity_at (see image) ≡ Err why
holds see (rate tck mts) = rate_of tck ≡ mts
holds see (cas b0 b1 b2 b3 b4 cl within) = in_set (cas_of b0 b1 b2 b3 b4) cl ≡ within
holds see (finds image findings) = lint_at Second (see image) ≡ findings

abbrev pub All : (Line → Type 0) → List Line → Type 0
All P [] = Unit {0}
All P (line ∷ lines) = P line × All P lines

-- every line holds of the images' lists of bytes
abbrev pub AllHold : List Line → Type 0
AllHold = All (holds (λ image. view (bytes_of image)))

-- a UDIMM whose identity decodes, with one byte set
abbrev pub with : (offset byte : ℕ) → Image
with offset byte = record { size = 236; nonzero = (offset, byte) ∷ (0, 0x30) ∷ (2, 0x12) ∷ (3, 0x02) ∷ (4, 0x04) ∷ [] }

-- a 16-bit time, low byte first, and the bytes behind it
abbrev pub time : (offset ps : ℕ) → List (ℕ × ℕ) → List (ℕ × ℕ)
time offset ps rest = (offset, ps % 256) ∷ (offset + 1, ps / 256) ∷ rest

-- timings that decode: tCK, tAA and the CAS bytes as told, and tRCD, tRP, tRAS and tRC, which keep the rules that ask no clock
abbrev pub timed : (tck taa : ℕ) → (set : List (ℕ × ℕ)) → Image
timed tck taa set = record { size = 94; nonzero = time 20 tck (time 30 taa (time 32 16640 (time 34 16640 (time 36 32000 (time 38 48640 set))))) }

-- CL 40 is bit 10 of the set, and so bit 2 of byte 25
abbrev pub cl40 : List (ℕ × ℕ)
cl40 = (25, 0x04) ∷ []

-- nothing but byte 103
abbrev pub at103 : (size : ℕ) → Image
at103 size = record { size = size; nonzero = (103, 0x07) ∷ [] }

unfoldable pub bench : List Line
bench =
    -- P byte 3 = 0x82: UDIMM, hybrid. P 0x09: refused.
    field (with 3 0x82) (λ d. d.module_type) Udimm
    ∷ field (with 3 0x82) (λ d. d.hybrid) true
    ∷ refusal (with 3 0x09) (UnknownEnum 2 9)
    -- P byte 4 = 0xA4: 16 Gb, 3DS, 16 dies. P 0xC1: refused, field 4, code 6.
    ∷ field (with 4 0xA4) (λ d. d.density_per_die) Gb16
    ∷ field (with 4 0xA4) (λ d. d.package_type) ThreeDs
    ∷ field (with 4 0xA4) (λ d. d.die_count) 16
    ∷ refusal (with 4 0xC1) (UnknownEnum 4 6)
    -- P byte 0 = 0x30: 1024. P 0x80: refused, code 0.
    ∷ field (with 0 0x30) (λ d. d.spd_bytes_total) 1024
    ∷ refusal (with 0 0x80) (UnknownEnum 1 0)
    -- P byte 5 = 0xFF: 47 rows, 17 columns.
    ∷ field (with 5 0xFF) (λ d. d.row_address_bits) 47
    ∷ field (with 5 0xFF) (λ d. d.column_address_bits) 17
    -- P tCK 416: 4800. P 40000: 100. P 40001: 0, so no rate finding, yet the clock rules run.
    ∷ rate 416 4800
    ∷ rate 40000 100
    ∷ rate 40001 0
    ∷ finds (timed 40001 16640 cl40) (non_integer_cas_latency 16640 40001 ∷ non_integer_clock_timing Trcd 16640 40001 ∷ non_integer_clock_timing Trp 16640 40001 ∷ [])
    -- P CAS bytes 01 00 00 00 80: 20 and 98 in, 21 and 100 out.
    ∷ cas 0x01 0x00 0x00 0x00 0x80 20 true
    ∷ cas 0x01 0x00 0x00 0x00 0x80 98 true
    ∷ cas 0x01 0x00 0x00 0x00 0x80 21 false
    ∷ cas 0x01 0x00 0x00 0x00 0x80 100 false
    -- P byte 103 nonzero: 127 bytes long, none; 128 long, offset 103.
    ∷ finds (at103 127) []
    ∷ finds (at103 128) (reserved_bytes_nonzero 103 0x07 ∷ [])
    -- P tAA 16640, tCK 416: CL 40. tAA 16641: code 4 and no code 5.
    ∷ finds (timed 416 16640 cl40) []
    ∷ finds (timed 416 16640 []) (cas_latency_not_supported 40 ∷ [])
    ∷ finds (timed 416 16641 []) (non_integer_cas_latency 16641 416 ∷ [])
    ∷ []
