-- The checks of a DDR4 image one after the other, each as the function that makes it answers. Assumes nothing.
use Rattle.std.specs.Prelude.{ℕ, ◌+◌, ◌*◌, ◌/◌, ◌^◌, ◌<◌, ◌≤◌, ◌≡◌, List, Bool, true, false, length, Ok, Err}
use mathlib.Core.Path.{refl}
use Rattle.reading.specs.Pick.{pick}
use Rattle.reading.specs.View.{view}
use Rattle.reading.specs.Refusal.{Answer, onward}
use Rattle.reading.specs.declared.Refusal.{Refusal}
use Rattle.reading.specs.Ranges.{missing_at, truncated_by}
use Rattle.reading.proofs.Reach.{cut, none-missing}
use Rattle.ddr4.specs.Module.{ddr4_ranges, timebase_at, density_at, io_width_at, bus_width_at, ddr4_of}
use Rattle.ddr4.specs.Times.{tras_at}
use Rattle.ddr4.specs.Parts.{ddr4_type_of, code_of, whole_time_of}

-- a check that gives what it has checked, and what is made of that
past : {A B : Type 0} (test : Bool) (why : Refusal) (x : A) (go : A → Answer B) → onward Err (pick test (Err why) (Ok x)) go ≡ pick test (Err why) (go x)
past true why x go = refl
past false why x go = refl

pub ddr4_short : (s : List ℕ) → length s < 126 → ddr4_of s ≡ Err (truncated_by (missing_at ddr4_ranges (view s)))
unfolding ddr4_of
ddr4_short s short = cut ddr4_ranges s Err _ short

pub ddr4_steps : (s : List ℕ) → 126 ≤ length s → ddr4_of s ≡
    (let v = view s in
    onward Err (ddr4_type_of (v.byte 2)) (λ _.
    onward Err (code_of 21 0 (timebase_at v)) (λ _.
    onward Err (code_of 22 7 (density_at v)) (λ density.
    onward Err (code_of 23 3 (io_width_at v)) (λ io.
    onward Err (code_of 24 3 (bus_width_at v)) (λ bus.
    onward Err (whole_time_of 1 (v.byte 18) (v.byte 125)) (λ tck.
    onward Err (whole_time_of 2 (v.byte 24) (v.byte 123)) (λ taa.
    onward Err (whole_time_of 3 (v.byte 25) (v.byte 122)) (λ trcd.
    onward Err (whole_time_of 4 (v.byte 26) (v.byte 121)) (λ trp.
    onward Err (whole_time_of 5 (v.byte 29 + 256 * (v.byte 27 / 16)) (v.byte 120)) (λ trc.
    Ok (record {
      megabits = 256 * 2 ^ density;
      io_width_bits = 4 * 2 ^ io;
      bus_width_bits = 8 * 2 ^ bus;
      tck = tck;
      taa = taa;
      trcd = trcd;
      trp = trp;
      tras = tras_at v;
      trc = trc;
    }))))))))))))
unfolding ddr4_of ddr4_type_of code_of whole_time_of
ddr4_steps s long = rw (none-missing ddr4_ranges s long) (simp past)
