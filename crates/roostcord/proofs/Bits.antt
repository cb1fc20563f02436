-- Every refusal that a call of the C library gives has its values within their bits, where what is lent are bytes: so no two of them have
-- the same word. A missing offset is one that is read, a field's number is at most 24, a code and a device type are bytes, a count has twelve
-- bits. Assumes nothing.
use Rattle.std.specs.Prelude.{Ok, Err}
use Prim.Native.Nat.{ℕ, zero, suc, ◌+◌, ◌<◌}
use mathlib.Core.Path.{◌≡◌, subst}
use mathlib.Core.List.{List, [], ◌∷◌}
use native.Mathlib.Omega.{arith}
use lib.Dec.{eqb, ltb, leb}
use lib.ListN.{length, get_or, take, drop}
use lib.Seq.{get_or-drop}
use Rattle.reading.specs.Refusal.{Answer, onward, told}
use Rattle.reading.specs.Bytes.{AllBytes}
use Rattle.reading.specs.View.{View, view}
use Rattle.reading.specs.declared.Refusal.{Refusal}
use Rattle.reading.proofs.Picked.{either}
use Rattle.reading.proofs.Reach.{named-before}
use Rattle.decoders.specs.Identity.{identity_ranges, identity_at, identity_of}
use Rattle.decoders.specs.Timing.{timing_ranges, timings_at, timings_of}
use Rattle.decoders.specs.Clocks.{clock_table_of}
use Rattle.decoders.specs.declared.timing.Timings.{Timings}
use Rattle.reading.proofs.Refused.{OfRefused, onward-refused}
use Rattle.decoders.proofs.Refused.{identity-refusals, timings-refusals}
use Rattle.manufacturing.specs.Block.{manufacturing_ranges, manufacturing_at, manufacturing_of}
use Rattle.manufacturing.specs.declared.DateMode.{DateMode}
use Rattle.manufacturing.specs.declared.DateMode.TheVariants.{AsIs}
use Rattle.manufacturing.proofs.Refused.{manufacturing-refusals}
use Rattle.crc.specs.Base.{crc_ranges, base_crc_of, sound_in, sound_read_of, sound_number_of}
use Rattle.crc.proofs.Refused.{crc-refusals}
use Rattle.ddr4.specs.Module.{ddr4_ranges, ddr4_at, ddr4_of}
use Rattle.ddr4.proofs.Refused.{ddr4-refusals}
use Rattle.rules.specs.declared.Edition.{Edition}
use Rattle.rules.specs.Lint.{edition_of, findings_of}
use Rattle.rules.specs.Table.{all_in}
use Rattle.report.specs.Form.{rest_of, findings_in}
use Rattle.report.specs.Read.{length_in, content_of}
use Rattle.report.specs.Write.{lint_report_of}
use Rattle.pieces.specs.Fed.{kept_bytes, accepted_at, longest}
use Rattle.roostcord.specs.Numbers.{crc_number, identity_list, timings_list, cas_numbers, clocks_list, mode_of, manufacturing_list, ddr4_list, ddr4_lint_list, part_list, report_list, listed_in}
use Rattle.roostcord.specs.Word.{refusal_word}
use Rattle.roostcord.specs.Chosen.{chosen, lint_in}
use Rattle.roostcord.specs.State.{short, count_in, edition_in, arrived_in, asked, fresh_in, feed_in, taken_in}
use Rattle.roostcord.proofs.Once.{InBits, word-once}

-- a refusal, if it is one, has its values within their bits
abbrev Small : Refusal → Type 0
Small t = ((told t).first < 4096) × ((told t).second < 1024)

abbrev pub Fits : {A : Type 0} → Answer A → Type 0
Fits said = OfRefused Small said

-- a step of a chain of checks
on_fits : {A B : Type 0} (s : Answer A) (go : A → Answer B) → Fits s → ((a : A) → Fits (go a)) → Fits (onward Err s go)
on_fits = onward-refused Small

-- a refusal that carries nothing
plain : (0 < 4096) × (0 < 1024)
plain = (omega arith, omega arith)

-- the offset that is missing is one that is read, and those lie before the reach
identity-fits : (v : View) → v.byte 2 < 256 → Fits (identity_at v)
identity-fits v h =
    identity-refusals Small v (omega arith, omega arith) (λ field code f c. (omega arith, omega arith))
    (λ i e. (omega (arith, named-before identity_ranges v i e), omega arith))

timings-fits : (v : View) → Fits (timings_at v)
timings-fits v = timings-refusals Small v (λ i e. (omega (arith, named-before timing_ranges v i e), omega arith))

block-fits : (mode : DateMode) (v : View) → Fits (manufacturing_at mode v)
block-fits mode v =
    manufacturing-refusals mode v Small (λ i e. (omega (arith, named-before manufacturing_ranges v i e), omega arith)) (λ e d. plain)

-- a code of a DDR4 image is below 16, and a time's place at most 5
ddr4-fits : (v : View) → v.byte 2 < 256 → Fits (ddr4_at v)
ddr4-fits v h =
    ddr4-refusals v Small (λ i e. (omega (arith, named-before ddr4_ranges v i e), omega arith)) (
      λ _. (omega arith, omega arith),
      (
        λ _. (omega arith, omega arith),
        (
          λ _. (omega arith, omega arith),
          (
            λ _. (omega arith, omega arith),
            (
              λ _. (omega arith, omega arith),
              (
                λ _. (omega arith, omega arith),
                (
                  λ _. (omega arith, omega arith),
                  (
                    λ _. (omega arith, omega arith),
                    (
                      λ _. (omega arith, omega arith),
                      (
                        λ _. (omega arith, omega arith),
                        tt,
                      ),
                    ),
                  ),
                ),
              ),
            ),
          ),
        ),
      ),
    )

table_fits : (t : Timings) → Fits (clock_table_of t)
unfolding clock_table_of
table_fits t = either Fits (eqb t.tckavg_min.0 0) plain tt

listed-fits : (need : ℕ) (numbers : Answer (List ℕ)) (room : ℕ) → Fits numbers → Fits (listed_in need numbers room)
unfolding listed_in
listed-fits need numbers room h = either Fits (ltb room need) plain (on_fits numbers _ h (λ l. tt))

content-fits : (s : List ℕ) → Fits (content_of s)
unfolding content_of
content-fits s =
    either Fits (ltb (length s) 2) plain
    (either Fits (ltb (length s) (2 + length_in s)) plain
    (either Fits (eqb (length_in s) 0) plain
    (either Fits (eqb (get_or s 2 0) 1)
    (either Fits (ltb (length_in s) 3) plain
    (either Fits (ltb 3 (get_or s 3 0)) plain
    (either Fits (ltb 15 (get_or s 4 0)) plain
    (either Fits (eqb (length_in s) (rest_of (get_or s 4 0)))
    (either Fits (all_in (findings_in (drop 5 s) (get_or s 4 0))) tt plain)
    plain))))
    plain)))

-- ---- the calls that write nothing
pub crc-bits : (s : List ℕ) → Fits (crc_number s)
unfolding crc_number base_crc_of
crc-bits s =
    on_fits (base_crc_of s) _ (crc-refusals (view s) Small (λ i e. (omega (arith, named-before crc_ranges (view s) i e), omega arith))) (λ fits. tt)

pub sound-bits : (first second : List ℕ) → Fits (sound_read_of first second)
unfolding sound_read_of
sound-bits first second = either Fits (sound_in first) tt (either Fits (sound_in second) tt plain)

pub sound-number-bits : (first second : List ℕ) → Fits (sound_number_of first second)
sound-number-bits first second = on_fits (sound_read_of first second) _ (sound-bits first second) (λ r. tt)

-- ---- a call that is given an edition
chosen-bits : {A : Type 0} (n : ℕ) (answer : Edition → Answer A) → ((e : Edition) → Fits (answer e)) → Fits (chosen n answer)
chosen-bits n answer h = on_fits (edition_of n) _ (either Fits (eqb n 1) tt (either Fits (eqb n 2) tt plain)) h

-- ---- the calls on an image, and on a report
module _ (s : List ℕ) (room : ℕ) where
  report-fits : (e : Edition) → Fits (lint_report_of e s room)
  unfolding lint_report_of
  report-fits e = either Fits (ltb room (rest_of (length (findings_of e s)) + 2)) plain tt

  pub lint-bits : (n : ℕ) → Fits (lint_in n s room)
  unfolding lint_in
  lint-bits n = chosen-bits n _ report-fits

  pub identity-bits : AllBytes s → Fits (listed_in 18 (identity_list s) room)
  unfolding identity_list identity_of
  identity-bits h = listed-fits 18 _ room (on_fits (identity_of s) _ (identity-fits (view s) (h 2)) (λ d. tt))

  pub timings-bits : Fits (listed_in 30 (timings_list s) room)
  unfolding timings_list timings_of
  timings-bits = listed-fits 30 _ room (on_fits (timings_of s) _ (timings-fits (view s)) (λ t. tt))

  pub cas-bits : Fits (listed_in 40 (cas_numbers s) room)
  unfolding cas_numbers timings_of
  cas-bits = listed-fits 40 _ room (on_fits (timings_of s) _ (timings-fits (view s)) (λ t. tt))

  pub clocks-bits : Fits (listed_in 9 (clocks_list s) room)
  unfolding clocks_list timings_of
  clocks-bits = listed-fits 9 _ room (on_fits (timings_of s) _ (timings-fits (view s)) (λ t. on_fits (clock_table_of t) _ (table_fits t) (λ c. tt)))

  pub manufacturing-bits : (strict : ℕ) → Fits (listed_in 11 (manufacturing_list strict s) room)
  unfolding manufacturing_list manufacturing_of
  manufacturing-bits strict =
      listed-fits 11 _ room (on_fits (manufacturing_of (mode_of strict) s) _ (block-fits (mode_of strict) (view s)) (λ m. tt))

  pub ddr4-bits : AllBytes s → Fits (listed_in 9 (ddr4_list s) room)
  unfolding ddr4_list ddr4_of
  ddr4-bits h = listed-fits 9 _ room (on_fits (ddr4_of s) _ (ddr4-fits (view s) (h 2)) (λ d. tt))

  pub ddr4-lint-bits : AllBytes s → Fits (listed_in 18 (ddr4_lint_list s) room)
  unfolding ddr4_lint_list ddr4_of
  ddr4-lint-bits h = listed-fits 18 _ room (on_fits (ddr4_of s) _ (ddr4-fits (view s) (h 2)) (λ d. tt))

  pub part-bits : Fits (listed_in 30 (part_list s) room)
  unfolding part_list manufacturing_of
  part-bits = listed-fits 30 _ room (on_fits (manufacturing_of AsIs s) _ (block-fits AsIs (view s)) (λ m. tt))

  pub report-bits : Fits (listed_in 91 (report_list s) room)
  unfolding report_list
  report-bits = listed-fits 91 _ room (on_fits (content_of s) _ (content-fits s) (λ c. tt))

-- ---- the calls on a state in lent bytes: what has arrived are bytes, so the above holds of it
bytes_take : (n : ℕ) (s : List ℕ) → AllBytes s → AllBytes (take n s)
bytes_take zero s h i = omega arith
bytes_take (suc n) [] h i = omega arith
bytes_take (suc n) (x ∷ s) h zero = h 0
bytes_take (suc n) (x ∷ s) h (suc i) = bytes_take n s (λ j. h (suc j)) i

module _ (s : List ℕ) where
  pub asked-bits : {A : Type 0} (said : Answer A) → Fits said → Fits (asked s said)
  asked-bits said h = either Fits (short s) plain h

  pub fresh-bits : (n : ℕ) → Fits (fresh_in n s)
  unfolding fresh_in
  fresh-bits n = chosen-bits n _ (λ e. asked-bits (Ok 0) tt)

  pub taken-bits : Fits (taken_in s)
  unfolding taken_in
  taken-bits = asked-bits (Ok (count_in s)) tt

  pub state-crc-bits : Fits (asked s (crc_number (arrived_in s)))
  state-crc-bits = asked-bits _ (crc-bits (arrived_in s))

  pub arrived-bytes : AllBytes s → AllBytes (arrived_in s)
  arrived-bytes h =
      bytes_take (count_in s) (take kept_bytes (drop 2 s))
      (bytes_take kept_bytes (drop 2 s) (λ i. rw (get_or-drop 2 s i 0) (h (2 + i))))

  pub feed-bits : (offset : ℕ) (piece : List ℕ) → AllBytes s → Fits (feed_in s offset piece)
  unfolding feed_in
  feed-bits offset piece h =
      let few : count_in s < 4096 = omega (arith, h 0) in
      asked-bits (accepted_at (count_in s) offset (length piece))
      (either Fits (eqb offset (count_in s))
      (either Fits (leb (count_in s + length piece) longest) tt plain)
      (few, omega arith))

  module _ (room : ℕ) where
    pub state-lint-bits : Fits (asked s (lint_report_of (edition_in s) (arrived_in s) room))
    state-lint-bits = asked-bits _ (report-fits (arrived_in s) room (edition_in s))

    pub state-identity-bits : AllBytes s → Fits (asked s (listed_in 18 (identity_list (arrived_in s)) room))
    state-identity-bits h = asked-bits _ (identity-bits (arrived_in s) room (arrived-bytes h))

    pub state-timings-bits : Fits (asked s (listed_in 30 (timings_list (arrived_in s)) room))
    state-timings-bits = asked-bits _ (timings-bits (arrived_in s) room)

    pub state-cas-bits : Fits (asked s (listed_in 40 (cas_numbers (arrived_in s)) room))
    state-cas-bits = asked-bits _ (cas-bits (arrived_in s) room)

    pub state-clocks-bits : Fits (asked s (listed_in 9 (clocks_list (arrived_in s)) room))
    state-clocks-bits = asked-bits _ (clocks-bits (arrived_in s) room)

    pub state-manufacturing-bits : (strict : ℕ) → Fits (asked s (listed_in 11 (manufacturing_list strict (arrived_in s)) room))
    state-manufacturing-bits strict = asked-bits _ (manufacturing-bits (arrived_in s) room strict)

    pub state-part-bits : Fits (asked s (listed_in 30 (part_list (arrived_in s)) room))
    state-part-bits = asked-bits _ (part-bits (arrived_in s) room)

-- ---- a refusal that fits is one of those that no two have one word of
pub in-bits : {A : Type 0} (said : Answer A) (r : Refusal) → Fits said → said ≡ Err r → InBits r
in-bits {A} said r h e =
    let p : Fits {A = A} (Err r) = subst (λ (x : Answer A). Fits x) e h in
    record { first = p.0; second = p.1 }

-- two answers of calls, of whichever, that are refused with one word have one refusal
pub refused-once : {A B : Type 0} (x : Answer A) (y : Answer B) (a b : Refusal) → Fits x → Fits y → x ≡ Err a → y ≡ Err b
    → refusal_word (told a) ≡ refusal_word (told b) → a ≡ b
refused-once x y a b h k e f w = word-once a b (in-bits x a h e) (in-bits y b k f) w
