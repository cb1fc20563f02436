-- The sound one of two reads: which case of the definition the two tests pick. Then what that says of the block that is handed back.
-- Assumes nothing.
use Rattle.std.specs.Prelude.{Ok, Err}
use Prim.Native.Nat.{ℕ, ◌≤◌}
use mathlib.Core.Path.{◌≡◌, refl, sym, ap, subst, ◌∙◌}
use mathlib.Core.List.{List, []}
use mathlib.Core.Bool.{Bool, true, false, true≢false}
use native.Mathlib.Omega.{arith}
use lib.ListN.{length, take}
use lib.Seq.{length-take-le}
use Rattle.reading.specs.Refusal.{Answer, onward}
use Rattle.reading.specs.declared.Refusal.{Refusal}
use Rattle.reading.specs.declared.Refusal.TheVariants.{NeitherSound}
use Rattle.reading.specs.View.{view}
use Rattle.reading.specs.Ranges.{missing_at}
use Rattle.reading.proofs.Picked.{by-test}
use Rattle.reading.proofs.Reach.{by-missing, long-enough}
use Rattle.crc.specs.declared.SoundRead.{SoundRead}
use Rattle.crc.specs.declared.SoundRead.TheVariants.{First, Second}
use Rattle.crc.specs.Base.{crc_ranges, base_crc_of, sound_in, of_sound, block_of, sound_read_of}

-- what is made of each read, by the answers of the two tests
module _ {A : Type 0} (first second : List ℕ) (one two none : A) where
  pub is-first : {t : Bool} → t ≡ sound_in first → t ≡ true → of_sound first second one two none ≡ one
  is-first e h = rw (sym e ∙ h)

  pub is-second : {t u : Bool} → t ≡ sound_in first → t ≡ false → u ≡ sound_in second → u ≡ true → of_sound first second one two none ≡ two
  is-second e h f k = rw (sym e ∙ h, sym f ∙ k)

  pub is-neither : {t u : Bool} → t ≡ sound_in first → t ≡ false → u ≡ sound_in second → u ≡ false → of_sound first second one two none ≡ none
  is-neither e h f k = rw (sym e ∙ h, sym f ∙ k)

-- a sound read has its 512 bytes
pub sound-long : (s : List ℕ) → sound_in s ≡ true → 512 ≤ length s
unfolding base_crc_of
sound-long s h = by-missing (missing_at crc_ranges (view s)) (λ e. long-enough crc_ranges s e) (λ i e. absurd (true≢false (sym (rw e at h))))

pub sound-part : (s : List ℕ) {t : Bool} → t ≡ sound_in s → t ≡ true → 512 ≡ length (take 512 s)
sound-part s e h = sym (length-take-le 512 s (sound-long s (sym e ∙ h)))

-- the block is bytes 0 to 511 of the read that is told, which has them, and else empty
module _ (first second : List ℕ) where
  abbrev pub Block : Answer SoundRead → Type 0
  Block (Ok First) = (512 ≤ length first) × (take 512 first ≡ block_of first second)
  Block (Ok Second) = (512 ≤ length second) × (take 512 second ≡ block_of first second)
  Block (Err why) = [] ≡ block_of first second

  pub block : Block (sound_read_of first second)
  unfolding sound_read_of block_of
  block = by-test (sound_in first)
      (λ h. rw h (sound-long first h, rw h refl))
      (λ n. by-test (sound_in second)
      (λ h. rw (n, h) (sound-long second h, rw (n, h) refl))
      (λ m. rw (n, m) (rw (n, m) refl)))

  pub of_first : sound_read_of first second ≡ Ok First → (512 ≤ length first) × (take 512 first ≡ block_of first second)
  of_first e = subst Block e block

  pub of_second : sound_read_of first second ≡ Ok Second → (512 ≤ length second) × (take 512 second ≡ block_of first second)
  of_second e = subst Block e block

  pub of_neither : (why : Refusal) → sound_read_of first second ≡ Err why → [] ≡ block_of first second
  of_neither why e = subst Block e block

-- the block is empty exactly where the call that tells the read is refused 21, and that is exactly where neither read is sound
module _ (first second : List ℕ) where
  pub Neither : Type 0
  Neither = (sound_in first ≡ false) × (sound_in second ≡ false)

  not-empty : (s : List ℕ) → sound_in s ≡ true → take 512 s ≡ [] → ⊥
  not-empty s h e = omega (arith, ap length e, sound-part s refl h)

  pub empty-then : block_of first second ≡ [] → Neither
  unfolding block_of Neither
  empty-then e = by-test (sound_in first)
      (λ h. absurd (not-empty first h (sym (is-first first second (take 512 first) (take 512 second) [] refl h) ∙ e)))
      (λ n. by-test (sound_in second)
      (λ h. absurd (not-empty second h (sym (is-second first second (take 512 first) (take 512 second) [] refl n refl h) ∙ e)))
      (λ m. (n, m)))

  pub then-empty : Neither → block_of first second ≡ []
  unfolding block_of Neither
  then-empty h = is-neither first second (take 512 first) (take 512 second) [] refl h.0 refl h.1

  pub refused-then : sound_read_of first second ≡ Err NeitherSound → Neither
  unfolding sound_read_of Neither
  refused-then e = by-test (sound_in first)
      (λ h. absurd (told (sym (is-first first second (Ok First) (Ok Second) (Err NeitherSound) refl h) ∙ e)))
      (λ n. by-test (sound_in second)
      (λ h. absurd (told (sym (is-second first second (Ok First) (Ok Second) (Err NeitherSound) refl n refl h) ∙ e)))
      (λ m. (n, m)))
    where
      told : {r : SoundRead} → Ok r ≡ Err NeitherSound → ⊥
      told e = omega (arith, ap {B = ℕ} (λ (x : Answer SoundRead). onward (λ t. 0) x (λ r. 1)) e)

  pub then-refused : Neither → sound_read_of first second ≡ Err NeitherSound
  unfolding sound_read_of Neither
  then-refused h = is-neither first second (Ok First) (Ok Second) (Err NeitherSound) refl h.0 refl h.1
