-- The state in lent bytes is tied to the state by value. A count that feeding leads to is within the longest image, so its two bytes hold it,
-- and the bytes after a call are the state after that call; what is known of a run of calls by value then holds of the bytes. Assumes nothing.
use Rattle.std.specs.Prelude.{Ok, Err}
use Prim.Native.Nat.{ℕ, zero, suc, ◌+◌, ◌*◌, ◌/◌, ◌%◌, ◌<◌, ◌≤◌}
use mathlib.Core.Path.{◌≡◌, refl, ap, sym, subst, subst⁻¹, ◌∙◌}
use mathlib.Core.Bool.{false}
use mathlib.Core.List.{List, [], ◌∷◌, ◌++◌, map}
use native.Mathlib.Omega.{arith}
use lib.Dec.{eqb}
use lib.ListN.{length, take, drop, replicate, length-append, length-take, length-drop}
use lib.Seq.{take_at, drop_at}
use borrow.Author.Tests.{eq-eqb, ne_eqb, le-ltb, ltb-false}
use Rattle.reading.specs.Pick.{pick}
use Rattle.reading.specs.Refusal.{Answer}
use Rattle.reading.specs.declared.Refusal.{Refusal}
use Rattle.reading.proofs.Picked.{by-test}
use Rattle.rules.specs.declared.Edition.{Edition}
use Rattle.rules.specs.declared.Edition.TheVariants.{First, Second}
use Rattle.rules.specs.Lint.{edition_of}
use Rattle.pieces.specs.declared.Pieces.{Pieces}
use Rattle.pieces.specs.declared.Fed.{Fed}
use Rattle.pieces.specs.Fed.{kept_bytes, longest, overlaid, accepted_at, fed_by, fresh_pieces, kept_of, Holds}
use Rattle.pieces.specs.Run.{Call, run_from, run, image, answers_from, said_from}
use Rattle.pieces.proofs.Accepting.{given, by_answer}
use Rattle.pieces.proofs.Running.{run_holds, run-says, run-edition}
use Rattle.pieces.proofs.Asking.{run-identity, run-timings, run-manufacturing, run-part, run-crc, run-findings}
use Rattle.report.specs.Write.{lint_report_of, lint_report_after}
use Rattle.roostcord.specs.Word.{word_of}
use Rattle.manufacturing.specs.declared.DateMode.TheVariants.{AsIs}
use Rattle.roostcord.specs.Numbers.{crc_number, identity_list, timings_list, cas_numbers, clocks_list, mode_of, manufacturing_list, part_list}
use Rattle.roostcord.specs.State.{state_size, short, count_in, edition_in, mark, state_in, state_bytes, arrived_in, asked, fresh_in, fresh_after, feed_in, feed_after, taken_in, fed_bytes, said_bytes}
use Rattle.roostcord.proofs.Answers.{Question, listing, reporting}

length_over : (k : List ℕ) (at : ℕ) (p : List ℕ) → length (overlaid k at p) ≡ length k
unfolding overlaid
length_over [] at p = refl
length_over (x ∷ k) (suc at) p = ap suc (length_over k at p)
length_over (x ∷ k) zero [] = refl
length_over (x ∷ k) zero (y ∷ p) = ap suc (length_over k zero p)

-- the two bytes before what is kept say the count and the edition
count-back : (e : Edition) (n : ℕ) → n < 4096 → n % 256 + 256 * ((n / 256 + mark e) % 16) ≡ n
count-back First n h = omega arith
count-back Second n h = omega arith

edition-back : (e : Edition) (n : ℕ) → n < 4096 → pick (eqb ((n / 256 + mark e) / 16 % 2) 1) First Second ≡ e
edition-back First n h = rw (eq-eqb ((n / 256 + 16) / 16 % 2) 1 (omega arith))
edition-back Second n h = rw (ne_eqb ((n / 256 + 0) / 16 % 2) 1 (λ e. omega arith))

-- zeros are a fresh state of edition 2
pub fresh-zeros : state_bytes (fresh_pieces Second) ≡ replicate state_size 0
fresh-zeros = refl

-- the bytes of a state whose count has twelve bits, with anything behind them: they are that state, and the rest stays
module _ (p : Pieces) (rest : List ℕ) (k : length p.kept ≡ kept_bytes) where
  back : p.taken < 4096 → state_in (state_bytes p ++ rest) ≡ p
  back h i = record {
    kept = take_at p.kept rest kept_bytes k i;
    taken = count-back p.edition p.taken h i;
    edition = edition-back p.edition p.taken h i;
  }

  behind : drop state_size (state_bytes p ++ rest) ≡ rest
  behind = drop_at p.kept rest kept_bytes k

  long : state_size ≤ length (state_bytes p ++ rest)
  long = omega (arith, length-append p.kept rest)

-- a number that is no edition leaves the bytes as they were, however many they are
pub fresh-refused : (n : ℕ) (s : List ℕ) (t : Refusal) → edition_of n ≡ Err t → (fresh_in n s ≡ Err t) × (fresh_after n s ≡ s)
unfolding fresh_in fresh_after
fresh-refused n s t e = rw e (refl, refl)

module _ (s : List ℕ) (h : state_size ≤ length s) where
  module _ (n : ℕ) {e : Edition} (c : edition_of n ≡ Ok e) where
    pub fresh-tied : state_in (fresh_after n s) ≡ fresh_pieces e
    unfolding fresh_after
    fresh-tied = rw (c, le-ltb (length s) state_size h) (back (fresh_pieces e) (drop state_size s) refl (omega arith))

    pub fresh-behind : drop state_size (fresh_after n s) ≡ drop state_size s
    unfolding fresh_after
    fresh-behind = rw (c, le-ltb (length s) state_size h) (behind (fresh_pieces e) (drop state_size s) refl)

    fresh-long : state_size ≤ length (fresh_after n s)
    unfolding fresh_after
    fresh-long = rw (c, le-ltb (length s) state_size h) (long (fresh_pieces e) (drop state_size s) refl)

  module _ (offset : ℕ) (piece : List ℕ) where
    abbrev later : (total : ℕ) → Pieces
    later total = record { kept = overlaid (take kept_bytes (drop 2 s)) (count_in s) piece; taken = total; edition = edition_in s }

    kept-all : length (overlaid (take kept_bytes (drop 2 s)) (count_in s) piece) ≡ kept_bytes
    kept-all = length_over (take kept_bytes (drop 2 s)) (count_in s) piece ∙ simp (length-take, length-drop) (omega arith)

    -- what holds where a piece is taken, and where it is refused, holds of feeding
    by-feeding : (P : List ℕ → Fed → Type 0)
        → ((n : ℕ) → n ≤ longest → P (state_bytes (later n) ++ drop state_size s) (record { state = later n; answer = Ok n }))
        → ((t : Refusal) → P s (record { state = state_in s; answer = Err t }))
        → P (feed_after s offset piece) (fed_by (state_in s) offset piece)
    unfolding feed_after
    by-feeding P took kept = by_answer (accepted_at (count_in s) offset (length piece))
        (λ n e. rw (le-ltb (length s) state_size h, e) (took n (given (count_in s) offset (length piece) e).1))
        (λ t e. rw (le-ltb (length s) state_size h, e) (kept t))

    -- THE TIE: the bytes that are left are the state that feeding gives
    pub fed-tied : state_in (feed_after s offset piece) ≡ (fed_by (state_in s) offset piece).state
    fed-tied = by-feeding (λ l f. state_in l ≡ f.state) (λ n m. back (later n) (drop state_size s) kept-all (omega arith)) (λ t. refl)

    pub fed-answer : feed_in s offset piece ≡ (fed_by (state_in s) offset piece).answer
    unfolding feed_in
    fed-answer = rw (le-ltb (length s) state_size h)

    pub fed-behind : drop state_size (feed_after s offset piece) ≡ drop state_size s
    fed-behind = by-feeding (λ l f. drop state_size l ≡ drop state_size s) (λ n m. behind (later n) (drop state_size s) kept-all) (λ t. refl)

    fed-long : state_size ≤ length (feed_after s offset piece)
    fed-long = by-feeding (λ l f. state_size ≤ length l) (λ n m. long (later n) (drop state_size s) kept-all) (λ t. h)

    kept-refused : (t : Refusal) → (fed_by (state_in s) offset piece).answer ≡ Err t → feed_after s offset piece ≡ s
    kept-refused = by-feeding (λ l f. (t : Refusal) → f.answer ≡ Err t → l ≡ s) (λ n m t e. absurd (let z : ◌≡◌ {A = ℕ} 0 1 = cc in omega arith)) (λ u t e. refl)

-- a call that is refused leaves the bytes as they were, however many they are
pub fed-refused : (s : List ℕ) (offset : ℕ) (piece : List ℕ) (t : Refusal) → feed_in s offset piece ≡ Err t → feed_after s offset piece ≡ s
unfolding feed_in feed_after
fed-refused s offset piece t e = by-test (short s)
    (λ f. rw f)
    (λ f. kept-refused s (ltb-false (length s) state_size f) offset piece t (rw f at e))

-- what a run of calls does with the bytes of a state
record Ran (s : List ℕ) (cs : List Call) : Type 0 where
  state : state_in (fed_bytes s cs) ≡ run_from (state_in s) cs
  says : said_bytes s cs ≡ said_from (state_in s) cs
  behind : drop state_size (fed_bytes s cs) ≡ drop state_size s
  long : state_size ≤ length (fed_bytes s cs)

ran : (cs : List Call) (s : List ℕ) → state_size ≤ length s → Ran s cs
unfolding fed_bytes said_bytes run_from said_from
ran [] s h = record { state = refl; says = refl; behind = refl; long = h }
ran (c ∷ cs) s h =
    let r = ran cs (feed_after s c.offset c.piece) (fed-long s h c.offset c.piece) in
    let e = fed-tied s h c.offset c.piece in
    record {
      state = r.state ∙ ap (λ (p : Pieces). run_from p cs) e;
      says = λ i. fed-answer s h c.offset c.piece i ∷ (r.says ∙ ap (λ (p : Pieces). said_from p cs) e) i;
      behind = r.behind ∙ fed-behind s h c.offset c.piece;
      long = r.long;
    }

-- any list of calls, from a fresh state of the edition that a number stands for
module _ (n : ℕ) {e : Edition} (c : edition_of n ≡ Ok e) (cs : List Call) (s : List ℕ) (h : state_size ≤ length s) where
  abbrev fed : List ℕ
  fed = fed_bytes (fresh_after n s) cs

  from-fresh : Ran (fresh_after n s) cs
  from-fresh = ran cs (fresh_after n s) (fresh-long s h n c)

  -- leads to the state by value that the calls lead to
  pub fed-run : state_in fed ≡ run e cs
  fed-run = from-fresh.state ∙ ap (λ (p : Pieces). run_from p cs) (fresh-tied s h n c)

  -- is answered by the calls alone, as the state by value is
  pub fed-says : said_bytes (fresh_after n s) cs ≡ answers_from 0 cs
  fed-says = from-fresh.says ∙ ap (λ (p : Pieces). said_from p cs) (fresh-tied s h n c) ∙ run-says e cs

  pub fed-words : map word_of (said_bytes (fresh_after n s) cs) ≡ map word_of (answers_from 0 cs)
  fed-words = ap (map word_of) fed-says

  -- leaves what lies behind the state
  pub run-behind : drop state_size fed ≡ drop state_size s
  run-behind = from-fresh.behind ∙ fresh-behind s h n c

  -- and leads to no state that is short
  pub fed-whole : short fed ≡ false
  fed-whole = le-ltb (length fed) state_size from-fresh.long

  -- so it holds the bytes that were brought, and every question to it is answered for them
  pub fed-holds : Holds (state_in fed) (image cs)
  fed-holds = subst (λ (p : Pieces). Holds p (image cs)) (sym fed-run) (run_holds e cs)

  pub fed-arrived : arrived_in fed ≡ kept_of (run e cs)
  fed-arrived = ap kept_of fed-run

  pub fed-identity : identity_list (arrived_in fed) ≡ identity_list (image cs)
  unfolding identity_list
  fed-identity = ap identity_list fed-arrived ∙ rw (run-identity e cs)

  pub fed-timings : timings_list (arrived_in fed) ≡ timings_list (image cs)
  unfolding timings_list
  fed-timings = ap timings_list fed-arrived ∙ rw (run-timings e cs)

  pub fed-cas : cas_numbers (arrived_in fed) ≡ cas_numbers (image cs)
  unfolding cas_numbers
  fed-cas = ap cas_numbers fed-arrived ∙ rw (run-timings e cs)

  pub fed-clocks : clocks_list (arrived_in fed) ≡ clocks_list (image cs)
  unfolding clocks_list
  fed-clocks = ap clocks_list fed-arrived ∙ rw (run-timings e cs)

  pub fed-manufacturing : (strict : ℕ) → manufacturing_list strict (arrived_in fed) ≡ manufacturing_list strict (image cs)
  unfolding manufacturing_list
  fed-manufacturing strict = ap (manufacturing_list strict) fed-arrived ∙ rw (run-manufacturing e cs (mode_of strict), run-part e cs)

  pub fed-part : part_list (arrived_in fed) ≡ part_list (image cs)
  unfolding part_list
  fed-part = ap part_list fed-arrived ∙ rw (run-manufacturing e cs AsIs, run-part e cs)

  pub fed-crc : crc_number (arrived_in fed) ≡ crc_number (image cs)
  unfolding crc_number
  fed-crc = ap crc_number fed-arrived ∙ rw (run-crc e cs)

  pub fed-edition : edition_in fed ≡ e
  fed-edition = ap (λ (p : Pieces). p.edition) fed-run ∙ run-edition e cs

  pub fed-lint : (room : ℕ) → lint_report_of e (arrived_in fed) room ≡ lint_report_of e (image cs) room
  unfolding lint_report_of
  fed-lint room = ap (λ (b : List ℕ). lint_report_of e b room) fed-arrived ∙ rw (run-findings e cs)

  pub fed-report : (out : List ℕ) → lint_report_after e (arrived_in fed) out ≡ lint_report_after e (image cs) out
  unfolding lint_report_of lint_report_after
  fed-report out = ap (λ (b : List ℕ). lint_report_after e b out) fed-arrived ∙ rw (run-findings e cs, run-identity e cs, run-timings e cs)

  -- THE QUESTIONS: put to the state, a question is answered as for the image that was brought, and leaves what was lent so too
  abbrev pub AsImage : Question → (lent : List ℕ) → Type 0
  AsImage q lent = (asked fed (q.answer (arrived_in fed)) ≡ q.answer (image cs)) × (pick (short fed) lent (q.after (arrived_in fed)) ≡ q.after (image cs))

  as-image : (q : Question) (lent : List ℕ) → q.answer (arrived_in fed) ≡ q.answer (image cs) → q.after (arrived_in fed) ≡ q.after (image cs) → AsImage q lent
  as-image q lent a b = rw fed-whole (a, b)

  listed-as : (need : ℕ) (numbers : List ℕ → Answer (List ℕ)) (out : List ℕ) → numbers (arrived_in fed) ≡ numbers (image cs) → AsImage (listing need numbers out) out
  listed-as need numbers out a = as-image (listing need numbers out) out (rw a) (rw a)

  module _ (out : List ℕ) where
    -- linting goes by the edition that the state says, and that is the one that it was given
    pub ask-lint : (asked fed (lint_report_of (edition_in fed) (arrived_in fed) (length out)) ≡ lint_report_of e (image cs) (length out))
        × (pick (short fed) out (lint_report_after (edition_in fed) (arrived_in fed) out) ≡ lint_report_after e (image cs) out)
    ask-lint = subst⁻¹
        (λ (d : Edition). (asked fed (lint_report_of d (arrived_in fed) (length out)) ≡ lint_report_of e (image cs) (length out))
        × (pick (short fed) out (lint_report_after d (arrived_in fed) out) ≡ lint_report_after e (image cs) out))
        fed-edition (as-image (reporting e out) out (fed-lint (length out)) (fed-report out))

    pub ask-identity : AsImage (listing 18 identity_list out) out
    ask-identity = listed-as 18 identity_list out fed-identity

    pub ask-timings : AsImage (listing 30 timings_list out) out
    ask-timings = listed-as 30 timings_list out fed-timings

    pub ask-cas : AsImage (listing 40 cas_numbers out) out
    ask-cas = listed-as 40 cas_numbers out fed-cas

    pub ask-clocks : AsImage (listing 9 clocks_list out) out
    ask-clocks = listed-as 9 clocks_list out fed-clocks

    pub ask-manufacturing : (strict : ℕ) → AsImage (listing 11 (manufacturing_list strict) out) out
    ask-manufacturing strict = listed-as 11 (manufacturing_list strict) out (fed-manufacturing strict)

    pub ask-part : AsImage (listing 30 part_list out) out
    ask-part = listed-as 30 part_list out fed-part

  pub ask-crc : asked fed (crc_number (arrived_in fed)) ≡ crc_number (image cs)
  ask-crc = rw fed-whole fed-crc

  pub ask-taken : taken_in fed ≡ Ok (length (image cs))
  unfolding taken_in
  ask-taken = rw fed-whole (ap Ok fed-holds.count)
