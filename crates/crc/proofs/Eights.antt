-- Bytes, eight by eight and then what is left; and std's fold is the definition's order. Assumes nothing.
use Rattle.std.proofs.Common.{◌≡◌, ℕ, zero, suc, ◌+◌, ◌*◌, List, [], ◌∷◌, take, drop, fold, refl, sym, ap, ◌∙◌, arith}
use Rattle.std.specs.Simd.{first_chunks}
use Rattle.std.proofs.Math.Nat.{zero-mul}
use Rattle.std.proofs.lemmas.List.{drop-drop, take-append-drop}
use Rattle.crc.specs.Crc.{byte_in, crc_from}
use Rattle.crc.proofs.Laws.{from-join}

pub in_turn : (r : ℕ) (bytes : List ℕ) → fold byte_in r bytes ≡ crc_from r bytes
in_turn r [] = refl
in_turn r (b ∷ bytes) = in_turn (byte_in r b) bytes

pub chunks-fold : (n k r : ℕ) (bytes : List ℕ) → crc_from (fold crc_from r (first_chunks n k bytes)) (drop (k * n) bytes) ≡ crc_from r bytes
chunks-fold n zero r bytes = rw (zero-mul n) refl
chunks-fold n (suc k) r bytes =
    let more : suc k * n ≡ n + k * n = omega arith in
    rw (more, sym (drop-drop (k * n) n bytes))
    (chunks-fold n k (crc_from r (take n bytes)) (drop n bytes)
    ∙ sym (from-join r (take n bytes) (drop n bytes))
    ∙ ap (crc_from r) (take-append-drop n bytes))

pub ruleset eights = chunks-fold
