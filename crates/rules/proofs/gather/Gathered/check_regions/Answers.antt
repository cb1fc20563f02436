-- `rules::gather::Gathered::check_regions` meets its contract: each turn adds what one region's rule says. The search leaves it open. Assumes nothing.
use Rattle.std.proofs.Common.{◌≡◌, ℕ, ◌<◌, List, [], ◌∷◌, ◌++◌, length, Option, map, take, get_or, zero, suc, sym, arith, add-one, append-nil, append_assoc}
use Rattle.reading.specs.View.{View, view}
use Rattle.findings.specs.Hold.{to_list, cat}
use Rattle.findings.specs.declared.Finding.{Finding}
use Rattle.rules.specs.Regions.{regions, region_at}
use Rattle.rules.specs.Rules.{each}
use Rattle.rules.proofs.gather.Gathered.check_regions.Goals as goal

-- the rules of some regions, asked of an image
abbrev answers : List (ℕ × ℕ) → View → List (Option Finding)
answers rs v = each (map (λ region. region_at region.0 region.1) rs) v

next : (rs : List (ℕ × ℕ)) (v : View) (i : ℕ) (d : ℕ × ℕ) → i < length rs
    → cat (take (suc i) (answers rs v)) ≡ cat (take i (answers rs v)) ++ to_list (region_at (get_or rs i d).0 (get_or rs i d).1 v)
next [] v i d h = absurd (omega arith)
next (r ∷ rs) v zero d h = append-nil (to_list (region_at r.0 r.1 v))
next (r ∷ rs) v (suc i) d h = rw (next rs v i d (omega arith)) (sym (append_assoc (to_list (region_at r.0 r.1 v)) _ _))

pub loop-region-preserved : goal.loop-region-preserved
loop-region-preserved c =
    let l = c.loop-region in
    let v = view c.args.image.now in (
      rw (c.note.ensures.found, c.check_reserved_region.ensures, l.invariant.0, add-one, next regions v l.region-index (0, 0) (omega (arith, c.loop-region-test.true))) (append_assoc c.args.self.now _ _),
      omega (arith, c.note.ensures.room, l.invariant.1),
    )
