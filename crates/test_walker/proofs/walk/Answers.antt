-- Why the loop ends, by the promise of `next` alone.
use Rattle.std.proofs.Common.{◌≡◌, ℕ, ◌+◌, ◌-◌, ◌<◌, length, ap, arith}
use Rattle.std.specs.Borrow.{Bor}
use Rattle.std.specs.Prelude.{Some, None, Ok, Err}
use Rattle.tag_walker.specs.Walk.{WalkStep, Next}
use Rattle.tag_walker.specs.declared.TagWalker.{TagWalker}
use Rattle.tag_walker.proofs.Walks.{tag-moves}
use Rattle.test_walker.specs.Stops.{stops_after}
use Rattle.test_walker.proofs.walk.Goals as goal

abbrev ahead : TagWalker → ℕ → ℕ
ahead w n = (2 - n) + (length w.tags.now + 1 - w.at)

lengths : (w after : TagWalker) → after.tags ≡ w.tags → length after.tags.now ≡ length w.tags.now
lengths w after e = ap (λ (x : Bor _). length x.now) e

nearer : (w after : TagWalker) (step : WalkStep) (n : ℕ) → n < 2 → Next w step after → ahead after (stops_after step n) < ahead w n
nearer w after (Ok (Some t)) n less p = let m = tag-moves w t after p in omega (arith, m.0, m.1, lengths w after p.0)
nearer w after (Ok None) n less p = omega (arith, p.1.1.0.0, lengths w after p.0)
nearer w after (Err f) n less p = omega (arith, p.1.1.0.0, lengths w after p.0)

pub loop-stops-smaller : goal.loop-stops-smaller
loop-stops-smaller g c =
    let nearer-end = nearer c.loop-stops.w c.next.new.w c.next.result c.loop-stops.stops c.loop-stops-test.true c.next.ensures in
    omega (arith, nearer-end, c.in_ok-stops.ensures)
