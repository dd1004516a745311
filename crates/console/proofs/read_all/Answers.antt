-- What came so far and what one more read gave stand one after the other in the buffer.
use Rattle.std.proofs.Common.{◌≡◌, ℕ, ◌+◌, ◌-◌, ◌≤◌, List, ◌++◌, rules, arith, length, take, slice_range, sym, ap, ◌∙◌, subst, le_refl, drop_at, length-take-le}
use Rattle.std.proofs.lemmas.Slice.{take-put_mid_below}
use Rattle.std.specs.Io.KnownBytes.{Consumes}
use Rattle.std.proofs.KnownBytes.{Consumes-trans}
use borrow.Rule.Slice.PartMut.{put_mid, post_of}
use lib.Seq.{take-add, take-append-le}
use Rattle.console.proofs.read_all.Goals as goal

take_split : (a n : ℕ) (old new : List ℕ) → take a new ≡ take a old → take a old ++ slice_range new a (a + n) ≡ take (a + n) new
take_split a n old new front =
    let same : (a + n) - a ≡ n = omega arith in
    ap (λ l. l ++ slice_range new a (a + n)) (sym front) ∙ sym (take-add a ((a + n) - a) new) ∙ ap (λ k. take (a + k) new) same

slice_range-put_mid : (a k n : ℕ) (xs ys : List ℕ) → a ≤ length xs → n ≤ length ys → slice_range (put_mid a k xs ys) a (a + n) ≡ take n ys
slice_range-put_mid a k n xs ys within fits =
    let same : (a + n) - a ≡ n = omega arith in
    let after = post_of a k xs in
    ap (take ((a + n) - a)) (drop_at (take a xs) (ys ++ after) a (length-take-le a xs within)) ∙ ap (λ m. take m (ys ++ after)) same ∙ take-append-le n ys after fits

pub loop-at-preserved : goal.loop-at-preserved
loop-at-preserved g c =
    let from = c.loop-at.at in
    let room = length c.loop-at.out - from in
    let came = c.in_ok-came.came in
    let within = c.loop-at.invariant.fits in
    let part = slice_range-put_mid from room came c.loop-at.out c.read_some.new.out within (omega (arith, c.read_some.auto.out, c.in_ok-came.ensures.fits)) in
    let joined = take_split from came c.loop-at.out (put_mid from room c.loop-at.out c.read_some.new.out)
    (take-put_mid_below _ _ _ _ _ (le_refl _) within) in
    record {
      fits = omega (arith, c.loop-at.auto.out, c.in_ok-came.ensures.fits);
      same_length = search rules;
      bytes =
          subst (Consumes _ _) (ap (λ l. take from c.loop-at.out ++ l) (sym part) ∙ joined)
          (Consumes-trans _ _ _ _ _ c.loop-at.invariant.bytes c.in_ok-came.ensures.bytes.0);
    }
