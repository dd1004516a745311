-- The demands hold (specs/Demands): each by the laws of the files that are cited, and putting by cases on what is read.
use mathlib.Core.Path.{◌≡◌, refl, sym, ap, subst, ◌∙◌}
use mathlib.Core.Bool.{Bool, true, false, ◌&&◌, not, cond, and-true}
use mathlib.Core.List.{List, [], ◌∷◌}
use Prim.Native.Nat.{ℕ, ◌≤◌, ◌<◌}
use lib.ListN.{length}
use lib.Dec.{leb, ltb}
use borrow.Author.Tests.{leb-true, lt-leb, ltb-true}
use Rattle.format.specs.Tables.{pick}
use Rattle.format.specs.Messages.{PartMet, part_met}
use Rattle.format.specs.Layout.{encode, encode_part_met}
use Rattle.format.specs.Rules.{ceiling, met_ceiling}
use Rattle.format.specs.Decoding.{Answer, accepted, number, refusal}
use Rattle.format.specs.MetOrder.{decode}
use Rattle.format.specs.Gaps.{Gap, Lawful, Marking, count, gap_limit, inside, lawful, leaves, marking, missing, rejected, subtract, within}
use Rattle.format.specs.Writing.{refuses, tries, unwritten, written_into}
use Rattle.format.specs.PutGaps.{fitting, put_after, spec_put_gaps, with_gaps}
use Rattle.format.specs.Demands.{CeilingFirst, Demands, MissingAtEnd, RefusedPut, RefusedWrite}
use Rattle.format.specs.Demands.{TrueCount, Untouched, WriteExact, WrittenBack, accepted_in, accepted_ranges, gaps_after, gaps_at_end, one_marking}
use Rattle.format.proofs.Acceptance.{accepts, unambiguous}
use Rattle.format.proofs.Differ.{differ}
use Rattle.format.proofs.Gaps.{both_true, lawful-exactly, missing-subtract, outside-both, subtract-lawful}
use Rattle.format.proofs.Merging.{conflict-exactly, merge-once, merge-read-back, refused-merge, strangers-exactly}
use Rattle.format.proofs.PartRefusals.{nine}
use Rattle.format.proofs.RoundTrip.{accepted-valid, valid-accepted}
use Rattle.format.proofs.Saving.{refused-save, refused-strict-save, save-accepts, save-conflict, save-new-first, save-once, save-read-back, save-two-ways, strict-conflict, strict-saved}
use Rattle.format.proofs.Truth.{holds-exactly}
use Rattle.format.proofs.Writing.{judged-once, read-judged, reads-writes, untouched-room, writes-once, writes_reads}

-- Demand 1

ceiling-first : CeilingFirst
unfolding decode
ceiling-first k s h = rw (lt-leb (length s) (ceiling k) h) refl

refused-write : RefusedWrite
refused-write k m output w (refuses n j f) h = (refl, refl)
refused-write k m output w (tries j) h = untouched-room (encode k m) output h

refused-put : RefusedPut
unfolding spec_put_gaps
refused-put file limit size gaps output = go (decode part_met file)
  where
    within : (bytes : List ℕ) (t : Bool) → Untouched output (pick t (written_into bytes output) (unwritten 6 output))
    within bytes true h = untouched-room bytes output h
    within bytes false h = (refl, refl)

    fits : (m : PartMet) (t : Bool) → let bytes = encode_part_met (with_gaps gaps m) in
        Untouched output (pick t (pick (leb (length bytes) met_ceiling) (written_into bytes output) (unwritten 6 output)) (unwritten 8 output))
    fits m true h = let bytes = encode_part_met (with_gaps gaps m) in within bytes (leb (length bytes) met_ceiling) h
    fits m false h = (refl, refl)

    go : (a : Answer PartMet) → Untouched output (put_after a limit size gaps output)
    go (refusal f) h = (refl, refl)
    go (accepted m) h = fits m (fitting limit size gaps m) h

-- Demand 2

write-exact : WriteExact
write-exact k m output w hb h = (accepted-valid k m output hb h, valid-accepted k m output h)

written_back : WrittenBack
written_back k m s output w hb e (refuses n j f) = absurd (f (judged-once k m j (read-judged k m s hb e)))
written_back k m s output w hb e (tries j) = ap (λ l. written_into l output) (reads-writes k m s hb e)

-- What an accepted marking says: the gap list was lawful and the range has a byte, the gaps are what is left, and the number is their count.
module _ (limit size : ℕ) (gaps : List Gap) (r : Gap) where
  abbrev left : List Gap
  left = subtract gaps r.start r.end

  pub record Marked (after : List Gap) (n : ℕ) : Type 0 where
    pub lawful : Lawful limit size gaps
    pub order : r.start < r.end
    pub few : length left ≤ gap_limit
    pub remains : left ≡ after
    pub counted : count (missing left) size ≡ n

  pub leaves-marked : {l : List Gap} {n : ℕ} → one_marking limit size gaps r ≡ leaves l n → Marked l n
  unfolding marking
  leaves-marked {l} {n} e = go (lawful limit size gaps && inside size r.start r.end) (leb (length left) gap_limit) refl refl e
    where
      go : (t u : Bool) → (lawful limit size gaps && inside size r.start r.end) ≡ t → leb (length left) gap_limit ≡ u →
          cond t (cond u (leaves left (count (missing left) size)) (rejected 6)) (rejected 8) ≡ leaves l n → Marked l n
      go true true p q e =
          let allowed = both_true (lawful limit size gaps) (inside size r.start r.end) p in
          record {
            lawful = (lawful-exactly limit size gaps).0 allowed.0;
            order = ltb-true r.start r.end (both_true (ltb r.start r.end) (leb r.end size) allowed.1).0;
            few = leb-true _ _ q;
            remains = cc;
            counted = cc;
          }
      go true false p q e = differ cc
      go false u p q e = differ cc

true-count : TrueCount
true-count limit size gaps r l n e =
    let m = leaves-marked limit size gaps r e in
    let lawful = subtract-lawful limit size gaps r.start r.end m.order m.few m.lawful in
    (subst (Lawful limit size) m.remains lawful, sym m.counted ∙ ap (λ l. count (missing l) size) m.remains)

-- One marking more at the front.
one-before : (gaps : List Gap) (r : Gap) (limit size x : ℕ) (m : Marking) → one_marking limit size gaps r ≡ m → (others : List Gap) (after : Bool) →
    after ≡ (missing (gaps_after gaps m) x && not (missing others x)) → after ≡ (missing gaps x && not (missing (accepted_in r m others) x))
unfolding missing
one-before gaps r limit size x (rejected n) e others after h = h
one-before gaps r limit size x (leaves l n) e others after h =
    let m = leaves-marked limit size gaps r e in
    let arrived : missing l x ≡ (missing gaps x && not (within r.start r.end x)) = ap (λ l. missing l x) (sym m.remains) ∙ missing-subtract gaps r.start r.end x in
    h ∙ ap (λ t. t && not (missing others x)) arrived ∙ outside-both (missing gaps x) (within r.start r.end x) (missing others x)

missing-at-end : MissingAtEnd
unfolding gaps_at_end accepted_ranges missing
missing-at-end limit size gaps [] x = sym (and-true (missing gaps x))
missing-at-end limit size gaps (r ∷ ranges) x =
    let m = one_marking limit size gaps r in
    one-before gaps r limit size x m refl (accepted_ranges limit size (gaps_after gaps m) ranges) _ (missing-at-end limit size (gaps_after gaps m) ranges x)

pub demands : Demands
demands = record {
  ceiling_first = ceiling-first;
  one_size = nine;
  refused_write = refused-write;
  refused_strict_save = refused-strict-save;
  refused_save = refused-save;
  refused_put = refused-put;
  refused_merge = refused-merge;
  merge_once = merge-once;
  strangers = strangers-exactly;
  merge_conflict = conflict-exactly;
  strict_conflict = strict-conflict;
  strict_saved = strict-saved;
  save_once = save-once;
  save_new_first = save-new-first;
  save_conflict = save-conflict;
  save_two_ways = save-two-ways;
  save_accepts = save-accepts;
  write_once = λ k m output v w. writes-once k m output;
  write_exact = write-exact;
  written_back = written_back;
  read_back = λ k m output w. writes_reads k m output;
  missing_at_end = missing-at-end;
  true_count = true-count;
  merge_read_back = merge-read-back;
  save_read_back = save-read-back;
  true_search = holds-exactly;
  accepts_exactly = accepts;
  unambiguous = unambiguous;
}
