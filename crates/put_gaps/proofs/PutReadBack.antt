-- What is put is read back: the outcome is a valid part.met of the same size, with the gaps of the record, and all else is as it was.
use Prim.Native.Nat.{ℕ, ◌≤◌}
use mathlib.Core.Path.{◌≡◌, refl, sym, subst}
use mathlib.Core.Bool.{Bool, true, false}
use mathlib.Core.List.{List}
use native.Mathlib.Omega.{arith}
use lib.ListN.{length, take, drop}
use lib.Seq.{take-append_seam}
use lib.Dec.{leb}
use borrow.Author.Tests.{eqb-true, leb-true}
use Rattle.format.specs.Tables.{pick}
use Rattle.format.specs.Gaps.{Gap, Lawful, lawful}
use Rattle.format.specs.Messages.{Tag, PartMet, e0, e1, part_met}
use Rattle.format.specs.Layout.{encode_part_met}
use Rattle.format.specs.Rules.{Bytes, SizeIs, Valid, ValidPartMet, met_ceiling}
use Rattle.format.specs.Decoding.{Answer, Check, accepted, passes, refusal, violates}
use Rattle.format.specs.GapTags.{gaps_of}
use Rattle.format.specs.PartTagOrder.{spec_check_part_tags}
use Rattle.format.specs.MetOrder.{decode}
use Rattle.format.specs.Writing.{Written, overwritten, unwritten}
use Rattle.format.specs.PutGaps.{fitting, plain_tags, put_after, spec_put_gaps, regapped, has_size, tags_of, with_gaps}
use Rattle.format.specs.Merging.{date_of, form_of, hash_of, part_of}
use Rattle.format.proofs.Gaps.{both_true, lawful-exactly}
use Rattle.format.proofs.PartTags.{check-means, means-check, no_true}
use Rattle.format.proofs.Acceptance.{accepts}
use Rattle.format.proofs.Regapped.{gaps-regapped, part-valid, plain-regapped, size-regapped, valid-date, valid-hash, valid-regapped, valid-tags}
use Rattle.format.proofs.Writing.{number-some, valid-decodes}

-- With other gaps a part.met has its form, date and hash.
with_gaps-is : (gaps : List Gap) (m : PartMet) → with_gaps gaps m ≡ part_of (form_of m) (date_of m) (hash_of m) (regapped gaps (tags_of m))
unfolding with_gaps tags_of
with_gaps-is gaps (e0 e) = refl
with_gaps-is gaps (e1 m) = refl

with_gaps-valid : (limit size : ℕ) (gaps : List Gap) → limit ≤ 4294967295 → Lawful limit size gaps → (m : PartMet) → ValidPartMet m →
    SizeIs size (tags_of m) → length (encode_part_met (with_gaps gaps m)) ≤ met_ceiling → ValidPartMet (with_gaps gaps m)
with_gaps-valid limit size gaps limited lawful m h sized few =
    rw (with_gaps-is gaps m)
    (part-valid limit size gaps limited lawful (tags_of m) sized m h sized (date_of m) (valid-date m h) (hash_of m) (valid-hash m h) (valid-tags m h)
    (rw (with_gaps-is gaps m) at few))

-- What the two tests of `fitting` say.
size_is : (size : ℕ) (tags : List Tag) → has_size size (spec_check_part_tags tags) ≡ true → SizeIs size tags
size_is size tags e = go (spec_check_part_tags tags) refl e
  where
    go : (v : Check (ℕ × List Tag)) → spec_check_part_tags tags ≡ v → has_size size v ≡ true → SizeIs size tags
    go (passes c) q e = subst (λ n. SizeIs n tags) (sym (eqb-true size c.0 e)) (check-means tags c q).1.0
    go (violates rule) q e = absurd (no_true e)

-- A part.met before and after a put.
pub record PutBack (size : ℕ) (gaps : List Gap) (file new : List ℕ) : Type 0 where
  pub before : PartMet
  pub was : decode part_met file ≡ accepted before
  -- the new file is valid, is accepted, and differs from the old one in its tags alone
  pub is : decode part_met new ≡ accepted (with_gaps gaps before)
  pub valid : Valid part_met (with_gaps gaps before)
  -- its tags have the same size, the gaps that were put, and are otherwise the tags of the old one
  pub size_stays : SizeIs size (tags_of before) × SizeIs size (tags_of (with_gaps gaps before))
  pub gaps_are : gaps_of (tags_of (with_gaps gaps before)) ≡ gaps
  pub others_stay : plain_tags (tags_of (with_gaps gaps before)) ≡ plain_tags (tags_of before)
  pub checked : spec_check_part_tags (tags_of (with_gaps gaps before)) ≡ passes (size, tags_of (with_gaps gaps before))

tags-with_gaps : (gaps : List Gap) (m : PartMet) → tags_of (with_gaps gaps m) ≡ regapped gaps (tags_of m)
unfolding with_gaps tags_of
tags-with_gaps gaps (e0 e) = refl
tags-with_gaps gaps (e1 m) = refl

module _ (limit size : ℕ) (gaps : List Gap) (limited : limit ≤ 4294967295) (file : List ℕ) (bytes : Bytes file) where
  put-valid : (m : PartMet) → decode part_met file ≡ accepted m → fitting limit size gaps m ≡ true →
      length (encode_part_met (with_gaps gaps m)) ≤ met_ceiling → PutBack size gaps file (encode_part_met (with_gaps gaps m))
  put-valid m q fit few =
      let tests = both_true (lawful limit size gaps) (has_size size (spec_check_part_tags (tags_of m))) fit in
      let record-lawful = (lawful-exactly limit size gaps).0 tests.0 in
      let sized = size_is size (tags_of m) tests.1 in
      let tags = valid-regapped limit size gaps (tags_of m) record-lawful sized in
      let content = with_gaps-valid limit size gaps limited record-lawful m ((accepts part_met file bytes m).0 q).1.content sized few in
      let valid : Valid part_met (with_gaps gaps m) = record { content = content; few = few } in
      record {
        before = m;
        was = q;
        is = valid-decodes part_met (with_gaps gaps m) valid;
        valid = valid;
        size_stays = (sized, rw (tags-with_gaps gaps m) (size-regapped size gaps (tags_of m) sized));
        gaps_are = rw (tags-with_gaps gaps m) (gaps-regapped gaps (tags_of m));
        others_stay = rw (tags-with_gaps gaps m) (plain-regapped gaps (tags_of m));
        checked = rw (tags-with_gaps gaps m) (means-check (regapped gaps (tags_of m)) size tags.one tags.gaps);
      }

  pub put_back : (output : List ℕ) → let w = spec_put_gaps file limit size gaps output in
      w.number ≡ 0 → PutBack size gaps file (take w.length w.output)
  unfolding spec_put_gaps
  put_back output e = answered (decode part_met file) refl e
    where
      picked : (m : PartMet) → decode part_met file ≡ accepted m → let new = encode_part_met (with_gaps gaps m) in
          (fits few room : Bool) → fitting limit size gaps m ≡ fits → leb (length new) met_ceiling ≡ few →
          let put : Written = record { number = 0; length = length new; output = overwritten new output } in
          let w = pick fits (pick few (pick room put (unwritten 10 output)) (unwritten 6 output)) (unwritten 8 output) in
          w.number ≡ 0 → PutBack size gaps file (take w.length w.output)
      picked m q true true true f l e =
          let new = encode_part_met (with_gaps gaps m) in
          rw (take-append_seam new (drop (length new) output)) (put-valid m q f (leb-true (length new) met_ceiling l))
      picked m q true true false f l e = absurd (omega arith)
      picked m q true false r f l e = absurd (omega arith)
      picked m q false k r f l e = absurd (omega arith)

      answered : (a : Answer PartMet) → decode part_met file ≡ a → let w = put_after a limit size gaps output in
          w.number ≡ 0 → PutBack size gaps file (take w.length w.output)
      answered (refusal f) q e = absurd (number-some f.rule e)
      answered (accepted m) q e =
          let new = encode_part_met (with_gaps gaps m) in
          picked m q (fitting limit size gaps m) (leb (length new) met_ceiling) (leb (length new) (length output)) refl refl e
