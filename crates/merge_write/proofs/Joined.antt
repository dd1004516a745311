-- The outcome's bytes by pieces: the head of one file with another date, a tag list, and the tail of that file.
use Prim.Native.Nat.{ℕ, ◌+◌, ◌-◌, ◌≤◌}
use mathlib.Core.Path.{◌≡◌, refl, sym, ap, ◌∙◌}
use mathlib.Core.List.{List, ◌++◌, append_assoc}
use native.Mathlib.Omega.{arith}
use lib.ListN.{length, take, drop, length-append, length-drop}
use lib.Seq.{drop-append-le, length-take-le, take-append-le, take_at}
use Rattle.format.specs.Gaps.{Gap}
use Rattle.format.specs.Messages.{PartMet, Tag, e0, e1}
use Rattle.format.specs.Layout.{dword, encode_part_met, encode_tags, little_endian}
use Rattle.format.specs.Decoding.{bytes_at}
use Rattle.format.specs.PutGaps.{regapped, tags_of}
use Rattle.format.specs.Merging.{form_of, hash_of, part_of}
use Rattle.format.proofs.Codec.{length-little_endian}
use Rattle.tags.specs.TagAnswers.{tags_in}
use Rattle.met.specs.declared.PartMet as code
use Rattle.met.specs.MetAnswers.{part_met_in, tags_place}
use Rattle.put_gaps.specs.Pieces.{WasRead, head_of, pairs_bytes, plain_bytes, tail_of}
use Rattle.put_gaps.proofs.Pieces.{length-list, pieces}
use Rattle.put_gaps.proofs.Lengths.{tags-same}
use Rattle.merge_write.specs.Outcome.{date_place, dated_head, joined}

-- The head with another date

redated : (s : List ℕ) (part : code.PartMet) (date : ℕ) → dated_head (part_met_in s part) date ≡
    (take (date_place part) (head_of (part_met_in s part)) ++ dword date) ++ drop (date_place part + 4) (head_of (part_met_in s part))
unfolding head_of little_endian
redated s (code.PartMet.E0 e) date = refl
redated s (code.PartMet.E1 m) date = refl

head-long : (s : List ℕ) (part : code.PartMet) → date_place part + 4 ≤ length (head_of (part_met_in s part))
unfolding head_of
head-long s (code.PartMet.E0 e) = simp (length-append, length-little_endian) (omega arith)
head-long s (code.PartMet.E1 m) = simp (length-append, length-little_endian) (omega arith)

pub length-dated : (m : PartMet) (date : ℕ) → length (dated_head m date) ≡ length (head_of m)
unfolding head_of
length-dated (e0 e) date = simp (length-append, length-little_endian)
length-dated (e1 m) date = simp (length-append, length-little_endian)

-- A run of bytes that lies in the front of others.
run_in : (head rest : List ℕ) (n : ℕ) → n ≤ length head → bytes_at (head ++ rest) n (length head - n) ≡ drop n head
run_in head rest n h = rw (drop-append-le n head rest h) (take_at (drop n head) rest (length head - n) (length-drop n head))

module _ (s : List ℕ) (part : code.PartMet) (h : WasRead s part) (at : ℕ) (place : at ≡ date_place part) where
  abbrev head : List ℕ
  head = head_of (part_met_in s part)

  abbrev rest : List ℕ
  rest = encode_tags (tags_of (part_met_in s part)) ++ tail_of (part_met_in s part)

  split : s ≡ head ++ rest
  split = h.bytes ∙ pieces (part_met_in s part)

  pub date-inside : at + 4 ≤ length head
  date-inside = omega (arith, head-long s part)

  pub length_front : length (bytes_at s 0 at) ≡ at
  length_front = length-take-le at s (omega (arith, date-inside, ap length split, length-append head rest))

  pub head-pieces : (date end : ℕ) → end ≡ length head →
      (bytes_at s 0 at ++ dword date) ++ bytes_at s (at + 4) (end - (at + 4)) ≡ dated_head (part_met_in s part) date
  head-pieces date end ends =
      let front : bytes_at s 0 at ≡ take at head = ap (take at) split ∙ take-append-le at head rest (omega (arith, date-inside)) in
      let back : bytes_at s (at + 4) (length head - (at + 4)) ≡ drop (at + 4) head =
      ap (λ l. bytes_at l (at + 4) (length head - (at + 4))) split ∙ run_in head rest (at + 4) date-inside in
      rw (ends, front, back, place) (sym (redated s part date))

-- The outcome

others-stay : (form : PartMet) (date : ℕ) (tags : List Tag) → let new = part_of (form_of form) date (hash_of form) tags in
    head_of new ++ (encode_tags (tags_of new) ++ tail_of new) ≡ dated_head form date ++ (encode_tags tags ++ tail_of form)
unfolding head_of tail_of tags_of
others-stay (e0 e) date tags = refl
others-stay (e1 m) date tags = refl

module _ (s : List ℕ) (form : code.PartMet) (date : ℕ) (t : List ℕ) (part : code.PartMet) (gaps : List Gap) where
  abbrev old : PartMet
  old = part_met_in s form

  abbrev tags : List Tag
  tags = tags_in t (tags_place part)

  pub joined-pieces : encode_part_met (joined old date (part_met_in t part) gaps) ≡ (dated_head old date ++ encode_tags (regapped gaps tags)) ++ tail_of old
  joined-pieces =
      pieces (joined old date (part_met_in t part) gaps) ∙ others-stay old date (regapped gaps (tags_of (part_met_in t part))) ∙
      ap (λ l. dated_head old date ++ (encode_tags (regapped gaps l) ++ tail_of old)) (tags-same t part) ∙
      sym (append_assoc (dated_head old date) (encode_tags (regapped gaps tags)) (tail_of old))

  pub length-first : length (dated_head old date ++ encode_tags (regapped gaps tags)) ≡
      length (head_of old) + (4 + length (plain_bytes tags) + length (pairs_bytes 0 gaps))
  length-first =
      omega (arith, length-append (dated_head old date) (encode_tags (regapped gaps tags)), length-dated old date, length-list gaps tags)

  pub length-joined : length (encode_part_met (joined old date (part_met_in t part) gaps)) ≡
      length (head_of old) + (4 + length (plain_bytes tags) + length (pairs_bytes 0 gaps)) + length (tail_of old)
  length-joined =
      omega (arith, ap length joined-pieces, length-append (dated_head old date ++ encode_tags (regapped gaps tags)) (tail_of old), length-first)
