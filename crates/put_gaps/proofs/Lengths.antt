-- The numbers of a new file.
use Prim.Native.Nat.{ℕ, zero, suc, ◌+◌, ◌*◌, ◌<◌, ◌≤◌}
use mathlib.Core.Path.{◌≡◌, refl, sym, ap, ◌∙◌}
use mathlib.Core.List.{List, [], ◌∷◌, ◌++◌, append_assoc}
use native.Mathlib.Omega.{arith}
use lib.ListN.{length, get_or, take, drop, length-append, length-drop}
use lib.Seq.{take_all, take_at, drop_at}
use borrow.Author.Tests.{le-leb, lt-leb}
use Rattle.format.specs.Gaps.{Gap}
use Rattle.format.specs.Messages.{Tag, PartMet}
use Rattle.format.specs.Layout.{encode_all, encode_hash, encode_part_met, encode_tag, encode_tags}
use Rattle.format.specs.Rules.{All, Bytes, ValidHash, ValidPartMet, met_ceiling}
use Rattle.format.specs.Decoding.{Decoder, bytes_at, decode_many, got}
use Rattle.format.specs.Order.{decode_hash, decode_tag}
use Rattle.format.specs.Writing.{Written, overwritten, unwritten}
use Rattle.format.specs.PutGaps.{plain_tags, regapped, tags_of, with_gaps, within_ceiling}
use Rattle.format.proofs.Codec.{length-little_endian, same_place, same-value, went}
use Rattle.format.proofs.Many.{ends-items}
use Rattle.format.proofs.Regapped.{tags-few}
use Rattle.wire.specs.declared.Items.{Items}
use Rattle.wire.specs.WireAnswers.{items_in, ItemsPlaced, ItemsInside}
use Rattle.gaps.proofs.GapRecords.{gaps-length}
use Rattle.gap_numbers.specs.Numbers.{held}
use Rattle.gap_numbers.specs.NumberSteps.{gaps_in}
use Rattle.gap_numbers.proofs.Numbers.{at}
use Rattle.met.specs.declared.PartMet as code
use Rattle.met.specs.MetAnswers.{part_met_in, tags_place}
use Rattle.put_gaps.specs.Pieces.{head_of, tail_of, spec_tags_at, WasRead, plain_bytes, pairs_bytes, spec_pairs_length}
use Rattle.put_gaps.proofs.Pieces.{length-list, length-tags, pieces, pieces-with_gaps}
use Rattle.put_gaps.proofs.Kept.{plain-short, tag-place}
use Rattle.put_gaps.proofs.Pairs.{pairs-length}

-- Lists that were decoded: how many items they have, and where they end.

pub many-length : {A : Type 0} (d : Decoder A) (s : List ℕ) (n at end : ℕ) (l : List A) → decode_many n d s at ≡ got l end → length l ≡ n
many-length d s zero at end l e = ap length (sym (same-value e))
many-length d s (suc n) at end l e =
    let w = went s (d s at) e in
    let v = went s (decode_many n d s w.mid) w.then in
    ap length (sym (same-value v.then)) ∙ ap suc (many-length d s n w.mid v.mid v.first v.was)

pub tags-end : (s : List ℕ) → Bytes s → (n at end : ℕ) (l : List Tag) → decode_many n decode_tag s at ≡ got l end →
    end ≡ at + length (encode_all encode_tag l)
tags-end s bytes zero at end l e = let p = same_place e in let q = ap (λ l. length (encode_all encode_tag l)) (same-value e) in omega arith
tags-end s bytes (suc n) at end l e =
    let w = went s (decode_tag s at) e in
    let v = went s (decode_many n decode_tag s w.mid) w.then in
    omega (
      arith,
      (tag-place s bytes at (sym w.was)).0,
      tags-end s bytes n w.mid v.mid v.first v.was,
      length-append (encode_tag w.first) (encode_all encode_tag v.first),
      ap (λ l. length (encode_all encode_tag l)) (same-value v.then),
      same_place v.then,
    )

hashes-length : (l : List (List ℕ)) → All ValidHash l → length (encode_all encode_hash l) ≡ 16 * length l
hashes-length [] h = refl
hashes-length (a ∷ l) h = omega (arith, h.0.0, hashes-length l h.1, length-append a (encode_all encode_hash l))

pub items-length : {A : Type 0} (d : Decoder A) (s : List ℕ) (l : Items) → ItemsPlaced d s l → length (items_in d s l) ≡ l.count
items-length d s l e = many-length d s l.count l.at l.end (items_in d s l) (sym (ends-items (decode_many l.count d s l.at) l.end e))

-- The pieces of a file that was read

pub tags-same : (s : List ℕ) (part : code.PartMet) → tags_of (part_met_in s part) ≡ items_in decode_tag s (tags_place part)
unfolding tags_of
tags-same s (code.PartMet.E0 e) = refl
tags-same s (code.PartMet.E1 m) = refl

pub tags-inside : (s : List ℕ) (part : code.PartMet) → WasRead s part → ItemsInside decode_tag s (tags_place part)
tags-inside s (code.PartMet.E0 e) h = h.placed.1.1
tags-inside s (code.PartMet.E1 m) h = h.placed.1.0

head-length : (s : List ℕ) (part : code.PartMet) → WasRead s part → length (head_of (part_met_in s part)) ≡ spec_tags_at part
unfolding head_of ValidPartMet
head-length s (code.PartMet.E0 e) h =
    let v = h.valid.content.entry in
    let n = items-length decode_hash s e.parts h.placed.1.0.0 in
    simp (length-append, length-little_endian) (omega (arith, v.hash.0, hashes-length (items_in decode_hash s e.parts) v.parts.1, n))
head-length s (code.PartMet.E1 m) h = simp (length-append, length-little_endian) (omega (arith, h.valid.content.hash.0))

module _ (s : List ℕ) (bytes : Bytes s) (part : code.PartMet) (h : WasRead s part) where
  abbrev file : PartMet
  file = part_met_in s part

  abbrev tags : List Tag
  tags = items_in decode_tag s (tags_place part)

  pub record Old : Type 0 where
    pub at : spec_tags_at part ≡ length (head_of file)
    pub end : (tags_place part).end ≡ (tags_place part).at + length (encode_all encode_tag tags)
    pub list : length (encode_tags tags) ≡ 4 + length (encode_all encode_tag tags)
    pub all : length s ≡ length (head_of file) + length (encode_tags tags) + length (tail_of file)
    pub few : length s ≤ met_ceiling
    pub tags_few : length tags ≤ length (encode_all encode_tag tags)
    pub plain_few : length (plain_tags tags) ≤ length tags
    pub plain_short : length (plain_bytes tags) ≤ length (encode_all encode_tag tags)

  split : s ≡ head_of file ++ (encode_tags tags ++ tail_of file)
  split = h.bytes ∙ pieces file ∙ ap (λ l. head_of file ++ (encode_tags l ++ tail_of file)) (tags-same s part)

  pub old : Old
  old = record {
    at = sym (head-length s part h);
    end =
        tags-end s bytes (tags_place part).count (tags_place part).at (tags_place part).end tags
        (sym (ends-items (decode_many (tags_place part).count decode_tag s (tags_place part).at) (tags_place part).end (tags-inside s part h).0));
    list = length-tags tags;
    all = omega (arith, ap length split, length-append (head_of file) (encode_tags tags ++ tail_of file), length-append (encode_tags tags) (tail_of file));
    few = omega (arith, ap length h.bytes, h.valid.few);
    tags_few = tags-few tags;
    plain_few = (plain-short tags).0;
    plain_short = (plain-short tags).1;
  }

  -- what is copied as it was
  pub head_bytes : bytes_at s 0 (length (head_of file)) ≡ head_of file
  head_bytes = ap (take (length (head_of file))) split ∙ take_at (head_of file) _ (length (head_of file)) refl

  pub tail-bytes : bytes_at s (length (head_of file) + length (encode_tags tags)) (length s) ≡ tail_of file
  tail-bytes =
      let n = length (head_of file) + length (encode_tags tags) in
      let short : length (drop n s) ≤ length s = omega (arith, length-drop n s) in
      let front : s ≡ (head_of file ++ encode_tags tags) ++ tail_of file = split ∙ sym (append_assoc (head_of file) (encode_tags tags) (tail_of file)) in
      take_all (length s) (drop n s) short ∙ ap (drop n) front ∙
      drop_at (head_of file ++ encode_tags tags) (tail_of file) n (length-append (head_of file) (encode_tags tags))

  -- the new file
  module _ (gaps : List Gap) where
    pub new_pieces : encode_part_met (with_gaps gaps file) ≡ (head_of file ++ encode_tags (regapped gaps tags)) ++ tail_of file
    new_pieces =
        pieces-with_gaps gaps file ∙ ap (λ l. head_of file ++ (encode_tags (regapped gaps l) ++ tail_of file)) (tags-same s part) ∙
        sym (append_assoc (head_of file) (encode_tags (regapped gaps tags)) (tail_of file))

    pub new-length : length (encode_part_met (with_gaps gaps file)) ≡
        length (head_of file) + (4 + length (plain_bytes tags) + length (pairs_bytes 0 gaps)) + length (tail_of file)
    new-length =
        omega (
          arith,
          ap length new_pieces,
          length-append (head_of file ++ encode_tags (regapped gaps tags)) (tail_of file),
          length-append (head_of file) (encode_tags (regapped gaps tags)),
          length-list gaps tags,
        )

pub record-pairs : (l : List ℕ) → get_or l 1 0 ≤ 64 →
    (length (gaps_in l) ≡ get_or l 1 0) × (length (pairs_bytes 0 (gaps_in l)) ≡ spec_pairs_length (get_or l 1 0))
record-pairs l few =
    let n = gaps-length (held l) 0 (at l 0 (omega arith) few) in
    (n, omega (arith, pairs-length 0 (gaps_in l)))

-- What is written within the ceiling, and into the room.
module _ (new output : List ℕ) (n : ℕ) (e : n ≡ length new) where
  pub above-ceiling : met_ceiling < n → unwritten 6 output ≡ within_ceiling new output
  above-ceiling h = rw (lt-leb (length new) met_ceiling (omega arith)) refl

  pub no_room : n ≤ met_ceiling → length output < n → unwritten 10 output ≡ within_ceiling new output
  no_room h k = rw (le-leb (length new) met_ceiling (omega arith), lt-leb (length new) (length output) (omega arith)) refl

  pub written : n ≤ met_ceiling → n ≤ length output → (after : List ℕ) → after ≡ overwritten new output →
      ◌≡◌ {A = Written} (record { number = 0; length = n; output = after }) (within_ceiling new output)
  written h k after q = rw (le-leb (length new) met_ceiling (omega arith), le-leb (length new) (length output) (omega arith), q, e) refl
