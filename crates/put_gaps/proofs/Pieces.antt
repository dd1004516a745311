-- A part.met's bytes by pieces: with other gaps, only the tag list differs.
use Prim.Native.Nat.{ℕ, suc, ◌+◌, ◌*◌}
use mathlib.Core.Path.{◌≡◌, refl, sym, ap, ◌∙◌}
use mathlib.Core.List.{List, [], ◌∷◌, ◌++◌, append_assoc, append-nil}
use native.Mathlib.Omega.{arith}
use lib.ListN.{length, length-append}
use Rattle.format.specs.Gaps.{Gap}
use Rattle.format.specs.Messages.{Tag, PartMet, e0, e1}
use Rattle.format.specs.Layout.{dword, encode_all, encode_file_entry, encode_part_e1, encode_part_met, encode_tag, encode_tags}
use Rattle.format.specs.PutGaps.{gap_tags, plain_tags, regapped, with_gaps, tags_of}
use Rattle.format.proofs.Codec.{length-little_endian}
use Rattle.put_gaps.specs.Pieces.{head_of, tail_of, plain_bytes, pairs_bytes}

pub pieces : (m : PartMet) → encode_part_met m ≡ head_of m ++ (encode_tags (tags_of m) ++ tail_of m)
unfolding encode_part_met encode_file_entry encode_part_e1 head_of tail_of tags_of
pieces (e0 e) = simp (append_assoc, append-nil)
pieces (e1 m) = simp append_assoc

others-stay : (gaps : List Gap) (m : PartMet) →
    head_of (with_gaps gaps m) ++ (encode_tags (tags_of (with_gaps gaps m)) ++ tail_of (with_gaps gaps m)) ≡
    head_of m ++ (encode_tags (regapped gaps (tags_of m)) ++ tail_of m)
unfolding with_gaps head_of tail_of tags_of
others-stay gaps (e0 e) = refl
others-stay gaps (e1 m) = refl

pub pieces-with_gaps : (gaps : List Gap) (m : PartMet) →
    encode_part_met (with_gaps gaps m) ≡ head_of m ++ (encode_tags (regapped gaps (tags_of m)) ++ tail_of m)
pieces-with_gaps gaps m = pieces (with_gaps gaps m) ∙ others-stay gaps m

pub length-tags : (l : List Tag) → length (encode_tags l) ≡ 4 + length (encode_all encode_tag l)
unfolding encode_tags
length-tags l = simp (length-append, length-little_endian)

-- The pieces of a new tag list

pub encode-append : (k l : List Tag) → encode_all encode_tag (k ++ l) ≡ encode_all encode_tag k ++ encode_all encode_tag l
encode-append [] l = refl
encode-append (t ∷ k) l =
    ap (λ x. encode_tag t ++ x) (encode-append k l) ∙ sym (append_assoc (encode_tag t) (encode_all encode_tag k) (encode_all encode_tag l))

pub list-pieces : (gaps : List Gap) (tags : List Tag) →
    (dword (length (regapped gaps tags)) ++ plain_bytes tags) ++ pairs_bytes 0 gaps ≡ encode_tags (regapped gaps tags)
unfolding encode_tags plain_bytes pairs_bytes
list-pieces gaps tags = rw (encode-append (plain_tags tags) (gap_tags 0 gaps), append_assoc) refl

pub length-list : (gaps : List Gap) (tags : List Tag) →
    length (encode_tags (regapped gaps tags)) ≡ 4 + length (plain_bytes tags) + length (pairs_bytes 0 gaps)
length-list gaps tags = ap length (sym (list-pieces gaps tags)) ∙ simp (length-append, length-little_endian)

length-gap_tags : (i : ℕ) (gaps : List Gap) → length (gap_tags i gaps) ≡ 2 * length gaps
unfolding gap_tags
length-gap_tags i [] = refl
length-gap_tags i (g ∷ gaps) = omega (arith, length-gap_tags (suc i) gaps)

pub length-regapped : (gaps : List Gap) (tags : List Tag) → length (regapped gaps tags) ≡ length (plain_tags tags) + 2 * length gaps
length-regapped gaps tags = omega (arith, length-append (plain_tags tags) (gap_tags 0 gaps), length-gap_tags 0 gaps)
