-- Putting a gap record into a part.met (01, "Marking, saving, searching"): all but the gap tags stay, in order; then the gaps follow as
-- pairs numbered from 0 in shortest decimal.
use Rattle.std.specs.Prelude.{Bool, true, false, ◌&&◌, List, [], ◌∷◌, ◌++◌, ℕ, suc, ◌+◌, ◌/◌, ◌%◌, length, leb, ltb, eqb}
use Rattle.format.specs.Tables.{pick}
use Rattle.format.specs.Gaps.{Gap, lawful}
use Rattle.format.specs.Messages.{Tag, PartMet, e0, e1, part_met}
use Rattle.format.specs.Layout.{encode_part_met}
use Rattle.format.specs.Rules.{met_ceiling, GapPair, start_tag, end_tag}
use Rattle.format.specs.Decoding.{number, Answer, refusal, accepted, Check, passes, violates}
use Rattle.format.specs.GapTags.{Role, plain, odd, start, end, role}
use Rattle.format.specs.PartTagOrder.{spec_check_part_tags}
use Rattle.format.specs.MetOrder.{decode}
use Rattle.format.specs.Writing.{Written, unwritten, written_into}

-- The tags that are no gap tags, in order.
abbrev pub is_plain : Role → Bool
is_plain plain = true
is_plain odd = false
is_plain (start d n) = false
is_plain (end d n) = false

unfoldable pub plain_tags : List Tag → List Tag
plain_tags [] = []
plain_tags (t ∷ l) = pick (is_plain (role t)) (t ∷ plain_tags l) (plain_tags l)

-- The shortest decimal of a number below 100: a record has at most 64 gaps.
abbrev pub decimal_of : ℕ → List ℕ
decimal_of n = pick (ltb n 10) ((0x30 + n) ∷ []) ((0x30 + n / 10) ∷ (0x30 + n % 10) ∷ [])

-- The gaps as pairs of tags, numbered from i.
unfoldable pub gap_tags : ℕ → List Gap → List Tag
gap_tags i [] = []
gap_tags i (g ∷ gaps) =
    let p : GapPair = record { digits = decimal_of i; start = g.start; end = g.end } in
    start_tag p ∷ end_tag p ∷ gap_tags (suc i) gaps

abbrev pub regapped : List Gap → List Tag → List Tag
regapped gaps tags = plain_tags tags ++ gap_tags 0 gaps

-- All else stays as it was.
unfoldable pub with_gaps : List Gap → PartMet → PartMet
with_gaps gaps (e0 e) = e0 (record { date = e.date; hash = e.hash; parts = e.parts; tags = regapped gaps e.tags })
with_gaps gaps (e1 m) = e1 (record { date = m.date; hash = m.hash; tags = regapped gaps m.tags; blocks = m.blocks })

unfoldable pub tags_of : PartMet → List Tag
tags_of (e0 e) = e.tags
tags_of (e1 m) = m.tags

-- The record has the file's size.
abbrev pub has_size : ℕ → Check (ℕ × List Tag) → Bool
has_size size (passes c) = eqb size c.0
has_size size (violates rule) = false

abbrev pub fitting : (limit size : ℕ) → List Gap → PartMet → Bool
fitting limit size gaps m = lawful limit size gaps && has_size size (spec_check_part_tags (tags_of m))

abbrev pub within_ceiling : List ℕ → List ℕ → Written
within_ceiling bytes output = pick (leb (length bytes) met_ceiling) (written_into bytes output) (unwritten 6 output)

-- The file's own number; 8 for an unlawful record or another size; 6 above the byte ceiling; 10.
abbrev pub put_after : Answer PartMet → (limit size : ℕ) → List Gap → (output : List ℕ) → Written
put_after (refusal f) limit size gaps output = unwritten (number f.rule) output
put_after (accepted m) limit size gaps output =
    pick (fitting limit size gaps m) (within_ceiling (encode_part_met (with_gaps gaps m)) output) (unwritten 8 output)

unfoldable pub spec_put_gaps : (file : List ℕ) → (limit size : ℕ) → List Gap → (output : List ℕ) → Written
spec_put_gaps file limit size gaps output = put_after (decode part_met file) limit size gaps output
