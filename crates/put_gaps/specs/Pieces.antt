-- The pieces of a part.met's bytes: all before the tag list, the tag list, all after it; and the pieces of a new tag list.
use Rattle.std.specs.Prelude.{ℕ, ◌+◌, ◌-◌, ◌*◌, ◌≤◌, ◌≡◌, List, [], ◌∷◌, ◌++◌, length}
use Rattle.format.specs.Tables.{pick}
use Rattle.format.specs.Gaps.{Gap, Lawful, size_limit}
use Rattle.format.specs.Messages.{Tag, PartMet, e0, e1, part_met}
use Rattle.format.specs.Layout.{byte, word, dword, counted, encode_all, encode_hash, encode_hash_blocks, encode_part_met, encode_tag, encode_tags}
use Rattle.format.specs.Rules.{GapPair, start_tag, end_tag, Valid}
use Rattle.format.specs.Decoding.{bytes_at, message, passes, reply}
use Rattle.format.specs.GapTags as tagged
use Rattle.format.specs.GapTags.{role}
use Rattle.format.specs.PartTagOrder.{spec_check_part_tags}
use Rattle.format.specs.MetOrder.{decode}
use Rattle.format.specs.PutGaps.{is_plain, plain_tags, decimal_of, gap_tags, regapped, tags_of}
use Rattle.wire.specs.declared.Items.{Items}
use Rattle.tags.specs.TagAnswers.{tags_in}
use Rattle.gaps.specs.declared.GapRecord.{GapRecord}
use Rattle.gaps.specs.GapRecords.{gaps_of}
use Rattle.gap_numbers.specs.Numbers.{held}
use Rattle.part_tags.specs.Survey.{GapTagsIn}
use Rattle.met.specs.declared.PartGaps.{PartGaps}
use Rattle.met.specs.declared.PartMet as code
use Rattle.met.specs.MetAnswers.{part_met_in, PartMetPlaced, tags_place}
use Rattle.put_gaps.specs.declared.Sizes.{Sizes}

-- The bytes before the tag list and after it.
unfoldable pub head_of : PartMet → List ℕ
head_of (e0 e) = byte 0xE0 ++ (dword e.date ++ (encode_hash e.hash ++ counted word encode_hash e.parts))
head_of (e1 m) = byte 0xE1 ++ (byte 0x02 ++ (dword m.date ++ encode_hash m.hash))

unfoldable pub tail_of : PartMet → List ℕ
tail_of (e0 e) = []
tail_of (e1 m) = encode_hash_blocks m.blocks

-- Where the tag list begins: after E0, date, hash, WORD count and the part hashes; or after E1, 02, date and hash.
abbrev pub spec_tags_at : code.PartMet → ℕ
spec_tags_at (code.PartMet.E0 e) = 23 + 16 * e.parts.count
spec_tags_at (code.PartMet.E1 m) = 22

-- A gap record that is_lawful accepts.
abbrev pub LawfulRecord : GapRecord → Type 0
LawfulRecord g = (g.count ≤ 64) × Lawful size_limit g.size (gaps_of g)

-- The same as numbers.
abbrev pub LawfulNumbers : List ℕ → Type 0
LawfulNumbers l = (130 ≤ length l) × LawfulRecord (held l)

-- A part.met that was read from these bytes.
pub record WasRead (s : List ℕ) (part : code.PartMet) : Type 0 where
  pub bytes : s ≡ encode_part_met (part_met_in s part)
  pub valid : Valid part_met (part_met_in s part)
  pub placed : PartMetPlaced s part

-- Some tags have n gaps, no more than a record has places.
pub record HasGaps (s : List ℕ) (tags : Items) (n : ℕ) : Type 0 where
  pub few : n ≤ 64
  pub counted : n ≡ length (tagged.gaps_of (tags_in s tags))

-- What the reader of the file says of a part.met that it accepts: its message, its size, where its gap tags lie, and how many gaps it has.
pub record Accepts (s : List ℕ) (part : code.PartMet) (found : PartGaps) : Type 0 where
  pub read : WasRead s part
  pub told : message (part_met_in s part) ≡ reply (decode part_met s)
  pub sized : spec_check_part_tags (tags_of (part_met_in s part)) ≡ passes (found.size, tags_of (part_met_in s part))
  pub ranged : GapTagsIn s (tags_place part) found.range
  pub counted : HasGaps s (tags_place part) found.count

-- A tag that stays, and its bytes, which lie from one offset up to another; nothing of a gap tag.
abbrev pub kept_tags : Tag → List Tag
kept_tags t = pick (is_plain (role t)) (t ∷ []) []

abbrev pub spec_kept_bytes : List ℕ → Tag → ℕ → ℕ → List ℕ
spec_kept_bytes s t from to = pick (is_plain (role t)) (bytes_at s from (to - from)) []

-- The bytes of all tags that stay.
unfoldable pub plain_bytes : List Tag → List ℕ
plain_bytes l = encode_all encode_tag (plain_tags l)

-- The bytes of the pair of tags with number i.
unfoldable pub pair_bytes : ℕ → Gap → List ℕ
pair_bytes i g =
    let p : GapPair = record { digits = decimal_of i; start = g.start; end = g.end } in
    encode_tag (start_tag p) ++ encode_tag (end_tag p)

-- The bytes of the pairs of all gaps, numbered from i.
unfoldable pub pairs_bytes : ℕ → List Gap → List ℕ
pairs_bytes i gaps = encode_all encode_tag (gap_tags i gaps)

-- The length of n pairs: a pair has 18 bytes, and 20 from number 10 on.
abbrev pub spec_pairs_length : ℕ → ℕ
spec_pairs_length n = 18 * n + 2 * (n - 10)

-- The numbers of a new file: all but the tag list is from one file, and the tags that are no gap tags from another or the same.
pub record SizesOf (s : List ℕ) (form : code.PartMet) (t : List ℕ) (part : code.PartMet) (found : PartGaps) (gaps : List Gap) (r : Sizes) : Type 0 where
  pub at : r.at ≡ length (head_of (part_met_in s form))
  pub count : r.count ≡ length (regapped gaps (tags_in t (tags_place part)))
  pub list : r.list ≡ 4 + length (plain_bytes (tags_in t (tags_place part))) + length (pairs_bytes 0 gaps)
  pub within : r.within ≡ length (plain_bytes (tags_in t found.range))
  pub after : r.after ≡ length (head_of (part_met_in s form)) + length (encode_tags (tags_in s (tags_place form)))
  pub length : r.length ≡ r.at + r.list + length (tail_of (part_met_in s form))
