-- Which record is put.
use Rattle.std.specs.Prelude.{ℕ, List, leb}
use Rattle.format.specs.Tables.{pick}
use Rattle.format.specs.Messages.{PartMet, part_met}
use Rattle.format.specs.Decoding as decoding
use Rattle.format.specs.Decoding.{Answer, accepted}
use Rattle.format.specs.MetOrder.{decode}
use Rattle.format.specs.Writing.{Written, unwritten}
use Rattle.format.specs.PutGaps.{spec_put_gaps}
use Rattle.gaps.specs.declared.GapRecord.{GapRecord}
use Rattle.format.specs.Gaps.{size_limit}
use Rattle.gaps.specs.GapRecords.{gaps_of}

-- The file's own number, or 8.
abbrev pub unlawful_after : Answer PartMet → List ℕ → Written
unlawful_after (decoding.refusal f) output = unwritten (decoding.number f.rule) output
unlawful_after (accepted m) output = unwritten 8 output

-- The gaps of a record are put. One that counts more than 64 gaps is unlawful, whatever its 64 places hold.
unfoldable pub spec_put_record : (file : List ℕ) → GapRecord → (output : List ℕ) → Written
spec_put_record file g output =
    pick (leb g.count 64) (spec_put_gaps file size_limit g.size (gaps_of g) output) (unlawful_after (decode part_met file) output)
