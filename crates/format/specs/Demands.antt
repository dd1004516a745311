-- The demands on this library, each as a named statement; proofs/Demands shows that all of them hold. The contracts of the code
-- give their answers by the definitions that are used here, so each statement is one about the calls.
--
-- Demand 1. Whatever a peer or a disk hands over gets document 01's answer. A refusal comes exactly where 01 says, with its number and
--   length 0, and every lent buffer is as it was. A strict save over a file that is no longer the one opened is refused as a conflict; a
--   save, which merges there, exactly when the merge is a conflict.
--   Here and below 01 reads with what the change requests of 02 add: the merge (No. 3) and the save that merges (No. 8).
-- Demand 2. Each accepted packet, tag list, query and met file means what the layouts say; writing it gives the same bytes, and reading
--   what was written gives the meaning. After markings a byte is missing exactly if it was and no accepted range holds it, and the
--   reported number of missing bytes is true.
-- Demand 3. For each kind and any bytes, even none: the reader accepts exactly when the layouts spell the bytes from a lawful message,
--   and gives that message; no bytes are spelled by two lawful messages of one kind. A lawful message is called valid here and in the
--   code, and its bytes its encoding.
use Rattle.std.specs.Prelude.{◌≡◌, true, false, ◌&&◌, not, ◌↔◌, List, [], ◌∷◌, ◌++◌, ◌⊎◌, ℕ, ◌≤◌, ◌<◌, max, length, take}
use Rattle.format.specs.Messages.{Kind, Message, PartMet, Query, Tag, part_met}
use Rattle.format.specs.Layout.{encode}
use Rattle.format.specs.Rules.{Bytes, SizeIs, Valid, ceiling}
use Rattle.format.specs.Decoding.{Fault, accepted, number, refusal, refused_with, reply, violates}
use Rattle.format.specs.Decoding as decoding
use Rattle.format.specs.MetOrder.{decode}
use Rattle.format.specs.PartTagOrder.{spec_check_part_tags}
use Rattle.format.specs.Gaps.{Gap, Lawful, Marking, count, inside, lawful, leaves, marking, missing, rejected}
use Rattle.format.specs.Truth.{Holds, holds}
use Rattle.format.specs.Writing.{Written, Writes, overwritten, unwritten, written_into}
use Rattle.format.specs.Saving.{Saves, spec_save_strict}
use Rattle.format.specs.GapTags.{gaps_of}
use Rattle.format.specs.PutGaps.{gap_tags, plain_tags, spec_put_gaps, tags_of}
use Rattle.format.specs.Merging.{Merges, OneModel, date_of, form_of, hash_of}

-- The bytes are accepted as some message.
abbrev pub Accepted : Kind → List ℕ → Type 0
Accepted k s = (m : Message k) × (decode k s ≡ accepted m)

-- Demand 1

-- The byte ceiling comes before all else.
abbrev pub CeilingFirst : Type 0
CeilingFirst = (k : Kind) (s : List ℕ) → ceiling k < length s → reply (decode k s) ≡ refused_with 6

-- A part.met whose tag list is not that of exactly one size is refused 9, and no other is.
abbrev pub OneSize : Type 0
OneSize = (tags : List Tag) → (spec_check_part_tags tags ≡ violates decoding.size_tag) ↔ ((size : ℕ) → SizeIs size tags → ⊥)

-- A refused write, save or put: length 0, and the output as it was.
abbrev pub Untouched : List ℕ → Written → Type 0
Untouched output w = (w.number ≡ 0 → ⊥) → (w.length ≡ 0) × (w.output ≡ output)

abbrev pub RefusedWrite : Type 0
RefusedWrite = (k : Kind) (m : Message k) (output : List ℕ) (w : Written) → Writes k m output w → Untouched output w

abbrev pub RefusedStrictSave : Type 0
RefusedStrictSave = (stored opened new output : List ℕ) → Untouched output (spec_save_strict stored opened new output)

abbrev pub RefusedSave : Type 0
RefusedSave = (stored opened new output : List ℕ) (w : Written) → Saves stored opened new output w → Untouched output w

abbrev pub RefusedPut : Type 0
RefusedPut = (file : List ℕ) (limit size : ℕ) (gaps : List Gap) (output : List ℕ) → Untouched output (spec_put_gaps file limit size gaps output)

abbrev pub RefusedMerge : Type 0
RefusedMerge = (opened first second output : List ℕ) (w : Written) → Merges opened first second output w → Untouched output w

-- The strict save's conflict: 11 exactly where the new bytes are a part.met and the stored file is not the one opened.
abbrev pub StrictConflict : Type 0
StrictConflict =
    (stored opened new output : List ℕ) →
    ((spec_save_strict stored opened new output).number ≡ 11) ↔ (Accepted part_met new × (stored ≡ opened → ⊥))

-- A strict save is accepted exactly over the file that was opened, and then it has written the new bytes.
abbrev pub StrictSaved : Type 0
StrictSaved =
    (stored opened new output : List ℕ) →
    (spec_save_strict stored opened new output ≡ record { number = 0; length = length new; output = overwritten new output })
    ↔ (Accepted part_met new × ((stored ≡ opened) × (length new ≤ length output)))

-- A merge has one answer. It is 12 exactly where three files that are accepted are not of one model, and 11 exactly where they are, and the
-- form with its hash lists, or the other tags, were changed in two different ways.
abbrev pub MergeOnce : Type 0
MergeOnce = (opened first second output : List ℕ) (v w : Written) → Merges opened first second output v → Merges opened first second output w → v ≡ w

abbrev pub Strangers : Type 0
Strangers =
    (opened first second output : List ℕ) (w : Written) → Merges opened first second output w →
    (w.number ≡ 12) ↔ ((o : Accepted part_met opened) × ((a : Accepted part_met first) × ((b : Accepted part_met second) ×
    ((size : ℕ) → OneModel size o.0 a.0 b.0 → ⊥))))

-- Changed in two different ways: both saves differ from the opened file, and from each other.
abbrev pub AllDiffer : {A : Type 0} → (opened first second : A) → Type 0
AllDiffer opened first second = (first ≡ opened → ⊥) × ((second ≡ opened → ⊥) × (first ≡ second → ⊥))

pub record TwoWays (opened first second : PartMet) : Type 0 where
  pub size : ℕ
  pub one : OneModel size opened first second
  pub changed : AllDiffer (form_of opened) (form_of first) (form_of second)
      ⊎ AllDiffer (plain_tags (tags_of opened)) (plain_tags (tags_of first)) (plain_tags (tags_of second))

-- The same of three files: each is accepted.
abbrev pub ChangedInTwoWays : (opened first second : List ℕ) → Type 0
ChangedInTwoWays opened first second =
    (o : Accepted part_met opened) × ((a : Accepted part_met first) × ((b : Accepted part_met second) × TwoWays o.0 a.0 b.0))

abbrev pub MergeConflict : Type 0
MergeConflict =
    (opened first second output : List ℕ) (w : Written) → Merges opened first second output w → (w.number ≡ 11) ↔ ChangedInTwoWays opened first second

-- A save has one answer.
abbrev pub SaveOnce : Type 0
SaveOnce = (stored opened new output : List ℕ) (v w : Written) → Saves stored opened new output v → Saves stored opened new output w → v ≡ w

-- The own number of new bytes that are refused comes before all else, whatever is stored and was opened.
abbrev pub SaveNewFirst : Type 0
SaveNewFirst =
    (stored opened new output : List ℕ) (w : Written) → Saves stored opened new output w →
    (f : Fault) → decode part_met new ≡ refusal f → w ≡ unwritten (number f.rule) output

-- The merge of two saves is answered with this number.
abbrev pub MergeGives : (number : ℕ) → (opened first second output : List ℕ) → Type 0
MergeGives number opened first second output = (w : Written) × (Merges opened first second output w × (w.number ≡ number))

-- A save's conflict: 11 exactly where the stored file is not the one opened, the new bytes are a part.met, and their merge is a conflict.
abbrev pub SaveConflict : Type 0
SaveConflict =
    (stored opened new output : List ℕ) (w : Written) → Saves stored opened new output w →
    (w.number ≡ 11) ↔ ((stored ≡ opened → ⊥) × (Accepted part_met new × MergeGives 11 opened stored new output))

-- The same in plain words: what was saved since and the new bytes changed something in two different ways.
abbrev pub SaveTwoWays : Type 0
SaveTwoWays =
    (stored opened new output : List ℕ) (w : Written) → Saves stored opened new output w → (w.number ≡ 11) ↔ ChangedInTwoWays opened stored new

-- A save is accepted exactly where the new bytes are a part.met and, over the file that was opened, there is room for them; over another,
-- the merge is accepted.
abbrev pub SaveAccepts : Type 0
SaveAccepts =
    (stored opened new output : List ℕ) (w : Written) → Saves stored opened new output w →
    (w.number ≡ 0) ↔ (Accepted part_met new × ((stored ≡ opened → length new ≤ length output) ×
    ((stored ≡ opened → ⊥) → MergeGives 0 opened stored new output)))

-- Demand 2

-- A write of a message has one answer; it is accepted exactly where the message is valid and has room.
abbrev pub WriteOnce : Type 0
WriteOnce = (k : Kind) (m : Message k) (output : List ℕ) (v w : Written) → Writes k m output v → Writes k m output w → v ≡ w

abbrev pub WriteExact : Type 0
WriteExact =
    (k : Kind) (m : Message k) (output : List ℕ) (w : Written) → Bytes (encode k m) → Writes k m output w →
    (w.number ≡ 0) ↔ (Valid k m × (length (encode k m) ≤ length output))

-- Writing what was read gives the same bytes; reading what was written gives the meaning.
abbrev pub WrittenBack : Type 0
WrittenBack =
    (k : Kind) (m : Message k) (s output : List ℕ) (w : Written) → Bytes s → decode k s ≡ accepted m → Writes k m output w → w ≡ written_into s output

abbrev pub ReadBack : Type 0
ReadBack =
    (k : Kind) (m : Message k) (output : List ℕ) (w : Written) → Writes k m output w → w.number ≡ 0 →
    decode k (take w.length w.output) ≡ accepted m

-- Markings, one range after the other; a range is written as the gap that it would be. A refused one leaves the gaps as they were.
abbrev pub one_marking : (limit size : ℕ) → List Gap → Gap → Marking
one_marking limit size gaps r = marking (lawful limit size gaps && inside size r.start r.end) size gaps r.start r.end

abbrev pub gaps_after : List Gap → Marking → List Gap
gaps_after gaps (rejected n) = gaps
gaps_after gaps (leaves left n) = left

abbrev pub accepted_in : Gap → Marking → List Gap → List Gap
accepted_in r (rejected n) ranges = ranges
accepted_in r (leaves left n) ranges = r ∷ ranges

unfoldable pub gaps_at_end : (limit size : ℕ) → List Gap → (ranges : List Gap) → List Gap
gaps_at_end limit size gaps [] = gaps
gaps_at_end limit size gaps (r ∷ ranges) = gaps_at_end limit size (gaps_after gaps (one_marking limit size gaps r)) ranges

unfoldable pub accepted_ranges : (limit size : ℕ) → List Gap → (ranges : List Gap) → List Gap
accepted_ranges limit size gaps [] = []
accepted_ranges limit size gaps (r ∷ ranges) =
    let m = one_marking limit size gaps r in accepted_in r m (accepted_ranges limit size (gaps_after gaps m) ranges)

-- A byte is missing at the end exactly if it was missing and lies in no accepted range.
abbrev pub MissingAtEnd : Type 0
MissingAtEnd =
    (limit size : ℕ) (gaps ranges : List Gap) (x : ℕ) →
    missing (gaps_at_end limit size gaps ranges) x ≡ (missing gaps x && not (missing (accepted_ranges limit size gaps ranges) x))

-- An accepted marking leaves a lawful gap list, and reports how many bytes are missing.
abbrev pub TrueCount : Type 0
TrueCount =
    (limit size : ℕ) (gaps : List Gap) (r : Gap) (left : List Gap) (n : ℕ) → one_marking limit size gaps r ≡ leaves left n →
    Lawful limit size left × (n ≡ count (missing left) size)

-- Three-way, in plain words: where one save left it as it was, the other's is taken; where both are equal, that; and one of these is so.
pub record Winner {A : Type 0} (opened first second won : A) : Type 0 where
  pub first_left_it : first ≡ opened → won ≡ second
  pub second_left_it : second ≡ opened → won ≡ first
  pub equal : first ≡ second → won ≡ first
  pub one : (first ≡ opened) ⊎ ((second ≡ opened) ⊎ (first ≡ second))

-- What a merge of three part.mets makes, in plain words: the later date, the common hash and size, the form with its hash lists and the other
-- tags of the save that changed them, the gaps last; and a byte that the opened one misses is missing exactly when both saves miss it, one
-- that it has exactly when either does.
pub record MergedFile (opened first second made : PartMet) : Type 0 where
  pub date : date_of made ≡ max (date_of first) (date_of second)
  pub hash : (hash_of made ≡ hash_of opened) × ((hash_of made ≡ hash_of first) × (hash_of made ≡ hash_of second))
  pub size : (n : ℕ) → SizeIs n (tags_of opened) → SizeIs n (tags_of first) × (SizeIs n (tags_of second) × SizeIs n (tags_of made))
  pub form : Winner (form_of opened) (form_of first) (form_of second) (form_of made)
  pub others : Winner (plain_tags (tags_of opened)) (plain_tags (tags_of first)) (plain_tags (tags_of second)) (plain_tags (tags_of made))
  pub tags : tags_of made ≡ plain_tags (tags_of made) ++ gap_tags 0 (gaps_of (tags_of made))
  pub both : (x : ℕ) → missing (gaps_of (tags_of opened)) x ≡ true →
      (missing (gaps_of (tags_of made)) x ≡ true)
      ↔ ((missing (gaps_of (tags_of first)) x ≡ true) × (missing (gaps_of (tags_of second)) x ≡ true))
  pub either : (x : ℕ) → missing (gaps_of (tags_of opened)) x ≡ false →
      (missing (gaps_of (tags_of made)) x ≡ true)
      ↔ ((missing (gaps_of (tags_of first)) x ≡ true) ⊎ (missing (gaps_of (tags_of second)) x ≡ true))

-- What an accepted merge wrote is read as that part.met.
pub record MergedBack (opened first second new : List ℕ) : Type 0 where
  pub o : Accepted part_met opened
  pub a : Accepted part_met first
  pub b : Accepted part_met second
  pub made : Accepted part_met new
  pub merged : MergedFile o.0 a.0 b.0 made.0

abbrev pub MergeReadBack : Type 0
MergeReadBack =
    (opened first second output : List ℕ) (w : Written) → Bytes opened → Bytes first → Bytes second →
    Merges opened first second output w → w.number ≡ 0 → MergedBack opened first second (take w.length w.output)

-- What an accepted save wrote is a part.met: the new bytes, over the file that was opened; over another, the merge of what was saved since
-- and the new bytes.
pub record SavedBack (stored opened new wrote : List ℕ) : Type 0 where
  pub file : Accepted part_met wrote
  pub the_new : stored ≡ opened → wrote ≡ new
  pub the_merge : (stored ≡ opened → ⊥) → MergedBack opened stored new wrote

abbrev pub SaveReadBack : Type 0
SaveReadBack =
    (stored opened new output : List ℕ) (w : Written) → Bytes stored → Bytes opened → Bytes new →
    Saves stored opened new output w → w.number ≡ 0 → SavedBack stored opened new (take w.length w.output)

-- A query holds on a tag list exactly where it does in plain words.
abbrev pub TrueSearch : Type 0
TrueSearch = (q : Query) (tags : List Tag) → (holds q tags ≡ true) ↔ Holds q tags

-- Demand 3

abbrev pub AcceptsExactly : Type 0
AcceptsExactly = (k : Kind) (s : List ℕ) → Bytes s → (m : Message k) → (decode k s ≡ accepted m) ↔ ((s ≡ encode k m) × Valid k m)

abbrev pub Unambiguous : Type 0
Unambiguous = (k : Kind) (m n : Message k) → Valid k m → Valid k n → encode k m ≡ encode k n → m ≡ n

-- All of them.
pub record Demands : Type 0 where
  pub ceiling_first : CeilingFirst
  pub one_size : OneSize
  pub refused_write : RefusedWrite
  pub refused_strict_save : RefusedStrictSave
  pub refused_save : RefusedSave
  pub refused_put : RefusedPut
  pub refused_merge : RefusedMerge
  pub merge_once : MergeOnce
  pub strangers : Strangers
  pub merge_conflict : MergeConflict
  pub strict_conflict : StrictConflict
  pub strict_saved : StrictSaved
  pub save_once : SaveOnce
  pub save_new_first : SaveNewFirst
  pub save_conflict : SaveConflict
  pub save_two_ways : SaveTwoWays
  pub save_accepts : SaveAccepts
  pub write_once : WriteOnce
  pub write_exact : WriteExact
  pub written_back : WrittenBack
  pub read_back : ReadBack
  pub missing_at_end : MissingAtEnd
  pub true_count : TrueCount
  pub merge_read_back : MergeReadBack
  pub save_read_back : SaveReadBack
  pub true_search : TrueSearch
  pub accepts_exactly : AcceptsExactly
  pub unambiguous : Unambiguous
