-- What calls in both orders owe (02, No. 12), said of the values that the calls of the crates below promise.
use Rattle.std.specs.Prelude.{◌+◌, ◌≡◌, Ok}
use Rattle.format.specs.Gaps.{size_limit}
use Rattle.gaps.specs.declared.Gap.{Gap}
use Rattle.gaps.specs.declared.GapRecord.{GapRecord}
use Rattle.gaps.specs.declared.Marked.{Marked}
use Rattle.gaps.specs.Marking.{MarkOutcome, mark_meaning, marked}
use Rattle.test_cases.specs.declared.Markings.{Markings}
use Rattle.test_cases.specs.declared.Pair.{Pair}
use Rattle.test_cases.specs.declared.Tally.{Tally}

-- A range is lent as the gap that it would be.
abbrev pub marked_one : GapRecord → Gap → MarkOutcome
marked_one g range = marked size_limit g range.start range.end

-- Two markings in each order: all four answers are those of the markings, each of the record that the one before leaves; and if none is a
-- refusal, the last ones are equal.
pub record MarkedInBothOrders (g : GapRecord) (a b : Gap) (r : Markings) : Type 0 where
  pub first : mark_meaning r.first ≡ marked_one g a
  pub one : mark_meaning r.one ≡ marked_one (marked_one g a).after b
  pub second : mark_meaning r.second ≡ marked_one g b
  pub other : mark_meaning r.other ≡ marked_one (marked_one g b).after a
  pub equal : (x one y other : Marked) → r.first ≡ Ok x → r.one ≡ Ok one → r.second ≡ Ok y → r.other ≡ Ok other → one ≡ other

-- One pair more: counted if it was marked with no refusal, and then as equal if it left the same.
abbrev pub tallied : Tally → Pair → Tally
tallied t Pair.Refused = t
tallied t Pair.Equal = record { accepted = t.accepted + 1; equal = t.equal + 1 }
tallied t Pair.Differs = record { accepted = t.accepted + 1; equal = t.equal }
