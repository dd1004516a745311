-- A gap record that is put into a part.met is what is read back from it.
use Prim.Native.Nat.{ℕ}
use mathlib.Core.Path.{◌≡◌, refl}
use mathlib.Core.List.{List}
use native.Mathlib.Omega.{arith}
use lib.ListN.{take}
use lib.Dec.{leb}
use Rattle.format.specs.Messages.{PartMet, e0, e1, part_met}
use Rattle.format.specs.Rules.{Bytes}
use Rattle.format.specs.Decoding.{Answer, accepted, refusal, reply}
use Rattle.format.specs.MetOrder.{decode}
use Rattle.format.specs.Writing.{Written}
use Rattle.format.specs.PutGaps.{tags_of, with_gaps}
use Rattle.format.proofs.PartTags.{either-test}
use Rattle.gaps.specs.declared.GapRecord.{GapRecord}
use Rattle.format.specs.Gaps.{size_limit}
use Rattle.format.proofs.Writing.{number-some}
use Rattle.gaps.specs.GapRecords.{gaps_of, spec_record_of}
use Rattle.met.specs.MetAnswers as met
use Rattle.put_gaps.specs.PutAnswers.{spec_put_record, unlawful_after}
use Rattle.put_gaps.proofs.PutReadBack.{PutBack, put_back}

tags-same : (m : PartMet) → met.tags_of m ≡ tags_of m
unfolding tags_of
tags-same (e0 e) = refl
tags-same (e1 m) = refl

module _ (file : List ℕ) (bytes : Bytes file) (g : GapRecord) (output : List ℕ) where
  abbrev answer : Written
  answer = spec_put_record file g output

  -- the new file
  abbrev new : List ℕ
  new = take answer.length answer.output

  unlawful-some : (a : Answer PartMet) → (unlawful_after a output).number ≡ 0 → ⊥
  unlawful-some (refusal f) e = number-some f.rule e
  unlawful-some (accepted m) e = omega arith

  pub record-back : answer.number ≡ 0 → PutBack g.size (gaps_of g) file new
  unfolding spec_put_record
  record-back e = either-test (leb g.count 64)
      (λ t. rw t (put_back size_limit g.size (gaps_of g) (omega arith) file bytes output (rw t at e)))
      (λ t. absurd (unlawful-some (decode part_met file) (rw t at e)))

  -- what the reader of a part.met's gaps answers for it
  pub gaps-back : answer.number ≡ 0 → met.gaps_answer (reply (decode part_met new)) ≡ record { number = 0; gaps = spec_record_of g.size (gaps_of g) }
  gaps-back e =
      let b = record-back e in
      rw (b.is, tags-same (with_gaps (gaps_of g) b.before), b.checked, b.gaps_are) refl
