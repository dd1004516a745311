-- What a merge comes to, by what the reader says of the three files; and of a file that it accepts, what the next step needs.
use Prim.Native.Nat.{ℕ}
use mathlib.Core.Path.{◌≡◌}
use mathlib.Core.List.{List}
use Rattle.format.specs.Messages.{PartMet, part_met}
use Rattle.format.specs.Decoding.{Answer, accepted, message, number, refusal, refused_with, reply}
use Rattle.format.specs.MetOrder.{decode}
use Rattle.format.specs.Writing.{Written, unwritten}
use Rattle.format.specs.Merging.{Merged, Merges, MergesAfter}
use Rattle.format.proofs.Differ.{differ}
use Rattle.met.specs.declared.PartGaps.{PartGaps}
use Rattle.met.specs.declared.PartMet as code
use Rattle.met.specs.MetAnswers.{part_met_in}
use Rattle.put_gaps.proofs.Puts.{reads, reads-gaps}
use Rattle.merge.specs.declared.Read.{Read}
use Rattle.merge.specs.Choices.{Found, ReadAs}
use Rattle.std.specs.Prelude.{Result, Ok, Err}
use Rattle.wire.specs.declared.Rule.{Rule}
use Rattle.wire.specs.WireAnswers.{rule_meaning}

-- the message that the reader's reply tells
pub accepted-as : (a : Answer PartMet) (m : PartMet) → message m ≡ reply a → a ≡ accepted m
accepted-as (refusal f) m e = cc
accepted-as (accepted n) m e = cc

module _ (opened first second output : List ℕ) where
  pub opened-refused : (n : ℕ) → refused_with n ≡ reply (decode part_met opened) → Merges opened first second output (unwritten n output)
  unfolding Merges
  opened-refused n e = go (decode part_met opened) e
    where
      go : (o : Answer PartMet) → refused_with n ≡ reply o → MergesAfter o (decode part_met first) (decode part_met second) output (unwritten n output)
      go (refusal f) e = cc
      go (accepted m) e = differ cc

  module _ (o : PartMet) (read-o : message o ≡ reply (decode part_met opened)) where
    pub first-refused : (n : ℕ) → refused_with n ≡ reply (decode part_met first) → Merges opened first second output (unwritten n output)
    unfolding Merges
    first-refused n e = rw (accepted-as (decode part_met opened) o read-o) (go (decode part_met first) e)
      where
        go : (a : Answer PartMet) → refused_with n ≡ reply a → MergesAfter (accepted o) a (decode part_met second) output (unwritten n output)
        go (refusal f) e = cc
        go (accepted m) e = differ cc

    module _ (a : PartMet) (read_a : message a ≡ reply (decode part_met first)) where
      pub second-refused : (n : ℕ) → refused_with n ≡ reply (decode part_met second) → Merges opened first second output (unwritten n output)
      unfolding Merges
      second-refused n e = rw (accepted-as (decode part_met opened) o read-o, accepted-as (decode part_met first) a read_a) (go (decode part_met second) e)
        where
          go : (b : Answer PartMet) → refused_with n ≡ reply b → MergesAfter (accepted o) (accepted a) b output (unwritten n output)
          go (refusal f) e = cc
          go (accepted m) e = differ cc

      pub all_read : (b : PartMet) → message b ≡ reply (decode part_met second) → (w : Written) → Merged o a b output w → Merges opened first second output w
      unfolding Merges
      all_read b read-b w h =
          rw (accepted-as (decode part_met opened) o read-o, accepted-as (decode part_met first) a read_a, accepted-as (decode part_met second) b read-b) h

pub read_of : (s starts : List ℕ) (r : Result (code.PartMet × PartGaps) Rule) (part : code.PartMet) (gaps : PartGaps) → r ≡ Ok (part, gaps) → ReadAs s starts r →
    message (part_met_in s part) ≡ reply (decode part_met s)
read_of s starts r part gaps e h = rw e at h.0

pub refused-of : (s starts : List ℕ) (r : Result (code.PartMet × PartGaps) Rule) (rule : Rule) → r ≡ Err rule → ReadAs s starts r → refused_with (number (rule_meaning rule)) ≡ reply (decode part_met s)
refused-of s starts r rule e h = rw e at h.0

pub found_of : (f : Read) (r : Result (code.PartMet × PartGaps) Rule) → r ≡ Ok (f.part, f.gaps) → ReadAs f.bytes.now f.starts.now r → Found f
found_of f r e h =
    let s = f.bytes.now in
    let starts = f.starts.now in
    record { reads = reads s starts r f.part f.gaps e h; held = reads-gaps s starts r f.part f.gaps e h.1.1.0 }
