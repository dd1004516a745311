-- The bytes of the pairs of gap tags.
use Prim.Native.Nat.{ℕ, suc, ◌+◌, ◌-◌, ◌*◌, ◌<◌, ◌≤◌}
use mathlib.Core.Path.{◌≡◌, refl, ap, ◌∙◌}
use mathlib.Core.List.{List, [], ◌∷◌, ◌++◌, append_assoc}
use native.Mathlib.Omega.{arith}
use native.Mathlib.Numerals.{add-one}
use lib.ListN.{length, get_or, drop, length-append}
use lib.Dec.{ltb}
use borrow.Rule.Slice.PartMut.{mid_of, put_mid}
use borrow.Author.Tests.{ltb-true, ltb-false}
use Rattle.format.specs.Gaps.{Gap, Ordered}
use Rattle.format.specs.Layout.{byte, word, dword, encode_name, encode_tag}
use Rattle.format.specs.Rules.{dword_tag}
use Rattle.format.specs.PutGaps.{decimal_of, gap_tags}
use Rattle.format.specs.Writing.{overwritten}
use Rattle.format.proofs.Codec.{length-little_endian}
use Rattle.format.proofs.PartTags.{either-test}
use Rattle.format.proofs.Gaps.{weaken}
use Rattle.gaps.proofs.GapRecords.{none_left}
use Rattle.gap_numbers.specs.Numbers.{held}
use Rattle.gap_numbers.specs.NumberSteps.{gaps_in}
use Rattle.gap_numbers.proofs.Numbers.{nth_gap, at, drop-in}
use Rattle.output.proofs.Laws.{byte-bytes}
use Rattle.output.proofs.Loops.{WrittenSoFar, written_all, piece-room, written_next}
use Rattle.put_gaps.specs.Pieces.{pair_bytes, pairs_bytes, spec_pairs_length}
use Rattle.format.proofs.Decimals.{decimal-one, decimal-two}

-- The items of a gap tag, in the order in which they are written.
pub tag-pieces : (b : ℕ) (d : List ℕ) (v : ℕ) → b < 256 →
    (((byte 3 ++ word (1 + length d)) ++ byte b) ++ d) ++ dword v ≡ encode_tag (dword_tag (b ∷ d) v)
unfolding encode_tag encode_name
tag-pieces b d v h = let n : 1 + length d ≡ suc (length d) = omega arith in rw (byte-bytes b h, n) (simp append_assoc)

pub length-tag : (b : ℕ) (d : List ℕ) (v : ℕ) → length (encode_tag (dword_tag (b ∷ d) v)) ≡ 8 + length d
unfolding encode_tag encode_name
length-tag b d v = simp (length-append, length-little_endian) (omega arith)

pub length-pair : (i : ℕ) (g : Gap) → length (pair_bytes i g) ≡ 16 + 2 * length (decimal_of i)
unfolding pair_bytes
length-pair i g =
    let start = dword_tag (0x09 ∷ decimal_of i) g.start in
    let end = dword_tag (0x0A ∷ decimal_of i) g.end in
    omega (arith, length-append (encode_tag start) (encode_tag end), length-tag 0x09 (decimal_of i) g.start, length-tag 0x0A (decimal_of i) g.end)

pub pairs-none : (i : ℕ) → pairs_bytes i [] ≡ []
unfolding pairs_bytes gap_tags
pairs-none i = refl

pub pairs-cons : (i : ℕ) (g : Gap) (gaps : List Gap) → pairs_bytes i (g ∷ gaps) ≡ pair_bytes i g ++ pairs_bytes (i + 1) gaps
unfolding pairs_bytes pair_bytes gap_tags
pairs-cons i g gaps = rw (add-one, append_assoc) refl

-- A pair has 18 bytes, and 20 from number 10 on.
pub pair-length : (i : ℕ) → spec_pairs_length i + (16 + 2 * length (decimal_of i)) ≡ spec_pairs_length (i + 1)
pair-length i = either-test (ltb i 10)
    (λ e. let h : i < 10 = ltb-true i 10 e in let d = ap length (decimal-one i h) in omega arith)
    (λ e. let h : 10 ≤ i = ltb-false i 10 e in let d = ap length (decimal-two i h) in omega arith)

pub pairs-length : (i : ℕ) (gaps : List Gap) → spec_pairs_length i + length (pairs_bytes i gaps) ≡ spec_pairs_length (i + length gaps)
pairs-length i [] = rw (pairs-none i) (omega arith)
pairs-length i (g ∷ gaps) =
    omega (
      arith,
      ap length (pairs-cons i g gaps),
      length-append (pair_bytes i g) (pairs_bytes (i + 1) gaps),
      length-pair i g,
      pair-length i,
      pairs-length (i + 1) gaps,
      ap spec_pairs_length (next i (length gaps)),
    )
  where
    next : (i n : ℕ) → i + suc n ≡ i + 1 + n
    next i n = omega arith

-- The loop over the gaps of a record that is lent as numbers, with i gaps passed.
module _ (l old : List ℕ) where
  abbrev all : List ℕ
  all = pairs_bytes 0 (gaps_in l)

  pub record PairsWritten (out : List ℕ) (wrote i : ℕ) : Type 0 where
    pub passed : i ≤ get_or l 1 0
    pub few : get_or l 1 0 ≤ 64
    pub ordered : Ordered (get_or l 0 0) 0 (drop i (gaps_in l))
    pub written : WrittenSoFar all old out wrote (pairs_bytes i (drop i (gaps_in l)))

  pub pairs-all : (out : List ℕ) (wrote i : ℕ) → PairsWritten out wrote i → get_or l 1 0 ≤ i → (wrote ≡ length all) × (out ≡ overwritten all old)
  pairs-all out wrote i w h =
      written_all all old out wrote _ w.written (ap (pairs_bytes i) (none_left (held l) i (at l i w.passed w.few) h) ∙ pairs-none i)

  module _ (room : length all ≤ length old) (out : List ℕ) (wrote i : ℕ) (h : i < get_or l 1 0) (w : PairsWritten out wrote i) where
    abbrev piece : List ℕ
    piece = pair_bytes i (nth_gap l i)

    abbrev later : List Gap
    later = drop (i + 1) (gaps_in l)

    next : pairs_bytes i (drop i (gaps_in l)) ≡ piece ++ pairs_bytes (i + 1) later
    next = ap (pairs_bytes i) (drop-in l i h w.few) ∙ pairs-cons i (nth_gap l i) later

    pub pair-room : (wrote + (16 + 2 * length (decimal_of i)) ≤ length out) × (length out ≡ length old)
    pair-room =
        let within = piece-room all old room out wrote _ piece _ w.written next in
        (omega (arith, within, length-pair i (nth_gap l i), w.written.same_length), w.written.same_length)

    pub pair-ordered : ((nth_gap l i).start < (nth_gap l i).end) × ((nth_gap l i).end ≤ get_or l 0 0) × Ordered (get_or l 0 0) 0 later
    unfolding Ordered
    pair-ordered =
        let o : Ordered (get_or l 0 0) 0 (nth_gap l i ∷ later) = rw (drop-in l i h w.few) at w.ordered in
        (o.1, o.2, weaken (get_or l 0 0) (suc (nth_gap l i).end) 0 later (omega arith) o.3)

    pub pairs_next : (n : ℕ) → n ≡ length piece → (new : List ℕ) → new ≡ overwritten piece (mid_of wrote (length out - wrote) out) →
        PairsWritten (put_mid wrote (length out - wrote) out new) (wrote + n) (i + 1)
    pairs_next n e new q = record {
      passed = omega arith;
      few = w.few;
      ordered = pair-ordered.2;
      written = rw e (written_next all old room out wrote _ piece _ w.written next new q);
    }
