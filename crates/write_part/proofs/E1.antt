-- part.met E1: its bytes and its number.
use Prim.Native.Nat.{ℕ, ◌+◌, ◌-◌, ◌≤◌}
use mathlib.Core.Path.{◌≡◌, refl, sym, ap, subst, ◌∙◌}
use mathlib.Core.Bool.{Bool, true, false}
use mathlib.Core.Logic.{◌⊎◌, inl, inr}
use mathlib.Core.List.{List, ◌++◌}
use native.Mathlib.Omega.{arith}
use lib.ListN.{length, drop}
use lib.Dec.{eqb}
use borrow.Author.Tests.{eq-eqb, eqb-false, eqb-true, le-leb, ne_eqb}
use Rattle.format.specs.Tables.{pick}
use Rattle.format.specs.Messages as messages
use Rattle.format.specs.Messages.{Tag, e1, part_met}
use Rattle.format.specs.Layout.{byte, dword, encode_hash_blocks, encode_part_e1, encode_part_met, encode_tags}
use Rattle.format.specs.Rules.{Bytes, Dword, Valid, ValidHash, ValidHashBlocks, ValidPartMet, ValidTags, met_ceiling}
use Rattle.format.specs.Decoding.{Check, Outcome, Rule, accepted, and_then, fault, got, passes, pure, refused, rest, violates}
use Rattle.format.specs.PartTagOrder.{spec_check_part_tags}
use Rattle.format.specs.MetOrder.{decode, decode_hash_blocks, decode_part_e1, decode_part_met, decode_part_tags, is_e1}
use Rattle.format.specs.Writing.{Judged, PartMetFits, another, refused_for}
use Rattle.format.proofs.Codec.{anywhere, behind, codec-dword, fits, regroup}
use Rattle.format.proofs.Items.{codec-fixed, codec-hash}
use Rattle.format.proofs.PartTags.{check-means, means-check, passes_same}
use Rattle.format.proofs.Acceptance.{accepts}
use Rattle.format.proofs.Writing.{ceiling-judged, tags-fit, valid-judged}
use Rattle.write_part.specs.BlockSteps.{after_tags, spec_e1_number}
use Rattle.write_part.proofs.Tags.{codec-edition, tags-pass, tags-refused}
use Rattle.write_part.proofs.Blocks.{outcome_number}

module _ (m : messages.PartE1) (hd : Dword m.date) (hh : ValidHash m.hash) (ht : ValidTags m.tags) where
  abbrev opening : List ℕ
  opening = byte 0xE1

  abbrev two : List ℕ
  two = byte 0x02

  abbrev date : List ℕ
  date = dword m.date

  abbrev tags : List ℕ
  tags = encode_tags m.tags

  abbrev area : List ℕ
  area = encode_hash_blocks m.blocks

  abbrev bytes : List ℕ
  bytes = opening ++ (two ++ (date ++ (m.hash ++ (tags ++ area))))

  abbrev spec_tags_at : ℕ
  spec_tags_at = 0 + length opening + length two + length date + length m.hash

  abbrev area_at : ℕ
  area_at = spec_tags_at + length tags

  abbrev with_blocks : messages.HashBlocks → messages.PartMet
  with_blocks b = e1 (record { date = m.date; hash = m.hash; tags = m.tags; blocks = b })

  d0 : drop 0 bytes ≡ opening ++ (two ++ (date ++ (m.hash ++ (tags ++ area))))
  d0 = refl

  i0 : 0 ≤ length bytes
  i0 = omega arith

  d1 : drop (0 + length opening) bytes ≡ two ++ (date ++ (m.hash ++ (tags ++ area)))
  d1 = behind bytes 0 opening (two ++ (date ++ (m.hash ++ (tags ++ area)))) d0

  i1 : 0 + length opening ≤ length bytes
  i1 = fits bytes 0 opening (two ++ (date ++ (m.hash ++ (tags ++ area)))) i0 d0

  d2 : drop (0 + length opening + length two) bytes ≡ date ++ (m.hash ++ (tags ++ area))
  d2 = behind bytes (0 + length opening) two (date ++ (m.hash ++ (tags ++ area))) d1

  i2 : 0 + length opening + length two ≤ length bytes
  i2 = fits bytes (0 + length opening) two (date ++ (m.hash ++ (tags ++ area))) i1 d1

  d3 : drop (0 + length opening + length two + length date) bytes ≡ m.hash ++ (tags ++ area)
  d3 = behind bytes (0 + length opening + length two) date (m.hash ++ (tags ++ area)) d2

  i3 : 0 + length opening + length two + length date ≤ length bytes
  i3 = fits bytes (0 + length opening + length two) date (m.hash ++ (tags ++ area)) i2 d2

  d4 : drop spec_tags_at bytes ≡ tags ++ area
  d4 = behind bytes (0 + length opening + length two + length date) m.hash (tags ++ area) d3

  i4 : spec_tags_at ≤ length bytes
  i4 = fits bytes (0 + length opening + length two + length date) m.hash (tags ++ area) i3 d3

  d5 : drop area_at bytes ≡ area
  d5 = behind bytes spec_tags_at tags area d4

  i5 : area_at ≤ length bytes
  i5 = fits bytes spec_tags_at tags area i4 d4

  -- the reader comes to the tags
  e1-decodes : decode_part_met bytes 0 ≡ and_then bytes (decode_part_tags bytes spec_tags_at)
      (λ c s at. and_then s (decode_hash_blocks c.0 s at) (λ b. pure (e1 (record { date = m.date; hash = m.hash; tags = c.1; blocks = b }))))
  unfolding decode_part_met decode_part_e1
  e1-decodes =
      rw (
        codec-edition.complete bytes 0 is_e1 (two ++ (date ++ (m.hash ++ (tags ++ area)))) tt d0 i0 tt,
        (codec-fixed {p = anywhere} 0x02 (omega arith)).complete bytes (0 + length opening) tt (date ++ (m.hash ++ (tags ++ area))) tt d1 i1 tt,
        (codec-dword {p = anywhere}).complete bytes (0 + length opening + length two) m.date (m.hash ++ (tags ++ area)) hd d2 i2 tt,
        (codec-hash {p = anywhere}).complete bytes (0 + length opening + length two + length date) m.hash (tags ++ area) hh d3 i3 tt,
      )
      (simp regroup)

  e1-refused : (rule : Rule) → spec_check_part_tags m.tags ≡ violates rule → decode_part_met bytes 0 ≡ refused (fault rule spec_tags_at (spec_tags_at + length tags - spec_tags_at))
  e1-refused rule q = rw (e1-decodes, tags-refused m.tags ht bytes spec_tags_at area d4 i4 rule q) refl

  module _ (size : ℕ) (sized : spec_check_part_tags m.tags ≡ passes (size, m.tags)) (few : length (encode_part_met (e1 m)) ≤ met_ceiling) where
    e1-blocks : decode_part_met bytes 0 ≡ and_then bytes (decode_hash_blocks size bytes area_at) (λ b. pure (with_blocks b))
    e1-blocks = rw (e1-decodes, tags-pass m.tags ht bytes spec_tags_at area d4 i4 size sized) refl

    fit : PartMetFits (e1 m)
    unfolding PartMetFits
    fit = tags-fit m.tags ht

    valid-e1 : ValidHashBlocks size m.blocks → Valid part_met (e1 m)
    unfolding ValidPartMet
    valid-e1 h =
        let c = check-means m.tags (size, m.tags) sized in
        record {
          content = record { date = hd; hash = hh; tags = ht; size = size; sized = record { one = c.1.0; gaps = c.1.1 }; blocks = h };
          few = few;
        }

    -- only blocks that are allowed for its size make it valid
    e1-valid : Valid part_met (e1 m) → ValidHashBlocks size m.blocks
    unfolding ValidPartMet
    e1-valid h =
        let k = h.content in
        let c = means-check m.tags k.size k.sized.one k.sized.gaps in
        let n : k.size ≡ size = ap (λ c. c.0) (passes_same (sym c ∙ sized)) in
        subst (λ n. ValidHashBlocks n m.blocks) n k.blocks

    -- wrong blocks: what the reader finds decides
    wrong-judged : Bytes bytes → (ValidHashBlocks size m.blocks → ⊥) → (o : Outcome messages.HashBlocks) → decode_hash_blocks size bytes area_at ≡ o →
        Judged part_met (e1 m) (outcome_number bytes o)
    unfolding decode encode_part_met encode_part_e1
    wrong-judged hb wrong (refused f) e =
        refused_for fit f (rw (le-leb (length bytes) met_ceiling few, e1-blocks, e) refl)
    wrong-judged hb wrong (got b next) e = go (eqb (length bytes) next) refl
      where
        go : (t : Bool) → eqb (length bytes) next ≡ t → Judged part_met (e1 m) (pick t 5 7)
        go true q =
            let whole : decode part_met bytes ≡ accepted (with_blocks b) =
            rw (le-leb (length bytes) met_ceiling few, e1-blocks, e, eq-eqb next (length bytes) (sym (eqb-true _ _ q))) refl in
            another fit (with_blocks b)
            (λ same. wrong (e1-valid (subst (Valid part_met) same ((accepts part_met bytes hb (with_blocks b)).0 whole).1))) whole
        go false q =
            refused_for fit (fault rest next 1)
            (rw (le-leb (length bytes) met_ceiling few, e1-blocks, e, ne_eqb next (length bytes) (λ z. eqb-false _ _ q (sym z))) refl)

-- What the blocks decide, where they are allowed or not.
pub e1-judged : (m : messages.PartE1) → Dword m.date → ValidHash m.hash → ValidTags m.tags → Bytes (encode_part_met (e1 m)) → (blocks : ℕ → ℕ) →
    ((size : ℕ) → ValidHashBlocks size m.blocks → blocks size ≡ 0) →
    ((size : ℕ) → (ValidHashBlocks size m.blocks) ⊎ ((ValidHashBlocks size m.blocks → ⊥) × ((s : List ℕ) (at : ℕ) → drop at s ≡ encode_hash_blocks m.blocks → at ≤ length s → blocks size ≡ outcome_number s (decode_hash_blocks size s at)))) →
    {size : ℕ} → length (encode_part_met (e1 m)) ≡ size → Judged part_met (e1 m) (spec_e1_number size (spec_check_part_tags m.tags) blocks)
unfolding spec_e1_number PartMetFits encode_part_met encode_part_e1 decode
e1-judged m hd hh ht hb blocks right wrong {size} sized =
    rw sized at (ceiling-judged part_met (e1 m) (after_tags (spec_check_part_tags m.tags) blocks) (tags-fit m.tags ht) (λ few. go few (spec_check_part_tags m.tags) refl))
  where
    decide : length (encode_part_met (e1 m)) ≤ met_ceiling → (size : ℕ) → spec_check_part_tags m.tags ≡ passes (size, m.tags) →
        (ValidHashBlocks size m.blocks) ⊎ ((ValidHashBlocks size m.blocks → ⊥) × ((s : List ℕ) (at : ℕ) → drop at s ≡ encode_hash_blocks m.blocks → at ≤ length s → blocks size ≡ outcome_number s (decode_hash_blocks size s at))) →
        Judged part_met (e1 m) (blocks size)
    decide few size q (inl h) = rw (right size h) (valid-judged part_met (e1 m) (valid-e1 m hd hh ht size q few h))
    decide few size q (inr h) =
        rw (h.1 (bytes m hd hh ht) (area_at m hd hh ht) (d5 m hd hh ht) (i5 m hd hh ht))
        (wrong-judged m hd hh ht size q few hb h.0 (decode_hash_blocks size (bytes m hd hh ht) (area_at m hd hh ht)) refl)

    go : length (encode_part_met (e1 m)) ≤ met_ceiling → (c : Check (ℕ × List Tag)) → spec_check_part_tags m.tags ≡ c → Judged part_met (e1 m) (after_tags c blocks)
    go few (passes p) q =
        let k : spec_check_part_tags m.tags ≡ passes (p.0, m.tags) = q ∙ ap (λ tags. passes (p.0, tags)) (check-means m.tags p q).0 in
        decide few p.0 k (wrong p.0)
    go few (violates rule) q =
        refused_for (tags-fit m.tags ht) (fault rule (spec_tags_at m hd hh ht) (spec_tags_at m hd hh ht + length (encode_tags m.tags) - spec_tags_at m hd hh ht))
        (rw (le-leb (length (bytes m hd hh ht)) met_ceiling few, e1-refused m hd hh ht rule q) refl)
