-- part.met E0: its bytes and its number.
use Prim.Native.Nat.{ℕ, ◌+◌, ◌-◌, ◌≤◌}
use mathlib.Core.Path.{◌≡◌, refl, sym, ◌∙◌}
use mathlib.Core.Bool.{Bool, true, false}
use mathlib.Core.List.{List, [], ◌++◌, append-nil}
use native.Mathlib.Omega.{arith}
use lib.ListN.{get_or, length, drop, length-append}
use mir.Syntax.{w8}
use mir.Val.{Fits}
use lib.Dec.{leb}
use borrow.Author.Tests.{le-leb, leb-false, leb-true}
use Rattle.format.specs.Tables.{pick}
use Rattle.format.specs.Messages.{FileEntry, Tag, e0, part_met}
use Rattle.format.specs.Layout.{byte, counted, dword, encode_file_entry, encode_hash, encode_part_met, encode_tags, word}
use Rattle.format.specs.Rules.{All, Dword, ValidFileEntry, ValidHash, ValidPartMet, ValidTags, met_ceiling}
use Rattle.format.specs.Decoding.{Check, Rule, fault, passes, refused, violates}
use Rattle.format.specs.Order.{decode_tag}
use Rattle.format.specs.PartTagOrder.{spec_check_part_tags}
use Rattle.format.specs.MetOrder.{decode, decode_part_e0, decode_part_met, is_e0}
use Rattle.format.specs.Writing.{Judged, PartMetFits, overflows, refused_for}
use Rattle.format.proofs.Codec.{anywhere, behind, codec-counted, codec-dword, codec-word, fits, length-little_endian}
use Rattle.format.proofs.Items.{codec-hash}
use Rattle.format.proofs.PartTags.{check-means}
use Rattle.format.proofs.Writing.{ceiling-judged, tags-fit, valid-judged}
use Rattle.wire.specs.WireAnswers.{items_in}
use Rattle.met.specs.declared.FileEntry as met
use Rattle.met.specs.MetAnswers.{file_entry_in}
use Rattle.write_met.specs.MetWrites.{file_entry_there}
use Rattle.write_met.specs.Lengths.{EntryMeaning}
use Rattle.format.specs.RoundTrip.{WritesAt}
use Rattle.write_items.proofs.Answers.{Ready, writes-ready}
use Rattle.write_met.proofs.MetEntries.{entry-size, entry-there, parts-here, tags-here}
use Rattle.write_met.proofs.Lists.{hash-valid}
use Rattle.write_part.specs.BlockSteps.{spec_e0_number, tags_number}
use Rattle.write_part.proofs.Tags.{codec-edition, tags-refused}
use Rattle.std.specs.Prelude.{Ok}

module _ (m : FileEntry) (valid : ValidFileEntry m) where
  abbrev opening : List ℕ
  opening = byte 0xE0

  abbrev date : List ℕ
  date = dword m.date

  abbrev parts : List ℕ
  parts = counted word encode_hash m.parts

  abbrev tags : List ℕ
  tags = encode_tags m.tags

  abbrev bytes : List ℕ
  bytes = opening ++ (date ++ (m.hash ++ (parts ++ tags)))

  abbrev spec_tags_at : ℕ
  spec_tags_at = 0 + length opening + length date + length m.hash + length parts

  -- the tags are checked where the reader meets them
  e0-refused : (rule : Rule) → spec_check_part_tags m.tags ≡ violates rule → decode_part_met bytes 0 ≡ refused (fault rule spec_tags_at (spec_tags_at + length tags - spec_tags_at))
  unfolding decode_part_met decode_part_e0
  e0-refused rule q =
      let d0 : drop 0 bytes ≡ opening ++ (date ++ (m.hash ++ (parts ++ tags))) = refl in
      let i0 : 0 ≤ length bytes = omega arith in
      let d1 = behind bytes 0 opening (date ++ (m.hash ++ (parts ++ tags))) d0 in
      let i1 = fits bytes 0 opening (date ++ (m.hash ++ (parts ++ tags))) i0 d0 in
      let d2 = behind bytes (0 + length opening) date (m.hash ++ (parts ++ tags)) d1 in
      let i2 = fits bytes (0 + length opening) date (m.hash ++ (parts ++ tags)) i1 d1 in
      let d3 = behind bytes (0 + length opening + length date) m.hash (parts ++ tags) d2 in
      let i3 = fits bytes (0 + length opening + length date) m.hash (parts ++ tags) i2 d2 in
      let d4 = behind bytes (0 + length opening + length date + length m.hash) parts tags d3 in
      let i4 = fits bytes (0 + length opening + length date + length m.hash) parts tags i3 d3 in
      rw (
        codec-edition.complete bytes 0 is_e0 (date ++ (m.hash ++ (parts ++ tags))) tt d0 i0 tt,
        (codec-dword {p = anywhere}).complete bytes (0 + length opening) m.date (m.hash ++ (parts ++ tags)) valid.date d1 i1 tt,
        (codec-hash {p = anywhere}).complete bytes (0 + length opening + length date) m.hash (parts ++ tags) valid.hash d2 i2 tt,
        (codec-counted {p = anywhere} codec-word codec-hash).complete bytes (0 + length opening + length date + length m.hash) m.parts tags valid.parts d3 i3 tt,
        tags-refused m.tags valid.tags bytes spec_tags_at [] (d4 ∙ sym (append-nil tags)) i4 rule q,
      )
      refl

  -- 9, 8 or 6 for its tags, or none
  e0-within : length (encode_part_met (e0 m)) ≤ met_ceiling → Judged part_met (e0 m) (tags_number (spec_check_part_tags m.tags))
  unfolding PartMetFits ValidPartMet encode_part_met encode_file_entry decode
  e0-within few = go (spec_check_part_tags m.tags) refl
    where
      go : (c : Check (ℕ × List Tag)) → spec_check_part_tags m.tags ≡ c → Judged part_met (e0 m) (tags_number c)
      go (passes p) q =
          let h = check-means m.tags p q in
          valid-judged part_met (e0 m)
          (record { content = record { entry = valid; size = p.0; sized = record { one = h.1.0; gaps = h.1.1 } }; few = few })
      go (violates rule) q =
          refused_for (valid.parts.0, tags-fit m.tags valid.tags) (fault rule spec_tags_at (spec_tags_at + length tags - spec_tags_at))
          (rw (le-leb (length bytes) met_ceiling few, e0-refused rule q) refl)

pub e0-judged : (m : FileEntry) → Dword m.date → ValidHash m.hash → All ValidHash m.parts → ValidTags m.tags → {parts size : ℕ} → length m.parts ≡ parts →
    length (encode_part_met (e0 m)) ≡ size → Judged part_met (e0 m) (spec_e0_number parts size m.tags)
unfolding spec_e0_number PartMetFits
e0-judged m hd hh hp ht {parts} {size} count sized = go (leb parts 65535) refl
  where
    go : (t : Bool) → leb parts 65535 ≡ t → Judged part_met (e0 m) (pick t (pick (leb size met_ceiling) (tags_number (spec_check_part_tags m.tags)) 6) 6)
    go false q = let many = leb-false parts 65535 q in overflows (λ f. omega (arith, f.0))
    go true q =
        let few = leb-true parts 65535 q in
        let valid : ValidFileEntry m = record { date = hd; hash = hh; parts = (omega arith, hp); tags = ht } in
        rw sized at (ceiling-judged part_met (e0 m) (tags_number (spec_check_part_tags m.tags)) (valid.parts.0, tags-fit m.tags ht) (λ within. e0-within m valid within))

-- What the writer owes, once the lists are found to have p and t bytes.
abbrev pub E0Ready : List ℕ → met.FileEntry → (p t : ℕ) → Type 0
E0Ready s e p t =
    Ready (WritesAt part_met (file_entry_there s e) (e0 (file_entry_in s e))) (spec_e0_number e.parts.count (27 + p + t) (items_in decode_tag s e.tags))
    (encode_part_met (e0 (file_entry_in s e))) (27 + p + t)

module _ (s : List ℕ) (known : (i : ℕ) → Fits w8 (get_or s i 0)) (e : met.FileEntry) where
  module _ (p t : ℕ) (h : EntryMeaning s e (Ok (p, t))) where
    e0-size : length (encode_part_met (e0 (file_entry_in s e))) ≡ 27 + p + t
    unfolding encode_part_met
    e0-size =
        length-append (byte 0xE0) (encode_file_entry (file_entry_in s e))
        ∙ omega (arith, length-little_endian 1 0xE0, entry-size s known e p t h)

    pub e0-ready : Dword e.date → Dword e.tags.count → E0Ready s e p t
    e0-ready hd ht =
        let ps = parts-here s known e p t h in
        let ts = tags-here s known e p t h in
        let judged = e0-judged (file_entry_in s e) hd (hash-valid s known e.hash h.0) ps.all (rw ts.count ht, ts.all) ps.count e0-size in
        writes-ready (entry-there s known e p t h) judged refl e0-size

pub e0-fits : (parts size : ℕ) (tags : List Tag) → 0 ≡ spec_e0_number parts size tags → (parts ≤ 65535) × (size ≤ met_ceiling)
unfolding spec_e0_number
e0-fits parts size tags e = go (leb parts 65535) (leb size met_ceiling) refl refl e
  where
    go : (a b : Bool) → leb parts 65535 ≡ a → leb size met_ceiling ≡ b → ◌≡◌ {A = ℕ} 0 (pick a (pick b (tags_number (spec_check_part_tags tags)) 6) 6) →
        (parts ≤ 65535) × (size ≤ met_ceiling)
    go true true p q z = (leb-true parts 65535 p, leb-true size met_ceiling q)
    go true false p q z = absurd (omega arith)
    go false b p q z = absurd (omega arith)
