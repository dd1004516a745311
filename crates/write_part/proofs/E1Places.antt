-- part.met E1 by its places: its blocks, and what code knows before it writes.
use Prim.Native.Nat.{ℕ, ◌+◌, ◌≤◌}
use mathlib.Core.Path.{◌≡◌, refl, sym, ap, ◌∙◌}
use mathlib.Core.Bool.{Bool, true, false}
use mathlib.Core.Logic.{◌⊎◌, inl, inr}
use mathlib.Core.List.{List, ◌++◌, append_assoc}
use native.Mathlib.Omega.{arith}
use lib.ListN.{get_or, length, drop, length-append}
use lib.Dec.{eqb, leb}
use borrow.Author.Tests.{eq-eqb, eqb-true, leb-true}
use mir.Syntax.{w8}
use mir.Val.{Fits}
use Rattle.format.specs.Tables.{pick}
use Rattle.format.specs.Messages as messages
use Rattle.format.specs.Messages.{e1, part_met}
use Rattle.format.specs.Layout.{byte, counted, dword, encode_all, encode_file_entry, encode_hash, encode_hash_blocks, encode_part_e1, encode_part_met, encode_tag, encode_tags, word}
use Rattle.format.specs.Rules.{All, Bytes, Dword, ValidBlockHash, ValidHash, ValidHashBlocks, ValidTag, spec_block_count, met_ceiling, spec_part_count}
use Rattle.format.specs.Decoding.{Check, Decoder, Outcome, bytes_at, decode_many, decode_run, got, refused}
use Rattle.format.specs.Order.{decode_hash, decode_tag}
use Rattle.format.specs.PartTagOrder.{spec_check_part_tags}
use Rattle.format.specs.MetOrder.{decode_hash_blocks}
use Rattle.format.specs.Writing.{Written}
use Rattle.format.proofs.PartTags.{both_true, no_true}
use Rattle.format.proofs.Codec.{anywhere, bytes-append, bytes-little_endian, bytes-part, Codec, codec-run, length-little_endian, never}
use Rattle.format.proofs.Items.{codec-hash, codec-tag}
use Rattle.format.proofs.Many.{ends-items}
use Rattle.format.proofs.Writing.{hash-needed, many-lies, NeedsByte, run-needed, tag-needed}
use Rattle.wire.specs.declared.Items.{Items}
use Rattle.wire.specs.WireAnswers.{hash_at, items_in}
use Rattle.wire.proofs.Replies.{slice-bytes}
use Rattle.met.specs.declared.HashBlocks.{HashBlocks}
use Rattle.met.specs.declared.PartE1.{PartE1}
use Rattle.met.specs.declared.PartMet.{PartMet}
use Rattle.met.specs.MetAnswers.{blocks_in, part_e1_in, part_met_in}
use Rattle.write_items.specs.There.{both_there, items_there}
use Rattle.format.specs.RoundTrip.{WritesAt}
use Rattle.write_items.proofs.There.{then-there}
use Rattle.write_items.proofs.Answers.{Promised, Ready, promised, writes-ready}
use Rattle.write_items.proofs.Listed.{items-bytes}
use Rattle.write_met.proofs.Lists.{Here, hash-valid, list-here}
use Rattle.write_part.specs.declared.Area.{Area}
use Rattle.write_part.specs.PartWrites.{blocks_there, part_e1_there, part_there}
use Rattle.write_part.specs.BlockSteps.{E1Meaning, after_tags, allowed, area_bytes, spec_area_size, spec_blocks_number, e1_bytes, e1_head, spec_e1_number}
use Rattle.write_part.proofs.AreaBytes.{area_sized, at_mark}
use Rattle.write_part.proofs.Blocks.{followed, outcome_number}
use Rattle.write_part.proofs.E1.{e1-judged}
use Rattle.std.specs.Prelude.{Ok}

both-there : (first second : Outcome (Unit {0})) {next : ℕ} → got tt next ≡ both_there first second → (n : ℕ) × ((got tt n ≡ first) × (got tt next ≡ second))
both-there (refused f) second e = absurd (never (sym e))
both-there (got u n) second e = (n, (refl, e))

-- What the writer owes, once the tags are found to have t bytes and the blocks to have this area.
abbrev pub E1Ready : List ℕ → PartE1 → (t : ℕ) → Area → Type 0
E1Ready s m t a =
    Ready (WritesAt part_met (part_e1_there s m) (e1 (part_e1_in s m)))
    (spec_e1_number (26 + t + spec_area_size a) (spec_check_part_tags (items_in decode_tag s m.tags)) (spec_blocks_number s m.blocks a))
    (e1_bytes s m t a) (26 + t + spec_area_size a)

module _ (s : List ℕ) (known : (i : ℕ) → Fits w8 (get_or s i 0)) where
  items-valid : {A : Type 0} {d : Decoder A} {encode : A → List ℕ} {Valid : A → Type 0} → Codec anywhere d encode Valid → NeedsByte d → (l : Items) {next : ℕ} →
      got tt next ≡ items_there d s l → (length (items_in d s l) ≡ l.count) × All Valid (items_in d s l)
  items-valid {d = d} L needed l {next} e =
      (many-lies L needed s (slice-bytes s known) l.at l.count (sym (ends-items (decode_many l.count d s l.at) next (sym e)))).valid

  parts-valid : (l : Items) {next : ℕ} → got tt next ≡ items_there decode_hash s l → (length (items_in decode_hash s l) ≡ l.count) × All ValidHash (items_in decode_hash s l)
  parts-valid l e = items-valid codec-hash hash-needed l e

  blocks-valid : (l : Items) {next : ℕ} → got tt next ≡ items_there (decode_run 8) s l →
      (length (items_in (decode_run 8) s l) ≡ l.count) × All ValidBlockHash (items_in (decode_run 8) s l)
  blocks-valid l e = items-valid (codec-run 8) (run-needed 8) l e

  -- The test on the counts is the rule.
  allowed-valid : (size : ℕ) (b : HashBlocks) {next : ℕ} → got tt next ≡ blocks_there s b → allowed size b ≡ true → ValidHashBlocks size (blocks_in s b)
  unfolding ValidHashBlocks
  allowed-valid size HashBlocks.Nothing e t = tt
  allowed-valid size (HashBlocks.Parts l) e t = let v = parts-valid l e in (v.0 ∙ eqb-true _ _ t, v.1)
  allowed-valid size (HashBlocks.Blocks k) e t = no_true t
  allowed-valid size (HashBlocks.Both l k) e t =
      let h = both-there (items_there decode_hash s l) (items_there (decode_run 8) s k) e in
      let v = parts-valid l h.1.0 in
      let w = blocks-valid k h.1.1 in
      let q = both_true (eqb l.count (spec_part_count size)) (eqb k.count (spec_block_count size)) t in
      ((v.0 ∙ eqb-true _ _ q.0, v.1), (w.0 ∙ eqb-true _ _ q.1, w.1))

  valid-allowed : (size : ℕ) (b : HashBlocks) {next : ℕ} → got tt next ≡ blocks_there s b → ValidHashBlocks size (blocks_in s b) → allowed size b ≡ true
  unfolding ValidHashBlocks
  valid-allowed size HashBlocks.Nothing e h = refl
  valid-allowed size (HashBlocks.Parts l) e h = eq-eqb _ _ (sym (parts-valid l e).0 ∙ h.0)
  valid-allowed size (HashBlocks.Blocks k) e h = absurd h
  valid-allowed size (HashBlocks.Both l k) e h =
      let q = both-there (items_there decode_hash s l) (items_there (decode_run 8) s k) e in
      rw (eq-eqb _ _ (sym (parts-valid l q.1.0).0 ∙ h.0.0), eq-eqb _ _ (sym (blocks-valid k q.1.1).0 ∙ h.1.0)) refl

  -- Blocks that are not allowed open with a mark.
  opens : (size : ℕ) (b : HashBlocks) → allowed size b ≡ false → (get_or (encode_hash_blocks (blocks_in s b)) 0 0 ≡ 1) × (1 ≤ length (encode_hash_blocks (blocks_in s b)))
  unfolding encode_hash_blocks
  opens size HashBlocks.Nothing e = absurd (no_true (sym e))
  opens size (HashBlocks.Parts l) e = (sym (at_mark _ 0 refl), simp (length-append, length-little_endian) (omega arith))
  opens size (HashBlocks.Blocks k) e = (sym (at_mark _ 0 refl), simp (length-append, length-little_endian) (omega arith))
  opens size (HashBlocks.Both l k) e = (sym (at_mark _ 0 refl), simp (length-append, length-little_endian) (omega arith))

  blocks-bytes : (b : HashBlocks) → Bytes (encode_hash_blocks (blocks_in s b))
  unfolding encode_hash_blocks
  blocks-bytes HashBlocks.Nothing = bytes-little_endian 1 0
  blocks-bytes (HashBlocks.Parts l) =
      let parts = encode_all encode_hash (items_in decode_hash s l) in
      bytes-append (byte 1) (parts ++ byte 0) (bytes-little_endian 1 1) (bytes-append parts (byte 0) (items-bytes codec-hash hash-needed s (slice-bytes s known) l) (bytes-little_endian 1 0))
  blocks-bytes (HashBlocks.Blocks k) =
      let blocks = encode_all encode_hash (items_in (decode_run 8) s k) in
      bytes-append (byte 1) (blocks ++ byte 0) (bytes-little_endian 1 1) (bytes-append blocks (byte 0) (items-bytes (codec-run 8) (run-needed 8) s (slice-bytes s known) k) (bytes-little_endian 1 0))
  blocks-bytes (HashBlocks.Both l k) =
      let parts = encode_all encode_hash (items_in decode_hash s l) in
      let blocks = encode_all encode_hash (items_in (decode_run 8) s k) in
      bytes-append (byte 1) (parts ++ (byte 1 ++ (blocks ++ byte 0))) (bytes-little_endian 1 1)
      (bytes-append parts (byte 1 ++ (blocks ++ byte 0)) (items-bytes codec-hash hash-needed s (slice-bytes s known) l)
      (bytes-append (byte 1) (blocks ++ byte 0) (bytes-little_endian 1 1) (bytes-append blocks (byte 0) (items-bytes (codec-run 8) (run-needed 8) s (slice-bytes s known) k) (bytes-little_endian 1 0))))

  tags-bytes : (l : Items) → Bytes (encode_tags (items_in decode_tag s l))
  unfolding encode_tags
  tags-bytes l =
      bytes-append (dword (length (items_in decode_tag s l))) _ (bytes-little_endian 4 (length (items_in decode_tag s l))) (items-bytes codec-tag tag-needed s (slice-bytes s known) l)

  part-encoding : (m : PartMet) → Bytes (encode_part_met (part_met_in s m))
  unfolding encode_part_met encode_part_e1 encode_file_entry
  part-encoding (PartMet.E0 e) =
      bytes-append (byte 0xE0) _ (bytes-little_endian 1 0xE0)
      (bytes-append (dword e.date) _ (bytes-little_endian 4 e.date)
      (bytes-append (hash_at s e.hash) _ (bytes-part s (slice-bytes s known) e.hash 16)
      (bytes-append (counted word encode_hash (items_in decode_hash s e.parts)) _
      (bytes-append (word (length (items_in decode_hash s e.parts))) _ (bytes-little_endian 2 (length (items_in decode_hash s e.parts))) (items-bytes codec-hash hash-needed s (slice-bytes s known) e.parts))
      (tags-bytes e.tags))))
  part-encoding (PartMet.E1 m) =
      bytes-append (byte 0xE1) _ (bytes-little_endian 1 0xE1)
      (bytes-append (byte 0x02) _ (bytes-little_endian 1 0x02)
      (bytes-append (dword m.date) _ (bytes-little_endian 4 m.date)
      (bytes-append (hash_at s m.hash) _ (bytes-part s (slice-bytes s known) m.hash 16)
      (bytes-append (encode_tags (items_in decode_tag s m.tags)) _ (tags-bytes m.tags) (blocks-bytes m.blocks)))))

  -- both promises of the writer
  pub part_promises : (m : PartMet) {output : List ℕ} {w : Written} → WritesAt part_met (part_there s m) (part_met_in s m) output w →
      Promised part_met (part_there s m) (part_met_in s m) output w
  part_promises m = promised (λ _. part-encoding m)

  module _ (m : PartE1) (t : ℕ) (a : Area) (h : E1Meaning s m (Ok (t, a))) where
    tags-here : Here encode_tag ValidTag s m.tags (items_in decode_tag s m.tags) t
    tags-here = list-here codec-tag tag-needed s known m.tags h.1.0

    pub tags-size : length (bytes_at s m.tags.at t) ≡ t
    tags-size = ap length tags-here.bytes ∙ tags-here.size

    pub head-size : length (e1_head s m) ≡ 22
    head-size = simp (length-append, length-little_endian) (omega (arith, (hash-valid s known m.hash h.0).0))

    e1-bytes : e1_bytes s m t a ≡ encode_part_met (e1 (part_e1_in s m))
    unfolding encode_part_met encode_part_e1 encode_tags
    e1-bytes = rw (tags-here.bytes, tags-here.count, h.1.1.bytes) (simp append_assoc)

    e1-size : length (encode_part_met (e1 (part_e1_in s m))) ≡ 26 + t + spec_area_size a
    e1-size =
        ap length (sym e1-bytes)
        ∙ length-append (e1_head s m ++ (dword m.tags.count ++ bytes_at s m.tags.at t)) (area_bytes s a)
        ∙ omega (
          arith,
          area_sized s a h.1.1.lies,
          length-append (e1_head s m) (dword m.tags.count ++ bytes_at s m.tags.at t),
          head-size,
          length-append (dword m.tags.count) (bytes_at s m.tags.at t),
          length-little_endian 4 m.tags.count,
          tags-size,
        )

    -- the blocks that are not allowed are followed as the reader does
    decided : (size : ℕ) → (t : Bool) → allowed size m.blocks ≡ t →
        ValidHashBlocks size (blocks_in s m.blocks) ⊎ ((ValidHashBlocks size (blocks_in s m.blocks) → ⊥) × ((x : List ℕ) (at : ℕ) → drop at x ≡ encode_hash_blocks (blocks_in s m.blocks) →
        at ≤ length x → spec_blocks_number s m.blocks a size ≡ outcome_number x (decode_hash_blocks size x at)))
    unfolding spec_blocks_number
    decided size true q = inl (allowed-valid size m.blocks h.1.1.here q)
    decided size false q =
        inr (
          λ v. no_true (sym q ∙ valid-allowed size m.blocks h.1.1.here v),
          λ x at e i.
              let o = opens size m.blocks q in
              rw (q, h.1.1.bytes) (followed size x at (encode_hash_blocks (blocks_in s m.blocks)) e i o.0 o.1),
        )

    right : (size : ℕ) → ValidHashBlocks size (blocks_in s m.blocks) → spec_blocks_number s m.blocks a size ≡ 0
    unfolding spec_blocks_number
    right size v = rw (valid-allowed size m.blocks h.1.1.here v) refl

    pub e1-ready : Dword m.date → Dword m.tags.count → E1Ready s m t a
    e1-ready hd ht =
        let judged = e1-judged (part_e1_in s m) hd (hash-valid s known m.hash h.0) (rw tags-here.count ht, tags-here.all) (part-encoding (PartMet.E1 m))
        (spec_blocks_number s m.blocks a) right (λ size. decided size (allowed size m.blocks) refl) e1-size in
        writes-ready (then-there h.0 (then-there h.1.0 h.1.1.here)) judged e1-bytes (ap length e1-bytes ∙ e1-size)

pub e1-fits : (size : ℕ) (check : Check (ℕ × List messages.Tag)) (blocks : ℕ → ℕ) → 0 ≡ spec_e1_number size check blocks → size ≤ met_ceiling
unfolding spec_e1_number
e1-fits size check blocks e = go (leb size met_ceiling) refl e
  where
    go : (t : Bool) → leb size met_ceiling ≡ t → ◌≡◌ {A = ℕ} 0 (pick t (after_tags check blocks) 6) → size ≤ met_ceiling
    go true q z = leb-true size met_ceiling q
    go false q z = absurd (omega arith)
