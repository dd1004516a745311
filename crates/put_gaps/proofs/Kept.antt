-- The tags that stay, as the loops over a tag list find them.
use Prim.Native.Nat.{ℕ, ◌+◌, ◌-◌, ◌<◌, ◌≤◌}
use mathlib.Core.Path.{◌≡◌, refl, sym, ap, ◌∙◌}
use mathlib.Core.Bool.{true, false, not}
use mathlib.Core.Option.{Option, none, some}
use mathlib.Core.List.{List, [], ◌∷◌, ◌++◌, append-nil}
use native.Mathlib.Omega.{arith}
use lib.ListN.{length, drop, get_or, length-append, length-drop}
use lib.Seq.{take_at}
use borrow.Rule.Slice.PartMut.{mid_of, put_mid}
use lib.Dec.{eqb}
use Rattle.format.specs.Tables.{pick}
use Rattle.format.specs.Messages.{Tag}
use Rattle.format.specs.Layout.{encode_all, encode_tag}
use Rattle.format.specs.Rules.{Bytes}
use Rattle.format.specs.Decoding.{bytes_at, decode_many, ends, got, items_of}
use Rattle.format.specs.Order.{decode_byte, decode_code, decode_tag, decode_type}
use Rattle.format.specs.GapTags.{role, role_in, number_of}
use Rattle.format.specs.PutGaps.{is_plain, plain_tags}
use Rattle.format.specs.Writing.{overwritten}
use Rattle.format.proofs.There.{byte-ends}
use Rattle.format.proofs.Codec.{anywhere, went}
use Rattle.format.proofs.PartTags.{either-test}
use Rattle.format.proofs.Items.{codec-tag}
use Rattle.part_tags.proofs.Rest.{Reached, next-turn, rest, rest-none}
use Rattle.output.proofs.Loops.{WrittenSoFar, written_all, piece-room, written_next}
use Rattle.put_gaps.specs.Pieces.{kept_tags, spec_kept_bytes, plain_bytes}
use Rattle.put_gaps.proofs.Pieces.{encode-append}

-- The first byte of a name decides.
named : (b : ℕ) (d : List ℕ) (v : Option ℕ) → is_plain (role_in (b ∷ d) v) ≡ pick (eqb b 0x09) false (not (eqb b 0x0A))
named b d none = either-test (eqb b 0x09) (λ e. rw e refl) (λ e. rw e (either-test (eqb b 0x0A) (λ f. rw f refl) (λ f. rw f refl)))
named b d (some n) = either-test (eqb b 0x09) (λ e. rw e refl) (λ e. rw e (either-test (eqb b 0x0A) (λ f. rw f refl) (λ f. rw f refl)))

module _ (t : Tag) (name : List ℕ) (e : name ≡ t.name) where
  pub plain_nameless : length name ≡ 0 → true ≡ is_plain (role t)
  unfolding role
  plain_nameless h = rw (← e) (go name h)
    where
      go : (name : List ℕ) → length name ≡ 0 → true ≡ is_plain (role_in name (number_of t.value.0 t.value.1))
      go [] h = refl
      go (b ∷ d) h = absurd (omega arith)

  pub plain-named : 0 < length name → is_plain (role t) ≡ pick (eqb (get_or name 0 0) 0x09) false (not (eqb (get_or name 0 0) 0x0A))
  unfolding role
  plain-named h = rw (← e) (go name h)
    where
      go : (name : List ℕ) → 0 < length name →
          is_plain (role_in name (number_of t.value.0 t.value.1)) ≡ pick (eqb (get_or name 0 0) 0x09) false (not (eqb (get_or name 0 0) 0x0A))
      go [] h = absurd (omega arith)
      go (b ∷ d) h = named b d (number_of t.value.0 t.value.1)

-- A tag that was decoded, and its bytes.
inside-tag : (s : List ℕ) (at : ℕ) {t : Tag} {p : ℕ} → decode_tag s at ≡ got t p → at < length s
unfolding decode_tag decode_type decode_code
inside-tag s at e =
    let type = went s (decode_type s at) e in
    let code = went s (decode_byte s at) type.was in
    omega (arith, (byte-ends s at code.was).0)

kept-one : (t : Tag) → length (kept_tags t) ≤ 1
kept-one t = either-test (is_plain (role t)) (λ q. rw q (omega arith)) (λ q. rw q (omega arith))

kept-short : (t : Tag) → length (encode_all encode_tag (kept_tags t)) ≤ length (encode_tag t)
kept-short t = either-test (is_plain (role t)) (λ q. rw (q, append-nil) (omega arith)) (λ q. rw q (omega arith))

module _ (s : List ℕ) (bytes : Bytes s) (at : ℕ) {t : Tag} {p : ℕ} (e : got t p ≡ decode_tag s at) where
  pub tag-place : (p ≡ at + length (encode_tag t)) × (p ≤ length s)
  tag-place =
      let h = inside-tag s at (sym e) in
      let f = (codec-tag {p = anywhere}).sound s bytes at (omega arith) t p (sym e) tt in
      (omega (arith, f.inside, ap length f.bytes, length-append (encode_tag t) (drop p s), length-drop at s, length-drop p s), f.inside)

  tag-bytes : bytes_at s at (p - at) ≡ encode_tag t
  tag-bytes =
      let h = inside-tag s at (sym e) in
      let f = (codec-tag {p = anywhere}).sound s bytes at (omega arith) t p (sym e) tt in
      rw f.bytes (take_at (encode_tag t) (drop p s) (p - at) (omega (arith, tag-place.0)))

  pub kept-bytes : spec_kept_bytes s t at p ≡ encode_all encode_tag (kept_tags t)
  kept-bytes = either-test (is_plain (role t)) (λ q. rw q (tag-bytes ∙ sym (append-nil (encode_tag t)))) (λ q. rw q refl)

  -- bytes that end before the tag and those of the tag that are kept end before the next
  pub kept-within : (n : ℕ) (kept : List ℕ) → n ≤ at → kept ≡ spec_kept_bytes s t at p → (n + length kept ≤ p) × (p ≤ length s)
  kept-within n kept h b = (omega (arith, ap length (b ∙ kept-bytes), kept-short t, tag-place.0), tag-place.1)

plain-cons : (t : Tag) (l : List Tag) → plain_tags (t ∷ l) ≡ kept_tags t ++ plain_tags l
unfolding plain_tags
plain-cons t l = either-test (is_plain (role t)) (λ q. rw q refl) (λ q. rw q refl)

plain_bytes-cons : (t : Tag) (l : List Tag) → plain_bytes (t ∷ l) ≡ encode_all encode_tag (kept_tags t) ++ plain_bytes l
unfolding plain_bytes
plain_bytes-cons t l = ap (encode_all encode_tag) (plain-cons t l) ∙ encode-append (kept_tags t) (plain_tags l)

length-plain : (t : Tag) (l : List Tag) → length (plain_tags (t ∷ l)) ≡ length (kept_tags t) + length (plain_tags l)
length-plain t l = ap length (plain-cons t l) ∙ length-append (kept_tags t) (plain_tags l)

length-plain_bytes : (t : Tag) (l : List Tag) → length (plain_bytes (t ∷ l)) ≡ length (encode_all encode_tag (kept_tags t)) + length (plain_bytes l)
length-plain_bytes t l = ap length (plain_bytes-cons t l) ∙ length-append (encode_all encode_tag (kept_tags t)) (plain_bytes l)

-- The tags that stay have not more bytes than all tags.
pub plain-short : (l : List Tag) → (length (plain_tags l) ≤ length l) × (length (plain_bytes l) ≤ length (encode_all encode_tag l))
unfolding plain_tags plain_bytes
plain-short [] = (omega arith, omega arith)
plain-short (t ∷ l) =
    let h = plain-short l in (
      omega (arith, h.0, kept-one t, length-plain t l),
      omega (arith, h.1, kept-short t, length-plain_bytes t l, length-append (encode_tag t) (encode_all encode_tag l)),
    )

-- A loop over the tags of a list, with i of n tags passed. It counts those that stay and adds up their bytes.
module _ (s : List ℕ) (n first : ℕ) where
  abbrev all : List Tag
  all = items_of (decode_many n decode_tag s first)

  pub record Measured (count bytes i at : ℕ) : Type 0 where
    pub reached : Reached decode_tag s n first i at
    pub counted : count + length (plain_tags (rest decode_tag s n i at)) ≡ length (plain_tags all)
    pub summed : bytes + length (plain_bytes (rest decode_tag s n i at)) ≡ length (plain_bytes all)
    pub few : count ≤ i
    pub short : bytes ≤ at

  pub measured-all : (count bytes i at : ℕ) → Measured count bytes i at → n ≤ i → (count ≡ length (plain_tags all)) × (bytes ≡ length (plain_bytes all))
  unfolding plain_tags plain_bytes
  measured-all count bytes i at m h =
      let z = rest-none decode_tag s n i at h in
      let k = ap (λ l. length (plain_tags l)) z in
      let b = ap (λ l. length (plain_bytes l)) z in
      (omega (arith, m.counted, k), omega (arith, m.summed, b))

  module _ (bytes_of : Bytes s) {end : ℕ} (placed : ends (decode_many n decode_tag s first) ≡ got tt end) where
    module _ (count bytes i at : ℕ) (h : i < n) (m : Measured count bytes i at) {t : Tag} {p : ℕ} (e : got t p ≡ decode_tag s at) where
      pub measured-next : (kept : List ℕ) → kept ≡ spec_kept_bytes s t at p → (k : ℕ) → k ≡ length (kept_tags t) →
          Measured (count + k) (bytes + length kept) (i + 1) p
      measured-next kept b k c =
          let later = rest decode_tag s n (i + 1) p in
          let turn = next-turn decode_tag s n first placed i at h m.reached e in
          let length-kept = ap length (b ∙ kept-bytes s bytes_of at e) in
          record {
            reached = turn.reached;
            counted = omega (arith, m.counted, ap (λ l. length (plain_tags l)) turn.next, length-plain t later);
            summed = omega (arith, m.summed, ap (λ l. length (plain_bytes l)) turn.next, length-plain_bytes t later);
            few = omega (arith, m.few, kept-one t);
            short = (kept-within s bytes_of at e bytes kept m.short b).0;
          }

  -- The loop that copies them.
  pub record Copied (old out : List ℕ) (wrote i at : ℕ) : Type 0 where
    pub reached : Reached decode_tag s n first i at
    pub written : WrittenSoFar (plain_bytes all) old out wrote (plain_bytes (rest decode_tag s n i at))

  pub copied_all : (old out : List ℕ) (wrote i at : ℕ) → Copied old out wrote i at → n ≤ i →
      (wrote ≡ length (plain_bytes all)) × (out ≡ overwritten (plain_bytes all) old)
  unfolding plain_tags plain_bytes
  copied_all old out wrote i at m h = written_all (plain_bytes all) old out wrote _ m.written (ap plain_bytes (rest-none decode_tag s n i at h))

  module _ (bytes_of : Bytes s) {end : ℕ} (placed : ends (decode_many n decode_tag s first) ≡ got tt end)
      (old out : List ℕ) (room : length (plain_bytes all) ≤ length old) (wrote i at : ℕ) (h : i < n) (m : Copied old out wrote i at)
      {t : Tag} {p : ℕ} (e : got t p ≡ decode_tag s at) (kept : List ℕ) (b : kept ≡ spec_kept_bytes s t at p) where
    abbrev later : List ℕ
    later = plain_bytes (rest decode_tag s n (i + 1) p)

    next : plain_bytes (rest decode_tag s n i at) ≡ kept ++ later
    next =
        ap plain_bytes (next-turn decode_tag s n first placed i at h m.reached e).next ∙ plain_bytes-cons t (rest decode_tag s n (i + 1) p) ∙
        ap (λ l. l ++ later) (sym (b ∙ kept-bytes s bytes_of at e))

    pub copied-room : wrote + length kept ≤ length (plain_bytes all)
    copied-room = piece-room (plain_bytes all) old room out wrote _ kept later m.written next

    pub copied_next : (new : List ℕ) → new ≡ overwritten kept (mid_of wrote (length out - wrote) out) →
        Copied old (put_mid wrote (length out - wrote) out new) (wrote + length kept) (i + 1) p
    copied_next new q = record {
      reached = (next-turn decode_tag s n first placed i at h m.reached e).reached;
      written = written_next (plain_bytes all) old room out wrote _ kept later m.written next new q;
    }
