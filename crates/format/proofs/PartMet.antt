-- The law of part.met.
use mathlib.Core.Path.{◌≡◌, refl, sym, ap, subst}
use mathlib.Core.Logic.{◌↔◌}
use mathlib.Core.List.{List, [], ◌∷◌, ◌++◌}
use Prim.Native.Nat.{ℕ, ◌-◌, ◌*◌, ◌≤◌}
use native.Mathlib.Omega.{arith}
use lib.ListN.{length}
use Rattle.format.specs.Gaps.{Ordered}
use Rattle.format.specs.Messages.{FileEntry, PartE1, PartMet, Tag, e0, e1}
use Rattle.format.specs.Layout.{encode_file_entry, encode_part_e1, encode_part_met, encode_tags, little_endian}
use Rattle.format.specs.Rules.{All, Dword, SizeIs, ValidHashBlocks, ValidPartE0, ValidPartE1, ValidPartMet, ValidPartTags, ValidTag, ValidTags, spec_block_count, spec_part_count, size_tag}
use Rattle.format.specs.Decoding.{Check, Decoder, Rule, and_then, checked_whole, got, passes, pure}
use Rattle.format.specs.GapTags.{gaps_of}
use Rattle.format.specs.PartTagOrder.{spec_check_part_tags, sizes}
use Rattle.format.specs.MetOrder.{Edition, edition_code, decode_edition, decode_part_body, decode_part_e0, decode_part_e1, decode_part_met, decode_part_tags, is_e0, is_e1}
use Rattle.format.proofs.Codec.{Place, anywhere, Codec, Found, moved, went, settled-got, codec-pair, codec-after, codec-map, codec-cases, codec-listed, regroup, same, recast, codec-counted, codec-word, codec-dword}
use Rattle.format.proofs.Items.{codec-fixed, codec-hash, codec-tags}
use Rattle.format.proofs.MetFiles.{codec-blocks}
use Rattle.format.proofs.PartTags.{size-sizes, check-means, means-check, gaps-ordered}

-- An item that is checked as a whole.
pub codec-whole : {p : Place} {A B : Type 0} {r : Decoder A} {encode : A → List ℕ} {Valid : A → Type 0} (check : A → Check B) (from : B → A) (Valid' : B → Type 0) →
    ((a : A) (b : B) → Valid a → check a ≡ passes b → (from b ≡ a) × Valid' b) → ((b : B) → Valid' b → Valid (from b) × (check (from b) ≡ passes b)) →
    Codec p r encode Valid → Codec p (checked_whole check r) (λ b. encode (from b)) Valid'
codec-whole {p} {A} {B} {r} {encode} {Valid} check from Valid' there back L = record {
  sound = λ s hb at i b next e z.
      let w = went s (r s at) e in
      let j = settled-got at (w.mid - at) (check w.first) w.mid w.then in
      let f = L.sound s hb at i w.first w.mid w.was (rw j.1 z) in
      let t = there w.first b f.valid j.0 in
      moved (Found (λ b. encode (from b)) Valid' s at) (ap (λ n. got b n) j.1) (record { bytes = rw t.0 f.bytes; inside = f.inside; valid = t.1 });
  complete = λ s at b rest h e i z. rw (L.complete s at (from b) rest (back b h).0 e i z, (back b h).1);
}

codec-part_tags : {p : Place} → Codec p decode_part_tags (λ c. encode_tags c.1) (λ c. ValidTags c.1 × ValidPartTags c.0 c.1)
unfolding decode_part_tags
codec-part_tags = codec-whole spec_check_part_tags (λ c. c.1) (λ c. ValidTags c.1 × ValidPartTags c.0 c.1)
    (λ tags c h e. let m = check-means tags c e in
    (m.0, (rw m.0 h, record { one = rw m.0 m.1.0; gaps = rw m.0 m.1.1 })))
    (λ c h. (h.0, means-check c.1 c.0 h.1.one h.1.gaps))
    codec-tags

-- The size of lawful tags, by computation.
abbrev head_or : List ℕ → ℕ
head_or [] = 0
head_or (n ∷ l) = n

abbrev size_of : List Tag → ℕ
size_of tags = head_or (sizes tags)

size-of : (size : ℕ) (tags : List Tag) → ValidPartTags size tags → size_of tags ≡ size
size-of size tags h = ap head_or (size-sizes size tags h.one)

-- E0
codec-e0 : {p : Place} → Codec p decode_part_e0 encode_file_entry ValidPartE0
unfolding decode_part_e0 encode_file_entry
codec-e0 = same (λ s at. simp regroup)
    (codec-map (λ c. record { date = c.0; hash = c.1.0; parts = c.1.1.0; tags = c.1.1.1.1 }) (λ e. (e.date, (e.hash, (e.parts, (size_of e.tags, e.tags))))) ValidPartE0
    (λ c h. (
      ap (λ n. (c.0, (c.1.0, (c.1.1.0, (n, c.1.1.1.1))))) (size-of _ _ h.1.1.1.1),
      record { entry = record { date = h.0; hash = h.1.0; parts = h.1.1.0; tags = h.1.1.1.0 }; size = c.1.1.1.0; sized = h.1.1.1.1 },
    ))
    (λ e h. let k = h.entry in
    ((k.date, (k.hash, (k.parts, (k.tags, subst (λ n. ValidPartTags n e.tags) (sym (size-of h.size e.tags h.sized)) h.sized)))), refl))
    (codec-pair codec-dword (codec-pair codec-hash (codec-pair (codec-counted codec-word codec-hash) codec-part_tags))))

-- E1
codec-e1 : {p : Place} → Codec p decode_part_e1 encode_part_e1 ValidPartE1
unfolding decode_part_e1 encode_part_e1
codec-e1 = same (λ s at. simp regroup)
    (codec-map (λ c. record { date = c.1.0; hash = c.1.1.0; tags = c.1.1.1.0.1; blocks = c.1.1.1.1 })
    (λ m. (tt, (m.date, (m.hash, ((size_of m.tags, m.tags), m.blocks))))) ValidPartE1
    (λ c h. (
      ap (λ n. (tt, (c.1.0, (c.1.1.0, ((n, c.1.1.1.0.1), c.1.1.1.1))))) (size-of _ _ h.1.1.1.0.1),
      record { date = h.1.0; hash = h.1.1.0; tags = h.1.1.1.0.0; size = c.1.1.1.0.0; sized = h.1.1.1.0.1; blocks = h.1.1.1.1 },
    ))
    (λ m h. let n = sym (size-of h.size m.tags h.sized) in
    ((tt, (h.date, (h.hash, ((h.tags, subst (λ n. ValidPartTags n m.tags) n h.sized), subst (λ n. ValidHashBlocks n m.blocks) n h.blocks)))), refl))
    (codec-pair (codec-fixed 0x02 (omega arith)) (codec-pair codec-dword (codec-pair codec-hash (codec-after codec-part_tags (λ c. codec-blocks c.0))))))

-- The opening byte and what it announces.
codec-edition : Codec anywhere decode_edition (λ k. little_endian 1 (edition_code k)) (λ _. Unit {0})
unfolding decode_edition
codec-edition = codec-listed Rule.opening edition_code (is_e0 ∷ is_e1 ∷ []) (elim [ is_e0 ↦ (refl, omega arith) | is_e1 ↦ (refl, omega arith) ])

abbrev Body : Edition → Type 0
Body is_e0 = FileEntry
Body is_e1 = PartE1

abbrev made : (k : Edition) → Body k → PartMet
made is_e0 e = e0 e
made is_e1 m = e1 m

abbrev apart : PartMet → (k : Edition) × Body k
apart (e0 e) = (is_e0, e)
apart (e1 m) = (is_e1, m)

together : (m : PartMet) → made (apart m).0 (apart m).1 ≡ m
together (e0 e) = refl
together (e1 m) = refl

back : (k : Edition) (v : Body k) → apart (made k v) ≡ (k, v)
back is_e0 v = refl
back is_e1 v = refl

abbrev body : (k : Edition) → Decoder (Body k)
body is_e0 = decode_part_e0
body is_e1 = decode_part_e1

abbrev encode_body : (k : Edition) → Body k → List ℕ
encode_body is_e0 e = encode_file_entry e
encode_body is_e1 m = encode_part_e1 m

abbrev ValidBody : (k : Edition) → Body k → Type 0
ValidBody is_e0 e = ValidPartE0 e
ValidBody is_e1 m = ValidPartE1 m

body-decodes : (k : Edition) (s : List ℕ) (at : ℕ) → decode_part_body k s at ≡ and_then s (body k s at) (λ v. pure (made k v))
body-decodes is_e0 s at = refl
body-decodes is_e1 s at = refl

codec-body : {p : Place} (k : Edition) → Codec p (body k) (encode_body k) (ValidBody k)
codec-body is_e0 = codec-e0
codec-body is_e1 = codec-e1

part_bytes : (m : PartMet) → encode_part_met m ≡ little_endian 1 (edition_code (apart m).0) ++ encode_body (apart m).0 (apart m).1
unfolding encode_part_met
part_bytes (e0 e) = refl
part_bytes (e1 m) = refl

part-rules : (m : PartMet) → ValidPartMet m ↔ (Unit {0} × ValidBody (apart m).0 (apart m).1)
unfolding ValidPartMet
part-rules (e0 e) = (λ h. (tt, h), λ h. h.1)
part-rules (e1 m) = (λ h. (tt, h), λ h. h.1)

pub codec-part : {p : Place} → Codec p decode_part_met encode_part_met ValidPartMet
unfolding decode_part_met
codec-part = recast part_bytes part-rules (codec-cases made apart together back body-decodes codec-edition codec-body)

-- The size is a DWORD, and the gaps are lawful for it.
last_of : {A : Type 0} (P : A → Type 0) (k l : List A) (a : A) → All P (k ++ (a ∷ l)) → P a
last_of P [] l a h = h.0
last_of P (b ∷ k) l a h = last_of P k l a h.1

pub size-dword : (size : ℕ) (tags : List Tag) → ValidTags tags → SizeIs size tags → Dword size
size-dword size tags k h = (last_of ValidTag h.before h.after (size_tag size) (subst (λ l. All ValidTag l) h.here k.1)).value

pub size-gaps : (size : ℕ) (tags : List Tag) → ValidTags tags → ValidPartTags size tags → (size ≤ 4294967295) × ((length (gaps_of tags) ≤ 64) × Ordered size 0 (gaps_of tags))
size-gaps size tags k h = let g = gaps-ordered size tags h.gaps in (omega (arith, size-dword size tags k h.one), (g.1, g.0))

-- One for each started part, one for each started block.
pub parts-started : (size n : ℕ) → (spec_part_count size ≤ n) ↔ (size ≤ n * 9728000)
parts-started size n = (λ h. omega arith, λ h. omega arith)

pub blocks-started : (size n : ℕ) → (spec_block_count size ≤ n) ↔ (size ≤ n * 486400)
blocks-started size n = (λ h. omega arith, λ h. omega arith)
