-- The law of each met file.
use mathlib.Core.Path.{◌≡◌, refl, sym, ◌∙◌}
use mathlib.Core.Logic.{inl, inr}
use mathlib.Core.List.{List, [], ◌∷◌, ◌++◌}
use Prim.Native.Nat.{ℕ, ◌+◌}
use native.Mathlib.Omega.{arith}
use lib.ListN.{length}
use Rattle.format.specs.Tables.{OneOf}
use Rattle.format.specs.Messages.{HashBlocks, no_blocks, part_block, block_block, both_blocks}
use Rattle.format.specs.Layout.{encode_all, encode_file_entry, encode_hash, encode_hash_blocks, encode_known_met, encode_server_entry, encode_server_met, little_endian}
use Rattle.format.specs.Rules.{All, Byte, ValidBlockHash, ValidFileEntry, ValidHash, ValidHashBlocks, ValidKnownMet, ValidServerEntry, ValidServerMet, spec_block_count, met_openings, spec_part_count}
use Rattle.format.specs.Decoding.{Decoder, ◌>>=◌, and_then, decode_many, decode_run, pure}
use Rattle.format.specs.Order.{decode_code, decode_fixed, decode_hash}
use Rattle.format.specs.PacketOrder.{both}
use Rattle.format.specs.MetOrder.{Mark, mark_code, decode_file_entry, decode_first_block, decode_hash_blocks, decode_known_met, decode_second_block, decode_server_entry, decode_server_met, marks, more, stop}
use Rattle.format.proofs.Codec.{Place, at_end, Codec, codec-run, codec-tail, codec-pure, codec-after, codec-cases_valid, codec-pair, codec-via, regroup, and_then-same, same, recast, codec-counted, codec-many, codec-word, codec-dword, codec-table}
use Rattle.format.proofs.Items.{codec-fixed, codec-hash, codec-tags}
use Rattle.format.proofs.Packets.{codec-opening}

-- An opening byte of a met file is a byte.
met-byte : (b : ℕ) → OneOf met_openings b → Byte b
met-byte b (inl e) = omega arith
met-byte b (inr h) = absurd h

pub codec-entry : {p : Place} → Codec p decode_file_entry encode_file_entry ValidFileEntry
unfolding decode_file_entry encode_file_entry
codec-entry = same (λ s at. simp regroup) (recast (λ _. refl)
    (λ e. (λ h. (h.date, (h.hash, (h.parts, h.tags))), λ h. record { date = h.0; hash = h.1.0; parts = h.1.1.0; tags = h.1.1.1 }))
    (codec-via (λ c. record { date = c.0; hash = c.1.0; parts = c.1.1.0; tags = c.1.1.1 }) (λ e. (e.date, (e.hash, (e.parts, e.tags)))) (λ _. refl) (λ _ _. refl)
    (codec-pair codec-dword (codec-pair codec-hash (codec-pair (codec-counted codec-word codec-hash) codec-tags)))))

pub codec-known : Codec at_end decode_known_met encode_known_met ValidKnownMet
unfolding decode_known_met encode_known_met
codec-known = same (λ s at. simp regroup) (recast (λ _. refl)
    (λ m. (λ h. ((met-byte _ h.opening, h.opening), h.entries), λ h. record { opening = h.0.1; entries = h.1 }))
    (codec-via (λ c. record { opening = c.0; entries = c.1 }) (λ k. (k.opening, k.entries)) (λ _. refl) (λ _ _. refl)
    (codec-pair (codec-opening met_openings) (codec-counted codec-dword codec-entry))))

-- server.met
pub codec-server : {p : Place} → Codec p decode_server_entry encode_server_entry ValidServerEntry
unfolding decode_server_entry encode_server_entry
codec-server = same (λ s at. simp regroup) (recast (λ _. refl)
    (λ e. (λ h. (h.ip, (h.port, h.tags)), λ h. record { ip = h.0; port = h.1.0; tags = h.1.1 }))
    (codec-via (λ c. record { ip = c.0; port = c.1.0; tags = c.1.1 }) (λ e. (e.ip, (e.port, e.tags))) (λ _. refl) (λ _ _. refl)
    (codec-pair codec-dword (codec-pair codec-word codec-tags))))

pub codec-servers : Codec at_end decode_server_met encode_server_met ValidServerMet
unfolding decode_server_met encode_server_met
codec-servers = same (λ s at. simp regroup) (recast (λ _. refl)
    (λ m. (λ h. ((met-byte _ h.opening, h.opening), (h.entries, h.tail)), λ h. record { opening = h.0.1; entries = h.1.0; tail = h.1.1 }))
    (codec-via (λ c. record { opening = c.0; entries = c.1.0; tail = c.1.1 }) (λ m. (m.opening, (m.entries, m.tail))) (λ _. refl) (λ _ _. refl)
    (codec-pair (codec-opening met_openings) (codec-pair (codec-counted codec-dword codec-server) codec-tail))))

-- The blocks of a part.met E1
codec-mark : {p : Place} → Codec p (decode_code marks) (λ m. little_endian 1 (mark_code m)) (λ _. Unit {0})
codec-mark = codec-table mark_code (stop ∷ more ∷ []) (elim [ stop ↦ (refl, omega arith) | more ↦ (refl, omega arith) ])

abbrev Second : Mark → Type 0
Second stop = Unit {0}
Second more = List (List ℕ) × Unit {0}

abbrev First : Mark → Type 0
First stop = Unit {0}
First more = List (List ℕ) × ((m : Mark) × Second m)

abbrev second : ℕ → (m : Mark) → Decoder (Second m)
second size stop = pure tt
second size more = both (decode_many (spec_block_count size) (decode_run 8)) (decode_fixed 0)

abbrev first : ℕ → (m : Mark) → Decoder (First m)
first size stop = pure tt
first size more = decode_many (spec_part_count size) decode_hash >>= (λ l. (decode_code marks >>= (λ m. second size m >>= (λ v. pure {A = (m : Mark) × Second m} (m, v)))) >>= (λ b. pure (l, b)))

abbrev ended : List (List ℕ) → (m : Mark) → Second m → HashBlocks
ended l stop v = part_block l
ended l more v = both_blocks l v.0

abbrev made : (m : Mark) → First m → HashBlocks
made stop v = no_blocks
made more v = ended v.0 v.1.0 v.1.1

-- Block hashes alone are laid out as part hashes alone are.
abbrev apart : HashBlocks → (m : Mark) × First m
apart no_blocks = (stop, tt)
apart (part_block l) = (more, (l, (stop, tt)))
apart (block_block k) = (more, (k, (stop, tt)))
apart (both_blocks l k) = (more, (l, (more, (k, tt))))

second-decodes : (size : ℕ) (l : List (List ℕ)) (m : Mark) (s : List ℕ) (at : ℕ) → decode_second_block size l m s at ≡ and_then s (second size m s at) (λ v. pure (ended l m v))
second-decodes size l stop s at = refl
second-decodes size l more s at = simp regroup

first-decodes : (size : ℕ) (m : Mark) (s : List ℕ) (at : ℕ) → decode_first_block size m s at ≡ and_then s (first size m s at) (λ v. pure (made m v))
first-decodes size stop s at = refl
first-decodes size more s at =
    let q : and_then s (first size more s at) (λ v. pure (made more v)) ≡
    and_then s (decode_many (spec_part_count size) decode_hash s at) (λ l s at. and_then s (decode_code marks s at) (λ m s at. and_then s (second size m s at) (λ v. pure (ended l m v)))) = simp regroup in
    and_then-same s (decode_many (spec_part_count size) decode_hash s at) (λ l s at. and_then s (decode_code marks s at) (λ m. decode_second_block size l m)) _
    (λ l at. and_then-same s (decode_code marks s at) (λ m. decode_second_block size l m) (λ m s at. and_then s (second size m s at) (λ v. pure (ended l m v))) (λ m at. second-decodes size l m s at)) ∙ sym q

abbrev encode_second : (m : Mark) → Second m → List ℕ
encode_second stop v = []
encode_second more v = encode_all encode_hash v.0 ++ little_endian 1 0

abbrev encode_first : (m : Mark) → First m → List ℕ
encode_first stop v = []
encode_first more v = encode_all encode_hash v.0 ++ (little_endian 1 (mark_code v.1.0) ++ encode_second v.1.0 v.1.1)

abbrev ValidSecond : ℕ → (m : Mark) → Second m → Type 0
ValidSecond size stop v = Unit {0}
ValidSecond size more v = ((length v.0 ≡ spec_block_count size) × All ValidBlockHash v.0) × Unit {0}

abbrev ValidFirst : ℕ → (m : Mark) → First m → Type 0
ValidFirst size stop v = Unit {0}
ValidFirst size more v = ((length v.0 ≡ spec_part_count size) × All ValidHash v.0) × (Unit {0} × ValidSecond size v.1.0 v.1.1)

codec-second : {p : Place} (size : ℕ) (m : Mark) → Codec p (second size m) (encode_second m) (ValidSecond size m)
codec-second size stop = codec-pure
codec-second size more = codec-pair (codec-many (spec_block_count size) (codec-run 8)) (codec-fixed 0 (omega arith))

codec-first : {p : Place} (size : ℕ) (m : Mark) → Codec p (first size m) (encode_first m) (ValidFirst size m)
codec-first size stop = codec-pure
codec-first size more = codec-pair (codec-many (spec_part_count size) codec-hash) (codec-after codec-mark (codec-second size))

blocks-bytes : (b : HashBlocks) → encode_hash_blocks b ≡ little_endian 1 (mark_code (apart b).0) ++ encode_first (apart b).0 (apart b).1
unfolding encode_hash_blocks little_endian
blocks-bytes no_blocks = refl
blocks-bytes (part_block l) = refl
blocks-bytes (block_block k) = refl
blocks-bytes (both_blocks l k) = refl

first-valid : (size : ℕ) (m : Mark) (v : First m) → ValidFirst size m v → (apart (made m v) ≡ (m, v)) × ValidHashBlocks size (made m v)
unfolding ValidHashBlocks
first-valid size stop v h = (refl, tt)
first-valid size more v h = go v.0 v.1.0 v.1.1 h.0 h.1.1
  where
    go : (l : List (List ℕ)) (m : Mark) (w : Second m) → (length l ≡ spec_part_count size) × All ValidHash l → ValidSecond size m w →
        (apart (ended l m w) ≡ (more, (l, (m, w)))) × ValidHashBlocks size (ended l m w)
    go l stop w h k = (refl, h)
    go l more w h k = (refl, (h, k.0))

valid-first : (size : ℕ) (b : HashBlocks) → ValidHashBlocks size b → (Unit {0} × ValidFirst size (apart b).0 (apart b).1) × (made (apart b).0 (apart b).1 ≡ b)
unfolding ValidHashBlocks
valid-first size no_blocks h = ((tt, tt), refl)
valid-first size (part_block l) h = ((tt, (h, (tt, tt))), refl)
valid-first size (block_block k) h = absurd h
valid-first size (both_blocks l k) h = ((tt, (h.0, (tt, (h.1, tt)))), refl)

pub codec-blocks : {p : Place} (size : ℕ) → Codec p (decode_hash_blocks size) encode_hash_blocks (ValidHashBlocks size)
unfolding decode_hash_blocks
codec-blocks size = recast blocks-bytes (λ b. (λ h. h, λ h. h))
    (codec-cases_valid made apart (ValidHashBlocks size) (λ c h. first-valid size c.0 c.1 h.1) (valid-first size) (first-decodes size) codec-mark (codec-first size))
