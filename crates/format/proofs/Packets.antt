-- The law of each body and of each link.
use mathlib.Core.Path.{◌≡◌, refl, sym, ap, ◌∙◌, subst}
use mathlib.Core.Bool.{Bool, true, false}
use mathlib.Core.Option.{Option, none, some}
use mathlib.Core.Logic.{◌↔◌, ◌⊎◌, inl, inr}
use mathlib.Core.List.{List, [], ◌∷◌, ◌++◌}
use Prim.Native.Nat.{ℕ, ◌+◌, ◌-◌, ◌/◌, ◌≤◌}
use native.Mathlib.Omega.{arith}
use lib.ListN.{length, length-append}
use lib.Dec.{leb, eqb}
use borrow.Author.Tests.{le-leb, leb-true, eqb-true, eqb-false, eq-eqb, ne_eqb}
use Rattle.format.specs.Tables.{OneOf, one_of, lookup, keys, pick, rows}
use Rattle.format.specs.Bits.{spec_packed_bytes, pack_bits, bits_in, unused_clear}
use Rattle.format.specs.Messages.{Form, plain, extended, Link, Opcodes, Packet, Shape, Triple, Values, address_body, address_dword_body, addresses_body, dword_body, file_status_body, hash_address_tags_body, hash_addresses_body, hash_body, hash_text_body, hashset_body, hello_body, nothing_body, query_body, record_address_body, record_body, records_body, records_flag_body, request_parts_body, sending_part_body, status_body, status_request_body, text_body, two_dwords_body, two_texts_body}
use Rattle.format.specs.Layout.{encode_body, encode_extended_status, encode_file_status, encode_request_parts, encode_sending_part, encode_status_request, encode_tcp, encode_triple, encode_udp, encode_values, little_endian}
use Rattle.format.specs.Rules.{Byte, Bytes, Dword, ValidExtendedStatus, ValidFileStatus, ValidPacket, ValidRequestParts, ValidSendingPart, ValidStatusRequest, ValidTriple, ValidValues}
use Rattle.format.specs.Decoding.{Rule, ◌>>=◌, decode_tail, passes, pure, violates}
use Rattle.format.specs.PacketOrder.{both, check_bits, check_range, check_ranges, decode_bits, decode_body, decode_extended_status, decode_file_status, decode_flag, decode_opcode, decode_opening, decode_range, decode_ranges, decode_request_parts, decode_sending_part, decode_status_request, decode_tcp, decode_triple, decode_udp, decode_values, form_of, with_shape}
use Rattle.format.proofs.Differ.{differ}
use Rattle.format.proofs.Codec.{Place, anywhere, at_end, Codec, codec-run, codec-tail, codec-pure, codec-labelled, codec-after, codec-pair, codec-checked, codec-via, codec-map, regroup, no_more, same, recast, codec-counted, codec-byte, codec-word, codec-dword, if-passes, if-violates, found-passes, length-little_endian}
use Rattle.format.proofs.Items.{codec-fixed, codec-hash, codec-string, codec-address, codec-tags, codec-record, codec-query}
use Rattle.format.proofs.Whole.{codec-before, codec-framed, codec-by_size}
use Rattle.format.proofs.Bits.{packed-length, packed-bytes, packed-clear, bits-length, unpack-pack, pack-unpack}

-- 46, Sending part
range-means : (n : ℕ) (p q : ℕ × ℕ) → check_range n p ≡ passes q → (p ≡ q) × ((p.0 ≤ p.1) × (n ≡ p.1 - p.0))
range-means n p q e =
    let x = if-violates Rule.order (pick (eqb n (p.1 - p.0)) (passes p) (violates Rule.data_length)) (leb p.0 p.1) e in
    let y = if-passes Rule.data_length p (eqb n (p.1 - p.0)) x.1 in
    (y.1, (leb-true p.0 p.1 x.0, eqb-true n (p.1 - p.0) y.0))

range-passes : (n a b : ℕ) → a ≤ b → n ≡ b - a → check_range n (a, b) ≡ passes (a, b)
range-passes n a b h e = rw (le-leb a b h, eq-eqb n (b - a) e)

codec-range_data : Codec at_end (both decode_range decode_tail) (λ c. (little_endian 4 c.0.0 ++ little_endian 4 c.0.1) ++ c.1)
    (λ c. (Dword c.0.0 × Dword c.0.1) × (Bytes c.1 × (check_range (length c.1) c.0 ≡ passes c.0)))
unfolding decode_range
codec-range_data = codec-before 8 check_range (λ n a b e. (range-means n a b e).0) (codec-pair codec-dword codec-dword) (λ _. codec-tail)

codec-sending_part : Codec at_end decode_sending_part encode_sending_part ValidSendingPart
unfolding decode_sending_part encode_sending_part
codec-sending_part = same (λ s at. simp regroup) (recast (λ _. refl)
    (λ m. (
      λ h. (h.hash, ((h.start, h.end), (h.bytes, range-passes (length m.bytes) m.start m.end h.order h.full))),
      λ h. let b = range-means _ _ _ h.1.1.1 in
          record { hash = h.0; start = h.1.0.0; end = h.1.0.1; order = b.1.0; full = b.1.1; bytes = h.1.1.0 },
    ))
    (codec-via (λ c. record { hash = c.0; start = c.1.0.0; end = c.1.0.1; bytes = c.1.1 }) (λ m. (m.hash, ((m.start, m.end), m.bytes))) (λ _. refl) (λ _ _. refl)
    (codec-pair codec-hash codec-range_data)))

-- 47, Request parts
codec-triple : {p : Place} → Codec p decode_triple encode_triple ValidTriple
unfolding decode_triple
codec-triple = codec-pair codec-dword (codec-pair codec-dword codec-dword)

abbrev ValidRanges : Triple × Triple → Type 0
ValidRanges p = (ValidTriple p.0 × ValidTriple p.1) × ((p.0.0 ≤ p.1.0) × ((p.0.1.0 ≤ p.1.1.0) × (p.0.1.1 ≤ p.1.1.1)))

codec-ranges : {p : Place} → Codec p decode_ranges (λ c. encode_triple c.0 ++ encode_triple c.1) ValidRanges
unfolding decode_ranges
codec-ranges = codec-checked 24 check_ranges (λ c. c) ValidRanges
    (λ a b h e.
    let x = if-violates Rule.order (pick (leb a.0.1.0 a.1.1.0) (pick (leb a.0.1.1 a.1.1.1) (passes a) (violates Rule.order)) (violates Rule.order)) (leb a.0.0 a.1.0) e in
    let y = if-violates Rule.order (pick (leb a.0.1.1 a.1.1.1) (passes a) (violates Rule.order)) (leb a.0.1.0 a.1.1.0) x.1 in
    let z = if-passes Rule.order a (leb a.0.1.1 a.1.1.1) y.1 in
    (sym z.1, subst ValidRanges z.1 (h, (leb-true _ _ x.0, (leb-true _ _ y.0, leb-true _ _ z.0)))))
    (λ b h. (h.0, rw (le-leb _ _ h.1.0, le-leb _ _ h.1.1.0, le-leb _ _ h.1.1.1)))
    (codec-pair codec-triple codec-triple)

codec-request_parts : {p : Place} → Codec p decode_request_parts encode_request_parts ValidRequestParts
unfolding decode_request_parts encode_request_parts
codec-request_parts = same (λ s at. simp regroup) (recast (λ _. refl)
    (λ m. (
      λ h. (h.hash, ((h.starts, h.ends), (h.first, (h.second, h.third)))),
      λ h. record { hash = h.0; starts = h.1.0.0; ends = h.1.0.1; first = h.1.1.0; second = h.1.1.1.0; third = h.1.1.1.1 },
    ))
    (codec-via (λ c. record { hash = c.0; starts = c.1.0; ends = c.1.1 }) (λ m. (m.hash, (m.starts, m.ends))) (λ _. refl) (λ _ _. refl) (codec-pair codec-hash codec-ranges)))

-- 50, File status
codec-bits : {p : Place} (n : ℕ) → Codec p (decode_bits n) pack_bits (λ bits. length bits ≡ n)
unfolding decode_bits
codec-bits n = codec-checked (spec_packed_bytes n) (check_bits n) pack_bits (λ bits. length bits ≡ n)
    (λ l bits h e.
    let x = if-passes Rule.status_bit (bits_in n l) (unused_clear n l) e in
    (ap pack_bits (sym x.1) ∙ pack-unpack n l h.0 h.1 x.0, ap length (sym x.1) ∙ bits-length n l))
    (λ bits h. subst (λ n. ((length (pack_bits bits) ≡ spec_packed_bytes n) × Bytes (pack_bits bits)) × (check_bits n (pack_bits bits) ≡ passes bits)) h
    ((packed-length bits, packed-bytes bits), rw (packed-clear bits, unpack-pack bits)))
    (codec-run (spec_packed_bytes n))

codec-file_status : {p : Place} → Codec p decode_file_status encode_file_status ValidFileStatus
unfolding decode_file_status encode_file_status
codec-file_status = same (λ s at. simp regroup) (recast (λ _. refl)
    (λ m. (λ h. (h.hash, (h.parts, refl)), λ h. record { hash = h.0; parts = h.1.0 }))
    (codec-via (λ c. record { hash = c.0; held = c.1.1 }) (λ m. (m.hash, (length m.held, m.held))) (λ _. refl)
    (λ c h. ap (λ n. (c.0, (n, c.1.1))) h.1.1)
    (codec-pair codec-hash (codec-after codec-word codec-bits))))

-- 96, UDP Server status request
form-means : (n : ℕ) → (form_of n ≡ extended) ↔ (n / 65536 ≡ 0x5AAA)
form-means n = go (eqb (n / 65536) 0x5AAA) refl
  where
    go : (t : Bool) → eqb (n / 65536) 0x5AAA ≡ t → (pick t extended plain ≡ extended) ↔ (n / 65536 ≡ 0x5AAA)
    go true q = (λ _. eqb-true (n / 65536) 0x5AAA q, λ _. refl)
    go false q = (λ e. differ cc, λ e. absurd (eqb-false (n / 65536) 0x5AAA q e))

form-decided : (f : Form) (n : ℕ) → (f ≡ extended) ↔ (n / 65536 ≡ 0x5AAA) → form_of n ≡ f
form-decided extended n h = (form-means n).1 (h.0 refl)
form-decided plain n h =
    rw (ne_eqb (n / 65536) 0x5AAA (λ e. let q : plain ≡ extended = h.1 e in differ cc))

codec-status_request : {p : Place} → Codec p decode_status_request encode_status_request ValidStatusRequest
unfolding decode_status_request
codec-status_request = codec-map (λ n. record { form = form_of n; number = n }) (λ m. m.number) ValidStatusRequest
    (λ n h. (refl, record { number = h; form = form-means n }))
    (λ m h. (h.number, ap (λ f. record { form = f; number = m.number }) (form-decided m.form m.number h.form))) codec-dword

-- 97, UDP Server status
codec-extended_status : {p : Place} → Codec p decode_extended_status encode_extended_status ValidExtendedStatus
unfolding decode_extended_status encode_extended_status
codec-extended_status = same (λ s at. simp regroup) (recast (λ _. refl)
    (λ m. (λ h. (h.first, (h.second, (tt, (tt, h.numbers)))), λ h. record { first = h.0; second = h.1.0; numbers = h.1.1.1.1 }))
    (codec-via (λ c. record { first = c.0; second = c.1.0; numbers = c.1.1.1.1 }) (λ m. (m.first, (m.second, (tt, (tt, m.numbers))))) (λ _. refl) (λ _ _. refl)
    (codec-pair codec-byte (codec-pair codec-byte (codec-pair (codec-fixed 0xAA (omega arith)) (codec-pair (codec-fixed 0x5A (omega arith)) codec-triple))))))

codec-flag : {p : Place} → Codec p decode_flag (little_endian 1) (λ n. n ≤ 1)
unfolding decode_flag
codec-flag = codec-checked 1 _ (λ n. n) (λ n. n ≤ 1)
    (λ n m h e. let x = if-passes Rule.choice n (leb n 1) e in (sym x.1, subst (λ n. n ≤ 1) x.1 (leb-true n 1 x.0))) (λ n h. (omega arith, rw (le-leb n 1 h))) codec-byte

codec-values : (s : Shape) → Codec at_end (decode_values s) (encode_values s) (ValidValues s)
unfolding encode_extended_status
codec-values nothing_body = codec-pure
codec-values query_body = codec-query
codec-values hash_body = codec-hash
codec-values dword_body = codec-dword
codec-values two_dwords_body = codec-pair codec-dword codec-dword
codec-values text_body = codec-string
codec-values two_texts_body = codec-pair codec-string codec-string
codec-values address_body = codec-address
codec-values addresses_body = codec-counted codec-byte codec-address
codec-values hash_addresses_body = codec-pair codec-hash (codec-counted codec-byte codec-address)
codec-values record_body = codec-record
codec-values records_body = codec-counted codec-dword codec-record
codec-values records_flag_body = codec-pair (codec-counted codec-dword codec-record) codec-flag
codec-values hash_address_tags_body = codec-pair codec-hash (codec-pair codec-address codec-tags)
codec-values hello_body = same (λ s at. simp (regroup, no_more)) (recast (λ _. refl) (λ m. (λ h. (tt, h), λ h. h.1))
    (codec-via (λ c. c.1) (λ m. (tt, m)) (λ _. refl) (λ _ _. refl) (codec-pair (codec-fixed 0x10 (omega arith)) (codec-pair codec-record codec-address))))
codec-values record_address_body = codec-pair codec-record codec-address
codec-values hash_text_body = codec-pair codec-hash codec-string
codec-values hashset_body = codec-pair codec-hash (codec-counted codec-word codec-hash)
codec-values sending_part_body = codec-sending_part
codec-values request_parts_body = codec-request_parts
codec-values file_status_body = codec-file_status
codec-values address_dword_body = codec-pair codec-address codec-dword
codec-values status_request_body = codec-status_request
codec-values status_body = codec-by_size 12 (λ a h. simp (length-append, length-little_endian)) (λ b h e. omega (arith, simp (length-append, length-little_endian) at e)) codec-triple codec-extended_status

-- The frame
one-of : (l : List ℕ) (n : ℕ) → (one_of l n ≡ true) ↔ OneOf l n
one-of [] n = (λ e. differ cc, λ h. absurd h)
one-of (a ∷ l) n = go (eqb n a) refl (one-of l n)
  where
    later : (n ≡ a) ⊎ OneOf l n → (n ≡ a → ⊥) → OneOf l n
    later (inl e) h = absurd (h e)
    later (inr k) h = k

    go : (t : Bool) → eqb n a ≡ t → (one_of l n ≡ true) ↔ OneOf l n → (pick t true (one_of l n) ≡ true) ↔ ((n ≡ a) ⊎ OneOf l n)
    go true q r = (λ _. inl (eqb-true n a q), λ _. refl)
    go false q r = (λ e. inr (r.0 e), λ h. r.1 (later h (eqb-false n a q)))

pub codec-opening : (openings : List ℕ) → Codec anywhere (decode_opening openings) (little_endian 1) (λ b. Byte b × OneOf openings b)
unfolding decode_opening
codec-opening openings = codec-checked 1 _ (λ b. b) (λ b. Byte b × OneOf openings b)
    (λ a b h e.
    let x = if-passes Rule.opening a (one_of openings a) e in
    (sym x.1, subst (λ b. Byte b × OneOf openings b) x.1 (h, (one-of openings a).0 x.0)))
    (λ b h. (h.0, rw ((one-of openings b).1 h.1))) codec-byte

-- A link that lists an opcode under an opening byte has that opening byte.
lists-opening : (link : Link) (b n : ℕ) (s : Shape) → lookup (rows link b) n ≡ some s → OneOf (keys link) b
lists-opening [] b n s e = differ cc
lists-opening (p ∷ link) b n s e = go (eqb b p.0) refl e (lists-opening link b n s)
  where
    go : (t : Bool) → eqb b p.0 ≡ t → lookup (pick t p.1 (rows link b)) n ≡ some s → (lookup (rows link b) n ≡ some s → OneOf (keys link) b) →
        (b ≡ p.0) ⊎ OneOf (keys link) b
    go true q e later = inl (eqb-true b p.0 q)
    go false q e later = inr (later e)

with-shape : (b : ℕ) (o : Option Shape) (c : ℕ × Shape) → with_shape b o ≡ some c → (c.0 ≡ b) × (o ≡ some c.1)
with-shape b none c e = differ cc
with-shape b (some s) c e = let q : (b, s) ≡ c = cc in (sym (ap (λ c. c.0) q), ap (λ c. some c.1) q)

codec-opcode : (table : Opcodes) → Codec anywhere (decode_opcode table) (λ c. little_endian 1 c.0) (λ c. Byte c.0 × (lookup table c.0 ≡ some c.1))
unfolding decode_opcode
codec-opcode table = codec-checked 1 _ (λ c. c.0) (λ c. Byte c.0 × (lookup table c.0 ≡ some c.1))
    (λ b c h e.
    let x = with-shape b (lookup table b) c (found-passes Rule.kind (with_shape b (lookup table b)) e) in
    (x.0, (rw x.0 h, rw x.0 x.1)))
    (λ c h. (h.0, rw h.1)) codec-byte

codec-body : (s : Shape) → Codec at_end (decode_body s) (λ b. encode_values b.0 b.1) (λ b. (b.0 ≡ s) × ValidValues b.0 b.1)
unfolding decode_body
codec-body = codec-labelled codec-values

codec-packet : (table : Opcodes) → Codec {A = (ℕ × Shape) × ((s : Shape) × Values s)} at_end (decode_opcode table >>= (λ h. decode_body h.1 >>= (λ b. pure (h, b)))) (λ c. little_endian 1 c.0.0 ++ encode_values c.1.0 c.1.1)
    (λ c. (Byte c.0.0 × (lookup table c.0.0 ≡ some c.0.1)) × ((c.1.0 ≡ c.0.1) × ValidValues c.1.0 c.1.1))
codec-packet table = codec-after (codec-opcode table) (λ h. codec-body h.1)

-- What both frames ask of a packet of a link.
abbrev Asked : Link → Packet → Type 0
Asked link m =
    (Byte m.opening × OneOf (keys link) m.opening) ×
    ((Byte m.opcode × (lookup (rows link m.opening) m.opcode ≡ some m.body.0)) ×
    ((m.body.0 ≡ m.body.0) × ValidValues m.body.0 m.body.1))

asked : (link : Link) (m : Packet) → ValidPacket link m ↔ Asked link m
asked link m = (
  λ h. ((h.opening, lists-opening link m.opening m.opcode m.body.0 h.listed), ((h.opcode, h.listed), (refl, h.values))),
  λ h. record { opening = h.0.0; opcode = h.1.0.0; listed = h.1.0.1; values = h.1.1.1 },
)

pub codec-tcp : (link : Link) → Codec at_end (decode_tcp link) encode_tcp (λ m. ValidPacket link m × Dword (length (encode_body m)))
unfolding decode_tcp encode_tcp encode_body
codec-tcp link = same (λ s at. simp regroup) (recast (λ _. refl)
    (λ m. (
      λ h. let a = (asked link m).0 h.0 in (a.0, (a.1, (h.1, simp (length-append, length-little_endian) (omega arith)))),
      λ h. ((asked link m).1 (h.0, h.1.0), h.1.1.0),
    ))
    (codec-via (λ c. record { opening = c.0; opcode = c.1.0.0; body = c.1.1 }) (λ m. (m.opening, ((m.opcode, m.body.0), m.body))) (λ _. refl)
    (λ c h. ap (λ k. (c.0, ((c.1.0.0, k), c.1.1))) h.1.0.1.0)
    (codec-after (codec-opening (keys link)) (λ o. codec-framed (codec-packet (rows link o))))))

pub codec-udp : (link : Link) → Codec at_end (decode_udp link) encode_udp (ValidPacket link)
unfolding decode_udp encode_udp encode_body
codec-udp link = same (λ s at. simp regroup) (recast (λ _. refl) (asked link)
    (codec-via (λ c. record { opening = c.0; opcode = c.1.0.0; body = c.1.1 }) (λ m. (m.opening, ((m.opcode, m.body.0), m.body))) (λ _. refl)
    (λ c h. ap (λ k. (c.0, ((c.1.0.0, k), c.1.1))) h.1.1.0)
    (codec-after (codec-opening (keys link)) (λ o. codec-packet (rows link o)))))

-- The length of opcode and body fits its DWORD, by the byte ceiling.
pub length-tcp : (m : Packet) → length (encode_tcp m) ≡ 5 + length (encode_body m)
unfolding encode_tcp
length-tcp m = simp (length-append, length-little_endian) (omega arith)
