-- The laws of Locality and Exactness for every decoder, a line for each, up to those of a kind.
use mathlib.Core.Path.{◌≡◌, refl, sym, ap, ◌∙◌}
use mathlib.Core.Bool.{Bool, true, false}
use mathlib.Core.Option.{some}
use mathlib.Core.Logic.{inl, inr}
use mathlib.Core.List.{List, [], ◌∷◌}
use Prim.Native.Nat.{ℕ, zero, suc, ◌≤◌, ◌<◌}
use native.Mathlib.Omega.{arith}
use lib.ListN.{length, length-replicate, replicate}
use lib.Dec.{leb, ltb, eqb}
use borrow.Author.Tests.{eq-eqb, ltb-true}
use Rattle.format.specs.Tables.{keys, lookup, one_of, pick, rows, same}
use Rattle.format.specs.Bits.{bits_in, pack_bits, spec_packed_bytes, unused_clear}
use Rattle.format.specs.Messages.{TagType, hash_type, string_type, dword_type, float_type, Query, Link, Opcodes, Shape, Tag}
use Rattle.format.specs.Messages.{nothing_body, query_body, hash_body, dword_body, two_dwords_body, text_body, two_texts_body, address_body, addresses_body, hash_addresses_body, address_dword_body, hash_address_tags_body, record_body, records_body, records_flag_body, record_address_body, hello_body, hash_text_body, hashset_body, sending_part_body, request_parts_body, file_status_body, status_request_body, status_body}
use Rattle.format.specs.Messages.{Kind, server_link, client_link, udp_link, known_met, server_met, part_met, lone_query, lone_tags, server, client, udp}
use Rattle.format.specs.Layout.{encode_triple, little_endian}
use Rattle.format.specs.Rules.{GapPair, ValidTriple, spec_block_count, depth_limit, met_openings, spec_part_count}
use Rattle.format.specs.Decoding.{Check, Decoder, Outcome, Rule, and_check, and_then, checked, decode_number, found, got, passes, refused, settled, violates}
use Rattle.format.specs.Order.{check_fixed, check_name_length, decode_address, decode_byte, decode_case, decode_code, decode_counted, decode_dword, decode_fixed, decode_hash, decode_name, decode_query, decode_query_in, decode_record, decode_string, decode_tag, decode_tags, decode_type, decode_value, decode_value_of, decode_word, is_field, is_join, is_keyword, is_limit, QueryCase}
use Rattle.format.specs.PacketOrder.{both, by_size, check_bits, check_flag, check_length, check_opening, check_range, check_ranges, decode_bits, decode_body, decode_extended_status, decode_file_status, decode_flag, decode_length, decode_opcode, decode_opening, decode_range, decode_ranges, decode_request_parts, decode_sending_part, decode_status_request, decode_tcp, decode_triple, decode_udp, decode_values, with_shape}
use Rattle.format.specs.Gaps.{gap_limit}
use Rattle.format.specs.GapTags.{Role, plain, odd, start, end, role}
use Rattle.format.specs.PartTagOrder.{Progress, after_full, between, spec_check_part_tags, next_start, numbered, scan, sizes, sole, step, used, within}
use Rattle.format.specs.MetOrder.{Edition, Mark, decode_edition, decode_file_entry, decode_first_block, decode_hash_blocks, decode_known_met, decode_part_body, decode_part_e0, decode_part_e1, decode_part_met, decode_part_tags, decode_second_block, decode_server_entry, decode_server_met, decoder, editions, is_e0, is_e1, more, stop}
use Rattle.format.specs.Reasons.{item_rule, range_items}
use Rattle.format.proofs.Differ.{differ}
use Rattle.format.proofs.Bits.{packed-bytes, packed-clear, packed-length}
use Rattle.format.proofs.Codec.{never, same-value}
use Rattle.format.proofs.Locality.{Returns}
use Rattle.format.proofs.Exactness.{Law, Plain, law-checked_before, law-checked_whole, law-many, law-pick, law-pure, law-refuse, law-remaining, law-run, law-tail, law-then, plain-both, plain-number, plain-run}

-- Items

plain_byte : {ranges : Bool} → Plain ranges 1 decode_byte (little_endian 1) (λ n. n < 256)
unfolding decode_byte
plain_byte = plain-number 1

plain_word : {ranges : Bool} → Plain ranges 2 decode_word (little_endian 2) (λ n. n < 65536)
unfolding decode_word
plain_word = plain-number 2

plain-dword : {ranges : Bool} → Plain ranges 4 decode_dword (little_endian 4) (λ n. n < 4294967296)
unfolding decode_dword
plain-dword = plain-number 4

plain-triple : {ranges : Bool} → Plain ranges 12 decode_triple encode_triple ValidTriple
unfolding decode_triple
plain-triple = plain-both 4 8 plain-dword (plain-both 4 4 plain-dword plain-dword)

passes-not : {B : Type 0} {v : B} {rule : Rule} → passes v ≡ violates rule → ⊥
passes-not e = differ cc

clear-passes : (n : ℕ) → check_bits n (pack_bits (replicate n false)) ≡ passes (bits_in n (pack_bits (replicate n false)))
clear-passes n = rw (ap (λ m. unused_clear m (pack_bits (replicate n false))) (sym (length-replicate n false)) ∙ packed-clear (replicate n false)) refl

at_least_one : (n : ℕ) (l : List ℕ) {rule : Rule} → check_bits n l ≡ violates rule → 1 ≤ spec_packed_bytes n
unfolding unused_clear
at_least_one zero l e = absurd (passes-not e)
at_least_one (suc n) l e = omega arith

-- A link that can be used: it has opening bytes, and each of them lists an opcode, all of them bytes. Of a link that is written out this
-- computes, so that a new row needs no line here.
abbrev usable : Opcodes → Bool
usable [] = false
usable (p ∷ table) = ltb p.0 256

abbrev all_usable : Link → Bool
all_usable [] = true
all_usable (row ∷ link) = pick (usable row.1) (all_usable link) false

abbrev usable_link : Link → Bool
usable_link [] = false
usable_link (row ∷ link) = pick (ltb row.0 256) (all_usable (row ∷ link)) false

both_true : (b c : Bool) → pick b c false ≡ true → (b ≡ true) × (c ≡ true)
both_true true c e = (refl, e)
both_true false c e = differ cc

usable-opening : (link : Link) → usable_link link ≡ true → (b : ℕ) × ((b < 256) × (one_of (keys link) b ≡ true))
usable-opening [] h = differ cc
usable-opening (row ∷ link) h =
    (row.0, (ltb-true row.0 256 (both_true (ltb row.0 256) (all_usable (row ∷ link)) h).0, rw (eq-eqb row.0 row.0 refl) refl))

listed-rows : (link : Link) → all_usable link ≡ true → (o : ℕ) → one_of (keys link) o ≡ true → usable (rows link o) ≡ true
listed-rows [] h o e = differ cc
listed-rows (row ∷ link) h o e =
    let each = both_true (usable row.1) (all_usable link) h in
    go each.0 (eqb o row.0) e (λ e. listed-rows link each.1 o e)
  where
    go : usable row.1 ≡ true → (b : Bool) → pick b true (one_of (keys link) o) ≡ true → (one_of (keys link) o ≡ true → usable (rows link o) ≡ true) →
        usable (pick b row.1 (rows link o)) ≡ true
    go u true e later = u
    go u false e later = later e

usable-rows : (link : Link) → usable_link link ≡ true → (o : ℕ) → one_of (keys link) o ≡ true → usable (rows link o) ≡ true
usable-rows [] h = differ cc
usable-rows (row ∷ link) h = listed-rows (row ∷ link) (both_true (ltb row.0 256) (all_usable (row ∷ link)) h).1

opened : (openings : List ℕ) (o : ℕ) → Returns (decode_opening openings) o → one_of openings o ≡ true
unfolding decode_opening
opened openings o e = go (decode_byte e.bytes e.start) e.was
  where
    last : (a next : ℕ) (b : Bool) → one_of openings a ≡ b → settled e.start 1 (pick b (passes a) (violates Rule.opening)) next ≡ got o e.next → one_of openings o ≡ true
    last a next true q p = let w : a ≡ o = same-value p in rw (← w) q
    last a next false q p = absurd (never p)

    go : (v : Outcome ℕ) → and_then e.bytes v (λ a s next. settled e.start 1 (check_opening openings a) next) ≡ got o e.next → one_of openings o ≡ true
    go (refused f) p = absurd (never p)
    go (got a next) p = last a next (one_of openings a) refl p

-- The rules of a part.met's tag list are about the whole of it.
abbrev WholeList : {A : Type 0} → Check A → Type 0
WholeList v = (rule : Rule) → v ≡ violates rule → item_rule false rule ≡ false

whole-passes : {A : Type 0} (a : A) → WholeList (passes a)
whole-passes a rule e = absurd (passes-not e)

whole-order : {A : Type 0} → WholeList {A = A} (violates Rule.order)
whole-order rule e = let q : Rule.order ≡ rule = cc in rw (← q) refl

whole-pick : {A : Type 0} (b : Bool) {v w : Check A} → WholeList v → WholeList w → WholeList (pick b v w)
whole-pick true X Y = X
whole-pick false X Y = Y

whole-then : {A B : Type 0} (v : Check A) {f : A → Check B} → WholeList v → ((a : A) → WholeList (f a)) → WholeList (and_check v f)
whole-then (passes a) X Z = Z a
whole-then (violates rule) X Z = λ other e. let q : rule ≡ other = cc in rw (← q) (X rule refl)

whole-full : (ps : List GapPair) {v : Check Progress} → WholeList v → WholeList (after_full ps v)
whole-full ps = whole-pick (leb gap_limit (length ps)) (λ rule e. let q : Rule.gap_ceiling ≡ rule = cc in rw (← q) refl)

whole-step : (size : ℕ) (p : Progress) (r : Role) → WholeList (step size p r)
unfolding step
whole-step size (between ps) plain = whole-passes _
whole-step size (between ps) odd = whole-full ps whole-order
whole-step size (between ps) (start d n) =
    whole-full ps (whole-pick (numbered d) (whole-pick (used d ps) whole-order (whole-pick (leb (next_start ps) n) (whole-passes _) whole-order)) whole-order)
whole-step size (between ps) (end d n) = whole-full ps whole-order
whole-step size (within ps d n) plain = whole-order
whole-step size (within ps d n) odd = whole-order
whole-step size (within ps d n) (start c m) = whole-order
whole-step size (within ps d n) (end c m) =
    whole-pick (same d c) (whole-pick (ltb n m) (whole-pick (leb m size) (whole-passes _) whole-order) whole-order) whole-order

whole-scan : (size : ℕ) (p : Progress) (l : List Tag) → WholeList (scan size p l)
unfolding scan
whole-scan size (between ps) [] = whole-passes ps
whole-scan size (within ps d n) [] = whole-order
whole-scan size (between ps) (t ∷ l) = whole-then (step size (between ps) (role t)) (whole-step size (between ps) (role t)) (λ p. whole-scan size p l)
whole-scan size (within ps d n) (t ∷ l) = whole-then (step size (within ps d n) (role t)) (whole-step size (within ps d n) (role t)) (λ p. whole-scan size p l)

whole-sole : (l : List ℕ) → WholeList (sole l)
whole-sole [] rule e = let q : Rule.size_tag ≡ rule = cc in rw (← q) refl
whole-sole (n ∷ []) rule e = absurd (passes-not e)
whole-sole (n ∷ m ∷ l) rule e = let q : Rule.size_tag ≡ rule = cc in rw (← q) refl

whole-tags : (tags : List Tag) → WholeList (spec_check_part_tags tags)
unfolding spec_check_part_tags
whole-tags tags = whole-then (sole (sizes tags)) (whole-sole (sizes tags)) (λ size. whole-then (scan size (between []) tags) (whole-scan size (between []) tags) (λ _. whole-passes _))

module _ {ranges : Bool} where
  law-number : (k : ℕ) → Law ranges (decode_number k)
  law-number k = law-then (law-run k) (λ l _. law-pure _)

  law-byte : Law ranges decode_byte
  unfolding decode_byte
  law-byte = law-number 1

  law-word : Law ranges decode_word
  unfolding decode_word
  law-word = law-number 2

  law-dword : Law ranges decode_dword
  unfolding decode_dword
  law-dword = law-number 4

  law-hash : Law ranges decode_hash
  unfolding decode_hash
  law-hash = law-run 16

  law-string : Law ranges decode_string
  unfolding decode_string
  law-string = law-then law-word (λ n _. law-run n)

  -- An item of at least a byte, given a lawful value that passes its check.
  law-checked : {A B : Type 0} {r : Decoder A} {encode : A → List ℕ} {Valid : A → Type 0} (k : ℕ) (check : A → Check B) → Plain ranges k r encode Valid → 1 ≤ k →
      (a : A) → Valid a → {v : B} → check a ≡ passes v → Law ranges (checked k check r)
  law-checked k check P h a valid p = law-checked_before k (λ after. check) P (record {
    value = a;
    valid = valid;
    passed = λ after rule e. absurd (passes-not (sym p ∙ e));
    some = λ after a rule e. h;
  })

  law-code : {K : Type 0} (table : List (ℕ × K)) (b : ℕ) → b < 256 → {k : K} → lookup table b ≡ some k → Law ranges (decode_code table)
  unfolding decode_code
  law-code table b h e = law-checked 1 (λ b. found Rule.choice (lookup table b)) plain_byte (omega arith) b h (ap (found Rule.choice) e)

  law-fixed : (b : ℕ) → b < 256 → Law ranges (decode_fixed b)
  unfolding decode_fixed
  law-fixed b h = law-checked 1 (check_fixed b) plain_byte (omega arith) b h (rw (eq-eqb b b refl) refl)

  law-name : Law ranges decode_name
  unfolding decode_name
  law-name = law-then (law-checked 2 check_name_length plain_word (omega arith) 1 (omega arith) refl) (λ n _. law-run n)

  law-address : Law ranges decode_address
  unfolding decode_address
  law-address = law-then law-dword (λ _ _. law-then law-word (λ _ _. law-pure _))

  law-counted : {A : Type 0} {count : Decoder ℕ} {r : Decoder A} → Law ranges count → Law ranges r → Law ranges (decode_counted count r)
  unfolding decode_counted
  law-counted C L = law-then C (λ n _. law-many n L)

  law-value_of : (t : TagType) → Law ranges (decode_value_of t)
  law-value_of hash_type = law-hash
  law-value_of string_type = law-string
  law-value_of dword_type = law-dword
  law-value_of float_type = law-dword

  law-tag : Law ranges decode_tag
  unfolding decode_tag decode_type decode_value
  law-tag = law-then (law-code _ 1 (omega arith) refl) (λ t _. law-then law-name (λ _ _. law-then (law-then (law-value_of t) (λ _ _. law-pure _)) (λ _ _. law-pure _)))

  law-tags : Law ranges decode_tags
  unfolding decode_tags
  law-tags = law-counted law-dword law-tag

  law-record : Law ranges decode_record
  unfolding decode_record
  law-record = law-then law-hash (λ _ _. law-then law-dword (λ _ _. law-then law-word (λ _ _. law-then law-tags (λ _ _. law-pure _))))

  law-case : {side : Decoder Query} → Law ranges side → (c : QueryCase) → Law ranges (decode_case side c)
  law-case Q is_join = law-then (law-code _ 0 (omega arith) refl) (λ _ _. law-then Q (λ _ _. law-then Q (λ _ _. law-pure _)))
  law-case Q is_keyword = law-then law-string (λ _ _. law-pure _)
  law-case Q is_field = law-then law-string (λ _ _. law-then law-name (λ _ _. law-pure _))
  law-case Q is_limit = law-then law-dword (λ _ _. law-then (law-code _ 1 (omega arith) refl) (λ _ _. law-then law-name (λ _ _. law-pure _)))

  law-query_in : (d : ℕ) → Law ranges (decode_query_in d)
  unfolding decode_query_in
  law-query_in zero = law-refuse Rule.depth_ceiling refl
  law-query_in (suc d) = law-then (law-code _ 0 (omega arith) refl) (λ c _. law-case (law-query_in d) c)

  law-query : Law ranges decode_query
  unfolding decode_query
  law-query = law-query_in depth_limit

  -- Bodies

  law-both : {A B : Type 0} {r : Decoder A} {q : Decoder B} → Law ranges r → Law ranges q → Law ranges (both r q)
  law-both L M = law-then L (λ _ _. law-then M (λ _ _. law-pure _))

  -- 0 to 0 is in order; whether so many bytes come after is a matter of their number.
  law-range : Law ranges decode_range
  unfolding decode_range
  law-range = law-checked_before 8 check_range (plain-both 4 4 plain-dword plain-dword) (record {
    value = (0, 0);
    valid = (omega arith, omega arith);
    passed = λ after rule e. data-only (eqb after 0) e;
    some = λ after a rule e. omega arith;
  })
    where
      data-only : (b : Bool) {rule : Rule} → pick {A = Check (ℕ × ℕ)} b (passes (0, 0)) (violates Rule.data_length) ≡ violates rule → item_rule ranges rule ≡ false
      data-only true e = absurd (passes-not e)
      data-only false {rule} e = let q : Rule.data_length ≡ rule = cc in rw (← q) refl

  law-sending_part : Law ranges decode_sending_part
  unfolding decode_sending_part
  law-sending_part = law-then law-hash (λ _ _. law-then law-range (λ _ _. law-then law-tail (λ _ _. law-pure _)))

  law-triple : Law ranges decode_triple
  unfolding decode_triple
  law-triple = law-both law-dword (law-both law-dword law-dword)

  law-ranges : Law ranges decode_ranges
  unfolding decode_ranges
  law-ranges = law-checked 24 check_ranges (plain-both 12 12 plain-triple plain-triple) (omega arith) ((0, (0, 0)), (0, (0, 0)))
      ((omega arith, (omega arith, omega arith)), (omega arith, (omega arith, omega arith))) refl

  law-request_parts : Law ranges decode_request_parts
  unfolding decode_request_parts
  law-request_parts = law-then law-hash (λ _ _. law-then law-ranges (λ _ _. law-pure _))

  -- No bit set is lawful, and a status of no parts has no bytes to break a rule.
  law-bits : (n : ℕ) → Law ranges (decode_bits n)
  unfolding decode_bits
  law-bits n = law-checked_before (spec_packed_bytes n) (λ after. check_bits n) (plain-run (spec_packed_bytes n)) (record {
    value = pack_bits (replicate n false);
    valid = (packed-length (replicate n false) ∙ ap spec_packed_bytes (length-replicate n false), packed-bytes (replicate n false));
    passed = λ after rule e. absurd (passes-not (sym (clear-passes n) ∙ e));
    some = λ after l rule e. at_least_one n l e;
  })

  law-file_status : Law ranges decode_file_status
  unfolding decode_file_status
  law-file_status = law-then law-hash (λ _ _. law-then law-word (λ n _. law-then (law-bits n) (λ _ _. law-pure _)))

  law-status_request : Law ranges decode_status_request
  unfolding decode_status_request
  law-status_request = law-then law-dword (λ _ _. law-pure _)

  law-extended_status : Law ranges decode_extended_status
  unfolding decode_extended_status
  law-extended_status =
      law-then law-byte (λ _ _. law-then law-byte (λ _ _.
      law-then (law-fixed 0xAA (omega arith)) (λ _ _. law-then (law-fixed 0x5A (omega arith)) (λ _ _. law-then law-triple (λ _ _. law-pure _)))))

  law-by_size : {A B : Type 0} (k : ℕ) {r : Decoder A} {q : Decoder B} → Law ranges r → Law ranges q → Law ranges (by_size k r q)
  law-by_size k L M = law-then law-remaining (λ n _. law-pick (eqb n k) (law-then L (λ a _. law-pure (inl a))) (law-then M (λ b _. law-pure (inr b))))

  law-flag : Law ranges decode_flag
  unfolding decode_flag
  law-flag = law-checked 1 check_flag plain_byte (omega arith) 0 (omega arith) refl

  law-values : (s : Shape) → Law ranges (decode_values s)
  law-values nothing_body = law-pure tt
  law-values query_body = law-query
  law-values hash_body = law-hash
  law-values dword_body = law-dword
  law-values two_dwords_body = law-both law-dword law-dword
  law-values text_body = law-string
  law-values two_texts_body = law-both law-string law-string
  law-values address_body = law-address
  law-values addresses_body = law-counted law-byte law-address
  law-values hash_addresses_body = law-both law-hash (law-counted law-byte law-address)
  law-values address_dword_body = law-both law-address law-dword
  law-values hash_address_tags_body = law-both law-hash (law-both law-address law-tags)
  law-values record_body = law-record
  law-values records_body = law-counted law-dword law-record
  law-values records_flag_body = law-both (law-counted law-dword law-record) law-flag
  law-values record_address_body = law-both law-record law-address
  law-values hello_body = law-then (law-fixed 0x10 (omega arith)) (λ _ _. law-both law-record law-address)
  law-values hash_text_body = law-both law-hash law-string
  law-values hashset_body = law-both law-hash (law-counted law-word law-hash)
  law-values sending_part_body = law-sending_part
  law-values request_parts_body = law-request_parts
  law-values file_status_body = law-file_status
  law-values status_request_body = law-status_request
  law-values status_body = law-by_size 12 law-triple law-extended_status

  law-body : (s : Shape) → Law ranges (decode_body s)
  unfolding decode_body
  law-body s = law-then (law-values s) (λ _ _. law-pure _)

  -- Links: any opening bytes and any tables that list an opcode for each of them.

  law-opening : (openings : List ℕ) (b : ℕ) → b < 256 → one_of openings b ≡ true → Law ranges (decode_opening openings)
  unfolding decode_opening
  law-opening openings b h e = law-checked 1 (check_opening openings) plain_byte (omega arith) b h {v = b} (rw e refl)

  law-length : Law ranges decode_length
  unfolding decode_length
  law-length = law-checked_before 4 check_length plain-dword (record {
    value = 0;
    valid = omega arith;
    passed = λ after rule e. let q : Rule.frame_length ≡ rule = cc in rw (← q) refl;
    some = λ after n rule e. omega arith;
  })

  law-opcode : (table : Opcodes) → usable table ≡ true → Law ranges (decode_opcode table)
  unfolding decode_opcode
  law-opcode [] h = differ cc
  law-opcode (p ∷ table) h =
      law-checked 1 (λ b. found Rule.kind (with_shape b (lookup (p ∷ table) b))) plain_byte (omega arith) p.0 (ltb-true p.0 256 h) {v = (p.0, p.1)} (rw (eq-eqb p.0 p.0 refl) refl)

  law-tcp : (link : Link) → usable_link link ≡ true → Law ranges (decode_tcp link)
  unfolding decode_tcp
  law-tcp link h =
      let first = usable-opening link h in
      law-then (law-opening (keys link) first.0 first.1.0 first.1.1) (λ o e.
      law-then law-length (λ _ _. law-then (law-opcode (rows link o) (usable-rows link h o (opened (keys link) o e))) (λ c _. law-then (law-body c.1) (λ _ _. law-pure _))))

  law-udp : (link : Link) → usable_link link ≡ true → Law ranges (decode_udp link)
  unfolding decode_udp
  law-udp link h =
      let first = usable-opening link h in
      law-then (law-opening (keys link) first.0 first.1.0 first.1.1) (λ o e.
      law-then (law-opcode (rows link o) (usable-rows link h o (opened (keys link) o e))) (λ c _. law-then (law-body c.1) (λ _ _. law-pure _)))

  -- Met files

  law-file_entry : Law ranges decode_file_entry
  unfolding decode_file_entry
  law-file_entry = law-then law-dword (λ _ _. law-then law-hash (λ _ _. law-then (law-counted law-word law-hash) (λ _ _. law-then law-tags (λ _ _. law-pure _))))

  law-known : Law ranges decode_known_met
  unfolding decode_known_met
  law-known = law-then (law-opening met_openings 0x0E (omega arith) refl) (λ _ _. law-then (law-counted law-dword law-file_entry) (λ _ _. law-pure _))

  law-server_entry : Law ranges decode_server_entry
  unfolding decode_server_entry
  law-server_entry = law-then law-dword (λ _ _. law-then law-word (λ _ _. law-then law-tags (λ _ _. law-pure _)))

  law-servers : Law ranges decode_server_met
  unfolding decode_server_met
  law-servers = law-then (law-opening met_openings 0x0E (omega arith) refl) (λ _ _. law-then (law-counted law-dword law-server_entry) (λ _ _. law-then law-tail (λ _ _. law-pure _)))

  law-second_block : (size : ℕ) (l : List (List ℕ)) (m : Mark) → Law ranges (decode_second_block size l m)
  law-second_block size l stop = law-pure _
  law-second_block size l more = law-then (law-many (spec_block_count size) (law-run 8)) (λ _ _. law-then (law-fixed 0 (omega arith)) (λ _ _. law-pure _))

  law-first_block : (size : ℕ) (m : Mark) → Law ranges (decode_first_block size m)
  law-first_block size stop = law-pure _
  law-first_block size more = law-then (law-many (spec_part_count size) law-hash) (λ l _. law-then (law-code _ 0 (omega arith) refl) (λ m _. law-second_block size l m))

  law-blocks : (size : ℕ) → Law ranges (decode_hash_blocks size)
  unfolding decode_hash_blocks
  law-blocks size = law-then (law-code _ 0 (omega arith) refl) (λ m _. law-first_block size m)

law-part_tags : Law false decode_part_tags
unfolding decode_part_tags
law-part_tags = law-checked_whole spec_check_part_tags whole-tags law-tags

law-part_body : (e : Edition) → Law false (decode_part_body e)
unfolding decode_part_e0 decode_part_e1
law-part_body is_e0 = law-then (law-then law-dword (λ _ _. law-then law-hash (λ _ _. law-then (law-counted law-word law-hash) (λ _ _. law-then law-part_tags (λ _ _. law-pure _))))) (λ _ _. law-pure _)
law-part_body is_e1 = law-then (law-then (law-fixed 2 (omega arith)) (λ _ _. law-then law-dword (λ _ _. law-then law-hash (λ _ _. law-then law-part_tags (λ t _. law-then (law-blocks t.0) (λ _ _. law-pure _)))))) (λ _ _. law-pure _)

law-part : Law false decode_part_met
unfolding decode_part_met decode_edition
law-part = law-then (law-checked 1 (λ b. found Rule.opening (lookup editions b)) plain_byte (omega arith) 0xE0 (omega arith) refl) (λ e _. law-part_body e)

-- Every kind

pub law : (k : Kind) → Law (range_items k) (decoder k)
law server_link = law-tcp server refl
law client_link = law-tcp client refl
law udp_link = law-udp udp refl
law known_met = law-known
law server_met = law-servers
law part_met = law-part
law lone_query = law-query
law lone_tags = law-tags
