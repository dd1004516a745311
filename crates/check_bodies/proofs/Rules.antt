-- What the reader says of the finished bytes of a body whose places are there and whose counts fit.
use Prim.Native.Nat.{ℕ, ◌+◌, ◌-◌, ◌/◌, ◌≤◌, ◌<◌}
use mathlib.Core.Path.{◌≡◌, refl, sym, ap, ◌∙◌, subst}
use mathlib.Core.Bool.{Bool, true, false}
use mathlib.Core.Logic.{◌↔◌}
use mathlib.Core.List.{List, [], ◌++◌, append-nil}
use native.Mathlib.Omega.{arith}
use lib.ListN.{length, drop, length-drop}
use lib.Dec.{eqb, leb}
use borrow.Author.Tests.{eqb-false, eqb-true, leb-true}
use Rattle.format.specs.Tables.{pick}
use Rattle.format.specs.Messages as messages
use Rattle.format.specs.Messages.{request_parts_body, sending_part_body, status_request_body}
use Rattle.format.specs.Layout.{byte, counted, dword, encode_record, encode_request_parts, encode_sending_part, encode_triple}
use Rattle.format.specs.Rules.{Bytes, Dword, ValidHash, ValidRecord, ValidTriple, ValidValues, Word}
use Rattle.format.specs.Decoding.{Outcome, Rule, ends, fault, got, refused, violates}
use Rattle.format.specs.Order.{decode_address, decode_hash, decode_record, decode_tag}
use Rattle.format.specs.PacketOrder.{check_range, check_ranges, decode_bits, decode_body, decode_flag, decode_range, decode_ranges, decode_request_parts, decode_sending_part, decode_status_request, decode_triple, form_of}
use Rattle.format.specs.Writing.{RecordFits, ValuesFit}
use Rattle.format.proofs.Differ.{differ}
use Rattle.format.proofs.Codec.{anywhere, behind, bytes-part, Codec, codec-byte, codec-counted, codec-dword, codec-pair, fits}
use Rattle.format.proofs.Items.{codec-hash, codec-record}
use Rattle.wire.specs.WireAnswers.{hash_at, items_in}
use Rattle.records.specs.declared.Record.{Record}
use Rattle.records.specs.RecordAnswers.{record_in}
use Rattle.bodies.specs.declared.Body.{Body}
use Rattle.bodies.specs.declared.Form.{Form}
use Rattle.bodies.specs.BodyAnswers.{body_in, form_meaning}
use Rattle.write_items.specs.There.{both_there, hash_there, items_there, place_there}
use Rattle.write_items.proofs.There.{there-at, both_first, both-last, run-size, valid-hash}
use Rattle.format.specs.RoundTrip.{IsThere}
use Rattle.check_bodies.specs.Bodies.{BodyRule, body_there, query_there, record_there, breaks, differs, keeps}
use Rattle.check_bodies.specs.Extents.{Bounded, spec_broken_rule, spec_flag_rule, spec_form_rule, spec_range_rule}
use Rattle.check_bodies.proofs.Places.{addresses-listed, hashes-listed, query-listed, records-listed, tags-listed}

module _ (s : List ℕ) (hb : Bytes s) where
  record-valid : (r : Record) → Dword r.client × Word r.port → IsThere (record_there s r) → RecordFits (record_in s r) → ValidRecord (record_in s r)
  record-valid r b t f =
      let h = hash_there s r.hash in
      let l = items_there decode_tag s r.tags in
      record { hash = valid-hash s hb r.hash (both_first h l t); client = b.0; port = b.1; tags = (f.0, (tags-listed s hb r.tags (there-at l (both-last h l t)).1).valid) }

-- A flag above 1.
flag-rule : (l : List messages.Record) (b : ℕ) → b < 256 → ValidValues messages.records_body l → BodyRule (messages.records_flag_body, (l, b)) (spec_flag_rule b)
unfolding decode_body decode_flag
flag-rule l b few v = go (leb b 1) refl
  where
    go : (t : Bool) → leb b 1 ≡ t → BodyRule (messages.records_flag_body, (l, b)) (pick t 0 5)
    go true e = keeps (v, leb-true b 1 e)
    go false e =
        let x = counted dword encode_record l in
        breaks Rule.choice (length x) 1 (λ s at i d.
        rw (
          (codec-counted {p = anywhere} codec-dword codec-record).complete s at l (byte b) v d i tt,
          (codec-byte {p = anywhere}).complete s (at + length x) b [] few (behind s at x (byte b) d ∙ sym (append-nil (byte b))) (fits s at x (byte b) i d) tt,
          e,
        )
        refl)

-- 46: a range that is out of order, or has another length than the data.
range-refused : (rule : Rule) (m : messages.SendingPart) → ValidHash m.hash → Dword m.start × Dword m.end →
    check_range (length m.bytes) (m.start, m.end) ≡ violates rule → (s : List ℕ) (at : ℕ) → at ≤ length s → drop at s ≡ encode_sending_part m →
    decode_body sending_part_body s at ≡ refused (fault rule (at + length m.hash) 8)
unfolding decode_body decode_sending_part decode_range encode_sending_part
range-refused rule m h b v s at i e =
    let x = m.hash in
    let y = dword m.start ++ dword m.end in
    let z = m.bytes in
    let d : drop (at + length x) s ≡ y ++ z = behind s at x (y ++ z) e in
    let j : at + length x ≤ length s = fits s at x (y ++ z) i e in
    let k : at + length x + length y ≤ length s = fits s (at + length x) y z j d in
    let left : length s - (at + length x + length y) ≡ length z =
    omega (arith, ap length (behind s (at + length x) y z d), length-drop (at + length x + length y) s) in
    rw (
      (codec-hash {p = anywhere}).complete s at x (y ++ z) h e i tt,
      (codec-pair {p = anywhere} codec-dword codec-dword).complete s (at + length x) (m.start, m.end) z b d j tt,
      left,
      v,
    )
    refl

range-rule : (m : messages.SendingPart) → ValidHash m.hash → Dword m.start × Dword m.end → Bytes m.bytes → (size : ℕ) → length m.bytes ≡ size →
    BodyRule (sending_part_body, m) (spec_range_rule m.start m.end size)
range-rule m h b d size full = first (leb m.start m.end) refl
  where
    second : m.start ≤ m.end → leb m.start m.end ≡ true → (t : Bool) → eqb size (m.end - m.start) ≡ t → BodyRule (sending_part_body, m) (pick t 0 8)
    second o q true e = keeps (record { hash = h; start = b.0; end = b.1; order = o; full = full ∙ eqb-true _ _ e; bytes = d })
    second o q false e = breaks Rule.data_length (length m.hash) 8 (range-refused Rule.data_length m h b (rw (q, full, e) refl))

    first : (t : Bool) → leb m.start m.end ≡ t → BodyRule (sending_part_body, m) (pick t (pick (eqb size (m.end - m.start)) 0 8) 8)
    first true e = second (leb-true _ _ e) e (eqb size (m.end - m.start)) refl
    first false e = breaks Rule.order (length m.hash) 8 (range-refused Rule.order m h b (rw e refl))

-- 47: a start above its end.
codec-triple : Codec anywhere decode_triple encode_triple ValidTriple
unfolding decode_triple
codec-triple = codec-pair codec-dword (codec-pair codec-dword codec-dword)

module _ (m : messages.RequestParts) (h : ValidHash m.hash) (b : ValidTriple m.starts × ValidTriple m.ends) where
  ranges-refused : check_ranges (m.starts, m.ends) ≡ violates Rule.order → (s : List ℕ) (at : ℕ) → at ≤ length s → drop at s ≡ encode_request_parts m →
      decode_body request_parts_body s at ≡ refused (fault Rule.order (at + length m.hash) 24)
  unfolding decode_body decode_request_parts decode_ranges encode_request_parts
  ranges-refused v s at i e =
      let x = m.hash in
      let y = encode_triple m.starts ++ encode_triple m.ends in
      rw (
        (codec-hash {p = anywhere}).complete s at x y h e i tt,
        (codec-pair {p = anywhere} codec-triple codec-triple).complete s (at + length x) (m.starts, m.ends) [] b (behind s at x y e ∙ sym (append-nil y)) (fits s at x y i e) tt,
        v,
      )
      refl

  ranges-rule : BodyRule (request_parts_body, m)
      (pick (leb m.starts.0 m.ends.0) (pick (leb m.starts.1.0 m.ends.1.0) (pick (leb m.starts.1.1 m.ends.1.1) 0 8) 8) 8)
  ranges-rule = first (leb m.starts.0 m.ends.0) refl
    where
      third : (leb m.starts.0 m.ends.0 ≡ true) × (leb m.starts.1.0 m.ends.1.0 ≡ true) → (t : Bool) → leb m.starts.1.1 m.ends.1.1 ≡ t →
          BodyRule (request_parts_body, m) (pick t 0 8)
      third q true e = keeps (record { hash = h; starts = b.0; ends = b.1; first = leb-true _ _ q.0; second = leb-true _ _ q.1; third = leb-true _ _ e })
      third q false e = breaks Rule.order (length m.hash) 24 (ranges-refused (rw (q.0, q.1, e) refl))

      second : leb m.starts.0 m.ends.0 ≡ true → (t : Bool) → leb m.starts.1.0 m.ends.1.0 ≡ t →
          BodyRule (request_parts_body, m) (pick t (pick (leb m.starts.1.1 m.ends.1.1) 0 8) 8)
      second q true e = third (q, e) (leb m.starts.1.1 m.ends.1.1) refl
      second q false e = breaks Rule.order (length m.hash) 24 (ranges-refused (rw (q, e) refl))

      first : (t : Bool) → leb m.starts.0 m.ends.0 ≡ t →
          BodyRule (request_parts_body, m) (pick t (pick (leb m.starts.1.0 m.ends.1.0) (pick (leb m.starts.1.1 m.ends.1.1) 0 8) 8) 8)
      first true e = second e (leb m.starts.1.0 m.ends.1.0) refl
      first false e = breaks Rule.order (length m.hash) 24 (ranges-refused (rw e refl))

-- 96: a form that the number does not say. The bytes are those of the other form.
not_extended : messages.plain ≡ messages.extended → ⊥
not_extended e = differ cc

module _ (n : ℕ) (few : Dword n) where
  form-differs : (f g : messages.Form) → form_of n ≡ g → (g ≡ messages.extended) ↔ (n / 65536 ≡ 0x5AAA) → ((f ≡ messages.extended) ↔ (n / 65536 ≡ 0x5AAA) → ⊥) →
      BodyRule (status_request_body, record { form = f; number = n }) 5
  unfolding decode_body decode_status_request
  form-differs f g is right wrong =
      differs (status_request_body, record { form = g; number = n })
      (λ e. wrong (subst (λ v. ValidValues v.0 v.1) e (record { number = few; form = right })).form)
      (λ s at i e.
      let all : at + length (dword n) ≡ length s = omega (arith, length-drop at s, ap length e) in
      rw ((codec-dword {p = anywhere}).complete s at n [] few (e ∙ sym (append-nil (dword n))) i tt, is, all) refl)

  form-rule : (f : Form) → BodyRule (status_request_body, record { form = form_meaning f; number = n }) (spec_form_rule f n)
  form-rule f = go f (eqb (n / 65536) 0x5AAA) refl
    where
      go : (f : Form) (t : Bool) → eqb (n / 65536) 0x5AAA ≡ t → BodyRule (status_request_body, record { form = form_meaning f; number = n }) (spec_form_rule f n)
      go Form.Plain true e =
          rw e (form-differs messages.plain messages.extended (rw e refl) (λ _. eqb-true _ _ e, λ _. refl) (λ k. not_extended (k.1 (eqb-true _ _ e))))
      go Form.Plain false e = rw e (keeps (record { number = few; form = (λ k. absurd (not_extended k), λ k. absurd (eqb-false _ _ e k)) }))
      go Form.Extended true e = rw e (keeps (record { number = few; form = (λ _. eqb-true _ _ e, λ _. refl) }))
      go Form.Extended false e =
          rw e
          (form-differs messages.extended messages.plain (rw e refl) (λ k. absurd (not_extended k), λ k. absurd (eqb-false _ _ e k)) (λ k. eqb-false _ _ e (k.0 refl)))

module _ (s : List ℕ) (hb : Bytes s) where
  hash-first : (h : ℕ) (o : Outcome (Unit {0})) → IsThere (both_there (hash_there s h) o) → ValidHash (hash_at s h)
  hash-first h o t = valid-hash s hb h (both_first (hash_there s h) o t)

  hash-then : (h : ℕ) (o : Outcome (Unit {0})) → IsThere (both_there (hash_there s h) o) → (next : ℕ) × (o ≡ got tt next)
  hash-then h o t = there-at o (both-last (hash_there s h) o t)

  pub rules : (b : Body) → Bounded b → IsThere (body_there s b) → ValuesFit (body_in s b).0 (body_in s b).1 → BodyRule (body_in s b) (spec_broken_rule b)
  rules Body.Nothing k t f = keeps tt
  rules (Body.Query q) k t f = keeps (query-listed s hb q (there-at (query_there s q) t).1).valid
  rules (Body.Hash h) k t f = keeps (valid-hash s hb h t)
  rules (Body.Dword n) k t f = keeps k
  rules (Body.TwoDwords n m) k t f = keeps k
  rules (Body.Text u) k t f = keeps (f, bytes-part s hb u.at u.len)
  rules (Body.TwoTexts u v) k t f = keeps ((f.0, bytes-part s hb u.at u.len), (f.1, bytes-part s hb v.at v.len))
  rules (Body.Address a) k t f = keeps k
  rules (Body.Addresses l) k t f = keeps (f, (addresses-listed s hb l (there-at (items_there decode_address s l) t).1).valid)
  rules (Body.HashAddresses h l) k t f =
      let o = items_there decode_address s l in
      keeps (hash-first h o t, (f, (addresses-listed s hb l (hash-then h o t).1).valid))
  rules (Body.AddressDword a n) k t f = keeps k
  rules (Body.HashAddressTags h a l) k t f =
      let o = items_there decode_tag s l in
      keeps (hash-first h o t, (k, (f.0, (tags-listed s hb l (hash-then h o t).1).valid)))
  rules (Body.Record r) k t f = keeps (record-valid s hb r k t f)
  rules (Body.Records l) k t f = keeps (f.0, (records-listed s hb l (there-at (items_there decode_record s l) t).1).valid)
  rules (Body.RecordsFlag l b) k t f = flag-rule (items_in decode_record s l) b k (f.0, (records-listed s hb l (there-at (items_there decode_record s l) t).1).valid)
  rules (Body.RecordAddress r a) k t f = keeps (record-valid s hb r k.0 t f, k.1)
  rules (Body.Hello r a) k t f = keeps (record-valid s hb r k.0 t f, k.1)
  rules (Body.HashText h u) k t f = keeps (hash-first h (place_there s u) t, (f, bytes-part s hb u.at u.len))
  rules (Body.Hashset h l) k t f =
      let o = items_there decode_hash s l in
      keeps (hash-first h o t, (f, (hashes-listed s hb l (hash-then h o t).1).valid))
  rules (Body.SendingPart p) k t f =
      let o = place_there s p.data in
      range-rule (body_in s (Body.SendingPart p)).1 (hash-first p.hash o t) k (bytes-part s hb p.data.at p.data.len) p.data.len
      (run-size s p.data.at p.data.len (both-last (hash_there s p.hash) o t))
  rules (Body.RequestParts p) k t f = ranges-rule (body_in s (Body.RequestParts p)).1 (valid-hash s hb p.hash t) k
  rules (Body.FileStatus p) k t f = keeps (record { hash = hash-first p.hash (ends (decode_bits p.parts s p.bits)) t; parts = f })
  rules (Body.StatusRequest p) k t f = form-rule p.number k p.form
  rules (Body.Status u) k t f = keeps k
  rules (Body.ExtendedStatus p) k t f = keeps k
