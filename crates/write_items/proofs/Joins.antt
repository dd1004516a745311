-- A join from its sides: what the reader says of its bytes, its number, and what its writer owes.
use Prim.Native.Nat.{ℕ, zero, suc, max, ◌+◌, ◌≤◌, ◌<◌}
use mathlib.Core.Path.{◌≡◌, refl, sym, ap, ◌∙◌}
use mathlib.Core.Bool.{Bool, true, false}
use mathlib.Core.List.{List, [], ◌∷◌, ◌++◌, append_assoc, append-nil}
use native.Mathlib.Omega.{arith}
use native.Mathlib.Decide.{dec_le}
use lib.ListN.{length, drop, get_or, length-append}
use lib.Dec.{leb}
use mir.Syntax.{w8}
use mir.Val.{Fits}
use borrow.Author.Tests.{le-leb, leb-false, leb-true}
use Rattle.format.specs.Tables.{pick}
use Rattle.format.specs.Messages.{Operator, Query, and, and_not, field, join, keyword, limit, lone_query, or}
use Rattle.format.specs.Layout.{byte, encode_query, operator_code}
use Rattle.format.specs.Rules.{Bytes, Valid, ValidLeaves, depth, packet_ceiling}
use Rattle.format.specs.Decoding.{Answer, Outcome, accepted, and_then, depth_ceiling, fault, got, message, number, pure, refusal, refused, refused_with, reply}
use Rattle.format.specs.Order.{QueryCase, case_code, decode_case, decode_code, decode_query, decode_query_in, is_field, is_join, is_keyword, is_limit, operators}
use Rattle.format.specs.MetOrder.{decode}
use Rattle.format.specs.Writing.{Judged, QueryFits, Written, refused_for, unwritten}
use Rattle.format.proofs.Differ.{differ}
use Rattle.format.proofs.Codec.{Codec, anywhere, behind, bytes-append, bytes-little_endian, codec-table, fits, length-little_endian, never, same-value}
use Rattle.format.proofs.Acceptance.{accepts}
use Rattle.format.proofs.Items.{codec-query, some-depth}
use Rattle.format.proofs.Writing.{ceiling-judged, query-fits, valid-judged}
use Rattle.std.specs.Prelude.{IsErrAnd, Result}
use Rattle.wire.specs.declared.Rule.{Rule}
use Rattle.wire.specs.WireAnswers.{rule_meaning}
use Rattle.wire.proofs.Replies.{slice-bytes}
use Rattle.wire.proofs.Steps.{propagated}
use Rattle.output.specs.declared.Refusal.{Refusal}
use Rattle.output.specs.WriteAnswers.{answered, refusal_of}
use Rattle.output.proofs.Refusals.{number-of-rule}
use Rattle.query.specs.declared.Query as place
use Rattle.query.specs.Nodes.{depths}
use Rattle.query.specs.QueryAnswers.{QueryPlaced, query_in, query_of}
use Rattle.write_items.specs.Writers.{join_of, sides_there}
use Rattle.write_items.specs.Numbers.{spec_join_number}
use Rattle.write_items.proofs.Answers.{Promised, Ready, gone, message-ready}
use Rattle.write_items.proofs.Pieces.{ceiling-fits}
use Rattle.write_items.proofs.Leaves.{codec-case, query-step}

codec-operator : Codec anywhere (decode_code operators) (λ o. byte (operator_code o)) (λ _. Unit {0})
codec-operator = codec-table operator_code (and ∷ or ∷ and_not ∷ [])
    (elim [ and ↦ (refl, omega arith) | or ↦ (refl, omega arith) | and_not ↦ (refl, omega arith) ])

-- The bytes of a join stand at a place: its sides stand after its two bytes.
module _ (o : Operator) (q r : Query) (s : List ℕ) (at : ℕ) (rest : List ℕ) (e : drop at s ≡ encode_query (join o q r) ++ rest) (i : at ≤ length s) where
  abbrev sides : List ℕ
  sides = encode_query q ++ (encode_query r ++ rest)

  abbrev code : List ℕ
  code = byte (operator_code o)

  abbrev left : ℕ
  left = at + length (byte 0) + length code

  abbrev right : ℕ
  right = left + length (encode_query q)

  whole : drop at s ≡ byte 0 ++ (code ++ sides)
  unfolding encode_query
  whole = e ∙ simp append_assoc

  after-case : drop (at + length (byte 0)) s ≡ code ++ sides
  after-case = behind s at (byte 0) (code ++ sides) whole

  in-case : at + length (byte 0) ≤ length s
  in-case = fits s at (byte 0) (code ++ sides) i whole

  left_here : drop left s ≡ sides
  left_here = behind s (at + length (byte 0)) code sides after-case

  in_left : left ≤ length s
  in_left = fits s (at + length (byte 0)) code sides in-case after-case

  right-here : drop right s ≡ encode_query r ++ rest
  right-here = behind s left (encode_query q) (encode_query r ++ rest) left_here

  in_right : right ≤ length s
  in_right = fits s left (encode_query q) (encode_query r ++ rest) in_left left_here

  join_step : (d : ℕ) → decode_query_in (suc d) s at ≡
      and_then s (decode_query_in d s left) (λ q' s at. and_then s (decode_query_in d s at) (λ r'. pure (join o q' r')))
  join_step d =
      rw (
        query-step d s at,
        codec-case.complete s at is_join (code ++ sides) tt whole i tt,
        codec-operator.complete s (at + length (byte 0)) o sides tt after-case in-case tt,
      )
      refl

  join-ends : right + length (encode_query r) ≡ at + length (encode_query (join o q r))
  unfolding encode_query
  join-ends =
      omega (
        arith,
        length-append (byte 0) (code ++ (encode_query q ++ encode_query r)),
        length-append code (encode_query q ++ encode_query r),
        length-append (encode_query q) (encode_query r),
      )

-- A leaf is decoded alike with any depth left.
leaf-same : (c : QueryCase) (d : ℕ) → decode_case (decode_query_in d) c ≡ decode_case (decode_query_in 23) c → (s : List ℕ) (at : ℕ) (parts rest : List ℕ) →
    drop at s ≡ (byte (case_code c) ++ parts) ++ rest → at ≤ length s → decode_query_in (suc d) s at ≡ decode_query s at
unfolding decode_query
leaf-same c d same s at parts rest e i =
    rw (
      query-step d s at,
      query-step 23 s at,
      codec-case.complete s at c (parts ++ rest) tt (e ∙ append_assoc (byte (case_code c)) parts rest) i tt,
      same,
    )
    refl

-- A query of at most the depth that is left is decoded.
shallow : (d : ℕ) (q : Query) → ValidLeaves q → depth q ≤ d → (s : List ℕ) (at : ℕ) (rest : List ℕ) → drop at s ≡ encode_query q ++ rest → at ≤ length s →
    decode_query_in d s at ≡ got q (at + length (encode_query q))
unfolding ValidLeaves depth encode_query
shallow zero q h k s at rest e i = absurd (omega (arith, some-depth q))
shallow (suc d) (join o q r) h k s at rest e i =
    join_step o q r s at rest e i d
    ∙ rw (
      shallow d q h.0 (omega arith) s (left o q r s at rest e i) (encode_query r ++ rest) (left_here o q r s at rest e i) (in_left o q r s at rest e i),
      shallow d r h.1 (omega arith) s (right o q r s at rest e i) rest (right-here o q r s at rest e i) (in_right o q r s at rest e i),
    )
    (ap (got (join o q r)) (join-ends o q r s at rest e i))
shallow (suc d) (keyword t) h k s at rest e i =
    leaf-same is_keyword d refl s at _ rest e i ∙ (codec-query {p = anywhere}).complete s at (keyword t) rest (h, omega arith) e i tt
shallow (suc d) (field t n) h k s at rest e i =
    leaf-same is_field d refl s at _ rest e i ∙ (codec-query {p = anywhere}).complete s at (field t n) rest (h, omega arith) e i tt
shallow (suc d) (limit v b n) h k s at rest e i =
    leaf-same is_limit d refl s at _ rest e i ∙ (codec-query {p = anywhere}).complete s at (limit v b n) rest (h, omega arith) e i tt

-- A deeper one is refused where the depth ends.
record TooDeep (a : Outcome Query) : Type 0 where
  place : ℕ
  is : a ≡ refused (fault depth_ceiling place 0)

too-deep : (d : ℕ) (q : Query) → ValidLeaves q → d < depth q → (s : List ℕ) (at : ℕ) (rest : List ℕ) → drop at s ≡ encode_query q ++ rest → at ≤ length s →
    TooDeep (decode_query_in d s at)
unfolding ValidLeaves depth decode_query_in
too-deep zero q h k s at rest e i = record { place = at; is = refl }
too-deep (suc d) (keyword t) h k s at rest e i = absurd (omega arith)
too-deep (suc d) (field t n) h k s at rest e i = absurd (omega arith)
too-deep (suc d) (limit v b n) h k s at rest e i = absurd (omega arith)
too-deep (suc d) (join o q r) h k s at rest e i =
    go (dec_le (depth q) d)
    (λ deep. too-deep d q h.0 deep s (left o q r s at rest e i) (encode_query r ++ rest) (left_here o q r s at rest e i) (in_left o q r s at rest e i))
    (λ deep. too-deep d r h.1 deep s (right o q r s at rest e i) rest (right-here o q r s at rest e i) (in_right o q r s at rest e i))
  where
    go : Dec (depth q ≤ d) → (d < depth q → TooDeep (decode_query_in d s (left o q r s at rest e i))) →
        (d < depth r → TooDeep (decode_query_in d s (right o q r s at rest e i))) → TooDeep (decode_query_in (suc d) s at)
    go (no f) deep_left deep_right =
        let t = deep_left (omega arith) in
        record { place = t.place; is = join_step o q r s at rest e i d ∙ rw t.is refl }
    go (yes m) deep_left deep_right =
        let t = deep_right (omega arith) in
        let u = shallow d q h.0 m s (left o q r s at rest e i) (encode_query r ++ rest) (left_here o q r s at rest e i) (in_left o q r s at rest e i) in
        record { place = t.place; is = join_step o q r s at rest e i d ∙ rw (u, t.is) refl }

both-fit : (o : Operator) (q r : Query) → QueryFits q → QueryFits r → QueryFits (join o q r)
unfolding QueryFits
both-fit o q r a b = (a, b)

both-leaves : (o : Operator) (q r : Query) → ValidLeaves q → ValidLeaves r → ValidLeaves (join o q r)
unfolding ValidLeaves
both-leaves o q r a b = (a, b)

-- The number of a join of valid queries.
join-judged : (o : Operator) (q r : Query) → Valid lone_query q → Valid lone_query r →
    Judged lone_query (join o q r) (spec_join_number (length (encode_query (join o q r))) (depth (join o q r)))
unfolding spec_join_number decode decode_query
join-judged o q r hq hr =
    ceiling-judged lone_query m (pick (leb (depth m) 24) 0 6) fit (λ within. go within (leb (depth m) 24) refl)
  where
    m : Query
    m = join o q r

    fit : QueryFits m
    fit = both-fit o q r (query-fits q hq.content.0) (query-fits r hr.content.0)

    leaves : ValidLeaves m
    leaves = both-leaves o q r hq.content.0 hr.content.0

    go : length (encode_query m) ≤ packet_ceiling → (t : Bool) → leb (depth m) 24 ≡ t → Judged lone_query m (pick t 0 6)
    go within true e = valid-judged lone_query m (record { content = (leaves, leb-true (depth m) 24 e); few = within })
    go within false e =
        let k = leb-false (depth m) 24 e in
        let t = too-deep 24 m leaves (omega arith) (encode_query m) 0 [] (sym (append-nil (encode_query m))) (omega arith) in
        refused_for fit (fault depth_ceiling t.place 0) (rw (le-leb (length (encode_query m)) packet_ceiling within, t.is) refl)

-- What code knows of a side: the query that its bytes are accepted as, and its depth.
pub record Side (s : List ℕ) (q : Query) (d : ℕ) : Type 0 where
  pub is : decode lone_query s ≡ accepted q
  pub bytes : s ≡ encode_query q
  pub deep : depth q ≡ d

told-message : {A : Type 0} (a : Answer A) {m : A} → message m ≡ reply a → a ≡ accepted m
told-message (refusal f) e = cc
told-message (accepted b) e = cc

placed-depth : (o : Outcome Query) {d end : ℕ} → depths o ≡ got d end → depth (query_of o) ≡ d
unfolding depths
placed-depth (refused f) e = absurd (never e)
placed-depth (got q next) e = same-value e

pub side : (s : List ℕ) → ((i : ℕ) → Fits w8 (get_or s i 0)) → (q : place.Query) → message (query_in s q) ≡ reply (decode lone_query s) → QueryPlaced s q →
    Side s (query_in s q) q.depth
side s known q e p =
    let is = told-message (decode lone_query s) e in
    record { is = is; bytes = ((accepts lone_query s (slice-bytes s known) (query_in s q)).0 is).0; deep = placed-depth (decode_query s q.at) p }

join-depth : (o : Operator) (q r : Query) → depth (join o q r) ≡ suc (max (depth q) (depth r))
unfolding depth
join-depth o q r = refl

module _ (o : Operator) (a b : List ℕ) where
  abbrev pub joined : List ℕ
  joined = byte 0 ++ (byte (operator_code o) ++ (a ++ b))

  join-size : length joined ≡ 2 + length a + length b
  join-size =
      omega (
        arith,
        length-append (byte 0) (byte (operator_code o) ++ (a ++ b)),
        length-append (byte (operator_code o)) (a ++ b),
        length-append a b,
        length-little_endian 1 0,
        length-little_endian 1 (operator_code o),
      )

  abbrev JoinPromised : Answer Query → Answer Query → List ℕ → Written → Type 0
  JoinPromised x y output w = Promised lone_query (sides_there x y) (join_of o x y) output w

  abbrev pub JoinReady : (number : ℕ) → Type 0
  JoinReady number = Ready (JoinPromised (decode lone_query a) (decode lone_query b)) number joined (2 + length a + length b)

  -- A side that is no lone query has its own number, which `?` passes on.
  module _ {output : List ℕ} (rule : Rule) (answer : Result ℕ Refusal) (passed : IsErrAnd answer (λ g. g ≡ refusal_of rule)) where
    pub left-refused : refused_with (number (rule_meaning rule)) ≡ reply (decode lone_query a) → JoinPromised (decode lone_query a) (decode lone_query b) output (answered answer output)
    left-refused e = rw (propagated answer passed, number-of-rule rule) (go (decode lone_query a) e)
      where
        go : (x : Answer Query) {n : ℕ} → refused_with n ≡ reply x → JoinPromised x (decode lone_query b) output (unwritten n output)
        go (refusal f) {n} e = let same : n ≡ number f.rule = cc in rw same (gone output refl)
        go (accepted q) e = differ cc

    pub right-refused : {q : Query} {d : ℕ} → Side a q d → refused_with (number (rule_meaning rule)) ≡ reply (decode lone_query b) →
        JoinPromised (decode lone_query a) (decode lone_query b) output (answered answer output)
    right-refused {q} h e = rw (propagated answer passed, number-of-rule rule, h.is) (go (decode lone_query b) e)
      where
        go : (y : Answer Query) {n : ℕ} → refused_with n ≡ reply y → JoinPromised (accepted q) y output (unwritten n output)
        go (refusal f) {n} e = let same : n ≡ number f.rule = cc in rw same (gone output refl)
        go (accepted r) e = differ cc

  module _ (ha : Bytes a) (hb : Bytes b) {q r : Query} {d e : ℕ} (h : Side a q d) (k : Side b r e) where
    join-bytes : joined ≡ encode_query (join o q r)
    unfolding encode_query
    join-bytes = rw (h.bytes, k.bytes) refl

    number_same : spec_join_number (length (encode_query (join o q r))) (depth (join o q r)) ≡ spec_join_number (2 + length a + length b) (suc (max d e))
    number_same = rw (← join-bytes, join-size, join-depth o q r, h.deep, k.deep) refl

    pub join-ready : JoinReady (spec_join_number (2 + length a + length b) (suc (max d e)))
    join-ready =
        let judged : Judged lone_query (join o q r) (spec_join_number (2 + length a + length b) (suc (max d e))) =
        rw (← number_same) (join-judged o q r ((accepts lone_query a ha q).0 h.is).1 ((accepts lone_query b hb r).0 k.is).1) in
        let bytes = bytes-append (byte 0) _ (bytes-little_endian 1 0) (bytes-append (byte (operator_code o)) _ (bytes-little_endian 1 (operator_code o)) (bytes-append a b ha hb)) in
        rw (h.is, k.is) (message-ready refl judged join-bytes bytes join-size)

pub join-fits : (size deep : ℕ) → 0 ≡ spec_join_number size deep → size ≤ 65536
unfolding spec_join_number
join-fits size deep e = (ceiling-fits size _ e).0
