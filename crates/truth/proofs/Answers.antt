-- What the readers' answers for a lone query and a lone tag list make of the truth.
use Prim.Native.Nat.{ℕ, ◌≤◌}
use mathlib.Core.Path.{◌≡◌, refl, sym, ap, ◌∙◌}
use mathlib.Core.Bool.{Bool, false}
use mathlib.Core.List.{List}
use lib.ListN.{length}
use borrow.Author.Tests.{eq-eqb, le-leb, ne_eqb}
use Rattle.format.specs.Messages.{Query, Tag, lone_query, lone_tags}
use Rattle.format.specs.Decoding.{Fault, Outcome, refused, got, number, decode_many, ends, items_of}
use Rattle.format.specs.Decoding.{Answer, refusal, accepted, finish, Reply, refused_with, message, reply}
use Rattle.format.specs.Order.{decode_counted, decode_dword, decode_query, decode_query_in, decode_tag, decode_tags}
use Rattle.format.specs.MetOrder.{decode}
use Rattle.format.specs.Truth.{on_query, truth}
use Rattle.format.proofs.Differ.{differ}
use Rattle.format.proofs.Codec.{never, same_place, same-value}
use Rattle.wire.proofs.Loops.{ended-got}
use Rattle.tags.specs.Skips.{offset_after}
use Rattle.query.proofs.Skips.{after-ends}
use Rattle.truth.specs.TruthAnswers.{truths}

-- A reply is not both a number and a message.
no-reply : {A P : Type 0} {n : ℕ} {m : A} → ◌≡◌ {A = Reply A} (refused_with n) (message m) → P
no-reply e = differ cc

reply-accepted : {A : Type 0} (b : Answer A) {m : A} → message m ≡ reply b → accepted m ≡ b
reply-accepted (refusal f) e = no-reply (sym e)
reply-accepted (accepted m) e = cc

on-refused-query : (a : Answer Query) (b : Answer (List Tag)) {n : ℕ} →
    refused_with n ≡ reply a → record { number = n; holds = false } ≡ on_query a b
on-refused-query (refusal f) b e = cc
on-refused-query (accepted q) b e = no-reply e

on-refused-tags : (a : Answer Query) (b : Answer (List Tag)) {q : Query} {n : ℕ} →
    message q ≡ reply a → refused_with n ≡ reply b → record { number = n; holds = false } ≡ on_query a b
on-refused-tags (refusal f) b e k = no-reply (sym e)
on-refused-tags (accepted q) (refusal f) e k = cc
on-refused-tags (accepted q) (accepted l) e k = no-reply k

-- The truth by the two replies.
module _ (s t : List ℕ) where
  pub query_refused : {n : ℕ} → refused_with n ≡ reply (decode lone_query s) → record { number = n; holds = false } ≡ truth s t
  unfolding truth
  query_refused e = on-refused-query (decode lone_query s) (decode lone_tags t) e

  pub tags_refused : {q : Query} {n : ℕ} → message q ≡ reply (decode lone_query s) → refused_with n ≡ reply (decode lone_tags t) →
      record { number = n; holds = false } ≡ truth s t
  unfolding truth
  tags_refused e k = on-refused-tags (decode lone_query s) (decode lone_tags t) e k

  pub tags_accepted : {l : List Tag} → message l ≡ reply (decode lone_tags t) → on_query (decode lone_query s) (accepted l) ≡ truth s t
  unfolding truth
  tags_accepted k = ap (on_query (decode lone_query s)) (reply-accepted (decode lone_tags t) k)

-- A list that ends with the bytes is a lone list.
module _ (t : List ℕ) (some : length t ≡ 0 → ⊥) (few : length t ≤ 65536) (end : length t ≡ offset_after (decode_tags t 0)) {count first : ℕ} (counted : got count first ≡ decode_dword t 0) where
  pub list_placed : ends (decode_many count decode_tag t first) ≡ got tt (length t)
  unfolding decode_tags decode_counted
  list_placed = after-ends (decode_many count decode_tag t first) (rw (← counted) at end) some

  pub list_accepted : message (items_of (decode_many count decode_tag t first)) ≡ reply (decode lone_tags t)
  unfolding decode decode_tags decode_counted
  list_accepted =
      let g = ended-got (decode_many count decode_tag t first) (sym list_placed) in
      rw (le-leb _ 65536 few, ← counted, ← g.1, eq-eqb (length t) (length t) refl) refl

-- The truth by the evaluation of the query, which refuses what the reader of the query refuses.
module _ (s : List ℕ) (l : List Tag) where
  refused-by : (o : Outcome Query) {f : Fault} → refused f ≡ truths l o → record { number = number f.rule; holds = false } ≡ on_query (finish s o) (accepted l)
  unfolding truths
  refused-by (refused g) e = cc
  refused-by (got q p) e = absurd (never e)

  holds_by : (o : Outcome Query) {b : Bool} {next : ℕ} → got b next ≡ truths l o → next ≡ length s → record { number = 0; holds = b } ≡ on_query (finish s o) (accepted l)
  unfolding truths
  holds_by (refused g) e h = absurd (never (sym e))
  holds_by (got q p) e h = rw (eq-eqb p (length s) (sym (same_place e) ∙ h)) (ap (λ b. record { number = 0; holds = b }) (same-value e))

  rest-by : (o : Outcome Query) {b : Bool} {next : ℕ} → got b next ≡ truths l o → (next ≡ length s → ⊥) → record { number = 7; holds = false } ≡ on_query (finish s o) (accepted l)
  unfolding truths
  rest-by (refused g) e h = absurd (never (sym e))
  rest-by (got q p) e h = rw (ne_eqb p (length s) (λ z. h (same_place e ∙ z))) refl

  module _ (few : length s ≤ 65536) where
    whole : on_query (finish s (decode_query_in 24 s 0)) (accepted l) ≡ on_query (decode lone_query s) (accepted l)
    unfolding decode decode_query
    whole = rw (le-leb _ 65536 few) refl

    pub evaluation_refused : {f : Fault} → refused f ≡ truths l (decode_query_in 24 s 0) →
        record { number = number f.rule; holds = false } ≡ on_query (decode lone_query s) (accepted l)
    evaluation_refused e = refused-by (decode_query_in 24 s 0) e ∙ whole

    pub evaluated : {b : Bool} {next : ℕ} → got b next ≡ truths l (decode_query_in 24 s 0) → next ≡ length s →
        record { number = 0; holds = b } ≡ on_query (decode lone_query s) (accepted l)
    evaluated e h = holds_by (decode_query_in 24 s 0) e h ∙ whole

    pub bytes_left : {b : Bool} {next : ℕ} → got b next ≡ truths l (decode_query_in 24 s 0) → (next ≡ length s → ⊥) →
        record { number = 7; holds = false } ≡ on_query (decode lone_query s) (accepted l)
    bytes_left e h = rest-by (decode_query_in 24 s 0) e h ∙ whole
