-- How bytes are decoded: item by item, each there before it is checked and checked before the next is read (01, "Order").
-- A decoder takes the whole bytes and a place in them. It finds a fault, or a value and the offset after it.
use Rattle.std.proofs.Math.Option.{Option, none, some}
use Rattle.std.specs.Prelude.{List, [], ◌∷◌, ℕ, zero, suc, ◌+◌, ◌-◌, ◌*◌, length, take, drop, leb, eqb}
use Rattle.format.specs.Tables.{pick}

-- The rules that bytes can break, and 01's number for each. Where 01 gives one number to several rules, they are reported apart.
pub data Rule : Type 0 where
  short opening frame_length kind choice status_bit : Rule
  bytes_ceiling depth_ceiling name_ceiling gap_ceiling : Rule
  rest order data_length size_tag : Rule

abbrev pub number : Rule → ℕ
number short = 1
number opening = 2
number frame_length = 3
number kind = 4
number choice = 5
number status_bit = 5
number bytes_ceiling = 6
number depth_ceiling = 6
number name_ceiling = 6
number gap_ceiling = 6
number rest = 7
number order = 8
number data_length = 8
number size_tag = 9

-- The rule that is broken, where the faulty item begins, and how many bytes it has.
pub record Fault : Type 0 where
  pub rule : Rule
  pub at : ℕ
  pub size : ℕ

abbrev pub fault : Rule → ℕ → ℕ → Fault
fault rule at size = record { rule = rule; at = at; size = size }

pub data Outcome (A : Type 0) : Type 0 where
  refused : Fault → Outcome A
  got : A → (next : ℕ) → Outcome A

abbrev pub Decoder : Type 0 → Type 0
Decoder A = List ℕ → ℕ → Outcome A

-- One decoder after another; a fault is propagated unchanged. `do` stands for a chain of these.
abbrev pub and_then : {A B : Type 0} → List ℕ → Outcome A → (A → Decoder B) → Outcome B
and_then s (refused f) g = refused f
and_then s (got a at) g = g a s at

infixl 10 ◌>>=◌
abbrev pub ◌>>=◌ : {A B : Type 0} → Decoder A → (A → Decoder B) → Decoder B
◌>>=◌ r g = λ s at. and_then s (r s at) g

abbrev pub ◌>>◌ : {A B : Type 0} → Decoder A → Decoder B → Decoder B
◌>>◌ r q = λ s at. and_then s (r s at) (λ _. q)

abbrev pub pure : {A : Type 0} → A → Decoder A
pure a = λ s at. got a at

-- A run of n bytes, which must be there.
abbrev pub bytes_at : List ℕ → ℕ → ℕ → List ℕ
bytes_at s at n = take n (drop at s)

unfoldable pub decode_run : ℕ → Decoder (List ℕ)
decode_run n = λ s at. pick (leb (at + n) (length s)) (got (bytes_at s at n) (at + n)) (refused (fault short at n))

-- All the bytes that are left, and their number.
unfoldable pub decode_tail : Decoder (List ℕ)
decode_tail = λ s at. got (drop at s) (length s)

abbrev pub remaining : Decoder ℕ
remaining = λ s at. got (length s - at) at

-- Refused before a byte is read.
abbrev pub refuse : {A : Type 0} → Rule → Decoder A
refuse rule = λ s at. refused (fault rule at 0)

-- The number that bytes stand for, low byte first.
unfoldable pub from_little_endian : List ℕ → ℕ
from_little_endian [] = 0
from_little_endian (b ∷ l) = b + 256 * from_little_endian l

abbrev pub decode_number : ℕ → Decoder ℕ
decode_number k = do
  l ← decode_run k
  pure (from_little_endian l)

-- What a check of a value finds.
pub data Check (A : Type 0) : Type 0 where
  passes : A → Check A
  violates : Rule → Check A

-- An item of k bytes is checked once it is there; a fault lies where it begins.
abbrev pub settled : {A : Type 0} → ℕ → ℕ → Check A → ℕ → Outcome A
settled at k (passes a) next = got a next
settled at k (violates rule) next = refused (fault rule at k)

abbrev pub checked : {A B : Type 0} → ℕ → (A → Check B) → Decoder A → Decoder B
checked k check r = λ s at. and_then s (r s at) (λ a s next. settled at k (check a) next)

-- The check also sees how many bytes come after the item.
abbrev pub checked_before : {A B : Type 0} → ℕ → (ℕ → A → Check B) → Decoder A → Decoder B
checked_before k check r = λ s at. and_then s (r s at) (λ a s next. settled at k (check (length s - next) a) next)

-- The faulty item is all that was decoded.
abbrev pub checked_whole : {A B : Type 0} → (A → Check B) → Decoder A → Decoder B
checked_whole check r = λ s at. and_then s (r s at) (λ a s next. settled at (next - at) (check a) next)

-- One check after another.
abbrev pub and_check : {A B : Type 0} → Check A → (A → Check B) → Check B
and_check (passes a) f = f a
and_check (violates rule) f = violates rule

-- What a table lists, or the rule that it must.
abbrev pub found : {K : Type 0} → Rule → Option K → Check K
found rule none = violates rule
found rule (some k) = passes k

-- n items, one after the other. A count is never checked: one above what is there ends at the first missing item.
abbrev pub decode_many : {A : Type 0} → ℕ → Decoder A → Decoder (List A)
decode_many zero r = pure []
decode_many (suc n) r = do
  a ← r
  l ← decode_many n r
  pure (a ∷ l)

-- The answer to a caller: the byte ceiling first, then the items, then the rest.
pub data Answer (A : Type 0) : Type 0 where
  refusal : Fault → Answer A
  accepted : A → Answer A

abbrev pub finish : {A : Type 0} → List ℕ → Outcome A → Answer A
finish s (refused f) = refusal f
finish s (got a at) = pick (eqb at (length s)) (accepted a) (refusal (fault rest at 1))

abbrev pub decode_whole : {A : Type 0} → ℕ → Decoder A → List ℕ → Answer A
decode_whole ceiling r s = pick (leb (length s) ceiling) (finish s (r s 0)) (refusal (fault bytes_ceiling 0 (length s)))

-- What a caller gets: the message, or the number alone.
pub data Reply (A : Type 0) : Type 0 where
  refused_with : (number : ℕ) → Reply A
  message : A → Reply A

abbrev pub reply : {A : Type 0} → Answer A → Reply A
reply (refusal f) = refused_with (number f.rule)
reply (accepted a) = message a

-- Code returns places in the lent bytes: a place and a count stand for the items that are decoded there. Where none are, this
-- alone would pass for an empty list, so a contract also says where they end (`ends`).
abbrev pub items_of : {A : Type 0} → Outcome (List A) → List A
items_of (refused f) = []
items_of (got l at) = l

-- Where a decoder ends, without its value.
unfoldable pub ends : {A : Type 0} → Outcome A → Outcome (Unit {0})
ends (refused f) = refused f
ends (got a at) = got tt at
