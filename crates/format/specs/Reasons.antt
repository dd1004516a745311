-- Why bytes are refused (02, No. 7): the fault that decides, and that it is the true one. proofs/Reasons shows that all of it holds.
use Rattle.std.specs.Prelude.{◌≡◌, Bool, true, false, ◌⊎◌, ◌↔◌, List, ℕ, ◌+◌, ◌<◌, ◌≤◌, get_or, length}
use Rattle.std.proofs.Math.Option.{Option, none, some}
use Rattle.format.specs.Messages.{Kind, server_link, client_link, udp_link, known_met, server_met, part_met, lone_query, lone_tags}
use Rattle.format.specs.Rules.{Bytes, ceiling}
use Rattle.format.specs.Decoding.{Answer, Fault, Reply, Rule, accepted, fault, message, refusal, refused_with, reply}
use Rattle.format.specs.Decoding.{bytes_ceiling, choice, data_length, depth_ceiling, frame_length, gap_ceiling, kind, name_ceiling, opening, order, rest, short, size_tag, status_bit}
use Rattle.format.specs.Decoding as decoding
use Rattle.format.specs.MetOrder.{decode}
use Rattle.format.specs.Demands.{Accepted}

-- The reason of an answer is the fault that decides; what is accepted has none.
abbrev pub fault_of : {A : Type 0} → Answer A → Option Fault
fault_of (refusal f) = some f
fault_of (accepted a) = none

unfoldable pub reason_of : Kind → List ℕ → Option Fault
reason_of k s = fault_of (decode k s)

abbrev pub NoneIfAccepted : Type 0
NoneIfAccepted = (k : Kind) (s : List ℕ) → (reason_of k s ≡ none) ↔ Accepted k s

-- The number of a reason is the one that the reader answers with: 0 stands for accepted.
abbrev pub reason_number : Option Fault → ℕ
reason_number none = 0
reason_number (some f) = decoding.number f.rule

abbrev pub reply_number : {A : Type 0} → Reply A → ℕ
reply_number (refused_with n) = n
reply_number (message m) = 0

abbrev pub NumberOfReader : Type 0
NumberOfReader = (k : Kind) (s : List ℕ) → reason_number (reason_of k s) ≡ reply_number (reply (decode k s))

-- The faulty item lies in the bytes; or they end within it, and then it is too short and nothing else.
abbrev pub Whole : List ℕ → Fault → Type 0
Whole s f = f.at + f.size ≤ length s

abbrev pub Cut : List ℕ → Fault → Type 0
Cut s f = (f.rule ≡ short) × (length s < f.at + f.size)

-- Bytes that are equal up to an offset, or up to their end if that comes first.
abbrev pub EqualUpTo : ℕ → List ℕ → List ℕ → Type 0
EqualUpTo end s t = (i : ℕ) → i < end → i < length s → get_or s i 0 ≡ get_or t i 0

-- The rules that the bytes of an item break. The others are about how many bytes there are or, in a part.met, about the whole tag list, of
-- which no list of so many bytes need be lawful: so the order of ranges is among them only where a range is an item.
abbrev pub item_rule : (ranges : Bool) → Rule → Bool
item_rule ranges short = false
item_rule ranges opening = true
item_rule ranges frame_length = false
item_rule ranges kind = true
item_rule ranges choice = true
item_rule ranges status_bit = true
item_rule ranges bytes_ceiling = false
item_rule ranges depth_ceiling = false
item_rule ranges name_ceiling = true
item_rule ranges gap_ceiling = false
item_rule ranges rest = false
item_rule ranges order = ranges
item_rule ranges data_length = false
item_rule ranges size_tag = false

abbrev pub range_items : Kind → Bool
range_items server_link = true
range_items client_link = true
range_items udp_link = true
range_items known_met = true
range_items server_met = true
range_items part_met = false
range_items lone_query = true
range_items lone_tags = true

-- Bytes that differ in the item alone and have another answer.
pub record Otherwise (k : Kind) (s : List ℕ) (f : Fault) : Type 0 where
  pub bytes : List ℕ
  pub are_bytes : Bytes bytes
  pub as_many : length bytes ≡ length s
  pub before : (i : ℕ) → i < f.at → get_or bytes i 0 ≡ get_or s i 0
  pub after : (i : ℕ) → f.at + f.size ≤ i → get_or bytes i 0 ≡ get_or s i 0
  pub other : reason_of k bytes ≡ some f → ⊥

-- What shows that a fault is the reason.
pub record Because (k : Kind) (s : List ℕ) (f : Fault) : Type 0 where
  pub there : (f.at ≤ length s) × (Whole s f ⊎ Cut s f)
  -- "any other input of the same length, equal up to the end of that item, or up to the end of the input if that comes first, is refused
  -- with the same number, offset and rule" (02); the size is the same too
  pub same : (t : List ℕ) → length t ≡ length s → EqualUpTo (f.at + f.size) s t → reason_of k t ≡ some f
  -- sharper, of an item that is cut short: none of its bytes counts, only those before it
  pub cut : Cut s f → (t : List ℕ) → length t ≡ length s → EqualUpTo f.at s t → reason_of k t ≡ some f
  -- where the bytes of the item break the rule, others in their place, with all else as it was, have another answer
  pub exact : Bytes s → item_rule (range_items k) f.rule ≡ true → Otherwise k s f

abbrev pub Explained : Kind → List ℕ → Option Fault → Type 0
Explained k s none = Accepted k s
Explained k s (some f) = Because k s f

abbrev pub TrueReasons : Type 0
TrueReasons = (k : Kind) (s : List ℕ) → Explained k s (reason_of k s)

-- All that a call owes that says why: the reason, the reader's own number, and what shows that it is true.
pub record Explains (k : Kind) (s : List ℕ) (reason : Option Fault) : Type 0 where
  pub given : reason ≡ reason_of k s
  pub number : reason_number reason ≡ reply_number (reply (decode k s))
  pub explained : Explained k s reason

-- The byte ceiling comes before all else, and its item is the whole.
abbrev pub CeilingReason : Type 0
CeilingReason = (k : Kind) (s : List ℕ) → ceiling k < length s → reason_of k s ≡ some (fault bytes_ceiling 0 (length s))

-- All of them.
pub record Reasons : Type 0 where
  pub none_if_accepted : NoneIfAccepted
  pub number_of_reader : NumberOfReader
  pub true_reasons : TrueReasons
  pub ceiling_reason : CeilingReason
