-- What a writer of a single item owes: a String, a name, a tag. An item is no message of its own, so it has no byte ceiling. 01's order is
-- that of messages otherwise: 6 for a text that its count field cannot hold, then the number that the reader would give for the finished
-- bytes, and 10 last. The finished bytes of an item never spell another one.
use Rattle.std.specs.Prelude.{ℕ, ◌≡◌, List, length}
use Rattle.format.specs.Messages.{Tag, TagType, TagValue}
use Rattle.format.specs.Layout.{encode_tag}
use Rattle.format.specs.Decoding.{Decoder, Fault, Outcome, got, number, refused}
use Rattle.format.specs.Order.{decode_tag}
use Rattle.format.specs.Writing.{TagFits, Written, unwritten, written_into}
use Rattle.format.specs.RoundTrip.{IsThere}

-- The number for an item before the room is asked for. `Fits` says that its texts fit their count fields.
pub data ItemJudged {A : Type 0} (Fits : A → Type 0) (encode : A → List ℕ) (decode : Decoder A) (a : A) : ℕ → Type 0 where
  overflows : (Fits a → ⊥) → ItemJudged Fits encode decode a 6
  refused_for : Fits a → (f : Fault) → decode (encode a) 0 ≡ refused f → ItemJudged Fits encode decode a (number f.rule)
  fine : Fits a → decode (encode a) 0 ≡ got a (length (encode a)) → ItemJudged Fits encode decode a 0

-- A write of an item. `there` is the reading of its places, as for a message (RoundTrip.WritesAt).
pub data WritesItem {A : Type 0} (Fits : A → Type 0) (encode : A → List ℕ) (decode : Decoder A) (there : Outcome (Unit {0})) (a : A) (output : List ℕ) : Written → Type 0 where
  absent : (f : Fault) → there ≡ refused f → WritesItem Fits encode decode there a output (unwritten (number f.rule) output)
  refuses : IsThere there → (n : ℕ) → ItemJudged Fits encode decode a n → (n ≡ 0 → ⊥) → WritesItem Fits encode decode there a output (unwritten n output)
  tries : IsThere there → ItemJudged Fits encode decode a 0 → WritesItem Fits encode decode there a output (written_into (encode a) output)

abbrev pub tag_of : List ℕ → (t : TagType) → TagValue t → Tag
tag_of name t value = record { name = name; value = (t, value) }

abbrev pub WritesTag : Outcome (Unit {0}) → Tag → List ℕ → Written → Type 0
WritesTag there t output w = WritesItem TagFits encode_tag decode_tag there t output w
