-- What each answer of the code stands for, as an outcome of the format's decoding.
use Rattle.std.specs.Prelude.{ℕ, ◌+◌, ◌<◌, ◌≤◌, ◌≡◌, List, length, Result, Ok, Err}
use Rattle.std.specs.Prelude as prelude
use Rattle.std.specs.Prelude.{Some, None}
use Rattle.std.proofs.Math.Option.{Option, none, some}
use Rattle.format.specs.Decoding as decoding
use Rattle.format.specs.Decoding.{Outcome, refused, got, bytes_at, Decoder, decode_many, items_of, ends, Reply, refused_with, message}
use Rattle.wire.specs.declared.Rule.{Rule}
use Rattle.wire.specs.declared.Fault.{Fault}
use Rattle.wire.specs.declared.Cursor.{Cursor}
use Rattle.wire.specs.declared.Place.{Place}
use Rattle.wire.specs.declared.Items.{Items}

abbrev pub rule_meaning : Rule → decoding.Rule
rule_meaning Rule.Short = decoding.short
rule_meaning Rule.Opening = decoding.opening
rule_meaning Rule.FrameLength = decoding.frame_length
rule_meaning Rule.Kind = decoding.kind
rule_meaning Rule.Choice = decoding.choice
rule_meaning Rule.StatusBit = decoding.status_bit
rule_meaning Rule.BytesCeiling = decoding.bytes_ceiling
rule_meaning Rule.DepthCeiling = decoding.depth_ceiling
rule_meaning Rule.NameCeiling = decoding.name_ceiling
rule_meaning Rule.GapCeiling = decoding.gap_ceiling
rule_meaning Rule.Rest = decoding.rest
rule_meaning Rule.Order = decoding.order
rule_meaning Rule.DataLength = decoding.data_length
rule_meaning Rule.SizeTag = decoding.size_tag

abbrev pub fault_meaning : Fault → decoding.Fault
fault_meaning f = decoding.fault (rule_meaning f.rule) f.at f.size

-- A step's value and the cursor after it, or its fault: `Step` of the code, since antt has no name for an alias.
abbrev pub Step : Type 0 → Type 0
Step A = Result (A × Cursor) Fault

-- What a step read, under the meaning of its value, and the offset after it; or its fault.
abbrev pub step_meaning : {A B : Type 0} → (A → B) → Step A → Outcome B
step_meaning mean (Ok (v, c)) = got (mean v) c.at
step_meaning mean (Err f) = refused (fault_meaning f)

-- What is said of the value that a step read, if it read one.
abbrev pub OfStep : {A : Type 0} → (A → Type 0) → Step A → Type 0
OfStep P (Ok (v, c)) = P v
OfStep P (Err f) = Unit {0}

abbrev pub number_meaning : Step ℕ → Outcome ℕ
number_meaning = step_meaning (λ n. n)

-- A place stands for the bytes of the input that lie there.
abbrev pub hash_at : List ℕ → ℕ → List ℕ
hash_at s at = bytes_at s at 16

abbrev pub hash_meaning : List ℕ → Step ℕ → Outcome (List ℕ)
hash_meaning s = step_meaning (hash_at s)

abbrev pub place_bytes : List ℕ → Place → List ℕ
place_bytes s p = bytes_at s p.at p.len

abbrev pub place_meaning : List ℕ → Step Place → Outcome (List ℕ)
place_meaning s = step_meaning (place_bytes s)

-- Since bytes past the end are left out of what a place stands for, a place with a made-up length would pass. So contracts also say that it
-- lies wholly inside the bytes: no byte that it counts is missing, and an empty one is no further on than their end.
abbrev pub Inside : List ℕ → (at len : ℕ) → Type 0
Inside s at len = at + len ≤ length s

abbrev pub HashInside : List ℕ → ℕ → Type 0
HashInside s at = Inside s at 16

abbrev pub PlaceInside : List ℕ → Place → Type 0
PlaceInside s p = Inside s p.at p.len

abbrev pub PlaceStepInside : List ℕ → Step Place → Type 0
PlaceStepInside s = OfStep (PlaceInside s)

-- The place of a list stands for the items that a decoder finds there. Since a place with no such items would then pass for the
-- empty list, contracts also say that the items lie there, up to the list's end.
abbrev pub items_in : {A : Type 0} → Decoder A → List ℕ → Items → List A
items_in d s l = items_of (decode_many l.count d s l.at)

abbrev pub ItemsPlaced : {A : Type 0} → Decoder A → List ℕ → Items → Type 0
ItemsPlaced d s l = ends (decode_many l.count d s l.at) ≡ got tt l.end

abbrev pub items_meaning : {A : Type 0} → Decoder A → List ℕ → Step Items → Outcome (List A)
items_meaning d s = step_meaning (items_in d s)

abbrev pub ItemsStepPlaced : {A : Type 0} → Decoder A → List ℕ → Step Items → Type 0
ItemsStepPlaced d s (Ok (l, c)) = ItemsPlaced d s l × (l.end ≡ c.at)
ItemsStepPlaced d s (Err f) = Unit {0}

-- The list lies wholly inside the bytes; so does the place of an empty one.
abbrev pub ItemsInside : {A : Type 0} → Decoder A → List ℕ → Items → Type 0
ItemsInside d s l = ItemsPlaced d s l × (l.end ≤ length s)

abbrev pub ItemsStepInside : {A : Type 0} → Decoder A → List ℕ → Step Items → Type 0
ItemsStepInside d s = OfStep (ItemsInside d s)

-- Where a step ends, without its value.
abbrev pub end_meaning : {A : Type 0} → Step A → Outcome (Unit {0})
end_meaning = step_meaning (λ v. tt)

-- What a reader answers at a cursor ends where the decoder, which keeps no value, does.
abbrev pub EndsBy : {A : Type 0} → Decoder (Unit {0}) → List ℕ → (Cursor → Step A → Type 0) → Type 0
EndsBy {A} d s Answers = (c : Cursor) (answer : Step A) → Answers c answer → end_meaning answer ≡ d s c.at

-- The list that a step read has so many items, from the offset to the cursor after it.
abbrev pub ItemsAre : (at count : ℕ) → Step Items → Type 0
ItemsAre at count (Ok (l, c)) = l ≡ record { at = at; end = c.at; count = count }
ItemsAre at count (Err f) = Unit {0}

-- A step that has no value: what was read is known.
abbrev pub done_meaning : Result Cursor Fault → Outcome (Unit {0})
done_meaning (Ok c) = got tt c.at
done_meaning (Err f) = refused (fault_meaning f)

-- What a caller gets of a whole input: the value, or the rule that is broken.
abbrev pub reply_meaning : {A B : Type 0} → (A → B) → Result A Rule → Reply B
reply_meaning mean (Ok a) = message (mean a)
reply_meaning mean (Err rule) = refused_with (decoding.number (rule_meaning rule))

-- What is said of the value of a whole input, if it is accepted.
abbrev pub OfReply : {A : Type 0} → (A → Type 0) → Result A Rule → Type 0
OfReply P (Ok a) = P a
OfReply P (Err rule) = Unit {0}

-- The code's Option as the format's.
abbrev pub option_meaning : {A B : Type 0} → (A → B) → prelude.Option A → Option B
option_meaning mean (Some a) = some (mean a)
option_meaning mean None = none

-- An item of so many bytes is there, and the cursor comes after it; or it is short.
abbrev pub SkipIs : List ℕ → (at len : ℕ) → Result Cursor Fault → Type 0
SkipIs s at len (Ok c) = Inside s at len × (c.at ≡ at + len)
SkipIs s at len (Err f) = (length s < at + len) × (f ≡ record { rule = Rule.Short; at = at; size = len })
