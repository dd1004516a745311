-- What the answer of a call that writes stands for.
use Rattle.std.specs.Prelude.{ℕ, List, Result, Ok, Err}
use Rattle.format.specs.Writing as writing
use Rattle.wire.specs.declared.Rule.{Rule}
use Rattle.output.specs.declared.Refusal.{Refusal}

-- The number of 01, or of 02, for each refusal; 0 is an accepted call.
abbrev pub refusal_number : Refusal → ℕ
refusal_number Refusal.Short = 1
refusal_number Refusal.Opening = 2
refusal_number Refusal.FrameLength = 3
refusal_number Refusal.Kind = 4
refusal_number Refusal.Choice = 5
refusal_number Refusal.Limit = 6
refusal_number Refusal.Rest = 7
refusal_number Refusal.Data = 8
refusal_number Refusal.SizeTag = 9
refusal_number Refusal.Room = 10
refusal_number Refusal.Conflict = 11
refusal_number Refusal.Strangers = 12

abbrev pub number_of : {A : Type 0} → Result A Refusal → ℕ
number_of (Ok a) = 0
number_of (Err refusal) = refusal_number refusal

-- The refusal of what breaks a rule of the reader.
abbrev pub refusal_of : Rule → Refusal
refusal_of Rule.Short = Refusal.Short
refusal_of Rule.Opening = Refusal.Opening
refusal_of Rule.FrameLength = Refusal.FrameLength
refusal_of Rule.Kind = Refusal.Kind
refusal_of Rule.Choice = Refusal.Choice
refusal_of Rule.StatusBit = Refusal.Choice
refusal_of Rule.BytesCeiling = Refusal.Limit
refusal_of Rule.DepthCeiling = Refusal.Limit
refusal_of Rule.NameCeiling = Refusal.Limit
refusal_of Rule.GapCeiling = Refusal.Limit
refusal_of Rule.Rest = Refusal.Rest
refusal_of Rule.Order = Refusal.Data
refusal_of Rule.DataLength = Refusal.Data
refusal_of Rule.SizeTag = Refusal.SizeTag

-- An answer, together with the output that it leaves: `Written` of the code is a `Result` of a length.
abbrev pub answered : Result ℕ Refusal → List ℕ → writing.Written
answered (Ok length) output = record { number = 0; length = length; output = output }
answered (Err refusal) output = record { number = refusal_number refusal; length = 0; output = output }
