-- What the answer of `why` stands for, and the numbers that a caller from C gets for it.
use Rattle.std.specs.Prelude as prelude
use Rattle.std.specs.Prelude.{ℕ, List, [], ◌∷◌}
use Rattle.std.proofs.Math.Option.{Option, none, some}
use Rattle.format.specs.Decoding as decoding
use Rattle.wire.specs.WireAnswers.{fault_meaning, option_meaning}
use Rattle.wire.specs.declared.Fault.{Fault}

abbrev pub reason_meaning : prelude.Option Fault → Option decoding.Fault
reason_meaning = option_meaning fault_meaning

-- The rules by number: ED2K_RULE_.. in ed2k.h. Rules to come have the numbers after these.
abbrev pub rule_code : decoding.Rule → ℕ
rule_code decoding.short = 1
rule_code decoding.opening = 2
rule_code decoding.frame_length = 3
rule_code decoding.kind = 4
rule_code decoding.choice = 5
rule_code decoding.status_bit = 6
rule_code decoding.bytes_ceiling = 7
rule_code decoding.depth_ceiling = 8
rule_code decoding.name_ceiling = 9
rule_code decoding.gap_ceiling = 10
rule_code decoding.rest = 11
rule_code decoding.order = 12
rule_code decoding.data_length = 13
rule_code decoding.size_tag = 14

-- Number, rule, offset and size; all are 0 where there is no reason.
abbrev pub spec_reason_numbers : Option decoding.Fault → List ℕ
spec_reason_numbers none = 0 ∷ 0 ∷ 0 ∷ 0 ∷ []
spec_reason_numbers (some f) = decoding.number f.rule ∷ rule_code f.rule ∷ f.at ∷ f.size ∷ []
