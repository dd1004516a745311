-- What the functions for the parts of a body say: how many bytes a part takes, and the rule that values break.
use Rattle.std.specs.Prelude.{ℕ, ◌+◌, ◌-◌, ◌/◌, ◌≤◌, ◌<◌, ◌≡◌, eqb, leb, Result, Ok, Err, Option, Some, None}
use Rattle.format.specs.Tables.{pick}
use Rattle.format.specs.Rules.{Byte, Dword, ValidAddress, ValidExtendedStatus, ValidTriple, Word}
use Rattle.format.specs.Decoding.{Outcome, refused}
use Rattle.wire.specs.declared.Fault.{Fault}
use Rattle.wire.specs.WireAnswers.{fault_meaning}
use Rattle.output.specs.declared.Refusal.{Refusal}
use Rattle.output.specs.WriteAnswers.{refusal_of}
use Rattle.records.specs.RecordAnswers.{address_of}
use Rattle.bodies.specs.declared.Body.{Body}
use Rattle.bodies.specs.declared.Form.{Form}
use Rattle.bodies.specs.declared.Triple.{Triple}
use Rattle.bodies.specs.BodyAnswers.{triple_of}
use Rattle.format.specs.RoundTrip.{IsThere}

-- How far a part extends: its size and the offset after its list or query; none, if a count field cannot hold it; or the refusal of a
-- place that does not hold what it should. `Extent` of the code, since antt has no name for an alias.
abbrev pub Extent : Type 0
Extent = Result (Option (ℕ × ℕ)) Refusal

-- The size is at most `bound`.
pub data Extends (there : Outcome (Unit {0})) (Fits : Type 0) (size : ℕ) (Ends : ℕ → Type 0) (bound : ℕ) : Extent → Type 0 where
  absent : (f : Fault) → there ≡ refused (fault_meaning f) → Extends there Fits size Ends bound (Err (refusal_of f.rule))
  too_long : IsThere there → (Fits → ⊥) → Extends there Fits size Ends bound (Ok None)
  sized : (n end : ℕ) → IsThere there → Fits → n ≡ size → n ≤ bound → Ends end → Extends there Fits size Ends bound (Ok (Some (n, end)))

-- A part without a list or query has no such place.
abbrev pub NoEnd : ℕ → Type 0
NoEnd end = Unit {0}

-- The most that a list or query can take, its count included: a slice has less than 2 ^ 63 bytes.
abbrev pub list_bound : ℕ
list_bound = 9223372036854775812

abbrev pub Adds : ℕ → Extent → Type 0
Adds n (Err r) = Unit {0}
Adds n (Ok None) = Unit {0}
Adds n (Ok (Some (m, end))) = n + m < 18446744073709551616

-- A part after n more bytes.
abbrev pub spec_bytes_after : ℕ → Extent → Extent
spec_bytes_after n (Err r) = Err r
spec_bytes_after n (Ok None) = Ok None
spec_bytes_after n (Ok (Some (m, end))) = Ok (Some (n + m, end))

-- A part after one that is too long.
abbrev pub rest_too_long : Extent → Extent
rest_too_long (Err r) = Err r
rest_too_long (Ok size) = Ok None

abbrev pub BothAdd : Extent → Extent → Type 0
BothAdd (Err r) b = Unit {0}
BothAdd (Ok None) b = Unit {0}
BothAdd (Ok (Some (n, end))) b = Adds n b

-- Two parts: a place that does not hold what it should comes before a count that does not fit.
abbrev pub both_extents : Extent → Extent → Extent
both_extents (Err r) b = Err r
both_extents (Ok None) b = rest_too_long b
both_extents (Ok (Some (n, end))) b = spec_bytes_after n b

-- The number of the rule that values break. Most bodies cannot break one: what lies at their places was decoded there.
abbrev pub spec_flag_rule : ℕ → ℕ
spec_flag_rule b = pick (leb b 1) 0 5

abbrev pub spec_range_rule : ℕ → ℕ → ℕ → ℕ
spec_range_rule start end size = pick (leb start end) (pick (eqb size (end - start)) 0 8) 8

abbrev pub spec_ranges_rule : Triple → Triple → ℕ
spec_ranges_rule a b = pick (leb a.first b.first) (pick (leb a.second b.second) (pick (leb a.third b.third) 0 8) 8) 8

abbrev pub spec_form_rule : Form → ℕ → ℕ
spec_form_rule Form.Plain n = pick (eqb (n / 65536) 0x5AAA) 5 0
spec_form_rule Form.Extended n = pick (eqb (n / 65536) 0x5AAA) 0 5

abbrev pub spec_broken_rule : Body → ℕ
spec_broken_rule Body.Nothing = 0
spec_broken_rule (Body.Query q) = 0
spec_broken_rule (Body.Hash h) = 0
spec_broken_rule (Body.Dword n) = 0
spec_broken_rule (Body.TwoDwords n m) = 0
spec_broken_rule (Body.Text t) = 0
spec_broken_rule (Body.TwoTexts t u) = 0
spec_broken_rule (Body.Address a) = 0
spec_broken_rule (Body.Addresses l) = 0
spec_broken_rule (Body.HashAddresses h l) = 0
spec_broken_rule (Body.AddressDword a n) = 0
spec_broken_rule (Body.HashAddressTags h a l) = 0
spec_broken_rule (Body.Record r) = 0
spec_broken_rule (Body.Records l) = 0
spec_broken_rule (Body.RecordsFlag l b) = spec_flag_rule b
spec_broken_rule (Body.RecordAddress r a) = 0
spec_broken_rule (Body.Hello r a) = 0
spec_broken_rule (Body.HashText h t) = 0
spec_broken_rule (Body.Hashset h l) = 0
spec_broken_rule (Body.SendingPart p) = spec_range_rule p.start p.end p.data.len
spec_broken_rule (Body.RequestParts p) = spec_ranges_rule p.starts p.ends
spec_broken_rule (Body.FileStatus p) = 0
spec_broken_rule (Body.StatusRequest p) = spec_form_rule p.form p.number
spec_broken_rule (Body.Status t) = 0
spec_broken_rule (Body.ExtendedStatus p) = 0

-- The numbers of a body are those of their fields.
abbrev pub Bounded : Body → Type 0
Bounded Body.Nothing = Unit {0}
Bounded (Body.Query q) = Unit {0}
Bounded (Body.Hash h) = Unit {0}
Bounded (Body.Dword n) = Dword n
Bounded (Body.TwoDwords n m) = Dword n × Dword m
Bounded (Body.Text t) = Unit {0}
Bounded (Body.TwoTexts t u) = Unit {0}
Bounded (Body.Address a) = ValidAddress (address_of a)
Bounded (Body.Addresses l) = Unit {0}
Bounded (Body.HashAddresses h l) = Unit {0}
Bounded (Body.AddressDword a n) = ValidAddress (address_of a) × Dword n
Bounded (Body.HashAddressTags h a l) = ValidAddress (address_of a)
Bounded (Body.Record r) = Dword r.client × Word r.port
Bounded (Body.Records l) = Unit {0}
Bounded (Body.RecordsFlag l b) = Byte b
Bounded (Body.RecordAddress r a) = (Dword r.client × Word r.port) × ValidAddress (address_of a)
Bounded (Body.Hello r a) = (Dword r.client × Word r.port) × ValidAddress (address_of a)
Bounded (Body.HashText h t) = Unit {0}
Bounded (Body.Hashset h l) = Unit {0}
Bounded (Body.SendingPart p) = Dword p.start × Dword p.end
Bounded (Body.RequestParts p) = ValidTriple (triple_of p.starts) × ValidTriple (triple_of p.ends)
Bounded (Body.FileStatus p) = Unit {0}
Bounded (Body.StatusRequest p) = Dword p.number
Bounded (Body.Status t) = ValidTriple (triple_of t)
Bounded (Body.ExtendedStatus p) = ValidExtendedStatus (record { first = p.first; second = p.second; numbers = triple_of p.numbers })
