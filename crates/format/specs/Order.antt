-- The items in the order in which they are decoded and checked.
use Rattle.std.specs.Prelude.{List, [], ◌∷◌, ℕ, zero, suc, leb, eqb}
use Rattle.format.specs.Tables.{pick, lookup, table_of}
use Rattle.format.specs.Messages.{Address, TagType, hash_type, string_type, dword_type, float_type, TagValue, Tag, Record}
use Rattle.format.specs.Messages.{Operator, and, or, and_not, Bound, at_least, at_most, Query, join, keyword, field, limit}
use Rattle.format.specs.Layout.{type_code, operator_code, bound_code}
use Rattle.format.specs.Rules.{depth_limit, name_limit}
use Rattle.format.specs.Decoding.{choice, name_ceiling, depth_ceiling, Decoder, ◌>>=◌, ◌>>◌, pure, decode_run, refuse, decode_number, Check, passes, violates, checked, found, decode_many}

unfoldable pub decode_byte : Decoder ℕ
decode_byte = decode_number 1

unfoldable pub decode_word : Decoder ℕ
decode_word = decode_number 2

unfoldable pub decode_dword : Decoder ℕ
decode_dword = decode_number 4

unfoldable pub decode_hash : Decoder (List ℕ)
decode_hash = decode_run 16

unfoldable pub decode_string : Decoder (List ℕ)
decode_string = do
  n ← decode_word
  decode_run n

-- One of a table's bytes.
unfoldable pub decode_code : {K : Type 0} → List (ℕ × K) → Decoder K
decode_code table = checked 1 (λ b. found choice (lookup table b)) decode_byte

-- A byte that the layout fixes is a choice of one.
abbrev pub check_fixed : ℕ → ℕ → Check (Unit {0})
check_fixed b x = pick (eqb x b) (passes tt) (violates choice)

unfoldable pub decode_fixed : ℕ → Decoder (Unit {0})
decode_fixed b = checked 1 (check_fixed b) decode_byte

-- A name's length is checked before its bytes are read.
abbrev pub check_name_length : ℕ → Check ℕ
check_name_length n = pick (eqb n 0) (violates choice) (pick (leb n name_limit) (passes n) (violates name_ceiling))

unfoldable pub decode_name : Decoder (List ℕ)
decode_name = do
  n ← checked 2 check_name_length decode_word
  decode_run n

unfoldable pub decode_address : Decoder Address
decode_address = do
  ip ← decode_dword
  port ← decode_word
  pure (record { ip = ip; port = port })

unfoldable pub decode_counted : {A : Type 0} → Decoder ℕ → Decoder A → Decoder (List A)
decode_counted count r = do
  n ← count
  decode_many n r

abbrev pub tag_types : List (ℕ × TagType)
tag_types = table_of type_code (hash_type ∷ string_type ∷ dword_type ∷ float_type ∷ [])

unfoldable pub decode_type : Decoder TagType
decode_type = decode_code tag_types

abbrev pub decode_value_of : (t : TagType) → Decoder (TagValue t)
decode_value_of hash_type = decode_hash
decode_value_of string_type = decode_string
decode_value_of dword_type = decode_dword
decode_value_of float_type = decode_dword

unfoldable pub decode_value : TagType → Decoder ((t : TagType) × TagValue t)
decode_value t = do
  v ← decode_value_of t
  pure (t, v)

unfoldable pub decode_tag : Decoder Tag
decode_tag = do
  type ← decode_type
  name ← decode_name
  value ← decode_value type
  pure (record { name = name; value = value })

unfoldable pub decode_tags : Decoder (List Tag)
decode_tags = decode_counted decode_dword decode_tag

unfoldable pub decode_record : Decoder Record
decode_record = do
  hash ← decode_hash
  client ← decode_dword
  port ← decode_word
  tags ← decode_tags
  pure (record { hash = hash; client = client; port = port; tags = tags })

-- Queries

abbrev pub operators : List (ℕ × Operator)
operators = table_of operator_code (and ∷ or ∷ and_not ∷ [])

abbrev pub bounds : List (ℕ × Bound)
bounds = table_of bound_code (at_least ∷ at_most ∷ [])

pub data QueryCase : Type 0 where
  is_join is_keyword is_field is_limit : QueryCase

abbrev pub case_code : QueryCase → ℕ
case_code is_join = 0
case_code is_keyword = 1
case_code is_field = 2
case_code is_limit = 3

abbrev pub query_cases : List (ℕ × QueryCase)
query_cases = table_of case_code (is_join ∷ is_keyword ∷ is_field ∷ is_limit ∷ [])

-- What stands after the first byte of a query, given how its sides are decoded.
abbrev pub decode_case : Decoder Query → QueryCase → Decoder Query
decode_case side is_join = do
  o ← decode_code operators
  q ← side
  r ← side
  pure (join o q r)
decode_case side is_keyword = do
  t ← decode_string
  pure (keyword t)
decode_case side is_field = do
  t ← decode_string
  n ← decode_name
  pure (field t n)
decode_case side is_limit = do
  v ← decode_dword
  b ← decode_code bounds
  n ← decode_name
  pure (limit v b n)

-- A query of at most so much depth. One that would begin below that is refused before its first byte is read.
unfoldable pub decode_query_in : ℕ → Decoder Query
decode_query_in zero = refuse depth_ceiling
decode_query_in (suc d) = do
  c ← decode_code query_cases
  decode_case (decode_query_in d) c

unfoldable pub decode_query : Decoder Query
decode_query = decode_query_in depth_limit
