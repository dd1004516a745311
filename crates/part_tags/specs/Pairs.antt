-- What the pass finds: the pairs of gap tags, each known by the offset of its start tag.
use Rattle.std.specs.Prelude.{◌≡◌, List, [], ◌∷◌, ◌++◌, ℕ, zero, suc, ◌+◌, ◌*◌, ◌%◌, ◌≤◌, ◌<◌, length, get_or, Option, None, Some, Result, Ok, Err}
use Rattle.format.specs.Gaps as gaps
use Rattle.format.specs.Gaps.{gap_limit}
use Rattle.format.specs.Rules.{GapPair}
use Rattle.format.specs.Tables.{pick}
use Rattle.format.specs.Messages.{Tag}
use Rattle.format.specs.Decoding.{passes, violates, got, decode_many, ends, items_of}
use Rattle.format.specs.Order.{decode_tag}
use Rattle.format.specs.PartTagOrder.{between, within, next_start, numbered, scan, step}
use Rattle.tags.specs.Skips.{offset_after}
use Rattle.wire.specs.declared.Rule.{Rule}
use Rattle.wire.specs.WireAnswers.{rule_meaning}
use Rattle.part_tags.specs.declared.Progress.{Progress as Reached}
use Rattle.part_tags.specs.declared.Sizes.{Sizes}
use Rattle.part_tags.specs.declared.Surveyed.{Surveyed}
use Rattle.part_tags.specs.TagBytes.{spec_digits_at, number_at, after_at, role_at}
use Rattle.part_tags.specs.Survey.{sizes_in, RangeTags}

-- The key of digits: a number that is greater for the digits of a greater number. Digits of one key may differ; those of two keys do.
unfoldable pub key_from : ℕ → List ℕ → ℕ
key_from k [] = k
key_from k (b ∷ l) = key_from (k % 1099511627776 * 16 + b) l

abbrev pub key_of : List ℕ → ℕ
key_of d = key_from 0 d

abbrev pub spec_key_found : List ℕ → Option ℕ
spec_key_found d = pick (numbered d) (Some (key_of d)) None

-- The pair whose start tag lies there, and its end tag after it.
abbrev pub start_of : List ℕ → ℕ → ℕ
start_of s at = number_at s at

abbrev pub end_of : List ℕ → ℕ → ℕ
end_of s at = number_at s (after_at s at)

abbrev pub pair_of : List ℕ → ℕ → GapPair
pair_of s at = record { digits = spec_digits_at s at; start = start_of s at; end = end_of s at }

-- both tags lie inside the bytes
abbrev pub PairInside : List ℕ → ℕ → Type 0
PairInside s at = after_at s (after_at s at) ≤ length s

-- the first n pairs of an array of offsets, the last first
unfoldable pub first_pairs : List ℕ → ℕ → List ℕ → List GapPair
first_pairs s zero l = []
first_pairs s (suc n) l = pair_of s (get_or l n 0) ∷ first_pairs s n l

unfoldable pub PairsInside : List ℕ → ℕ → List ℕ → Type 0
PairsInside s zero l = Unit {0}
PairsInside s (suc n) l = PairInside s (get_or l n 0) × PairsInside s n l

-- the gaps of the first n pairs, in order
abbrev pub gap_in : List ℕ → ℕ → gaps.Gap
gap_in s at = gaps.gap (start_of s at) (end_of s at)

unfoldable pub first_gaps : List ℕ → ℕ → List ℕ → List gaps.Gap
first_gaps s zero l = []
first_gaps s (suc n) l = first_gaps s n l ++ (gap_in s (get_or l n 0) ∷ [])

-- no pair has a higher key
unfoldable pub KeysBelow : ℕ → List GapPair → Type 0
KeysBelow highest [] = Unit {0}
KeysBelow highest (p ∷ ps) = (key_of p.digits ≤ highest) × KeysBelow highest ps

-- What is kept of the pairs that an array of offsets holds.
pub record Keeps (s starts : List ℕ) (r : Reached) : Type 0 where
  pub few : r.count ≤ gap_limit
  pub inside : PairsInside s r.count starts
  pub low : next_start (first_pairs s r.count starts) ≡ r.low
  pub keys : KeysBelow r.highest (first_pairs s r.count starts)

-- A gap tag between two pairs.
pub record StartTakes (s : List ℕ) (ps : List GapPair) (at key start second : ℕ) : Type 0 where
  pub room : length ps < gap_limit
  pub key-of : key ≡ key_of (spec_digits_at s at)
  pub start-of : start ≡ start_of s at
  pub second-of : second ≡ after_at s at
  pub next : second ≡ offset_after (decode_tag s at)
  pub steps : (size : ℕ) → step size (between ps) (role_at (decode_tag s at)) ≡ passes (within ps (spec_digits_at s at) start)

abbrev pub StartFound : List ℕ → List GapPair → ℕ → Result (ℕ × ℕ × ℕ) Rule → Type 0
StartFound s ps at (Ok (key, start, second)) = StartTakes s ps at key start second
StartFound s ps at (Err rule) = (size : ℕ) → step size (between ps) (role_at (decode_tag s at)) ≡ violates (rule_meaning rule)

-- The tag after the start tag of a pair.
pub record EndTakes (s : List ℕ) (size : ℕ) (d : List ℕ) (start at end after : ℕ) : Type 0 where
  pub end-of : end ≡ number_at s at
  pub after-of : after ≡ after_at s at
  pub inside : after ≤ length s
  pub next : after ≡ offset_after (decode_tag s at)
  pub steps : (ps : List GapPair) → step size (within ps d start) (role_at (decode_tag s at))
      ≡ passes (between (record { digits = d; start = start; end = end } ∷ ps))

abbrev pub EndFound : List ℕ → ℕ → List ℕ → ℕ → ℕ → Result (ℕ × ℕ) Rule → Type 0
EndFound s size d start at (Ok (end, after)) = EndTakes s size d start at end after
EndFound s size d start at (Err rule) = (ps : List GapPair) → step size (within ps d start) (role_at (decode_tag s at)) ≡ violates (rule_meaning rule)

-- A gap tag between two pairs, the first of the tags that are left, and the tag after it.
pub record PairTakes (s : List ℕ) (size : ℕ) (ps : List GapPair) (at left key end after : ℕ) : Type 0 where
  pub two : 2 ≤ left
  pub room : length ps < gap_limit
  pub key-of : key ≡ key_of (spec_digits_at s at)
  pub end-of : end ≡ end_of s at
  pub inside : PairInside s at
  pub first : Tag
  pub second : Tag
  pub middle : ℕ
  pub first_read : decode_tag s at ≡ got first middle
  pub second-read : decode_tag s middle ≡ got second after
  pub first-sizes : [] ≡ sizes_in first
  pub second-sizes : [] ≡ sizes_in second
  pub scans : (l : List Tag) → scan size (between ps) (first ∷ second ∷ l) ≡ scan size (between (pair_of s at ∷ ps)) l

-- the scan of tags that are all there
abbrev pub Stops : List ℕ → (size : ℕ) → List GapPair → (at count : ℕ) → Rule → Type 0
Stops s size ps at count rule = (end : ℕ) → ends (decode_many count decode_tag s at) ≡ got tt end
    → scan size (between ps) (items_of (decode_many count decode_tag s at)) ≡ violates (rule_meaning rule)

abbrev pub PairFound : List ℕ → ℕ → List GapPair → (at left : ℕ) → Result (ℕ × ℕ × ℕ) Rule → Type 0
PairFound s size ps at left (Ok (key, end, after)) = PairTakes s size ps at left key end after
PairFound s size ps at left (Err rule) = Stops s size ps at left rule

-- The tags from the first gap tag on.
pub record PassedTags (s : List ℕ) (at count : ℕ) (before : Sizes) (size : ℕ) (starts : List ℕ) (r : Surveyed) (n : ℕ) : Type 0 where
  pub tags : RangeTags s at count before r
  pub few : n ≤ gap_limit
  pub inside : PairsInside s n starts
  pub scans : scan size (between []) (tags.mid ++ tags.post) ≡ passes (first_pairs s n starts)

abbrev pub PassFound : List ℕ → (at count : ℕ) → Sizes → (size : ℕ) → (starts : List ℕ) → Result (Surveyed × ℕ) Rule → Type 0
PassFound s at count before size starts (Ok (r, n)) = PassedTags s at count before size starts r n
PassFound s at count before size starts (Err rule) = Stops s size [] at count rule
