-- The check of a part.met's tag list: the size (9), then the gap tags from left to right (8, 6).
use Rattle.std.specs.Prelude.{Bool, true, false, List, [], ◌∷◌, ◌++◌, ℕ, suc, length, leb, ltb}
use Rattle.std.proofs.Math.Option.{Option, none, some}
use Rattle.format.specs.Tables.{pick, same}
use Rattle.format.specs.Gaps.{gap_limit}
use Rattle.format.specs.Messages.{Tag}
use Rattle.format.specs.Rules.{GapPair}
use Rattle.format.specs.Decoding.{Rule, order, gap_ceiling, Check, passes, violates, and_check}
use Rattle.format.specs.GapTags.{number_of, Role, plain, odd, start, end, role}

-- Tests on names.
unfoldable pub decimal : List ℕ → Bool
decimal [] = true
decimal (b ∷ l) = pick (leb 0x30 b) (pick (leb b 0x39) (decimal l) false) false

unfoldable pub numbered : List ℕ → Bool
numbered d = pick (leb 1 (length d)) (pick (leb (length d) 10) (decimal d) false) false

unfoldable pub used : List ℕ → List GapPair → Bool
used d [] = false
used d (p ∷ ps) = pick (same d p.digits) true (used d ps)

-- The numbers of the size tags.
abbrev pub size_in : List ℕ → Option ℕ → List ℕ
size_in name none = []
size_in name (some n) = pick (same name (0x02 ∷ [])) (n ∷ []) []

unfoldable pub sizes : List Tag → List ℕ
sizes [] = []
sizes (t ∷ l) = size_in t.name (number_of t.value.0 t.value.1) ++ sizes l

abbrev pub sole : List ℕ → Check ℕ
sole [] = violates Rule.size_tag
sole (n ∷ []) = passes n
sole (n ∷ m ∷ l) = violates Rule.size_tag

-- How far the gap tags are: the pairs so far, the last first; within a pair, also its digits and its start.
pub data Progress : Type 0 where
  between : List GapPair → Progress
  within : List GapPair → List ℕ → ℕ → Progress

-- The least start that the next gap may have.
abbrev pub next_start : List GapPair → ℕ
next_start [] = 0
next_start (p ∷ ps) = suc p.end

abbrev pub check_start : List GapPair → List ℕ → ℕ → Check Progress
check_start ps d n =
    pick (numbered d)
    (pick (used d ps) (violates order) (pick (leb (next_start ps) n) (passes (within ps d n)) (violates order)))
    (violates order)

abbrev pub check_end : ℕ → List GapPair → List ℕ → ℕ → List ℕ → ℕ → Check Progress
check_end size ps d n c m =
    pick (same d c)
    (pick (ltb n m)
    (pick (leb m size) (passes (between (record { digits = d; start = n; end = m } ∷ ps))) (violates order))
    (violates order))
    (violates order)

-- A gap tag after a 64th pair is 6, before its own rules.
abbrev pub after_full : List GapPair → Check Progress → Check Progress
after_full ps check = pick (leb gap_limit (length ps)) (violates gap_ceiling) check

unfoldable pub step : ℕ → Progress → Role → Check Progress
step size (between ps) plain = passes (between ps)
step size (between ps) odd = after_full ps (violates order)
step size (between ps) (start d n) = after_full ps (check_start ps d n)
step size (between ps) (end d n) = after_full ps (violates order)
step size (within ps d n) plain = violates order
step size (within ps d n) odd = violates order
step size (within ps d n) (start c m) = violates order
step size (within ps d n) (end c m) = check_end size ps d n c m

-- The pairs of a tag list, the last first.
unfoldable pub scan : ℕ → Progress → List Tag → Check (List GapPair)
scan size (between ps) [] = passes ps
scan size (within ps d n) [] = violates order
scan size progress (t ∷ l) = and_check (step size progress (role t)) (λ progress. scan size progress l)

-- The size of a tag list that passes, with the list.
unfoldable pub spec_check_part_tags : List Tag → Check (ℕ × List Tag)
spec_check_part_tags tags =
    and_check (sole (sizes tags)) (λ size. and_check (scan size (between []) tags) (λ _. passes (size, tags)))
