-- Gap lists: which bytes of a file are missing, the rules that such a list keeps, and what is left of it when bytes arrive.
-- A gap list stands for its set of missing bytes; all other definitions are explained by that set (proofs/Gaps, proofs/Intervals).
use Rattle.std.specs.Prelude.{ℕ, zero, suc, ◌+◌, ◌-◌, ◌≤◌, ◌<◌, min, max, Bool, true, false, ◌&&◌, ◌||◌, cond, List, [], ◌∷◌, ◌++◌, length, leb, ltb, eqb}

-- A gap (document 01's term): the bytes from `start` up to `end`, `end` not included, are missing.
pub record Gap : Type 0 where
  pub start : ℕ
  pub end : ℕ

abbrev pub gap : ℕ → ℕ → Gap
gap a b = record { start = a; end = b }

-- x is one of the numbers from a up to b, b not included
abbrev pub within : ℕ → ℕ → ℕ → Bool
within a b x = leb a x && ltb x b

-- byte x lies in a gap of the list
unfoldable pub missing : List Gap → ℕ → Bool
missing [] x = false
missing (g ∷ gaps) x = within g.start g.end x || missing gaps x

-- 01's rule of gaps: start < end ≤ size, and the previous end < start. `low` is the least start that the next gap may have.
unfoldable pub Ordered : ℕ → ℕ → List Gap → Type 0
Ordered size low [] = Unit {0}
Ordered size low (g ∷ gaps) = (low ≤ g.start) × (g.start < g.end) × (g.end ≤ size) × Ordered size (suc g.end) gaps

-- The largest size of a file. The rules take a limit as an argument, so that another limit moves this number alone.
abbrev pub size_limit : ℕ
size_limit = 4294967295

-- The most gaps that a part.met or a gap record may have.
abbrev pub gap_limit : ℕ
gap_limit = 64

-- A lawful gap record, document 01's term: a size up to the limit, and at most so many gaps, in order.
pub record Lawful (limit size : ℕ) (gaps : List Gap) : Type 0 where
  pub fits : size ≤ limit
  pub few : length gaps ≤ gap_limit
  pub ordered : Ordered size 0 gaps

-- Both rules as tests: of a next gap, of all gaps, of a record
unfoldable pub follows : ℕ → ℕ → Gap → Bool
follows size low g = leb low g.start && (ltb g.start g.end && leb g.end size)

unfoldable pub ordered : ℕ → ℕ → List Gap → Bool
ordered size low [] = true
ordered size low (g ∷ gaps) = follows size low g && ordered size (g.end + 1) gaps

unfoldable pub lawful : ℕ → ℕ → List Gap → Bool
lawful limit size gaps = leb size limit && (leb (length gaps) gap_limit && ordered size 0 gaps)

-- how many of the numbers below n pass the test p
unfoldable pub count : (ℕ → Bool) → ℕ → ℕ
count p zero = 0
count p (suc n) = count p n + cond (p n) 1 0

-- the sum of the lengths of all gaps
unfoldable pub total : List Gap → ℕ
total [] = 0
total (g ∷ gaps) = (g.end - g.start) + total gaps

-- the gap from a up to b; none where that holds no byte
unfoldable pub between : ℕ → ℕ → List Gap
between a b = cond (ltb a b) (gap a b ∷ []) []

-- The bytes from `start` up to `end` have arrived: what is left of one gap, on either side of them, and of a list of gaps.
unfoldable pub remaining : Gap → ℕ → ℕ → List Gap
remaining g start end = between g.start (min g.end start) ++ between (max g.start end) g.end

unfoldable pub subtract : List Gap → ℕ → ℕ → List Gap
subtract [] start end = []
subtract (g ∷ gaps) start end = remaining g start end ++ subtract gaps start end

-- Marking (document 01's term) the bytes from `start` up to `end` as arrived: refused with a number, or the gaps that are left and the
-- number of missing bytes.
pub data Marking : Type 0 where
  rejected : (number : ℕ) → Marking
  leaves : List Gap → (missing : ℕ) → Marking

-- a range that may be marked in a file of this size: start < end ≤ size
abbrev pub inside : (size start end : ℕ) → Bool
inside size start end = ltb start end && leb end size

-- 8 unless it is allowed (a lawful gap list, a range inside the file); 6 above the most gaps in the outcome
unfoldable pub marking : (allowed : Bool) (size : ℕ) → List Gap → ℕ → ℕ → Marking
marking allowed size gaps start end =
    let left = subtract gaps start end in
    cond allowed (cond (leb (length left) gap_limit) (leaves left (count (missing left) size)) (rejected 6)) (rejected 8)

-- The bytes from a up to b are missing too: they lengthen the gap that ends at a, or make a new last gap.
unfoldable pub extend : List Gap → ℕ → ℕ → List Gap
extend [] a b = gap a b ∷ []
extend (g ∷ gaps) a b = cond (eqb g.end a) (gap g.start b ∷ gaps) (g ∷ extend gaps a b)

-- the gap list of any test: its missing bytes are those below `size` that pass p
unfoldable pub intervals : (ℕ → Bool) → ℕ → List Gap
intervals p zero = []
intervals p (suc n) = cond (p n) (extend (intervals p n) n (suc n)) (intervals p n)
