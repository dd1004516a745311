-- Where a part agrees with a text, and how far it may be moved after a mismatch.
use Rattle.std.specs.Prelude.{◌≡◌, Bool, true, false, List, ℕ, ◌+◌, ◌-◌, ◌*◌, ◌≤◌, ◌<◌, get_or, length}

-- The first n bytes of the part are those of the text from the offset on.
abbrev pub Agrees : (part text : List ℕ) (offset n : ℕ) → Type 0
Agrees part text offset n = (i : ℕ) → i < n → get_or part i 0 ≡ get_or text (offset + i) 0

-- The answer of a test of a property.
pub record Decides (r : Bool) (P : Type 0) : Type 0 where
  pub yes : r ≡ true → P
  pub no : r ≡ false → P → ⊥

-- The part stands in the text at an offset from `from` up to `end`.
pub record StandsIn (part text : List ℕ) (from end : ℕ) : Type 0 where
  pub offset : ℕ
  pub low : from ≤ offset
  pub high : offset < end
  pub agrees : Agrees part text offset (length part)

-- At none of n offsets stands this first byte and, `reach` bytes after it, this last one.
abbrev pub NoEnds : (text : List ℕ) (from reach first last n : ℕ) → Type 0
NoEnds text from reach first last n = (j : ℕ) → j < n → get_or text (from + j) 0 ≡ first → get_or text (from + reach + j) 0 ≡ last → ⊥

-- The first n bytes of the part agree with themselves moved by the shift, and by no lesser one.
pub record LeastShift (part : List ℕ) (n shift : ℕ) : Type 0 where
  pub some : 0 < shift
  pub within : shift ≤ n
  pub agrees : Agrees part part shift (n - shift)
  pub least : (d : ℕ) → 0 < d → d < shift → Agrees part part d (n - d) → ⊥

-- The table has the least shift of each length 8 k up to n.
abbrev pub Samples : (part table : List ℕ) (n : ℕ) → Type 0
Samples part table n = (k : ℕ) → 0 < k → 8 * k ≤ n → LeastShift part (8 * k) (get_or table k 0)

-- After n bytes that agree and one that does not, the part may be moved by the shift: by no lesser one do its first n bytes agree with
-- themselves. Of the bytes that agreed, those that the first `kept` now meet agree with them. `onward` bounds the turns of a search.
pub record Moves (part : List ℕ) (n shift kept : ℕ) : Type 0 where
  pub some : 0 < shift
  pub near : shift + kept ≤ n + 1
  pub within : 0 < kept → shift + kept ≤ n
  pub onward : n < 9 * shift + kept
  pub agrees : Agrees part part shift kept
  pub least : (d : ℕ) → 0 < d → d < shift → Agrees part part d (n - d) → ⊥
