-- Tests, and tables from numbers to what they stand for.
use Rattle.std.specs.Prelude.{◌≡◌, Bool, true, false, ◌⊎◌, List, [], ◌∷◌, ℕ, eqb}
use Rattle.std.proofs.Math.Option.{Option, none, some}

-- What a test decides.
abbrev pub pick : {A : Type 0} → Bool → A → A → A
pick true a b = a
pick false a b = b

-- The lists are equal.
unfoldable pub same : List ℕ → List ℕ → Bool
same [] [] = true
same [] (b ∷ l) = false
same (a ∷ k) [] = false
same (a ∷ k) (b ∷ l) = pick (eqb a b) (same k l) false

-- The number is one of the list.
abbrev pub OneOf : List ℕ → ℕ → Type 0
OneOf [] n = ⊥
OneOf (a ∷ l) n = (n ≡ a) ⊎ OneOf l n

abbrev pub one_of : List ℕ → ℕ → Bool
one_of [] n = false
one_of (a ∷ l) n = pick (eqb n a) true (one_of l n)

-- What a table lists under a number.
abbrev pub lookup : {K : Type 0} → List (ℕ × K) → ℕ → Option K
lookup [] n = none
lookup (p ∷ t) n = pick (eqb n p.0) (some p.1) (lookup t n)

-- The table of some things under their codes.
abbrev pub table_of : {K : Type 0} → (K → ℕ) → List K → List (ℕ × K)
table_of code [] = []
table_of code (k ∷ all) = (code k, k) ∷ table_of code all

-- The numbers of a table, and the rows that a table of tables lists under a number.
abbrev pub keys : {K : Type 0} → List (ℕ × K) → List ℕ
keys [] = []
keys (p ∷ t) = p.0 ∷ keys t

abbrev pub rows : {K : Type 0} → List (ℕ × List K) → ℕ → List K
rows [] n = []
rows (p ∷ t) n = pick (eqb n p.0) p.1 (rows t n)
