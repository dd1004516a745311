-- Two runs of bytes have the same n bytes from a place on.
use Rattle.std.specs.Prelude.{ℕ, ◌+◌, ◌<◌, ◌≡◌, List, get_or}

abbrev pub Agree : List ℕ → List ℕ → (at n : ℕ) → Type 0
Agree a b at n = (j : ℕ) → j < n → get_or a (at + j) 0 ≡ get_or b (at + j) 0
