-- What a function that puts bytes into a lent output says.
use Rattle.std.specs.Prelude.{ℕ, ◌≡◌, List, length}
use Rattle.format.specs.Writing.{overwritten}

-- So many bytes were put at the front of an output, and nothing after them changed.
pub record Puts (bytes : List ℕ) (size : ℕ) (old new : List ℕ) (r : ℕ) : Type 0 where
  pub written : r ≡ size
  pub sized : length bytes ≡ size
  pub output : new ≡ overwritten bytes old
