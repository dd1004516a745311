-- What the functions that put the parts of a body say.
use Rattle.std.specs.Prelude.{ℕ, ◌-◌, ◌≤◌, ◌≡◌, List, length}
use Rattle.format.specs.Decoding.{bytes_at}
use Rattle.format.specs.Writing.{ValuesFit}
use Rattle.wire.specs.declared.Items.{Items}
use Rattle.bodies.specs.declared.Body.{Body}
use Rattle.bodies.specs.BodyAnswers.{body_in}
use Rattle.format.specs.RoundTrip.{IsThere}
use Rattle.check_bodies.specs.Bodies.{BodyEnds, body_there, bytes_of}

-- n bytes lie at a place. Where n is 0, any place will do.
abbrev pub Run : List ℕ → ℕ → ℕ → Type 0
Run s at n = length (bytes_at s at n) ≡ n

-- The items of a list lie at its place, up to the end that was worked out.
abbrev pub ListRun : List ℕ → Items → ℕ → Type 0
ListRun s l end = (l.at ≤ end) × Run s l.at (end - l.at)

abbrev pub list_bytes : List ℕ → Items → ℕ → List ℕ
list_bytes s l end = bytes_at s l.at (end - l.at)

-- What put_body asks: the places are there, the counts fit, the end is the one that was worked out, and there is room.
pub record Puttable (s : List ℕ) (b : Body) (end : ℕ) (output : List ℕ) : Type 0 where
  pub there : IsThere (body_there s b)
  pub fit : ValuesFit (body_in s b).0 (body_in s b).1
  pub ended : BodyEnds s b end
  pub room : length (bytes_of (body_in s b)) ≤ length output
