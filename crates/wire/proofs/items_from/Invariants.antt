-- Each turn reads one item and keeps none: the laws of Loops, for any decoder that ends where the reader does.
use Prim.Native.Nat.{ℕ}
use mathlib.Core.List.{List}
use Rattle.format.specs.Decoding.{Decoder}
use Rattle.wire.specs.WireAnswers.{EndsBy}
use Rattle.wire.proofs.Loops.{ReadUpTo}
use Rattle.wire.proofs.items_from.Given as goal

abbrev pub invariant-loop : goal.invariant-loop
invariant-loop g l = (d : Decoder (Unit {0})) (s : List ℕ) → EndsBy d s (goal.F-post g l.read) → ReadUpTo d s l.first.at l.count l.counter l.next.at
