-- Demand 3 for a reader of whole inputs, from the one equation of its contract.
use Prim.Native.Nat.{ℕ, suc, ◌≤◌, ◌<◌}
use mathlib.Core.Path.{◌≡◌, refl}
use mathlib.Core.Logic.{◌↔◌}
use mathlib.Core.List.{List, [], ◌∷◌}
use native.Mathlib.Omega.{arith}
use lib.ListN.{get_or, length}
use borrow.Author.Tests.{eq-eqb, le-leb, lt-leb, ne_eqb}
use mir.Syntax.{w8}
use mir.Val.{Fits}
use Rattle.format.specs.Messages.{Kind, Message}
use Rattle.format.specs.Layout.{encode}
use Rattle.format.specs.Rules.{Bytes, Valid, ceiling}
use Rattle.format.specs.Decoding.{Fault, Reply, Rule, bytes_ceiling, got, message, number, refused, refused_with, reply}
use Rattle.format.specs.MetOrder.{decode, decoder}
use Rattle.format.proofs.Acceptance.{accepts-reply}

-- a slice of u8 holds bytes: `known` is what the checker knows of its elements
pub slice-bytes : (s : List ℕ) → ((i : ℕ) → Fits w8 (get_or s i 0)) → Bytes s
slice-bytes [] known = tt
slice-bytes (b ∷ s) known = (omega (arith, known 0), slice-bytes s (λ i. known (suc i)))

-- the three clauses of a reader whose answer holds places of lists
abbrev pub Exact : (k : Kind) → List ℕ → Reply (Message k) → Type 0 → Type 0
Exact k s r Placed = (r ≡ reply (decode k s)) × (Placed × ((m : Message k) → (r ≡ message m) ↔ ((s ≡ encode k m) × Valid k m)))

module _ (k : Kind) (s : List ℕ) (known : (i : ℕ) → Fits w8 (get_or s i 0)) where
  -- a reader that says what the format says accepts a message exactly when it is valid and the bytes are its encoding
  pub exact : {r : Reply (Message k)} → r ≡ reply (decode k s) → (m : Message k) → (r ≡ message m) ↔ ((s ≡ encode k m) × Valid k m)
  exact e m = rw e (accepts-reply k s (slice-bytes s known) m)

  pub exact-placed : {r : Reply (Message k)} {Placed : Type 0} → r ≡ reply (decode k s) → Placed → Exact k s r Placed
  exact-placed e p = (e, (p, exact e))

  -- its four answers, in their order: too many bytes, a fault, a message, and bytes after it
  pub over-ceiling : ceiling k < length s → Exact k s (refused_with (number bytes_ceiling)) (Unit {0})
  unfolding decode
  over-ceiling h = exact-placed (rw (lt-leb _ _ h) refl) tt

  module _ (fits : length s ≤ ceiling k) where
    pub faulty : {f : Fault} → refused f ≡ decoder k s 0 → Exact k s (refused_with (number f.rule)) (Unit {0})
    unfolding decode
    faulty read = exact-placed (rw (le-leb _ _ fits, ← read) refl) tt

    module _ {m : Message k} {next : ℕ} (read : got m next ≡ decoder k s 0) where
      pub whole : {Placed : Type 0} → next ≡ length s → Placed → Exact k s (message m) Placed
      unfolding decode
      whole all p = exact-placed (rw (le-leb _ _ fits, ← read, eq-eqb _ _ all) refl) p

      pub bytes_left : (next ≡ length s → ⊥) → Exact k s (refused_with (number Rule.rest)) (Unit {0})
      unfolding decode
      bytes_left some = exact-placed (rw (le-leb _ _ fits, ← read, ne_eqb _ _ some) refl) tt
