-- A `match` on a number whose arms together name every key of a table: a number that none of them names is not in the table.
use Prim.Native.Nat.{ℕ}
use mathlib.Core.Path.{◌≡◌, refl}
use mathlib.Core.Bool.{Bool, true, false, not, ◌&&◌, ◌||◌}
use mathlib.Core.Option.{none}
use mathlib.Core.Logic.{inl, inr}
use mathlib.Core.List.{List, [], ◌∷◌}
use lib.Dec.{T}
use mir.Facts.{and_yes, or_yes}
use mir.Val.{has_key}
use types.Run.{OneOf, hit}
use borrow.Author.Tests.{ne_eqb}
use Rattle.format.specs.Tables.{lookup}
use Rattle.format.proofs.PartTags.{no_true}

-- What the checker knows in the arm `_`. The arms stand from the last to the first.
abbrev pub NoArm : List (List ℕ) → ℕ → Type 0
NoArm [] x = Unit {0}
NoArm (ks ∷ arms) x = NoArm arms x × (OneOf ks x → ⊥)

abbrev pub named : List (List ℕ) → ℕ → Bool
named [] k = false
named (ks ∷ arms) k = has_key ks k || named arms k

-- Every key is named, but for those that the number cannot be.
abbrev pub all_named_in : {K : Type 0} → (ℕ → Bool) → List (List ℕ) → List (ℕ × K) → Bool
all_named_in inside arms [] = true
all_named_in inside arms (p ∷ table) = (not (inside p.0) || named arms p.0) && all_named_in inside arms table

abbrev pub all : ℕ → Bool
all k = true

other : (arms : List (List ℕ)) (k : ℕ) → T (named arms k) → NoArm arms k → ⊥
other [] k h n = h
other (ks ∷ arms) k h n = elim (or_yes (has_key ks k) (named arms k) h) [ inl a ↦ n.1 (hit ks k a) | inr b ↦ other arms k b n.0 ]

outside : (t : Bool) → T (not t) → t ≡ true → ⊥
outside true h e = h
outside false h e = no_true e

pub unlisted-in : {K : Type 0} (inside : ℕ → Bool) (table : List (ℕ × K)) (arms : List (List ℕ)) (x : ℕ) → T (all_named_in inside arms table) → inside x ≡ true →
    NoArm arms x → none ≡ lookup table x
unlisted-in inside [] arms x h i n = refl
unlisted-in inside (p ∷ table) arms x h i n =
    let a = and_yes (not (inside p.0) || named arms p.0) (all_named_in inside arms table) h in
    let is-not : x ≡ p.0 → ⊥ = λ e.
    elim (or_yes (not (inside p.0)) (named arms p.0) a.0) [ inl out ↦ outside (inside p.0) out (rw e at i) | inr b ↦ other arms p.0 b (rw e at n) ] in
    rw (ne_eqb x p.0 is-not) (unlisted-in inside table arms x a.1 i n)

-- A `match` that can be asked for any number.
pub unlisted : {K : Type 0} (table : List (ℕ × K)) (arms : List (List ℕ)) (x : ℕ) → T (all_named_in all arms table) → NoArm arms x → none ≡ lookup table x
unlisted table arms x h n = unlisted-in all table arms x h refl n
