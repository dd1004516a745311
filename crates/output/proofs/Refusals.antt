-- The numbers of refusals: those of the rules, none is 0, and no two are the same. So an answer is known by what it stands for.
use Prim.Native.Nat.{ℕ, ◌-◌, ◌<◌}
use mathlib.Core.Path.{◌≡◌, refl, sym, ap, ◌∙◌}
use mathlib.Core.List.{List, [], ◌∷◌}
use lib.ListN.{get_or}
use Rattle.std.specs.Prelude.{Result, Ok, Err}
use Rattle.format.specs.Writing.{Written}
use native.Mathlib.Omega.{arith}
use Rattle.format.specs.Decoding.{number}
use Rattle.wire.specs.declared.Rule.{Rule}
use Rattle.wire.specs.WireAnswers.{rule_meaning}
use Rattle.output.specs.declared.Refusal.{Refusal}
use Rattle.output.specs.WriteAnswers.{answered, refusal_number, refusal_of}

-- What a reader refuses has the number of the rule that is broken.
pub number-of-rule : (rule : Rule) → refusal_number (refusal_of rule) ≡ number (rule_meaning rule)
number-of-rule = elim [ Rule.Short ↦ refl | Rule.Opening ↦ refl | Rule.FrameLength ↦ refl | Rule.Kind ↦ refl | Rule.Choice ↦ refl | Rule.StatusBit ↦ refl | Rule.BytesCeiling ↦ refl | Rule.DepthCeiling ↦ refl | Rule.NameCeiling ↦ refl | Rule.GapCeiling ↦ refl | Rule.Rest ↦ refl | Rule.Order ↦ refl | Rule.DataLength ↦ refl | Rule.SizeTag ↦ refl ]

pub not-accepted : (refusal : Refusal) → 0 < refusal_number refusal
not-accepted = elim [ Refusal.Short ↦ omega arith | Refusal.Opening ↦ omega arith | Refusal.FrameLength ↦ omega arith | Refusal.Kind ↦ omega arith | Refusal.Choice ↦ omega arith | Refusal.Limit ↦ omega arith | Refusal.Rest ↦ omega arith | Refusal.Data ↦ omega arith | Refusal.SizeTag ↦ omega arith | Refusal.Room ↦ omega arith | Refusal.Conflict ↦ omega arith | Refusal.Strangers ↦ omega arith ]

-- the refusals in the order of their numbers
abbrev in_order : List Refusal
in_order = Refusal.Short ∷ Refusal.Opening ∷ Refusal.FrameLength ∷ Refusal.Kind ∷ Refusal.Choice ∷ Refusal.Limit ∷ Refusal.Rest ∷ Refusal.Data ∷ Refusal.SizeTag ∷ Refusal.Room ∷ Refusal.Conflict ∷ Refusal.Strangers ∷ []

at-its-number : (refusal : Refusal) → get_or in_order (refusal_number refusal - 1) Refusal.Short ≡ refusal
at-its-number = elim [ Refusal.Short ↦ refl | Refusal.Opening ↦ refl | Refusal.FrameLength ↦ refl | Refusal.Kind ↦ refl | Refusal.Choice ↦ refl | Refusal.Limit ↦ refl | Refusal.Rest ↦ refl | Refusal.Data ↦ refl | Refusal.SizeTag ↦ refl | Refusal.Room ↦ refl | Refusal.Conflict ↦ refl | Refusal.Strangers ↦ refl ]

same-refusal : (r q : Refusal) → refusal_number r ≡ refusal_number q → r ≡ q
same-refusal r q e = sym (at-its-number r) ∙ ap (λ n. get_or in_order (n - 1) Refusal.Short) e ∙ at-its-number q

-- An answer and the output that it leaves, by what both stand for.
pub answered_same : (r q : Result ℕ Refusal) (left right : List ℕ) → answered r left ≡ answered q right → (r ≡ q) × (left ≡ right)
answered_same (Ok m) (Ok n) left right e = (ap (λ (w : Written). Ok w.length) e, ap (λ (w : Written). w.output) e)
answered_same (Ok m) (Err q) left right e = absurd (omega (arith, ap (λ (w : Written). w.number) e, not-accepted q))
answered_same (Err r) (Ok n) left right e = absurd (omega (arith, ap (λ (w : Written). w.number) e, not-accepted r))
answered_same (Err r) (Err q) left right e = (ap Err (same-refusal r q (ap (λ (w : Written). w.number) e)), ap (λ (w : Written). w.output) e)
