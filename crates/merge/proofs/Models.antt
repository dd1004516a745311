-- One model: what the sizes and the comparisons of the hashes say of three files.
use Prim.Native.Nat.{ℕ}
use mathlib.Core.Path.{◌≡◌, sym, subst, ◌∙◌}
use mathlib.Core.Bool.{Bool, true, false}
use mathlib.Core.Logic.{◌↔◌}
use Rattle.format.specs.Tables.{same}
use Rattle.format.specs.Messages.{PartMet}
use Rattle.format.specs.Rules.{SizeIs}
use Rattle.format.specs.PutGaps.{tags_of}
use Rattle.format.specs.Merging.{OneModel, hash_of}
use Rattle.format.proofs.Gaps.{never}
use Rattle.format.proofs.PartTags.{no_true, same_refl, same_true}
use Rattle.format.proofs.Regapped.{same_size}
use Rattle.merge.specs.declared.Read.{Read}
use Rattle.merge.specs.Choices.{Reads, SameSizes, part_from}
use Rattle.merge.proofs.Numbers.{sized_of}

module _ (o a b : PartMet) (n : ℕ) where
  pub first-size : (m : ℕ) → SizeIs m (tags_of a) → (m ≡ n → ⊥) → (false ≡ true) ↔ OneModel n o a b
  first-size m h f = (λ e. absurd (no_true e), λ k. absurd (f (same_size m n (tags_of a) h k.sizes.1.0)))

  pub second-size : (m : ℕ) → SizeIs m (tags_of b) → (m ≡ n → ⊥) → (false ≡ true) ↔ OneModel n o a b
  second-size m h f = (λ e. absurd (no_true e), λ k. absurd (f (same_size m n (tags_of b) h k.sizes.1.1)))

  pub first-hash : same (hash_of a) (hash_of o) ≡ false → (false ≡ true) ↔ OneModel n o a b
  first-hash f = (λ e. absurd (no_true e), λ k. never (same (hash_of a) (hash_of o)) (rw k.hashes.0 (same_refl (hash_of o))) f)

  pub one-model : SizeIs n (tags_of o) → SizeIs n (tags_of a) → SizeIs n (tags_of b) → same (hash_of a) (hash_of o) ≡ true → (t : Bool) →
      t ≡ same (hash_of b) (hash_of o) → (t ≡ true) ↔ OneModel n o a b
  one-model so sa sb ha t e = (
    λ h. record { hashes = (same_true (hash_of a) (hash_of o) ha, same_true (hash_of b) (hash_of o) (sym e ∙ h)); sizes = (so, (sa, sb)) },
    λ k. e ∙ rw k.hashes.1 (same_refl (hash_of o)),
  )

  -- files that are not of one model are of none of another size
  pub no-model : (t : Bool) → (t ≡ true) ↔ OneModel n o a b → SizeIs n (tags_of o) → t ≡ false → (size : ℕ) → OneModel size o a b → ⊥
  no-model t h sized f size m = never t (h.1 (subst (λ k. OneModel k o a b) (same_size size n (tags_of o) m.sizes.0 sized) m)) f

-- Files of one model have one size.
pub same-sizes : (opened first second : Read) → Reads first → Reads second →
    OneModel opened.gaps.size (part_from opened) (part_from first) (part_from second) → SameSizes opened first second
same-sizes opened first second h k m = (
  same_size first.gaps.size opened.gaps.size (tags_of (part_from first)) (sized_of first h) m.sizes.1.0,
  same_size second.gaps.size opened.gaps.size (tags_of (part_from second)) (sized_of second k) m.sizes.1.1,
)
