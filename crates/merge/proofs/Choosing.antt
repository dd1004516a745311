-- Three-way, by comparisons: what is compared, and a comparison that fails.
use mathlib.Core.Path.{◌≡◌, refl}
use mathlib.Core.Bool.{Bool, true, false}
use mathlib.Core.Logic.{◌↔◌}
use Rattle.format.proofs.Gaps.{never}
use Rattle.merge_compare.specs.Compared.{OneSize}
use Rattle.merge.specs.declared.Read.{Read}
use Rattle.merge.specs.declared.Save.{Save}
use Rattle.merge.specs.Choices.{Reads, part_from, save_of}
use Rattle.merge.proofs.Numbers.{sized-as, sized_of}

pub differs : {A : Type 0} {a b : A} (t : Bool) → (t ≡ true) ↔ (a ≡ b) → t ≡ false → a ≡ b → ⊥
differs t h f e = never t (h.1 e) f

-- Two files of one size.
pub comparable : (one other : Read) → Reads one → Reads other → other.gaps.size ≡ one.gaps.size → OneSize one.bytes.now one.part other.bytes.now other.part
comparable one other h k e = record {
  read = h.read;
  other_read = k.read;
  size = one.gaps.size;
  sized = sized_of one h;
  other_sized = sized-as other k one.gaps.size e;
}

-- The save that wins.
pub reads-of : (save : Save) (first second : Read) → Reads first → Reads second → Reads (save_of save first second)
reads-of Save.First first second h k = h
reads-of Save.Second first second h k = k

pub part-of : (save : Save) (first second : Read) → part_from (save_of save first second) ≡ save_of save (part_from first) (part_from second)
part-of Save.First first second = refl
part-of Save.Second first second = refl
