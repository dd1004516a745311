-- The size tags, one after the other.
use Prim.Native.Nat.{ℕ, ◌+◌, ◌-◌}
use mathlib.Core.Path.{◌≡◌, refl, sym, ap, ◌∙◌}
use mathlib.Core.Bool.{false}
use mathlib.Core.Option.{Option, none, some}
use mathlib.Core.List.{List, [], ◌∷◌, ◌++◌, append_assoc}
use native.Mathlib.Omega.{arith}
use lib.ListN.{length, get_or, drop, length-drop}
use lib.Dec.{eqb}
use lib.Seq.{length-take-le}
use borrow.Author.Tests.{eq-eqb, ne_eqb}
use Rattle.format.specs.Tables.{pick, same}
use Rattle.format.specs.Messages.{Tag}
use Rattle.format.specs.Decoding as decoding
use Rattle.format.specs.Decoding.{bytes_at, passes, violates}
use Rattle.format.specs.Order.{decode_tag}
use Rattle.format.specs.PartTagOrder.{size_in, sizes, sole}
use Rattle.format.proofs.Differ.{differ}
use Rattle.std.specs.Prelude.{Option as Maybe, None, Some, option_to_list}
use Rattle.format.proofs.PartTags.{passes_same, same-lengths, same_refl, violates-passes}
use Rattle.part_tags.specs.declared.Sizes.{Sizes}
use Rattle.part_tags.specs.TagBytes.{TagThere, spec_name_length, spec_digits_at, number_at, spec_dword_at}
use Rattle.part_tags.specs.Survey.{sizes_in, sizes_at, joined, only_size, sole_after, Sized}
use Rattle.part_tags.proofs.TagLaws.{bytes_of}

other_name : (name : List ℕ) (v : Option ℕ) → same name (0x02 ∷ []) ≡ false → size_in name v ≡ []
other_name name none e = refl
other_name name (some n) e = rw e refl

module _ (s : List ℕ) (at : ℕ) (there : TagThere s at) where
  abbrev number : Option ℕ
  number = pick (eqb (get_or s at 0) 3) (some (number_at s at)) none

  sizes-is : sizes_at (decode_tag s at) ≡ size_in (get_or s (at + 3) 0 ∷ spec_digits_at s at) number
  sizes-is = let b = bytes_of s at there in rw (there.1.1, b.name, b.number) refl

  -- A tag is no size tag by the first byte of its name, its length, or its type.
  pub size-byte : (get_or s (at + 3) 0 ≡ 2 → ⊥) → [] ≡ sizes_at (decode_tag s at)
  unfolding same
  size-byte h = sym (sizes-is ∙ other_name (get_or s (at + 3) 0 ∷ spec_digits_at s at) number (rw (ne_eqb (get_or s (at + 3) 0) 0x02 h) refl))

  pub size-length : (spec_name_length s at ≡ 1 → ⊥) → [] ≡ sizes_at (decode_tag s at)
  size-length h =
      let b = bytes_of s at there in
      let long : length (spec_digits_at s at) ≡ spec_name_length s at - 1 =
      length-take-le (spec_name_length s at - 1) (drop (at + 4) s) (omega (arith, length-drop (at + 4) s, b.inside, b.some-name)) in
      sym (sizes-is ∙ other_name _ number (same-lengths _ (0x02 ∷ []) (λ e. h (omega (arith, long, b.some-name)))))

  pub size_type : (get_or s at 0 ≡ 3 → ⊥) → [] ≡ sizes_at (decode_tag s at)
  size_type h = sym (sizes-is ∙ rw (ne_eqb (get_or s at 0) 3 h) refl)

  pub size-there : get_or s (at + 3) 0 ≡ 2 → spec_name_length s at ≡ 1 → get_or s at 0 ≡ 3 → spec_dword_at s (at + 4) ∷ [] ≡ sizes_at (decode_tag s at)
  size-there a b c =
      let name : get_or s (at + 3) 0 ∷ spec_digits_at s at ≡ 0x02 ∷ [] = ap (λ x. x ∷ spec_digits_at s at) a ∙ ap (λ n. 0x02 ∷ bytes_at s (at + 4) (n - 1)) b in
      let place : at + 3 + spec_name_length s at ≡ at + 4 = omega (arith, b) in
      sym (sizes-is ∙ rw (eq-eqb (get_or s at 0) 3 c, name, same_refl (0x02 ∷ []), place) refl)

joined-sole : (found : Sizes) (n : Maybe ℕ) (l : List ℕ) → sole_after found (option_to_list n ++ l) ≡ sole_after (joined found n) l
joined-sole Sizes.None None l = refl
joined-sole (Sizes.One m) None l = refl
joined-sole Sizes.Many None l = refl
joined-sole Sizes.None (Some n) l = refl
joined-sole (Sizes.One m) (Some n) l = refl
joined-sole Sizes.Many (Some n) l = refl

sizes-append : (k l : List Tag) → sizes (k ++ l) ≡ sizes k ++ sizes l
unfolding sizes
sizes-append [] l = refl
sizes-append (t ∷ k) l = ap (λ r. sizes_in t ++ r) (sizes-append k l) ∙ sym (append_assoc (sizes_in t) (sizes k) (sizes l))

-- The sizes seen before some tags, after them, and after a next tag or next tags.
pub sized-none : (found : Sizes) → Sized found [] found
unfolding sizes
sized-none found l = refl

pub sized-append : (a b c : Sizes) (k l : List Tag) → Sized a k b → Sized b l c → Sized a (k ++ l) c
sized-append a b c k l p q r =
    ap (λ x. sole_after a (x ++ r)) (sizes-append k l) ∙ ap (sole_after a) (append_assoc (sizes k) (sizes l) r) ∙ p (sizes l ++ r) ∙ q r

sized-one : (found : Sizes) (n : Maybe ℕ) (t : Tag) → option_to_list n ≡ sizes_in t → Sized found (t ∷ []) (joined found n)
unfolding sizes
sized-one found n t e l = rw (← e, append_assoc) (joined-sole found n l)

pub sized-next : (before found : Sizes) (n : Maybe ℕ) (l : List Tag) (t : Tag) → Sized before l found → option_to_list n ≡ sizes_in t → Sized before (l ++ (t ∷ [])) (joined found n)
sized-next before found n l t h e = sized-append before found (joined found n) l (t ∷ []) h (sized-one found n t e)

-- two tags that are no size tags
pub sized-two : (found : Sizes) (t u : Tag) → [] ≡ sizes_in t → [] ≡ sizes_in u → Sized found (t ∷ u ∷ []) found
unfolding sizes
sized-two found t u e f l = rw (← e, ← f) refl

-- one size tag before some tags, and one before and among them: it is the same
pub size_same : (n m : ℕ) (l : List Tag) → Sized (Sizes.One n) l (Sizes.One m) → n ≡ m
size_same n m l h = go (sizes l ++ []) (h [])
  where
    go : (k : List ℕ) → sole (n ∷ k) ≡ passes m → n ≡ m
    go [] e = passes_same e
    go (x ∷ k) e = absurd (violates-passes e)

-- The check of the sizes, when all are seen.
pub only_none : (found : Sizes) → None ≡ only_size found → sole_after found [] ≡ violates decoding.size_tag
only_none Sizes.None e = refl
only_none (Sizes.One n) e = differ cc
only_none Sizes.Many e = refl

pub only-some : (found : Sizes) {n : ℕ} → Some n ≡ only_size found → sole_after found [] ≡ passes n
only-some Sizes.None e = differ cc
only-some (Sizes.One m) e = ap passes (number_same (sym e))
  where
    number_same : {a b : ℕ} → Some a ≡ Some b → a ≡ b
    number_same e = cc
only-some Sizes.Many e = differ cc
