-- The tags of a part.met, as they lie in the lent bytes and as the reader meets them in the finished ones.
use Prim.Native.Nat.{ℕ, ◌+◌, ◌-◌, ◌≤◌}
use mathlib.Core.Path.{◌≡◌, refl, ap, ◌∙◌}
use mathlib.Core.List.{List, [], ◌∷◌, ◌++◌}
use native.Mathlib.Omega.{arith}
use lib.ListN.{get_or, length, take, drop, length-append, length-drop, take-append-drop}
use mir.Syntax.{w8}
use mir.Val.{Fits}
use Rattle.format.specs.Messages.{Tag}
use Rattle.format.specs.Layout.{byte, encode_tags}
use Rattle.format.specs.Rules.{ValidTags}
use Rattle.format.specs.Decoding.{Decoder, Rule, bytes_at, fault, got, passes, refused, violates}
use Rattle.format.specs.PartTagOrder.{spec_check_part_tags}
use Rattle.format.specs.MetOrder.{decode_edition, decode_part_tags, edition_code, is_e0, is_e1}
use Rattle.format.proofs.Codec.{Codec, anywhere, codec-listed}
use Rattle.format.proofs.Items.{codec-tags}
use Rattle.format.proofs.Writing.{NeedsByte}
use Rattle.wire.specs.declared.Items.{Items}
use Rattle.write_items.specs.There.{items_there}
use Rattle.write_met.proofs.Lists.{list-here}

-- A list ends within the lent bytes, or is empty.
pub list_inside : {A : Type 0} {d : Decoder A} {encode : A → List ℕ} {Valid : A → Type 0} → Codec anywhere d encode Valid → NeedsByte d → (s : List ℕ) →
    ((i : ℕ) → Fits w8 (get_or s i 0)) → (l : Items) (n : ℕ) → got tt (l.at + n) ≡ items_there d s l → n ≤ length s - l.at
list_inside L needed s known l n e =
    let h = list-here L needed s known l e in
    let size : length (bytes_at s l.at n) ≡ n = ap length h.bytes ∙ h.size in
    let whole = ap length (take-append-drop n (drop l.at s)) in
    omega (arith, size, whole, length-append (take n (drop l.at s)) (drop n (drop l.at s)), length-drop l.at s)

pub codec-edition : Codec anywhere decode_edition (λ k. byte (edition_code k)) (λ _. Unit {0})
unfolding decode_edition
codec-edition = codec-listed Rule.opening edition_code (is_e0 ∷ is_e1 ∷ []) (elim [ is_e0 ↦ (refl, omega arith) | is_e1 ↦ (refl, omega arith) ])

-- The reader checks the tags where they stand; the faulty item is the whole list.
module _ (tags : List Tag) (valid : ValidTags tags) (s : List ℕ) (at : ℕ) (rest : List ℕ) (e : drop at s ≡ encode_tags tags ++ rest) (i : at ≤ length s) where
  pub tags-refused : (rule : Rule) → spec_check_part_tags tags ≡ violates rule → decode_part_tags s at ≡ refused (fault rule at (at + length (encode_tags tags) - at))
  unfolding decode_part_tags
  tags-refused rule q = rw ((codec-tags {p = anywhere}).complete s at tags rest valid e i tt, q) refl

  pub tags-pass : (size : ℕ) → spec_check_part_tags tags ≡ passes (size, tags) → decode_part_tags s at ≡ got (size, tags) (at + length (encode_tags tags))
  unfolding decode_part_tags
  tags-pass size q = rw ((codec-tags {p = anywhere}).complete s at tags rest valid e i tt, q) refl
