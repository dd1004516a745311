-- Two files of one form have equal hash lists exactly when the bytes of these are equal.
use Prim.Native.Nat.{ℕ}
use mathlib.Core.Path.{◌≡◌, ap, subst}
use mathlib.Core.Bool.{true, false}
use mathlib.Core.Logic.{◌↔◌}
use mathlib.Core.List.{List}
use Rattle.format.specs.Messages as messages
use Rattle.format.specs.Layout.{encode_all, encode_hash}
use Rattle.format.specs.Rules.{SizeIs, ValidHashBlocks, ValidPartMet}
use Rattle.format.specs.Order.{decode_hash}
use Rattle.format.specs.PutGaps.{tags_of}
use Rattle.format.specs.Merging.{e0_form, e1_form, form_of}
use Rattle.format.proofs.Differ.{differ}
use Rattle.format.proofs.MetFiles.{codec-blocks}
use Rattle.format.proofs.PartTags.{no_true}
use Rattle.format.proofs.Regapped.{same_size}
use Rattle.wire.specs.WireAnswers.{items_in}
use Rattle.met.specs.declared.FileEntry.{FileEntry}
use Rattle.met.specs.declared.PartE1.{PartE1}
use Rattle.met.specs.declared.PartMet.{PartMet}
use Rattle.met.specs.MetAnswers.{blocks_in, part_met_in}
use Rattle.put_gaps.specs.Pieces.{WasRead, tail_of}
use Rattle.merge_compare.specs.Compared.{OneSize}
use Rattle.merge_compare.proofs.Encodings.{same-hash-lists, same-value-of}

-- An E0 file has another form than an E1 file.
pub two-forms : {l : List (List ℕ)} {b : messages.HashBlocks} → (false ≡ true) ↔ (e0_form l ≡ e1_form b)
two-forms = (λ e. absurd (no_true e), λ e. differ cc)

pub two-forms-turned : {l : List (List ℕ)} {b : messages.HashBlocks} → (false ≡ true) ↔ (e1_form b ≡ e0_form l)
two-forms-turned = (λ e. absurd (no_true e), λ e. differ cc)

pub e0-forms : (s t : List ℕ) (e f : FileEntry) → OneSize s (PartMet.E0 e) t (PartMet.E0 f) →
    (encode_all encode_hash (items_in decode_hash s e.parts) ≡ encode_all encode_hash (items_in decode_hash t f.parts)) ↔
    (form_of (part_met_in s (PartMet.E0 e)) ≡ form_of (part_met_in t (PartMet.E0 f)))
unfolding ValidPartMet
e0-forms s t e f h = (
  λ q. ap e0_form (same-hash-lists _ _ h.read.valid.content.entry.parts.1 h.other_read.valid.content.entry.parts.1 q),
  λ q. cc,
)

blocks-valid : (s : List ℕ) (m : PartE1) → WasRead s (PartMet.E1 m) → (size : ℕ) → SizeIs size (tags_of (part_met_in s (PartMet.E1 m))) →
    ValidHashBlocks size (blocks_in s m.blocks)
unfolding ValidPartMet tags_of
blocks-valid s m h size sized =
    let v = h.valid.content in
    subst (λ n. ValidHashBlocks n (blocks_in s m.blocks)) (same_size v.size size _ v.sized.one sized) v.blocks

pub e1-forms : (s t : List ℕ) (m n : PartE1) → OneSize s (PartMet.E1 m) t (PartMet.E1 n) →
    (tail_of (part_met_in s (PartMet.E1 m)) ≡ tail_of (part_met_in t (PartMet.E1 n))) ↔
    (form_of (part_met_in s (PartMet.E1 m)) ≡ form_of (part_met_in t (PartMet.E1 n)))
unfolding tail_of
e1-forms s t m n h =
    let v = blocks-valid s m h.read h.size h.sized in
    let w = blocks-valid t n h.other_read h.size h.other_sized in
    (λ q. ap e1_form (same-value-of (codec-blocks h.size) v w q), λ q. cc)
