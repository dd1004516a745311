-- The tags with other gaps: the tags that are no gap tags stay, and the gap tags are those of the record.
use Prim.Native.Nat.{ℕ, suc, ◌+◌, ◌<◌, ◌≤◌}
use mathlib.Core.Path.{◌≡◌, refl, sym, ap, ap₂, ◌∙◌, subst}
use mathlib.Core.Bool.{true, false}
use mathlib.Core.Option.{Option, none, some}
use mathlib.Core.List.{List, [], ◌∷◌, ◌++◌, map, append_assoc, append-nil}
use native.Mathlib.Omega.{arith}
use lib.ListN.{length, length-append}
use lib.Dec.{eqb}
use borrow.Author.Tests.{eqb-true}
use Rattle.format.specs.Tables.{pick, same}
use Rattle.format.specs.Gaps.{Gap, Ordered, Lawful}
use Rattle.format.specs.Messages.{PartMet, Tag, e0, e1}
use Rattle.format.specs.Layout.{encode_all, encode_file_entry, encode_part_e1, encode_part_met, encode_tag, encode_tags, little_endian}
use Rattle.format.specs.Rules.{All, Apart, Bytes, Digits, Distinct, Dword, GapPair, Paired, SizeIs, done, dword_tag, gap_of, met_ceiling, other, pair}
use Rattle.format.specs.Rules.{ValidHash, ValidHashBlocks, ValidPartMet, ValidPartTags, ValidTag, ValidTags}
use Rattle.format.specs.GapTags.{Role, plain, odd, start, end, role, role_in, gaps_of, number_of}
use Rattle.format.specs.PartTagOrder.{size_in, sizes}
use Rattle.format.specs.PutGaps.{is_plain, plain_tags, decimal_of, gap_tags, regapped, tags_of}
use Rattle.format.specs.Merging.{date_of, form_of, hash_of, part_of}
use Rattle.format.proofs.PartTags.{Means, either-test, gaps-of, no_true, role-means, size-sizes, sizes-means}
use Rattle.format.proofs.Decimals.{decimal-digits, same-decimal}

-- The tags that are no gap tags

plain-kept : (t : Tag) (l : List Tag) → is_plain (role t) ≡ true → plain_tags (t ∷ l) ≡ t ∷ plain_tags l
unfolding plain_tags
plain-kept t l e = rw e refl

plain-left-out : (t : Tag) (l : List Tag) → is_plain (role t) ≡ false → plain_tags (t ∷ l) ≡ plain_tags l
unfolding plain_tags
plain-left-out t l e = rw e refl

pub plain-append : (k l : List Tag) → plain_tags (k ++ l) ≡ plain_tags k ++ plain_tags l
unfolding plain_tags
plain-append [] l = refl
plain-append (t ∷ k) l = either-test (is_plain (role t))
    (λ e. plain-kept t (k ++ l) e ∙ ap (λ x. t ∷ x) (plain-append k l) ∙ ap (λ x. x ++ plain_tags l) (sym (plain-kept t k e)))
    (λ e. plain-left-out t (k ++ l) e ∙ plain-append k l ∙ ap (λ x. x ++ plain_tags l) (sym (plain-left-out t k e)))

plain-again : (l : List Tag) → plain_tags (plain_tags l) ≡ plain_tags l
unfolding plain_tags
plain-again [] = refl
plain-again (t ∷ l) = either-test (is_plain (role t))
    (λ e. ap plain_tags (plain-kept t l e) ∙ plain-kept t (plain_tags l) e ∙ ap (λ x. t ∷ x) (plain-again l) ∙ sym (plain-kept t l e))
    (λ e. ap plain_tags (plain-left-out t l e) ∙ plain-again l ∙ sym (plain-left-out t l e))

plain-gap_tags : (i : ℕ) (gaps : List Gap) → plain_tags (gap_tags i gaps) ≡ []
unfolding plain_tags gap_tags role
plain-gap_tags i [] = refl
plain-gap_tags i (g ∷ gaps) = plain-gap_tags (suc i) gaps

pub all_plain : (P : Tag → Type 0) (l : List Tag) → All P l → All P (plain_tags l)
unfolding plain_tags
all_plain P [] h = tt
all_plain P (t ∷ l) h = either-test (is_plain (role t))
    (λ e. subst (All P) (sym (plain-kept t l e)) (h.0, all_plain P l h.1))
    (λ e. subst (All P) (sym (plain-left-out t l e)) (all_plain P l h.1))

-- "all but the gap tags stay, in order" (01)
pub plain-regapped : (gaps : List Gap) (tags : List Tag) → plain_tags (regapped gaps tags) ≡ plain_tags tags
plain-regapped gaps tags =
    plain-append (plain_tags tags) (gap_tags 0 gaps) ∙ ap₂ (λ k l. k ++ l) (plain-again tags) (plain-gap_tags 0 gaps) ∙ append-nil (plain_tags tags)

-- The size tag is no gap tag.

size_less : (name : List ℕ) (v : Option ℕ) → is_plain (role_in name v) ≡ false → size_in name v ≡ []
unfolding same
size_less [] v e = absurd (no_true (sym e))
size_less (b ∷ d) none e = refl
size_less (b ∷ d) (some n) e = either-test (eqb b 0x02)
    (λ q. absurd (no_true (sym (rw (eqb-true b 0x02 q) at e))))
    (λ q. rw q refl)

sizes-append : (k l : List Tag) → sizes (k ++ l) ≡ sizes k ++ sizes l
unfolding sizes
sizes-append [] l = refl
sizes-append (t ∷ k) l =
    let s = size_in t.name (number_of t.value.0 t.value.1) in
    ap (λ x. s ++ x) (sizes-append k l) ∙ sym (append_assoc s (sizes k) (sizes l))

sizes-plain : (l : List Tag) → sizes (plain_tags l) ≡ sizes l
unfolding sizes plain_tags role
sizes-plain [] = refl
sizes-plain (t ∷ l) =
    let s = size_in t.name (number_of t.value.0 t.value.1) in
    either-test (is_plain (role t))
    (λ e. ap sizes (plain-kept t l e) ∙ ap (λ x. s ++ x) (sizes-plain l))
    (λ e. ap sizes (plain-left-out t l e) ∙ sizes-plain l ∙
    ap (λ x. x ++ sizes l) (sym (size_less t.name (number_of t.value.0 t.value.1) e)))

sizes-gap_tags : (i : ℕ) (gaps : List Gap) → sizes (gap_tags i gaps) ≡ []
unfolding sizes gap_tags same
sizes-gap_tags i [] = refl
sizes-gap_tags i (g ∷ gaps) = sizes-gap_tags (suc i) gaps

sizes-regapped : (gaps : List Gap) (tags : List Tag) → sizes (regapped gaps tags) ≡ sizes tags
sizes-regapped gaps tags =
    sizes-append (plain_tags tags) (gap_tags 0 gaps) ∙ ap₂ (λ k l. k ++ l) (sizes-plain tags) (sizes-gap_tags 0 gaps) ∙ append-nil (sizes tags)

pub size-regapped : (size : ℕ) (gaps : List Gap) (tags : List Tag) → SizeIs size tags → SizeIs size (regapped gaps tags)
size-regapped size gaps tags h = sizes-means size (regapped gaps tags) (sizes-regapped gaps tags ∙ size-sizes size tags h)

-- The pairs of gap tags

abbrev pair_of : ℕ → Gap → GapPair
pair_of i g = record { digits = decimal_of i; start = g.start; end = g.end }

abbrev pairs_from : ℕ → List Gap → List GapPair
pairs_from i [] = []
pairs_from i (g ∷ gaps) = pair_of i g ∷ pairs_from (suc i) gaps

paired-gap_tags : (i : ℕ) (gaps : List Gap) → Paired (gap_tags i gaps) (pairs_from i gaps)
unfolding gap_tags
paired-gap_tags i [] = done
paired-gap_tags i (g ∷ gaps) = pair (pair_of i g) (paired-gap_tags (suc i) gaps)

paired-plain : (l rest : List Tag) (ps : List GapPair) → Paired rest ps → Paired (plain_tags l ++ rest) ps
unfolding plain_tags
paired-plain [] rest ps h = h
paired-plain (t ∷ l) rest ps h = go (role t) (role-means t) (paired-plain l rest ps h)
  where
    go : (r : Role) → Means t r → Paired (plain_tags l ++ rest) ps → Paired (pick (is_plain r) (t ∷ plain_tags l) (plain_tags l) ++ rest) ps
    go plain m k = other m k
    go odd m k = k
    go (start d n) m k = k
    go (end d n) m k = k

paired-regapped : (gaps : List Gap) (tags : List Tag) → Paired (regapped gaps tags) (pairs_from 0 gaps)
paired-regapped gaps tags = paired-plain tags (gap_tags 0 gaps) (pairs_from 0 gaps) (paired-gap_tags 0 gaps)

gaps-pairs : (i : ℕ) (gaps : List Gap) → map gap_of (pairs_from i gaps) ≡ gaps
gaps-pairs i [] = refl
gaps-pairs i (g ∷ gaps) = ap (λ l. g ∷ l) (gaps-pairs (suc i) gaps)

length_pairs : (i : ℕ) (gaps : List Gap) → length (pairs_from i gaps) ≡ length gaps
length_pairs i [] = refl
length_pairs i (g ∷ gaps) = ap suc (length_pairs (suc i) gaps)

pub digits-pairs : (i : ℕ) (gaps : List Gap) → i + length gaps ≤ 100 → All (λ p. Digits p.digits) (pairs_from i gaps)
digits-pairs i [] h = tt
digits-pairs i (g ∷ gaps) h = (decimal-digits i (omega arith), digits-pairs (suc i) gaps (omega arith))

apart-pairs : (i j : ℕ) (gaps : List Gap) → i < j → Apart (decimal_of i) (pairs_from j gaps)
apart-pairs i j [] h = tt
apart-pairs i j (g ∷ gaps) h = ((λ e. let k : i ≡ j = same-decimal i j e in omega arith), apart-pairs i (suc j) gaps (omega arith))

distinct-pairs : (i : ℕ) (gaps : List Gap) → Distinct (pairs_from i gaps)
unfolding Distinct
distinct-pairs i [] = tt
distinct-pairs i (g ∷ gaps) = (apart-pairs i (suc i) gaps (omega arith), distinct-pairs (suc i) gaps)

pub gaps-regapped : (gaps : List Gap) (tags : List Tag) → gaps_of (regapped gaps tags) ≡ gaps
gaps-regapped gaps tags = gaps-of (regapped gaps tags) (pairs_from 0 gaps) (paired-regapped gaps tags) ∙ gaps-pairs 0 gaps

pub valid-regapped : (limit size : ℕ) (gaps : List Gap) (tags : List Tag) → Lawful limit size gaps → SizeIs size tags →
    ValidPartTags size (regapped gaps tags)
valid-regapped limit size gaps tags h k = record {
  one = size-regapped size gaps tags k;
  gaps = record {
    pairs = pairs_from 0 gaps;
    paired = paired-regapped gaps tags;
    few = omega (arith, length_pairs 0 gaps, h.few);
    digits = digits-pairs 0 gaps (omega (arith, h.few));
    distinct = distinct-pairs 0 gaps;
    order = subst (Ordered size 0) (sym (gaps-pairs 0 gaps)) h.ordered;
  };
}

-- The tags of the gaps are valid tags.

digits-bytes : (d : List ℕ) → All (λ b. (0x30 ≤ b) × (b ≤ 0x39)) d → Bytes d
digits-bytes [] h = tt
digits-bytes (b ∷ d) h = (omega arith, digits-bytes d h.1)

valid-gap_tag : (b : ℕ) (d : List ℕ) (n : ℕ) → b < 256 → Digits d → n < 4294967296 → ValidTag (dword_tag (b ∷ d) n)
valid-gap_tag b d n h k few = record {
  name = record { some = omega arith; few = omega (arith, k.few); bytes = (h, digits-bytes d k.decimal) };
  value = few;
}

valid-gap_tags : (size low i : ℕ) (gaps : List Gap) → size ≤ 4294967295 → i + length gaps ≤ 100 → Ordered size low gaps → All ValidTag (gap_tags i gaps)
unfolding gap_tags Ordered
valid-gap_tags size low i [] few h o = tt
valid-gap_tags size low i (g ∷ gaps) few h o =
    let d = decimal-digits i (omega arith) in (
      valid-gap_tag 0x09 _ g.start (omega arith) d (omega (arith, o.1, o.2)),
      (valid-gap_tag 0x0A _ g.end (omega arith) d (omega (arith, o.2)), valid-gap_tags size (suc g.end) (suc i) gaps few (omega arith) o.3),
    )

all_append : {A : Type 0} (P : A → Type 0) (k l : List A) → All P k → All P l → All P (k ++ l)
all_append P [] l h j = j
all_append P (a ∷ k) l h j = (h.0, all_append P k l h.1 j)

-- A tag has at least one byte, so that a list has at most as many tags as bytes.
tag-some : (t : Tag) → 1 ≤ length (encode_tag t)
unfolding encode_tag little_endian
tag-some t = omega arith

pub tags-few : (l : List Tag) → length l ≤ length (encode_all encode_tag l)
tags-few [] = omega arith
tags-few (t ∷ l) = omega (arith, tag-some t, tags-few l, length-append (encode_tag t) (encode_all encode_tag l))

pub tags-short : (m : PartMet) → length (encode_all encode_tag (tags_of m)) ≤ length (encode_part_met m)
unfolding encode_part_met encode_file_entry encode_part_e1 encode_tags tags_of
tags-short (e0 e) = simp length-append (omega arith)
tags-short (e1 m) = simp length-append (omega arith)

pub same_size : (n m : ℕ) (tags : List Tag) → SizeIs n tags → SizeIs m tags → n ≡ m
same_size n m tags h k = let a = size-sizes n tags h in let b = size-sizes m tags k in cc

-- A part.met with the form of a valid one, and the tags of another of its size with other gaps.
module _ (limit size : ℕ) (gaps : List Gap) (limited : limit ≤ 4294967295) (lawful : Lawful limit size gaps) (tags : List Tag) (sized : SizeIs size tags) where
  tags-valid : ValidTags tags → length (encode_all encode_tag (regapped gaps tags)) ≤ met_ceiling → ValidTags (regapped gaps tags)
  tags-valid h few = (
    omega (arith, tags-few (regapped gaps tags)),
    all_append ValidTag (plain_tags tags) (gap_tags 0 gaps) (all_plain ValidTag tags h.1)
        (valid-gap_tags size 0 0 gaps (omega (arith, lawful.fits)) (omega (arith, lawful.few)) lawful.ordered),
  )

  pub part-valid : (m : PartMet) → ValidPartMet m → SizeIs size (tags_of m) → (date : ℕ) → Dword date → (hash : List ℕ) → ValidHash hash → ValidTags tags →
      length (encode_part_met (part_of (form_of m) date hash (regapped gaps tags))) ≤ met_ceiling → ValidPartMet (part_of (form_of m) date hash (regapped gaps tags))
  unfolding ValidPartMet tags_of
  part-valid (e0 e) h k date date-fits hash hash-valid v few = record {
    entry = record {
      date = date-fits;
      hash = hash-valid;
      parts = h.entry.parts;
      tags = tags-valid v (omega (arith, tags-short (part_of (form_of (e0 e)) date hash (regapped gaps tags))));
    };
    size = size;
    sized = valid-regapped limit size gaps tags lawful sized;
  }
  part-valid (e1 m) h k date date-fits hash hash-valid v few = record {
    date = date-fits;
    hash = hash-valid;
    tags = tags-valid v (omega (arith, tags-short (part_of (form_of (e1 m)) date hash (regapped gaps tags))));
    size = size;
    sized = valid-regapped limit size gaps tags lawful sized;
    blocks = subst (λ n. ValidHashBlocks n m.blocks) (same_size h.size size m.tags h.sized.one k) h.blocks;
  }

-- What the rules say of each part by itself.

pub valid-date : (m : PartMet) → ValidPartMet m → Dword (date_of m)
unfolding ValidPartMet
valid-date (e0 e) h = h.entry.date
valid-date (e1 m) h = h.date

pub valid-hash : (m : PartMet) → ValidPartMet m → ValidHash (hash_of m)
unfolding ValidPartMet
valid-hash (e0 e) h = h.entry.hash
valid-hash (e1 m) h = h.hash

pub valid-tags : (m : PartMet) → ValidPartMet m → ValidTags (tags_of m)
unfolding ValidPartMet tags_of
valid-tags (e0 e) h = h.entry.tags
valid-tags (e1 m) h = h.tags

pub valid-sized : (m : PartMet) → ValidPartMet m → (size : ℕ) × ValidPartTags size (tags_of m)
unfolding ValidPartMet tags_of
valid-sized (e0 e) h = (h.size, h.sized)
valid-sized (e1 m) h = (h.size, h.sized)
