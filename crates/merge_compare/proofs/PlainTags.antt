-- The tags that are no gap tags, taken one by one from two lists and compared by their bytes.
use Prim.Native.Nat.{ℕ, ◌+◌, ◌-◌, ◌≤◌, ◌<◌}
use mathlib.Core.Path.{◌≡◌, refl, sym, ap, ap₂, ◌∙◌}
use mathlib.Core.Bool.{Bool, true, false, not}
use mathlib.Core.Logic.{◌↔◌}
use mathlib.Core.List.{List, [], ◌∷◌}
use native.Mathlib.Nat.{sub-zero}
use native.Mathlib.Omega.{arith}
use Rattle.format.specs.Messages.{Tag}
use Rattle.format.specs.Rules.{Bytes}
use Rattle.format.specs.Decoding.{bytes_at, got}
use Rattle.format.specs.Order.{decode_tag}
use Rattle.format.specs.GapTags.{role}
use Rattle.format.specs.PutGaps.{is_plain, plain_tags}
use Rattle.format.proofs.Differ.{differ}
use Rattle.format.proofs.Items.{codec-tag}
use Rattle.format.proofs.PartTags.{no_true}
use Rattle.part_tags.proofs.Rest.{Reached, Turn, next-turn, reached-first, rest, rest-none}
use Rattle.put_gaps.proofs.Kept.{tag-place}
use Rattle.merge_compare.specs.declared.Next.{Next}
use Rattle.merge_compare.specs.Compared.{NextFound, Takes, TagsThere, tags_from}
use Rattle.merge_compare.proofs.Encodings.{lies, same-value-of}
use Rattle.std.specs.Prelude.{Option, Some, None, is_some}

-- The loop that looks for the next one: the tags that it has passed are gap tags.
module _ (s : List ℕ) (first left : ℕ) where
  pub record Passed (i at : ℕ) : Type 0 where
    pub reached : Reached decode_tag s left first i at
    pub plain : plain_tags (tags_from s first left) ≡ plain_tags (rest decode_tag s left i at)

  pub passed_none : Passed 0 first
  passed_none = record { reached = reached-first decode_tag s left first; plain = rw sub-zero refl }

  pub passed-all : (i at : ℕ) → Passed i at → left ≤ i → plain_tags (tags_from s first left) ≡ []
  unfolding plain_tags
  passed-all i at p h = p.plain ∙ ap plain_tags (rest-none decode_tag s left i at h)

  module _ (there : TagsThere s first left) (i at : ℕ) (h : i < left) (p : Passed i at) {t : Tag} {next : ℕ} (e : got t next ≡ decode_tag s at) where
    turn : Turn decode_tag s left first i at t next
    turn = next-turn decode_tag s left first there.1 i at h p.reached e

    pub passed-next : false ≡ is_plain (role t) → Passed (i + 1) next
    unfolding plain_tags
    passed-next q = record { reached = turn.reached; plain = p.plain ∙ ap plain_tags turn.next ∙ rw (← q) refl }

    pub found : Bytes s → true ≡ is_plain (role t) → Takes s (plain_tags (tags_from s first left)) (record { at = at; end = next; left = left - i - 1 })
    unfolding plain_tags
    found bytes q =
        let place = tag-place s bytes at e in
        let lying = lies codec-tag s bytes at (omega arith) (sym e) in
        let after : left - i - 1 ≡ left - (i + 1) = omega arith in
        record {
          tag = t;
          valid = lying.valid;
          order = lying.order;
          bytes = lying.bytes;
          there = rw after (there.0, sym turn.reached.same_end ∙ there.1);
          all = rw after (p.plain ∙ ap plain_tags turn.next ∙ rw (← q) refl);
        }

-- The loop over both lists: all that came before is equal, so that the lists are equal exactly when the tags from here on are.
pub record Compared (s t : List ℕ) (all others : List Tag) (next other-next : Option Next) : Type 0 where
  pub tags : List Tag
  pub other_tags : List Tag
  pub found : NextFound s tags next
  pub other_found : NextFound t other_tags other-next
  pub so_far : (all ≡ others) ↔ (tags ≡ other_tags)

pub compared-first : {s t : List ℕ} {next other-next : Option Next} (all others : List Tag) → NextFound s all next → NextFound t others other-next →
    Compared s t all others next other-next
compared-first all others f g = record { tags = all; other_tags = others; found = f; other_found = g; so_far = (λ e. e, λ e. e) }

abbrev pub bytes_of : List ℕ → Next → List ℕ
bytes_of s r = bytes_at s r.at (r.end - r.at)

-- How many tags are still to be gone through.
abbrev pub to_go : Option Next → ℕ
to_go (Some r) = r.left + 1
to_go None = 0

module _ {s t : List ℕ} {all others : List Tag} where
  pub compared-all : (other : Option Next) (b : Bool) → is_some other ≡ not b → Compared s t all others None other → (b ≡ true) ↔ (all ≡ others)
  compared-all (Some q) true h c = absurd (no_true (sym h))
  compared-all (Some q) false h c = (λ e. absurd (no_true e), λ e. let none = sym c.found ∙ c.so_far.0 e ∙ c.other_found.all in differ cc)
  compared-all None true h c = (λ e. c.so_far.1 (c.found ∙ sym c.other_found), λ q. refl)
  compared-all None false h c = absurd (no_true h)

  module _ (next : Next) where
    pub compared-short : Compared s t all others (Some next) None → (false ≡ true) ↔ (all ≡ others)
    compared-short c = (λ e. absurd (no_true e), λ e. let none = sym c.found.all ∙ c.so_far.0 e ∙ c.other_found in differ cc)

    module _ (other : Next) (c : Compared s t all others (Some next) (Some other)) where
      pub compared-bytes : all ≡ others → bytes_of s next ≡ bytes_of t other
      compared-bytes e =
          let lists = sym c.found.all ∙ c.so_far.0 e ∙ c.other_found.all in
          cc (c.found.bytes, c.other_found.bytes, lists)

      pub compared-next : bytes_of s next ≡ bytes_of t other → (next' other' : Option Next) →
          NextFound s (plain_tags (tags_from s next.end next.left)) next' →
          NextFound t (plain_tags (tags_from t other.end other.left)) other' → Compared s t all others next' other'
      compared-next equal next' other' found other_found =
          let f = c.found in
          let g = c.other_found in
          let first : f.tag ≡ g.tag = same-value-of codec-tag f.valid g.valid (sym f.bytes ∙ equal ∙ g.bytes) in
          record {
            tags = plain_tags (tags_from s next.end next.left);
            other_tags = plain_tags (tags_from t other.end other.left);
            found = found;
            other_found = other_found;
            so_far = (
              λ q. cc (c.so_far.0 q, f.all, g.all),
              λ q. c.so_far.1 (f.all ∙ ap₂ (λ a l. a ∷ l) first q ∙ sym g.all),
            );
          }
