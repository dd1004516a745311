-- The tags that stay of a list whose gap tags lie in a range: all before it, those in it that are no gap tags, and all after it.
use Prim.Native.Nat.{ℕ, ◌+◌, ◌-◌, ◌*◌, ◌≤◌}
use mathlib.Core.Path.{◌≡◌, refl, sym, ap, ◌∙◌}
use mathlib.Core.List.{List, [], ◌∷◌, ◌++◌, append_assoc}
use native.Mathlib.Omega.{arith}
use lib.ListN.{length, drop, length-append}
use lib.Seq.{take_at}
use Rattle.format.specs.Messages.{Tag}
use Rattle.format.specs.Layout.{encode_all, encode_tag}
use Rattle.format.specs.Rules.{All, Bytes}
use Rattle.format.specs.Decoding.{bytes_at, decode_many, ends, got, items_of}
use Rattle.format.specs.Order.{decode_tag}
use Rattle.format.specs.Tables.{pick}
use Rattle.format.specs.GapTags as tagged
use Rattle.format.specs.GapTags.{Role, role, start_in, end_in, gap_starts, gap_ends, zip_gaps, gaps_of}
use Rattle.format.specs.PutGaps.{is_plain, plain_tags}
use Rattle.format.specs.Writing.{overwritten}
use Rattle.format.proofs.Codec.{anywhere, codec-many}
use Rattle.format.proofs.Items.{codec-tag}
use Rattle.wire.specs.declared.Items.{Items}
use Rattle.wire.specs.WireAnswers.{ItemsPlaced, ItemsInside}
use Rattle.tags.specs.TagAnswers.{tags_in}
use Rattle.part_tags.specs.Survey.{GapTagsIn, Plain}
use Rattle.put_gaps.specs.Pieces.{HasGaps, plain_bytes}
use Rattle.format.proofs.Regapped.{plain-append}
use Rattle.put_gaps.proofs.Pieces.{encode-append}
use Rattle.put_gaps.proofs.Kept.{plain-short}
use Rattle.put_gaps.proofs.Lengths.{many-length, items-length, tags-end}

run-bytes : (s : List ℕ) → Bytes s → (n at end : ℕ) (l : List Tag) → decode_many n decode_tag s at ≡ got l end → at ≤ length s →
    bytes_at s at (end - at) ≡ encode_all encode_tag l
run-bytes s bytes n at end l e h =
    let found = (codec-many {p = anywhere} n (codec-tag {p = anywhere})).sound s bytes at h l end e tt in
    rw found.bytes (take_at (encode_all encode_tag l) (drop end s) (end - at) (omega (arith, tags-end s bytes n at end l e)))

no_items : {A : Type 0} (l : List A) → length l ≡ 0 → l ≡ []
no_items [] h = refl
no_items (x ∷ l) h = absurd (omega arith)

pub none_kept : (p old : List ℕ) → length p ≡ 0 → old ≡ overwritten p old
none_kept [] old h = refl
none_kept (x ∷ p) old h = absurd (omega arith)

-- Tags that are no gap tags all stay.
all_plain : (l : List Tag) → All Plain l → plain_tags l ≡ l
unfolding plain_tags
all_plain [] h = refl
all_plain (t ∷ l) h = rw h.0 (ap (λ k. t ∷ k) (all_plain l h.1))

-- A tag that stays is no start tag and no end tag, and no tag is both.
share : (r : Role) (t : Tag) (starts ends : List ℕ) (kept l : List Tag) → length starts + length ends + length kept ≤ length l →
    length (start_in r ++ starts) + length (end_in r ++ ends) + length (pick (is_plain r) (t ∷ kept) kept) ≤ length (t ∷ l)
share tagged.plain t starts ends kept l h = omega arith
share tagged.odd t starts ends kept l h = omega arith
share (tagged.start d n) t starts ends kept l h = omega arith
share (tagged.end d n) t starts ends kept l h = omega arith

shares : (l : List Tag) → length (gap_starts l) + length (gap_ends l) + length (plain_tags l) ≤ length l
unfolding gap_starts gap_ends plain_tags
shares [] = omega arith
shares (t ∷ l) = share (role t) t (gap_starts l) (gap_ends l) (plain_tags l) l (shares l)

zip-short : (starts ends : List ℕ) → (length (zip_gaps starts ends) ≤ length starts) × (length (zip_gaps starts ends) ≤ length ends)
unfolding zip_gaps
zip-short [] ends = (omega arith, omega arith)
zip-short (x ∷ starts) [] = (omega arith, omega arith)
zip-short (x ∷ starts) (y ∷ ends) = let later = zip-short starts ends in (omega (arith, later.0), omega (arith, later.1))

two-each : (l : List Tag) → 2 * length (gaps_of l) + length (plain_tags l) ≤ length l
unfolding gaps_of
two-each l = let short = zip-short (gap_starts l) (gap_ends l) in omega (arith, shares l, short.0, short.1)

-- Where no tag stays, there are no bytes of tags that stay.
pub none-stay : (l : List Tag) → length (plain_tags l) ≡ 0 → length (plain_bytes l) ≡ 0
unfolding plain_bytes
none-stay l h = rw (no_items (plain_tags l) h) refl

module _ (s : List ℕ) (bytes : Bytes s) (tags range : Items) (inside : ItemsInside decode_tag s tags) (r : GapTagsIn s tags range) where
  pub placed-range : ItemsPlaced decode_tag s range
  unfolding ends
  placed-range = ap ends r.mid-read

  tags-range : tags_in s range ≡ r.mid
  tags-range = ap items_of r.mid-read

  plain-pieces : plain_tags (tags_in s tags) ≡ r.pre ++ (plain_tags (tags_in s range) ++ r.post)
  plain-pieces =
      ap plain_tags r.all ∙ plain-append r.pre (r.mid ++ r.post) ∙
      rw (plain-append r.mid r.post, all_plain r.pre r.pre-plain, all_plain r.post r.post-plain, tags-range) refl

  at_first : range.at ≡ tags.at + length (encode_all encode_tag r.pre)
  at_first = tags-end s bytes (length r.pre) tags.at range.at r.pre r.pre_read

  at-end : range.end ≡ range.at + length (encode_all encode_tag r.mid)
  at-end = tags-end s bytes range.count range.at range.end r.mid r.mid-read

  at_last : tags.end ≡ range.end + length (encode_all encode_tag r.post)
  at_last = tags-end s bytes (length r.post) range.end tags.end r.post r.post_read

  first-bytes : bytes_at s tags.at (range.at - tags.at) ≡ encode_all encode_tag r.pre
  first-bytes =
      run-bytes s bytes (length r.pre) tags.at range.at r.pre r.pre_read (omega (arith, at_first, at-end, at_last, inside.1))

  last-bytes : bytes_at s range.end (tags.end - range.end) ≡ encode_all encode_tag r.post
  last-bytes = run-bytes s bytes (length r.post) range.end tags.end r.post r.post_read (omega (arith, at_last, inside.1))

  -- what is copied
  pub kept_pieces : (bytes_at s tags.at (range.at - tags.at) ++ plain_bytes (tags_in s range)) ++ bytes_at s range.end (tags.end - range.end) ≡
      plain_bytes (tags_in s tags)
  unfolding plain_bytes
  kept_pieces =
      let plain = plain_tags (tags_in s range) in
      rw (first-bytes, last-bytes, append_assoc)
      (ap (λ l. encode_all encode_tag r.pre ++ l) (sym (encode-append plain r.post)) ∙
      sym (encode-append r.pre (plain ++ r.post)) ∙ ap (encode_all encode_tag) (sym plain-pieces))

  -- its numbers
  pub record Spans : Type 0 where
    pub first : tags.at ≤ range.at
    pub middle : range.at + length (plain_bytes (tags_in s range)) ≤ range.end
    pub last : range.end ≤ tags.end
    pub within : tags.end ≤ length s
    pub few : range.count ≤ tags.count
    pub short : length (plain_tags (tags_in s range)) ≤ range.count
    pub counted : length (plain_tags (tags_in s tags)) ≡ tags.count - range.count + length (plain_tags (tags_in s range))
    pub run : length (bytes_at s tags.at (range.at - tags.at)) ≡ range.at - tags.at
    pub summed : length (plain_bytes (tags_in s tags)) ≡ range.at - tags.at + length (plain_bytes (tags_in s range)) + (tags.end - range.end)

  pub spans : Spans
  spans =
      let first = bytes_at s tags.at (range.at - tags.at) in
      let last = bytes_at s range.end (tags.end - range.end) in
      let short = plain-short (tags_in s range) in
      let middle = ap (λ l. length (encode_all encode_tag l)) tags-range in
      let in-range = ap length tags-range ∙ many-length decode_tag s range.count range.at range.end r.mid r.mid-read in
      let all = items-length decode_tag s tags inside.0 in
      let parts = ap length r.all ∙ length-append r.pre (r.mid ++ r.post) in
      let later = length-append r.mid r.post in
      let plain = ap length plain-pieces ∙ length-append r.pre (plain_tags (tags_in s range) ++ r.post) in
      let plain-later = length-append (plain_tags (tags_in s range)) r.post in
      let mid = ap length tags-range in
      record {
        first = omega (arith, at_first);
        middle = omega (arith, at-end, middle, short.1);
        last = omega (arith, at_last);
        within = inside.1;
        few = omega (arith, all, parts, later, in-range, mid);
        short = omega (arith, short.0, in-range);
        counted = omega (arith, plain, plain-later, all, parts, later, in-range, mid);
        run = omega (arith, ap length first-bytes, at_first);
        summed =
            omega (
              arith,
              ap length kept_pieces,
              length-append (first ++ plain_bytes (tags_in s range)) last,
              length-append first (plain_bytes (tags_in s range)),
              ap length first-bytes,
              ap length last-bytes,
              at_first,
              at_last,
            );
      }

  -- two tags of the range for each gap do not stay
  pub pairs-out : (n : ℕ) → HasGaps s tags n → 2 * n + length (plain_tags (tags_in s range)) ≤ range.count
  pairs-out n h =
      let all = two-each (tags_in s tags) in
      let length-all = items-length decode_tag s tags inside.0 in
      omega (arith, all, length-all, h.counted, spans.counted, spans.few, spans.short)
