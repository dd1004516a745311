-- The tags that were skipped: those before the first gap tag, those up to the last one, and the others.
use Prim.Native.Nat.{ℕ, zero, suc, ◌+◌, ◌-◌, ◌≤◌, ◌<◌}
use mathlib.Core.Path.{◌≡◌, refl, sym, ap, subst, ◌∙◌}
use mathlib.Core.Bool.{true}
use mathlib.Core.List.{List, [], ◌∷◌, ◌++◌, append_assoc}
use native.Mathlib.Omega.{arith}
use lib.ListN.{length, length-append}
use Rattle.std.specs.Prelude.{Option, Result, Ok, Err, option_to_list}
use Rattle.format.specs.Messages.{Tag}
use Rattle.format.specs.Rules.{All}
use Rattle.format.specs.Decoding.{Decoder, Fault, refused, got, decode_many, ends, items_of}
use Rattle.format.specs.GapTags.{Role, plain, odd, start, end, role}
use Rattle.format.specs.Order.{decode_tag}
use Rattle.format.specs.PutGaps.{is_plain}
use Rattle.format.proofs.Differ.{differ}
use Rattle.format.proofs.Codec.{same_place, same-value, went}
use Rattle.format.proofs.Many.{ends-items}
use Rattle.wire.proofs.Loops.{ReadUpTo, begins, goes_on, refuses, ended-refused}
use Rattle.wire.specs.declared.Fault.{Fault as FaultHere}
use Rattle.tags.specs.Skips.{offset_after}
use Rattle.part_tags.specs.declared.Leading.{Leading}
use Rattle.part_tags.specs.declared.Sizes.{Sizes}
use Rattle.part_tags.specs.declared.Surveyed.{Surveyed}
use Rattle.part_tags.specs.TagBytes.{role_at}
use Rattle.part_tags.specs.Survey.{sizes_in, sizes_at, joined, Sized, Plain, LeadingTags, RangeTags, RangeFound, SurveyedTags, SurveyFound}
use Rattle.part_tags.proofs.TagLaws.{tag-there}
use Rattle.part_tags.proofs.SizeTags.{sized-none, sized-append, sized-next, sized-two}

module _ {A : Type 0} (d : Decoder A) (s : List ℕ) where
  pub cons-many : (n at : ℕ) {a : A} {l : List A} {mid end : ℕ} → d s at ≡ got a mid → decode_many n d s mid ≡ got l end → decode_many (suc n) d s at ≡ got (a ∷ l) end
  cons-many n at e f = rw (e, f) refl

  -- Items, and others after them.
  pub many-append : (n m at : ℕ) {k l : List A} {mid end : ℕ} → decode_many n d s at ≡ got k mid → decode_many m d s mid ≡ got l end
      → decode_many (n + m) d s at ≡ got (k ++ l) end
  many-append zero m at {k} {l} {mid} {end} e f =
      let none : zero + m ≡ m = omega arith in
      ap (λ j. decode_many j d s at) none ∙ ap (decode_many m d s) (same_place e) ∙ f ∙ ap (λ k. got (k ++ l) end) (same-value e)
  many-append (suc n) m at {k} {l} {mid} {end} e f =
      let w = went s (d s at) e in
      let v = went s (decode_many n d s w.mid) w.then in
      let next : suc n + m ≡ suc (n + m) = omega arith in
      let rest = many-append n m w.mid v.was (ap (decode_many m d s) (same_place v.then) ∙ f) in
      ap (λ j. decode_many j d s at) next ∙ cons-many (n + m) at w.was rest ∙ ap (λ k. got (k ++ l) end) (same-value v.then)

  pub one : (at : ℕ) {a : A} {next : ℕ} → d s at ≡ got a next → decode_many 1 d s at ≡ got (a ∷ []) next
  one at e = rw e refl

  pub many-next : (l : List A) (at : ℕ) {mid next : ℕ} {a : A} → decode_many (length l) d s at ≡ got l mid → d s mid ≡ got a next
      → decode_many (length (l ++ (a ∷ []))) d s at ≡ got (l ++ (a ∷ [])) next
  many-next l at {mid} {next} {a} e f = ap (λ n. decode_many n d s at) (length-append l (a ∷ [])) ∙ many-append (length l) 1 at e (one mid f)

pub all_append : {A : Type 0} (P : A → Type 0) (k l : List A) → All P k → All P l → All P (k ++ l)
all_append P [] l h j = j
all_append P (a ∷ k) l h j = (h.0, all_append P k l h.1 j)

-- A tag that was skipped, and the number that it adds to the sizes.
pub record Skipped (s : List ℕ) (at : ℕ) (n : Option ℕ) (after : ℕ) : Type 0 where
  pub tag : Tag
  pub read : decode_tag s at ≡ got tag after
  pub sizes : option_to_list n ≡ sizes_in tag

pub skipped : (s : List ℕ) (at : ℕ) (n : Option ℕ) {after : ℕ} → after ≡ offset_after (decode_tag s at) → (after ≡ 0 → ⊥) → option_to_list n ≡ sizes_at (decode_tag s at) → Skipped s at n after
skipped s at n e other z = let t = tag-there s at e other in record { tag = t.0; read = t.1; sizes = z ∙ ap sizes_at t.1 }

pub plain-is : (r : Role) → is_plain r ≡ true → r ≡ plain
plain-is plain e = refl
plain-is odd e = differ cc
plain-is (start d n) e = differ cc
plain-is (end d n) e = differ cc

pub plain-tag : {s : List ℕ} {at after : ℕ} {n : Option ℕ} (k : Skipped s at n after) → is_plain (role_at (decode_tag s at)) ≡ true → role k.tag ≡ plain
plain-tag k p = plain-is (role k.tag) (sym (ap (λ o. is_plain (role_at o)) k.read) ∙ p)

-- Before the first gap tag, with i tags skipped.
pub record Leads (s : List ℕ) (at count : ℕ) (found : Sizes) (next i : ℕ) : Type 0 where
  pub tags : List Tag
  pub up_to : ReadUpTo decode_tag s at count i next
  pub counted : length tags ≡ i
  pub read : decode_many (length tags) decode_tag s at ≡ got tags next
  pub plains : All Plain tags
  pub sized : Sized Sizes.None tags found

module _ (s : List ℕ) (at count : ℕ) where
  pub leads-first : Leads s at count Sizes.None at 0
  leads-first =
      record { tags = []; up_to = begins decode_tag s at count; counted = refl; read = refl; plains = tt; sized = sized-none Sizes.None }

  module _ {found : Sizes} {next i : ℕ} (h : Leads s at count found next i) where
    pub leads-next : {after : ℕ} (n : Option ℕ) → i < count → Skipped s next n after → is_plain (role_at (decode_tag s next)) ≡ true
        → Leads s at count (joined found n) after (i + 1)
    leads-next n more k p = record {
      tags = h.tags ++ (k.tag ∷ []);
      up_to = goes_on decode_tag s at count i next more h.up_to (sym k.read);
      counted = length-append h.tags (k.tag ∷ []) ∙ ap (λ j. j + 1) h.counted;
      read = many-next decode_tag s h.tags at h.read k.read;
      plains = all_append Plain h.tags (k.tag ∷ []) h.plains (plain-tag k p, tt);
      sized = sized-next Sizes.None found n h.tags k.tag h.sized k.sizes;
    }

    pub leads-refused : {f : Fault} → i < count → refused f ≡ decode_tag s next → refused f ≡ decode_many count decode_tag s at
    leads-refused more e = (refuses decode_tag s at count i next more h.up_to e).0

    pub leads-done : LeadingTags s at count (record { count = i; end = next; sizes = found })
    leads-done = record {
      tags = h.tags;
      few = h.up_to.0;
      counted = h.counted;
      read = h.read;
      left = h.up_to.1;
      plains = h.plains;
      sized = h.sized;
    }

-- From the first gap tag on, with i tags skipped.
pub record Ranges (s : List ℕ) (at count : ℕ) (before found : Sizes) (gap_end gap_count next i : ℕ) : Type 0 where
  pub mid : List Tag
  pub post : List Tag
  pub up_to : ReadUpTo decode_tag s at count i next
  pub mid-counted : length mid ≡ gap_count
  pub mid-read : decode_many (length mid) decode_tag s at ≡ got mid gap_end
  pub post_read : decode_many (length post) decode_tag s gap_end ≡ got post next
  pub counted : gap_count + length post ≡ i
  pub plains : All Plain post
  pub sized : Sized before (mid ++ post) found

module _ (s : List ℕ) (at count : ℕ) (before : Sizes) where
  unfoldable pub ranges-first : Ranges s at count before before at 0 at 0
  ranges-first = record {
    mid = [];
    post = [];
    up_to = begins decode_tag s at count;
    mid-counted = refl;
    mid-read = refl;
    post_read = refl;
    counted = refl;
    plains = tt;
    sized = sized-none before;
  }

  module _ {found : Sizes} {gap_end gap_count next i : ℕ} (h : Ranges s at count before found gap_end gap_count next i) where
    pub ranges-refused : {f : Fault} → i < count → refused f ≡ decode_tag s next → refused f ≡ decode_many count decode_tag s at
    ranges-refused more e = (refuses decode_tag s at count i next more h.up_to e).0

    module _ {after : ℕ} (n : Option ℕ) (more : i < count) (k : Skipped s next n after) where
      abbrev t : Tag
      t = k.tag

      pub longer : Sized before ((h.mid ++ h.post) ++ (t ∷ [])) (joined found n)
      longer = sized-next before found n (h.mid ++ h.post) t h.sized k.sizes

      -- a tag that is no gap tag
      unfoldable pub ranges-plain : is_plain (role_at (decode_tag s next)) ≡ true → Ranges s at count before (joined found n) gap_end gap_count after (i + 1)
      ranges-plain p = record {
        mid = h.mid;
        post = h.post ++ (t ∷ []);
        up_to = goes_on decode_tag s at count i next more h.up_to (sym k.read);
        mid-counted = h.mid-counted;
        mid-read = h.mid-read;
        post_read = many-next decode_tag s h.post gap_end h.post_read k.read;
        counted = omega (arith, length-append h.post (t ∷ []), h.counted);
        plains = all_append Plain h.post (t ∷ []) h.plains (plain-tag k p, tt);
        sized = subst (λ l. Sized before l (joined found n)) (append_assoc h.mid h.post (t ∷ [])) longer;
      }

      -- a gap tag: all tags up to it are in the range
      pub ranges-gap : Ranges s at count before (joined found n) after (i + 1) after (i + 1)
      ranges-gap =
          let both = length-append h.mid h.post in
          let all = many-append decode_tag s (length h.mid) (length h.post) at h.mid-read h.post_read in
          let read = many-next decode_tag s (h.mid ++ h.post) at (ap (λ n. decode_many n decode_tag s at) both ∙ all) k.read in record {
            mid = (h.mid ++ h.post) ++ (t ∷ []);
            post = [];
            up_to = goes_on decode_tag s at count i next more h.up_to (sym k.read);
            mid-counted = omega (arith, length-append (h.mid ++ h.post) (t ∷ []), both, h.counted, h.mid-counted);
            mid-read = read;
            post_read = refl;
            counted = omega arith;
            plains = tt;
            sized = sized-append before (joined found n) (joined found n) ((h.mid ++ h.post) ++ (t ∷ [])) [] longer (sized-none (joined found n));
          }

    -- two gap tags at once
    unfoldable pub ranges-pair : {middle after : ℕ} (t u : Tag) → i + 2 ≤ count → decode_tag s next ≡ got t middle → decode_tag s middle ≡ got u after
        → [] ≡ sizes_in t → [] ≡ sizes_in u → Ranges s at count before found after (i + 2) after (i + 2)
    ranges-pair {middle} {after} t u room e f k m =
        let both = length-append h.mid h.post in
        let all = many-append decode_tag s (length h.mid) (length h.post) at h.mid-read h.post_read in
        let pair : decode_many 2 decode_tag s next ≡ got (t ∷ u ∷ []) after = cons-many decode_tag s 1 next e (one decode_tag s middle f) in
        let longer = length-append (h.mid ++ h.post) (t ∷ u ∷ []) in
        let n : length ((h.mid ++ h.post) ++ (t ∷ u ∷ [])) ≡ length h.mid + length h.post + 2 = omega (arith, longer, both) in
        let once = goes_on decode_tag s at count i next (omega arith) h.up_to (sym e) in
        let twice = goes_on decode_tag s at count (i + 1) middle (omega arith) once (sym f) in
        let two : count - (i + 1 + 1) ≡ count - (i + 2) = omega arith in
        let sized = sized-append before found found (h.mid ++ h.post) (t ∷ u ∷ []) h.sized (sized-two found t u k m) in record {
          mid = (h.mid ++ h.post) ++ (t ∷ u ∷ []);
          post = [];
          up_to = (room, twice.1 ∙ ap (λ j. ends (decode_many j decode_tag s after)) two);
          mid-counted = omega (arith, n, h.counted, h.mid-counted);
          mid-read = ap (λ j. decode_many j decode_tag s at) n ∙ many-append decode_tag s (length h.mid + length h.post) 2 at all pair;
          post_read = refl;
          counted = omega arith;
          plains = tt;
          sized = sized-append before found found ((h.mid ++ h.post) ++ (t ∷ u ∷ [])) [] sized (sized-none found);
        }

    -- the tags that are left, of a list that is there
    pub ranges-left : {end : ℕ} → ends (decode_many count decode_tag s at) ≡ got tt end
        → items_of (decode_many count decode_tag s at) ≡ (h.mid ++ h.post) ++ items_of (decode_many (count - i) decode_tag s next)
    ranges-left {end} placed =
        let left = sym (ends-items (decode_many (count - i) decode_tag s next) end (sym h.up_to.1 ∙ placed)) in
        let all = many-append decode_tag s (length h.mid) (length h.post) at h.mid-read h.post_read in
        let n : length h.mid + length h.post + (count - i) ≡ count = omega (arith, h.mid-counted, h.counted, h.up_to.0) in
        ap items_of (ap (λ j. decode_many j decode_tag s at) (sym n) ∙ many-append decode_tag s (length h.mid + length h.post) (count - i) at all left)

    unfoldable pub ranges-done : count ≤ i → RangeTags s at count before (record { range = record { at = at; end = gap_end; count = gap_count }; end = next; sizes = found })
    ranges-done all = record {
      mid = h.mid;
      post = h.post;
      starts = refl;
      mid-read = ap (λ n. decode_many n decode_tag s at) (sym h.mid-counted) ∙ h.mid-read;
      post_read = h.post_read;
      counted = omega (arith, h.counted, h.up_to.0);
      plains = h.plains;
      sized = h.sized;
    }

-- The whole list, by its two parts.
module _ (s : List ℕ) (at count : ℕ) (leading : Leading) (l : LeadingTags s at count leading) where
  pub whole : (r : Surveyed) → RangeTags s leading.end (count - leading.count) leading.sizes r → SurveyedTags s at count r
  unfolding ends
  whole r h =
      let middle = many-append decode_tag s r.range.count (length h.post) leading.end h.mid-read h.post_read in
      let read = many-append decode_tag s (length l.tags) (r.range.count + length h.post) at l.read middle in
      let n : length l.tags + (r.range.count + length h.post) ≡ count = omega (arith, l.counted, l.few, h.counted) in
      let all : decode_many count decode_tag s at ≡ got (l.tags ++ (h.mid ++ h.post)) r.end = ap (λ n. decode_many n decode_tag s at) (sym n) ∙ read in
      let items = ap items_of all in record {
        placed = ap ends all;
        gap-tags = record {
          pre = l.tags;
          mid = h.mid;
          post = h.post;
          pre_read = l.read ∙ ap (got l.tags) (sym h.starts);
          mid-read = ap (decode_many r.range.count decode_tag s) h.starts ∙ h.mid-read;
          post_read = h.post_read;
          all = items;
          pre-plain = l.plains;
          post-plain = h.plains;
        };
        sized = subst (λ l. Sized Sizes.None l r.sizes) (sym items) (sized-append Sizes.None leading.sizes r.sizes l.tags (h.mid ++ h.post) l.sized h.sized);
      }

  pub survey-found : (r : Result Surveyed FaultHere) → RangeFound s leading.end (count - leading.count) leading.sizes r → SurveyFound s at count r
  unfolding ends
  survey-found (Ok r) h = whole r h
  survey-found (Err f) h =
      ended-refused (decode_many count decode_tag s at) (ap ends h ∙ sym l.left)
