-- The gap tags, one after the other, and the pairs that they make.
use Prim.Native.Nat.{ℕ, zero, suc, ◌+◌, ◌-◌, ◌*◌, ◌%◌, ◌≤◌, ◌<◌}
use native.Mathlib.Omega.{arith}
use native.Mathlib.Numerals.{add-one}
use mathlib.Core.Path.{◌≡◌, refl, sym, ap, subst, ◌∙◌}
use mathlib.Core.Bool.{Bool, true, false}
use mathlib.Core.Option.{Option, none, some}
use mathlib.Core.List.{List, [], ◌∷◌, ◌++◌, map, map-append, reverse, reverse-cons}
use lib.ListN.{length, get_or, set, replicate, length-append, length-map, drop, drop_of_length-le}
use lib.Seq.{get_or-set_same, get_or-set_other, set_at, append_snoc, drop-cons}
use lib.Dec.{leb, eqb}
use borrow.Author.Tests.{eqb-true, eqb-false, eq-eqb, le-leb, lt-leb, le-ltb, lt-ltb}
use Rattle.std.specs.Prelude.{None, Some}
use Rattle.format.specs.Tables.{pick, same}
use Rattle.format.specs.Messages.{Tag}
use Rattle.format.specs.Rules as rules
use Rattle.format.specs.Rules.{All, GapPair}
use Rattle.format.specs.Gaps.{gap_limit}
use Rattle.format.specs.Decoding as decoding
use Rattle.format.specs.Decoding.{Check, ends, passes, violates, and_check}
use Rattle.format.specs.GapTags.{Role, plain, odd, start, end, starting, ending, role}
use Rattle.format.specs.Order.{decode_tag}
use Rattle.format.specs.PartTagOrder.{Progress, between, within, check_start, check_end, decimal, next_start, numbered, used, step, scan}
use Rattle.format.specs.PutGaps.{is_plain}
use Rattle.format.proofs.Differ.{differ}
use Rattle.format.proofs.PartTags.{same_true, violates-passes}
use Rattle.gaps.specs.declared.Gap.{Gap as Slot}
use Rattle.gaps.specs.declared.GapRecord.{GapRecord}
use Rattle.gaps.specs.GapRecords.{place, place_of, spec_record_of}
use Rattle.tags.specs.Skips.{offset_after}
use Rattle.part_tags.specs.TagBytes.{TagThere, after_at, spec_digits_at, spec_dword_at, spec_name_length, number_at, role_at}
use Rattle.part_tags.specs.Survey.{Plain, sizes_at}
use Rattle.part_tags.specs.Pairs.{key_from, key_of, spec_key_found, pair_of, PairInside, first_pairs, PairsInside, gap_in, first_gaps, KeysBelow}
use Rattle.part_tags.proofs.SizeTags.{size-byte}
use Rattle.part_tags.proofs.TagLaws.{bytes_of, role-other, role_start, role-end, dword-number, other-number}

-- Digits, byte by byte, as the loop goes
pub decimal-next : (d : List ℕ) (i : ℕ) → i < length d
    → decimal (drop i d) ≡ pick (leb 0x30 (get_or d i 0)) (pick (leb (get_or d i 0) 0x39) (decimal (drop (i + 1) d)) false) false
unfolding decimal
decimal-next d i h = rw (drop-cons d i 0 h, add-one) refl

pub decimal-end : (d : List ℕ) (i : ℕ) → length d ≤ i → decimal (drop i d) ≡ true
unfolding decimal
decimal-end d i h = rw (drop_of_length-le d {i = i} h) refl

pub key-next : (d : List ℕ) (i k : ℕ) → i < length d → key_from k (drop i d) ≡ key_from (k % 1099511627776 * 16 + get_or d i 0) (drop (i + 1) d)
unfolding key_from
key-next d i k h = rw (drop-cons d i 0 h, add-one) refl

pub key-end : (d : List ℕ) (i k : ℕ) → length d ≤ i → key_from k (drop i d) ≡ k
unfolding key_from
key-end d i k h = rw (drop_of_length-le d {i = i} h) refl

pub key-none : (d : List ℕ) → None ≡ spec_key_found d → numbered d ≡ false
key-none d = go (numbered d)
  where
    go : (t : Bool) → None ≡ pick t (Some (key_of d)) None → t ≡ false
    go true e = differ cc
    go false e = refl

pub key-some : (d : List ℕ) {k : ℕ} → Some k ≡ spec_key_found d → (numbered d ≡ true) × (k ≡ key_of d)
key-some d {k} = go (numbered d)
  where
    go : (t : Bool) → Some k ≡ pick t (Some (key_of d)) None → (t ≡ true) × (k ≡ key_of d)
    go true e = (refl, cc e)
    go false e = differ cc

-- digits whose key is above those of all pairs are not used
pub key-new : (d : List ℕ) (highest : ℕ) (ps : List GapPair) → KeysBelow highest ps → highest < key_of d → used d ps ≡ false
unfolding KeysBelow used
key-new d highest [] h k = refl
key-new d highest (p ∷ ps) h k = go (same d p.digits) refl (key-new d highest ps h.1 k)
  where
    go : (t : Bool) → same d p.digits ≡ t → used d ps ≡ false → pick t true (used d ps) ≡ false
    go true e later = absurd (omega (arith, h.0, k, ap key_of (same_true d p.digits e)))
    go false e later = later

keys-higher : (a b : ℕ) (ps : List GapPair) → a ≤ b → KeysBelow a ps → KeysBelow b ps
unfolding KeysBelow
keys-higher a b [] h k = tt
keys-higher a b (p ∷ ps) h k = (omega (arith, h, k.0), keys-higher a b ps h k.1)

pub keys-next : (a b : ℕ) (p : GapPair) (ps : List GapPair) → a ≤ b → key_of p.digits ≤ b → KeysBelow a ps → KeysBelow b (p ∷ ps)
unfolding KeysBelow
keys-next a b p ps h k all = (k, keys-higher a b ps h all)

-- The pairs of an array
module _ (s : List ℕ) where
  pub pairs-length : (n : ℕ) (l : List ℕ) → length (first_pairs s n l) ≡ n
  unfolding first_pairs
  pairs-length zero l = refl
  pairs-length (suc n) l = ap suc (pairs-length n l)

  pairs_set : (n k : ℕ) (l : List ℕ) (at : ℕ) → n ≤ k → first_pairs s n (set l k at) ≡ first_pairs s n l
  unfolding first_pairs
  pairs_set zero k l at h = refl
  pairs_set (suc n) k l at h = rw (get_or-set_other l k n at 0 (λ e. omega arith), pairs_set n k l at (omega arith)) refl

  pub pairs-push : (n : ℕ) (l : List ℕ) (at : ℕ) → n < length l → first_pairs s (n + 1) (set l n at) ≡ pair_of s at ∷ first_pairs s n l
  unfolding first_pairs
  pairs-push n l at h = rw (add-one, get_or-set_same l n at 0 h, pairs_set n n l at (omega arith)) refl

  inside-set : (n k : ℕ) (l : List ℕ) (at : ℕ) → n ≤ k → PairsInside s n l → PairsInside s n (set l k at)
  unfolding PairsInside
  inside-set zero k l at h p = tt
  inside-set (suc n) k l at h p =
      (subst (PairInside s) (sym (get_or-set_other l k n at 0 (λ e. omega arith))) p.0, inside-set n k l at (omega arith) p.1)

  pub inside-push : (n : ℕ) (l : List ℕ) (at : ℕ) → n < length l → PairInside s at → PairsInside s n l → PairsInside s (n + 1) (set l n at)
  unfolding PairsInside
  inside-push n l at h i p = rw (add-one) (subst (PairInside s) (sym (get_or-set_same l n at 0 h)) i, inside-set n n l at (omega arith) p)

  pub inside-at : (n i : ℕ) (l : List ℕ) → PairsInside s n l → i < n → PairInside s (get_or l i 0)
  unfolding PairsInside
  inside-at zero i l p h = absurd (omega arith)
  inside-at (suc n) i l p h = go (eqb i n) refl (inside-at n i l p.1)
    where
      go : (t : Bool) → eqb i n ≡ t → (i < n → PairInside s (get_or l i 0)) → PairInside s (get_or l i 0)
      go true e later = subst (λ j. PairInside s (get_or l j 0)) (sym (eqb-true i n e)) p.0
      go false e later = later (omega (arith, eqb-false i n e))

  pub gaps-length : (n : ℕ) (l : List ℕ) → length (first_gaps s n l) ≡ n
  unfolding first_gaps
  gaps-length zero l = refl
  gaps-length (suc n) l = rw (length-append, gaps-length n l) (add-one n)

  pub gaps-of-pairs : (n : ℕ) (l : List ℕ) → map rules.gap_of (reverse (first_pairs s n l)) ≡ first_gaps s n l
  unfolding first_pairs first_gaps
  gaps-of-pairs zero l = refl
  gaps-of-pairs (suc n) l = rw (reverse-cons, map-append, gaps-of-pairs n l) refl

  -- the last of some pairs
  module _ (n : ℕ) (l : List ℕ) where
    pub pairs-none : n ≡ 0 → first_pairs s n l ≡ []
    unfolding first_pairs
    pairs-none e = rw e refl

    pairs-last : 0 < n → first_pairs s n l ≡ pair_of s (get_or l (n - 1) 0) ∷ first_pairs s (n - 1) l
    unfolding first_pairs
    pairs-last h = let m : n ≡ suc (n - 1) = omega arith in ap (λ k. first_pairs s k l) m

    pub used-last : (d : List ℕ) → 0 < n → used d (first_pairs s n l) ≡ pick (same d (spec_digits_at s (get_or l (n - 1) 0))) true (used d (first_pairs s (n - 1) l))
    unfolding used
    used-last d h = rw (pairs-last h) refl

  -- The slots of a record that hold the gaps of the first n pairs, and then 0
  abbrev pub slots_of : ℕ → List ℕ → List Slot
  slots_of n l = map place_of (first_gaps s n l) ++ replicate (64 - n) (place 0 0)

  pub slots_next : (n : ℕ) (l : List ℕ) → n < 64 → set (slots_of n l) n (place_of (gap_in s (get_or l n 0))) ≡ slots_of (n + 1) l
  unfolding first_gaps
  slots_next n l h =
      let k : 64 - n ≡ suc (64 - (n + 1)) = omega arith in
      let free = replicate (64 - (n + 1)) (place 0 0) in
      let p = place_of (gap_in s (get_or l n 0)) in
      rw (k, set_at (map place_of (first_gaps s n l)) (place 0 0) free p n (length-map (first_gaps s n l) place_of ∙ gaps-length n l), add-one n)
      (rw (map-append, append_snoc) refl)

  pub slots-record : (size n : ℕ) (l : List ℕ)
      → ◌≡◌ {A = GapRecord} (record { size = size; count = n; gaps = slots_of n l }) (spec_record_of size (first_gaps s n l))
  slots-record size n l = rw (gaps-length n l) refl

-- What a start tag is within a pair, an end tag between two pairs, and a gap tag after a 64th pair
not-ending : (size : ℕ) (ps : List GapPair) (d : List ℕ) (n : ℕ) (c : List ℕ) (v : Option ℕ) → step size (within ps d n) (starting c v) ≡ violates decoding.order
unfolding step
not-ending size ps d n c none = refl
not-ending size ps d n c (some m) = refl

ending-stray : (size : ℕ) (ps : List GapPair) → leb gap_limit (length ps) ≡ false → (c : List ℕ) (v : Option ℕ) → step size (between ps) (ending c v) ≡ violates decoding.order
unfolding step
ending-stray size ps room c none = rw room refl
ending-stray size ps room c (some m) = rw room refl

-- A step, by what the bytes of the tag say
module _ (s : List ℕ) (at : ℕ) (there : TagThere s at) (ps : List GapPair) where
  abbrev own : Role
  own = role_at (decode_tag s at)

  abbrev digits : List ℕ
  digits = spec_digits_at s at

  abbrev number : Option ℕ
  number = pick (eqb (get_or s at 0) 3) (some (number_at s at)) none

  -- between two pairs, with a pair to spare
  module _ (room : leb gap_limit (length ps) ≡ false) (size : ℕ) where
    pub starts-not : (get_or s (at + 3) 0 ≡ 9 → ⊥) → is_plain own ≡ false → step size (between ps) own ≡ violates decoding.order
    starts-not h gap = go (eqb (get_or s (at + 3) 0) 10) refl
      where
        go : (t : Bool) → eqb (get_or s (at + 3) 0) 10 ≡ t → step size (between ps) own ≡ violates decoding.order
        go true e = rw (role-end s at there (eqb-true (get_or s (at + 3) 0) 10 e)) (ending-stray size ps room digits number)
        go false e = differ (cc (gap, ap is_plain (role-other s at there h (eqb-false (get_or s (at + 3) 0) 10 e))))

    pub starts-odd : get_or s (at + 3) 0 ≡ 9 → (get_or s at 0 ≡ 3 → ⊥) → step size (between ps) own ≡ violates decoding.order
    unfolding step
    starts-odd h f = rw (role_start s at there h, other-number s at there f, room) refl

    starts : get_or s (at + 3) 0 ≡ 9 → get_or s at 0 ≡ 3 → step size (between ps) own ≡ check_start ps digits (number_at s at)
    unfolding step
    starts h f = rw (role_start s at there h, dword-number s at there f, room) refl

    -- a start tag, by what its digits and its number are
    module _ (name : get_or s (at + 3) 0 ≡ 9) (type : get_or s at 0 ≡ 3) where
      pub starts-unnumbered : numbered digits ≡ false → step size (between ps) own ≡ violates decoding.order
      starts-unnumbered a = starts name type ∙ rw a refl

      pub starts-used : numbered digits ≡ true → used digits ps ≡ true → step size (between ps) own ≡ violates decoding.order
      starts-used a b = starts name type ∙ rw (a, b) refl

      pub starts-low : numbered digits ≡ true → used digits ps ≡ false → number_at s at < next_start ps → step size (between ps) own ≡ violates decoding.order
      starts-low a b c = starts name type ∙ rw (a, b, lt-leb (next_start ps) (number_at s at) c) refl

      pub starts-pair : numbered digits ≡ true → used digits ps ≡ false → next_start ps ≤ number_at s at
          → step size (between ps) own ≡ passes (within ps digits (number_at s at))
      starts-pair a b c = starts name type ∙ rw (a, b, le-leb (next_start ps) (number_at s at) c) refl

  -- within a pair
  module _ (d : List ℕ) (n size : ℕ) where
    pub ends-not : (get_or s (at + 3) 0 ≡ 10 → ⊥) → step size (within ps d n) own ≡ violates decoding.order
    unfolding step
    ends-not h = go (eqb (get_or s (at + 3) 0) 9) refl
      where
        go : (t : Bool) → eqb (get_or s (at + 3) 0) 9 ≡ t → step size (within ps d n) own ≡ violates decoding.order
        go true e = rw (role_start s at there (eqb-true (get_or s (at + 3) 0) 9 e)) (not-ending size ps d n digits number)
        go false e = rw (role-other s at there (eqb-false (get_or s (at + 3) 0) 9 e) h) refl

    pub ends-odd : get_or s (at + 3) 0 ≡ 10 → (get_or s at 0 ≡ 3 → ⊥) → step size (within ps d n) own ≡ violates decoding.order
    unfolding step
    ends-odd h f = rw (role-end s at there h, other-number s at there f) refl

    ends_with : get_or s (at + 3) 0 ≡ 10 → get_or s at 0 ≡ 3 → step size (within ps d n) own ≡ check_end size ps d n digits (number_at s at)
    unfolding step
    ends_with h f = rw (role-end s at there h, dword-number s at there f) refl

    -- an end tag, by what its digits and its number are
    module _ (name : get_or s (at + 3) 0 ≡ 10) (type : get_or s at 0 ≡ 3) where
      pub ends-other : same d digits ≡ false → step size (within ps d n) own ≡ violates decoding.order
      ends-other a = ends_with name type ∙ rw a refl

      pub ends-early : same d digits ≡ true → number_at s at ≤ n → step size (within ps d n) own ≡ violates decoding.order
      ends-early a b = ends_with name type ∙ rw (a, le-ltb n (number_at s at) b) refl

      pub ends-late : same d digits ≡ true → n < number_at s at → size < number_at s at → step size (within ps d n) own ≡ violates decoding.order
      ends-late a b c = ends_with name type ∙ rw (a, lt-ltb n (number_at s at) b, lt-leb (number_at s at) size c) refl

      pub ends-pair : same d digits ≡ true → n < number_at s at → number_at s at ≤ size
          → step size (within ps d n) own ≡ passes (between (record { digits = d; start = n; end = number_at s at } ∷ ps))
      ends-pair a b c = ends_with name type ∙ rw (a, lt-ltb n (number_at s at) b, le-leb (number_at s at) size c) refl

-- A gap tag is no size tag, and so is a tag that ends a pair
module _ (s : List ℕ) (at : ℕ) (there : TagThere s at) where
  pub gap-unsized : is_plain (role_at (decode_tag s at)) ≡ false → [] ≡ sizes_at (decode_tag s at)
  gap-unsized gap = size-byte s at there (λ two. differ (cc (gap, ap is_plain (role-other s at there (λ e. omega (arith, two, e)) (λ e. omega (arith, two, e))))))

  pub end-unsized : (size : ℕ) (ps : List GapPair) (d : List ℕ) (from : ℕ) {later : Progress} → step size (within ps d from) (role_at (decode_tag s at)) ≡ passes later
      → [] ≡ sizes_at (decode_tag s at)
  end-unsized size ps d from e =
      size-byte s at there (λ two. violates-passes (sym (ends-not s at there ps d from size (λ ten. omega (arith, two, ten))) ∙ e))

-- The number of a DWORD tag that is there, and the offset after it, as the code works them out
module _ (s : List ℕ) (at : ℕ) {size : ℕ} (e : size ≡ spec_name_length s at) where
  pub number_is : {n : ℕ} → n ≡ spec_dword_at s (at + 3 + size) → n ≡ number_at s at
  number_is f = f ∙ ap (λ k. spec_dword_at s (at + 3 + k)) e

  pub after_is : at + 7 + size ≡ after_at s at
  after_is = ap (λ k. at + 7 + k) e

  pub after_next : (there : TagThere s at) → get_or s at 0 ≡ 3 → (at + 7 + size ≡ offset_after (decode_tag s at)) × (at + 7 + size ≤ length s)
  after_next there type =
      let b = (bytes_of s at there).ends (eq-eqb (get_or s at 0) 3 type) in
      (after_is ∙ sym b.0 ∙ sym (ap offset_after there.1.1), omega (arith, after_is, b.1))

pub full : (size : ℕ) (ps : List GapPair) (r : Role) → is_plain r ≡ false → leb gap_limit (length ps) ≡ true → step size (between ps) r ≡ violates decoding.gap_ceiling
unfolding step
full size ps plain g h = differ cc
full size ps odd g h = rw h refl
full size ps (start d n) g h = rw h refl
full size ps (end d n) g h = rw h refl

-- The scan of the tags
pub scan-cons : (size : ℕ) (progress : Progress) (t : Tag) (l : List Tag)
    → scan size progress (t ∷ l) ≡ and_check (step size progress (role t)) (λ later. scan size later l)
unfolding scan
scan-cons size (between ps) t l = refl
scan-cons size (within ps d n) t l = refl

pub scan-goes : (size : ℕ) (progress later : Progress) (t : Tag) (l : List Tag) → step size progress (role t) ≡ passes later
    → scan size progress (t ∷ l) ≡ scan size later l
scan-goes size progress later t l e = scan-cons size progress t l ∙ ap (λ c. and_check c (λ later. scan size later l)) e

pub scan-stops : (size : ℕ) (progress : Progress) (t : Tag) (l : List Tag) {rule : decoding.Rule} → step size progress (role t) ≡ violates rule
    → scan size progress (t ∷ l) ≡ violates rule
scan-stops size progress t l e = scan-cons size progress t l ∙ ap (λ c. and_check c (λ later. scan size later l)) e

-- a tag that is no gap tag leaves the pairs as they are
pub scan-plain : (size : ℕ) (ps : List GapPair) (t : Tag) (l : List Tag) → role t ≡ plain → scan size (between ps) (t ∷ l) ≡ scan size (between ps) l
unfolding step
scan-plain size ps t l e = scan-cons size (between ps) t l ∙ rw e refl

scan-front : (size : ℕ) (ps : List GapPair) (k l : List Tag) → All Plain k → scan size (between ps) (k ++ l) ≡ scan size (between ps) l
scan-front size ps [] l h = refl
scan-front size ps (t ∷ k) l h = scan-plain size ps t (k ++ l) h.0 ∙ scan-front size ps k l h.1

scan-after : (size : ℕ) (progress : Progress) (l : List Tag) → All Plain l → scan size progress l ≡ scan size progress []
unfolding scan step
scan-after size (between ps) [] h = refl
scan-after size (between ps) (t ∷ l) h = scan-plain size ps t l h.0 ∙ scan-after size (between ps) l h.1
scan-after size (within ps d n) [] h = refl
scan-after size (within ps d n) (t ∷ l) h = scan-cons size (within ps d n) t l ∙ rw h.0 refl

scan-back : (size : ℕ) (progress : Progress) (k l : List Tag) → All Plain l → scan size progress (k ++ l) ≡ scan size progress k
scan-back size progress [] l h = scan-after size progress l h
scan-back size progress (t ∷ k) l h =
    scan-cons size progress t (k ++ l) ∙ go (step size progress (role t)) (λ later. scan-back size later k l h) ∙ sym (scan-cons size progress t k)
  where
    go : (c : Check Progress) → ((later : Progress) → scan size later (k ++ l) ≡ scan size later k)
        → and_check c (λ later. scan size later (k ++ l)) ≡ and_check c (λ later. scan size later k)
    go (passes later) back = back later
    go (violates rule) back = refl

-- so the scan of a list is that of the range of its gap tags
pub scan-range : (size : ℕ) (pre mid post : List Tag) → All Plain pre → All Plain post
    → scan size (between []) (pre ++ (mid ++ post)) ≡ scan size (between []) mid
scan-range size pre mid post h k = scan-front size [] pre (mid ++ post) h ∙ scan-back size (between []) mid post k
