-- A turn of each loop of the marking.
use Prim.Native.Nat.{ℕ, suc, ◌+◌, ◌-◌, ◌*◌, ◌≤◌, ◌<◌, min, max}
use native.Mathlib.Omega.{arith}
use native.Mathlib.Decide.{dec_lt}
use mathlib.Core.Path.{◌≡◌, refl, sym, ap, ◌∙◌}
use mathlib.Core.Bool.{true, false, ◌&&◌}
use mathlib.Core.List.{List, ◌∷◌, ◌++◌, append_assoc}
use lib.ListN.{length, get_or, take, drop, take-append-drop, drop_of_length-le}
use Rattle.std.specs.Prelude.{Some, None}
use Rattle.format.specs.Gaps.{Gap, Ordered, follows, ordered, total, remaining, subtract, size_limit}
use Rattle.format.proofs.Gaps.{follows-true}
use Rattle.gaps.specs.declared.GapRecord.{GapRecord}
use Rattle.gaps.specs.GapRecords.{lawful_record, missing_count}
use Rattle.gaps.proofs.GapRecords.{At, gaps-length, none_left, lawful-by-gaps, total-missing}
use Rattle.gap_numbers.specs.Numbers.{held, Judges}
use Rattle.gap_numbers.specs.NumberSteps.{gaps_in, Holds, EndBy, pieces, Touches}
use Rattle.gap_numbers.proofs.Lists.{total-append, kept-before, total-remaining, no_pieces, pieces-next, subtract-after, ordered-drop}
use Rattle.gap_numbers.proofs.Numbers.{nth_gap, at, drop-in, take_in}

pub length-gaps : (l : List ℕ) (n : ℕ) → Holds l n → length (gaps_in l) ≡ n
length-gaps l n h = let e = h.counted in gaps-length (held l) 0 (at l 0 (omega arith) (omega (arith, h.few))) ∙ sym e

unlawful-judged : (g : GapRecord) → lawful_record size_limit g ≡ false → Judges g None
unfolding missing_count
unlawful-judged g q = record { told = sym q; counted = rw q refl }

-- i gaps are judged: they end before `low` and miss `missing` bytes, and those after them decide.
pub record Judging (l : List ℕ) (low missing i : ℕ) : Type 0 where
  pub walk : At (held l) i
  pub decide : lawful_record size_limit (held l) ≡ ordered (get_or l 0 0) low (drop i (gaps_in l))
  pub counted : missing + total (drop i (gaps_in l)) ≡ total (gaps_in l)
  pub below : missing ≤ low
  pub inside : (low ≤ get_or l 0 0 + 1) × (get_or l 0 0 ≤ size_limit)

pub judging-none : (l : List ℕ) → get_or l 1 0 ≤ 64 → get_or l 0 0 ≤ size_limit → Judging l 0 0 0
judging-none l few size = record {
  walk = at l 0 (omega arith) few;
  decide = lawful-by-gaps size_limit (held l) few size;
  counted = omega arith;
  below = omega arith;
  inside = (omega arith, size);
}

module _ {l : List ℕ} {low missing i : ℕ} (c : Judging l low missing i) where
  pub judged-all : get_or l 1 0 ≤ i → Judges (held l) (Some missing)
  unfolding ordered total
  judged-all h =
      let none = none_left (held l) i c.walk h in
      let lawful : lawful_record size_limit (held l) ≡ true = c.decide ∙ rw none refl in
      let all : missing + 0 ≡ total (gaps_in l) = rw none at c.counted in
      record { told = sym lawful; counted = omega (arith, all, total-missing size_limit (held l) lawful) }

  -- the gap at i
  module _ (h : i < get_or l 1 0) where
    abbrev judged : Gap
    judged = nth_gap l i

    next-decides : lawful_record size_limit (held l)
        ≡ (follows (get_or l 0 0) low judged && ordered (get_or l 0 0) (judged.end + 1) (drop (i + 1) (gaps_in l)))
    unfolding ordered
    next-decides = c.decide ∙ rw (drop-in l i h c.walk.few) refl

    pub judged-out : follows (get_or l 0 0) low judged ≡ false → Judges (held l) None
    judged-out f = unlawful-judged (held l) (next-decides ∙ rw f refl)

    module _ (f : follows (get_or l 0 0) low judged ≡ true) where
      pub gap-lies : (low ≤ judged.start) × (judged.start < judged.end) × (judged.end ≤ get_or l 0 0)
      gap-lies = follows-true (get_or l 0 0) low judged f

      pub judging-next : Judging l (judged.end + 1) (missing + (judged.end - judged.start)) (i + 1)
      unfolding total
      judging-next = record {
        walk = at l (i + 1) (omega arith) c.walk.few;
        decide = next-decides ∙ rw f refl;
        counted = omega (arith, ap total (drop-in l i h c.walk.few), c.counted, gap-lies);
        below = omega (arith, c.below, gap-lies);
        inside = (omega (arith, gap-lies), c.inside.1);
      }

-- The gap at i, and those after it
module _ (l : List ℕ) (n : ℕ) (h : Holds l n) (i : ℕ) (k : i < n) where
  abbrev x : Gap
  x = nth_gap l i

  abbrev rest : List Gap
  rest = drop (i + 1) (gaps_in l)

  here : i < get_or l 1 0
  here = let q = h.counted in omega arith

  few : get_or l 1 0 ≤ 64
  few = let q = h.counted in omega (arith, h.few)

  next-in : drop i (gaps_in l) ≡ x ∷ rest
  next-in = drop-in l i here few

  in_order : Ordered (get_or l 0 0) 0 (x ∷ rest)
  in_order = rw next-in at (ordered-drop (get_or l 0 0) 0 (gaps_in l) i h.ordered)

  holds-byte : x.start < x.end
  unfolding Ordered
  holds-byte = in_order.1

  split : (s e : ℕ) → subtract (drop i (gaps_in l)) s e ≡ remaining x s e ++ subtract rest s e
  unfolding subtract
  split s e = rw next-in refl

  -- counting the gaps that end by the start
  pub end-by-next : (s : ℕ) → x.end ≤ s → EndBy l s i → EndBy l s (i + 1)
  end-by-next s t b = record {
    passed = omega (arith, here);
    joined = λ e r. rw (take_in l i here few, append_assoc)
        (ap (λ m. take i (gaps_in l) ++ (m ++ subtract rest s e)) (sym (kept-before x s e r holds-byte t))
        ∙ ap (λ m. take i (gaps_in l) ++ m) (sym (split s e)) ∙ b.joined e r);
  }

-- the one after it
apart : (l : List ℕ) (n : ℕ) (h : Holds l n) (i : ℕ) → i + 1 < n → (nth_gap l i).end < (nth_gap l (i + 1)).start
unfolding Ordered
apart l n h i t =
    let o : Ordered (get_or l 0 0) (suc (nth_gap l i).end) (drop (i + 1) (gaps_in l)) = (in_order l n h i (omega arith)).3 in
    let p : Ordered (get_or l 0 0) (suc (nth_gap l i).end) (nth_gap l (i + 1) ∷ drop (i + 1 + 1) (gaps_in l)) = rw (next-in l n h (i + 1) t) at o in
    p.0

-- The range is taken out of the gaps before `next`; `ahead` says how the next gap lies, if there is one.
pub record Touching (l : List ℕ) (s e first next low high missing : ℕ) : Type 0 where
  pub begun : first ≤ next
  pub passed : next ≤ get_or l 1 0
  pub left : take first (gaps_in l) ++ (pieces s e low high ++ subtract (drop next (gaps_in l)) s e) ≡ subtract (gaps_in l) s e
  pub weighed : missing ≡ total (take first (gaps_in l)) + total (pieces s e low high) + total (drop next (gaps_in l))
  pub lowest : low ≤ s
  pub ahead : next < get_or l 1 0 → (s < (nth_gap l next).end) × (s ≤ max low (nth_gap l next).start) × ((nth_gap l next).start < e → high ≤ e)

module _ {l : List ℕ} {n : ℕ} (h : Holds l n) {s e : ℕ} (r : s < e) where
  -- no gap is touched so far
  pub touching-none : {i missing : ℕ} → EndBy l s i → (i < n → s < get_or l (2 * i + 3) 0) → missing ≡ total (gaps_in l)
      → Touching l s e i i s e missing
  unfolding total
  touching-none {i} b after m = record {
    begun = omega arith;
    passed = b.passed;
    left = rw (no_pieces s e) (b.joined e r);
    weighed =
        m ∙ sym (ap total (take-append-drop i (gaps_in l))) ∙ total-append (take i (gaps_in l)) (drop i (gaps_in l))
        ∙ rw (no_pieces s e) (omega arith);
    lowest = omega arith;
    ahead = λ t. (after (omega (arith, h.counted)), omega arith, λ u. omega arith);
  }

  module _ {first next low high missing : ℕ} (c : Touching l s e first next low high missing) where
    -- the gap at `next` is touched too
    module _ (k : next < n) (begins : (nth_gap l next).start < e) where
      abbrev touched : Gap
      touched = nth_gap l next

      lies : (s < touched.end) × (s ≤ max low touched.start) × (touched.start < e → high ≤ e)
      lies = c.ahead (here l n h next k)

      one_more : pieces s e (min touched.start low) touched.end ≡ pieces s e low high ++ remaining touched s e
      one_more = pieces-next touched s e low high r c.lowest lies.1 begins lies.0 (lies.2 begins)

      weights : total (remaining touched s e) + (min touched.end e - max touched.start s) + total (drop (next + 1) (gaps_in l))
          ≡ total (drop next (gaps_in l))
      unfolding total
      weights = omega (arith, total-remaining touched s e r, holds-byte l n h next k, ap total (next-in l n h next k))

      pub part-within : max touched.start s ≤ min touched.end e
      part-within = omega (arith, lies.0, holds-byte l n h next k, begins, r)

      pub part-missing : min touched.end e - max touched.start s ≤ missing
      part-missing = omega (arith, c.weighed, weights)

      pub touching-next : {missing' : ℕ} → missing' ≡ missing - (min touched.end e - max touched.start s)
          → Touching l s e first (next + 1) (min touched.start low) touched.end missing'
      touching-next q = record {
        begun = omega (arith, c.begun);
        passed = omega (arith, here l n h next k);
        left =
            rw (one_more, append_assoc)
            (ap (λ m. take first (gaps_in l) ++ (pieces s e low high ++ m)) (sym (split l n h next k s e)) ∙ c.left);
        weighed =
            let t : total (pieces s e (min touched.start low) touched.end) ≡ total (pieces s e low high) + total (remaining touched s e) =
            ap total one_more ∙ total-append (pieces s e low high) (remaining touched s e) in
            q ∙ omega (arith, t, c.weighed, weights);
        lowest = omega (arith, c.lowest);
        ahead = λ t.
            let u : next + 1 < n = omega (arith, h.counted) in
            let v = apart l n h next u in
            (omega (arith, v, lies.0, holds-byte l n h (next + 1) u), omega (arith, v, lies.0), λ w. omega (arith, v));
      }

    -- the gap at `next`, if there is one, begins at the end of the range or after it
    module _ (later : next < n → e ≤ get_or l (2 * next + 2) 0) where
      kept-rest : subtract (drop next (gaps_in l)) s e ≡ drop next (gaps_in l)
      unfolding Ordered subtract
      kept-rest = go (dec_lt next n)
        where
          go : Dec (next < n) → subtract (drop next (gaps_in l)) s e ≡ drop next (gaps_in l)
          go (yes k) =
              let o = in_order l n h next k in
              let p : Ordered (get_or l 0 0) e (nth_gap l next ∷ drop (next + 1) (gaps_in l)) = (later k, o.1, o.2, o.3) in
              rw (next-in l n h next k) (subtract-after (get_or l 0 0) (nth_gap l next ∷ drop (next + 1) (gaps_in l)) s e e r (omega arith) p)
          go (no k) = rw (drop_of_length-le (gaps_in l) {i = next} (omega (arith, length-gaps l n h))) refl

      all_left : take first (gaps_in l) ++ (pieces s e low high ++ drop next (gaps_in l)) ≡ subtract (gaps_in l) s e
      all_left = rw kept-rest at c.left

      pub touches : Touches l s e (record { first = first; next = next; low = low; high = high; missing = missing })
      touches = record {
        begun = c.begun;
        passed = c.passed;
        left = all_left;
        weighed =
            omega (arith, c.weighed, ap total all_left, total-append (take first (gaps_in l)) (pieces s e low high ++ drop next (gaps_in l)), total-append (pieces s e low high) (drop next (gaps_in l)));
      }
