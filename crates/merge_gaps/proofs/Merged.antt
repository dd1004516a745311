-- The walk over the bounds of all three records: the bounds kept so far enclose what the merge decides, and at the end they are the outcome's.
use Prim.Native.Nat.{ℕ, suc, ◌+◌, ◌*◌, ◌≤◌, ◌<◌, min}
use native.Mathlib.Omega.{arith}
use native.Mathlib.Decide.{dec_lt}
use native.Mathlib.Numerals.{add-one}
use mathlib.Core.Path.{◌≡◌, refl, sym, ap, ◌∙◌}
use mathlib.Core.Bool.{Bool, false, not}
use mathlib.Core.List.{List, [], ◌∷◌, ◌++◌}
use lib.ListN.{length, get_or, take, drop, set, length-append, length-set}
use lib.Seq.{take_all, drop-cons, set_at, append_snoc}
use Rattle.format.specs.Gaps.{Gap, Ordered, missing as missing_in}
use Rattle.format.specs.Merging.{merged_missing, merged_gaps}
use Rattle.format.specs.Writing.{overwritten}
use Rattle.format.proofs.Gaps.{beyond}
use Rattle.format.proofs.Intervals.{intervals-only}
use Rattle.gap_numbers.specs.NumberSteps.{gap_number_list}
use Rattle.gap_numbers.proofs.Numbers.{length-gap-numbers}
use Rattle.merge_gaps.specs.Bounds.{odd, no_bound, bound_after}
use Rattle.merge_gaps.proofs.Rising.{Rising, rising-to, rising-more, odd-suc, enclosed, enclosed-more, enclosed-all, gaps-rising, missing-enclosed, paired}
use Rattle.merge_gaps.proofs.Walk.{Walk, walk_none, passed_at, passed-grows, walk-odd, reached-top, next-below, next-above, walk-on}

-- Of the bounds o, a and b the first i, j and k are passed; `bounds` are the kept ones, at the front of `out`.
pub record Walked (o a b : List ℕ) (n-o n-a n-b top : ℕ) (old : List ℕ) (i j k kept : ℕ) (out : List ℕ) : Type 0 where
  pub reached : ℕ
  pub in-o : Walk o n-o top i reached
  pub in-a : Walk a n-a top j reached
  pub in_b : Walk b n-b top k reached
  pub bounds : List ℕ
  pub counted : length bounds ≡ kept
  pub rising : Rising 0 reached bounds
  pub decided : (x : ℕ) → enclosed bounds x ≡ merged_missing (enclosed (take i o) x) (enclosed (take j a) x) (enclosed (take k b) x)
  pub few : kept ≤ i + j + k
  pub put : out ≡ overwritten bounds old
  pub same_length : length out ≡ length old

-- one more number at the front
put_next : (m old out : List ℕ) (n v : ℕ) → length m ≡ n → n < length old → out ≡ overwritten m old → set out n v ≡ overwritten (m ++ v ∷ []) old
put_next m old out n v e h q =
    let rest = drop (suc (length m)) old in
    let more : length (m ++ v ∷ []) ≡ suc (length m) = simp length-append (omega arith) in
    rw (q, drop-cons old (length m) 0 (omega arith), more, append_snoc m v rest) (set_at m (get_or old (length m) 0) rest v n e)

pub merged-same : {o o' a a' b b' : Bool} → o ≡ o' → a ≡ a' → b ≡ b' → merged_missing o a b ≡ merged_missing o' a' b'
merged-same p q r = rw (p, q, r) refl

-- A turn: `at` is the least next bound, and what lies there is passed; `missing` says whether the bytes after it are missing.
pub record Turn (o a b : List ℕ) (i j k at i' j' k' : ℕ) (missing : Bool) : Type 0 where
  pub least : at ≡ min (bound_after o i) (min (bound_after a j) (bound_after b k))
  pub passes-o : i' ≡ passed_at o i at
  pub passes-a : j' ≡ passed_at a j at
  pub passes-b : k' ≡ passed_at b k at
  pub decides : missing ≡ merged_missing (odd i') (odd j') (odd k')

module _ {o a b : List ℕ} {n-o n-a n-b top : ℕ} {old : List ℕ} {i j k kept : ℕ} {out : List ℕ} (w : Walked o a b n-o n-a n-b top old i j k kept out)
    {at i' j' k' : ℕ} {missing : Bool} (t : Turn o a b i j k at i' j' k' missing) (high : top ≤ no_bound) (more : i + j + k < n-o + n-a + n-b) where
  at_above : w.reached ≤ at
  at_above = omega (arith, t.least, next-above w.in-o high, next-above w.in-a high, next-above w.in_b high)

  at-below : at < top
  at-below = go (dec_lt i n-o) (dec_lt j n-a)
    where
      go : Dec (i < n-o) → Dec (j < n-a) → at < top
      go (yes h) d = omega (arith, t.least, next-below w.in-o h)
      go (no h) (yes e) = omega (arith, t.least, next-below w.in-a e)
      go (no h) (no e) = omega (arith, t.least, next-below w.in_b (omega arith))

  pub some-passed : i + j + k < i' + j' + k'
  some-passed = go (dec_lt at (bound_after o i)) (dec_lt at (bound_after a j))
    where
      go : Dec (at < bound_after o i) → Dec (at < bound_after a j) → i + j + k < i' + j' + k'
      go (no h) e = omega (arith, t, (passed-grows o i at).1 (omega arith), (passed-grows a j at).0, (passed-grows b k at).0)
      go (yes h) (no e) = omega (arith, t, (passed-grows o i at).0, (passed-grows a j at).1 (omega arith), (passed-grows b k at).0)
      go (yes h) (yes e) = omega (arith, t, (passed-grows o i at).0, (passed-grows a j at).0, (passed-grows b k at).1 (omega arith))

  on-o : Walk o n-o top i' (suc at) × ((x : ℕ) → x < at → enclosed (take i' o) x ≡ enclosed (take i o) x)
  on-o = rw t.passes-o (walk-on w.in-o high at at_above (omega arith) at-below)

  on-a : Walk a n-a top j' (suc at) × ((x : ℕ) → x < at → enclosed (take j' a) x ≡ enclosed (take j a) x)
  on-a = rw t.passes-a (walk-on w.in-a high at at_above (omega arith) at-below)

  on-b : Walk b n-b top k' (suc at) × ((x : ℕ) → x < at → enclosed (take k' b) x ≡ enclosed (take k b) x)
  on-b = rw t.passes-b (walk-on w.in_b high at at_above (omega arith) at-below)

  -- bytes before `at` are decided as before, and all others by how many bounds are passed
  decided-on : (m : List ℕ) → Rising 0 (suc at) m → ((x : ℕ) → x < at → enclosed m x ≡ enclosed w.bounds x)
      → odd (length m) ≡ missing
      → (x : ℕ) → enclosed m x ≡ merged_missing (enclosed (take i' o) x) (enclosed (take j' a) x) (enclosed (take k' b) x)
  decided-on m r same e x = go (dec_lt x at)
    where
      go : Dec (x < at) → enclosed m x ≡ merged_missing (enclosed (take i' o) x) (enclosed (take j' a) x) (enclosed (take k' b) x)
      go (yes h) = rw (on-o.1 x h, on-a.1 x h, on-b.1 x h) (same x h ∙ w.decided x)
      go (no h) =
          rw (walk-odd on-o.0 x (omega arith), walk-odd on-a.0 x (omega arith), walk-odd on-b.0 x (omega arith))
          (enclosed-all 0 (suc at) m x (omega arith) r ∙ e ∙ t.decides)

  module _ (m : List ℕ) (r : Rising 0 (suc at) m) (same : (x : ℕ) → x < at → enclosed m x ≡ enclosed w.bounds x) (n : ℕ) (counted : length m ≡ n)
      (e : odd n ≡ missing) (few : n ≤ kept + 1) (new : List ℕ) (put : new ≡ overwritten m old)
      (same_length : length new ≡ length old) where
    walked_on : Walked o a b n-o n-a n-b top old i' j' k' n new
    walked_on = record {
      reached = suc at;
      in-o = on-o.0;
      in-a = on-a.0;
      in_b = on-b.0;
      bounds = m;
      counted = counted;
      rising = r;
      decided = decided-on m r same (ap odd counted ∙ e);
      few = omega (arith, w.few, some-passed);
      put = put;
      same_length = same_length;
    }

  -- nothing changes at `at`
  pub walked_same : missing ≡ odd kept → Walked o a b n-o n-a n-b top old i' j' k' kept out
  walked_same e =
      walked_on w.bounds (rising-to 0 w.reached (suc at) w.bounds (omega (arith, at_above)) w.rising) (λ x h. refl)
      kept w.counted (sym e) (omega arith) out w.put w.same_length

  pub walked_more : kept < length old → missing ≡ not (odd kept) → Walked o a b n-o n-a n-b top old i' j' k' (kept + 1) (set out kept at)
  walked_more room e =
      walked_on (w.bounds ++ at ∷ []) (rising-more 0 at w.bounds (rising-to 0 w.reached at w.bounds at_above w.rising))
      (λ x h. enclosed-more w.bounds at x h) (kept + 1) (simp length-append (omega (arith, w.counted)))
      (ap odd (add-one kept) ∙ odd-suc kept ∙ sym e) (omega arith) (set out kept at)
      (put_next w.bounds old out kept at w.counted room w.put) (simp length-set w.same_length)

-- The end: all bounds of gaps in order are passed.
module _ (size : ℕ) (o a b : List Gap) (ordered-o : Ordered size 0 o) (ordered-a : Ordered size 0 a) (ordered-b : Ordered size 0 b) where
  module _ {n-o n-a n-b : ℕ} (long-o : length (gap_number_list o) ≡ n-o) (long-a : length (gap_number_list a) ≡ n-a) (long-b : length (gap_number_list b) ≡ n-b) where
    pub walked_none : (old : List ℕ) → Walked (gap_number_list o) (gap_number_list a) (gap_number_list b) n-o n-a n-b (suc size) old 0 0 0 0 old
    unfolding Rising enclosed
    walked_none old = record {
      reached = 0;
      in-o = walk_none (gap_number_list o) n-o (suc size) long-o (gaps-rising size 0 o (omega arith) ordered-o);
      in-a = walk_none (gap_number_list a) n-a (suc size) long-a (gaps-rising size 0 a (omega arith) ordered-a);
      in_b = walk_none (gap_number_list b) n-b (suc size) long-b (gaps-rising size 0 b (omega arith) ordered-b);
      bounds = [];
      counted = refl;
      rising = omega arith;
      decided = λ x. refl;
      few = omega arith;
      put = refl;
      same_length = refl;
    }

  module _ {n-o n-a n-b : ℕ} {old : List ℕ} {i j k kept : ℕ} {out : List ℕ}
      (w : Walked (gap_number_list o) (gap_number_list a) (gap_number_list b) n-o n-a n-b (suc size) old i j k kept out) (all : n-o + n-a + n-b ≤ i + j + k) where
    passed-all : (gaps : List Gap) → Ordered size 0 gaps → (n x : ℕ) → length (gap_number_list gaps) ≤ n → enclosed (take n (gap_number_list gaps)) x ≡ missing_in gaps x
    passed-all gaps ordered n x h = ap (λ l. enclosed l x) (take_all n (gap_number_list gaps) h) ∙ sym (missing-enclosed size 0 gaps x ordered)

    decided-all : (x : ℕ) → enclosed w.bounds x ≡ merged_missing (missing_in o x) (missing_in a x) (missing_in b x)
    decided-all x =
        let p = w.in-o in
        let q = w.in-a in
        let r = w.in_b in
        w.decided x ∙ rw (passed-all o ordered-o i x (omega arith), passed-all a ordered-a j x (omega arith), passed-all b ordered-b k x (omega arith)) refl

    top : w.reached ≤ suc size
    top = reached-top w.in-o

    -- past the end nothing is missing
    even : odd (length w.bounds) ≡ false
    even =
        sym (enclosed-all 0 w.reached w.bounds size (omega (arith, top)) w.rising) ∙ decided-all size
        ∙ rw (beyond size 0 o size ordered-o (omega arith), beyond size 0 a size ordered-a (omega arith), beyond size 0 b size ordered-b (omega arith)) refl

    kept-bounds : w.bounds ≡ gap_number_list (merged_gaps size o a b)
    kept-bounds =
        let found = paired size 0 w.bounds even (rising-to 0 w.reached (suc size) w.bounds top w.rising) in
        let same : found.0 ≡ merged_gaps size o a b =
        intervals-only (λ x. merged_missing (missing_in o x) (missing_in a x) (missing_in b x)) size found.0 found.1.1
        (λ x h. missing-enclosed size 0 found.0 x found.1.1 ∙ ap (λ l. enclosed l x) found.1.0 ∙ decided-all x) in
        sym found.1.0 ∙ ap gap_number_list same

    pub merged-count : kept ≡ 2 * length (merged_gaps size o a b)
    merged-count = sym w.counted ∙ ap length kept-bounds ∙ length-gap-numbers (merged_gaps size o a b)

    pub merged-put : out ≡ overwritten (gap_number_list (merged_gaps size o a b)) old
    merged-put = w.put ∙ ap (λ l. overwritten l old) kept-bounds
