-- Laws of gap lists: the tests say what the rules say, `subtract` takes bytes away and nothing else, `total` counts the missing bytes.
use Prim.Native.Nat.{ℕ, zero, suc, ◌+◌, ◌-◌, ◌≤◌, ◌<◌, min, max}
use native.Mathlib.Omega.{arith}
use native.Mathlib.Decide.{dec_le, dec_lt}
use native.Mathlib.Numerals.{add-one}
use mathlib.Core.Logic.{◌↔◌}
use mathlib.Core.Path.{◌≡◌, refl, sym, ◌∙◌}
use mathlib.Core.Bool.{Bool, true, false, not, ◌&&◌, ◌||◌, cond, or_assoc, or-false, and-false, true≢false}
use mathlib.Core.List.{List, [], ◌∷◌, ◌++◌, append_assoc}
use lib.ListN.{length}
use lib.Dec.{leb, ltb}
use borrow.Author.Tests.{lt-ltb, le-ltb, le-leb, lt-leb, ltb-true, leb-true}
use Rattle.format.specs.Gaps.{Gap, within, missing, Ordered, Lawful, follows, ordered, lawful, count, total, between, remaining, subtract}

-- Tests

pub never : (t : Bool) → {C : Type 0} → t ≡ true → t ≡ false → C
never t p q = absurd (true≢false (sym p ∙ q))

pub both_true : (a b : Bool) → (a && b) ≡ true → (a ≡ true) × (b ≡ true)
both_true true b h = (refl, h)
both_true false b h = never false h refl

pub within_in : (a b x : ℕ) → a ≤ x → x < b → within a b x ≡ true
within_in a b x h k = rw (le-leb a x h, lt-ltb x b k) refl

pub within_low : (a b x : ℕ) → x < a → within a b x ≡ false
within_low a b x h = rw (lt-leb a x h) refl

pub within-high : (a b x : ℕ) → b ≤ x → within a b x ≡ false
within-high a b x h = rw (le-ltb x b h) (and-false (leb a x))

ltb-min : (x a b : ℕ) → ltb x (min a b) ≡ (ltb x a && ltb x b)
ltb-min x a b = go (dec_lt x a) (dec_lt x b)
  where
    go : Dec (x < a) → Dec (x < b) → ltb x (min a b) ≡ (ltb x a && ltb x b)
    go (yes h) (yes k) = rw (lt-ltb x a h, lt-ltb x b k, lt-ltb x (min a b) (omega arith)) refl
    go (yes h) (no k) = rw (lt-ltb x a h, le-ltb x b (omega arith), le-ltb x (min a b) (omega arith)) refl
    go (no h) d = rw (le-ltb x a (omega arith), le-ltb x (min a b) (omega arith)) refl

leb-max : (x a b : ℕ) → leb (max a b) x ≡ (leb a x && leb b x)
leb-max x a b = go (dec_le a x) (dec_le b x)
  where
    go : Dec (a ≤ x) → Dec (b ≤ x) → leb (max a b) x ≡ (leb a x && leb b x)
    go (yes h) (yes k) = rw (le-leb a x h, le-leb b x k, le-leb (max a b) x (omega arith)) refl
    go (yes h) (no k) = rw (le-leb a x h, lt-leb b x (omega arith), lt-leb (max a b) x (omega arith)) refl
    go (no h) d = rw (lt-leb a x (omega arith), lt-leb (max a b) x (omega arith)) refl

ltb-leb : (x a : ℕ) → ltb x a ≡ not (leb a x)
ltb-leb x a = go (dec_le a x)
  where
    go : Dec (a ≤ x) → ltb x a ≡ not (leb a x)
    go (yes h) = rw (le-leb a x h, le-ltb x a h) refl
    go (no h) = rw (lt-leb a x (omega arith), lt-ltb x a (omega arith)) refl

-- The rules as tests

pub follows-true : (size low : ℕ) (g : Gap) → follows size low g ≡ true → (low ≤ g.start) × (g.start < g.end) × (g.end ≤ size)
unfolding follows
follows-true size low g h =
    let a = both_true (leb low g.start) _ h in
    let b = both_true (ltb g.start g.end) _ a.1 in
    (leb-true low g.start a.0, ltb-true g.start g.end b.0, leb-true g.end size b.1)

ordered-true : (size low : ℕ) (l : List Gap) → ordered size low l ≡ true → Ordered size low l
unfolding Ordered ordered
ordered-true size low [] h = tt
ordered-true size low (g ∷ l) h =
    let a = both_true (follows size low g) _ h in
    let f = follows-true size low g a.0 in
    let r = ordered-true size (g.end + 1) l a.1 in
    (f.0, f.1, f.2, rw (← add-one) r)

ordered-holds : (size low : ℕ) (l : List Gap) → Ordered size low l → ordered size low l ≡ true
unfolding Ordered ordered follows
ordered-holds size low [] o = refl
ordered-holds size low (g ∷ l) o =
    rw (le-leb low g.start o.0, lt-ltb g.start g.end o.1, le-leb g.end size o.2, add-one)
    (ordered-holds size (suc g.end) l o.3)

pub ordered-exactly : (size low : ℕ) (l : List Gap) → (ordered size low l ≡ true) ↔ Ordered size low l
ordered-exactly size low l = (ordered-true size low l, ordered-holds size low l)

pub lawful-exactly : (limit size : ℕ) (l : List Gap) → (lawful limit size l ≡ true) ↔ Lawful limit size l
unfolding lawful
lawful-exactly limit size l = (
  λ h. let a = both_true (leb size limit) _ h in
      let b = both_true (leb (length l) 64) _ a.1 in
      record { fits = leb-true size limit a.0; few = leb-true (length l) 64 b.0; ordered = ordered-true size 0 l b.1 },
  λ k. rw (le-leb size limit k.fits, le-leb (length l) 64 k.few) (ordered-holds size 0 l k.ordered),
)

-- Where nothing is missing

pub weaken : (size low low' : ℕ) (l : List Gap) → low' ≤ low → Ordered size low l → Ordered size low' l
unfolding Ordered
weaken size low low' [] h o = tt
weaken size low low' (g ∷ l) h o = (omega arith, o.1, o.2, o.3)

pub below : (size low : ℕ) (l : List Gap) (x : ℕ) → Ordered size low l → x < low → missing l x ≡ false
unfolding Ordered missing
below size low [] x o h = refl
below size low (g ∷ l) x o h =
    rw (within_low g.start g.end x (omega arith)) (below size (suc g.end) l x o.3 (omega arith))

pub beyond : (size low : ℕ) (l : List Gap) (x : ℕ) → Ordered size low l → size ≤ x → missing l x ≡ false
unfolding Ordered missing
beyond size low [] x o h = refl
beyond size low (g ∷ l) x o h = rw (within-high g.start g.end x (omega arith)) (beyond size (suc g.end) l x o.3 h)

-- Subtraction: what is missing

missing-append : (l m : List Gap) (x : ℕ) → missing (l ++ m) x ≡ (missing l x || missing m x)
unfolding missing
missing-append [] m x = refl
missing-append (g ∷ l) m x = rw (missing-append l m x, or_assoc) refl

missing-between : (a b x : ℕ) → missing (between a b) x ≡ within a b x
unfolding missing between
missing-between a b x = go (dec_lt a b) (dec_le a x)
  where
    go : Dec (a < b) → Dec (a ≤ x) → missing (between a b) x ≡ within a b x
    go (yes h) d = rw (lt-ltb a b h, or-false) refl
    go (no h) (yes k) = rw (le-ltb a b (omega arith), within-high a b x (omega arith)) refl
    go (no h) (no k) = rw (le-ltb a b (omega arith), within_low a b x (omega arith)) refl

-- of the tests g.start ≤ x, x < g.end, start ≤ x, end ≤ x
either_side : (a b s e : Bool) → ((a && (b && not s)) || ((a && e) && b)) ≡ ((a && b) && not (s && not e))
either_side false b s e = refl
either_side true false s true = refl
either_side true false s false = refl
either_side true true false e = refl
either_side true true true true = refl
either_side true true true false = refl

missing-remaining : (g : Gap) (s e x : ℕ) → missing (remaining g s e) x ≡ (within g.start g.end x && not (within s e x))
unfolding remaining
missing-remaining g s e x =
    let left = missing-between g.start (min g.end s) x in
    rw (missing-append, left, missing-between, ltb-min, leb-max, ltb-leb x s, ltb-leb x e)
    (either_side (leb g.start x) (ltb x g.end) (leb s x) (leb e x))

outside : (a m b : Bool) → ((a && not b) || (m && not b)) ≡ ((a || m) && not b)
outside true true true = refl
outside true false true = refl
outside true m false = refl
outside false m b = refl

-- a byte is missing afterwards exactly if it was missing and lies outside the range
pub missing-subtract : (l : List Gap) (s e x : ℕ) → missing (subtract l s e) x ≡ (missing l x && not (within s e x))
unfolding missing subtract
missing-subtract [] s e x = refl
missing-subtract (g ∷ l) s e x =
    rw (missing-append (remaining g s e) (subtract l s e) x, missing-remaining, missing-subtract l s e x)
    (outside (within g.start g.end x) (missing l x) (within s e x))

-- Subtraction: the rules hold afterwards

between-ordered : (size low a b : ℕ) (l : List Gap) → (a < b → (low ≤ a) × (b ≤ size) × Ordered size (suc b) l) → Ordered size low l
    → Ordered size low (between a b ++ l)
unfolding Ordered between
between-ordered size low a b l f o = go (dec_lt a b)
  where
    go : Dec (a < b) → Ordered size low (between a b ++ l)
    go (yes t) = rw (lt-ltb a b t) ((f t).0, t, (f t).1, (f t).2)
    go (no t) = rw (le-ltb a b (omega arith)) o

-- what is left of one gap, before the gaps l after it
module _ (size low : ℕ) (g : Gap) (s e : ℕ) (l : List Gap) (h : s < e)
    (first : low ≤ g.start) (order : g.start < g.end) (inside : g.end ≤ size) (o : Ordered size (suc g.end) l) where
  right-ordered : (low' : ℕ) → low' ≤ suc g.end → (max g.start e < g.end → low' ≤ max g.start e)
      → Ordered size low' (between (max g.start e) g.end ++ l)
  right-ordered low' k f =
      between-ordered size low' (max g.start e) g.end l (λ t. (f t, inside, o)) (weaken size (suc g.end) low' l k o)

  remaining-ordered : Ordered size low (remaining g s e ++ l)
  unfolding remaining
  remaining-ordered =
      let right = between (max g.start e) g.end in
      rw append_assoc
      (between-ordered size low g.start (min g.end s) (right ++ l)
      (λ t. (first, omega arith, right-ordered (suc (min g.end s)) (omega arith) (λ u. omega arith)))
      (right-ordered low (omega arith) (λ u. omega arith)))

pub subtract-ordered : (size low : ℕ) (l : List Gap) (s e : ℕ) → s < e → Ordered size low l → Ordered size low (subtract l s e)
unfolding Ordered subtract
subtract-ordered size low [] s e h o = tt
subtract-ordered size low (g ∷ l) s e h o =
    remaining-ordered size low g s e (subtract l s e) h o.0 o.1 o.2 (subtract-ordered size (suc g.end) l s e h o.3)

-- Outside one range and outside the others.
pub outside-both : (m a b : Bool) → ((m && not a) && not b) ≡ (m && not (a || b))
outside-both false a b = refl
outside-both true false b = refl
outside-both true true b = refl

-- a lawful list stays lawful as long as it is short enough
pub subtract-lawful : (limit size : ℕ) (l : List Gap) (s e : ℕ) → s < e → length (subtract l s e) ≤ 64
    → Lawful limit size l → Lawful limit size (subtract l s e)
subtract-lawful limit size l s e h few k = record { fits = k.fits; few = few; ordered = subtract-ordered size 0 l s e h k.ordered }

-- The number of missing bytes

pub count_same : (p q : ℕ → Bool) (n : ℕ) → ((x : ℕ) → x < n → p x ≡ q x) → count p n ≡ count q n
unfolding count
count_same p q zero h = refl
count_same p q (suc n) h = rw (count_same p q n (λ x k. h x (omega arith)), h n (omega arith)) refl

either-one : (a b : Bool) → (a && b) ≡ false → cond (a || b) 1 0 ≡ cond a 1 0 + cond b 1 0
either-one true true h = never true refl h
either-one true false h = refl
either-one false b h = omega arith

-- of two tests that never both pass
count-or : (p q : ℕ → Bool) (n : ℕ) → ((x : ℕ) → (p x && q x) ≡ false) → count (λ x. p x || q x) n ≡ count p n + count q n
unfolding count
count-or p q zero h = refl
count-or p q (suc n) h = omega (arith, count-or p q n h, either-one (p n) (q n) (h n))

count-within : (a b n : ℕ) → count (within a b) n ≡ min b n - min a n
unfolding count
count-within a b zero = omega arith
count-within a b (suc n) = go (count-within a b n) (dec_le a n) (dec_lt n b)
  where
    go : count (within a b) n ≡ min b n - min a n → Dec (a ≤ n) → Dec (n < b)
        → count (within a b) n + cond (within a b n) 1 0 ≡ min b (suc n) - min a (suc n)
    go i (yes h) (yes k) = rw (within_in a b n h k) (omega arith)
    go i (no h) d = rw (within_low a b n (omega arith)) (omega arith)
    go i (yes h) (no k) = rw (within-high a b n (omega arith)) (omega arith)

count_none : (n : ℕ) → count (λ x. false) n ≡ 0
unfolding count
count_none zero = refl
count_none (suc n) = omega (arith, count_none n)

apart : (size : ℕ) (g : Gap) (l : List Gap) (x : ℕ) → Ordered size (suc g.end) l
    → (within g.start g.end x && missing l x) ≡ false
apart size g l x o = go (dec_lt x g.end)
  where
    go : Dec (x < g.end) → (within g.start g.end x && missing l x) ≡ false
    go (yes h) = rw (below size (suc g.end) l x o (omega arith)) (and-false (within g.start g.end x))
    go (no h) = rw (within-high g.start g.end x (omega arith)) refl

-- the sum of the gaps' lengths is the number of missing bytes
pub total-count : (size low : ℕ) (l : List Gap) → Ordered size low l → total l ≡ count (missing l) size
unfolding Ordered missing total
total-count size low [] o = sym (count_none size)
total-count size low (g ∷ l) o =
    omega (
      arith,
      count-or (within g.start g.end) (missing l) size (λ x. apart size g l x o.3),
      count-within g.start g.end size,
      total-count size (suc g.end) l o.3,
    )

pub total-fits : (size low : ℕ) (l : List Gap) → Ordered size low l → total l ≤ size - low
unfolding Ordered total
total-fits size low [] o = omega arith
total-fits size low (g ∷ l) o = omega (arith, total-fits size (suc g.end) l o.3)
