-- The canonical form: a gap list that keeps the rules is the only one with its missing bytes, and `intervals` gives it.
use Prim.Native.Nat.{ℕ, zero, suc, ◌≤◌, ◌<◌}
use native.Mathlib.Omega.{arith}
use native.Mathlib.Decide.{dec_le, dec_lt}
use mathlib.Core.Path.{◌≡◌, refl, sym, ap, ◌∙◌}
use mathlib.Core.Bool.{Bool, true, false, not, ◌&&◌, ◌||◌, cond, or_assoc}
use mathlib.Core.List.{List, [], ◌∷◌}
use borrow.Author.Tests.{le-leb, eq-eqb, ne_eqb}
use Rattle.format.specs.Gaps.{Gap, within, missing, Ordered, subtract, extend, intervals}
use Rattle.format.proofs.Gaps.{never, within_in, within_low, within-high, below, beyond, missing-subtract, subtract-ordered}

-- Of two lists with the same missing bytes, the first gap of one does not start before that of the other, nor end before it.
module _ (size low : ℕ) (g k : Gap) (l m : List Gap) (o : Ordered size low (g ∷ l)) (p : Ordered size low (k ∷ m))
    (h : (x : ℕ) → missing (g ∷ l) x ≡ missing (k ∷ m) x) where
  first-start : g.start ≤ k.start
  unfolding Ordered missing
  first-start = go (dec_lt k.start g.start)
    where
      go : Dec (k.start < g.start) → g.start ≤ k.start
      go (yes t) =
          never (missing (k ∷ m) k.start)
          (rw (within_in k.start k.end k.start (omega arith) p.1) refl)
          (sym (h k.start) ∙ below size g.start (g ∷ l) k.start (omega arith, o.1, o.2, o.3) t)
      go (no f) = omega arith

  first-end : g.start ≡ k.start → g.end ≤ k.end
  unfolding Ordered missing
  first-end q = go (dec_lt k.end g.end)
    where
      go : Dec (k.end < g.end) → g.end ≤ k.end
      go (yes t) =
          never (missing (g ∷ l) k.end)
          (rw (within_in g.start g.end k.end (omega arith) t) refl)
          (h k.end ∙ rw (within-high k.start k.end k.end (omega arith)) (below size (suc k.end) m k.end p.3 (omega arith)))
      go (no f) = omega arith

  rest-same : g ≡ k → (x : ℕ) → missing l x ≡ missing m x
  unfolding Ordered missing
  rest-same q x = go (ap (λ (a : Gap). a.end) q) (dec_le x g.end)
    where
      go : g.end ≡ k.end → Dec (x ≤ g.end) → missing l x ≡ missing m x
      go e (yes t) = below size (suc g.end) l x o.3 (omega arith) ∙ sym (below size (suc k.end) m x p.3 (omega arith))
      go e (no f) = rw (within-high g.start g.end x (omega arith), within-high k.start k.end x (omega arith)) at (h x)

-- a list that begins with a gap has a missing byte
starts : (size low : ℕ) (g : Gap) (l : List Gap) → Ordered size low (g ∷ l) → missing (g ∷ l) g.start ≡ true
unfolding Ordered missing
starts size low g l o = rw (within_in g.start g.end g.start (omega arith) o.1) refl

-- two lists that keep the rules and have the same missing bytes are equal
pub same-gaps : (size low : ℕ) (l m : List Gap) → Ordered size low l → Ordered size low m
    → ((x : ℕ) → missing l x ≡ missing m x) → l ≡ m
unfolding Ordered missing
same-gaps size low [] [] o p h = refl
same-gaps size low [] (k ∷ m) o p h = never (missing (k ∷ m) k.start) (starts size low k m p) (sym (h k.start))
same-gaps size low (g ∷ l) [] o p h = never (missing (g ∷ l) g.start) (starts size low g l o) (h g.start)
same-gaps size low (g ∷ l) (k ∷ m) o p h =
    let a = first-start size low g k l m o p h in
    let b = first-start size low k g m l p o (λ x. sym (h x)) in
    let s : g.start ≡ k.start = omega arith in
    let c = first-end size low g k l m o p h s in
    let d = first-end size low k g m l p o (λ x. sym (h x)) (sym s) in
    let e : g.end ≡ k.end = omega arith in
    let q : g ≡ k = rw (s, e) refl in
    let p' : Ordered size (suc g.end) m = rw (← e) at p.3 in
    rw (q, same-gaps size (suc g.end) l m o.3 p' (rest-same size low g k l m o p h q)) refl

-- Order independence: two ranges subtracted one after the other leave the same gaps in either order.

swap : (m a b : Bool) → ((m && not a) && not b) ≡ ((m && not b) && not a)
swap false a b = refl
swap true true true = refl
swap true true false = refl
swap true false true = refl
swap true false false = refl

pub either_order : (size : ℕ) (l : List Gap) (s e t f : ℕ) → s < e → t < f → Ordered size 0 l
    → subtract (subtract l s e) t f ≡ subtract (subtract l t f) s e
either_order size l s e t f h k o =
    same-gaps size 0 (subtract (subtract l s e) t f) (subtract (subtract l t f) s e)
    (subtract-ordered size 0 (subtract l s e) t f k (subtract-ordered size 0 l s e h o))
    (subtract-ordered size 0 (subtract l t f) s e h (subtract-ordered size 0 l t f k o))
    (λ x.
    rw (missing-subtract (subtract l s e) t f x, missing-subtract (subtract l t f) s e x, missing-subtract l s e x, missing-subtract l t f x)
    (swap (missing l x) (within s e x) (within t f x)))

-- More missing bytes at the end of a list

none_above : (size low : ℕ) (l : List Gap) → size ≤ low → Ordered size low l → l ≡ []
unfolding Ordered
none_above size low [] h o = refl
none_above size low (g ∷ l) h o = absurd (omega arith)

longer : (n m low : ℕ) (l : List Gap) → n ≤ m → Ordered n low l → Ordered m low l
unfolding Ordered
longer n m low [] h o = tt
longer n m low (g ∷ l) h o = (o.0, o.1, omega arith, longer n m (suc g.end) l h o.3)

extend-ordered : (n m low : ℕ) (l : List Gap) → low ≤ n → n < m → Ordered n low l → Ordered m low (extend l n m)
unfolding extend Ordered
extend-ordered n m low [] k h o = (k, h, omega arith, tt)
extend-ordered n m low (g ∷ l) k h o = go (λ t. extend-ordered n m (suc g.end) l t h o.3) (dec_lt g.end n)
  where
    go : (g.end < n → Ordered m (suc g.end) (extend l n m)) → Dec (g.end < n) → Ordered m low (extend (g ∷ l) n m)
    go i (yes t) = rw (ne_eqb g.end n (omega arith)) (o.0, o.1, omega arith, i t)
    go i (no t) =
        rw (eq-eqb g.end n (omega arith), none_above n (suc g.end) l (omega arith) o.3) (o.0, omega arith, omega arith, tt)

within-joined : (a b c x : ℕ) → a ≤ b → b ≤ c → within a c x ≡ (within a b x || within b c x)
within-joined a b c x h k = go (dec_lt x b) (dec_le a x)
  where
    go : Dec (x < b) → Dec (a ≤ x) → within a c x ≡ (within a b x || within b c x)
    go (yes t) (yes u) = rw (within_in a c x u (omega arith), within_in a b x u t) refl
    go (yes t) (no u) = rw (within_low a c x (omega arith), within_low a b x (omega arith), within_low b c x t) refl
    go (no t) d = rw (within-high a b x (omega arith), le-leb a x (omega arith), le-leb b x (omega arith)) refl

either_first : (a b c : Bool) → (a || (b || c)) ≡ (b || (a || c))
either_first true true c = refl
either_first true false c = refl
either_first false b c = refl

missing-extend : (n m low : ℕ) (l : List Gap) (x : ℕ) → n < m → Ordered n low l → missing (extend l n m) x ≡ (within n m x || missing l x)
unfolding extend missing Ordered
missing-extend n m low [] x h o = refl
missing-extend n m low (g ∷ l) x h o = go (missing-extend n m (suc g.end) l x h o.3) (dec_lt g.end n)
  where
    go : missing (extend l n m) x ≡ (within n m x || missing l x) → Dec (g.end < n)
        → missing (extend (g ∷ l) n m) x ≡ (within n m x || missing (g ∷ l) x)
    go i (yes t) = rw (ne_eqb g.end n (omega arith), i) (either_first (within g.start g.end x) (within n m x) (missing l x))
    go i (no t) =
        let e : g.end ≡ n = omega arith in
        rw (eq-eqb g.end n e, within-joined g.start n m x (omega arith) (omega arith), e, or_assoc)
        (either_first (within g.start n x) (within n m x) (missing l x))

-- The gap list of a test

pub intervals-ordered : (p : ℕ → Bool) (n : ℕ) → Ordered n 0 (intervals p n)
unfolding intervals Ordered
intervals-ordered p zero = tt
intervals-ordered p (suc n) = go (p n) (intervals-ordered p n)
  where
    go : (t : Bool) → Ordered n 0 (intervals p n) → Ordered (suc n) 0 (cond t (extend (intervals p n) n (suc n)) (intervals p n))
    go true o = extend-ordered n (suc n) 0 (intervals p n) (omega arith) (omega arith) o
    go false o = longer n (suc n) 0 (intervals p n) (omega arith) o

pub intervals-missing : (p : ℕ → Bool) (n x : ℕ) → x < n → missing (intervals p n) x ≡ p x
unfolding intervals
intervals-missing p zero x h = absurd (omega arith)
intervals-missing p (suc n) x h = go (λ k. intervals-missing p n x k) (p n) refl (dec_lt x n)
  where
    go : (x < n → missing (intervals p n) x ≡ p x) → (t : Bool) → p n ≡ t → Dec (x < n)
        → missing (cond t (extend (intervals p n) n (suc n)) (intervals p n)) x ≡ p x
    go i true q (yes d) =
        missing-extend n (suc n) 0 (intervals p n) x (omega arith) (intervals-ordered p n) ∙ rw (within_low n (suc n) x d) (i d)
    go i true q (no d) =
        missing-extend n (suc n) 0 (intervals p n) x (omega arith) (intervals-ordered p n)
        ∙ rw (within_in n (suc n) x (omega arith) h) (sym q ∙ ap p (omega arith))
    go i false q (yes d) = i d
    go i false q (no d) = beyond n 0 (intervals p n) x (intervals-ordered p n) (omega arith) ∙ sym q ∙ ap p (omega arith)

-- it is the only list that keeps the rules and whose missing bytes pass the test
pub intervals-only : (p : ℕ → Bool) (n : ℕ) (l : List Gap) → Ordered n 0 l → ((x : ℕ) → x < n → missing l x ≡ p x) → l ≡ intervals p n
intervals-only p n l o h = same-gaps n 0 l (intervals p n) o (intervals-ordered p n) (λ x. go x (dec_lt x n))
  where
    go : (x : ℕ) → Dec (x < n) → missing l x ≡ missing (intervals p n) x
    go x (yes t) = h x t ∙ sym (intervals-missing p n x t)
    go x (no t) = beyond n 0 l x o (omega arith) ∙ sym (beyond n 0 (intervals p n) x (intervals-ordered p n) (omega arith))

pub subtract-intervals : (size : ℕ) (l : List Gap) (s e : ℕ) → s < e → Ordered size 0 l
    → subtract l s e ≡ intervals (λ x. missing l x && not (within s e x)) size
subtract-intervals size l s e h o =
    intervals-only (λ x. missing l x && not (within s e x)) size (subtract l s e) (subtract-ordered size 0 l s e h o)
    (λ x _. missing-subtract l s e x)

-- A stretch on which the test does not change: where it passes, the list is extended at once, and where it fails, it stays.

pub intervals-passes : (p : ℕ → Bool) (x y : ℕ) → x < y → ((z : ℕ) → x ≤ z → z < y → p z ≡ true)
    → extend (intervals p x) x y ≡ intervals p y
intervals-passes p x y h f =
    intervals-only p y (extend (intervals p x) x y) (extend-ordered x y 0 (intervals p x) (omega arith) h (intervals-ordered p x))
    (λ z k. missing-extend x y 0 (intervals p x) z h (intervals-ordered p x) ∙ go z k (dec_lt z x))
  where
    go : (z : ℕ) → z < y → Dec (z < x) → (within x y z || missing (intervals p x) z) ≡ p z
    go z k (yes t) = rw (within_low x y z t) (intervals-missing p x z t)
    go z k (no t) = rw (within_in x y z (omega arith) k) (sym (f z (omega arith) k))

pub intervals-fails : (p : ℕ → Bool) (x y : ℕ) → x ≤ y → ((z : ℕ) → x ≤ z → z < y → p z ≡ false) → intervals p x ≡ intervals p y
intervals-fails p x y h f =
    intervals-only p y (intervals p x) (longer x y 0 (intervals p x) h (intervals-ordered p x)) (λ z k. go z k (dec_lt z x))
  where
    go : (z : ℕ) → z < y → Dec (z < x) → missing (intervals p x) z ≡ p z
    go z k (yes t) = intervals-missing p x z t
    go z k (no t) = beyond x 0 (intervals p x) z (intervals-ordered p x) (omega arith) ∙ sym (f z (omega arith) k)
