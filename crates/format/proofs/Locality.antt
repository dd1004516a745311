-- What a decoder finds rests on how many bytes there are, and on those before the place where it ends: after the value; after the faulty
-- item; or before that item, where the bytes end within it. The law of each way to make a decoder; Reasons has a line for each decoder.
use mathlib.Core.Path.{◌≡◌, refl, sym, ap, ◌∙◌}
use mathlib.Core.Bool.{Bool, true, false}
use mathlib.Core.Logic.{◌⊎◌, inl, inr}
use mathlib.Core.List.{List}
use Prim.Native.Nat.{ℕ, ◌+◌, ◌-◌, ◌≤◌, ◌<◌, min}
use native.Mathlib.Omega.{arith}
use lib.ListN.{length, take, drop, length-take}
use lib.Seq.{drop_at, ext_get_or, get_or-take, length-take-le, take-add, take-length}
use lib.Dec.{leb}
use borrow.Author.Tests.{leb-true, leb-false, le-leb, lt-leb}
use Rattle.format.specs.Tables.{pick}
use Rattle.format.specs.Decoding.{Check, Decoder, Fault, Outcome, Rule, ◌>>=◌, and_then, bytes_at, checked, checked_before, checked_whole, decode_run, decode_tail, fault, got, passes, pure, refuse, refused, remaining, settled, short, violates}
use Rattle.format.specs.Reasons.{Cut, EqualUpTo, Whole}
use Rattle.format.proofs.Codec.{never, same_place, went}

-- How many bytes decide a fault.
abbrev pub decides : List ℕ → Fault → ℕ
decides s f = pick (leb (f.at + f.size) (length s)) (f.at + f.size) f.at

pub decides-whole : (s : List ℕ) (f : Fault) → Whole s f → decides s f ≡ f.at + f.size
decides-whole s f h = rw (le-leb (f.at + f.size) (length s) h) refl

pub decides-cut : (s : List ℕ) (f : Fault) → Cut s f → decides s f ≡ f.at
decides-cut s f h = rw (lt-leb (f.at + f.size) (length s) h.1) refl

pub decides-less : (s : List ℕ) (f : Fault) → decides s f ≤ f.at + f.size
decides-less s f = go (leb (f.at + f.size) (length s))
  where
    go : (b : Bool) → pick b (f.at + f.size) f.at ≤ f.at + f.size
    go true = omega arith
    go false = omega arith

-- Where an outcome begins and ends.
abbrev pub begins : {A : Type 0} → Outcome A → ℕ
begins (refused f) = f.at
begins (got a next) = next

abbrev pub reach : {A : Type 0} → List ℕ → Outcome A → ℕ
reach s (refused f) = decides s f
reach s (got a next) = next

abbrev pub Inside : {A : Type 0} → List ℕ → Outcome A → Type 0
Inside s (refused f) = (f.at ≤ length s) × (Whole s f ⊎ Cut s f)
Inside s (got a next) = next ≤ length s

-- Two outcomes at one offset of inputs of one length: the first goes forward and stays inside, and the second is the same if the inputs
-- agree up to where the first ends.
pub record Agrees {A : Type 0} (s t : List ℕ) (at : ℕ) (o p : Outcome A) : Type 0 where
  pub forward : at ≤ begins o
  pub inside : Inside s o
  pub same : EqualUpTo (reach s o) s t → p ≡ o

abbrev pub Local : {A : Type 0} → Decoder A → Type 0
Local r = (s t : List ℕ) → length t ≡ length s → (at : ℕ) → at ≤ length s → Agrees s t at (r s at) (r t at)

pub fewer : (s t : List ℕ) {m n : ℕ} → m ≤ n → EqualUpTo n s t → EqualUpTo m s t
fewer s t h e i below within = e i (omega arith) within

pub reaches : {A : Type 0} (s : List ℕ) (o : Outcome A) → begins o ≤ reach s o
reaches s (got a next) = omega arith
reaches s (refused f) = go (leb (f.at + f.size) (length s))
  where
    go : (b : Bool) → f.at ≤ pick b (f.at + f.size) f.at
    go true = omega arith
    go false = omega arith

-- Runs of bytes

front : (s t : List ℕ) (n : ℕ) → length t ≡ length s → EqualUpTo n s t → take n t ≡ take n s
front s t n l e =
    let lengths : length (take n t) ≡ length (take n s) = length-take n t ∙ ap (min n) l ∙ sym (length-take n s) in
    ext_get_or 0 (take n t) (take n s) lengths
    (λ i h. let m : i < min n (length t) = rw (← length-take n t) h in
    get_or-take n t i 0 (omega arith) ∙ sym (e i (omega arith) (omega arith)) ∙ sym (get_or-take n s i 0 (omega arith)))

bytes_same : (s t : List ℕ) (at k : ℕ) → length t ≡ length s → at ≤ length s → EqualUpTo (at + k) s t → bytes_at t at k ≡ bytes_at s at k
bytes_same s t at k l i e =
    sym (drop_at (take at t) (bytes_at t at k) at (length-take-le at t (omega arith))) ∙
    ap (drop at) (sym (take-add at k t) ∙ front s t (at + k) l e ∙ take-add at k s) ∙
    drop_at (take at s) (bytes_at s at k) at (length-take-le at s i)

pub local-run : (k : ℕ) → Local (decode_run k)
unfolding decode_run
local-run k s t l at i = rw l (go (leb (at + k) (length s)) refl)
  where
    go : (b : Bool) → leb (at + k) (length s) ≡ b →
        Agrees s t at (pick b (got (bytes_at s at k) (at + k)) (refused (fault short at k))) (pick b (got (bytes_at t at k) (at + k)) (refused (fault short at k)))
    go true q = record { forward = omega arith; inside = leb-true _ _ q; same = λ e. ap (λ b. got b (at + k)) (bytes_same s t at k l i e) }
    go false q = record { forward = omega arith; inside = (i, inr (refl, leb-false _ _ q)); same = λ e. refl }

pub local-tail : Local decode_tail
unfolding decode_tail
local-tail s t l at i = record {
  forward = i;
  inside = omega arith;
  same = λ e. let q : t ≡ s = sym (take-length t) ∙ ap (λ n. take n t) l ∙ front s t (length s) l e ∙ take-length s in rw q refl;
}

-- Combinators

pub local-pure : {A : Type 0} (a : A) → Local (pure a)
local-pure a s t l at i = record { forward = omega arith; inside = i; same = λ e. refl }

pub local-remaining : Local remaining
local-remaining s t l at i = record { forward = omega arith; inside = i; same = λ e. ap (λ n. got (n - at) at) l }

pub local-refuse : {A : Type 0} (rule : Rule) → Local (refuse {A = A} rule)
local-refuse rule s t l at i = record { forward = omega arith; inside = (i, inl (omega arith)); same = λ e. refl }

-- A value that a decoder gives for some bytes.
pub record Returns {A : Type 0} (r : Decoder A) (a : A) : Type 0 where
  pub bytes : List ℕ
  pub start : ℕ
  pub next : ℕ
  pub was : r bytes start ≡ got a next

pub returned : {A : Type 0} (r : Decoder A) (s : List ℕ) (at : ℕ) {a : A} {next : ℕ} → r s at ≡ got a next → Returns r a
returned r s at {next = next} e = record { bytes = s; start = at; next = next; was = e }

pub local-then : {A B : Type 0} {r : Decoder A} {f : A → Decoder B} → Local r → ((a : A) → Returns r a → Local (f a)) → Local (r >>= f)
local-then {A} {B} {r} {f} L M s t l at i = go (r s at) refl (L s t l at i)
  where
    go : (o : Outcome A) → r s at ≡ o → Agrees s t at o (r t at) → Agrees s t at (and_then s o f) (and_then t (r t at) f)
    go (refused e) q g = record { forward = g.forward; inside = g.inside; same = λ h. rw (g.same h) refl }
    go (got a mid) q g =
        let m = M a (returned r s at q) s t l mid g.inside in
        let ends = reaches s (f a s mid) in
        record {
          forward = omega (arith, g.forward, m.forward);
          inside = m.inside;
          same = λ h. rw (g.same (fewer s t (omega (arith, m.forward, ends)) h)) (m.same h);
        }

-- Checks: the item has as many bytes as its fault says.

abbrev pub Within : {A : Type 0} → ℕ → Decoder A → Type 0
Within {A} k r = (s : List ℕ) (at : ℕ) (a : A) (next : ℕ) → r s at ≡ got a next → next ≡ at + k

pub within-run : (k : ℕ) → Within k (decode_run k)
unfolding decode_run
within-run k s at l next e = go (leb (at + k) (length s)) e
  where
    go : (b : Bool) → pick b (got (bytes_at s at k) (at + k)) (refused (fault short at k)) ≡ got l next → next ≡ at + k
    go true q = omega (arith, same_place q)
    go false q = absurd (never q)

pub within-pure : {A : Type 0} (a : A) → Within 0 (pure a)
within-pure a s at b next e = omega (arith, same_place e)

pub within-then : {A B : Type 0} {r : Decoder A} {f : A → Decoder B} (j k : ℕ) → Within j r → ((a : A) → Within k (f a)) → Within (j + k) (r >>= f)
within-then {r = r} j k L M s at b next e =
    let w = went s (r s at) e in
    omega (arith, L s at w.first w.mid w.was, M w.first s w.mid b next w.then)

-- The item of a fault is all that was decoded, whether its size is given or taken from where it ends.
local-settled : {A B : Type 0} {r : Decoder A} (size : (at next : ℕ) → ℕ) (check : ℕ → A → Check B) →
    ((s : List ℕ) (at : ℕ) (a : A) (next : ℕ) → r s at ≡ got a next → at ≤ next → at + size at next ≡ next) → Local r →
    Local (λ s at. and_then s (r s at) (λ a s next. settled at (size at next) (check (length s - next) a) next))
local-settled {A} {B} {r} size check all L s t l at i = go (r s at) refl (L s t l at i)
  where
    judge : A → Decoder B
    judge a s next = settled at (size at next) (check (length s - next) a) next

    go : (o : Outcome A) → r s at ≡ o → Agrees s t at o (r t at) → Agrees s t at (and_then s o judge) (and_then t (r t at) judge)
    go (refused e) q g = record { forward = g.forward; inside = g.inside; same = λ h. rw (g.same h) refl }
    go (got a next) q g = last (check (length s - next) a) refl
      where
        last : (v : Check B) → check (length s - next) a ≡ v → Agrees s t at (settled at (size at next) v next) (and_then t (r t at) judge)
        last (passes b) p = record { forward = g.forward; inside = g.inside; same = λ h. rw (g.same h, l, p) refl }
        last (violates rule) p =
            let w : at + size at next ≡ next = all s at a next q g.forward in
            let there : Whole s (fault rule at (size at next)) = rw w g.inside in
            let d : decides s (fault rule at (size at next)) ≡ next = decides-whole s (fault rule at (size at next)) there ∙ w in
            record { forward = omega arith; inside = (i, inl there); same = λ h. rw (g.same (rw d at h), l, p) refl }

pub local-checked_before : {A B : Type 0} {r : Decoder A} (k : ℕ) (check : ℕ → A → Check B) → Within k r → Local r → Local (checked_before k check r)
local-checked_before k check within = local-settled (λ at next. k) check (λ s at a next e h. sym (within s at a next e))

pub local-checked : {A B : Type 0} {r : Decoder A} (k : ℕ) (check : A → Check B) → Within k r → Local r → Local (checked k check r)
local-checked k check = local-checked_before k (λ after. check)

pub local-checked_whole : {A B : Type 0} {r : Decoder A} (check : A → Check B) → Local r → Local (checked_whole check r)
local-checked_whole check = local-settled (λ at next. next - at) (λ after. check) (λ s at a next e h. omega arith)
