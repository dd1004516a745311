-- Rising bounds, and the bytes that they enclose: those of gaps in order enclose exactly the missing bytes.
use Prim.Native.Nat.{ℕ, suc, ◌%◌, ◌≤◌, ◌<◌}
use native.Mathlib.Omega.{arith}
use native.Mathlib.Decide.{dec_lt}
use mathlib.Core.Path.{◌≡◌, refl, sym, ap, ◌∙◌}
use mathlib.Core.Bool.{Bool, true, false, not, true≢false, beq, not-not}
use mathlib.Core.List.{List, [], ◌∷◌, ◌++◌}
use lib.ListN.{length}
use lib.Dec.{leb, eqb}
use borrow.Author.Tests.{le-leb, lt-leb, eqb-true, eqb-false, eq-eqb, ne_eqb}
use Rattle.format.specs.Tables.{pick}
use Rattle.format.specs.Gaps.{Gap, gap, missing, Ordered}
use Rattle.format.proofs.Gaps.{within_in, within_low, within-high, below}
use Rattle.gap_numbers.specs.Numbers.{pair_numbers}
use Rattle.gap_numbers.specs.NumberSteps.{gap_number_list}
use Rattle.merge_gaps.specs.Bounds.{odd}

-- Bounds from `low` on, each above the one before, all below `high`.
unfoldable pub Rising : (low high : ℕ) → List ℕ → Type 0
Rising low high [] = low ≤ high
Rising low high (b ∷ l) = (low ≤ b) × Rising (suc b) high l

pub rising-range : (low high : ℕ) (l : List ℕ) → Rising low high l → low ≤ high
unfolding Rising
rising-range low high [] r = r
rising-range low high (b ∷ l) r = omega (arith, rising-range (suc b) high l r.1)

pub rising-to : (low high high' : ℕ) (l : List ℕ) → high ≤ high' → Rising low high l → Rising low high' l
unfolding Rising
rising-to low high high' [] h r = omega arith
rising-to low high high' (b ∷ l) h r = (r.0, rising-to (suc b) high high' l h r.1)

pub rising-more : (low at : ℕ) (l : List ℕ) → Rising low at l → Rising low (suc at) (l ++ at ∷ [])
unfolding Rising
rising-more low at [] r = (r, omega arith)
rising-more low at (b ∷ l) r = (r.0, rising-more (suc b) at l r.1)

pub odd-suc : (n : ℕ) → odd (suc n) ≡ not (odd n)
odd-suc n = go (odd n) refl
  where
    go : (t : Bool) → odd n ≡ t → odd (suc n) ≡ not t
    go true e = let q = eqb-true (n % 2) 1 e in ne_eqb (suc n % 2) 1 (λ p. omega arith)
    go false e = let q = eqb-false (n % 2) 1 e in eq-eqb (suc n % 2) 1 (omega arith)

-- two tests, by whether they differ
pub changed : (t u : Bool) → not (beq t u) ≡ true → t ≡ not u
changed true true e = sym e
changed true false e = refl
changed false true e = refl
changed false false e = e

pub unchanged : (t u : Bool) → not (beq t u) ≡ false → t ≡ u
unchanged true true e = refl
unchanged true false e = e
unchanged false true e = sym e
unchanged false false e = refl

-- Byte x lies after an odd number of the bounds.
unfoldable pub enclosed : List ℕ → ℕ → Bool
enclosed [] x = false
enclosed (b ∷ l) x = pick (leb b x) (not (enclosed l x)) (enclosed l x)

-- one more bound, after x
pub enclosed-more : (l : List ℕ) (b x : ℕ) → x < b → enclosed (l ++ b ∷ []) x ≡ enclosed l x
unfolding enclosed
enclosed-more [] b x h = rw (lt-leb b x h) refl
enclosed-more (c ∷ l) b x h = rw (enclosed-more l b x h) refl

-- x lies after all
pub enclosed-all : (low high : ℕ) (l : List ℕ) (x : ℕ) → high ≤ suc x → Rising low high l → enclosed l x ≡ odd (length l)
unfolding Rising enclosed
enclosed-all low high [] x h r = refl
enclosed-all low high (b ∷ l) x h r =
    let k = rising-range (suc b) high l r.1 in
    rw (le-leb b x (omega arith), enclosed-all (suc b) high l x h r.1) (sym (odd-suc (length l)))

pub gaps-rising : (size low : ℕ) (gaps : List Gap) → low ≤ suc size → Ordered size low gaps → Rising low (suc size) (gap_number_list gaps)
unfolding Rising Ordered pair_numbers
gaps-rising size low [] h o = h
gaps-rising size low (g ∷ gaps) h o = (o.0, (o.1, gaps-rising size (suc g.end) gaps (omega arith) o.3))

pub missing-enclosed : (size low : ℕ) (gaps : List Gap) (x : ℕ) → Ordered size low gaps → missing gaps x ≡ enclosed (gap_number_list gaps) x
unfolding enclosed missing Ordered pair_numbers
missing-enclosed size low [] x o = refl
missing-enclosed size low (g ∷ gaps) x o = go (missing-enclosed size (suc g.end) gaps x o.3) (dec_lt x g.start) (dec_lt x g.end)
  where
    go : missing gaps x ≡ enclosed (gap_number_list gaps) x → Dec (x < g.start) → Dec (x < g.end) → missing (g ∷ gaps) x ≡ enclosed (gap_number_list (g ∷ gaps)) x
    go e (yes h) d = rw (within_low g.start g.end x h, lt-leb g.start x h, lt-leb g.end x (omega arith)) e
    go e (no h) (yes k) =
        rw (within_in g.start g.end x (omega arith) k, le-leb g.start x (omega arith), lt-leb g.end x k, ← e, below size (suc g.end) gaps x o.3 (omega arith)) refl
    go e (no h) (no k) =
        rw (within-high g.start g.end x (omega arith), le-leb g.start x (omega arith), le-leb g.end x (omega arith)) (e ∙ sym (not-not (enclosed (gap_number_list gaps) x)))

odd-two : (n : ℕ) → odd (suc (suc n)) ≡ odd n
odd-two n = let e : suc (suc n) % 2 ≡ n % 2 = omega arith in ap (λ k. eqb k 1) e

-- Rising bounds, if they pair, are those of gaps in order.
pub paired : (size low : ℕ) (l : List ℕ) → odd (length l) ≡ false → Rising low (suc size) l → (gaps : List Gap) × ((gap_number_list gaps ≡ l) × Ordered size low gaps)
unfolding Rising Ordered pair_numbers
paired size low [] e r = ([], (refl, tt))
paired size low (a ∷ []) e r = absurd (true≢false e)
paired size low (a ∷ b ∷ l) e r =
    let p = paired size (suc b) l (sym (odd-two (length l)) ∙ e) r.1.1 in
    let h = rising-range (suc b) (suc size) l r.1.1 in
    (gap a b ∷ p.0, (ap (λ m. a ∷ b ∷ m) p.1.0, (r.0, r.1.0, omega arith, p.1.1)))
