-- Laws of parts that are put one after the other.
use Prim.Native.Nat.{ℕ, ◌+◌, ◌-◌}
use mathlib.Core.Path.{◌≡◌, refl, sym, ap, ◌∙◌, subst}
use mathlib.Core.List.{List, ◌++◌}
use native.Mathlib.Omega.{arith}
use borrow.Rule.Slice.PartMut.{mid_of, put_mid}
use lib.ListN.{length, length-append}
use Rattle.format.specs.Layout.{encode_string}
use Rattle.format.specs.Writing.{overwritten}
use Rattle.output.proofs.Laws.{after}
use Rattle.write_items.specs.Puts.{Puts}
use Rattle.write_items.proofs.Pieces.{length-string}

module _ {old new : List ℕ} where
  pub puts : (bytes : List ℕ) (n : ℕ) → length bytes ≡ n → new ≡ overwritten bytes old → Puts bytes n old new n
  puts bytes n l e = record { written = refl; sized = l; output = e }

  -- What a callee says in two clauses.
  pub as-puts : (bytes : List ℕ) {n r : ℕ} → r ≡ n → length bytes ≡ n → new ≡ overwritten bytes old → Puts bytes n old new r
  as-puts bytes w l e = record { written = w; sized = l; output = e }

  pub regrouped : {bytes other : List ℕ} {n m r : ℕ} → bytes ≡ other → n ≡ m → Puts bytes n old new r → Puts other m old new r
  regrouped {n = n} e f h = record {
    written = h.written ∙ f;
    sized = subst (λ l. length l ≡ n) e h.sized ∙ f;
    output = subst (λ l. new ≡ overwritten l old) e h.output;
  }

-- What is lent after the first part holds the second.
pub then : {p b old e new : List ℕ} {m n k j : ℕ} → Puts p m old e k → Puts b n (mid_of k (length e - k) e) new j →
    Puts (p ++ b) (m + n) old (put_mid k (length e - k) e new) (k + j)
then {p} {b} {old} {e} {new} {m} {n} {k} {j} h g = record {
  written = omega (arith, h.written, g.written);
  sized = length-append p b ∙ omega (arith, h.sized, g.sized);
  output = after p b old e new k (h.sized ∙ sym h.written) h.output g.output;
}

-- A text, which the writer of strings is lent as bytes.
pub string-puts : {t text old new : List ℕ} {len r : ℕ} → text ≡ t → length t ≡ len → r ≡ 2 + length text → new ≡ overwritten (encode_string text) old →
    Puts (encode_string t) (2 + len) old new r
string-puts {t} {text} {old} {new} {len} {r} e l w o = record {
  written = omega (arith, ap length e);
  sized = length-string t ∙ omega arith;
  output = subst (λ t. new ≡ overwritten (encode_string t) old) e o;
}
