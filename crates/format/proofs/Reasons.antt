-- The statements of specs/Reasons, from the laws of DecoderLaws, by the three ways to refuse bytes: for their number, by an item, for bytes that
-- are left.
use mathlib.Core.Path.{◌≡◌, refl, sym, ap, ◌∙◌, subst}
use mathlib.Core.Bool.{Bool, true, false}
use mathlib.Core.Option.{Option, none, some}
use mathlib.Core.Logic.{◌⊎◌, ◌↔◌, inl}
use mathlib.Core.List.{List, ◌++◌}
use Prim.Native.Nat.{ℕ, ◌+◌, ◌≤◌, ◌<◌}
use native.Mathlib.Omega.{arith}
use lib.ListN.{drop, length, take}
use lib.Seq.{length-sets, sets, sets-eq}
use lib.Dec.{leb, eqb}
use borrow.Author.Tests.{leb-true, leb-false, le-leb, lt-leb, eqb-false, ne_eqb}
use Rattle.format.specs.Tables.{pick}
use Rattle.format.specs.Messages.{Kind, Message}
use Rattle.format.specs.Rules.{Bytes, ceiling}
use Rattle.format.specs.Decoding.{Answer, Decoder, Fault, Outcome, Rule, accepted, bytes_ceiling, decode_whole, fault, finish, got, refusal, refused, reply, rest}
use Rattle.format.specs.MetOrder.{decode, decoder}
use Rattle.format.specs.Demands.{Accepted}
use Rattle.format.specs.Reasons.{Because, CeilingReason, Cut, EqualUpTo, Explained, Explains, NoneIfAccepted, NumberOfReader, Otherwise, Reasons, TrueReasons, Whole, fault_of, item_rule, range_items, reason_number, reason_of, reply_number}
use Rattle.format.proofs.Differ.{differ}
use Rattle.format.proofs.Codec.{bytes-append, bytes_drop, bytes-part}
use Rattle.format.proofs.Locality.{decides, decides-cut, decides-less, decides-whole, fewer}
use Rattle.format.proofs.Exactness.{Law, Other, sets-after, sets-before}
use Rattle.format.proofs.DecoderLaws.{law}

-- The three ways to refuse bytes

data Refused {A : Type 0} (ceiling : ℕ) (r : Decoder A) (s : List ℕ) (f : Fault) : Type 0 where
  too_many : ceiling < length s → f ≡ fault bytes_ceiling 0 (length s) → Refused ceiling r s f
  by_item : length s ≤ ceiling → r s 0 ≡ refused f → Refused ceiling r s f
  bytes_left : length s ≤ ceiling → (a : A) (at : ℕ) → r s 0 ≡ got a at → (at ≡ length s → ⊥) → f ≡ fault rest at 1 → Refused ceiling r s f

module _ {A : Type 0} (ceiling : ℕ) (r : Decoder A) (s : List ℕ) {f : Fault} where
  refused-how : fault_of (decode_whole ceiling r s) ≡ some f → Refused ceiling r s f
  refused-how = go (leb (length s) ceiling) refl
    where
      last : length s ≤ ceiling → (a : A) (at : ℕ) → r s 0 ≡ got a at → (b : Bool) → eqb at (length s) ≡ b →
          fault_of (pick b (accepted a) (refusal (fault rest at 1))) ≡ some f → Refused ceiling r s f
      last h a at q true p e = differ cc
      last h a at q false p e = bytes_left h a at q (eqb-false at (length s) p) (let w : fault rest at 1 ≡ f = cc in sym w)

      read : length s ≤ ceiling → (o : Outcome A) → r s 0 ≡ o → fault_of (finish s o) ≡ some f → Refused ceiling r s f
      read h (refused g) q e = by_item h (let w : g ≡ f = cc in q ∙ ap refused w)
      read h (got a at) q e = last h a at q (eqb at (length s)) refl e

      go : (b : Bool) → leb (length s) ceiling ≡ b → fault_of (pick b (finish s (r s 0)) (refusal (fault bytes_ceiling 0 (length s)))) ≡ some f → Refused ceiling r s f
      go true p e = read (leb-true (length s) ceiling p) (r s 0) refl e
      go false p e = too_many (leb-false (length s) ceiling p) (let w : fault bytes_ceiling 0 (length s) ≡ f = cc in sym w)

  refused-so : Refused ceiling r s f → fault_of (decode_whole ceiling r s) ≡ some f
  refused-so (too_many h e) = rw (lt-leb (length s) ceiling h) (ap some (sym e))
  refused-so (by_item h e) = rw (le-leb (length s) ceiling h, e) refl
  refused-so (bytes_left h a at e n d) = rw (le-leb (length s) ceiling h, e, ne_eqb at (length s) n) (ap some (sym d))

module _ {ranges : Bool} {A : Type 0} (ceiling : ℕ) {r : Decoder A} (L : Law ranges r) (s : List ℕ) where
  left-whole : {a : A} {at : ℕ} → r s 0 ≡ got a at → (at ≡ length s → ⊥) → Whole s (fault rest at 1)
  left-whole e n = omega (arith, rw e at (L.local s s refl 0 (omega arith)).inside)

  item-there : {f : Fault} → Refused ceiling r s f → (f.at ≤ length s) × (Whole s f ⊎ Cut s f)
  item-there (too_many h e) = subst (λ f. (f.at ≤ length s) × (Whole s f ⊎ Cut s f)) (sym e) (omega arith, inl (omega arith))
  item-there (by_item h e) = rw e at (L.local s s refl 0 (omega arith)).inside
  item-there (bytes_left h a at e n d) =
      let whole = left-whole e n in
      subst (λ f. (f.at ≤ length s) × (Whole s f ⊎ Cut s f)) (sym d) (omega arith, inl whole)

  -- the bytes that decide, and their number, decide
  decided : (t : List ℕ) → length t ≡ length s → {f : Fault} → EqualUpTo (decides s f) s t → Refused ceiling r s f → Refused ceiling r t f
  decided t l q (too_many h e) = too_many (rw l h) (e ∙ ap (fault bytes_ceiling 0) (sym l))
  decided t l q (by_item h e) = by_item (rw l h) ((rw e at (L.local s t l 0 (omega arith))).same q)
  decided t l q (bytes_left h a at e n d) =
      let ends : decides s (fault rest at 1) ≡ at + 1 = decides-whole s (fault rest at 1) (left-whole e n) in
      let agrees = rw e at (L.local s t l 0 (omega arith)) in
      bytes_left (rw l h) a at (agrees.same (fewer s t (omega arith) (rw d at q))) (rw l n) d

-- Bytes with those of another item stored among them.
bytes-sets : (s item : List ℕ) (at : ℕ) → Bytes s → Bytes item → at + length item ≤ length s → Bytes (sets s at item)
bytes-sets s item at hs hi room =
    rw (sets-eq item s at room) (bytes-append (take at s ++ item) (drop (at + length item) s) (bytes-append (take at s) item (bytes-part s hs 0 at) hi) (bytes_drop (at + length item) s hs))

-- The statements

none-if-accepted : NoneIfAccepted
unfolding reason_of
none-if-accepted k s = go (decode k s) refl
  where
    go : (a : Answer (Message k)) → decode k s ≡ a → (fault_of a ≡ none) ↔ Accepted k s
    go (refusal f) e = (λ p. differ cc, λ m. let q : refusal f ≡ accepted m.0 = sym e ∙ m.1 in differ cc)
    go (accepted m) e = (λ p. (m, e), λ m. refl)

number-of-reader : NumberOfReader
unfolding reason_of
number-of-reader k s = go (decode k s)
  where
    go : (a : Answer (Message k)) → reason_number (fault_of a) ≡ reply_number (reply a)
    go (refusal f) = refl
    go (accepted m) = refl

ceiling-reason : CeilingReason
unfolding reason_of decode
ceiling-reason k s h = refused-so (ceiling k) (decoder k) s (too_many h refl)

same-reason : (k : Kind) (s : List ℕ) (f : Fault) → reason_of k s ≡ some f → (t : List ℕ) → length t ≡ length s → EqualUpTo (decides s f) s t → reason_of k t ≡ some f
unfolding reason_of decode
same-reason k s f e t l q = refused-so (ceiling k) (decoder k) t (decided (ceiling k) (law k) s t l q (refused-how (ceiling k) (decoder k) s e))

exactly : (k : Kind) (s : List ℕ) (f : Fault) → reason_of k s ≡ some f → Bytes s → item_rule (range_items k) f.rule ≡ true → Otherwise k s f
unfolding reason_of decode
exactly k s f e hb on = go (refused-how (ceiling k) (decoder k) s e)
  where
    off : {P : Type 0} (rule : Rule) → f.rule ≡ rule → item_rule (range_items k) rule ≡ false → P
    off rule p q = let w : true ≡ false = sym on ∙ ap (item_rule (range_items k)) p ∙ q in differ cc

    other : (t : List ℕ) → Other f (decoder k t 0) → Refused (ceiling k) (decoder k) t f → ⊥
    other t o (too_many h p) = off bytes_ceiling (ap (λ f. f.rule) p) refl
    other t o (by_item h p) = (rw p at o) refl
    other t o (bytes_left h a at p n d) = off rest (ap (λ f. f.rule) d) refl

    go : Refused (ceiling k) (decoder k) s f → Otherwise k s f
    go (too_many h p) = off bytes_ceiling (ap (λ f. f.rule) p) refl
    go (bytes_left h a at p n d) = off rest (ap (λ f. f.rule) d) refl
    go (by_item h p) =
        let c = (law k).exact s 0 (omega arith) f p on in
        let t = sets s f.at c.item in
        let size : length c.item ≡ f.size = c.as_many in
        record {
          bytes = t;
          are_bytes = bytes-sets s c.item f.at hb c.are_bytes (omega (arith, c.there));
          as_many = length-sets s f.at c.item;
          before = λ i b. sets-before s c.item f.at i b;
          after = λ i b. sets-after s c.item f.at i (omega arith);
          other = λ q. other t c.other (refused-how (ceiling k) (decoder k) t q);
        }

because : (k : Kind) (s : List ℕ) (f : Fault) → reason_of k s ≡ some f → Because k s f
unfolding reason_of decode
because k s f e = record {
  there = item-there (ceiling k) (law k) s (refused-how (ceiling k) (decoder k) s e);
  same = λ t l q. same-reason k s f e t l (fewer s t (decides-less s f) q);
  cut = λ c t l q. same-reason k s f e t l (rw (decides-cut s f c) q);
  exact = exactly k s f e;
}

true-reasons : TrueReasons
true-reasons k s = go (reason_of k s) refl
  where
    go : (o : Option Fault) → reason_of k s ≡ o → Explained k s o
    go none e = (none-if-accepted k s).0 e
    go (some f) e = because k s f e

pub explains : (k : Kind) (s : List ℕ) {o : Option Fault} → o ≡ reason_of k s → Explains k s o
explains k s e = record { given = e; number = ap reason_number e ∙ number-of-reader k s; explained = subst (Explained k s) (sym e) (true-reasons k s) }

pub reasons-hold : Reasons
reasons-hold = record {
  none_if_accepted = none-if-accepted;
  number_of_reader = number-of-reader;
  true_reasons = true-reasons;
  ceiling_reason = ceiling-reason;
}
