-- An item whose bytes break a rule can have other bytes that do not: the bytes of a lawful value. Then the fault is another, or lies
-- further on, so an offset before or after the item would be wrong. The law of each way to make a decoder, with that of Locality.
use mathlib.Core.Path.{◌≡◌, refl, sym, ap, ◌∙◌, subst}
use mathlib.Core.Bool.{Bool, true, false}
use mathlib.Core.List.{List, [], ◌∷◌, ◌++◌, append_assoc}
use Prim.Native.Nat.{ℕ, zero, suc, ◌+◌, ◌-◌, ◌^◌, ◌≤◌, ◌<◌}
use native.Mathlib.Omega.{arith}
use lib.ListN.{get_or, length, take, drop, set, length-append}
use lib.Seq.{drop_at, get_or-set_other, length-sets, length-take-le, sets, sets-eq}
use lib.Dec.{leb}
use Rattle.format.specs.Tables.{pick}
use Rattle.format.specs.Layout.{little_endian}
use Rattle.format.specs.Rules.{Bytes}
use Rattle.format.specs.Decoding.{Check, Decoder, Fault, Outcome, Rule, ◌>>=◌, and_then, bytes_at, checked_before, checked_whole, decode_many, decode_number, decode_run, decode_tail, fault, from_little_endian, got, passes, pure, refuse, refused, remaining, settled, short, violates}
use Rattle.format.specs.Reasons.{Whole, item_rule}
use Rattle.format.proofs.Codec.{Codec, anywhere, bytes-append, bytes-little_endian, codec-number, codec-pair, codec-run, length-little_endian}
use Rattle.format.proofs.Differ.{differ}
use Rattle.format.proofs.Locality.{Inside, Local, Returns, Within, begins, local-checked_before, local-checked_whole, local-pure, local-refuse, local-remaining, local-run, local-tail, local-then, returned, within-pure, within-run, within-then}

-- Another outcome than the fault: another fault, or a value that ends after the offset of the fault.
abbrev pub Other : {A : Type 0} → Fault → Outcome A → Type 0
Other f (refused g) = g ≡ f → ⊥
Other f (got a next) = f.at < next

-- Bytes for the item of a fault, and what the decoder finds with them.
pub record Cure {A : Type 0} (r : Decoder A) (s : List ℕ) (at : ℕ) (f : Fault) : Type 0 where
  pub item : List ℕ
  pub are_bytes : Bytes item
  pub as_many : length item ≡ f.size
  pub there : Whole s f
  pub other : Other f (r (sets s f.at item) at)

abbrev pub Exact : {A : Type 0} → (ranges : Bool) → Decoder A → Type 0
Exact ranges r = (s : List ℕ) (at : ℕ) → at ≤ length s → (f : Fault) → r s at ≡ refused f → item_rule ranges f.rule ≡ true → Cure r s at f

-- Both laws of a decoder.
pub record Law {A : Type 0} (ranges : Bool) (r : Decoder A) : Type 0 where
  pub local : Local r
  pub exact : Exact ranges r

on-off : {P : Type 0} (ranges : Bool) (rule other : Rule) → rule ≡ other → item_rule ranges rule ≡ true → item_rule ranges other ≡ false → P
on-off ranges rule other e on off = let q : true ≡ false = sym on ∙ ap (item_rule ranges) e ∙ off in differ cc

same-fault : {A : Type 0} {f g : Fault} → ◌≡◌ {A = Outcome A} (refused f) (refused g) → f ≡ g
same-fault e = cc

-- What is stored leaves the bytes before and after it.
pub sets-before : (s item : List ℕ) (at i : ℕ) → i < at → get_or (sets s at item) i 0 ≡ get_or s i 0
sets-before s [] at i h = refl
sets-before s (b ∷ item) at i h = sets-before (set s at b) item (suc at) i (omega arith) ∙ get_or-set_other s at i b 0 (λ e. omega arith)

pub sets-after : (s item : List ℕ) (at i : ℕ) → at + length item ≤ i → get_or (sets s at item) i 0 ≡ get_or s i 0
sets-after s [] at i h = refl
sets-after s (b ∷ item) at i h = sets-after (set s at b) item (suc at) i (omega arith) ∙ get_or-set_other s at i b 0 (λ e. omega arith)

-- Decoders that break no rule on bytes: they are too short, or a query is too deep.

pub record Quiet {A : Type 0} (ranges : Bool) (r : Decoder A) : Type 0 where
  pub off : (s : List ℕ) (at : ℕ) (f : Fault) → r s at ≡ refused f → item_rule ranges f.rule ≡ false

pub law-quiet : {ranges : Bool} {A : Type 0} {r : Decoder A} → Local r → Quiet ranges r → Law ranges r
law-quiet {ranges} L q = record { local = L; exact = λ s at i f e on. on-off ranges f.rule f.rule refl on (q.off s at f e) }

quiet-run : {ranges : Bool} (k : ℕ) → Quiet ranges (decode_run k)
unfolding decode_run
quiet-run {ranges} k = record { off = λ s at f e. go s at f (leb (at + k) (length s)) e }
  where
    go : (s : List ℕ) (at : ℕ) (f : Fault) (b : Bool) → pick b (got (bytes_at s at k) (at + k)) (refused (fault short at k)) ≡ refused f → item_rule ranges f.rule ≡ false
    go s at f true q = differ cc
    go s at f false q = let p : fault short at k ≡ f = same-fault q in rw (← p) refl

quiet_then : {ranges : Bool} {A B : Type 0} {r : Decoder A} {g : A → Decoder B} → Quiet ranges r → ((a : A) → Quiet ranges (g a)) → Quiet ranges (r >>= g)
quiet_then {ranges} {A} {B} {r} {g} Q M = record { off = λ s at f. go s at f (r s at) refl }
  where
    go : (s : List ℕ) (at : ℕ) (f : Fault) (o : Outcome A) → r s at ≡ o → and_then s o g ≡ refused f → item_rule ranges f.rule ≡ false
    go s at f (refused e) q p = Q.off s at f (q ∙ ap refused (same-fault p))
    go s at f (got a mid) q p = (M a).off s mid f p

quiet-pure : {ranges : Bool} {A : Type 0} (a : A) → Quiet ranges (pure a)
quiet-pure a = record { off = λ s at f e. differ cc }

pub law-run : {ranges : Bool} (k : ℕ) → Law ranges (decode_run k)
law-run k = law-quiet (local-run k) (quiet-run k)

pub law-pure : {ranges : Bool} {A : Type 0} (a : A) → Law ranges (pure a)
law-pure a = law-quiet (local-pure a) (quiet-pure a)

pub law-remaining : {ranges : Bool} → Law ranges remaining
law-remaining = law-quiet local-remaining (record { off = λ s at f e. differ cc })

pub law-tail : {ranges : Bool} → Law ranges decode_tail
unfolding decode_tail
law-tail = law-quiet local-tail (record { off = λ s at f e. differ cc })

pub law-refuse : {ranges : Bool} {A : Type 0} (rule : Rule) → item_rule ranges rule ≡ false → Law ranges (refuse {A = A} rule)
law-refuse rule off = law-quiet (local-refuse rule) (record { off = λ s at f e. let p : fault rule at 0 ≡ f = same-fault e in rw (← p) off })

-- One decoder after another

pub law-then : {ranges : Bool} {A B : Type 0} {r : Decoder A} {g : A → Decoder B} → Law ranges r → ((a : A) → Returns r a → Law ranges (g a)) → Law ranges (r >>= g)
law-then {ranges} {A} {B} {r} {g} L M = record { local = local-then L.local (λ a e. (M a e).local); exact = λ s at i f. found s at i f (r s at) refl }
  where
    -- after the item, a fault lies further on
    later : (f : Fault) (mid : ℕ) → f.at < mid → (o : Outcome B) → mid ≤ begins o → Other f o
    later f mid h (refused e) w = λ p. let q : e.at ≡ f.at = ap (λ f. f.at) p in omega arith
    later f mid h (got b next) w = omega arith

    onward : (f : Fault) (t : List ℕ) (at : ℕ) (o : Outcome A) → r t at ≡ o → Inside t o → Other f o → Other f (and_then t o g)
    onward f t at (refused e) q i n = n
    onward f t at (got a mid) q i n = later f mid n (g a t mid) ((M a (returned r t at q)).local t t refl mid i).forward

    found : (s : List ℕ) (at : ℕ) → at ≤ length s → (f : Fault) (o : Outcome A) → r s at ≡ o → and_then s o g ≡ refused f → item_rule ranges f.rule ≡ true → Cure (r >>= g) s at f
    found s at i f (refused e) q p on =
        let c = L.exact s at i f (q ∙ ap refused (same-fault p)) on in
        let t = sets s f.at c.item in
        let there : at ≤ length t = rw (length-sets s f.at c.item) i in
        record {
          item = c.item;
          are_bytes = c.are_bytes;
          as_many = c.as_many;
          there = c.there;
          other = onward f t at (r t at) refl (L.local t t refl at there).inside c.other;
        }
    found s at i f (got a mid) q p on =
        let inside : mid ≤ length s = rw q at (L.local s s refl at i).inside in
        let c = (M a (returned r s at q)).exact s mid inside f p on in
        let t = sets s f.at c.item in
        let further : mid ≤ f.at = rw p at ((M a (returned r s at q)).local s s refl mid inside).forward in
        let agrees = rw q at (L.local s t (length-sets s f.at c.item) at i) in
        let first : r t at ≡ got a mid = agrees.same (λ j h w. sym (sets-before s c.item f.at j (omega arith))) in
        record { item = c.item; are_bytes = c.are_bytes; as_many = c.as_many; there = c.there; other = rw first c.other }

pub law-pick : {ranges : Bool} {A : Type 0} (b : Bool) {r q : Decoder A} → Law ranges r → Law ranges q → Law ranges (pick b r q)
law-pick true L M = L
law-pick false L M = M

pub law-many : {ranges : Bool} {A : Type 0} (n : ℕ) {r : Decoder A} → Law ranges r → Law ranges (decode_many n r)
law-many zero L = law-pure []
law-many (suc n) L = law-then L (λ a _. law-then (law-many n L) (λ l _. law-pure (a ∷ l)))

-- Items that are checked

-- An item of k bytes, before it is checked.
pub record Plain {A : Type 0} (ranges : Bool) (k : ℕ) (r : Decoder A) (encode : A → List ℕ) (Valid : A → Type 0) : Type 0 where
  pub local : Local r
  pub within : Within k r
  pub quiet : Quiet ranges r
  pub codec : Codec anywhere r encode Valid
  pub are_bytes : (a : A) → Valid a → Bytes (encode a)
  pub as_many : (a : A) → Valid a → length (encode a) ≡ k

pub plain-run : {ranges : Bool} (k : ℕ) → Plain ranges k (decode_run k) (λ l. l) (λ l. (length l ≡ k) × Bytes l)
plain-run k = record {
  local = local-run k;
  within = within-run k;
  quiet = quiet-run k;
  codec = codec-run k;
  are_bytes = λ l h. h.1;
  as_many = λ l h. h.0;
}

-- A number of k bytes.
pub plain-number : {ranges : Bool} (k : ℕ) → Plain ranges (k + 0) (decode_number k) (little_endian k) (λ n. n < 256 ^ k)
plain-number k = record {
  local = local-then (local-run k) (λ l _. local-pure (from_little_endian l));
  within = within-then k 0 (within-run k) (λ l. within-pure (from_little_endian l));
  quiet = quiet_then (quiet-run k) (λ l. quiet-pure (from_little_endian l));
  codec = codec-number k;
  are_bytes = λ n _. bytes-little_endian k n;
  as_many = λ n _. omega (arith, length-little_endian k n);
}

pub plain-both : {ranges : Bool} {A B : Type 0} (j k : ℕ) {r : Decoder A} {q : Decoder B} {encode : A → List ℕ} {Valid : A → Type 0}
    {encode' : B → List ℕ} {Valid' : B → Type 0} → Plain ranges j r encode Valid → Plain ranges k q encode' Valid' →
    Plain {A = A × B} ranges (j + (k + 0)) (r >>= (λ a. q >>= (λ b. pure (a, b)))) (λ c. encode c.0 ++ encode' c.1) (λ c. Valid c.0 × Valid' c.1)
plain-both j k {encode = encode} {encode' = encode'} P Q = record {
  local = local-then P.local (λ a _. local-then Q.local (λ b _. local-pure (a, b)));
  within = within-then j (k + 0) P.within (λ a. within-then k 0 Q.within (λ b. within-pure (a, b)));
  quiet = quiet_then P.quiet (λ a. quiet_then Q.quiet (λ b. quiet-pure (a, b)));
  codec = codec-pair P.codec Q.codec;
  are_bytes = λ c h. bytes-append (encode c.0) (encode' c.1) (P.are_bytes c.0 h.0) (Q.are_bytes c.1 h.1);
  as_many = λ c h. omega (arith, length-append (encode c.0) (encode' c.1), P.as_many c.0 h.0, Q.as_many c.1 h.1);
}

-- A lawful value, whose bytes break no rule on bytes; and an item with no bytes breaks none.
pub record Lawful {A B : Type 0} (ranges : Bool) (k : ℕ) (Valid : A → Type 0) (check : ℕ → A → Check B) : Type 0 where
  pub value : A
  pub valid : Valid value
  pub passed : (after : ℕ) (rule : Rule) → check after value ≡ violates rule → item_rule ranges rule ≡ false
  pub some : (after : ℕ) (a : A) (rule : Rule) → check after a ≡ violates rule → 1 ≤ k

pub law-checked_before : {ranges : Bool} {A B : Type 0} {r : Decoder A} {encode : A → List ℕ} {Valid : A → Type 0} (k : ℕ) (check : ℕ → A → Check B) →
    Plain ranges k r encode Valid → Lawful ranges k Valid check → Law ranges (checked_before k check r)
law-checked_before {ranges} {A} {B} {r} {encode} {Valid} k check P W = record {
  local = local-checked_before k check P.within P.local;
  exact = λ s at i f. found s at i f (r s at) refl;
}
  where
    judge : ℕ → A → Decoder B
    judge at a s next = settled at k (check (length s - next) a) next

    other : (f : Fault) (at : ℕ) (v : Check B) → at ≡ f.at → 1 ≤ k → item_rule ranges f.rule ≡ true → ((rule : Rule) → v ≡ violates rule → item_rule ranges rule ≡ false) →
        Other f (settled at k v (at + k))
    other f at (passes b) e h on off = omega arith
    other f at (violates rule) e h on off = λ p. on-off ranges f.rule rule (sym (ap (λ f. f.rule) p)) on (off rule refl)

    judged : (s : List ℕ) (at : ℕ) → at ≤ length s → (f : Fault) (a : A) (next : ℕ) → r s at ≡ got a next → (v : Check B) → check (length s - next) a ≡ v →
        settled at k v next ≡ refused f → item_rule ranges f.rule ≡ true → Cure (checked_before k check r) s at f
    judged s at i f a next q (passes b) c p on = differ cc
    judged s at i f a next q (violates rule) c p on =
        let fit : fault rule at k ≡ f = same-fault p in
        let start : at ≡ f.at = ap (λ f. f.at) fit in
        let size : k ≡ f.size = ap (λ f. f.size) fit in
        let whole : next ≤ length s = rw q at (P.local s s refl at i).inside in
        let ends : next ≡ at + k = P.within s at a next q in
        let item = encode W.value in
        let many : length item ≡ k = P.as_many W.value W.valid in
        let t = sets s at item in
        let room : at + length item ≤ length s = omega arith in
        let rest = drop (at + length item) s in
        let here : drop at t ≡ item ++ rest =
        ap (drop at) (sets-eq item s at room ∙ append_assoc (take at s) item rest) ∙ drop_at (take at s) (item ++ rest) at (length-take-le at s i) in
        let reads : r t at ≡ got W.value (at + k) =
        P.codec.complete t at W.value rest W.valid here (rw (length-sets s at item) i) tt ∙ ap (λ n. got W.value (at + n)) many in
        record {
          item = item;
          are_bytes = P.are_bytes W.value W.valid;
          as_many = many ∙ size;
          there = omega arith;
          other = subst (λ n. Other f (checked_before k check r (sets s n item) at)) start
              (rw reads (other f at (check (length t - (at + k)) W.value) start (W.some _ a rule c) on (λ rule e. W.passed _ rule e)));
        }

    found : (s : List ℕ) (at : ℕ) → at ≤ length s → (f : Fault) (o : Outcome A) → r s at ≡ o → and_then s o (judge at) ≡ refused f → item_rule ranges f.rule ≡ true →
        Cure (checked_before k check r) s at f
    found s at i f (refused e) q p on = on-off ranges f.rule f.rule refl on (P.quiet.off s at f (q ∙ ap refused (same-fault p)))
    found s at i f (got a next) q p on = judged s at i f a next q (check (length s - next) a) refl p on

-- The check of all that was decoded breaks no rule on bytes.
pub law-checked_whole : {ranges : Bool} {A B : Type 0} {r : Decoder A} (check : A → Check B) → ((a : A) (rule : Rule) → check a ≡ violates rule → item_rule ranges rule ≡ false) →
    Law ranges r → Law ranges (checked_whole check r)
law-checked_whole {ranges} {A} {B} {r} check off L = record {
  local = local-checked_whole check L.local;
  exact = λ s at i f. found s at i f (r s at) refl;
}
  where
    judge : ℕ → A → Decoder B
    judge at a s next = settled at (next - at) (check a) next

    judged : (f : Fault) (at next : ℕ) (a : A) (v : Check B) → check a ≡ v → f.at < next → item_rule ranges f.rule ≡ true → Other f (settled at (next - at) v next)
    judged f at next a (passes b) c h on = h
    judged f at next a (violates rule) c h on = λ p. on-off ranges f.rule rule (sym (ap (λ f. f.rule) p)) on (off a rule c)

    onward : (f : Fault) (t : List ℕ) (at : ℕ) (o : Outcome A) → Other f o → item_rule ranges f.rule ≡ true → Other f (and_then t o (judge at))
    onward f t at (refused e) n on = n
    onward f t at (got a next) n on = judged f at next a (check a) refl n on

    never : (f : Fault) (at next : ℕ) (a : A) (v : Check B) → check a ≡ v → settled at (next - at) v next ≡ refused f → item_rule ranges f.rule ≡ false
    never f at next a (passes b) c p = differ cc
    never f at next a (violates rule) c p = let fit : fault rule at (next - at) ≡ f = same-fault p in rw (← fit) (off a rule c)

    found : (s : List ℕ) (at : ℕ) → at ≤ length s → (f : Fault) (o : Outcome A) → r s at ≡ o → and_then s o (judge at) ≡ refused f → item_rule ranges f.rule ≡ true →
        Cure (checked_whole check r) s at f
    found s at i f (refused e) q p on =
        let c = L.exact s at i f (q ∙ ap refused (same-fault p)) on in
        let t = sets s f.at c.item in
        record { item = c.item; are_bytes = c.are_bytes; as_many = c.as_many; there = c.there; other = onward f t at (r t at) c.other on }
    found s at i f (got a next) q p on = on-off ranges f.rule f.rule refl on (never f at next a (check a) refl p)
