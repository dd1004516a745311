-- The check of a part.met's tags says exactly its rules.
use mathlib.Core.Path.{◌≡◌, refl, sym, ap, ap₂, ◌∙◌, subst}
use mathlib.Core.Bool.{Bool, true, false}
use mathlib.Core.Option.{some}
use mathlib.Core.Logic.{◌↔◌, ◌⊎◌, inl, inr}
use mathlib.Core.List.{List, [], ◌∷◌, ◌++◌, map, append-nil, reverse, reverse_aux, reverse-reverse}
use Prim.Native.Nat.{ℕ, ◌+◌, ◌<◌, ◌≤◌}
use native.Mathlib.Omega.{arith}
use lib.ListN.{length, length-map}
use lib.Dec.{leb, ltb, eqb}
use borrow.Author.Tests.{le-leb, leb-true, lt-leb, leb-false, lt-ltb, ltb-true, eqb-true, eqb-false, eq-eqb}
use Rattle.format.specs.Tables.{pick, same}
use Rattle.format.specs.Gaps.{Ordered}
use Rattle.format.specs.Messages.{Tag, TagType, TagValue, dword_type, float_type, hash_type, string_type}
use Rattle.format.specs.Rules.{All, Apart, Digits, Distinct, GapPair, NoGapTag, NoSizeTag, Paired, SizeIs, ValidGapTags, done, dword_tag, end_tag, gap_of, other, pair, size_tag, start_tag}
use Rattle.format.specs.Decoding.{Check, Rule, and_check, passes, violates}
use Rattle.format.specs.GapTags.{Role, end, ending, gap_ends, gap_starts, gaps_of, number_of, odd, plain, role, role_in, start, starting, zip_gaps}
use Rattle.format.specs.PartTagOrder.{Progress, after_full, between, spec_check_part_tags, check_start, decimal, next_start, numbered, scan, size_in, sizes, sole, step, used, within}
use Rattle.format.proofs.Differ.{differ}
use Rattle.format.proofs.Codec.{if-passes, unless-violates, if-violates}

-- Checks
pub violates-passes : {A : Type 0} {rule : Rule} {a : A} → violates rule ≡ passes a → ⊥
violates-passes e = differ cc

pub passes_same : {A : Type 0} {a b : A} → passes a ≡ passes b → a ≡ b
passes_same e = cc

pub record Passed {A B : Type 0} (v : Check A) (f : A → Check B) (b : B) : Type 0 where
  pub first : A
  pub was : v ≡ passes first
  pub then : f first ≡ passes b

pub and_check-passes : {A B : Type 0} (v : Check A) (f : A → Check B) {b : B} → and_check v f ≡ passes b → Passed v f b
and_check-passes (passes a) f e = record { first = a; was = refl; then = e }
and_check-passes (violates rule) f e = absurd (violates-passes e)

-- Tests on names
pub no_true : false ≡ true → ⊥
no_true e = differ cc

pub both_true : (a b : Bool) → pick a b false ≡ true → (a ≡ true) × (b ≡ true)
both_true true b e = (refl, e)
both_true false b e = absurd (no_true e)

pub same_true : (k l : List ℕ) → same k l ≡ true → k ≡ l
unfolding same
same_true [] [] e = refl
same_true [] (b ∷ l) e = absurd (no_true e)
same_true (a ∷ k) [] e = absurd (no_true e)
same_true (a ∷ k) (b ∷ l) e = let h = both_true (eqb a b) (same k l) e in ap₂ (λ x y. x ∷ y) (eqb-true a b h.0) (same_true k l h.1)

pub same_refl : (k : List ℕ) → same k k ≡ true
unfolding same
same_refl [] = refl
same_refl (a ∷ k) = rw (eq-eqb a a refl, same_refl k)

pub either-test : (t : Bool) {A : Type 0} → (t ≡ true → A) → (t ≡ false → A) → A
either-test true f g = f refl
either-test false f g = g refl

pub same_not : (k l : List ℕ) → (k ≡ l → ⊥) → same k l ≡ false
same_not k l h = either-test (same k l) (λ e. absurd (h (same_true k l e))) (λ e. e)

pub same-lengths : (k l : List ℕ) → (length k ≡ length l → ⊥) → same k l ≡ false
same-lengths k l h = same_not k l (λ e. h (ap length e))

decimal-means : (d : List ℕ) → (decimal d ≡ true) ↔ All (λ b. (0x30 ≤ b) × (b ≤ 0x39)) d
unfolding decimal
decimal-means [] = (λ _. tt, λ _. refl)
decimal-means (b ∷ d) = (
  λ e. let x = both_true (leb 0x30 b) (pick (leb b 0x39) (decimal d) false) e in
      let y = both_true (leb b 0x39) (decimal d) x.1 in
      ((leb-true 0x30 b x.0, leb-true b 0x39 y.0), (decimal-means d).0 y.1),
  λ h. rw (le-leb 0x30 b h.0.0, le-leb b 0x39 h.0.1, (decimal-means d).1 h.1),
)

numbered-means : (d : List ℕ) → (numbered d ≡ true) ↔ Digits d
unfolding numbered
numbered-means d = (
  λ e. let x = both_true (leb 1 (length d)) (pick (leb (length d) 10) (decimal d) false) e in
      let y = both_true (leb (length d) 10) (decimal d) x.1 in
      record { some = leb-true 1 (length d) x.0; few = leb-true (length d) 10 y.0; decimal = (decimal-means d).0 y.1 },
  λ h. rw (le-leb 1 (length d) h.some, le-leb (length d) 10 h.few, (decimal-means d).1 h.decimal),
)

not-true : (a b : Bool) → pick a true b ≡ false → (a ≡ false) × (b ≡ false)
not-true true b e = absurd (no_true (sym e))
not-true false b e = (refl, e)

used-means : (d : List ℕ) (ps : List GapPair) → (used d ps ≡ false) ↔ Apart d ps
unfolding used
used-means d [] = (λ _. tt, λ _. refl)
used-means d (p ∷ ps) = (
  λ e. let x = not-true (same d p.digits) (used d ps) e in
      ((λ q. no_true (sym x.0 ∙ ap (same d) (sym q) ∙ same_refl d)), (used-means d ps).0 x.1),
  λ h. rw (same_not d p.digits h.0, (used-means d ps).1 h.1),
)

-- The size tag
abbrev size_of : Tag → List ℕ
size_of t = size_in t.name (number_of t.value.0 t.value.1)

sizing : (name : List ℕ) (k : TagType) (v : TagValue k) → ((n : ℕ) × (◌≡◌ {A = Tag} (record { name = name; value = (k, v) }) (size_tag n))) ⊎ (size_in name (number_of k v) ≡ [])
sizing name hash_type v = inr refl
sizing name string_type v = inr refl
sizing name float_type v = inr refl
sizing name dword_type v = either-test (same name (0x02 ∷ [])) (λ e. inl (v, ap (λ l. dword_tag l v) (same_true name (0x02 ∷ []) e))) (λ e. inr (rw e))

sizes-size : (n : ℕ) (l : List Tag) → sizes (size_tag n ∷ l) ≡ n ∷ sizes l
unfolding sizes same
sizes-size n l = refl

not-size : (t : Tag) → size_of t ≡ [] → NoSizeTag t
unfolding same
not-size t e n q = let f : size_of t ≡ n ∷ [] = ap size_of q in differ cc

-- A tag is a size tag and its number the first of the sizes, or it is none and adds nothing.
view-size : (t : Tag) (l : List Tag) → ((n : ℕ) × ((t ≡ size_tag n) × (sizes (t ∷ l) ≡ n ∷ sizes l))) ⊎ (NoSizeTag t × (sizes (t ∷ l) ≡ sizes l))
unfolding sizes
view-size t l = go (sizing t.name t.value.0 t.value.1)
  where
    go : ((n : ℕ) × (t ≡ size_tag n)) ⊎ (size_of t ≡ []) → ((n : ℕ) × ((t ≡ size_tag n) × (size_of t ++ sizes l ≡ n ∷ sizes l))) ⊎ (NoSizeTag t × (size_of t ++ sizes l ≡ sizes l))
    go (inl e) = inl (e.0, (e.1, ap (λ t. sizes (t ∷ l)) e.1 ∙ sizes-size e.0 l))
    go (inr e) = inr (not-size t e, ap (λ k. k ++ sizes l) e)

none-sizes : (l : List Tag) → sizes l ≡ [] → All NoSizeTag l
none-sizes [] e = tt
none-sizes (t ∷ l) e = go (view-size t l) (none-sizes l)
  where
    go : ((n : ℕ) × ((t ≡ size_tag n) × (sizes (t ∷ l) ≡ n ∷ sizes l))) ⊎ (NoSizeTag t × (sizes (t ∷ l) ≡ sizes l)) → (sizes l ≡ [] → All NoSizeTag l) → All NoSizeTag (t ∷ l)
    go (inl h) later = let f = h.1.1 in differ cc
    go (inr h) later = (h.0, later (sym h.1 ∙ e))

sizes-none : (l : List Tag) → All NoSizeTag l → sizes l ≡ []
unfolding sizes
sizes-none [] h = refl
sizes-none (t ∷ l) h = go (view-size t l) (sizes-none l h.1)
  where
    go : ((n : ℕ) × ((t ≡ size_tag n) × (sizes (t ∷ l) ≡ n ∷ sizes l))) ⊎ (NoSizeTag t × (sizes (t ∷ l) ≡ sizes l)) → sizes l ≡ [] → sizes (t ∷ l) ≡ []
    go (inl k) later = absurd (h.0 k.0 k.1.0)
    go (inr k) later = k.1 ∙ later

pub sizes-means : (size : ℕ) (l : List Tag) → sizes l ≡ size ∷ [] → SizeIs size l
unfolding sizes
sizes-means size [] e = differ cc
sizes-means size (t ∷ l) e = go (view-size t l) (sizes-means size l)
  where
    go : ((n : ℕ) × ((t ≡ size_tag n) × (sizes (t ∷ l) ≡ n ∷ sizes l))) ⊎ (NoSizeTag t × (sizes (t ∷ l) ≡ sizes l)) → (sizes l ≡ size ∷ [] → SizeIs size l) → SizeIs size (t ∷ l)
    go (inl h) later =
        let f = h.1.1 in
        let n : h.0 ≡ size = cc in
        let r : sizes l ≡ [] = cc in
        record { before = []; after = l; here = ap (λ t. t ∷ l) (h.1.0 ∙ ap size_tag n); none_before = tt; none_after = none-sizes l r }
    go (inr h) later =
        let k = later (sym h.1 ∙ e) in
        record { before = t ∷ k.before; after = k.after; here = ap (λ l. t ∷ l) k.here; none_before = (h.0, k.none_before); none_after = k.none_after }

sizes-at : (size : ℕ) (before and_check : List Tag) → All NoSizeTag before → All NoSizeTag and_check → sizes (before ++ (size_tag size ∷ and_check)) ≡ size ∷ []
sizes-at size [] and_check h k = sizes-size size and_check ∙ ap (λ l. size ∷ l) (sizes-none and_check k)
sizes-at size (t ∷ before) and_check h k = go (view-size t (before ++ (size_tag size ∷ and_check))) (sizes-at size before and_check h.1 k)
  where
    go : ((n : ℕ) × ((t ≡ size_tag n) × (sizes (t ∷ (before ++ (size_tag size ∷ and_check))) ≡ n ∷ sizes (before ++ (size_tag size ∷ and_check))))) ⊎
        (NoSizeTag t × (sizes (t ∷ (before ++ (size_tag size ∷ and_check))) ≡ sizes (before ++ (size_tag size ∷ and_check)))) →
        sizes (before ++ (size_tag size ∷ and_check)) ≡ size ∷ [] → sizes (t ∷ (before ++ (size_tag size ∷ and_check))) ≡ size ∷ []
    go (inl e) later = absurd (h.0 e.0 e.1.0)
    go (inr e) later = e.1 ∙ later

pub size-sizes : (size : ℕ) (l : List Tag) → SizeIs size l → sizes l ≡ size ∷ []
size-sizes size l h = ap sizes h.here ∙ sizes-at size h.before h.after h.none_before h.none_after

-- What a tag is to the gaps
abbrev pub Means : Tag → Role → Type 0
Means t plain = NoGapTag t
Means t odd = NoGapTag t → ⊥
Means t (start d n) = t ≡ dword_tag (0x09 ∷ d) n
Means t (end d n) = t ≡ dword_tag (0x0A ∷ d) n

abbrev made : List ℕ → (k : TagType) → TagValue k → Tag
made name k v = record { name = name; value = (k, v) }

starting-means : (d : List ℕ) (k : TagType) (v : TagValue k) → Means (made (0x09 ∷ d) k v) (starting d (number_of k v))
starting-means d hash_type v = λ h. (h d).0 refl
starting-means d string_type v = λ h. (h d).0 refl
starting-means d dword_type v = refl
starting-means d float_type v = λ h. (h d).0 refl

ending-means : (d : List ℕ) (k : TagType) (v : TagValue k) → Means (made (0x0A ∷ d) k v) (ending d (number_of k v))
ending-means d hash_type v = λ h. (h d).1 refl
ending-means d string_type v = λ h. (h d).1 refl
ending-means d dword_type v = refl
ending-means d float_type v = λ h. (h d).1 refl

means-in : (name : List ℕ) (k : TagType) (v : TagValue k) → Means (made name k v) (role_in name (number_of k v))
means-in [] k v = λ rest. (λ e. differ cc, λ e. differ cc)
means-in (b ∷ d) k v = either-test (eqb b 0x09)
    (λ e. rw e (rw (eqb-true b 0x09 e) (starting-means d k v)))
    (λ e. rw e (either-test (eqb b 0x0A)
    (λ f. rw f (rw (eqb-true b 0x0A f) (ending-means d k v)))
    (λ f. rw f (λ rest. (λ q. eqb-false b 0x09 e (cc), λ q. eqb-false b 0x0A f (cc))))))

pub role-means : (t : Tag) → Means t (role t)
unfolding role
role-means t = means-in t.name t.value.0 t.value.1

role-plain : (t : Tag) → NoGapTag t → role t ≡ plain
role-plain t h = go (role t) (role-means t)
  where
    go : (r : Role) → Means t r → r ≡ plain
    go plain m = refl
    go odd m = absurd (m h)
    go (start d n) m = absurd ((h d).0 (ap (λ t. t.name) m))
    go (end d n) m = absurd ((h d).1 (ap (λ t. t.name) m))

-- What a step asks of the next pair.
pub record Next (size : ℕ) (ps : List GapPair) (p : GapPair) : Type 0 where
  pub few : length ps < 64
  pub number : Digits p.digits
  pub fresh : Apart p.digits ps
  pub low : next_start ps ≤ p.start
  pub some : p.start < p.end
  pub fits : p.end ≤ size

unfoldable pub Good : ℕ → List GapPair → List GapPair → Type 0
Good size ps [] = Unit {0}
Good size ps (p ∷ new) = Next size ps p × Good size (p ∷ ps) new

-- A front of whole lawful pairs, and what stands after them.
pub record Front (size : ℕ) (ps : List GapPair) (l : List Tag) (Q : List GapPair → List Tag → Type 0) : Type 0 where
  pub new : List GapPair
  pub front : List Tag
  pub rest : List Tag
  pub here : l ≡ front ++ rest
  pub paired : Paired front new
  pub good : Good size ps new
  pub then : Q (reverse_aux new ps) rest

pub record Half (size : ℕ) (ps : List GapPair) (d : List ℕ) (n : ℕ) (l : List Tag) (Q : List GapPair → List Tag → Type 0) : Type 0 where
  pub end : ℕ
  pub rest : List Tag
  pub here : l ≡ dword_tag (0x0A ∷ d) end ∷ rest
  pub some : n < end
  pub fits : end ≤ size
  pub later : Front size (record { digits = d; start = n; end = end } ∷ ps) rest Q

abbrev pub Left : ℕ → Progress → List Tag → (List GapPair → List Tag → Type 0) → Type 0
Left size (between ps) l Q = Front size ps l Q
Left size (within ps d n) l Q = Half size ps d n l Q

-- A step
pub opened : (size : ℕ) (ps : List GapPair) (d : List ℕ) (n : ℕ) (s : Progress) → step size (between ps) (start d n) ≡ passes s →
    (within ps d n ≡ s) × ((length ps < 64) × (Digits d × (Apart d ps × (next_start ps ≤ n))))
unfolding step
opened size ps d n s e =
    let a = unless-violates Rule.gap_ceiling (check_start ps d n) (leb 64 (length ps)) e in
    let b = if-violates Rule.order _ (numbered d) a.1 in
    let c = unless-violates Rule.order _ (used d ps) b.1 in
    let f = if-passes Rule.order (within ps d n) (leb (next_start ps) n) c.1 in
    (f.1, (leb-false 64 (length ps) a.0, ((numbered-means d).0 b.0, ((used-means d ps).0 c.0, leb-true (next_start ps) n f.0))))

pub closed : (size : ℕ) (ps : List GapPair) (d : List ℕ) (n : ℕ) (c : List ℕ) (m : ℕ) (s : Progress) → step size (within ps d n) (end c m) ≡ passes s →
    (between (record { digits = d; start = n; end = m } ∷ ps) ≡ s) × ((d ≡ c) × ((n < m) × (m ≤ size)))
unfolding step
closed size ps d n c m s e =
    let a = if-violates Rule.order _ (same d c) e in
    let b = if-violates Rule.order _ (ltb n m) a.1 in
    let f = if-passes Rule.order (between (record { digits = d; start = n; end = m } ∷ ps)) (leb m size) b.1 in
    (f.1, (same_true d c a.0, (ltb-true n m b.0, leb-true m size f.0)))

full : (ps : List GapPair) {s : Progress} → after_full ps (violates Rule.order) ≡ passes s → ⊥
full ps e = violates-passes (unless-violates Rule.gap_ceiling (violates Rule.order) (leb 64 (length ps)) e).1

-- One step back: what holds of the rest after a step that passes holds of all.
module _ (size : ℕ) (Q : List GapPair → List Tag → Type 0) (t : Tag) (l : List Tag) where
  pub back-between : (ps : List GapPair) (r : Role) → Means t r → (s : Progress) → step size (between ps) r ≡ passes s → Left size s l Q → Front size ps (t ∷ l) Q
  unfolding step Good
  back-between ps plain m s e h =
      let k : Front size ps l Q = subst (λ s. Left size s l Q) (sym (passes_same e)) h in
      record { new = k.new; front = t ∷ k.front; rest = k.rest; here = ap (λ l. t ∷ l) k.here; paired = other m k.paired; good = k.good; then = k.then }
  back-between ps odd m s e h = absurd (full ps e)
  back-between ps (end d n) m s e h = absurd (full ps e)
  back-between ps (start d n) m s e h =
      let o = opened size ps d n s e in
      let k : Half size ps d n l Q = subst (λ s. Left size s l Q) (sym o.0) h in
      let p : GapPair = record { digits = d; start = n; end = k.end } in
      let f = k.later in
      record {
        new = p ∷ f.new;
        front = start_tag p ∷ end_tag p ∷ f.front;
        rest = f.rest;
        here = ap₂ (λ t l. t ∷ l) m (k.here ∙ ap (λ l. end_tag p ∷ l) f.here);
        paired = pair p f.paired;
        good = (record { few = o.1.0; number = o.1.1.0; fresh = o.1.1.1.0; low = o.1.1.1.1; some = k.some; fits = k.fits }, f.good);
        then = f.then;
      }

  pub back-within : (ps : List GapPair) (d : List ℕ) (n : ℕ) (r : Role) → Means t r → (s : Progress) → step size (within ps d n) r ≡ passes s → Left size s l Q → Half size ps d n (t ∷ l) Q
  unfolding step
  back-within ps d n plain m s e h = absurd (violates-passes e)
  back-within ps d n odd m s e h = absurd (violates-passes e)
  back-within ps d n (start c k) m s e h = absurd (violates-passes e)
  back-within ps d n (end c k) m s e h =
      let o = closed size ps d n c k s e in
      record {
        end = k;
        rest = l;
        here = ap (λ t. t ∷ l) (m ∙ ap (λ c. dword_tag (0x0A ∷ c) k) (sym o.1.0));
        some = o.1.1.0;
        fits = o.1.1.1;
        later = subst (λ s. Left size s l Q) (sym o.0) h;
      }

-- A scan that passes ends after whole lawful pairs.
abbrev Ends : List GapPair → List GapPair → List Tag → Type 0
Ends qs ps l = (ps ≡ qs) × (l ≡ [])

scan-sound : (size : ℕ) (l : List Tag) (s : Progress) (qs : List GapPair) → scan size s l ≡ passes qs → Left size s l (Ends qs)
unfolding scan Good
scan-sound size [] (between ps) qs e = record { new = []; front = []; rest = []; here = refl; paired = done; good = tt; then = (passes_same e, refl) }
scan-sound size [] (within ps d n) qs e = absurd (violates-passes e)
scan-sound size (t ∷ l) (between ps) qs e =
    let g = and_check-passes (step size (between ps) (role t)) (λ s. scan size s l) e in
    back-between size (Ends qs) t l ps (role t) (role-means t) g.first g.was (scan-sound size l g.first qs g.then)
scan-sound size (t ∷ l) (within ps d n) qs e =
    let g = and_check-passes (step size (within ps d n) (role t)) (λ s. scan size s l) e in
    back-within size (Ends qs) t l ps d n (role t) (role-means t) g.first g.was (scan-sound size l g.first qs g.then)

next-opens : (size : ℕ) (ps : List GapPair) (p : GapPair) → Next size ps p → step size (between ps) (start p.digits p.start) ≡ passes (within ps p.digits p.start)
unfolding step
next-opens size ps p h = rw (lt-leb 64 (length ps) h.few, (numbered-means p.digits).1 h.number, (used-means p.digits ps).1 h.fresh, le-leb (next_start ps) p.start h.low)

next-closes : (size : ℕ) (ps : List GapPair) (p : GapPair) → Next size ps p → step size (within ps p.digits p.start) (end p.digits p.end) ≡ passes (between (p ∷ ps))
unfolding step
next-closes size ps p h = rw (same_refl p.digits, lt-ltb p.start p.end h.some, le-leb p.end size h.fits)

pub scan-pair : (size : ℕ) (ps : List GapPair) (p : GapPair) (l : List Tag) → Next size ps p → scan size (between ps) (start_tag p ∷ end_tag p ∷ l) ≡ scan size (between (p ∷ ps)) l
unfolding scan role
scan-pair size ps p l h = rw (next-opens size ps p h, next-closes size ps p h)

pub scan-other : (size : ℕ) (ps : List GapPair) (t : Tag) (l : List Tag) → NoGapTag t → scan size (between ps) (t ∷ l) ≡ scan size (between ps) l
unfolding scan step
scan-other size ps t l h = rw (role-plain t h)

pub scan-front : (size : ℕ) (l : List Tag) (new : List GapPair) (rest : List Tag) → Paired l new → (ps : List GapPair) → Good size ps new → scan size (between ps) (l ++ rest) ≡ scan size (between (reverse_aux new ps)) rest
unfolding Good
scan-front size l new rest done ps h = refl
scan-front size l new rest (other {t = t} {l = k} n q) ps h = scan-other size ps t (k ++ rest) n ∙ scan-front size k new rest q ps h
scan-front size l new rest (pair {l = k} {ps = later} p q) ps h = scan-pair size ps p (k ++ rest) h.0 ∙ scan-front size k later rest q (p ∷ ps) h.1

-- The rules one by one, or pair after pair.
pub record Plain (size : ℕ) (ps new : List GapPair) : Type 0 where
  pub few : length ps + length new ≤ 64
  pub digits : All (λ p. Digits p.digits) new
  pub distinct : Distinct new
  pub fresh : All (λ p. Apart p.digits ps) new
  pub order : Ordered size (next_start ps) (map gap_of new)

apart_from : (p : GapPair) (ps new : List GapPair) → All (λ q. Apart q.digits (p ∷ ps)) new ↔ (Apart p.digits new × All (λ q. Apart q.digits ps) new)
apart_from p ps [] = (λ _. (tt, tt), λ _. tt)
apart_from p ps (q ∷ new) = (
  λ h. let k = (apart_from p ps new).0 h.1 in ((λ e. h.0.0 (sym e), k.0), (h.0.1, k.1)),
  λ h. ((λ e. h.0.0 (sym e), h.1.0), (apart_from p ps new).1 (h.0.1, h.1.1)),
)

pub good-plain : (size : ℕ) (ps new : List GapPair) → Good size ps new → length ps ≤ 64 → Plain size ps new
unfolding Good Distinct Ordered
good-plain size ps [] h few = record { few = omega arith; digits = tt; distinct = tt; fresh = tt; order = tt }
good-plain size ps (p ∷ new) h few =
    let n = h.0 in
    let k = good-plain size (p ∷ ps) new h.1 (omega (arith, n.few)) in
    record {
      few = omega (arith, k.few);
      digits = (n.number, k.digits);
      distinct = (((apart_from p ps new).0 k.fresh).0, k.distinct);
      fresh = (n.fresh, ((apart_from p ps new).0 k.fresh).1);
      order = (n.low, n.some, n.fits, k.order);
    }

pub plain-good : (size : ℕ) (ps new : List GapPair) → Plain size ps new → Good size ps new
unfolding Good Distinct Ordered
plain-good size ps [] h = tt
plain-good size ps (p ∷ new) h = (
  record { few = omega (arith, h.few); number = h.digits.0; fresh = h.fresh.0; low = h.order.0; some = h.order.1; fits = h.order.2 },
  plain-good size (p ∷ ps) new (record {
    few = omega (arith, h.few);
    digits = h.digits.1;
    distinct = h.distinct.1;
    fresh = (apart_from p ps new).1 (h.distinct.0, h.fresh.1);
    order = h.order.3;
  }),
)

pub fresh-none : (new : List GapPair) → All (λ p. Apart p.digits []) new
fresh-none [] = tt
fresh-none (p ∷ new) = (tt, fresh-none new)

-- The gap tags: the scan passes exactly for lawful ones, and finds their pairs.
pub gaps-lawful : (size : ℕ) (tags : List Tag) (qs : List GapPair) → scan size (between []) tags ≡ passes qs → (k : ValidGapTags size tags) × (reverse k.pairs ≡ qs)
gaps-lawful size tags qs e =
    let f = scan-sound size tags (between []) qs e in
    let k = good-plain size [] f.new f.good (omega arith) in
    let all : tags ≡ f.front = f.here ∙ ap (λ l. f.front ++ l) f.then.1 ∙ append-nil f.front in
    (record { pairs = f.new; paired = subst (λ l. Paired l f.new) (sym all) f.paired; few = omega (arith, k.few); digits = k.digits; distinct = k.distinct; order = k.order }, f.then.0)

pub gaps-good : (size : ℕ) (tags : List Tag) (k : ValidGapTags size tags) → Good size [] k.pairs
gaps-good size tags k = plain-good size [] k.pairs (record { few = omega (arith, k.few); digits = k.digits; distinct = k.distinct; fresh = fresh-none k.pairs; order = k.order })

pub lawful-gaps : (size : ℕ) (tags : List Tag) (k : ValidGapTags size tags) → scan size (between []) tags ≡ passes (reverse k.pairs)
unfolding scan
lawful-gaps size tags k = ap (scan size (between [])) (sym (append-nil tags)) ∙ scan-front size tags k.pairs [] k.paired [] (gaps-good size tags k)

-- The check passes exactly where the rules hold.
pub sole-fine : (l : List ℕ) (n : ℕ) → sole l ≡ passes n → l ≡ n ∷ []
sole-fine [] n e = absurd (violates-passes e)
sole-fine (m ∷ []) n e = ap (λ m. m ∷ []) (passes_same e)
sole-fine (m ∷ k ∷ l) n e = absurd (violates-passes e)

pub check-means : (tags : List Tag) (c : ℕ × List Tag) → spec_check_part_tags tags ≡ passes c → (c.1 ≡ tags) × (SizeIs c.0 tags × ValidGapTags c.0 tags)
unfolding spec_check_part_tags
check-means tags c e =
    let g = and_check-passes (sole (sizes tags)) (λ size. and_check (scan size (between []) tags) (λ _. passes (size, tags))) e in
    let h = and_check-passes (scan g.first (between []) tags) (λ _. passes (g.first, tags)) g.then in
    let q : (g.first, tags) ≡ c = passes_same h.then in
    let n : g.first ≡ c.0 = ap (λ c. c.0) q in (
      sym (ap (λ c. c.1) q),
      (
        subst (λ n. SizeIs n tags) n (sizes-means g.first tags (sole-fine (sizes tags) g.first g.was)),
        subst (λ n. ValidGapTags n tags) n (gaps-lawful g.first tags h.first h.was).0,
      ),
    )

pub means-check : (tags : List Tag) (size : ℕ) → SizeIs size tags → ValidGapTags size tags → spec_check_part_tags tags ≡ passes (size, tags)
unfolding spec_check_part_tags
means-check tags size h k = rw (size-sizes size tags h, lawful-gaps size tags k)

pub check-law : (tags : List Tag) (size : ℕ) → (spec_check_part_tags tags ≡ passes (size, tags)) ↔ (SizeIs size tags × ValidGapTags size tags)
check-law tags size = (λ e. (check-means tags (size, tags) e).1, λ h. means-check tags size h.0 h.1)

-- The gaps that the tags stand for.
gaps-pair : (p : GapPair) (l : List Tag) → gaps_of (start_tag p ∷ end_tag p ∷ l) ≡ gap_of p ∷ gaps_of l
unfolding gaps_of zip_gaps gap_starts gap_ends role
gaps-pair p l = refl

pub gaps-of : (tags : List Tag) (ps : List GapPair) → Paired tags ps → gaps_of tags ≡ map gap_of ps
unfolding gaps_of zip_gaps gap_starts gap_ends
gaps-of tags ps done = refl
gaps-of tags ps (other {t = t} {l = l} n q) = rw (role-plain t n) (gaps-of l ps q)
gaps-of tags ps (pair {l = l} {ps = later} p q) = gaps-pair p l ∙ ap (λ l. gap_of p ∷ l) (gaps-of l later q)

pub gaps-ordered : (size : ℕ) (tags : List Tag) → ValidGapTags size tags → Ordered size 0 (gaps_of tags) × (length (gaps_of tags) ≤ 64)
gaps-ordered size tags k = rw (gaps-of tags k.pairs k.paired) (k.order, rw length-map k.few)

pub gaps-found : (size : ℕ) (tags : List Tag) (qs : List GapPair) → scan size (between []) tags ≡ passes qs → map gap_of (reverse qs) ≡ gaps_of tags
gaps-found size tags qs e =
    let r = gaps-lawful size tags qs e in
    ap (λ l. map gap_of (reverse l)) (sym r.1) ∙ ap (map gap_of) (reverse-reverse r.0.pairs) ∙ sym (gaps-of tags r.0.pairs r.0.paired)
