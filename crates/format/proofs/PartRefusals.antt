-- What each refusal of a part.met's tags says, in plain words: 9, 6 and 8.
use mathlib.Core.Path.{◌≡◌, refl, sym, ap, ◌∙◌}
use mathlib.Core.Bool.{Bool, true, false}
use mathlib.Core.Logic.{◌↔◌, ◌⊎◌, inl, inr}
use mathlib.Core.List.{List, [], ◌∷◌, ◌++◌, reverse}
use Prim.Native.Nat.{ℕ, ◌+◌, ◌≤◌}
use native.Mathlib.Omega.{arith}
use lib.ListN.{length, length-reverse_aux}
use lib.Dec.{leb, ltb}
use borrow.Author.Tests.{le-leb, leb-true}
use Rattle.format.specs.Tables.{pick, same}
use Rattle.format.specs.Messages.{Tag}
use Rattle.format.specs.Rules.{GapPair, NoGapTag, SizeIs, ValidGapTags, done}
use Rattle.format.specs.Decoding.{Check, Rule, and_check, passes, violates}
use Rattle.format.specs.GapTags.{Role, end, odd, plain, role, start}
use Rattle.format.specs.PartTagOrder.{Progress, between, check_end, spec_check_part_tags, check_start, next_start, numbered, scan, sizes, sole, step, used, within}
use Rattle.format.proofs.Differ.{differ}
use Rattle.format.proofs.PartTags.{violates-passes, sizes-means, size-sizes, Means, role-means, Good, Front, Half, Left, back-between, back-within, scan-front, good-plain, gaps-good, means-check, gaps-lawful}

violates-same : {A : Type 0} {r q : Rule} → ◌≡◌ {A = Check A} (violates r) (violates q) → r ≡ q
violates-same e = cc

-- A check after a check fails: the first at once, or the second later.
and_check-violates : {A B : Type 0} (v : Check A) (f : A → Check B) (r : Rule) → and_check v f ≡ violates r → (v ≡ violates r) ⊎ ((a : A) × ((v ≡ passes a) × (f a ≡ violates r)))
and_check-violates (passes a) f r e = inr (a, (refl, e))
and_check-violates (violates q) f r e = inl (ap violates (violates-same e))

-- The scan fails by 8 or 6 alone.
abbrev Gaps : Rule → Type 0
Gaps r = (r ≡ Rule.order) ⊎ (r ≡ Rule.gap_ceiling)

order-else : {A : Type 0} (t : Bool) (v : Check A) (r : Rule) → (v ≡ violates r → r ≡ Rule.order) → pick t v (violates Rule.order) ≡ violates r → r ≡ Rule.order
order-else true v r f e = f e
order-else false v r f e = sym (violates-same e)

order-then : {A : Type 0} (t : Bool) (v : Check A) (r : Rule) → (v ≡ violates r → r ≡ Rule.order) → pick t (violates Rule.order) v ≡ violates r → r ≡ Rule.order
order-then true v r f e = sym (violates-same e)
order-then false v r f e = f e

passes-violates : {A : Type 0} {a : A} {r : Rule} → passes a ≡ violates r → ⊥
passes-violates e = violates-passes (sym e)

opens-order : (ps : List GapPair) (d : List ℕ) (n : ℕ) (r : Rule) → check_start ps d n ≡ violates r → r ≡ Rule.order
opens-order ps d n r e = order-else (numbered d) _ r (order-then (used d ps) _ r (order-else (leb (next_start ps) n) _ r (λ f. absurd (passes-violates f)))) e

closes-order : (size : ℕ) (ps : List GapPair) (d : List ℕ) (n : ℕ) (c : List ℕ) (m : ℕ) (r : Rule) → check_end size ps d n c m ≡ violates r → r ≡ Rule.order
closes-order size ps d n c m r e = order-else (same d c) _ r (order-else (ltb n m) _ r (order-else (leb m size) _ r (λ f. absurd (passes-violates f)))) e

-- A step fails by 8, or by 6 at a gap tag after 64 pairs.
abbrev Full : Progress → Role → Type 0
Full (between ps) r = (64 ≤ length ps) × (r ≡ plain → ⊥)
Full (within ps d n) r = ⊥

abbrev Why : Progress → Role → Rule → Type 0
Why s r q = (q ≡ Rule.order) ⊎ ((q ≡ Rule.gap_ceiling) × Full s r)

room-why : (ps : List GapPair) (role : Role) → (role ≡ plain → ⊥) → (v : Check Progress) (q : Rule) → (v ≡ violates q → q ≡ Rule.order) → (t : Bool) → leb 64 (length ps) ≡ t →
    pick t (violates Rule.gap_ceiling) v ≡ violates q → Why (between ps) role q
room-why ps role h v q f true t e = inr (sym (violates-same e), (leb-true 64 (length ps) t, h))
room-why ps role h v q f false t e = inl (f e)

step-why : (size : ℕ) (s : Progress) (r : Role) (q : Rule) → step size s r ≡ violates q → Why s r q
unfolding step
step-why size (between ps) plain q e = absurd (passes-violates e)
step-why size (between ps) odd q e = room-why ps odd (λ z. differ cc) (violates Rule.order) q (λ e. sym (violates-same e)) (leb 64 (length ps)) refl e
step-why size (between ps) (start d n) q e = room-why ps (start d n) (λ z. differ cc) (check_start ps d n) q (opens-order ps d n q) (leb 64 (length ps)) refl e
step-why size (between ps) (end d n) q e = room-why ps (end d n) (λ z. differ cc) (violates Rule.order) q (λ e. sym (violates-same e)) (leb 64 (length ps)) refl e
step-why size (within ps d n) plain q e = inl (sym (violates-same e))
step-why size (within ps d n) odd q e = inl (sym (violates-same e))
step-why size (within ps d n) (start c m) q e = inl (sym (violates-same e))
step-why size (within ps d n) (end c m) q e = inl (closes-order size ps d n c m q e)

scan-why : (size : ℕ) (l : List Tag) (s : Progress) (q : Rule) → scan size s l ≡ violates q → (q ≡ Rule.order) ⊎ (q ≡ Rule.gap_ceiling)
unfolding scan
scan-why size [] (between ps) q e = absurd (passes-violates e)
scan-why size [] (within ps d n) q e = inl (sym (violates-same e))
scan-why size (t ∷ l) s q e = go (and_check-violates (step size s (role t)) (λ s. scan size s l) q e) (λ s. scan-why size l s q)
  where
    short : Why s (role t) q → (q ≡ Rule.order) ⊎ (q ≡ Rule.gap_ceiling)
    short (inl e) = inl e
    short (inr e) = inr e.0

    go : (step size s (role t) ≡ violates q) ⊎ ((a : Progress) × ((step size s (role t) ≡ passes a) × (scan size a l ≡ violates q))) → ((a : Progress) → scan size a l ≡ violates q → (q ≡ Rule.order) ⊎ (q ≡ Rule.gap_ceiling)) →
        (q ≡ Rule.order) ⊎ (q ≡ Rule.gap_ceiling)
    go (inl e) later = short (step-why size s (role t) q e)
    go (inr e) later = later e.0 e.1.1

-- 9: exactly where there is not exactly one size tag.
sole_none : (l : List ℕ) → ((n : ℕ) → l ≡ n ∷ [] → ⊥) → sole l ≡ violates Rule.size_tag
sole_none [] h = refl
sole_none (n ∷ []) h = absurd (h n refl)
sole_none (n ∷ m ∷ l) h = refl

pub nine : (tags : List Tag) → (spec_check_part_tags tags ≡ violates Rule.size_tag) ↔ ((size : ℕ) → SizeIs size tags → ⊥)
unfolding spec_check_part_tags
nine tags = (there, λ h. rw (sole_none (sizes tags) (λ n e. h n (sizes-means n tags e))))
  where
    no-scan : (size : ℕ) → and_check {B = ℕ × List Tag} (scan size (between []) tags) (λ _. passes (size, tags)) ≡ violates Rule.size_tag → ⊥
    no-scan size e = go (and_check-violates {B = ℕ × List Tag} (scan size (between []) tags) (λ _. passes (size, tags)) Rule.size_tag e)
      where
        late : (Rule.size_tag ≡ Rule.order) ⊎ (Rule.size_tag ≡ Rule.gap_ceiling) → ⊥
        late (inl e) = differ cc
        late (inr e) = differ cc

        go : (scan size (between []) tags ≡ violates Rule.size_tag) ⊎ ((a : List GapPair) × ((scan size (between []) tags ≡ passes a) × (◌≡◌ {A = Check (ℕ × List Tag)} (passes (size, tags)) (violates Rule.size_tag)))) → ⊥
        go (inl e) = late (scan-why size tags (between []) Rule.size_tag e)
        go (inr e) = passes-violates e.1.1

    there : and_check {B = ℕ × List Tag} (sole (sizes tags)) (λ size. and_check (scan size (between []) tags) (λ _. passes (size, tags))) ≡ violates Rule.size_tag → (size : ℕ) → SizeIs size tags → ⊥
    there e size h = no-scan size (rw (size-sizes size tags h) at e)

-- 6: a gap tag after 64 whole lawful pairs.
abbrev GapAfter64 : List GapPair → List Tag → Type 0
GapAfter64 ps l = (64 ≤ length ps) × ((t : Tag) × ((rest : List Tag) × ((l ≡ t ∷ rest) × (NoGapTag t → ⊥))))

gap-role : (t : Tag) (r : Role) → Means t r → (r ≡ plain → ⊥) → NoGapTag t → ⊥
gap-role t plain m h k = h refl
gap-role t odd m h k = m k
gap-role t (start d n) m h k = (k d).0 (ap (λ t. t.name) m)
gap-role t (end d n) m h k = (k d).1 (ap (λ t. t.name) m)

not-both : Rule.gap_ceiling ≡ Rule.order → ⊥
not-both e = differ cc

six-sound : (size : ℕ) (l : List Tag) (s : Progress) → scan size s l ≡ violates Rule.gap_ceiling → Left size s l GapAfter64
unfolding scan Good
six-sound size [] (between ps) e = absurd (passes-violates e)
six-sound size [] (within ps d n) e = absurd (not-both (sym (violates-same e)))
six-sound size (t ∷ l) (between ps) e = go (and_check-violates (step size (between ps) (role t)) (λ s. scan size s l) Rule.gap_ceiling e) (λ s. six-sound size l s)
  where
    now : Why (between ps) (role t) Rule.gap_ceiling → Front size ps (t ∷ l) GapAfter64
    now (inl e) = absurd (not-both e)
    now (inr e) = record { new = []; front = []; rest = t ∷ l; here = refl; paired = done; good = tt; then = (e.1.0, (t, (l, (refl, gap-role t (role t) (role-means t) e.1.1)))) }

    go : (step size (between ps) (role t) ≡ violates Rule.gap_ceiling) ⊎ ((a : Progress) × ((step size (between ps) (role t) ≡ passes a) × (scan size a l ≡ violates Rule.gap_ceiling))) →
        ((s : Progress) → scan size s l ≡ violates Rule.gap_ceiling → Left size s l GapAfter64) → Front size ps (t ∷ l) GapAfter64
    go (inl e) later = now (step-why size (between ps) (role t) Rule.gap_ceiling e)
    go (inr e) later = back-between size GapAfter64 t l ps (role t) (role-means t) e.0 e.1.0 (later e.0 e.1.1)
six-sound size (t ∷ l) (within ps d n) e = go (and_check-violates (step size (within ps d n) (role t)) (λ s. scan size s l) Rule.gap_ceiling e) (λ s. six-sound size l s)
  where
    now : Why (within ps d n) (role t) Rule.gap_ceiling → Half size ps d n (t ∷ l) GapAfter64
    now (inl e) = absurd (not-both e)
    now (inr e) = absurd e.1

    go : (step size (within ps d n) (role t) ≡ violates Rule.gap_ceiling) ⊎ ((a : Progress) × ((step size (within ps d n) (role t) ≡ passes a) × (scan size a l ≡ violates Rule.gap_ceiling))) →
        ((s : Progress) → scan size s l ≡ violates Rule.gap_ceiling → Left size s l GapAfter64) → Half size ps d n (t ∷ l) GapAfter64
    go (inl e) later = now (step-why size (within ps d n) (role t) Rule.gap_ceiling e)
    go (inr e) later = back-within size GapAfter64 t l ps d n (role t) (role-means t) e.0 e.1.0 (later e.0 e.1.1)

step-full : (size : ℕ) (ps : List GapPair) (t : Tag) → 64 ≤ length ps → (NoGapTag t → ⊥) → step size (between ps) (role t) ≡ violates Rule.gap_ceiling
unfolding step
step-full size ps t h k = go (role t) (role-means t)
  where
    go : (r : Role) → Means t r → step size (between ps) r ≡ violates Rule.gap_ceiling
    go plain m = absurd (k m)
    go odd m = rw (le-leb 64 (length ps) h)
    go (start d n) m = rw (le-leb 64 (length ps) h)
    go (end d n) m = rw (le-leb 64 (length ps) h)

-- A gap tag after a 64th pair, all before it lawful.
pub record Beyond (size : ℕ) (tags : List Tag) : Type 0 where
  pub front : List Tag
  pub tag : Tag
  pub rest : List Tag
  pub here : tags ≡ front ++ (tag ∷ rest)
  pub gaps : ValidGapTags size front
  pub full : length gaps.pairs ≡ 64
  pub gap : NoGapTag tag → ⊥

pub six-scan : (size : ℕ) (tags : List Tag) → (scan size (between []) tags ≡ violates Rule.gap_ceiling) ↔ Beyond size tags
unfolding scan
six-scan size tags = (there, back)
  where
    there : scan size (between []) tags ≡ violates Rule.gap_ceiling → Beyond size tags
    there e =
        let f = six-sound size tags (between []) e in
        let k = good-plain size [] f.new f.good (omega arith) in
        let q = f.then in
        record {
          front = f.front;
          tag = q.1.0;
          rest = q.1.1.0;
          here = f.here ∙ ap (λ l. f.front ++ l) q.1.1.1.0;
          gaps = record { pairs = f.new; paired = f.paired; few = omega (arith, k.few); digits = k.digits; distinct = k.distinct; order = k.order };
          full = omega (arith, k.few, q.0, length-reverse_aux f.new []);
          gap = q.1.1.1.1;
        }

    back : Beyond size tags → scan size (between []) tags ≡ violates Rule.gap_ceiling
    back h =
        let k = h.gaps in
        let n : 64 ≤ length (reverse k.pairs) = omega (arith, length-reverse_aux k.pairs [], h.full) in
        ap (scan size (between [])) h.here ∙ scan-front size h.front k.pairs (h.tag ∷ h.rest) k.paired [] (gaps-good size h.front k) ∙
        ap (λ v. and_check v (λ s. scan size s h.rest)) (step-full size (reverse k.pairs) h.tag n h.gap)

-- The check by the size that the tags have.
check-at : (tags : List Tag) (size : ℕ) → SizeIs size tags → spec_check_part_tags tags ≡ and_check (scan size (between []) tags) (λ _. passes (size, tags))
unfolding spec_check_part_tags
check-at tags size h = rw (size-sizes size tags h)

and_check-last : {A B : Type 0} (v : Check A) (b : B) (r : Rule) → (and_check v (λ _. passes b) ≡ violates r) ↔ (v ≡ violates r)
and_check-last (passes a) b r = (λ e. absurd (passes-violates e), λ e. absurd (passes-violates e))
and_check-last (violates q) b r = (λ e. ap violates (violates-same e), λ e. ap violates (violates-same e))

pub six : (tags : List Tag) (size : ℕ) → SizeIs size tags → (spec_check_part_tags tags ≡ violates Rule.gap_ceiling) ↔ Beyond size tags
six tags size h =
    let a = and_check-last {B = ℕ × List Tag} (scan size (between []) tags) (size, tags) Rule.gap_ceiling in
    (λ e. (six-scan size tags).0 (a.0 (sym (check-at tags size h) ∙ e)), λ k. check-at tags size h ∙ a.1 ((six-scan size tags).1 k))

-- 8: the rules are violates-passes, and not by a gap tag after a 64th pair.
pub eight : (tags : List Tag) (size : ℕ) → SizeIs size tags → (spec_check_part_tags tags ≡ violates Rule.order) ↔ ((ValidGapTags size tags → ⊥) × (Beyond size tags → ⊥))
eight tags size h = (there, back)
  where
    there : spec_check_part_tags tags ≡ violates Rule.order → (ValidGapTags size tags → ⊥) × (Beyond size tags → ⊥)
    there e = (λ k. passes-violates (sym (means-check tags size h k) ∙ e), λ b. not-both (violates-same (sym ((six tags size h).1 b) ∙ e)))

    back : (ValidGapTags size tags → ⊥) × (Beyond size tags → ⊥) → spec_check_part_tags tags ≡ violates Rule.order
    back k = go (scan size (between []) tags) refl
      where
        late : (r : Rule) → scan size (between []) tags ≡ violates r → (r ≡ Rule.order) ⊎ (r ≡ Rule.gap_ceiling) → spec_check_part_tags tags ≡ violates Rule.order
        late r e (inl q) = check-at tags size h ∙ (and_check-last {B = ℕ × List Tag} (scan size (between []) tags) (size, tags) Rule.order).1 (e ∙ ap violates q)
        late r e (inr q) = absurd (k.1 ((six-scan size tags).0 (e ∙ ap violates q)))

        go : (v : Check (List GapPair)) → scan size (between []) tags ≡ v → spec_check_part_tags tags ≡ violates Rule.order
        go (passes ps) e = absurd (k.0 (gaps-lawful size tags ps e).0)
        go (violates r) e = late r e (scan-why size tags (between []) r e)
