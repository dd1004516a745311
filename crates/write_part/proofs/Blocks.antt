-- What the reader says of the blocks of a part.met E1.
use Prim.Native.Nat.{ℕ, zero, suc, ◌+◌, ◌*◌, ◌≤◌, ◌<◌}
use mathlib.Core.Path.{◌≡◌, refl, sym, ap, ◌∙◌}
use mathlib.Core.Bool.{Bool, true, false}
use mathlib.Core.List.{List, [], ◌∷◌}
use native.Mathlib.Omega.{arith}
use native.Mathlib.Decide.{dec_le}
use lib.ListN.{get_or, length, drop, length-drop}
use lib.Seq.{get_or-drop}
use lib.Dec.{eqb, leb}
use borrow.Author.Tests.{eq-eqb, eqb-false, eqb-true, leb-false, leb-true, ne_eqb}
use Rattle.format.specs.Tables.{pick}
use Rattle.format.specs.Messages.{HashBlocks, both_blocks}
use Rattle.format.specs.Rules.{spec_block_count, spec_part_count}
use Rattle.format.specs.Decoding.{Outcome, and_then, bytes_at, choice, decode_many, decode_run, fault, got, number, pure, refused, short}
use Rattle.format.specs.Order.{decode_code, decode_fixed, decode_hash}
use Rattle.format.specs.MetOrder.{decode_hash_blocks, decode_second_block, marks, more, stop}
use Rattle.format.proofs.There.{byte-short, byte-there, run_short, run-there}
use Rattle.write_part.specs.BlockSteps.{spec_area_number, closed}

-- The number for what the reader finds of wrong blocks: that of its fault; 7 for bytes left over; and 5 for the bytes of another file.
abbrev pub outcome_number : List ℕ → Outcome HashBlocks → ℕ
outcome_number s (refused f) = number f.rule
outcome_number s (got b next) = closed (length s) next

-- n runs of k bytes are there, or the first that is not is short.
module _ (k : ℕ) (s : List ℕ) where
  pub runs-there : (n at : ℕ) → at + k * n ≤ length s → (l : List (List ℕ)) × (decode_many n (decode_run k) s at ≡ got l (at + k * n))
  runs-there zero at h = ([], ap (λ n. got [] n) (omega arith))
  runs-there (suc n) at h =
      let r = runs-there n (at + k) (omega arith) in
      let e : at + k + k * n ≡ at + k * suc n = omega arith in
      (bytes_at s at k ∷ r.0, rw (← run-there s at k (omega arith), r.1, e) refl)

  pub runs-short : (n at : ℕ) → at ≤ length s → length s < at + k * n → (p : ℕ) × (decode_many n (decode_run k) s at ≡ refused (fault short p k))
  runs-short zero at i h = absurd (omega arith)
  runs-short (suc n) at i h = go (dec_le (at + k) (length s)) (λ j. runs-short n (at + k) j (omega arith))
    where
      go : Dec (at + k ≤ length s) → (at + k ≤ length s → (p : ℕ) × (decode_many n (decode_run k) s (at + k) ≡ refused (fault short p k))) →
          (p : ℕ) × (decode_many (suc n) (decode_run k) s at ≡ refused (fault short p k))
      go (yes j) later = let r = later j in (r.0, rw (← run-there s at k j, r.1) refl)
      go (no f) later = (at, rw (← run_short s at k (omega arith)) refl)

-- A byte that is one of the two marks, and the closing byte.
module _ (s : List ℕ) (at : ℕ) where
  mark-short : length s < at + 1 → decode_code marks s at ≡ refused (fault short at 1)
  unfolding decode_code
  mark-short h = rw (← byte-short s at h) refl

  closing-short : length s < at + 1 → decode_fixed 0 s at ≡ refused (fault short at 1)
  unfolding decode_fixed
  closing-short h = rw (← byte-short s at h) refl

  module _ (h : at + 1 ≤ length s) where
    mark-stop : get_or s at 0 ≡ 0 → decode_code marks s at ≡ got stop (at + 1)
    unfolding decode_code
    mark-stop e = rw (← byte-there s at h, e) refl

    mark-more : get_or s at 0 ≡ 1 → decode_code marks s at ≡ got more (at + 1)
    unfolding decode_code
    mark-more e = rw (← byte-there s at h, e) refl

    mark-wrong : (get_or s at 0 ≡ 0 → ⊥) → (get_or s at 0 ≡ 1 → ⊥) → decode_code marks s at ≡ refused (fault choice at 1)
    unfolding decode_code
    mark-wrong e q = rw (← byte-there s at h, ne_eqb (get_or s at 0) 0 e, ne_eqb (get_or s at 0) 1 q) refl

    closing-there : get_or s at 0 ≡ 0 → decode_fixed 0 s at ≡ got tt (at + 1)
    unfolding decode_fixed
    closing-there e = rw (← byte-there s at h, e) refl

    closing-wrong : (get_or s at 0 ≡ 0 → ⊥) → decode_fixed 0 s at ≡ refused (fault choice at 1)
    unfolding decode_fixed
    closing-wrong e = rw (← byte-there s at h, ne_eqb (get_or s at 0) 0 e) refl

-- The reader follows an area that opens with a mark; after `at` the bytes are those of the area.
module _ (size : ℕ) (s : List ℕ) (at : ℕ) (area : List ℕ) (e : drop at s ≡ area) (i : at ≤ length s) (first : get_or area 0 0 ≡ 1) (some : 1 ≤ length area) where
  -- where the second mark stands, and the closing byte after a second block
  abbrev M : ℕ
  M = 1 + 16 * spec_part_count size

  abbrev E : ℕ
  E = 2 + 16 * spec_part_count size + 8 * spec_block_count size

  long : length s ≡ at + length area
  long = omega (arith, ap length e, length-drop at s)

  byte_at : (k : ℕ) → get_or s (at + k) 0 ≡ get_or area k 0
  byte_at k = sym (get_or-drop at s k 0) ∙ ap (λ l. get_or l k 0) e

  -- after the first mark
  opened : decode_hash_blocks size s at ≡ and_then s (decode_many (spec_part_count size) (decode_run 16) s (at + 1)) (λ l s at. and_then s (decode_code marks s at) (λ m. decode_second_block size l m))
  unfolding decode_hash_blocks decode_hash
  opened =
      let k : at ≡ at + 0 = omega arith in
      rw (mark-more s at (omega (arith, long)) (ap (λ n. get_or s n 0) k ∙ byte_at 0 ∙ first)) refl

  -- the part hashes are there
  module _ (there : M ≤ length area) where
    parts : (l : List (List ℕ)) × (decode_many (spec_part_count size) (decode_run 16) s (at + 1) ≡ got l (at + M))
    parts =
        let r = runs-there 16 s (spec_part_count size) (at + 1) (omega (arith, long)) in
        let k : at + 1 + 16 * spec_part_count size ≡ at + M = omega arith in
        (r.0, r.1 ∙ ap (λ n. got r.0 n) k)

    marked : decode_hash_blocks size s at ≡ and_then s (decode_code marks s (at + M)) (λ m. decode_second_block size parts.0 m)
    marked = opened ∙ rw parts.1 refl

  abbrev found_number : ℕ
  found_number = outcome_number s (decode_hash_blocks size s at)

  -- the same test on places of the area and of all bytes
  closed_same : (a b n k : ℕ) → n ≡ at + a → k ≡ at + b → closed a b ≡ closed n k
  closed_same a b n k p q = go (eqb a b) refl
    where
      go : (t : Bool) → eqb a b ≡ t → pick t 5 7 ≡ closed n k
      go true z = let y = eqb-true a b z in rw (eq-eqb n k (omega arith)) refl
      go false z = let y = eqb-false a b z in rw (ne_eqb n k (λ w. y (omega arith))) refl

  short-parts : length area ≤ M → 1 ≡ found_number
  short-parts h = go (dec_le M (length area))
    where
      go : Dec (M ≤ length area) → 1 ≡ found_number
      go (yes j) = rw (marked j, mark-short s (at + M) (omega (arith, long))) refl
      go (no f) = let r = runs-short 16 s (spec_part_count size) (at + 1) (omega (arith, long)) (omega (arith, long)) in rw (opened, r.1) refl

  module _ (h : M < length area) where
    mark-in : at + M + 1 ≤ length s
    mark-in = omega (arith, long)

    there : M ≤ length area
    there = omega arith

    stops : get_or area M 0 ≡ 0 → closed (length area) (2 + 16 * spec_part_count size) ≡ found_number
    stops z =
        rw (marked there, mark-stop s (at + M) mark-in (byte_at M ∙ z))
        (closed_same (length area) (2 + 16 * spec_part_count size) (length s) (at + M + 1) long (omega arith))

    wrong-mark : (get_or area M 0 ≡ 0 → ⊥) → (get_or area M 0 ≡ 1 → ⊥) → 5 ≡ found_number
    wrong-mark z o = rw (marked there, mark-wrong s (at + M) mark-in (λ q. z (sym (byte_at M) ∙ q)) (λ q. o (sym (byte_at M) ∙ q))) refl

    -- a second block
    module _ (two : get_or area M 0 ≡ 1) where
      goes_on : decode_hash_blocks size s at ≡ and_then s (decode_many (spec_block_count size) (decode_run 8) s (at + M + 1))
          (λ k s at. and_then s (decode_fixed 0 s at) (λ _. pure (both_blocks (parts there).0 k)))
      goes_on = rw (marked there, mark-more s (at + M) mark-in (byte_at M ∙ two)) refl

      module _ (j : E ≤ length area) where
        blocks : (l : List (List ℕ)) × (decode_many (spec_block_count size) (decode_run 8) s (at + M + 1) ≡ got l (at + E))
        blocks =
            let r = runs-there 8 s (spec_block_count size) (at + M + 1) (omega (arith, long)) in
            let k : at + M + 1 + 8 * spec_block_count size ≡ at + E = omega arith in
            (r.0, r.1 ∙ ap (λ n. got r.0 n) k)

        closes : decode_hash_blocks size s at ≡ and_then s (decode_fixed 0 s (at + E)) (λ _. pure (both_blocks (parts there).0 blocks.0))
        closes = goes_on ∙ rw blocks.1 refl

      short-blocks : length area ≤ E → 1 ≡ found_number
      short-blocks k = go (dec_le E (length area))
        where
          go : Dec (E ≤ length area) → 1 ≡ found_number
          go (yes j) = rw (closes j, closing-short s (at + E) (omega (arith, long))) refl
          go (no f) = let r = runs-short 8 s (spec_block_count size) (at + M + 1) mark-in (omega (arith, long)) in rw (goes_on, r.1) refl

      module _ (j : E < length area) where
        closing-in : at + E + 1 ≤ length s
        closing-in = omega (arith, long)

        ends : get_or area E 0 ≡ 0 → closed (length area) (3 + 16 * spec_part_count size + 8 * spec_block_count size) ≡ found_number
        ends z =
            rw (closes (omega arith), closing-there s (at + E) closing-in (byte_at E ∙ z))
            (closed_same (length area) (3 + 16 * spec_part_count size + 8 * spec_block_count size) (length s) (at + E + 1) long (omega arith))

        wrong-closing : (get_or area E 0 ≡ 0 → ⊥) → 5 ≡ found_number
        wrong-closing z = rw (closes (omega arith), closing-wrong s (at + E) closing-in (λ q. z (sym (byte_at E) ∙ q))) refl

  -- The number that code works out is what the reader finds.
  pub followed : spec_area_number (spec_part_count size) (spec_block_count size) area ≡ found_number
  unfolding spec_area_number
  followed = first-test (leb (length area) M) refl
    where
      last-test : (h : M < length area) → get_or area M 0 ≡ 1 → E < length area → (t : Bool) → eqb (get_or area E 0) 0 ≡ t →
          pick t (closed (length area) (3 + 16 * spec_part_count size + 8 * spec_block_count size)) 5 ≡ found_number
      last-test h two j true q = ends h two j (eqb-true _ _ q)
      last-test h two j false q = wrong-closing h two j (eqb-false _ _ q)

      blocks-test : (h : M < length area) → get_or area M 0 ≡ 1 → (t : Bool) → leb (length area) E ≡ t →
          pick t 1 (pick (eqb (get_or area E 0) 0) (closed (length area) (3 + 16 * spec_part_count size + 8 * spec_block_count size)) 5) ≡ found_number
      blocks-test h two true q = short-blocks h two (leb-true _ _ q)
      blocks-test h two false q = last-test h two (leb-false _ _ q) (eqb (get_or area E 0) 0) refl

      more_test : (h : M < length area) → (get_or area M 0 ≡ 0 → ⊥) → (t : Bool) → eqb (get_or area M 0) 1 ≡ t →
          pick t (pick (leb (length area) E) 1 (pick (eqb (get_or area E 0) 0) (closed (length area) (3 + 16 * spec_part_count size + 8 * spec_block_count size)) 5)) 5 ≡ found_number
      more_test h z true q = blocks-test h (eqb-true _ _ q) (leb (length area) E) refl
      more_test h z false q = wrong-mark h z (eqb-false _ _ q)

      stop-test : (h : M < length area) → (t : Bool) → eqb (get_or area M 0) 0 ≡ t →
          pick t (closed (length area) (2 + 16 * spec_part_count size))
          (pick (eqb (get_or area M 0) 1)
          (pick (leb (length area) E) 1 (pick (eqb (get_or area E 0) 0) (closed (length area) (3 + 16 * spec_part_count size + 8 * spec_block_count size)) 5)) 5) ≡ found_number
      stop-test h true q = stops h (eqb-true _ _ q)
      stop-test h false q = more_test h (eqb-false _ _ q) (eqb (get_or area M 0) 1) refl

      first-test : (t : Bool) → leb (length area) M ≡ t →
          pick t 1 (pick (eqb (get_or area M 0) 0) (closed (length area) (2 + 16 * spec_part_count size))
          (pick (eqb (get_or area M 0) 1)
          (pick (leb (length area) E) 1 (pick (eqb (get_or area E 0) 0) (closed (length area) (3 + 16 * spec_part_count size + 8 * spec_block_count size)) 5)) 5)) ≡ found_number
      first-test true q = short-parts (leb-true _ _ q)
      first-test false q = stop-test (leb-false _ _ q) (eqb (get_or area M 0) 0) refl
