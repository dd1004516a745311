-- The table is filled while the part is looked for in itself: when what agrees first ends at a sampled length, the offset is the least
-- shift of that length, since the part agrees with itself up to that length at no offset before.
use Prim.Native.Nat.{ℕ, ◌+◌, ◌-◌, ◌*◌, ◌≤◌, ◌<◌}
use mathlib.Core.Path.{◌≡◌}
use mathlib.Core.List.{List}
use native.Mathlib.Omega.{arith}
use lib.ListN.{length, get_or, set, length-set}
use lib.Seq.{get_or-set_same, get_or-set_other}
use lib.Dec.{eqb}
use borrow.Author.Tests.{eqb-true, eqb-false}
use borrow.Author.Count.{below_more}
use Rattle.format.proofs.PartTags.{either-test}
use Rattle.find.specs.Shifts.{Agrees, LeastShift, Samples, Moves}
use Rattle.find.proofs.Moving.{Passed, moved, passed-more}

-- The samples before `sample` stand in the table, and up to the length of that one the part agrees with itself at no offset before `start`.
pub record Filling (part table : List ℕ) (start matched sample : ℕ) : Type 0 where
  pub some : 0 < start
  pub next : 0 < sample
  pub reach : start + matched ≤ 8 * sample
  pub most : 8 * sample ≤ length part + 8
  pub entries : length part < 8 * length table
  pub agrees : Agrees part part start matched
  pub passed : Passed part part (λ d. 8 * sample - d) 1 start
  pub samples : Samples part table (8 * sample - 1)

pub fill-first : (p table : List ℕ) → length p < 8 * length table → Filling p table 1 0 1
fill-first p table e =
    record {
      some = omega arith;
      next = omega arith;
      reach = omega arith;
      most = omega arith;
      entries = e;
      agrees = λ i h. absurd (omega arith);
      passed = λ d h k b. absurd (omega arith);
      samples = λ k h l. absurd (omega arith);
    }

module _ (p table : List ℕ) (start matched sample : ℕ) (now : Filling p table start matched sample) where
  sampled : start + matched ≡ 8 * sample → LeastShift p (8 * sample) start
  sampled e =
      record {
        some = now.some;
        within = omega arith;
        agrees = λ i h. now.agrees i (omega arith);
        least = λ d h k. now.passed d (omega arith) k;
      }

  pub fill-entry : start + matched ≡ 8 * sample → sample < length table → 8 * sample ≤ length p → Filling p (set table sample start) start matched (sample + 1)
  fill-entry e h l =
      record {
        some = now.some;
        next = omega arith;
        reach = omega arith;
        most = omega arith;
        entries = simp length-set now.entries;
        agrees = now.agrees;
        passed = λ d f g b. now.passed d f g (λ i q. b i (omega arith));
        samples = entered;
      }
    where
      entered : Samples p (set table sample start) (8 * (sample + 1) - 1)
      entered k f g =
          either-test (eqb k sample)
          (λ q. let q = eqb-true k sample q in rw (q, get_or-set_same table sample start 0 (omega (arith, now.entries))) (sampled e))
          (λ q. let q = eqb-false k sample q in rw (get_or-set_other table sample k start 0 q) (now.samples k f (omega arith)))

  pub fill_more : (start + matched ≡ 8 * sample → ⊥) → get_or p matched 0 ≡ get_or p (start + matched) 0 → Filling p table start (matched + 1) sample
  fill_more f e =
      record {
        some = now.some;
        next = now.next;
        reach = omega arith;
        most = now.most;
        entries = now.entries;
        agrees = below_more _ matched now.agrees e;
        passed = now.passed;
        samples = now.samples;
      }

  pub fill-moved : (start + matched ≡ 8 * sample → ⊥) → (get_or p matched 0 ≡ get_or p (start + matched) 0 → ⊥) → (shift kept : ℕ) → Moves p matched shift kept →
      Filling p table (start + shift) kept sample
  fill-moved f differs shift kept m =
      let short : start + matched < 8 * sample = omega arith in
      record {
        some = omega arith;
        next = now.next;
        reach = omega arith;
        most = now.most;
        entries = now.entries;
        agrees = moved p p start matched shift kept m now.agrees;
        passed = passed-more p p start matched shift kept m now.agrees (λ d. 8 * sample - d) 1 (λ d k. omega arith) differs now.passed;
        samples = now.samples;
      }

  -- What the move after a mismatch asks of the table, and what the loop leaves.
  pub filled-to : (n : ℕ) → n < 8 * sample → Samples p table n
  filled-to n h k f g = now.samples k f (omega arith)
