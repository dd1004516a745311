-- What the steps of a marking come to.
use Prim.Native.Nat.{ℕ, ◌≤◌, ◌<◌}
use mathlib.Core.Path.{◌≡◌, refl, sym}
use mathlib.Core.Bool.{true, false}
use mathlib.Core.List.{List}
use lib.ListN.{length, get_or}
use borrow.Author.Tests.{lt-ltb, le-ltb, le-leb, lt-leb}
use Rattle.format.specs.Gaps.{Gap, total, subtract, marking, size_limit}
use Rattle.format.proofs.Gaps.{subtract-ordered, total-count}
use Rattle.gaps.specs.GapRecords.{lawful_record}
use Rattle.gaps.specs.Marking.{Markable, markable, refusal, acceptance, marked}
use Rattle.gaps.proofs.GapRecords.{lawful-record-exactly}
use Rattle.gaps.proofs.Marking.{markable-exactly}
use Rattle.gap_numbers.specs.Numbers.{held, record_in, MarksNumbers}
use Rattle.gap_numbers.specs.NumberSteps.{gaps_in, Holds, holding}
use Rattle.gap_numbers.proofs.Records.{lawful-numbers}

module _ (l : List ℕ) (s e : ℕ) where
  -- refused with 8
  abbrev Barred : Type 0
  Barred = MarksNumbers (marked size_limit (record_in l) s e) (record { number = 8; missing = 0 }) l l

  barred : markable size_limit (record_in l) s e ≡ false → Barred
  unfolding marked marking
  barred q = rw q (record { told = refl; numbers = refl })

  pub unlawful : false ≡ lawful_record size_limit (record_in l) → Barred
  unfolding markable
  unlawful q = barred (rw (← q) refl)

  module _ (lawful : true ≡ lawful_record size_limit (record_in l)) where
    pub held-in : (130 ≤ length l) × (record_in l ≡ held l)
    held-in = lawful-numbers l (sym lawful)

    pub held-lawful : true ≡ lawful_record size_limit (held l)
    held-lawful = rw held-in.1 at lawful

    pub no-range : e ≤ s → Barred
    unfolding markable
    no-range h = barred (rw (← lawful, le-ltb s e h) refl)

    module _ (order : s < e) where
      pub outside : get_or l 0 0 < e → Barred
      unfolding markable
      outside h = barred (rw (← lawful, lt-ltb s e order, held-in.1, lt-leb e (get_or l 0 0) h) refl)

      pub may : e ≤ get_or l 0 0 → Markable size_limit (held l) s e
      may inside =
          let k = (lawful-record-exactly size_limit (held l)).0 (sym held-lawful) in
          record { counted = k.0; lawful = k.1; order = order; inside = inside }

-- A range that may be marked
module _ (l : List ℕ) (s e : ℕ) (long : 130 ≤ length l) (m : Markable size_limit (held l) s e) where
  abbrev left : List Gap
  left = subtract (gaps_in l) s e

  pub holds : Holds l (get_or l 1 0)
  holds = record { long = long; counted = refl; few = m.counted; ordered = m.lawful.ordered }

  allowed : markable size_limit (held l) s e ≡ true
  allowed = (markable-exactly size_limit (held l) s e).1 m

  pub too_many : 64 < length left → marked size_limit (held l) s e ≡ refusal 6 (held l)
  unfolding marked marking
  too_many h = rw (allowed, lt-leb (length left) 64 h) refl

  accepted : length left ≤ 64 → (missing : ℕ) → missing ≡ total left → marked size_limit (held l) s e ≡ acceptance (held l) left missing
  unfolding marked marking
  accepted h missing w =
      let o = subtract-ordered (get_or l 0 0) 0 (gaps_in l) s e m.order m.lawful.ordered in
      rw (allowed, le-leb (length left) 64 h, w, total-count (get_or l 0 0) 0 left o) refl

  pub accepts : length left ≤ 64 → (missing : ℕ) → missing ≡ total left → (new : List ℕ) → new ≡ holding left l
      → MarksNumbers (marked size_limit (held l) s e) (record { number = 0; missing = missing }) l new
  accepts h missing w new q = rw (accepted h missing w) (record { told = refl; numbers = q })
