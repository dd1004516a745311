-- Two runs, one after the other, are two others, the first of which is not longer, exactly when they are so piece by piece.
use Prim.Native.Nat.{ℕ, ◌-◌, ◌≤◌}
use mathlib.Core.Path.{◌≡◌, refl, sym, ap, ap₂, ◌∙◌}
use mathlib.Core.Logic.{◌↔◌}
use mathlib.Core.List.{List, ◌++◌, append_assoc}
use native.Mathlib.Omega.{arith}
use lib.ListN.{length, take, drop, length-drop, take-append-drop}
use lib.Seq.{drop-append-le, drop_at, take_all, take-append-le, take_at}
use Rattle.format.specs.Decoding.{bytes_at}

module _ (long after-long short after-short : List ℕ) (shorter : length short ≤ length long) where
  abbrev shared : ℕ
  shared = length long - length short

  -- what the long run has beyond the short one
  abbrev beyond : List ℕ
  beyond = drop (length short) long

  beyond-run : bytes_at long (length short) shared ≡ beyond
  beyond-run = take_all shared beyond (omega (arith, length-drop (length short) long))

  last-run : bytes_at after-short shared (length after-short) ≡ drop shared after-short
  last-run = take_all (length after-short) (drop shared after-short) (omega (arith, length-drop shared after-short))

  abbrev Whole : Type 0
  Whole = long ++ after-long ≡ short ++ after-short

  abbrev Pieces : Type 0
  Pieces =
      (bytes_at long 0 (length short) ≡ short) ×
      ((bytes_at long (length short) shared ≡ bytes_at after-short 0 shared) × (after-long ≡ bytes_at after-short shared (length after-short)))

  apart : Whole → Pieces
  apart e =
      let n = length short in
      let length-beyond = length-drop n long in
      let rest : beyond ++ after-long ≡ after-short = sym (drop-append-le n long after-long shorter) ∙ ap (drop n) e ∙ drop_at short after-short n refl in (
        sym (take-append-le n long after-long shorter) ∙ ap (take n) e ∙ take_at short after-short n refl,
        (
          beyond-run ∙ sym (take_at beyond after-long shared length-beyond) ∙ ap (take shared) rest,
          sym (drop_at beyond after-long shared length-beyond) ∙ ap (drop shared) rest ∙ sym last-run,
        ),
      )

  together : Pieces → Whole
  together p =
      let n = length short in
      ap (λ l. l ++ after-long) (sym (take-append-drop n long)) ∙ append_assoc (take n long) beyond after-long ∙
      ap₂ (λ k l. k ++ l) p.0 (ap₂ (λ k l. k ++ l) (sym beyond-run ∙ p.1.0) (p.1.1 ∙ last-run) ∙ take-append-drop shared after-short)

  pub by-pieces : Whole ↔ Pieces
  by-pieces = (apart, together)
