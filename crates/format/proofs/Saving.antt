-- Saving (specs/Saving): what the strict save comes to, by cases on what is read. Of the save, that it has one answer, when that is a conflict
-- and when it is accepted, and what it wrote (specs/Demands).
use mathlib.Core.Path.{◌≡◌, refl, sym, ap, ◌∙◌}
use mathlib.Core.Bool.{Bool, true, false}
use mathlib.Core.Logic.{◌↔◌, ◌⊎◌, inl, inr}
use mathlib.Core.List.{List}
use Prim.Native.Nat.{ℕ, ◌≤◌, ◌<◌}
use native.Mathlib.Omega.{arith}
use lib.ListN.{length, take, drop}
use lib.Seq.{take-append_seam}
use lib.Dec.{leb}
use borrow.Author.Tests.{le-leb, leb-true}
use Rattle.format.specs.Tables.{pick, same}
use Rattle.format.specs.Messages.{PartMet, part_met}
use Rattle.format.specs.Decoding.{Answer, accepted, number, refusal}
use Rattle.format.specs.MetOrder.{decode}
use Rattle.format.specs.Writing.{Written, overwritten, unwritten, written_into}
use Rattle.format.specs.Saving.{Saves, merges_new, over_opened, refuses_new, spec_save_strict, saved_after}
use Rattle.format.specs.PutGaps.{plain_tags, tags_of}
use Rattle.format.specs.Merging.{Merges, form_of}
use Rattle.format.specs.Demands.{Accepted, AllDiffer, ChangedInTwoWays, MergeGives, RefusedSave, SaveAccepts, SaveConflict, SaveNewFirst, SaveOnce, SaveReadBack, SaveTwoWays, TwoWays, Untouched}
use Rattle.format.proofs.Gaps.{never}
use Rattle.format.proofs.Merging.{conflict-exactly, merge-once, merge-read-back, refused-merge}
use Rattle.format.proofs.PartTags.{same_not, same_refl, same_true}
use Rattle.format.proofs.Writing.{not-both, number-below, number-some, same-fault, same-message, untouched-room}

-- The strict save

-- What a strict save comes to, by what the reader says of the new bytes and whether the files are equal.
module _ (stored opened new output : List ℕ) where
  abbrev Outcome : Answer PartMet → Bool → Written
  Outcome (refusal f) t = unwritten (number f.rule) output
  Outcome (accepted m) t = pick t (written_into new output) (unwritten 11 output)

  strict-is : spec_save_strict stored opened new output ≡ Outcome (decode part_met new) (same stored opened)
  unfolding spec_save_strict
  strict-is = go (decode part_met new)
    where
      go : (a : Answer PartMet) → saved_after a stored opened new output ≡ Outcome a (same stored opened)
      go (refusal f) = refl
      go (accepted m) = refl

  room-number : (t : Bool) → (pick t (record { number = 0; length = length new; output = overwritten new output }) (unwritten 10 output)).number < 11
  room-number true = omega arith
  room-number false = omega arith

  conflicts : (a : Answer PartMet) (t : Bool) → ((Outcome a t).number ≡ 11) → ((m : PartMet) × (a ≡ accepted m)) × (t ≡ false)
  conflicts (refusal f) t e = absurd (omega (arith, number-below f.rule))
  conflicts (accepted m) true e = absurd (omega (arith, room-number (leb (length new) (length output))))
  conflicts (accepted m) false e = ((m, refl), refl)

  pub strict-conflict : ((spec_save_strict stored opened new output).number ≡ 11) ↔ (Accepted part_met new × (stored ≡ opened → ⊥))
  strict-conflict = (there, back)
    where
      there : (spec_save_strict stored opened new output).number ≡ 11 → Accepted part_met new × (stored ≡ opened → ⊥)
      there e =
          let c = conflicts (decode part_met new) (same stored opened) (sym (ap (λ w. w.number) strict-is) ∙ e) in
          (c.0, λ q. let t : same stored opened ≡ true = rw q (same_refl opened) in never (same stored opened) t c.1)

      back : Accepted part_met new × (stored ≡ opened → ⊥) → (spec_save_strict stored opened new output).number ≡ 11
      back h = rw (strict-is, h.0.1, same_not stored opened h.1) refl

  saves : (a : Answer PartMet) (t : Bool) → (Outcome a t).number ≡ 0 → ((m : PartMet) × (a ≡ accepted m)) × ((t ≡ true) × (length new ≤ length output))
  saves (refusal f) t e = absurd (number-some f.rule e)
  saves (accepted m) true e = ((m, refl), (refl, leb-true _ _ (go (leb (length new) (length output)) e)))
    where
      go : (t : Bool) → (pick t (record { number = 0; length = length new; output = overwritten new output }) (unwritten 10 output)).number ≡ 0 → t ≡ true
      go true e = refl
      go false e = absurd (omega arith)
  saves (accepted m) false e = absurd (omega arith)

  pub strict-saved : (spec_save_strict stored opened new output ≡ record { number = 0; length = length new; output = overwritten new output })
      ↔ (Accepted part_met new × ((stored ≡ opened) × (length new ≤ length output)))
  strict-saved = (there, back)
    where
      there : spec_save_strict stored opened new output ≡ record { number = 0; length = length new; output = overwritten new output } →
          Accepted part_met new × ((stored ≡ opened) × (length new ≤ length output))
      there e =
          let c = saves (decode part_met new) (same stored opened) (ap (λ w. w.number) (sym strict-is ∙ e)) in
          (c.0, (same_true stored opened c.1.0, c.1.1))

      back : Accepted part_met new × ((stored ≡ opened) × (length new ≤ length output)) →
          spec_save_strict stored opened new output ≡ record { number = 0; length = length new; output = overwritten new output }
      back h = strict-is ∙ rw (h.0.1, h.1.0, same_refl opened, le-leb _ _ h.1.1) refl

  refused-outcome : (a : Answer PartMet) (t : Bool) → Untouched output (Outcome a t)
  refused-outcome (refusal f) t h = (refl, refl)
  refused-outcome (accepted m) true h = untouched-room new output h
  refused-outcome (accepted m) false h = (refl, refl)

  pub refused-strict-save : Untouched output (spec_save_strict stored opened new output)
  refused-strict-save = rw strict-is (refused-outcome (decode part_met new) (same stored opened))

-- The save

pub save-once : SaveOnce
save-once stored opened new output v w (over_opened e) (over_opened d) = refl
save-once stored opened new output v w (over_opened e) (refuses_new d f p) = absurd (d e)
save-once stored opened new output v w (over_opened e) (merges_new d m p x h) = absurd (d e)
save-once stored opened new output v w (refuses_new d f p) (over_opened e) = absurd (d e)
save-once stored opened new output v w (refuses_new c f p) (refuses_new d g q) = ap (λ x. unwritten (number x.rule) output) (same-fault (sym p ∙ q))
save-once stored opened new output v w (refuses_new c f p) (merges_new d m q x h) = absurd (not-both (sym p ∙ q))
save-once stored opened new output v w (merges_new d m p x h) (over_opened e) = absurd (d e)
save-once stored opened new output v w (merges_new c m q x h) (refuses_new d f p) = absurd (not-both (sym p ∙ q))
save-once stored opened new output v w (merges_new c m p x h) (merges_new d n q y k) = merge-once opened stored new output x y h k

pub save-new-first : SaveNewFirst
save-new-first stored opened new output w (over_opened e) f p = strict-is stored opened new output ∙ rw p refl
save-new-first stored opened new output w (refuses_new d g q) f p = ap (λ x. unwritten (number x.rule) output) (same-fault (sym q ∙ p))
save-new-first stored opened new output w (merges_new d m q x h) f p = absurd (not-both (sym p ∙ q))

pub refused-save : RefusedSave
refused-save stored opened new output w (over_opened e) = refused-strict-save stored opened new output
refused-save stored opened new output w (refuses_new d f p) = λ h. (refl, refl)
refused-save stored opened new output w (merges_new d m p x h) = refused-merge opened stored new output x h

-- Files that were changed in two different ways are not equal.
two-ways-differ : (o a b : PartMet) → TwoWays o a b → a ≡ o → ⊥
two-ways-differ o a b h e = go h.changed
  where
    go : AllDiffer (form_of o) (form_of a) (form_of b) ⊎ AllDiffer (plain_tags (tags_of o)) (plain_tags (tags_of a)) (plain_tags (tags_of b)) → ⊥
    go (inl d) = d.0 (ap form_of e)
    go (inr d) = d.0 (ap (λ m. plain_tags (tags_of m)) e)

changed-differ : (stored opened new : List ℕ) → ChangedInTwoWays opened stored new → stored ≡ opened → ⊥
changed-differ stored opened new h e =
    two-ways-differ h.0.0 h.1.0.0 h.1.1.0.0 h.1.1.1 (same-message (sym h.1.0.1 ∙ ap (decode part_met) e ∙ h.0.1))

-- A number that no file has as its own is that of a merge.
module _ (stored opened new output : List ℕ) where
  conflict-merges : (w : Written) → Saves stored opened new output w → w.number ≡ 11 →
      (stored ≡ opened → ⊥) × (Accepted part_met new × Merges opened stored new output w)
  conflict-merges w (over_opened e) n = absurd (((strict-conflict stored opened new output).0 n).1 e)
  conflict-merges w (refuses_new d f p) n = absurd (omega (arith, number-below f.rule))
  conflict-merges w (merges_new d m p x h) n = (d, ((m, p), h))

  -- over another file, of which the new bytes are a part.met, a save is the merge
  pub save-merges : (w : Written) → Saves stored opened new output w → (stored ≡ opened → ⊥) → Accepted part_met new → Merges opened stored new output w
  save-merges w (over_opened e) d a = absurd (d e)
  save-merges w (refuses_new c f p) d a = absurd (not-both (sym p ∙ a.1))
  save-merges w (merges_new c m p x h) d a = h

  gives-once : (w : Written) (n : ℕ) → Saves stored opened new output w → (stored ≡ opened → ⊥) → Accepted part_met new →
      MergeGives n opened stored new output → w.number ≡ n
  gives-once w n s d a g = ap (λ (x : Written). x.number) (merge-once opened stored new output w g.0 (save-merges w s d a) g.1.0) ∙ g.1.1

pub save-conflict : SaveConflict
save-conflict stored opened new output w s = (
  λ n. let c = conflict-merges stored opened new output w s n in (c.0, (c.1.0, (w, (c.1.1, n)))),
  λ h. gives-once stored opened new output w 11 s h.0 h.1.0 h.1.1,
)

pub save-two-ways : SaveTwoWays
save-two-ways stored opened new output w s = (
  λ n. (conflict-exactly opened stored new output w (conflict-merges stored opened new output w s n).1.1).0 n,
  λ h. let m = save-merges stored opened new output w s (changed-differ stored opened new h) h.1.1.0 in (conflict-exactly opened stored new output w m).1 h,
)

-- An accepted strict save wrote the new bytes.
strict-wrote : (stored opened new output : List ℕ) → (spec_save_strict stored opened new output).number ≡ 0 →
    (Accepted part_met new × (length new ≤ length output))
    × (spec_save_strict stored opened new output ≡ record { number = 0; length = length new; output = overwritten new output })
strict-wrote stored opened new output n =
    let c = saves stored opened new output (decode part_met new) (same stored opened) (ap (λ (w : Written). w.number) (sym (strict-is stored opened new output)) ∙ n) in
    ((c.0, c.1.1), (strict-saved stored opened new output).1 (c.0, (same_true stored opened c.1.0, c.1.1)))

-- They are a part.met, and they are what is stored then.
strict-stored : (stored opened new output : List ℕ) → (spec_save_strict stored opened new output).number ≡ 0 →
    Accepted part_met new × (take (spec_save_strict stored opened new output).length (spec_save_strict stored opened new output).output ≡ new)
strict-stored stored opened new output n =
    let c = strict-wrote stored opened new output n in (c.0.0, rw c.1 (take-append_seam new (drop (length new) output)))

-- So it is of an accepted save over the file that was opened.
pub over-opened-stored : (opened new output : List ℕ) (w : Written) → Saves opened opened new output w → w.number ≡ 0 →
    Accepted part_met new × (take w.length w.output ≡ new)
over-opened-stored opened new output w (over_opened e) n = strict-stored opened opened new output n
over-opened-stored opened new output w (refuses_new d f p) n = absurd (d refl)
over-opened-stored opened new output w (merges_new d m p x h) n = absurd (d refl)

pub save-accepts : SaveAccepts
save-accepts stored opened new output w s = (there s, back s)
  where
    Exactly : Type 0
    Exactly = Accepted part_met new × ((stored ≡ opened → length new ≤ length output) × ((stored ≡ opened → ⊥) → MergeGives 0 opened stored new output))

    there : {w : Written} → Saves stored opened new output w → w.number ≡ 0 → Exactly
    there (over_opened e) n = let c = (strict-wrote stored opened new output n).0 in (c.0, (λ q. c.1, λ d. absurd (d e)))
    there (refuses_new d f p) n = absurd (number-some f.rule n)
    there (merges_new d m p x h) n = ((m, p), (λ e. absurd (d e), λ c. (x, (h, n))))

    back : {w : Written} → Saves stored opened new output w → Exactly → w.number ≡ 0
    back (over_opened e) h = ap (λ (w : Written). w.number) ((strict-saved stored opened new output).1 (h.0, (e, h.1.0 e)))
    back (refuses_new d f p) h = absurd (not-both (sym p ∙ h.0.1))
    back {w} (merges_new d m p x k) h = gives-once stored opened new output x 0 (merges_new d m p x k) d h.0 (h.1.1 d)

pub save-read-back : SaveReadBack
save-read-back stored opened new output w bytes-s bytes-o bytes-n (over_opened e) n =
    let c = strict-stored stored opened new output n in
    record { file = rw c.1 c.0; the_new = λ q. c.1; the_merge = λ d. absurd (d e) }
save-read-back stored opened new output w bytes-s bytes-o bytes-n (refuses_new d f p) n = absurd (number-some f.rule n)
save-read-back stored opened new output w bytes-s bytes-o bytes-n (merges_new d m p x h) n =
    let back = merge-read-back opened stored new output x bytes-o bytes-s bytes-n h n in
    record { file = back.made; the_new = λ e. absurd (d e); the_merge = λ c. back }
