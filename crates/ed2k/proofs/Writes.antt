-- What a call that is given numbers leaves.
use Prim.Native.Nat.{ℕ}
use mathlib.Core.Path.{◌≡◌, refl, sym, ◌∙◌}
use mathlib.Core.Bool.{Bool, true, false, cond}
use mathlib.Core.List.{List}
use lib.ListN.{take}
use mir.Val.{bool_byte}
use Rattle.format.specs.Tables.{same}
use Rattle.format.specs.Writing.{Written, unwritten}
use Rattle.format.proofs.PartTags.{no_true, same_true, same_refl}
use Rattle.fields.specs.Fields.{filled}
use Rattle.ed2k.specs.Calls.{GivenWrites, no_message, message}

-- What the test of a writer tells: whether the given numbers are those of the message that they are taken as.
abbrev pub Tells : Bool → (numbers given : List ℕ) → Type 0
Tells t numbers given = t ≡ same (filled 16 numbers) (take 16 given)

-- So the message is written, or the call refuses.
module _ {numbers given output : List ℕ} {Writes : Written → Type 0} {t : Bool} (tells : Tells t numbers given) where
  pub message-given : t ≡ true → {w : Written} → Writes w → GivenWrites numbers given output Writes w
  message-given e h = message (same_true (filled 16 numbers) (take 16 given) (sym tells ∙ e)) h

  pub none-given : t ≡ false → GivenWrites numbers given output Writes (unwritten 5 output)
  none-given e = no_message (λ q. no_true (sym e ∙ tells ∙ rw q (same_refl (take 16 given))))

pub as_byte : (t : Bool) → bool_byte t ≡ cond t 1 0
as_byte true = refl
as_byte false = refl
