-- No two constructors are equal. From an equation between two of them `cc` finds that 0 is 1, and from that anything follows.
use Prim.Native.Nat.{ℕ}
use mathlib.Core.Path.{◌≡◌}
use native.Mathlib.Omega.{arith}

pub differ : {P : Type 0} → ◌≡◌ {A = ℕ} 0 1 → P
differ z = absurd (omega arith)
