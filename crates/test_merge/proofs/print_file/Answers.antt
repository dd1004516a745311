-- The text is a list of 1,048,576 zeros: its length comes by a law, since counting it is too deep for the checker.
use Rattle.std.proofs.Common.{◌≡◌, ℕ, ◌≤◌, length, sym, arith}
use Rattle.std.proofs.Math.ListN.{replicate}
use Rattle.std.proofs.lemmas.List.{length-replicate}
use Rattle.test_merge.proofs.print_file.Goals as goal

counted : (n : ℕ) → n ≡ length (replicate {A = ℕ} n 0)
counted n = sym (length-replicate {A = ℕ} n 0)

within : (n k : ℕ) → k ≤ length (replicate {A = ℕ} n 0) → k ≤ n
within n k h = omega (arith, counted n)

pub slice_bounds-read_all-end : goal.slice_bounds-read_all-end
slice_bounds-read_all-end g c = counted 1048576

pub print_cases-requires : goal.print_cases-requires
print_cases-requires g c = within 1048576 c.in_ok-length.length c.in_ok-length.ensures.fits
