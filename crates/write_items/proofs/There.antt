-- What lies at a place that is there.
use Prim.Native.Nat.{ℕ}
use mathlib.Core.Path.{◌≡◌, refl, sym, subst}
use mathlib.Core.List.{List}
use lib.ListN.{length}
use Rattle.format.specs.Rules.{Bytes, ValidHash}
use Rattle.format.specs.Decoding.{Fault, Outcome, bytes_at, decode_run, ends, got, refused}
use Rattle.format.specs.Order.{decode_hash}
use Rattle.format.specs.RoundTrip.{IsThere}
use Rattle.format.proofs.Codec.{bytes-part}
use Rattle.format.proofs.There.{run_length}
use Rattle.wire.specs.WireAnswers.{hash_at}
use Rattle.write_items.specs.There.{both_there, hash_there}

pub is-there : {o : Outcome (Unit {0})} {next : ℕ} → o ≡ got tt next → IsThere o
is-there e = subst IsThere (sym e) tt

pub there-at : (o : Outcome (Unit {0})) → IsThere o → (next : ℕ) × (o ≡ got tt next)
there-at (refused f) h = absurd h
there-at (got u next) h = (next, refl)

pub ends-refused : {A : Type 0} {f : Fault} {o : Outcome A} → refused f ≡ o → refused f ≡ ends o
unfolding ends
ends-refused e = rw (← e) refl

pub ends-got : {A : Type 0} {x : A} {next : ℕ} {o : Outcome A} → got x next ≡ o → got tt next ≡ ends o
unfolding ends
ends-got e = rw (← e) refl

-- Places one after the other.
pub first-missing : {f : Fault} {first : Outcome (Unit {0})} (second : Outcome (Unit {0})) → refused f ≡ first → refused f ≡ both_there first second
first-missing second e = rw (← e) refl

pub then-there : {next : ℕ} {first second o : Outcome (Unit {0})} → got tt next ≡ first → o ≡ second → o ≡ both_there first second
then-there e k = rw (← e) k

-- Of two places that are there, each is.
pub both_first : (a b : Outcome (Unit {0})) → IsThere (both_there a b) → IsThere a
both_first (refused f) b h = absurd h
both_first (got u next) b h = tt

pub both-second : (a b : Outcome (Unit {0})) → IsThere a → both_there a b ≡ b
both-second (refused f) b h = absurd h
both-second (got u next) b h = refl

pub both-last : (a b : Outcome (Unit {0})) → IsThere (both_there a b) → IsThere b
both-last a b h = subst IsThere (both-second a b (both_first a b h)) h

-- A run that is there has its length, and a hash its 16 bytes.
pub run-size : (s : List ℕ) (at n : ℕ) → IsThere (ends (decode_run n s at)) → length (bytes_at s at n) ≡ n
unfolding ends
run-size s at n h = go (decode_run n s at) refl h
  where
    go : (o : Outcome (List ℕ)) → decode_run n s at ≡ o → IsThere (ends o) → length (bytes_at s at n) ≡ n
    go (refused f) e h = absurd h
    go (got l next) e h = run_length s at n e

pub valid-hash : (s : List ℕ) → Bytes s → (at : ℕ) → IsThere (hash_there s at) → ValidHash (hash_at s at)
unfolding decode_hash
valid-hash s hb at h = (run-size s at 16 h, bytes-part s hb at 16)
