-- The laws of a loop that looks for an item of a list that lies in the bytes, item by item: the first one, or one of the rest.
use Prim.Native.Nat.{ℕ, suc, ◌+◌, ◌-◌, ◌<◌, ◌≤◌}
use mathlib.Core.Path.{◌≡◌, refl, sym, ap, ◌∙◌}
use mathlib.Core.Bool.{Bool, true, false}
use mathlib.Core.List.{List, [], ◌∷◌}
use native.Mathlib.Omega.{arith}
use Rattle.format.specs.Tables.{pick}
use Rattle.format.specs.Decoding.{Decoder, Outcome, refused, got, and_then, pure, decode_many, items_of, ends}
use Rattle.format.specs.Messages.{Tag}
use Rattle.format.specs.Order.{decode_tag}
use Rattle.format.specs.Truth.{some}
use Rattle.format.proofs.Codec.{never}
use Rattle.wire.proofs.Loops.{ended-got}
use Rattle.tags.specs.Skips.{Lies}
use Rattle.truth.specs.TruthAnswers.{TellsOf, on_item}

-- What was decoded and has an end lies there.
ended-lies : {A : Type 0} (o : Outcome A) {end : ℕ} → ends o ≡ got tt end → Lies o
unfolding ends
ended-lies (refused f) e = absurd (never e)
ended-lies (got a next) e = tt

cons-lies : {A : Type 0} (s : List ℕ) (a : A) (o : Outcome (List A)) → Lies (and_then s o (λ l. pure (a ∷ l))) → Lies o
cons-lies s a (refused f) l = absurd l
cons-lies s a (got m next) l = tt

cons-items : {A : Type 0} (s : List ℕ) (a : A) (o : Outcome (List A)) → Lies o → items_of (and_then s o (λ l. pure (a ∷ l))) ≡ a ∷ items_of o
cons-items s a (refused f) l = absurd l
cons-items s a (got m next) l = refl

module _ {A : Type 0} (d : Decoder A) (s : List ℕ) where
  first_of : (n at : ℕ) → Lies (decode_many (suc n) d s at) → Lies (d s at)
  first_of n at l = go (d s at) l
    where
      go : (o : Outcome A) → Lies (and_then s o (λ a s at. and_then s (decode_many n d s at) (λ l. pure (a ∷ l)))) → Lies o
      go (refused f) l = absurd l
      go (got a next) l = tt

  rest_of : (n at : ℕ) {next : ℕ} → ends (d s at) ≡ got tt next → Lies (decode_many (suc n) d s at) → Lies (decode_many n d s next)
  rest_of n at {next} e l = let g = ended-got (d s at) (sym e) in cons-lies s g.0 (decode_many n d s next) (rw (← g.1) at l)

  some_of : (n at : ℕ) (p : A → Bool) {next : ℕ} → ends (d s at) ≡ got tt next → Lies (decode_many (suc n) d s at) →
      some p (items_of (decode_many (suc n) d s at)) ≡ pick (on_item p (d s at)) true (some p (items_of (decode_many n d s next)))
  some_of n at p {next} e l =
      let g = ended-got (d s at) (sym e) in
      let m = rest_of n at e l in
      rw (← g.1) (rw (cons-items s g.0 (decode_many n d s next) m) refl)

  -- Some items are left: one, and then so many.
  module _ (left at n : ℕ) (more : left ≡ suc n) (lie : Lies (decode_many left d s at)) where
    first-lies : Lies (d s at)
    first-lies = first_of n at (rw more at lie)

    module _ {next : ℕ} (e : ends (d s at) ≡ got tt next) where
      rest-lies : Lies (decode_many n d s next)
      rest-lies = rest_of n at e (rw more at lie)

      some-step : (p : A → Bool) → false ≡ on_item p (d s at) → some p (items_of (decode_many left d s at)) ≡ some p (items_of (decode_many n d s next))
      some-step p f = ap (λ n. some p (items_of (decode_many n d s at))) more ∙ some_of n at p e (rw more at lie) ∙ rw (← f) refl

    some-here : (p : A → Bool) → true ≡ on_item p (d s at) → some p (items_of (decode_many left d s at)) ≡ true
    unfolding ends
    some-here p t = go (d s at) refl
      where
        go : (o : Outcome A) → o ≡ d s at → some p (items_of (decode_many left d s at)) ≡ true
        go (refused f) r = absurd (rw (← r) at first-lies)
        go (got a next) r =
            ap (λ n. some p (items_of (decode_many n d s at))) more ∙ some_of n at p {next = next} (rw (← r) refl) (rw more at lie) ∙ rw (← t) refl

some-none : {A : Type 0} (d : Decoder A) (s : List ℕ) (left at : ℕ) (p : A → Bool) → left ≡ 0 → some p (items_of (decode_many left d s at)) ≡ false
some-none d s left at p e = rw e refl

-- So many tags of the list are before the offset, and the test tells of none of them: there is one from there on if there was one from the
-- start on.
pub record Looked (s : List ℕ) (Answers : ℕ → Bool → Type 0) (count start counter at : ℕ) : Type 0 where
  pub lies : Lies (decode_many (count - counter) decode_tag s at)
  pub same : (p : Tag → Bool) → TellsOf p s Answers →
      some p (items_of (decode_many count decode_tag s start)) ≡ some p (items_of (decode_many (count - counter) decode_tag s at))

pub look_first : (s : List ℕ) (Answers : ℕ → Bool → Type 0) (count start : ℕ) {end : ℕ} →
    ends (decode_many count decode_tag s start) ≡ got tt end → Looked s Answers count start 0 start
look_first s Answers count start placed =
    let e : count ≡ count - 0 = omega arith in
    record { lies = ended-lies _ (rw e at placed); same = λ p tells. ap (λ n. some p (items_of (decode_many n decode_tag s start))) e }

module _ {s : List ℕ} {Answers : ℕ → Bool → Type 0} {count start counter at : ℕ} (looked : Looked s Answers count start counter at) where
  module _ (h : counter < count) where
    more : count - counter ≡ suc (count - (counter + 1))
    more = omega arith

    pub look_lies : Lies (decode_tag s at)
    look_lies = first-lies decode_tag s _ at _ more looked.lies

    pub look_on : {next : ℕ} {answer : Bool} → ends (decode_tag s at) ≡ got tt next → answer ≡ false → Answers at answer → Looked s Answers count start (counter + 1) next
    look_on e f answers = record {
      lies = rest-lies decode_tag s _ at _ more looked.lies e;
      same = λ p tells. looked.same p tells ∙ some-step decode_tag s _ at _ more looked.lies e p (sym f ∙ tells at _ look_lies answers);
    }

    pub look_found : {answer : Bool} → answer ≡ true → Answers at answer → (p : Tag → Bool) → TellsOf p s Answers → true ≡ some p (items_of (decode_many count decode_tag s start))
    look_found t answers p tells = sym (looked.same p tells ∙ some-here decode_tag s _ at _ more looked.lies p (sym t ∙ tells at _ look_lies answers))

  pub look_ended : count ≤ counter → (p : Tag → Bool) → TellsOf p s Answers → false ≡ some p (items_of (decode_many count decode_tag s start))
  look_ended h p tells = sym (looked.same p tells ∙ some-none decode_tag s (count - counter) at p (omega arith))

pub some-never : {A : Type 0} (p : A → Bool) → ((a : A) → p a ≡ false) → (l : List A) → some p l ≡ false
some-never p never [] = refl
some-never p never (a ∷ l) = rw (never a) (some-never p never l)
