-- The contracts of the writers say one answer: the number, the length and the output afterwards are determined.
use Prim.Native.Nat.{ℕ}
use mathlib.Core.Path.{◌≡◌, refl, ap, subst}
use mathlib.Core.List.{List}
use Rattle.format.specs.Messages.{Kind, Message}
use Rattle.format.specs.Decoding.{Decoder, Fault, Outcome, number, refused}
use Rattle.format.specs.Writing.{Written, unwritten}
use Rattle.format.specs.RoundTrip.{IsThere, WritesAt, absent, present}
use Rattle.format.proofs.Differ.{differ}
use Rattle.format.proofs.Writing.{writes-once}
use Rattle.write_items.specs.Item as item
use Rattle.write_items.specs.Item.{ItemJudged, WritesItem, fine, overflows, refused_for}

same_number : {A : Type 0} {o : Outcome A} {f g : Fault} → o ≡ refused f → o ≡ refused g → number f.rule ≡ number g.rule
same_number {f = f} {g} d e = let same : f ≡ g = cc in ap (λ z. number z.rule) same

module _ (k : Kind) (there : Outcome (Unit {0})) (m : Message k) (output : List ℕ) where
  pub writes-at-once : {v w : Written} → WritesAt k there m output v → WritesAt k there m output w → v ≡ w
  writes-at-once (absent f d) (absent g e) = ap (λ n. unwritten n output) (same_number d e)
  writes-at-once (absent f d) (present next e w) = differ cc
  writes-at-once (present next d v) (absent g e) = differ cc
  writes-at-once (present next d v) (present _ e w) = writes-once k m output v w

module _ {A : Type 0} {Fits : A → Type 0} {encode : A → List ℕ} {decode : Decoder A} {a : A} where
  item-judged-once : {x y : ℕ} → ItemJudged Fits encode decode a x → ItemJudged Fits encode decode a y → x ≡ y
  item-judged-once (overflows f) (overflows g) = refl
  item-judged-once (overflows f) (refused_for g y e) = absurd (f g)
  item-judged-once (overflows f) (fine g e) = absurd (f g)
  item-judged-once (refused_for f x d) (overflows g) = absurd (g f)
  item-judged-once (refused_for f x d) (refused_for g y e) = same_number d e
  item-judged-once (refused_for f x d) (fine g e) = differ cc
  item-judged-once (fine f d) (overflows g) = absurd (g f)
  item-judged-once (fine f d) (refused_for g y e) = differ cc
  item-judged-once (fine f d) (fine g e) = refl

  module _ {there : Outcome (Unit {0})} {output : List ℕ} where
    pub item-once : {v w : Written} → WritesItem Fits encode decode there a output v → WritesItem Fits encode decode there a output w → v ≡ w
    item-once (item.absent f d) (item.absent g e) = ap (λ n. unwritten n output) (same_number d e)
    item-once (item.absent f d) (item.refuses here n j g) = absurd (subst IsThere d here)
    item-once (item.absent f d) (item.tries here j) = absurd (subst IsThere d here)
    item-once (item.refuses here n j f) (item.absent g e) = absurd (subst IsThere e here)
    item-once (item.refuses here n j f) (item.refuses _ o i g) = ap (λ n. unwritten n output) (item-judged-once j i)
    item-once (item.refuses here n j f) (item.tries _ i) = absurd (f (item-judged-once j i))
    item-once (item.tries here j) (item.absent g e) = absurd (subst IsThere e here)
    item-once (item.tries here j) (item.refuses _ o i g) = absurd (g (item-judged-once i j))
    item-once (item.tries here j) (item.tries _ i) = refl
