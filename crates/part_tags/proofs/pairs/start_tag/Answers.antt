-- Each test that fails gives the rule that the tag breaks, and one that passes the pair begun, by the laws `starts-..` of GapTags.
use Prim.Native.Nat.{◌+◌, ◌≤◌, ◌<◌}
use mathlib.Core.Path.{◌≡◌, sym, ◌∙◌}
use mathlib.Core.Bool.{Bool, false, true}
use lib.ListN.{length, get_or}
use lib.Dec.{leb}
use borrow.Author.Tests.{le-leb, lt-leb}
use Rattle.format.specs.Gaps.{gap_limit}
use Rattle.format.specs.PartTagOrder.{next_start, numbered, used}
use Rattle.wire.specs.declared.Rule.{Rule}
use Rattle.wire.proofs.Steps.{propagated}
use Rattle.part_tags.specs.TagBytes.{spec_digits_at, number_at}
use Rattle.part_tags.specs.Pairs.{key_of, first_pairs}
use Rattle.part_tags.proofs.TagLaws.{bytes_of}
use Rattle.part_tags.proofs.GapTags.{after_is, after_next, full, key-none, key-some, number_is, pairs-length, starts-low, starts-not, starts-odd, starts-pair, starts-unnumbered, starts-used}
use native.Mathlib.Omega.{arith}
use Rattle.part_tags.proofs.pairs.start_tag.Goals as goal
use Rattle.part_tags.proofs.pairs.start_tag.Goals.{After-digits_at-digits, After-dword_at-start, After-is_taken, Else-progress-ge-GAP_CEILING, In_ok-key}

room : (c : Else-progress-ge-GAP_CEILING) → leb gap_limit (length (first_pairs c.args.s.now c.args.progress.count c.args.starts.now)) ≡ false
room c =
    lt-leb gap_limit (length (first_pairs c.args.s.now c.args.progress.count c.args.starts.now)) (omega (arith, pairs-length c.args.s.now c.args.progress.count c.args.starts.now, c.if-progress-ge-GAP_CEILING.false))

name : (c : After-digits_at-digits) → let a = c.args in get_or a.s.now (a.at + 3) 0 ≡ 9
name c = c.if-first-ne-START_NAME.false

type : (c : After-digits_at-digits) → let a = c.args in get_or a.s.now a.at 0 ≡ 3
type c = c.if-code-ne-DWORD_TYPE.false

key : (c : In_ok-key) → let a = c.args in let d = spec_digits_at a.s.now a.at in (numbered d ≡ true) × (c.in_ok-key.key ≡ key_of d)
key c = key-some _ (rw c.digits_at-digits.ensures at (sym c.in_ok-key.ensures.ok_part ∙ c.digits_key.ensures))

taken : (c : After-is_taken) {t : Bool} → c.is_taken.result ≡ t
    → used (spec_digits_at c.args.s.now c.args.at) (first_pairs c.args.s.now c.args.progress.count c.args.starts.now) ≡ t
taken c e = rw c.digits_at-digits.ensures at (sym c.is_taken.ensures ∙ e)

number : (c : After-dword_at-start) → let a = c.args in c.dword_at-start.result ≡ number_at a.s.now a.at
number c = let a = c.args in number_is a.s.now a.at c.name_length-length.ensures c.dword_at-start.ensures

pub returns-then-progress-ge-GAP_CEILING : goal.returns-then-progress-ge-GAP_CEILING
returns-then-progress-ge-GAP_CEILING c =
    let n = pairs-length c.args.s.now c.args.progress.count c.args.starts.now in
    λ size. full size (first_pairs c.args.s.now c.args.progress.count c.args.starts.now) _ c.requires.1 (le-leb gap_limit (length (first_pairs c.args.s.now c.args.progress.count c.args.starts.now)) (omega (arith, n, c.if-progress-ge-GAP_CEILING.true)))

pub overflow_add-first : goal.overflow_add-first
overflow_add-first c = let t = bytes_of c.args.s.now c.args.at c.requires.0 in omega (arith, t.inside, t.some-name)

pub bounds-s-at : goal.bounds-s-at
bounds-s-at c = let t = bytes_of c.args.s.now c.args.at c.requires.0 in omega (arith, t.inside, t.some-name)

pub returns-then-first-ne-START_NAME : goal.returns-then-first-ne-START_NAME
returns-then-first-ne-START_NAME c = λ size. starts-not c.args.s.now c.args.at c.requires.0 (first_pairs c.args.s.now c.args.progress.count c.args.starts.now) (room (goal.at.returns-then-first-ne-START_NAME c).Else-progress-ge-GAP_CEILING) size c.if-first-ne-START_NAME.true c.requires.1

pub returns-then-code-ne-DWORD_TYPE : goal.returns-then-code-ne-DWORD_TYPE
returns-then-code-ne-DWORD_TYPE c = λ size. starts-odd c.args.s.now c.args.at c.requires.0 (first_pairs c.args.s.now c.args.progress.count c.args.starts.now) (room (goal.at.returns-then-code-ne-DWORD_TYPE c).Else-progress-ge-GAP_CEILING) size c.if-first-ne-START_NAME.false c.if-code-ne-DWORD_TYPE.true

pub returns-in_err-key : goal.returns-in_err-key
returns-in_err-key c =
    let a = c.args in
    let at = goal.at.returns-in_err-key c in
    let key = c.in_err-key.ensures in
    let none = key-none _ (rw c.digits_at-digits.ensures at (sym key.ok_part ∙ c.digits_key.ensures)) in
    let order : c.in_err-key.field-0.0 ≡ Rule.Order = cc (rw key.ok_part at key.value) in
    rw (propagated _ c.from_residual.ensures.1, order) (λ size. starts-unnumbered a.s.now a.at c.requires.0 _ (room at.Else-progress-ge-GAP_CEILING) size (name at.After-digits_at-digits) (type at.After-digits_at-digits) none)

pub returns-then-is_taken : goal.returns-then-is_taken
returns-then-is_taken c = λ size. starts-used c.args.s.now c.args.at c.requires.0 (first_pairs c.args.s.now c.args.progress.count c.args.starts.now) (room (goal.at.returns-then-is_taken c).Else-progress-ge-GAP_CEILING) size (name (goal.at.returns-then-is_taken c).After-digits_at-digits) (type (goal.at.returns-then-is_taken c).After-digits_at-digits) (key (goal.at.returns-then-is_taken c).In_ok-key).0 (taken (goal.at.returns-then-is_taken c).After-is_taken c.if-is_taken.true)

pub returns-then-start-progress : goal.returns-then-start-progress
returns-then-start-progress c =
    let low : number_at c.args.s.now c.args.at < next_start (first_pairs c.args.s.now c.args.progress.count c.args.starts.now) = omega (arith, number (goal.at.returns-then-start-progress c).After-dword_at-start, c.requires.2.low, c.if-start-progress.true) in
    λ size. starts-low c.args.s.now c.args.at c.requires.0 (first_pairs c.args.s.now c.args.progress.count c.args.starts.now) (room (goal.at.returns-then-start-progress c).Else-progress-ge-GAP_CEILING) size (name (goal.at.returns-then-start-progress c).After-digits_at-digits) (type (goal.at.returns-then-start-progress c).After-digits_at-digits) (key (goal.at.returns-then-start-progress c).In_ok-key).0 (taken (goal.at.returns-then-start-progress c).After-is_taken c.if-is_taken.false) low

pub returns : goal.returns
returns c =
    let s = c.args.s.now in
    let length = c.name_length-length.ensures in
    let low : next_start (first_pairs c.args.s.now c.args.progress.count c.args.starts.now) ≤ number_at s c.args.at = omega (arith, number (goal.at.returns c).After-dword_at-start, c.requires.2.low, c.if-start-progress.false) in record {
      room = omega (arith, pairs-length s c.args.progress.count c.args.starts.now, c.if-progress-ge-GAP_CEILING.false);
      key-of = (key (goal.at.returns c).In_ok-key).1;
      start-of = number (goal.at.returns c).After-dword_at-start;
      second-of = after_is s c.args.at length;
      next = (after_next s c.args.at length c.requires.0 (type (goal.at.returns c).After-digits_at-digits)).0;
      steps = λ size. rw (number (goal.at.returns c).After-dword_at-start) (starts-pair c.args.s.now c.args.at c.requires.0 (first_pairs c.args.s.now c.args.progress.count c.args.starts.now) (room (goal.at.returns c).Else-progress-ge-GAP_CEILING) size (name (goal.at.returns c).After-digits_at-digits) (type (goal.at.returns c).After-digits_at-digits) (key (goal.at.returns c).In_ok-key).0 (taken (goal.at.returns c).After-is_taken c.if-is_taken.false) low);
    }
