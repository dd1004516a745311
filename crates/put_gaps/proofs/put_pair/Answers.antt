-- The start tag, then the end tag (`after` of output).
use Rattle.put_gaps.proofs.Pairs.{length-pair, length-tag}
use Rattle.output.proofs.Laws.{after}
use Rattle.put_gaps.specs.Pieces.{pair_bytes}
use Rattle.format.specs.Gaps.{gap}
use Rattle.format.specs.PutGaps.{decimal_of}
use Rattle.format.specs.Rules.{dword_tag}
use Rattle.format.specs.Layout.{encode_tag}
use native.Mathlib.Omega.{arith}
use mathlib.Core.List.{◌∷◌}
use Rattle.put_gaps.proofs.put_pair.Goals as goal

pub returns-clause-written : goal.returns-clause-written
unfolding pair_bytes
returns-clause-written c =
    let a = c.args in
    let d = decimal_of a.i in
    let start = encode_tag (dword_tag (0x09 ∷ d) a.start) in
    let end = encode_tag (dword_tag (0x0A ∷ d) a.end) in
    omega (arith, c.put_gap_tag-wrote.ensures.written, c.put_gap_tag.ensures.written, length-pair a.i (gap a.start a.end))

pub returns-clause-output : goal.returns-clause-output
unfolding pair_bytes
returns-clause-output c =
    let a = c.args in
    let d = decimal_of a.i in
    let start = encode_tag (dword_tag (0x09 ∷ d) a.start) in
    let end = encode_tag (dword_tag (0x0A ∷ d) a.end) in
    after start end _ _ _ _ (omega (arith, length-tag 0x09 d a.start, c.put_gap_tag-wrote.ensures.written)) c.put_gap_tag-wrote.ensures.output c.put_gap_tag.ensures.output
