-- A counted tag list whose tags were checked, by its verdict.
use Prim.Native.Nat.{ℕ, ◌-◌}
use mathlib.Core.Path.{◌≡◌, refl, sym}
use mathlib.Core.List.{List}
use lib.ListN.{get_or}
use native.Mathlib.Omega.{arith}
use mir.Syntax.{w8}
use mir.Val.{Fits}
use Rattle.format.specs.Decoding.{decode_many, fault, got, refused}
use Rattle.format.specs.Order.{decode_counted, decode_dword, decode_tag, decode_tags}
use Rattle.format.specs.MetOrder.{decode_part_tags}
use Rattle.wire.specs.declared.Items.{Items}
use Rattle.wire.specs.declared.Rule.{Rule}
use Rattle.wire.specs.WireAnswers.{items_in, ItemsInside, rule_meaning}
use Rattle.format.proofs.Items.{codec-tag}
use Rattle.format.proofs.Many.{ends-items}
use Rattle.format.proofs.There.{dword-ends}
use Rattle.wire.proofs.Inside.{items-inside}
use Rattle.part_tags.specs.declared.CheckedTags.{CheckedTags}
use Rattle.part_tags.specs.PartTagAnswers.{spec_tags_at, TagsChecked}
use Rattle.std.specs.Prelude.{Ok, Err}

module _ (s : List ℕ) (at count first : ℕ) (counted : got count first ≡ decode_dword s at) (starts : List ℕ) (r : CheckedTags) (h : TagsChecked s first count starts r) where
  abbrev tags : Items
  tags = spec_tags_at first count r

  there : got (items_in decode_tag s tags) r.end ≡ decode_many count decode_tag s first
  there = ends-items (decode_many count decode_tag s first) r.end h.placed

  pub tags_violate : (rule : Rule) (size : ℕ) → r.verdict ≡ Err rule → size ≡ r.end - at
      → refused (fault (rule_meaning rule) at size) ≡ decode_part_tags s at
  unfolding decode_part_tags decode_tags decode_counted
  tags_violate rule size e z = rw (z, ← counted, ← there, ← rw e at h.verdict) refl

  pub tags_pass : (size : ℕ) → r.verdict ≡ Ok size → got (size, items_in decode_tag s tags) r.end ≡ decode_part_tags s at
  unfolding decode_part_tags decode_tags decode_counted
  tags_pass size e = rw (← counted, ← there, ← rw e at h.verdict) refl

  pub tags_inside : ((i : ℕ) → Fits w8 (get_or s i 0)) → ItemsInside decode_tag s tags
  tags_inside known =
      let from = dword-ends s at (sym counted) in
      items-inside codec-tag s known (Ok (tags, record { at = r.end })) count first (omega (arith, from)) there (h.placed, refl)
