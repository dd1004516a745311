-- The area of the blocks: its bytes, and what code finds of the lists.
use Prim.Native.Nat.{ℕ, zero, suc, ◌+◌, ◌-◌, ◌≤◌, ◌<◌}
use mathlib.Core.Path.{◌≡◌, refl, sym, ap, ◌∙◌}
use mathlib.Core.List.{List, ◌++◌}
use native.Mathlib.Omega.{arith}
use lib.ListN.{get_or, length, length-append, get_or-append}
use lib.Seq.{get_or-append-add}
use mir.Syntax.{w8}
use mir.Val.{Fits}
use Rattle.format.specs.Layout.{byte, encode_hash, encode_hash_blocks, little_endian}
use Rattle.format.specs.Rules.{ValidBlockHash, ValidHash, spec_block_count, spec_part_count}
use Rattle.format.specs.Decoding.{decode_run, got}
use Rattle.format.specs.Order.{decode_hash}
use Rattle.format.proofs.Codec.{codec-run, length-little_endian}
use Rattle.format.proofs.Items.{codec-hash}
use Rattle.format.proofs.Writing.{run-needed, hash-needed}
use Rattle.wire.specs.declared.Items.{Items}
use Rattle.wire.specs.WireAnswers.{items_in}
use Rattle.met.specs.declared.HashBlocks.{HashBlocks}
use Rattle.write_items.specs.There.{items_there}
use Rattle.write_items.proofs.There.{then-there}
use Rattle.write_met.proofs.Lists.{Here, list-here}
use Rattle.write_part.specs.declared.Area.{Area}
use Rattle.write_part.specs.BlockSteps.{AreaLies, AreaOf, area_bytes, spec_area_number, spec_area_size}

-- Places in bytes that begin with a mark and a list.
pub at_mark : (l : List ℕ) (i : ℕ) → i ≡ 0 → 1 ≡ get_or (byte 1 ++ l) i 0
unfolding little_endian
at_mark l i e = rw e refl

after-mark : (l : List ℕ) (i : ℕ) → (i ≡ 0 → ⊥) → get_or (byte 1 ++ l) i 0 ≡ get_or l (i - 1) 0
unfolding little_endian
after-mark l zero h = absurd (h refl)
after-mark l (suc i) h = ap (λ k. get_or l k 0) (omega arith)

pub in_list : (k l : List ℕ) (i : ℕ) → (i ≡ 0 → ⊥) → i - 1 < length k → get_or k (i - 1) 0 ≡ get_or (byte 1 ++ (k ++ l)) i 0
in_list k l i some h = sym (after-mark (k ++ l) i some ∙ get_or-append k l 0 (i - 1) h)

pub after_list : (k l : List ℕ) (i : ℕ) → (i ≡ 0 → ⊥) → length k ≤ i - 1 → get_or l (i - 1 - length k) 0 ≡ get_or (byte 1 ++ (k ++ l)) i 0
after_list k l i some h =
    let e : i - 1 ≡ length k + (i - 1 - length k) = omega arith in
    sym (after-mark (k ++ l) i some ∙ ap (λ n. get_or (k ++ l) n 0) e ∙ get_or-append-add k l (i - 1 - length k) 0)

pub at_closing : (i : ℕ) → 0 ≡ get_or (byte 0) i 0
unfolding little_endian
at_closing zero = refl
at_closing (suc i) = refl

pub after_last : (k : List ℕ) (i : ℕ) → (i ≡ 0 → ⊥) → length k ≤ i - 1 → 0 ≡ get_or (byte 1 ++ (k ++ byte 0)) i 0
after_last k i some h = at_closing (i - 1 - length k) ∙ after_list k (byte 0) i some h

-- The size of an area that lies in the source.
pub area_sized : (s : List ℕ) (a : Area) → AreaLies s a → length (area_bytes s a) ≡ spec_area_size a
area_sized s Area.Nothing h = length-little_endian 1 0
area_sized s (Area.One p) h = simp (length-append, length-little_endian) (omega (arith, h))
area_sized s (Area.Two p q) h = simp (length-append, length-little_endian) (omega (arith, h.0, h.1))

module _ (s : List ℕ) (known : (i : ℕ) → Fits w8 (get_or s i 0)) where
  parts-here : (l : Items) {n : ℕ} → got tt (l.at + n) ≡ items_there decode_hash s l → Here encode_hash ValidHash s l (items_in decode_hash s l) n
  parts-here l e = list-here codec-hash hash-needed s known l e

  blocks-here : (l : Items) {n : ℕ} → got tt (l.at + n) ≡ items_there (decode_run 8) s l → Here encode_hash ValidBlockHash s l (items_in (decode_run 8) s l) n
  blocks-here l e = list-here (codec-run 8) (run-needed 8) s known l e

  pub one_parts : (l : Items) {n : ℕ} → got tt (l.at + n) ≡ items_there decode_hash s l → AreaOf s (HashBlocks.Parts l) (Area.One (record { at = l.at; len = n }))
  unfolding encode_hash_blocks
  one_parts l {n} e =
      let h = parts-here l e in
      record { next = l.at + n; here = e; bytes = rw h.bytes refl; lies = ap length h.bytes ∙ h.size }

  pub one_blocks : (l : Items) {n : ℕ} → got tt (l.at + n) ≡ items_there (decode_run 8) s l → AreaOf s (HashBlocks.Blocks l) (Area.One (record { at = l.at; len = n }))
  unfolding encode_hash_blocks
  one_blocks l {n} e =
      let h = blocks-here l e in
      record { next = l.at + n; here = e; bytes = rw h.bytes refl; lies = ap length h.bytes ∙ h.size }

  pub both_blocks : (l k : Items) {n m : ℕ} → got tt (l.at + n) ≡ items_there decode_hash s l → got tt (k.at + m) ≡ items_there (decode_run 8) s k →
      AreaOf s (HashBlocks.Both l k) (Area.Two (record { at = l.at; len = n }) (record { at = k.at; len = m }))
  unfolding encode_hash_blocks
  both_blocks l k {n} {m} e q =
      let h = parts-here l e in
      let g = blocks-here k q in
      record {
        next = k.at + m;
        here = then-there e q;
        bytes = rw (h.bytes, g.bytes) refl;
        lies = (ap length h.bytes ∙ h.size, ap length g.bytes ∙ g.size);
      }

pub no_blocks : (s : List ℕ) → AreaOf s HashBlocks.Nothing Area.Nothing
unfolding encode_hash_blocks
no_blocks s = record { next = 0; here = refl; bytes = refl; lies = tt }

pub block_size : (hashes : List ℕ) → length (byte 1 ++ hashes) ≡ 1 + length hashes
block_size hashes = length-append (byte 1) hashes ∙ ap (λ n. n + length hashes) (length-little_endian 1 1)

-- 01's case: a size of 972,800 has one part hash and two block hashes, 16 bytes both. Block hashes alone have the bytes of a part hash alone.
pub lone-second : (hashes : List ℕ) → length hashes ≡ 16 → spec_area_number (spec_part_count 972800) (spec_block_count 972800) (byte 1 ++ (hashes ++ byte 0)) ≡ 5
unfolding spec_area_number
lone-second hashes e =
    let size : length (byte 1 ++ (hashes ++ byte 0)) ≡ 18 = simp (length-append, length-little_endian) (omega arith) in
    let closing : get_or (byte 1 ++ (hashes ++ byte 0)) 17 0 ≡ 0 =
    sym (at_closing (16 - length hashes) ∙ after_list hashes (byte 0) 17 (λ z. omega arith) (omega arith)) in
    rw (size, closing) refl
