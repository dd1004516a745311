-- Single entries: their bytes, and the answer to a write.
use Prim.Native.Nat.{ℕ, ◌+◌, ◌*◌, ◌≤◌, ◌<◌}
use mathlib.Core.Path.{◌≡◌, refl, sym, ap, ◌∙◌}
use mathlib.Core.List.{List, ◌++◌, append_assoc}
use native.Mathlib.Omega.{arith}
use lib.ListN.{get_or, length, length-append}
use borrow.Author.Tests.{le-leb, lt-leb}
use mir.Syntax.{w8}
use mir.Val.{Fits}
use Rattle.format.specs.Layout.{dword, encode_file_entry, encode_hash, encode_server_entry, encode_tag, encode_tags, word}
use Rattle.format.specs.Rules.{ValidHash, ValidTag}
use Rattle.format.specs.Decoding.{Outcome, bytes_at, got, refused}
use Rattle.format.specs.Order.{decode_hash, decode_tag}
use Rattle.format.specs.Writing.{Written, overwritten, unwritten}
use Rattle.format.proofs.Codec.{length-little_endian}
use Rattle.format.proofs.Items.{codec-hash, codec-tag}
use Rattle.format.proofs.Writing.{hash-needed, tag-needed}
use Rattle.wire.specs.declared.Fault as wire
use Rattle.wire.specs.declared.Items.{Items}
use Rattle.wire.specs.WireAnswers.{fault_meaning, hash_at, items_in}
use Rattle.wire.proofs.Steps.{propagated}
use Rattle.output.specs.declared.Refusal.{Refusal}
use Rattle.output.specs.WriteAnswers.{answered, refusal_of}
use Rattle.output.proofs.Refusals.{number-of-rule}
use Rattle.met.specs.declared.FileEntry.{FileEntry}
use Rattle.met.specs.declared.ServerEntry.{ServerEntry}
use Rattle.met.specs.MetAnswers.{file_entry_in, server_entry_in}
use Rattle.write_items.specs.There.{hash_there, items_there}
use Rattle.write_items.specs.Writers.{write_there}
use Rattle.write_met.specs.MetWrites.{file_entry_there, server_entry_there}
use Rattle.write_met.specs.Lengths.{EntryMeaning, entry_head}
use Rattle.write_met.specs.MetEntries.{spec_write_file_entry, spec_write_server_entry}
use Rattle.write_met.proofs.Lists.{Here, hash-valid, hashes-size, list-here}
use Rattle.write_items.proofs.There.{then-there}
use Rattle.std.specs.Prelude.{IsErrAnd, Ok, Result}

-- `?` passes on the fault of a place.
pub entry-missing : {there : Outcome (Unit {0})} (output : List ℕ) (w : Written) (f : wire.Fault) (answer : Result ℕ Refusal) → IsErrAnd answer (λ g. g ≡ refusal_of f.rule) →
    refused (fault_meaning f) ≡ there → answered answer output ≡ write_there there output w
entry-missing output w f answer passed e = rw (propagated answer passed, number-of-rule f.rule, ← e) refl

module _ (s : List ℕ) (known : (i : ℕ) → Fits w8 (get_or s i 0)) where
  -- What a writer copies has the length that was found.
  pub hash-size : (at : ℕ) {next : ℕ} → got tt next ≡ hash_there s at → length (hash_at s at) ≡ 16
  hash-size at e = (hash-valid s known at e).0

  pub parts-size : (l : Items) (p : ℕ) → got tt (l.at + p) ≡ items_there decode_hash s l → length (bytes_at s l.at p) ≡ p
  parts-size l p e = let h = list-here codec-hash hash-needed s known l e in ap length h.bytes ∙ h.size

  module _ (e : FileEntry) where
    module _ (p t : ℕ) (h : EntryMeaning s e (Ok (p, t))) where
      pub parts-here : Here encode_hash ValidHash s e.parts (items_in decode_hash s e.parts) p
      parts-here = list-here codec-hash hash-needed s known e.parts h.1.0

      pub tags-here : Here encode_tag ValidTag s e.tags (items_in decode_tag s e.tags) t
      tags-here = list-here codec-tag tag-needed s known e.tags h.1.1

      pub entry-there : got tt (e.tags.at + t) ≡ file_entry_there s e
      entry-there = then-there h.0 (then-there h.1.0 h.1.1)

      pub entry-bytes : entry_head s e p ++ (dword e.tags.count ++ bytes_at s e.tags.at t) ≡ encode_file_entry (file_entry_in s e)
      unfolding encode_file_entry encode_tags
      entry-bytes = rw (parts-here.bytes, parts-here.count, tags-here.bytes, tags-here.count) (simp append_assoc)

      pub head-size : length (entry_head s e p) ≡ 22 + p
      head-size = simp (length-append, length-little_endian, hash-size e.hash h.0, parts-size e.parts p h.1.0) (omega arith)

      pub tags-size : length (bytes_at s e.tags.at t) ≡ t
      tags-size = ap length tags-here.bytes ∙ tags-here.size

      pub parts-length : p ≡ 16 * e.parts.count
      parts-length = sym parts-here.size ∙ hashes-size 16 (items_in decode_hash s e.parts) parts-here.all ∙ ap (λ n. 16 * n) parts-here.count

      pub entry-size : length (encode_file_entry (file_entry_in s e)) ≡ 26 + p + t
      entry-size =
          ap length (sym entry-bytes)
          ∙ length-append (entry_head s e p) (dword e.tags.count ++ bytes_at s e.tags.at t)
          ∙ rw (head-size) (simp (length-append, length-little_endian, tags-size) (omega arith))

      -- the answer
      module _ (output : List ℕ) where
        pub entry-overflows : 65535 < e.parts.count → unwritten 6 output ≡ spec_write_file_entry s e output
        unfolding spec_write_file_entry
        entry-overflows q = rw (← entry-there, parts-here.count, lt-leb e.parts.count 65535 q) refl

        module _ (few : e.parts.count ≤ 65535) where
          pub entry-roomless : length output < 26 + p + t → unwritten 10 output ≡ spec_write_file_entry s e output
          unfolding spec_write_file_entry
          entry-roomless q = rw (← entry-there, parts-here.count, le-leb e.parts.count 65535 few, lt-leb (length (encode_file_entry (file_entry_in s e))) (length output) (rw entry-size q)) refl

          pub entry-written : {new : List ℕ} {wrote : ℕ} → 26 + p + t ≤ length output →
              record { written : wrote ≡ 26 + p + t; output : new ≡ overwritten (encode_file_entry (file_entry_in s e)) output } → answered (Ok wrote) new ≡ spec_write_file_entry s e output
          unfolding spec_write_file_entry
          entry-written q put =
              rw (put.written, put.output, ← entry-there, parts-here.count, le-leb e.parts.count 65535 few, le-leb (length (encode_file_entry (file_entry_in s e))) (length output) (rw entry-size q), entry-size)
              refl

  module _ (e : ServerEntry) where
    module _ (t : ℕ) (there : got tt (e.tags.at + t) ≡ server_entry_there s e) where
      server-here : Here encode_tag ValidTag s e.tags (items_in decode_tag s e.tags) t
      server-here = list-here codec-tag tag-needed s known e.tags there

      pub server-bytes : dword e.ip ++ (word e.port ++ (dword e.tags.count ++ bytes_at s e.tags.at t)) ≡ encode_server_entry (server_entry_in s e)
      unfolding encode_server_entry encode_tags
      server-bytes = rw (server-here.bytes, server-here.count) refl

      pub server-tags-size : length (bytes_at s e.tags.at t) ≡ t
      server-tags-size = ap length server-here.bytes ∙ server-here.size

      server-size : length (encode_server_entry (server_entry_in s e)) ≡ 10 + t
      server-size = ap length (sym server-bytes) ∙ simp (length-append, length-little_endian, server-tags-size) (omega arith)

      module _ (output : List ℕ) where
        pub server-roomless : length output < 10 + t → unwritten 10 output ≡ spec_write_server_entry s e output
        unfolding spec_write_server_entry
        server-roomless q = rw (← there, lt-leb (length (encode_server_entry (server_entry_in s e))) (length output) (rw server-size q)) refl

        pub server-written : {new : List ℕ} {wrote : ℕ} → 10 + t ≤ length output →
            record { written : wrote ≡ 10 + t; output : new ≡ overwritten (encode_server_entry (server_entry_in s e)) output } → answered (Ok wrote) new ≡ spec_write_server_entry s e output
        unfolding spec_write_server_entry
        server-written q put = rw (put.written, put.output, ← there, le-leb (length (encode_server_entry (server_entry_in s e))) (length output) (rw server-size q), server-size) refl
