-- known.met: its bytes, its number, and that its write goes both ways.
use Prim.Native.Nat.{ℕ, ◌+◌, ◌≤◌}
use mathlib.Core.Path.{◌≡◌, refl, sym, ap, subst, ◌∙◌}
use mathlib.Core.Bool.{Bool, true, false}
use mathlib.Core.Logic.{inl}
use mathlib.Core.List.{List, ◌++◌}
use native.Mathlib.Omega.{arith}
use lib.ListN.{get_or, length, length-append}
use lib.Dec.{eqb, leb}
use borrow.Author.Tests.{eqb-true, le-leb, leb-true}
use mir.Syntax.{w8}
use mir.Val.{Fits}
use Rattle.format.specs.Tables.{pick}
use Rattle.format.specs.Messages as messages
use Rattle.format.specs.Messages.{known_met}
use Rattle.format.specs.Layout.{byte, dword, encode_all, encode_file_entry, encode_known_met}
use Rattle.format.specs.Rules.{Byte, Bytes, Dword, ValidFileEntry, met_ceiling, met_openings}
use Rattle.format.specs.Decoding.{Rule, bytes_at, fault, got, refused}
use Rattle.format.specs.PacketOrder.{decode_opening}
use Rattle.format.specs.MetOrder.{decode, decode_known_met}
use Rattle.format.specs.Writing.{CountsFit, FileEntryFits, Judged, refused_for}
use Rattle.format.proofs.Codec.{anywhere, bytes-append, bytes-little_endian, codec-byte, length-little_endian}
use Rattle.format.proofs.MetFiles.{codec-entry}
use Rattle.format.proofs.Writing.{all_map, ceiling-judged, entry-needed, tags-fit, valid-judged}
use Rattle.met.specs.declared.KnownMet.{KnownMet}
use Rattle.met.specs.MetAnswers.{known_met_in}
use Rattle.write_met.specs.MetWrites.{known_there}
use Rattle.write_met.specs.Lengths.{spec_opening_number}
use Rattle.wire.proofs.Replies.{slice-bytes}
use Rattle.write_items.proofs.Listed.{items-bytes}
use Rattle.write_items.proofs.Answers.{Promised, Ready, message-ready}
use Rattle.write_met.proofs.Lists.{Here, list-here}

file-fits : (e : messages.FileEntry) → ValidFileEntry e → FileEntryFits e
file-fits e h = (h.parts.0, tags-fit e.tags h.tags)

-- A first byte that does not open a met file.
pub wrong-opening : (opening : ℕ) → Byte opening → eqb opening 0x0E ≡ false → (rest : List ℕ) →
    decode_opening met_openings (byte opening ++ rest) 0 ≡ refused (fault Rule.opening 0 1)
unfolding decode_opening
wrong-opening opening h e rest = rw ((codec-byte {p = anywhere}).complete (byte opening ++ rest) 0 opening rest h refl (omega arith) tt, e) refl

-- What the writer owes, once the entries are found to have n bytes.
abbrev pub KnownReady : List ℕ → KnownMet → (n : ℕ) → Type 0
KnownReady s m n =
    Ready (Promised known_met (known_there s m) (known_met_in s m)) (spec_opening_number m.opening (5 + n)) (byte m.opening ++ (dword m.entries.count ++ bytes_at s m.entries.at n)) (5 + n)

module _ (s : List ℕ) (known : (i : ℕ) → Fits w8 (get_or s i 0)) (m : KnownMet) where
  abbrev file : messages.KnownMet
  file = known_met_in s m

  known-encoding : Bytes (encode_known_met file)
  unfolding encode_known_met
  known-encoding =
      bytes-append (byte m.opening) _ (bytes-little_endian 1 m.opening)
      (bytes-append (dword (length file.entries)) _ (bytes-little_endian 4 (length file.entries)) (items-bytes codec-entry entry-needed s (slice-bytes s known) m.entries))

  module _ (n : ℕ) (there : got tt (m.entries.at + n) ≡ known_there s m) where
    known-here : Here encode_file_entry ValidFileEntry s m.entries file.entries n
    known-here = list-here codec-entry entry-needed s known m.entries there

    known_bytes : byte m.opening ++ (dword m.entries.count ++ bytes_at s m.entries.at n) ≡ encode_known_met file
    unfolding encode_known_met
    known_bytes = rw (known-here.bytes, known-here.count) refl

    pub part-size : length (bytes_at s m.entries.at n) ≡ n
    part-size = ap length known-here.bytes ∙ known-here.size

    known-size : length (encode_known_met file) ≡ 5 + n
    known-size =
        ap length (sym known_bytes)
        ∙ simp (length-append, length-little_endian) (omega (arith, part-size))

    known-judged : Byte m.opening → Dword m.entries.count → Judged known_met file (spec_opening_number m.opening (5 + n))
    unfolding spec_opening_number decode decode_known_met encode_known_met
    known-judged small few = rw (known-size) at (ceiling-judged known_met file (pick (eqb m.opening 0x0E) 0 2) fit (λ within. go within (eqb m.opening 0x0E) refl))
      where
        counted : Dword (length file.entries)
        counted = rw known-here.count few

        fit : CountsFit known_met file
        fit = (counted, all_map file-fits file.entries known-here.all)

        go : length (encode_known_met file) ≤ met_ceiling → (t : Bool) → eqb m.opening 0x0E ≡ t → Judged known_met file (pick t 0 2)
        go within true e =
            valid-judged known_met file
            (record { content = record { opening = inl (eqb-true m.opening 0x0E e); entries = (counted, known-here.all) }; few = within })
        go within false e =
            refused_for fit (fault Rule.opening 0 1)
            (rw (le-leb (length (encode_known_met file)) met_ceiling within, wrong-opening m.opening small e (dword (length file.entries) ++ encode_all encode_file_entry file.entries)) refl)

    pub known-ready : Byte m.opening → Dword m.entries.count → KnownReady s m n
    known-ready small few =
        message-ready there (known-judged small few) known_bytes (subst Bytes (sym known_bytes) known-encoding) (ap length known_bytes ∙ known-size)

-- A file with no fault is within the ceiling.
pub opening-fits : (opening size : ℕ) → 0 ≡ spec_opening_number opening size → size ≤ met_ceiling
unfolding spec_opening_number
opening-fits opening size e = go (leb size met_ceiling) refl e
  where
    go : (t : Bool) → leb size met_ceiling ≡ t → ◌≡◌ {A = ℕ} 0 (pick t (pick (eqb opening 0x0E) 0 2) 6) → size ≤ met_ceiling
    go true q z = leb-true size met_ceiling q
    go false q z = absurd (omega arith)

pub entries-size : (opening count : ℕ) (entries : List ℕ) → length (byte opening ++ (dword count ++ entries)) ≡ 5 + length entries
entries-size opening count entries = simp (length-append, length-little_endian) (omega arith)
