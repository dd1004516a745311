-- server.met: its bytes, its number, and that its write goes both ways.
use Prim.Native.Nat.{ℕ, ◌+◌, ◌≤◌}
use mathlib.Core.Path.{◌≡◌, refl, sym, ap, subst, ◌∙◌}
use mathlib.Core.Bool.{Bool, true, false}
use mathlib.Core.Logic.{inl}
use mathlib.Core.List.{List, ◌++◌, append_assoc}
use native.Mathlib.Omega.{arith}
use lib.ListN.{get_or, length, length-append}
use lib.Dec.{eqb}
use borrow.Author.Tests.{eqb-true, le-leb}
use mir.Syntax.{w8}
use mir.Val.{Fits}
use Rattle.format.specs.Tables.{pick}
use Rattle.format.specs.Messages as messages
use Rattle.format.specs.Messages.{server_met}
use Rattle.format.specs.Layout.{byte, dword, encode_all, encode_server_entry, encode_server_met}
use Rattle.format.specs.Rules.{Byte, Bytes, Dword, ValidServerEntry, met_ceiling}
use Rattle.format.specs.Decoding.{Rule, bytes_at, decode_run, fault, got}
use Rattle.format.specs.MetOrder.{decode, decode_server_entry, decode_server_met}
use Rattle.format.specs.Writing.{CountsFit, ServerEntryFits, Judged, refused_for}
use Rattle.format.proofs.Codec.{bytes-append, bytes-little_endian, bytes-part, length-little_endian}
use Rattle.format.proofs.Writing.{all_map, ceiling-judged, server-needed, tags-fit, valid-judged}
use Rattle.wire.proofs.Replies.{slice-bytes}
use Rattle.met.specs.declared.ServerMet.{ServerMet}
use Rattle.met.specs.MetAnswers.{server_met_in}
use Rattle.format.proofs.There.{run_length}
use Rattle.write_items.specs.There.{items_there}
use Rattle.format.proofs.MetFiles.{codec-server}
use Rattle.write_met.specs.MetWrites.{server_there}
use Rattle.write_met.specs.Lengths.{spec_opening_number}
use Rattle.write_items.proofs.There.{ends-got, then-there}
use Rattle.write_items.proofs.Listed.{items-bytes}
use Rattle.write_items.proofs.Answers.{Promised, Ready, message-ready}
use Rattle.write_met.proofs.Lists.{Here, list-here}
use Rattle.write_met.proofs.Known.{wrong-opening}

server-fits : (e : messages.ServerEntry) → ValidServerEntry e → ServerEntryFits e
server-fits e h = tags-fit e.tags h.tags

-- What the writer owes, once the entries are found to have n bytes.
abbrev pub ServerReady : List ℕ → ServerMet → (n : ℕ) → Type 0
ServerReady s m n =
    Ready (Promised server_met (server_there s m) (server_met_in s m)) (spec_opening_number m.opening (5 + (n + m.tail.len)))
    ((byte m.opening ++ (dword m.entries.count ++ bytes_at s m.entries.at n)) ++ bytes_at s m.tail.at m.tail.len) (5 + (n + m.tail.len))

module _ (s : List ℕ) (known : (i : ℕ) → Fits w8 (get_or s i 0)) (m : ServerMet) where
  abbrev file : messages.ServerMet
  file = server_met_in s m

  abbrev tail : ℕ
  tail = m.tail.len

  server-encoding : Bytes (encode_server_met file)
  unfolding encode_server_met
  server-encoding =
      bytes-append (byte m.opening) _ (bytes-little_endian 1 m.opening)
      (bytes-append (dword (length file.entries) ++ encode_all encode_server_entry file.entries) _
      (bytes-append (dword (length file.entries)) _ (bytes-little_endian 4 (length file.entries)) (items-bytes codec-server server-needed s (slice-bytes s known) m.entries))
      (bytes-part s (slice-bytes s known) m.tail.at tail))

  module _ (n : ℕ) (there : got tt (m.entries.at + n) ≡ items_there decode_server_entry s m.entries) {l : List ℕ} {next : ℕ} (run : got l next ≡ decode_run tail s m.tail.at) where
    server-here : Here encode_server_entry ValidServerEntry s m.entries file.entries n
    server-here = list-here codec-server server-needed s known m.entries there

    server-bytes : (byte m.opening ++ (dword m.entries.count ++ bytes_at s m.entries.at n)) ++ bytes_at s m.tail.at tail ≡ encode_server_met file
    unfolding encode_server_met
    server-bytes = rw (server-here.bytes, server-here.count) (simp append_assoc)

    pub part-sizes : (length (bytes_at s m.entries.at n) ≡ n) × (length (bytes_at s m.tail.at tail) ≡ tail)
    part-sizes = (ap length server-here.bytes ∙ server-here.size, run_length s m.tail.at tail (sym run))

    server-size : length (encode_server_met file) ≡ 5 + (n + tail)
    server-size =
        ap length (sym server-bytes)
        ∙ simp (length-append, length-little_endian) (omega (arith, part-sizes.0, part-sizes.1))

    server-judged : Byte m.opening → Dword m.entries.count → Judged server_met file (spec_opening_number m.opening (5 + (n + tail)))
    unfolding spec_opening_number decode decode_server_met encode_server_met
    server-judged small few =
        rw server-size at (ceiling-judged server_met file (pick (eqb m.opening 0x0E) 0 2) fit (λ within. go within (eqb m.opening 0x0E) refl))
      where
        counted : Dword (length file.entries)
        counted = rw server-here.count few

        fit : CountsFit server_met file
        fit = (counted, all_map server-fits file.entries server-here.all)

        go : length (encode_server_met file) ≤ met_ceiling → (t : Bool) → eqb m.opening 0x0E ≡ t → Judged server_met file (pick t 0 2)
        go within true e =
            valid-judged server_met file
            (record {
              content = record {
                opening = inl (eqb-true m.opening 0x0E e);
                entries = (counted, server-here.all);
                tail = bytes-part s (slice-bytes s known) m.tail.at tail;
              };
              few = within;
            })
        go within false e =
            refused_for fit (fault Rule.opening 0 1)
            (rw (
              le-leb (length (encode_server_met file)) met_ceiling within,
              wrong-opening m.opening small e ((dword (length file.entries) ++ encode_all encode_server_entry file.entries) ++ file.tail),
            )
            refl)

    pub server-ready : Byte m.opening → Dword m.entries.count → ServerReady s m n
    server-ready small few =
        message-ready (then-there there (ends-got run)) (server-judged small few) server-bytes
        (subst Bytes (sym server-bytes) server-encoding) (ap length server-bytes ∙ server-size)
