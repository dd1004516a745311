-- What the answers for met files stand for.
use Rattle.std.specs.Prelude.{ℕ, ◌≡◌, List, length}
use Rattle.format.specs.Messages as messages
use Rattle.format.specs.Messages.{no_blocks, part_block, block_block, both_blocks, e0, e1}
use Rattle.format.specs.Decoding.{Outcome, refused, got, decode_run, Check, passes, violates, Reply, refused_with, message, number}
use Rattle.format.specs.GapTags.{gaps_of}
use Rattle.format.specs.PartTagOrder.{spec_check_part_tags}
use Rattle.format.specs.Order.{decode_hash, decode_tag}
use Rattle.format.specs.MetOrder as order
use Rattle.format.specs.MetOrder.{decode_file_entry, decode_server_entry}
use Rattle.wire.specs.declared.Fault.{Fault}
use Rattle.wire.specs.declared.Items.{Items}
use Rattle.wire.specs.WireAnswers.{fault_meaning, hash_at, HashInside, place_bytes, PlaceInside, items_in, ItemsInside}
use Rattle.gaps.specs.declared.GapRecord.{GapRecord}
use Rattle.gaps.specs.GapRecords.{spec_none_missing, spec_record_of}
use Rattle.part_tags.specs.Survey.{GapTagsIn}
use Rattle.part_tags.specs.PartTagAnswers.{GapsHeld}
use Rattle.met.specs.declared.FileEntry.{FileEntry}
use Rattle.met.specs.declared.KnownMet.{KnownMet}
use Rattle.met.specs.declared.ServerEntry.{ServerEntry}
use Rattle.met.specs.declared.ServerMet.{ServerMet}
use Rattle.met.specs.declared.Mark.{Mark}
use Rattle.met.specs.declared.HashBlocks.{HashBlocks}
use Rattle.met.specs.declared.Edition.{Edition}
use Rattle.met.specs.declared.PartGaps.{PartGaps}
use Rattle.met.specs.declared.PartE1.{PartE1}
use Rattle.met.specs.declared.PartMet.{PartMet}
use Rattle.std.specs.Prelude.{Result, Ok, Err}
use Rattle.wire.specs.declared.Rule.{Rule}
use Rattle.wire.specs.WireAnswers.{rule_meaning, Step, step_meaning, OfStep, reply_meaning, OfReply}

-- known.met

abbrev pub file_entry_in : List ℕ → FileEntry → messages.FileEntry
file_entry_in s e =
    record { date = e.date; hash = hash_at s e.hash; parts = items_in decode_hash s e.parts; tags = items_in decode_tag s e.tags }

-- The hash and the lists of an entry, and the lists and the tail of a file, lie where it says, wholly inside the bytes.
abbrev pub FileEntryPlaced : List ℕ → FileEntry → Type 0
FileEntryPlaced s e = HashInside s e.hash × (ItemsInside decode_hash s e.parts × ItemsInside decode_tag s e.tags)

abbrev pub file_entry_meaning : List ℕ → Step FileEntry → Outcome messages.FileEntry
file_entry_meaning s = step_meaning (file_entry_in s)

abbrev pub FileEntryStepPlaced : List ℕ → Step FileEntry → Type 0
FileEntryStepPlaced s = OfStep (FileEntryPlaced s)

abbrev pub known_met_in : List ℕ → KnownMet → messages.KnownMet
known_met_in s m = record { opening = m.opening; entries = items_in decode_file_entry s m.entries }

abbrev pub KnownMetPlaced : List ℕ → KnownMet → Type 0
KnownMetPlaced s m = ItemsInside decode_file_entry s m.entries

abbrev pub known_met_meaning : List ℕ → Step KnownMet → Outcome messages.KnownMet
known_met_meaning s = step_meaning (known_met_in s)

abbrev pub KnownMetStepPlaced : List ℕ → Step KnownMet → Type 0
KnownMetStepPlaced s = OfStep (KnownMetPlaced s)

-- What a caller gets of a whole file.
abbrev pub known_reply : List ℕ → Result KnownMet Rule → Reply messages.KnownMet
known_reply s = reply_meaning (known_met_in s)

abbrev pub KnownAnswerPlaced : List ℕ → Result KnownMet Rule → Type 0
KnownAnswerPlaced s = OfReply (KnownMetPlaced s)

-- server.met

abbrev pub server_entry_in : List ℕ → ServerEntry → messages.ServerEntry
server_entry_in s e = record { ip = e.ip; port = e.port; tags = items_in decode_tag s e.tags }

abbrev pub server_entry_meaning : List ℕ → Step ServerEntry → Outcome messages.ServerEntry
server_entry_meaning s = step_meaning (server_entry_in s)

abbrev pub ServerEntryStepPlaced : List ℕ → Step ServerEntry → Type 0
ServerEntryStepPlaced s = OfStep (λ e. ItemsInside decode_tag s e.tags)

abbrev pub server_met_in : List ℕ → ServerMet → messages.ServerMet
server_met_in s m = record { opening = m.opening; entries = items_in decode_server_entry s m.entries; tail = place_bytes s m.tail }

abbrev pub ServerMetPlaced : List ℕ → ServerMet → Type 0
ServerMetPlaced s m = ItemsInside decode_server_entry s m.entries × PlaceInside s m.tail

abbrev pub server_met_meaning : List ℕ → Result ServerMet Fault → Outcome messages.ServerMet
server_met_meaning s (Ok m) = got (server_met_in s m) (length s)
server_met_meaning s (Err f) = refused (fault_meaning f)

abbrev pub ServerMetStepPlaced : List ℕ → Result ServerMet Fault → Type 0
ServerMetStepPlaced s (Ok m) = ServerMetPlaced s m
ServerMetStepPlaced s (Err f) = Unit {0}

abbrev pub server_reply : List ℕ → Result ServerMet Rule → Reply messages.ServerMet
server_reply s = reply_meaning (server_met_in s)

abbrev pub ServerAnswerPlaced : List ℕ → Result ServerMet Rule → Type 0
ServerAnswerPlaced s = OfReply (ServerMetPlaced s)

-- part.met

abbrev pub mark_of : Mark → order.Mark
mark_of Mark.Stop = order.stop
mark_of Mark.More = order.more

abbrev pub mark_meaning : Step Mark → Outcome order.Mark
mark_meaning = step_meaning mark_of

abbrev pub blocks_in : List ℕ → HashBlocks → messages.HashBlocks
blocks_in s HashBlocks.Nothing = no_blocks
blocks_in s (HashBlocks.Parts l) = part_block (items_in decode_hash s l)
blocks_in s (HashBlocks.Blocks k) = block_block (items_in (decode_run 8) s k)
blocks_in s (HashBlocks.Both l k) = both_blocks (items_in decode_hash s l) (items_in (decode_run 8) s k)

abbrev pub BlocksPlaced : List ℕ → HashBlocks → Type 0
BlocksPlaced s HashBlocks.Nothing = Unit {0}
BlocksPlaced s (HashBlocks.Parts l) = ItemsInside decode_hash s l
BlocksPlaced s (HashBlocks.Blocks k) = ItemsInside (decode_run 8) s k
BlocksPlaced s (HashBlocks.Both l k) = ItemsInside decode_hash s l × ItemsInside (decode_run 8) s k

abbrev pub blocks_meaning : List ℕ → Step HashBlocks → Outcome messages.HashBlocks
blocks_meaning s = step_meaning (blocks_in s)

abbrev pub BlocksStepPlaced : List ℕ → Step HashBlocks → Type 0
BlocksStepPlaced s = OfStep (BlocksPlaced s)

abbrev pub edition_of : Edition → order.Edition
edition_of Edition.E0 = order.is_e0
edition_of Edition.E1 = order.is_e1

abbrev pub edition_meaning : Step Edition → Outcome order.Edition
edition_meaning = step_meaning edition_of

-- The tags of a part.met pass the check, which finds this size.
abbrev pub TagsSized : List messages.Tag → ℕ → Type 0
TagsSized tags size = spec_check_part_tags tags ≡ passes (size, tags)

abbrev pub part_tags_meaning : List ℕ → Step (Items × PartGaps) → Outcome (ℕ × List messages.Tag)
part_tags_meaning s = step_meaning (λ r. (r.1.size, items_in decode_tag s r.0))

abbrev pub PartTagsStepPlaced : List ℕ → Step (Items × PartGaps) → Type 0
PartTagsStepPlaced s = OfStep (λ r. ItemsInside decode_tag s r.0)

-- where the gap tags of a list lie, and the offsets of its gaps, as an array that is lent holds them
abbrev pub GapsThere : List ℕ → (starts : List ℕ) → Items → PartGaps → Type 0
GapsThere s starts tags gaps = GapTagsIn s tags gaps.range × GapsHeld s starts gaps.count (items_in decode_tag s tags)

-- its size, and its gaps
abbrev pub PartTagsStepSized : List ℕ → (starts : List ℕ) → Step (Items × PartGaps) → Type 0
PartTagsStepSized s starts = OfStep (λ r. TagsSized (items_in decode_tag s r.0) r.1.size × GapsThere s starts r.0 r.1)

abbrev pub part_e1_in : List ℕ → PartE1 → messages.PartE1
part_e1_in s m = record { date = m.date; hash = hash_at s m.hash; tags = items_in decode_tag s m.tags; blocks = blocks_in s m.blocks }

abbrev pub part_met_in : List ℕ → PartMet → messages.PartMet
part_met_in s (PartMet.E0 e) = e0 (file_entry_in s e)
part_met_in s (PartMet.E1 m) = e1 (part_e1_in s m)

abbrev pub PartMetPlaced : List ℕ → PartMet → Type 0
PartMetPlaced s (PartMet.E0 e) = FileEntryPlaced s e
PartMetPlaced s (PartMet.E1 m) = HashInside s m.hash × (ItemsInside decode_tag s m.tags × BlocksPlaced s m.blocks)

-- The tags of a part.met, and where they lie.
abbrev pub tags_of : messages.PartMet → List messages.Tag
tags_of (e0 e) = e.tags
tags_of (e1 m) = m.tags

abbrev pub tags_place : PartMet → Items
tags_place (PartMet.E0 e) = e.tags
tags_place (PartMet.E1 m) = m.tags

-- The file of a part.met has this size.
abbrev pub PartMetSized : List ℕ → PartMet → ℕ → Type 0
PartMetSized s m size = TagsSized (tags_of (part_met_in s m)) size

abbrev pub part_met_meaning : List ℕ → Step (PartMet × PartGaps) → Outcome messages.PartMet
part_met_meaning s = step_meaning (λ r. part_met_in s r.0)

abbrev pub PartMetStepPlaced : List ℕ → Step (PartMet × PartGaps) → Type 0
PartMetStepPlaced s = OfStep (λ r. PartMetPlaced s r.0)

-- A part.met that was read: its size, and its gaps.
abbrev pub PartReadHolds : List ℕ → (starts : List ℕ) → PartMet × PartGaps → Type 0
PartReadHolds s starts r = PartMetSized s r.0 r.1.size × GapsThere s starts (tags_place r.0) r.1

abbrev pub PartMetStepSized : List ℕ → (starts : List ℕ) → Step (PartMet × PartGaps) → Type 0
PartMetStepSized s starts = OfStep (PartReadHolds s starts)

abbrev pub part_reply : List ℕ → Result (PartMet × ℕ) Rule → Reply messages.PartMet
part_reply s = reply_meaning (λ r. part_met_in s r.0)

abbrev pub PartAnswerPlaced : List ℕ → Result (PartMet × ℕ) Rule → Type 0
PartAnswerPlaced s = OfReply (λ r. PartMetPlaced s r.0)

abbrev pub PartAnswerSized : List ℕ → Result (PartMet × ℕ) Rule → Type 0
PartAnswerSized s = OfReply (λ r. PartMetSized s r.0 r.1)

-- The answer with the gaps, and without them.
abbrev pub part_in : Result (PartMet × PartGaps) Rule → Result (PartMet × ℕ) Rule
part_in (Ok (m, gaps)) = Ok (m, gaps.size)
part_in (Err rule) = Err rule

abbrev pub PartReadSized : List ℕ → (starts : List ℕ) → Result (PartMet × PartGaps) Rule → Type 0
PartReadSized s starts = OfReply (PartReadHolds s starts)

-- The gaps

abbrev pub size_found : Check (ℕ × List messages.Tag) → ℕ
size_found (passes p) = p.0
size_found (violates rule) = 0

-- What a caller gets of the gaps of a part.met: 0 and the record of its gaps, or the number of the refusal and an empty record.
pub record GapsAnswer : Type 0 where
  pub number : ℕ
  pub gaps : GapRecord

abbrev pub gaps_answer : Reply messages.PartMet → GapsAnswer
gaps_answer (refused_with n) = record { number = n; gaps = spec_none_missing 0 }
gaps_answer (message m) = record { number = 0; gaps = spec_record_of (size_found (spec_check_part_tags (tags_of m))) (gaps_of (tags_of m)) }

abbrev pub gaps_told : Result GapRecord Rule → GapsAnswer
gaps_told (Ok gaps) = record { number = 0; gaps = gaps }
gaps_told (Err rule) = record { number = number (rule_meaning rule); gaps = spec_none_missing 0 }
