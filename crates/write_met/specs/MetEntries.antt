-- What the writers of single entries do. An entry alone is no message and has no byte ceiling: the number of the first place that does not
-- hold what it should; 6 for part hashes that their count field, a WORD, cannot hold; and 10 last.
use Rattle.std.specs.Prelude.{ℕ, List, length, leb}
use Rattle.format.specs.Tables.{pick}
use Rattle.format.specs.Layout.{encode_file_entry, encode_server_entry}
use Rattle.format.specs.Writing.{Written, unwritten, written_into}
use Rattle.met.specs.declared.FileEntry.{FileEntry}
use Rattle.met.specs.declared.ServerEntry.{ServerEntry}
use Rattle.met.specs.MetAnswers.{file_entry_in, server_entry_in}
use Rattle.write_items.specs.Writers.{write_there}
use Rattle.write_met.specs.MetWrites.{file_entry_there, server_entry_there}

unfoldable pub spec_write_file_entry : List ℕ → FileEntry → List ℕ → Written
spec_write_file_entry s e output =
    write_there (file_entry_there s e) output
    (pick (leb (length (file_entry_in s e).parts) 65535) (written_into (encode_file_entry (file_entry_in s e)) output) (unwritten 6 output))

unfoldable pub spec_write_server_entry : List ℕ → ServerEntry → List ℕ → Written
spec_write_server_entry s e output = write_there (server_entry_there s e) output (written_into (encode_server_entry (server_entry_in s e)) output)
