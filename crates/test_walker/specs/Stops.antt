-- How many steps were no tag, after one more.
use Rattle.std.specs.Prelude.{ℕ, ◌+◌, Some, None, Ok, Err}
use Rattle.tag_walker.specs.Walk.{WalkStep}

abbrev pub stops_after : WalkStep → ℕ → ℕ
stops_after (Ok (Some t)) stops = stops
stops_after (Ok None) stops = stops + 1
stops_after (Err f) stops = stops + 1
