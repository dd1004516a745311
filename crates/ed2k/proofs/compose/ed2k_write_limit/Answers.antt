-- A number that is none of the list is refused before all else.
use Rattle.std.proofs.Common.{rules, ◌≡◌}
use Rattle.std.proofs.Math.Option.{none}
use Rattle.format.specs.Tables.{lookup}
use Rattle.ed2k.specs.Calls.{bounds}
use Rattle.ed2k.proofs.compose.ed2k_write_limit.Goals as goal

pub returns-in_default : goal.returns-in_default
returns-in_default c =
    let unlisted : lookup bounds c.args.bound ≡ none = search rules in
    rw unlisted (c.report.ensures c.args.output.now)
