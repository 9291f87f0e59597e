-- What a member hears of its president.
use Rattle.std.specs.Prelude.{Bool, true, false, Option, None}
use Rattle.status_report.specs.declared.command_entry.Answer.{Answer}

-- a node that is no member of the answer's membership hears none
unfoldable pub heard : Bool → Option Answer → Option Answer
heard true told = told
heard false told = None
