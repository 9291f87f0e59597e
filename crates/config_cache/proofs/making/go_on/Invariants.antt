use Rattle.std.proofs.Common.{◌≡◌, ◌++◌, take}
use Rattle.std.specs.Option.{option_copied}
use Rattle.ccr_commit.specs.Entries.{listed}
use Rattle.config_cache.specs.Lists.{these}
use Rattle.config_cache.proofs.making.go_on.Given as goal

abbrev pub invariant-loop-place : goal.invariant-loop-place
invariant-loop-place l = l.made ≡ these l.fn.made.header (take l.place (l.committed ++ listed (option_copied l.pending)))
