use Rattle.std.proofs.Common.{◌≡◌, ◌++◌, take}
use Rattle.std.specs.Option.{option_copied}
use Rattle.ccr_commit.specs.Entries.{listed}
use Rattle.config_cache.proofs.wanted.begin.Given as goal

abbrev pub invariant-loop-place : goal.invariant-loop-place
invariant-loop-place l = take l.place (l.committed ++ listed (option_copied l.pending)) ≡ take l.place l.texts
