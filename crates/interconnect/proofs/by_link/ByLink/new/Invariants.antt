use Rattle.std.proofs.Common.{◌≡◌, [], length, map, replicate}
use Rattle.interconnect.proofs.by_link.ByLink.new.Given as goal

abbrev pub invariant-loop : goal.invariant-loop
invariant-loop l = record { size : length l.links.items ≡ l.counter; empty : map (λ v. v.items) l.links.items ≡ replicate l.counter [] }
