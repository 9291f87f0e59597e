use Rattle.std.proofs.Common.{◌≡◌, filter, map, take}
use Rattle.std.specs.Str.{bytes_eq}
use Rattle.rgm_state.proofs.standing.resources_of.Given as goal

abbrev pub invariant-loop-place : goal.invariant-loop-place
invariant-loop-place l = l.names.items ≡ map (λ e. e.0) (filter (λ e. bytes_eq e.1.group l.group) (take l.place l.g.resources))
