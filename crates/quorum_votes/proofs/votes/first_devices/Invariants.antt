use Rattle.std.proofs.Common.{◌≡◌, ◌-◌, ◌++◌, None, map, take, replicate}
use Rattle.quorum_votes.specs.Votes.{first_device}
use Rattle.quorum_votes.proofs.votes.first_devices.Given as goal

abbrev pub invariant-loop-place : goal.invariant-loop-place
invariant-loop-place l = l.devices ≡ map first_device (take l.place l.listed) ++ replicate (16 - l.place) None
