use Rattle.std.proofs.Common.{◌≡◌, ◌++◌, take, map}
use Rattle.node_model.specs.declared.output.Output.TheVariants.{Sends}
use Rattle.node_model.specs.Ticks.{heartbeat_of}
use Rattle.node_heartbeats.proofs.sending.send_to_each.Given as goal

abbrev pub invariant-loop-n : goal.invariant-loop-n
invariant-loop-n l = l.out.items ≡ l.fn.out.items ++ map (λ n. Sends n (heartbeat_of l.fn.up)) (take l.n-index l.receivers)
