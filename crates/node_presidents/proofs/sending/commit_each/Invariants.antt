use Rattle.std.proofs.Common.{◌≡◌, ◌++◌, take, map}
use Rattle.wire.specs.declared.message.Body.TheVariants as body
use Rattle.node_model.specs.declared.output.Output.TheVariants.{Sends}
use Rattle.node_presidents.proofs.sending.commit_each.Given as goal

-- those so far are told
abbrev pub invariant-loop-n : goal.invariant-loop-n
invariant-loop-n l = l.out.items ≡ l.fn.out.items ++ map (λ n. Sends n (body.Commit l.fn.epoch l.fn.place)) (take l.n-index l.receivers)
