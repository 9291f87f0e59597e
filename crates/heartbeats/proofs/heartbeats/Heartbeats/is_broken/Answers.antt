use Rattle.std.proofs.Common.{rules, sym, ◌∙◌}
use Rattle.heartbeats.specs.Due.{breaks, is_broken}
use Rattle.heartbeats.proofs.Found.{some_there, none_found}
use Rattle.heartbeats.proofs.heartbeats.Heartbeats.is_broken.Goals as goal

pub returns-in-Ok : goal.returns-in-Ok
unfolding is_broken
returns-in-Ok c = sym (some_there (breaks c.args.self.now c.args.m.now) 32 c.in-Ok.node (search rules) (search rules) (sym c.breaks.ensures ∙ c.if-breaks.true))

pub returns : goal.returns
unfolding is_broken
returns c = none_found (breaks c.args.self.now c.args.m.now) c.loop-n.n (search rules) c.loop-n.invariant
