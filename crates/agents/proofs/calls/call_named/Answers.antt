use Rattle.std.proofs.Common.{◌∙◌, ap, sym}
use Rattle.agents.specs.Calls.{Called}
use Rattle.agents.proofs.States.{called_agents, called_nobody, called_outcome}
use Rattle.agents.proofs.calls.call_named.Goals as goal

pub returns-in-Some-clause-outcome : goal.returns-in-Some-clause-outcome
returns-in-Some-clause-outcome g c =
    let found = rw (c.deref.ensures.value, c.bytes.ensures.value) at c.place_of.ensures in
    c.call.ensures.outcome
    ∙ called_outcome g.A.Agent.named g.A.Agent.kept g.A.Agent.outcome g.A.Agent.then_kept c.args.agents.now.items c.args.name.now c.args.call.now
    c.in-Some.place c.index_mut.result.now (sym found ∙ c.in-Some.is) c.index_mut.ensures.value

pub returns-in-Some-clause-after : goal.returns-in-Some-clause-after
returns-in-Some-clause-after g c =
    let found = rw (c.deref.ensures.value, c.bytes.ensures.value) at c.place_of.ensures in
    called_agents g.A.Agent.named g.A.Agent.kept g.A.Agent.outcome g.A.Agent.then_kept c.args.agents.now.items c.args.name.now c.args.call.now
    c.in-Some.place c.index_mut.result.now (sym found ∙ c.in-Some.is) c.index_mut.ensures.value c.call.new.self c.call.ensures.same_name c.call.ensures.after

pub returns-in-None-clause-outcome : goal.returns-in-None-clause-outcome
returns-in-None-clause-outcome g c =
    let found = rw (c.deref.ensures.value, c.bytes.ensures.value) at c.place_of.ensures in
    sym (ap (λ (x : Called). x.outcome) (called_nobody g.A.Agent.named g.A.Agent.kept g.A.Agent.outcome g.A.Agent.then_kept c.args.agents.now.items c.args.name.now c.args.call.now (sym found ∙ c.in-None.is)))

pub returns-in-None-clause-after : goal.returns-in-None-clause-after
returns-in-None-clause-after g c =
    let found = rw (c.deref.ensures.value, c.bytes.ensures.value) at c.place_of.ensures in
    sym (ap (λ (x : Called). x.agents) (called_nobody g.A.Agent.named g.A.Agent.kept g.A.Agent.outcome g.A.Agent.then_kept c.args.agents.now.items c.args.name.now c.args.call.now (sym found ∙ c.in-None.is)))
