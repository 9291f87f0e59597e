use Rattle.std.proofs.Common.{◌∙◌, Option, ap}
use Rattle.std.proofs.lemmas.Result.{on_ok_weaker}
use Rattle.shared_address.specs.declared.choice.Client.{Client}
use Rattle.shared_address.specs.Choosing.{asked, served}
use Rattle.shared_address.specs.History.{state_of}
use Rattle.shared_address.proofs.StateLemmas.{others_stay, puts_from, state_is, stands_asked}
use Rattle.shared_address.proofs.balancer.Balancer.choose.Goals as goal

pub returns-clause-state : goal.returns-clause-state
returns-clause-state c =
    let key = ap (λ (k : Option Client). (served (state_of c.self.inside.addresses.entries c.args.a.now) k c.args.targets.now).after) c.kept_client.ensures in
    let after = (served (state_of c.self.inside.addresses.entries c.args.a.now) c.kept_client.result c.args.targets.now).after in
    rw (← c.self.view_is) (on_ok_weaker c.choose_among.result
    (λ is. state_is c.self.inside.addresses.entries c.choose_among.new.addresses.entries c.args.a.now after
    (puts_from c.self.inside.addresses.entries c.choose_among.new.addresses.entries c.args.a.now after is) ∙ key)
    c.choose_among.ensures.after)

pub returns-clause-others : goal.returns-clause-others
returns-clause-others c =
    let after = (served (state_of c.self.inside.addresses.entries c.args.a.now) c.kept_client.result c.args.targets.now).after in
    rw (← c.self.view_is) (on_ok_weaker c.choose_among.result
    (λ is. others_stay c.self.inside.addresses.entries c.choose_among.new.addresses.entries c.args.a.now after
    (puts_from c.self.inside.addresses.entries c.choose_among.new.addresses.entries c.args.a.now after is))
    c.choose_among.ensures.after)

pub returns-clause-goes_on : goal.returns-clause-goes_on
returns-clause-goes_on c =
    let after = (served (state_of c.self.inside.addresses.entries c.args.a.now) c.kept_client.result c.args.targets.now).after in
    rw (← c.self.view_is) (on_ok_weaker c.choose_among.result
    (λ is. stands_asked c.self.inside.addresses.entries c.choose_among.new.addresses.entries c.args.a.now after
    (puts_from c.self.inside.addresses.entries c.choose_among.new.addresses.entries c.args.a.now after is)
    (asked c.args.policy c.args.client c.args.port c.args.targets.now)
    (ap (λ (k : Option Client). (served (state_of c.self.inside.addresses.entries c.args.a.now) k c.args.targets.now).after) c.kept_client.ensures))
    c.choose_among.ensures.after)
