use Rattle.std.proofs.Common.{◌∙◌, ap, sym}
use Rattle.shared_address.specs.States.{AddressState}
use Rattle.shared_address.specs.History.{with_state}
use Rattle.std.proofs.lemmas.Result.{on_err_weaker, on_ok_weaker}
use Rattle.shared_address.proofs.StateLemmas.{known_state, name_inserted, name_set, on_err_always, state_kept, unknown_has_none, unknown_state}
use Rattle.shared_address.proofs.balancer.choose_among.Goals as goal

pub returns-in-Some-clause-answer : goal.returns-in-Some-clause-answer
returns-in-Some-clause-answer c = rw (known_state c.args.a.now c.args.addresses.now.entries c.in-Some.address.now c.in-Some.ensures.value) c.choose.ensures.answer

pub returns-in-Some-clause-after : goal.returns-in-Some-clause-after
returns-in-Some-clause-after c =
    let put = (c.get_mut.follows.holds c.choose.new.self).0 ∙ name_set c.args.a.now c.args.addresses.now.entries c.in-Some.address.now c.choose.new.self c.in-Some.ensures.value in
    rw (known_state c.args.a.now c.args.addresses.now.entries c.in-Some.address.now c.in-Some.ensures.value)
    (on_ok_weaker c.choose.result (λ is. put ∙ ap (λ (s : AddressState). with_state c.args.addresses.now.entries c.args.a.now s) is) c.choose.ensures.after)

pub returns-in-Some-clause-err : goal.returns-in-Some-clause-err
returns-in-Some-clause-err c =
    let put = (c.get_mut.follows.holds c.choose.new.self).0 ∙ name_set c.args.a.now c.args.addresses.now.entries c.in-Some.address.now c.choose.new.self c.in-Some.ensures.value in
    let same = name_set c.args.a.now c.args.addresses.now.entries c.in-Some.address.now c.in-Some.address.now c.in-Some.ensures.value in
    on_err_weaker c.choose.result (λ is. put ∙ ap (λ (s : AddressState). with_state c.args.addresses.now.entries c.args.a.now s) is ∙ sym same ∙ state_kept c.args.a.now c.args.addresses.now.entries c.in-Some.address.now c.in-Some.ensures.value) c.choose.ensures.err

pub returns-clause-answer : goal.returns-clause-answer
returns-clause-answer c = rw (unknown_state c.args.a.now c.args.addresses.now.entries c.in_default.ensures.value ∙ sym c.new-address.ensures.value) c.in_ok-choice.ensures.answer

pub returns-clause-after : goal.returns-clause-after
returns-clause-after c =
    let put = rw c.get_mut.follows.holds-at-none at c.in_ok-insert.ensures.entries in
    rw (unknown_state c.args.a.now c.args.addresses.now.entries c.in_default.ensures.value ∙ sym c.new-address.ensures.value)
    (put ∙ name_inserted c.args.a.now c.args.addresses.now.entries c.choose-2.new.self ∙ ap (λ (s : AddressState). with_state c.args.addresses.now.entries c.args.a.now s) c.in_ok-choice.ensures.after)

pub returns-in-Some-clause-wanted : goal.returns-in-Some-clause-wanted
returns-in-Some-clause-wanted c = rw (known_state c.args.a.now c.args.addresses.now.entries c.in-Some.address.now c.in-Some.ensures.value) (on_err_weaker c.choose.result (λ wants _. wants) c.choose.ensures.wanted)

pub returns-in_err-choice-clause-wanted : goal.returns-in_err-choice-clause-wanted
returns-in_err-choice-clause-wanted c = on_err_always c.from_residual.result (λ known. absurd (unknown_has_none c.args.a.now c.args.addresses.now.entries c.in_default.ensures.value known))

pub returns-in_err-insert-clause-wanted : goal.returns-in_err-insert-clause-wanted
returns-in_err-insert-clause-wanted c = on_err_always c.from_residual-in_err-insert.result (λ known. absurd (unknown_has_none c.args.a.now c.args.addresses.now.entries c.in_default.ensures.value known))
