use Rattle.std.proofs.Common.{rules, ◌≡◌, ◌==◌, ◌+◌, None, Some, true, false}
use Rattle.node_model.specs.Presidents.{next_place, others_of}
use Rattle.node_presidents.proofs.Proposed.{proposal_lost, proposed_alone, proposed_asks, proposes_nothing}
use Rattle.node_presidents.proofs.proposing.propose.Goals as goal

pub returns-in_default-clause-plan : goal.returns-in_default-clause-plan
returns-in_default-clause-plan g c =
    let a = c.args in
    let none : a.up.now.presidency ≡ None = search rules in
    proposes_nothing g.K.RecordDisk.saving a.cluster.now a.me a.up.now a.text a.out.now.items a.disk.now none

pub returns-in_err-keep_and_send-clause-plan : goal.returns-in_err-keep_and_send-clause-plan
returns-in_err-keep_and_send-clause-plan g c =
    let a = c.args in
    let place = c.last_place-place.result + 1 in
    let others = c.without-others.result in
    let at : place ≡ next_place a.up.now = search rules in
    let to : others ≡ others_of a.me a.up.now = search rules in
    let is : a.up.now.presidency ≡ Some c.in-Some.field-0 = search rules in
    let lost = proposal_lost g.K.RecordDisk.saving a.cluster.now a.me a.up.now c.hold_next.new.up c.ask_members.new.up c.in-Some.field-0 a.text c.session-epoch.result place others a.out.now.items
    c.tell_proposed.new.out.items c.keep_and_send.new.out.items a.disk.now c.keep_and_send.new.disk c.in_err-keep_and_send.field-0.0
    c.session-epoch.ensures.value at to is c.in_ok-hold_next.ensures.after c.ask_members.ensures.after c.in_ok-tell_proposed.ensures.told c.in_err-keep_and_send.ensures.lost in
    search rules

pub returns-then-eq-clause-plan : goal.returns-then-eq-clause-plan
returns-then-eq-clause-plan g c =
    let a = c.args in
    let place = c.last_place-place.result + 1 in
    let others = c.without-others.result in
    let at : place ≡ next_place a.up.now = search rules in
    let to : others ≡ others_of a.me a.up.now = search rules in
    let is : a.up.now.presidency ≡ Some c.in-Some.field-0 = search rules in
    let alone : (others == 0) ≡ true = search rules in
    proposed_alone g.K.RecordDisk.saving a.cluster.now a.me a.up.now c.hold_next.new.up c.ask_members.new.up c.in-Some.field-0 a.text c.session-epoch.result place others a.out.now.items
    c.tell_proposed.new.out.items c.keep_and_send.new.out.items c.acknowledge_held.new.out.items a.disk.now c.keep_and_send.new.disk c.acknowledge_held.new.disk _
    c.session-epoch.ensures.value at to is c.in_ok-hold_next.ensures.after c.ask_members.ensures.after c.in_ok-tell_proposed.ensures.told c.in_ok-keep_and_send.ensures.told
    c.in_ok-keep_and_send.ensures.saved c.in_ok-keep_and_send.ensures.left alone c.acknowledge_held.ensures.plan

pub returns-clause-plan : goal.returns-clause-plan
returns-clause-plan g c =
    let a = c.args in
    let place = c.last_place-place.result + 1 in
    let others = c.without-others.result in
    let at : place ≡ next_place a.up.now = search rules in
    let to : others ≡ others_of a.me a.up.now = search rules in
    let is : a.up.now.presidency ≡ Some c.in-Some.field-0 = search rules in
    let some : (others == 0) ≡ false = search rules in
    proposed_asks g.K.RecordDisk.saving a.cluster.now a.me a.up.now c.hold_next.new.up c.ask_members.new.up c.in-Some.field-0 a.text c.session-epoch.result place others a.out.now.items
    c.tell_proposed.new.out.items c.keep_and_send.new.out.items a.disk.now c.keep_and_send.new.disk
    c.session-epoch.ensures.value at to is c.in_ok-hold_next.ensures.after c.ask_members.ensures.after c.in_ok-tell_proposed.ensures.told c.in_ok-keep_and_send.ensures.told
    c.in_ok-keep_and_send.ensures.saved c.in_ok-keep_and_send.ensures.left some
