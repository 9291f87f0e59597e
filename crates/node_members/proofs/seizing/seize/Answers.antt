use Rattle.std.proofs.Common.{◌≡◌, ◌==◌, false, subst, sym, ◌∙◌}
use Rattle.node_model.specs.Seats.{session_of}
use Rattle.node_members.proofs.Requests.{is_its, seizes_then}
use Rattle.node_members.proofs.seizing.seize.Goals as goal

pub returns : goal.returns
returns c =
    let a = c.args in
    let r = c.args.request in
    let taken = c.take_request-taken in
    record {
      follows = seizes_then a.cluster.now a.me a.up taken.new.up a.from r.kind r.epoch r.members r.device c.seized-kept.result a.out.now.items taken.new.out.items taken.result c.hand_over.result
          (subst (λ z. (r.epoch == z) ≡ false) c.zero.ensures.value (sym c.eq.ensures ∙ c.if-eq.false)) (is_its c.session.result (session_of a.up) r.epoch c.ne.result c.session.ensures.value c.ne.ensures c.if-ne.false) c.seized-kept.ensures.value c.hand_over.ensures.value taken.ensures;
    }
