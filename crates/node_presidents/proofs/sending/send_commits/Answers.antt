use Rattle.std.proofs.Common.{◌∙◌}
use Rattle.wire.specs.declared.message.Body.TheVariants as body
use Rattle.node_presidents.proofs.Sent.{sent_to_each}
use Rattle.node_presidents.proofs.sending.send_commits.Goals as goal

pub returns : goal.returns
returns c = record {
  sent = sent_to_each (body.Commit c.args.epoch c.args.place) c.commit_each.result c.args.out.now.items c.commit_each.new.out.items c.deref.result.now c.args.to
      (c.deref.ensures.value ∙ c.in_ok-receivers.ensures.value) c.commit_each.ensures.sent;
}
