use Rattle.std.proofs.Common.{◌∙◌}
use Rattle.wire.specs.declared.message.Body.TheVariants as body
use Rattle.node_presidents.proofs.Sent.{sent_to_each}
use Rattle.node_presidents.proofs.sending.send_prepares.Goals as goal

pub returns : goal.returns
returns c = record {
  sent = sent_to_each (body.Prepare c.args.epoch c.args.place c.args.text.now) c.prepare_each.result c.args.out.now.items c.prepare_each.new.out.items c.deref.result.now c.args.to
      (c.deref.ensures.value ∙ c.in_ok-receivers.ensures.value) c.prepare_each.ensures.sent;
}
