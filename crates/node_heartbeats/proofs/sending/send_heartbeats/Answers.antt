use Rattle.std.proofs.Common.{◌∙◌}
use Rattle.node_heartbeats.proofs.Heartbeats.{sent_to}
use Rattle.node_heartbeats.proofs.sending.send_heartbeats.Goals as goal

pub returns : goal.returns
returns c =
    record {
      sent = sent_to c.args.up.now c.send_to_each.result c.args.out.now.items c.send_to_each.new.out.items c.deref.result.now c.receivers.result _
          (c.deref.ensures.value ∙ c.in_ok-receivers.ensures.value) c.receivers.ensures.value c.send_to_each.ensures.sent;
    }
