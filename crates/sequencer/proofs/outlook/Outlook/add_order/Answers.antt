use Rattle.std.proofs.Common.{subst, sym}
use Rattle.sequencer.specs.Fields.{OutlookFields}
use Rattle.sequencer.specs.Outlooks.{outlook_of}
use Rattle.sequencer.specs.Shown.{Shows}
use Rattle.sequencer.proofs.Follows.{renewed_follows}
use Rattle.sequencer.proofs.outlook.Outlook.add_order.Goals as goal

pub returns : goal.returns
returns c = record {
  value = λ v o is same free shows.
      subst (λ (new : OutlookFields). Shows c.args.g.now new (outlook_of c.args.g.now c.args.types.now c.args.limits.now c.args.view.now c.args.order.now)) (sym c.in_ok-renew_all.ensures)
      (renewed_follows c.args.g.now c.args.types.now c.args.limits.now c.args.order.now c.requires.in_order c.args.r.now c.args.view.now c.args.self.now v o is same free shows);
}
