use Rattle.std.proofs.Common.{subst, sym}
use Rattle.sequencer.specs.Fields.{OutlookFields}
use Rattle.sequencer.specs.Outlooks.{outlook_of}
use Rattle.sequencer.specs.Shown.{Shows}
use Rattle.sequencer.proofs.Follows.{kept_shows}
use Rattle.sequencer.proofs.outlook.Outlook.find.Goals as goal

pub returns : goal.returns
returns c = record {
  value = subst (λ (o : OutlookFields). Shows c.args.g.now o (outlook_of c.args.g.now c.args.types.now c.args.limits.now c.args.view.now c.args.order.now)) (sym c.in_ok-outlook.ensures)
      (kept_shows c.args.g.now c.args.types.now c.args.limits.now c.args.view.now c.args.order.now);
}
