use Rattle.std.proofs.Common.{ap, sym}
use Rattle.ccr_tables.specs.State.{first_config}
use Rattle.update_log.specs.Logs.{config_after, with_texts}
use Rattle.update_log.proofs.LogSteps.{all_done, one_bad, one_more}
use Rattle.update_log.proofs.configuration.config_after.Goals as goal

pub loop-text-init : goal.loop-text-init
loop-text-init c = ap (λ s. with_texts s c.args.texts.now) (sym c.in_ok-config.ensures.value)

pub loop-text-preserved : goal.loop-text-preserved
loop-text-preserved c =
    one_more (with_texts (first_config c.args.header.now) c.args.texts.now) c.loop-text.config c.args.texts.now c.loop-text.text-index c.loop-text.invariant
    c.items.result.now c.text-item.result c.add.new.config c.in_ok-add.field-0 c.loop-text-test.true c.items.ensures.value c.text-item.is
    c.in_ok-add.ensures.taken c.if-not-branch.false c.in_ok-add.ensures.after

pub returns-then-not-branch : goal.returns-then-not-branch
unfolding config_after
returns-then-not-branch c = record {
  value = one_bad (with_texts (first_config c.args.header.now) c.args.texts.now) c.loop-text.config c.args.texts.now c.loop-text.text-index
      c.loop-text.invariant c.items.result.now c.text-item.result c.in_ok-add.field-0 c.loop-text-test.true c.items.ensures.value c.text-item.is
      c.in_ok-add.ensures.taken c.if-not-branch.true;
}

pub returns : goal.returns
unfolding config_after
returns c = record {
  value = all_done (with_texts (first_config c.args.header.now) c.args.texts.now) c.loop-text.config c.args.texts.now c.loop-text.text-index
      c.loop-text.invariant c.loop-text-test.false;
}
