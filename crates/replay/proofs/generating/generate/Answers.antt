use Rattle.std.proofs.Common.{ℕ, List, Option}
use Rattle.replay.proofs.MadeHistories.{made_history}
use Rattle.replay.proofs.Summaries.{summary_failed, summary_unmade, summary_written}
use Rattle.replay.proofs.generating.generate.Goals as goal

pub returns : goal.returns
returns g c = record {
  made = λ (left : Option (List ℕ)) (reads : ℕ). summary_failed c.args.making c.args.agents left _ _ reads _ _ c.as_bytes.result.now _ c.in-Ok.counts
      c.in-Err.ensures.err c.as_bytes.ensures.value c.in-Ok-summary.ensures c.in-Ok.ensures c.in-Err.ensures.cause.failed (made_history c.traces_of_each_run.ensures c.args.making c.args.agents c.requires.few);
}

pub returns-in-Ok-write_all : goal.returns-in-Ok-write_all
returns-in-Ok-write_all g c = record {
  made = λ (left : Option (List ℕ)) (reads : ℕ). summary_written c.args.making c.args.agents left _ _ reads _ _ c.as_bytes.result.now _ c.in-Ok.counts
      c.in-Ok-write_all.ensures.ok c.as_bytes.ensures.value c.in-Ok-summary.ensures c.in-Ok.ensures c.in-Ok-write_all.ensures.same (made_history c.traces_of_each_run.ensures c.args.making c.args.agents c.requires.few);
}

pub returns-in_default : goal.returns-in_default
returns-in_default g c = record { made = λ (left : Option (List ℕ)) (reads : ℕ). summary_unmade c.args.making c.args.agents left _ reads _ (made_history c.traces_of_each_run.ensures c.args.making c.args.agents c.requires.few) }

pub returns-in_default-summary : goal.returns-in_default-summary
returns-in_default-summary g c = record { made = λ (left : Option (List ℕ)) (reads : ℕ). summary_unmade c.args.making c.args.agents left _ reads _ (made_history c.traces_of_each_run.ensures c.args.making c.args.agents c.requires.few) }
