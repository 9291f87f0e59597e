use Rattle.node_model.specs.Entries.{replying}
use Rattle.node_queries.proofs.Querying.{told_no_memory}
use Rattle.node_queries.proofs.telling.reply.Goals as goal

pub returns-in_err-tell : goal.returns-in_err-tell
returns-in_err-tell c =
    let a = c.args in
    record {
      told = told_no_memory (replying a.me a.number a.answer a.up) a.out.now.items c.tell.new.out.items c.from_residual.result c.in_err-tell.field-0.0 c.in_err-tell.ensures.only c.from_residual.ensures.1;
    }
