use Rattle.std.proofs.Common.{rules, ◌≡◌, ◌++◌, ◌∙◌}
use Rattle.interpreter.specs.Outcomes.{closing}
use Rattle.interpreter.specs.Readers.{ending_of}
use Rattle.replay.proofs.Closes.{close_without_memory, close_failed}
use Rattle.replay.proofs.driver.close.Goals as goal

pub returns-in-NoMemory : goal.returns-in-NoMemory
returns-in-NoMemory g c = record { closed = close_without_memory c.args.task c.args.stop c.args.lines _ _ _ }

pub returns-then-is_err : goal.returns-then-is_err
returns-then-is_err g c = record { closed = close_without_memory c.args.task c.args.stop c.args.lines _ _ _ }

pub returns-in-Err : goal.returns-in-Err
returns-in-Err g c =
    let is : c.push_closing.new.text.items ≡ c.args.text.now.items ++ closing c.args.task (ending_of c.args.stop c.args.lines) = search rules in
    record {
      closed = close_failed c.args.task c.args.stop c.args.lines c.args.text.now.items c.as_slice.result.now _ _ _ _ c.in_default.not-NoMemory
          (c.as_slice.ensures.value ∙ is) c.in-Err.ensures.err c.in-Err.ensures.cause.failed;
    }
