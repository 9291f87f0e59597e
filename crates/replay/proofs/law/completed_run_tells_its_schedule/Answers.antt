use Rattle.std.specs.Prelude.{ℕ, List}
use Rattle.agents.specs.Calls.{AgentState}
use Rattle.schedule_text.specs.declared.header.HeaderState.TheVariants.{Opening}
use Rattle.interpreter.specs.Outcomes.{pieces}
use Rattle.replay.proofs.Replays.{head_completes}
use Rattle.replay.proofs.law.completed_run_tells_its_schedule.Goals as goal

pub returns : goal.returns
returns c = λ (agents : List AgentState) ended (bytes : List ℕ) h. head_completes ended (pieces bytes) Opening agents 0 h
