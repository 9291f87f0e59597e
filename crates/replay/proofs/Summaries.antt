-- The summary, written or not.
use Rattle.std.proofs.Common.{◌≡◌, ℕ, ◌+◌, List, [], Option, None, Some, take, refl, ap, subst, ◌∙◌}
use Rattle.std.specs.Io.{StartsWith}
use Rattle.std.specs.Io.KnownBytes.{Appends, Keeps}
use Rattle.std.proofs.KnownBytes.{Appends-nil}
use Rattle.agents.specs.Calls.{AgentState}
use Rattle.cl_io.specs.Causes.{AppendsFront, Rose}
use Rattle.replay.specs.declared.counts.Counts.{Counts}
use Rattle.replay.specs.declared.making.Making.{Making}
use Rattle.replay.specs.declared.status.Status.{Status}
use Rattle.replay.specs.declared.status.Status.TheVariants as status
use Rattle.replay.specs.Gens.{CountsHistory, IsGen, counts_made, summary}
use Rattle.interpreter.specs.Outcomes.{Ended}
use Rattle.replay.specs.Runs.{Says}
use Rattle.replay.proofs.Texts.{starts_with_front, starts_with_nothing}

same_keeps : (known : Option (List ℕ)) → Keeps known known
same_keeps None = tt
same_keeps (Some xs) = refl

-- the sink failed
pub summary_failed : (m : Making) (agents : List AgentState) (left held held' : Option (List ℕ)) (reads writes writes' : ℕ) (bytes text : List ℕ) (counts : Counts)
    → AppendsFront held held' bytes → bytes ≡ text → text ≡ summary (10 + m.count) counts → counts ≡ counts_made m agents → Rose writes writes' → CountsHistory m agents (counts_made m agents)
    → IsGen m agents left left held held' reads reads writes writes' status.WriteFault
summary_failed m agents left held held' reads writes writes' bytes text counts front bytes_is text_is counts_are rose history = record {
  unread = same_keeps left;
  says = tt;
  written = take front.count bytes;
  appended = front.appended;
  writes_text = subst (λ (whole : List ℕ). StartsWith whole (take front.count bytes)) (bytes_is ∙ (text_is ∙ ap (λ (c : Counts). summary (10 + m.count) c) counts_are)) (starts_with_front bytes front.count);
  caused = (refl, rose);
  history = history;
}

-- it was written
pub summary_written : (m : Making) (agents : List AgentState) (left held held' : Option (List ℕ)) (reads writes writes' : ℕ) (bytes text : List ℕ) (counts : Counts)
    → Appends held held' bytes → bytes ≡ text → text ≡ summary (10 + m.count) counts → counts ≡ counts_made m agents → writes' ≡ writes → CountsHistory m agents (counts_made m agents)
    → IsGen m agents left left held held' reads reads writes writes' status.Done
summary_written m agents left held held' reads writes writes' bytes text counts appended bytes_is text_is counts_are same history = record {
  unread = same_keeps left;
  says = tt;
  written = bytes;
  appended = appended;
  writes_text = bytes_is ∙ (text_is ∙ ap (λ (c : Counts). summary (10 + m.count) c) counts_are);
  caused = (refl, same);
  history = history;
}

-- memory ran out before it was
pub summary_unmade : (m : Making) (agents : List AgentState) (left held : Option (List ℕ)) (reads writes : ℕ) → CountsHistory m agents (counts_made m agents)
    → IsGen m agents left left held held reads reads writes writes status.NoMemory
summary_unmade m agents left held reads writes history = record {
  unread = same_keeps left;
  says = tt;
  written = [];
  appended = Appends-nil held;
  writes_text = starts_with_nothing (summary (10 + m.count) (counts_made m agents));
  caused = (refl, refl);
  history = history;
}

-- words that ask for a schedule are a command
pub is_command : (count : ℕ) (s : Status) → Says s (Ended count) → s ≡ status.Usage → ⊥
is_command count s says is = subst (λ (t : Status). Says t (Ended count)) is says

-- the words say which schedule, and the agents are those that were handed in
pub known_gen : (m n : Making) (given known : List AgentState) (left left' held held' : Option (List ℕ)) (reads reads' writes writes' : ℕ) (s : Status) → m ≡ n → given ≡ known
    → IsGen m given left left' held held' reads reads' writes writes' s → IsGen n known left left' held held' reads reads' writes writes' s
known_gen m n given known left left' held held' reads reads' writes writes' s same agents h =
    subst (λ (x : Making). IsGen x known left left' held held' reads reads' writes writes' s) same
    (subst (λ (y : List AgentState). IsGen m y left left' held held' reads reads' writes writes' s) agents h)
