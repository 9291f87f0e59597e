-- What the words `gen SEED COUNT` ask for, and what is written of it.
use Rattle.std.specs.Prelude.{◌≡◌, ℕ, ◌+◌, ◌-◌, ◌^◌, nat_eq, nat_le, min, Bool, true, not, ◌&&◌, if◌then◌else◌, List, [], ◌∷◌, ◌++◌, Option, Some, None, codes, count_by}
use Rattle.std.specs.List.{flat_map, starts_with, ends_with}
use Rattle.std.specs.Fmt.{decimal}
use Rattle.std.specs.Str.{bytes_eq}
use Rattle.std.specs.Io.KnownBytes.{Appends, Keeps}
use Rattle.agents.specs.Calls.{AgentState}
use Rattle.grammar_laws.specs.Reads.{LacksServers}
use Rattle.schedule_gen.specs.Events.{events_from}
use Rattle.schedule_gen.specs.Grammar.{four_nodes, lines_from}
use Rattle.schedule_text.specs.Allowed.{IsHeader}
use Rattle.schedule_text.specs.declared.number.Numeral.{Numeral}
use Rattle.schedule_text.specs.declared.number.Numeral.TheVariants.{Within, Beyond}
use Rattle.schedule_text.specs.Words.{decimal_in}
use Rattle.world_model.specs.First.{first_world}
use Rattle.replay.specs.declared.counts.Counts.{Counts}
use Rattle.replay.specs.declared.making.Making.{Making}
use Rattle.replay.specs.declared.status.Status.{Status}
use Rattle.interpreter.specs.declared.task.Task.TheVariants.{Run}
use Rattle.run_outcomes.specs.Traces.{IsTrace}
use Rattle.replay.specs.Histories.{AreAllowed}
use Rattle.interpreter.specs.Outcomes.{Ended, outcome_of, pieces}
use Rattle.replay.specs.Replays.{texts_of}
use Rattle.replay.specs.Runs.{IsCaused, Says, Writes}
use Rattle.interpreter.specs.Sessions.{first_so_far}

-- a number of 64 bits, written as the numbers of schedules are: decimal, without a leading zero
abbrev pub within : Option Numeral → Option ℕ
within None = None
within (Some Beyond) = None
within (Some (Within n)) = Some n

abbrev pub number_of : List ℕ → Option ℕ
number_of word = within (decimal_in word)

-- a seed, and how many lines follow the opening: at most 90,000
abbrev pub making_by : Option ℕ → Option ℕ → Option Making
making_by None count = None
making_by (Some seed) None = None
making_by (Some seed) (Some count) = if nat_le count 90000 then Some (record { seed = seed; count = count }) else None

-- the words `gen SEED COUNT`
abbrev pub making_of : List (List ℕ) → Option Making
making_of [] = None
making_of (word ∷ []) = None
making_of (word ∷ seed ∷ []) = None
making_of (word ∷ seed ∷ count ∷ []) = if bytes_eq word (codes "gen") then making_by (number_of seed) (number_of count) else None
making_of (word ∷ seed ∷ count ∷ other ∷ words) = None

-- these lines, each ended by a newline (10)
abbrev pub ended : List (List ℕ) → List ℕ
ended lines = flat_map (λ line. line ++ 10 ∷ []) lines

-- the schedule that is made: ten lines of opening, and so many more
abbrev pub made : Making → List ℕ
made m = ended (lines_from m.seed 0 (10 + m.count))

-- what a line of a trace is, by its first word, and a write by its last
abbrev pub is_start : List ℕ → Bool
is_start line = starts_with nat_eq line (codes "start ")

abbrev pub is_ack : List ℕ → Bool
is_ack line = starts_with nat_eq line (codes "ack ")

abbrev pub is_call : List ℕ → Bool
is_call line = starts_with nat_eq line (codes "call ")

abbrev pub is_write : List ℕ → Bool
is_write line = starts_with nat_eq line (codes "write ")

abbrev pub is_accepted : List ℕ → Bool
is_accepted line = is_write line && ends_with nat_eq line (codes " accepted")

-- each other write was refused
abbrev pub is_refused : List ℕ → Bool
is_refused line = is_write line && not (ends_with nat_eq line (codes " accepted"))

-- how many of the lines pass the test; a count stays at the end of its type
abbrev pub how_many : (List ℕ → Bool) → List (List ℕ) → ℕ
how_many test lines = min (count_by test lines) (2 ^ 64 - 1)

-- the counts of the lines of a trace
abbrev pub counts_of : List ℕ → Counts
counts_of text = record {
  starts = how_many is_start (pieces text);
  acks = how_many is_ack (pieces text);
  accepted = how_many is_accepted (pieces text);
  refused = how_many is_refused (pieces text);
  calls = how_many is_call (pieces text);
}

-- the counts of what `run` writes of the schedule that is made, with these agents
abbrev pub counts_made : Making → List AgentState → Counts
counts_made m agents = counts_of (outcome_of Run agents true (made m)).text

-- a line of the summary: a word, and a count
abbrev pub counted : List ℕ → ℕ → List ℕ
counted word count = word ++ 32 ∷ decimal count ++ 10 ∷ []

-- the six lines of the summary
abbrev pub summary : ℕ → Counts → List ℕ
summary lines c =
    counted (codes "lines") lines ++ counted (codes "starts") c.starts ++ counted (codes "acks") c.acks
    ++ counted (codes "accepted") c.accepted ++ counted (codes "refused") c.refused ++ counted (codes "calls") c.calls

-- The lines that are counted are those of a history: the header is allowed and has no server, and each event that the draws mean is allowed. The text is what
-- the first world of the header, with these agents, writes of all of them, and it is their trace.
pub record CountsHistory (m : Making) (agents : List AgentState) (counts : Counts) : Type 0 where
  pub text : List ℕ
  pub counted : counts ≡ counts_of text
  pub header : IsHeader four_nodes
  pub no_server : LacksServers four_nodes
  pub allowed : AreAllowed four_nodes first_so_far (events_from m.seed 5 (5 + m.count))
  pub written : text ≡ texts_of (first_world four_nodes 65536 agents) (events_from m.seed 5 (5 + m.count))
  pub trace : IsTrace four_nodes (events_from m.seed 5 (5 + m.count)) text

-- Nothing is read, and the status and the bytes written tell the summary of the schedule that is made: all of it, or,
-- where the sink failed or memory ran out, its beginning. No line is refused, and no fault is the source's. What the summary counts is a history.
pub record IsGen (m : Making) (agents : List AgentState) (left left' held held' : Option (List ℕ)) (reads reads' writes writes' : ℕ) (result : Status) : Type 0 where
  pub unread : Keeps left left'
  pub says : Says result (Ended (10 + m.count))
  pub written : List ℕ
  pub appended : Appends held held' written
  pub writes_text : Writes result (summary (10 + m.count) (counts_made m agents)) written
  pub caused : IsCaused result reads reads' writes writes'
  pub history : CountsHistory m agents (counts_made m agents)
