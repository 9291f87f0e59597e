-- What a small step of a node leaves of its requests, and of what messages carry.
use Rattle.std.specs.Prelude.{ℕ, ◌≡◌, ◌≤◌, ◌<◌, ◌^◌, true, List, [], ◌∷◌, length, Option, Some, IfSome, is_some}
use Rattle.history.specs.Contents.{CarriesUpdate, proposed_at}
use Rattle.history.specs.Member.{member_of}
use Rattle.history.specs.Moment.{Moment, lines_of}
use Rattle.history.specs.Order.{Always}
use Rattle.history.specs.Requests.{before_asking}
use Rattle.history.specs.Setting.{Setting}
use Rattle.history.specs.Trace.{answered}
use Rattle.node_model.specs.Presidents.{last_place}
use Rattle.node_model.specs.Seats.{record_of, session_of}
use Rattle.node_model.specs.declared.node.UpNode.{UpNode}
use Rattle.run_messages.specs.Laws.{membership_in}
use Rattle.run_commands.specs.carried.Replies.{IsMembers}

-- a line carries what it is to carry, and an answer `ok` is a member's
abbrev pub CarriesSo : Setting → List Moment → Moment → Type 0
CarriesSo S before (answered n q reply) = CarriesUpdate S before (answered n q reply) × IsMembers before (answered n q reply)
CarriesSo S before x = CarriesUpdate S before x

abbrev pub CarriedSo : Setting → List Moment → Type 0
CarriedSo S moments = Always (CarriesSo S) moments

-- what a president has pending was proposed, at its last place
abbrev pub PendingSo : List Moment → UpNode → Type 0
PendingSo ms x = (text : List ℕ) → is_some x.presidency ≡ true → (record_of x).entries.pending ≡ Some text
    → proposed_at (Some (session_of x)) (last_place x) ms ≡ Some text

-- a command that was taken out of the queue was asked in this membership
abbrev pub HandSo : ℕ → List Moment → UpNode → Option ℕ → Type 0
HandSo n ms x h = IfSome h (λ k. member_of n (before_asking n k ms) ≡ membership_in x.seat)

-- how many lines of the schedule came before the last moment: each number of a command takes one
abbrev pub used_lines : List Moment → ℕ
used_lines [] = 0
used_lines (x ∷ before) = length (lines_of before)

-- the numbers of a node are no more than these lines, and there are few
pub record Counted (asked : ℕ) (ms : List Moment) : Type 0 where
  pub low : asked ≤ used_lines ms
  pub few : length (lines_of ms) < 2 ^ 63
