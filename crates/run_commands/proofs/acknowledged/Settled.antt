-- What an answer `ok` of a president rests on.
use Rattle.std.specs.Prelude.{ℕ, ◌≡◌, ◌≢◌, ◌⊎◌, true, List, ◌∷◌, Some}
use Rattle.answer_words.specs.Answers.{answer_in}
use Rattle.status_report.specs.declared.command_entry.Answer.TheVariants as answer
use Rattle.wire.specs.declared.message.Body.TheVariants as body
use Rattle.history.specs.Letters.{says}
use Rattle.history.specs.Member.{member_of}
use Rattle.history.specs.Moment.{Moment}
use Rattle.history.specs.Order.{Always}
use Rattle.history.specs.Requests.{command_of}
use Rattle.history.specs.Setting.{Setting, coordinator}
use Rattle.history.specs.Trace.{ack, answered, sent}
use Rattle.node_model.specs.declared.cluster.Cluster.{Cluster}
use Rattle.run_commands.proofs.acknowledged.Granting.{IsAcked, granted}
use Rattle.run_commands.proofs.acknowledged.Pending.{IsPending}
pub use Rattle.run_commands.specs.carried.Replies.{AnswersAreMembers, IsMembers, IsOfMember, IsRepeated}
use Rattle.run_commands.specs.acknowledged.Requested.{HasRequested, IsPlain}

-- ---- by the lines

-- what is acknowledged is in hand, and its place was not acknowledged before
abbrev pub IsAckPending : List Moment → Moment → Type 0
IsAckPending before (ack e v words) = IsPending e (record { place = v; words = words }) before
IsAckPending before _ = Unit {0}

abbrev pub AcksArePending : List Moment → Type 0
AcksArePending moments = Always IsAckPending moments

-- ---- at the president

-- the request of another node is granted, or is no update's
abbrev pub IsSettled : Setting → Cluster → ℕ → ℕ → ℕ → List Moment → Type 0
IsSettled S c e n q ms = (granted S e n q ms ≡ true) ⊎ ((text : List ℕ) × HasRequested n q e text ms × IsPlain c text)

-- so it is at each Answer with `ok` to another node
abbrev pub IsSettledAt : Setting → Cluster → List Moment → Moment → Type 0
IsSettledAt S c before (sent p n b called bytes) =
    (e q : ℕ) (text : List ℕ) → b ≢ n → says bytes ≡ Some (body.Answer e q text) → answer_in text ≡ Some answer.Ok → IsSettled S c e b q (sent p n b called bytes ∷ before)
IsSettledAt S c before _ = Unit {0}

abbrev pub AnswersAreSettled : Setting → Cluster → List Moment → Type 0
AnswersAreSettled S c moments = Always (IsSettledAt S c) moments

-- a president tells `ok` to an update of its own once it is acknowledged
abbrev pub IsOwnSettled : Setting → List Moment → Moment → Type 0
IsOwnSettled S before (answered n q answer.Ok) =
    (e : ℕ) (words : List ℕ) → member_of n before ≡ Some e → coordinator e ≡ n → command_of S n q before ≡ Some words → S.is_update words ≡ true → IsAcked e words before
IsOwnSettled S before _ = Unit {0}

abbrev pub OwnAreSettled : Setting → List Moment → Type 0
OwnAreSettled S moments = Always (IsOwnSettled S) moments
