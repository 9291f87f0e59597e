-- What a president knows of the requests of other nodes.
use Rattle.std.specs.Prelude.{ℕ, ◌^◌, ◌≡◌, ◌≢◌, ◌≤◌, ◌<◌, ◌==◌, ◌&&◌, nat_le, nat_lt, Bool, true, false, List, [], length, Option, None, Some, Ok}
use Rattle.std.specs.List.{AllByRecursion}
use Rattle.std.specs.Option.{option_map}
use Rattle.admin_words.specs.Commands.{request_of}
use Rattle.admin_words.specs.declared.request.Request.TheVariants as wish
use Rattle.answer_words.specs.Answers.{answer_in}
use Rattle.ccr_tables.specs.declared.update.Update.{Update}
use Rattle.proposals.specs.State.{State, first_in, kept_at}
use Rattle.proposals.specs.declared.arrived.Arrived.{Arrived}
use Rattle.proposals.specs.declared.arrived.Kept.{Kept}
use Rattle.proposals.specs.declared.arrived.Proposed.{Proposed}
use Rattle.status_report.specs.CommandLines.{reply_text}
use Rattle.status_report.specs.declared.command_entry.Answer.TheVariants as answer
use Rattle.update_words.specs.Words.{words_of}
use Rattle.wire.specs.Spelling.{spelling}
use Rattle.wire.specs.declared.message.Body.{Body}
use Rattle.wire.specs.declared.message.Body.TheVariants as body
use Rattle.history.specs.Contents.{proposed_at}
use Rattle.history.specs.Moment.{Moment}
use Rattle.history.specs.Requests.{Request, Waiting, requests_of}
use Rattle.history.specs.Setting.{Setting, coordinator}
use Rattle.node_model.specs.Seats.{session_of, version_of}
use Rattle.node_model.specs.declared.cluster.Cluster.{Cluster}
use Rattle.node_model.specs.declared.node.UpNode.{UpNode}
use Rattle.node_model.specs.declared.presidency.Presidency.{Presidency}
use Rattle.run_messages.specs.Laws.{membership_in}
use Rattle.run_commands.specs.acknowledged.Hands.{is_reached}
use Rattle.run_commands.proofs.acknowledged.Granting.{IsAcked, open_in}
use Rattle.run_commands.specs.acknowledged.AnsweringGuards.{Due}
use Rattle.run_commands.specs.acknowledged.AnsweringGuards.Due.{Even, Gave, Owes}
use Rattle.run_commands.specs.acknowledged.Requested.{HasRequested}
use Rattle.run_commands.proofs.acknowledged.Settled.{IsSettled}

-- ---- requests that wait

abbrev pub WaitsIf : (ℕ → ℕ → Type 0) → Request → Type 0
WaitsIf F r = F r.node r.number → r.stage ≡ Waiting

abbrev pub WaitAll : (ℕ → ℕ → Type 0) → List Request → Type 0
WaitAll F rs = AllByRecursion (WaitsIf F) rs

-- the lines do not tell its answer yet
abbrev pub IsNotGiven : Due → ℕ → ℕ → Type 0
IsNotGiven (Gave a reply) m q = ((a.from == m) && (a.number == q)) ≡ false
IsNotGiven d m q = Unit {0}

-- it is another node's, and not past
pub record IsOpenTo (n : ℕ) (d : Due) (answers : List (Option Kept)) (m q : ℕ) : Type 0 where
  pub other : m ≢ n
  pub later : is_reached (kept_at answers m) q ≡ false
  pub given : IsNotGiven d m q

-- ---- answers that are kept

-- a message can be sent: it has a packet's size, and there is a number for it
abbrev pub can_send : ℕ → ℕ → Body → Bool
can_send next n b = nat_le (length (spelling (record { sender = n; body = b }))) 131072 && nat_lt next (2 ^ 63)

abbrev pub IsNotOwed : Due → ℕ → Type 0
IsNotOwed (Owes a) m = a.from ≢ m
IsNotOwed d m = Unit {0}

abbrev pub KeptSettled : Setting → Cluster → ℕ → ℕ → Due → List (Option Kept) → ℕ → List Moment → Type 0
KeptSettled S c n e d answers next ms = (m : ℕ) (k : Kept) → 1 ≤ m → m ≢ n → kept_at answers m ≡ Some k → answer_in k.text ≡ Some answer.Ok → IsNotOwed d m → can_send next n (body.Answer e k.number k.text) ≡ true
    → IsSettled S c e m k.number ms

-- ---- what is proposed

abbrev pub place_of : Option Proposed → Option ℕ
place_of o = option_map (λ p. p.place) o

-- it is the update of the first request
pub record IsFirsts (c : Cluster) (e : ℕ) (s : State) (v : ℕ) (ms : List Moment) : Type 0 where
  pub request : Arrived
  pub first : first_in s.arrived ≡ Some request
  pub update : Update
  pub read : request_of (version_of c) request.text ≡ Ok (wish.Change update)
  pub words : proposed_at (Some e) v ms ≡ Some (words_of update)

-- ---- what is due

-- the update of this request is acknowledged, and nothing was answered since
pub record IsOwed (S : Setting) (c : Cluster) (n e : ℕ) (a : Arrived) (answers : List (Option Kept)) (ms : List Moment) : Type 0 where
  pub update : Update
  pub read : request_of (version_of c) a.text ≡ Ok (wish.Change update)
  pub acked : IsAcked e (words_of update) ms
  pub opens : a.from ≢ n → open_in S e a.from a.number (words_of update) ms ≡ true
  pub kept : a.from ≢ n → kept_at answers a.from ≡ Some (record { number = a.number; text = reply_text answer.Ok })

abbrev pub DueSo : Setting → Cluster → ℕ → ℕ → Due → State → List Moment → Type 0
DueSo S c n e Even s ms = Unit {0}
DueSo S c n e (Gave a reply) s ms = a.from ≢ n → answer_in (reply_text reply) ≡ Some answer.Ok → IsSettled S c e a.from a.number ms
DueSo S c n e (Owes a) s ms = IsOwed S c n e a s.answers ms

-- ---- a president of e, node n

pub record Remote (S : Setting) (c : Cluster) (n e : ℕ) (d : Due) (s : State) (next : ℕ) (ms : List Moment) : Type 0 where
  pub waits : WaitAll (IsOpenTo n d s.answers) (requests_of S e ms)
  pub kept : KeptSettled S c n e d s.answers next ms
  pub came : AllByRecursion (λ a. a.from ≢ n → HasRequested a.from a.number e a.text ms) s.arrived
  pub first : (v : ℕ) → place_of s.proposed ≡ Some v → IsFirsts c e s v ms
  pub due : DueSo S c n e d s ms

abbrev pub RemoteIn : Setting → Cluster → ℕ → ℕ → Due → Option Presidency → ℕ → List Moment → Type 0
RemoteIn S c n e d None next ms = d ≡ Even
RemoteIn S c n e d (Some p) next ms = Remote S c n e d p.proposals next ms

-- ---- a node

-- no request has come in memberships above its promise, which it would coordinate
abbrev pub IsUntouched : Setting → ℕ → ℕ → List Moment → Type 0
IsUntouched S n promised ms = (e : ℕ) → promised < e → coordinator e ≡ n → requests_of S e ms ≡ []

-- .. nor in its session before it is a member
pub record RemoteUp (S : Setting) (c : Cluster) (n promised : ℕ) (d : Due) (x : UpNode) (next : ℕ) (ms : List Moment) : Type 0 where
  pub within : IsUntouched S n promised ms
  pub forming : membership_in x.seat ≡ None → 0 < session_of x → coordinator (session_of x) ≡ n → requests_of S (session_of x) ms ≡ []
  pub hand : RemoteIn S c n (session_of x) d x.presidency next ms
