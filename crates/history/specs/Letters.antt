-- Messages: what a packet holds, when it was sent, and when it was delivered. A message from a to b is a `sent` line of its kind, with
-- its device, place or number, and then a `delivered` line of that packet or of a copy of it.
use Rattle.std.specs.Prelude.{ℕ, ◌==◌, ◌&&◌, ◌||◌, Bool, false, if◌then◌else◌, List, [], ◌∷◌, Option, Some, None, option_map}
use Rattle.wire.specs.Reads.{whole_of}
use Rattle.wire.specs.declared.message.Body.{Body}
use Rattle.wire.specs.declared.message.Body.TheVariants as body
use Rattle.history.specs.Names as name
use Rattle.history.specs.Names.{Name, named, same_name}
use Rattle.history.specs.Moment.{Moment, Said, Part}
use Rattle.history.specs.Trace.{sent, delivered, repeated}
use Rattle.history.specs.Order.{somewhere}

-- ---- what a message is called

-- how a message is called that says this
abbrev pub name_of : Body → Name
name_of (body.Heartbeat promised session is_member) = name.Heartbeat
name_of (body.Collect epoch members) = name.Collect
name_of (body.Promise epoch newest members valid flagged committed pending) = name.Promise
name_of (body.Nack epoch promised) = name.Nack
name_of (body.SeizeQuorum epoch members d) = name.SeizeQuorum d
name_of (body.SeizeData epoch members d) = name.SeizeData d
name_of (body.Seized epoch d outcome) = name.Seized d
name_of (body.Install install) = name.Install
name_of (body.Ready epoch joined report) = name.Ready
name_of (body.Start epoch) = name.Start
name_of (body.Prepare epoch place text) = name.Prepare place
name_of (body.Prepared epoch place) = name.Prepared place
name_of (body.Commit epoch place) = name.Commit place
name_of (body.Order order) = name.Order order.number
name_of (body.Done epoch number outcome) = name.Done number
name_of (body.Request epoch number text) = name.Request number
name_of (body.Answer epoch number text) = name.Answer number
name_of (body.Excluded epoch newest) = name.Excluded

-- ---- letters

-- A packet as it was sent, and what was before that.
pub record Letter : Type 0 where
  pub from : ℕ
  pub to : ℕ
  pub name : Name
  pub bytes : List ℕ
  pub before : List Moment

-- the letter in the packet of this number; a copy holds what its original holds
abbrev pub letter_of : ℕ → List Moment → Option Letter
letter_of p [] = None
letter_of p (sent q a b called bytes ∷ before) =
    if q == p then Some (record { from = a; to = b; name = named called; bytes = bytes; before = before }) else letter_of p before
letter_of p (repeated q copy ∷ before) = letter_of (if copy == p then q else p) before
letter_of p (_ ∷ before) = letter_of p before

-- the letter that a moment delivers
abbrev pub arriving : List Moment → Moment → Option Letter
arriving before (delivered p a b) = letter_of p before
arriving before _ = None

-- the letter that was delivered in the event under way
abbrev pub arrived : List Moment → Option Letter
arrived [] = None
arrived (Said line ∷ before) = None
arrived (Part event ∷ before) = None
arrived (delivered p a b ∷ before) = letter_of p before
arrived (_ ∷ before) = arrived before

abbrev pub passes : (Letter → Bool) → Option Letter → Bool
passes test None = false
passes test (Some l) = test l

-- whether a letter was delivered that passes the test
abbrev pub reached : (Letter → Bool) → List Moment → Bool
reached test moments = somewhere (λ before x. passes test (arriving before x)) moments

-- the same of those after the last moment that stops
abbrev pub reached_since : (Moment → Bool) → (Letter → Bool) → List Moment → Bool
reached_since stop test [] = false
reached_since stop test (x ∷ before) = if stop x then false else (passes test (arriving before x) || reached_since stop test before)

abbrev pub is_letter : Name → ℕ → ℕ → Letter → Bool
is_letter called a b l = same_name l.name called && (l.from == a) && (l.to == b)

-- a message from a to b, and then an answer from b to a that was sent after it was delivered
abbrev pub is_exchanged : Name → Name → ℕ → ℕ → List Moment → Bool
is_exchanged question reply a b moments = reached (λ l. is_letter reply b a l && reached (is_letter question a b) l.before) moments

-- the moment sends this message from n to m
abbrev pub sends : ℕ → ℕ → Name → Moment → Bool
sends n m called (sent p a b found bytes) = (a == n) && (b == m) && same_name (named found) called
sends n m called _ = false

-- ---- what a letter says

abbrev pub says : List ℕ → Option Body
says bytes = option_map (λ m. m.body) (whole_of bytes)

-- the text of a Prepare, a Request or an Answer
abbrev pub text_in : Option Body → Option (List ℕ)
text_in (Some (body.Prepare epoch place text)) = Some text
text_in (Some (body.Request epoch number text)) = Some text
text_in (Some (body.Answer epoch number text)) = Some text
text_in _ = None
