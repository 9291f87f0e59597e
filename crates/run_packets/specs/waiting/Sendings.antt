-- What a node sends in a step, and its size.
use Rattle.std.specs.Prelude.{ℕ, ◌≡◌, ◌⊎◌, ◌^◌, nat_le, nat_lt, true, List, [], ◌∷◌, length}
use Rattle.history.specs.Links.{links_after}
use Rattle.history.specs.Moment.{Moment}
use Rattle.node_model.specs.declared.output.Output.{Output}
use Rattle.node_model.specs.declared.output.Output.TheVariants.{Sends, Tells}
use Rattle.status_report.specs.declared.entry.Entry.TheVariants as entry
use Rattle.status_report.specs.declared.node_entry.NodeEntry.TheVariants as note
use Rattle.wire.specs.Spelling.{spelling}
use Rattle.wire.specs.declared.message.Body.{Body}

-- it sends m this message, or goes down
abbrev pub SendsOrFalls : ℕ → ℕ → Body → Output → Type 0
SendsOrFalls n m b (Tells (entry.Node k (note.Down why))) = k ≡ n
SendsOrFalls n m b (Tells e) = ⊥
SendsOrFalls n m b (Sends to other) = (to ≡ m) × (other ≡ b)

abbrev pub IsBehind : ℕ → ℕ → Body → List Output → Type 0
IsBehind n m b [] = ⊥
IsBehind n m b (o ∷ os) = SendsOrFalls n m b o ⊎ IsBehind n m b os

-- the message has a packet's size
abbrev pub IsShort : ℕ → Body → Type 0
IsShort n b = nat_le (length (spelling (record { sender = n; body = b }))) 131072 ≡ true

-- a packet number is left
abbrev pub IsLeft : ℕ → Type 0
IsLeft next = nat_lt next (2 ^ 63) ≡ true

abbrev pub IsLeftAfter : ℕ → List Moment → Type 0
IsLeftAfter cells moments = IsLeft (links_after cells moments).next
