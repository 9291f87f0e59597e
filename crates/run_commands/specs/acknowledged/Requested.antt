-- Which Requests a node has sent.
use Rattle.std.specs.Prelude.{ℕ, ◌≡◌, ◌≢◌, ◌⊎◌, List, [], ◌∷◌, Some, Ok}
use Rattle.admin_words.specs.Commands.{request_of}
use Rattle.admin_words.specs.declared.request.Request.TheVariants as wish
use Rattle.ccr_tables.specs.declared.update.Update.{Update}
use Rattle.wire.specs.declared.message.Body.TheVariants as body
use Rattle.history.specs.Letters.{Letter, says}
use Rattle.history.specs.Member.{member_of}
use Rattle.history.specs.Moment.{Moment}
use Rattle.history.specs.Names as name
use Rattle.history.specs.Names.{named}
use Rattle.history.specs.Order.{Always}
use Rattle.history.specs.Trace.{asked, sent}
use Rattle.node_model.specs.declared.cluster.Cluster.{Cluster}
use Rattle.node_model.specs.Seats.{version_of}

-- the letter was sent
abbrev pub WasSent : Letter → List Moment → Type 0
WasSent l [] = ⊥
WasSent l (sent p n b called bytes ∷ before) = (l ≡ record { from = n; to = b; name = named called; bytes = bytes; before = before }) ⊎ WasSent l before
WasSent l (_ ∷ before) = WasSent l before

-- n sent a Request of e with this number and this text
pub record HasRequested (n q e : ℕ) (text : List ℕ) (ms : List Moment) : Type 0 where
  pub letter : Letter
  pub sent_so : WasSent letter ms
  pub from : letter.from ≡ n
  pub says_so : says letter.bytes ≡ Some (body.Request e q text)

-- a member asks by a number before it sends a Request with it
abbrev pub IsAskedFirst : List Moment → Moment → Type 0
IsAskedFirst before (asked n q) = (e : ℕ) (text : List ℕ) → member_of n before ≡ Some e → HasRequested n q e text before → ⊥
IsAskedFirst before _ = Unit {0}

abbrev pub AskedFirst : List Moment → Type 0
AskedFirst moments = Always IsAskedFirst moments

-- the text is no update's
abbrev pub IsPlain : Cluster → List ℕ → Type 0
IsPlain c text = (u : Update) → request_of (version_of c) text ≡ Ok (wish.Change u) → ⊥

-- an Answer goes to another node
abbrev pub IsToAnother : List Moment → Moment → Type 0
IsToAnother before (sent p n b called bytes) = (q : ℕ) → named called ≡ name.Answer q → b ≢ n
IsToAnother before _ = Unit {0}
