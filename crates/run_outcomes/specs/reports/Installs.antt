-- What carries the proofs, of what has come of Installs, against what a node has installed.
use Rattle.std.specs.Prelude.{ℕ, ◌<◌, ◌≡◌, ◌≢◌, ◌≤◌, ◌⊎◌, ◌&&◌, Bool, true, List, Some}
use Rattle.history.specs.Letters.{Letter, is_letter, reached_since}
use Rattle.history.specs.Member.{number_of}
use Rattle.history.specs.Messages.{are_same}
use Rattle.history.specs.Moment.{Moment}
use Rattle.history.specs.Names as name
use Rattle.history.specs.Seizing.{is_boot}
use Rattle.history.specs.Setting.{coordinator}
use Rattle.node_model.specs.Seats.{installed_of, promised_of, session_of}
use Rattle.node_model.specs.declared.node.UpNode.{UpNode}
use Rattle.refinement.specs.Guards.{Says}
use Rattle.refinement.specs.Ties.{Delivered}
use Rattle.wire.specs.declared.message.Body.{Body}
use Rattle.wire.specs.declared.message.Body.TheVariants as body

-- an Install of e to node n
abbrev pub is_of : ℕ → ℕ → Letter → Bool
is_of n e l = is_letter name.Install l.from n l && (are_same (Some e) (number_of l) && true)

-- one has come since the node went up
abbrev pub has_come : ℕ → ℕ → List Moment → Bool
has_come n e moments = reached_since (is_boot n) (is_of n e) moments

-- In a session of another's the node has installed it where its Install came, and only there; and none came of a number that it has not promised.
pub record InstallsSo (came : ℕ → Bool) (n : ℕ) (x : UpNode) : Type 0 where
  pub low : (e : ℕ) → came e ≡ true → e ≤ promised_of x
  pub back : 0 < session_of x → coordinator (session_of x) ≢ n → installed_of x ≡ session_of x → came (session_of x) ≡ true
  pub forth : 0 < session_of x → coordinator (session_of x) ≢ n → came (session_of x) ≡ true → installed_of x ≡ session_of x

abbrev pub IsInstallOf : ℕ → Body → Type 0
IsInstallOf e (body.Install i) = i.epoch ≡ e
IsInstallOf e _ = ⊥

-- .. while the Install of its session is in hand it may not have installed yet
pub record InstallsIn (came : ℕ → Bool) (n : ℕ) (told : Delivered) (x : UpNode) : Type 0 where
  pub low : (e : ℕ) → came e ≡ true → e ≤ promised_of x
  pub back : 0 < session_of x → coordinator (session_of x) ≢ n → installed_of x ≡ session_of x → came (session_of x) ≡ true
  pub forth : 0 < session_of x → coordinator (session_of x) ≢ n → came (session_of x) ≡ true → (installed_of x ≡ session_of x) ⊎ Says (IsInstallOf (session_of x)) told
