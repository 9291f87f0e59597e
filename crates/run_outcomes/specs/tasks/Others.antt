-- The tasks of nodes that do not lead, where what they hold valid counts, and what it rests on.
use Rattle.std.specs.Prelude.{ℕ, ◌≡◌, ◌≢◌, Bool, false, true, List, Option, None, Some}
use Rattle.history.specs.Letters.{Letter, letter_of, says}
use Rattle.history.specs.Member as member
use Rattle.history.specs.Moment.{Moment}
use Rattle.history.specs.Names as name
use Rattle.history.specs.Names.{Name}
use Rattle.history.specs.Order.{Always}
use Rattle.history.specs.Seizing.{Seizing, is_number, seizing_of}
use Rattle.history.specs.Setting.{Setting, coordinator}
use Rattle.history.specs.Trace.{delivered, ended_excluded, ended_foreign, ended_votes, installed}
use Rattle.history.specs.UnderWay.{is_under_way}
use Rattle.history_setting.specs.Settings.{setting_of}
use Rattle.node_model.specs.Members.{is_foreign_seizing}
use Rattle.node_model.specs.Seats.{installed_of, session_of}
use Rattle.node_model.specs.declared.node.Node.TheVariants.{Up}
use Rattle.node_model.specs.declared.node.UpNode.{UpNode}
use Rattle.run_devices.specs.queues.Told.{is_plain, leads, told_tasks}
use Rattle.run_history.specs.WorldLines.{IsDevice}
use Rattle.wire.specs.declared.message.Body.{Body}
use Rattle.wire.specs.declared.message.Body.TheVariants as body
use Rattle.world_model.specs.First.{first_cluster}
use Rattle.run_outcomes.specs.tasks.Laws.{OfEachLeft, OfEachPoint, seizes_plainly}
use Rattle.run_outcomes.specs.tasks.Left.{HasQueue, IsClosed}

-- A node in another's session, or one that has installed, has the queue that is told, where the tasks come from what was open to it as it stopped in a save.
abbrev pub OthersHaveTold : Type 0
OthersHaveTold = OfEachLeft (λ h s. (n : ℕ) (x : UpNode) → s.nodes.node n ≡ Up x → leads n s.moments ≡ false → told_tasks (setting_of h) n s.moments ≡ None
    → IsClosed h s n → HasQueue h s n x)

-- What a node has been asked to seize as a device without votes, for a session that it has not installed, none but it has seized for that.
abbrev pub PlainIsOwn : Type 0
PlainIsOwn = OfEachPoint (λ h s. (n : ℕ) (x : UpNode) (d : ℕ) (found : Seizing) → s.nodes.node n ≡ Up x → IsDevice h d → installed_of x ≢ session_of x
    → seizes_plainly d x.tasks ≡ true → seizing_of h (session_of x) d s.moments ≡ Some found → found.seizer ≡ n)

-- ---- what lines tell

abbrev pub is_asking : Name → Bool
is_asking (name.SeizeQuorum d) = true
is_asking (name.SeizeData d) = true
is_asking _ = false

-- A request to seize says what its line says, of the attempt of its sender, and is not foreign.
abbrev pub IsPlainly : Setting → ℕ → List Moment → Option Letter → Type 0
IsPlainly S n before None = Unit {0}
IsPlainly S n before (Some l) = is_asking l.name ≡ true → is_plain S n l before ≡ true

-- each that comes to a node does
abbrev pub AsksPlainly : Setting → List Moment → Moment → Type 0
AsksPlainly S before (delivered p a m) = IsPlainly S m before (letter_of p before)
AsksPlainly S before _ = Unit {0}

abbrev pub RequestsArePlain : Type 0
RequestsArePlain = OfEachLeft (λ h s. Always (AsksPlainly (setting_of h)) s.moments)

-- what it says is a request to seize that is not foreign to n
abbrev pub IsNative : Setting → ℕ → Option Body → Type 0
IsNative S n (Some (body.SeizeQuorum e members d)) = is_foreign_seizing (first_cluster S.header) n members d ≡ false
IsNative S n (Some (body.SeizeData e members d)) = is_foreign_seizing (first_cluster S.header) n members d ≡ false
IsNative S n _ = ⊥

abbrev pub IsNativeIn : Setting → ℕ → Option Letter → Type 0
IsNativeIn S n None = Unit {0}
IsNativeIn S n (Some l) = is_asking l.name ≡ true → IsNative S n (says l.bytes)

abbrev pub AsksNatively : Setting → List Moment → Moment → Type 0
AsksNatively S before (delivered p a m) = IsNativeIn S m (letter_of p before)
AsksNatively S before _ = Unit {0}

abbrev pub RequestsAreNative : Type 0
RequestsAreNative = OfEachLeft (λ h s. Always (AsksNatively (setting_of h)) s.moments)

-- a coordinator installs in its session, in the attempt that is under way
abbrev pub InstallsUnderWay : List Moment → Moment → Type 0
InstallsUnderWay before (installed m e) = coordinator e ≡ m → (is_number e (member.session_of m before) ≡ true) × (is_under_way e before ≡ true)
InstallsUnderWay before _ = Unit {0}

abbrev pub InstallsAreUnderWay : Type 0
InstallsAreUnderWay = OfEachLeft (λ h s. Always InstallsUnderWay s.moments)

-- an attempt ends for its votes, or for a member, while its coordinator leads
abbrev pub EndsLeading : List Moment → Moment → Type 0
EndsLeading before (ended_votes e have need lacking) = leads (coordinator e) before ≡ true
EndsLeading before (ended_excluded e m) = leads (coordinator e) before ≡ true
EndsLeading before (ended_foreign e m) = leads (coordinator e) before ≡ true
EndsLeading before _ = Unit {0}

abbrev pub EndsAreLed : Type 0
EndsAreLed = OfEachLeft (λ h s. Always EndsLeading s.moments)

-- all of these
abbrev pub LeadsOwn : Setting → List Moment → Moment → Type 0
LeadsOwn S before x = AsksPlainly S before x × InstallsUnderWay before x × EndsLeading before x
