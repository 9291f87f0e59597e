-- What carries the proofs, of lines and of scenes: what stays in a tick until the first save, and where an attempt is to begin.
use Rattle.std.specs.Prelude.{ℕ, ◌≡◌, true, List, Some, slice_get, IfSome}
use Rattle.std.specs.List.{AllByRecursion}
use Rattle.cl_base.specs.declared.header.Header.{Header}
use Rattle.history.specs.Attempts.{configured_for, has_reason, view_of}
use Rattle.history.specs.Member.{member_of, members_of}
use Rattle.history.specs.Moment.{Moment}
use Rattle.history.specs.Order.{Always, under_way}
use Rattle.history.specs.Records.{record_of}
use Rattle.history.specs.Saves.{may_save, wants}
use Rattle.history.specs.Setting.{Setting, nodes_of}
use Rattle.history.specs.Trace.{stopped}
use Rattle.schedule_text.specs.declared.event.Event.TheVariants as event
use Rattle.node_model.specs.declared.output.Output.{Output}
use Rattle.node_model.specs.declared.output.Output.TheVariants.{Sends, Tells}
use Rattle.run_attempts.proofs.Alike.{Alike}
use Rattle.run_history.proofs.Ordinary.{IsAside}
use Rattle.run_history.specs.Happenings.{Happening, MayAllHappen, all_happened}
use Rattle.run_history.specs.Scenes.{Scene, first_scene}
use Rattle.run_packets.specs.native.Laws.{BootsInHeader}
use Rattle.wire.specs.declared.message.Body.{Body}
use Rattle.wire.specs.declared.message.Body.TheVariants as body
use Rattle.world_model.specs.First.{first_cluster}

-- ---- runs

-- things that happen lead to this scene, by nodes of the header alone
pub record Traced (h : Header) (cells : ℕ) (s : Scene) : Type 0 where
  pub happenings : List Happening
  pub may : MayAllHappen (first_cluster h) (first_scene h cells) happenings
  pub boots : AllByRecursion (BootsInHeader h) happenings
  pub is : all_happened (first_cluster h) (first_scene h cells) happenings ≡ s

-- ---- what a node gives

-- it tells nothing of the record, the membership and the attempts of a node
abbrev pub IsNoInstall : Body → Type 0
IsNoInstall (body.Install i) = ⊥
IsNoInstall b = Unit {0}

abbrev pub IsStillOut : Output → Type 0
IsStillOut (Tells e) = IsAside e
IsStillOut (Sends to b) = IsNoInstall b

abbrev pub AreStill : List Output → Type 0
AreStill os = AllByRecursion IsStillOut os

-- the lines go on from these to those, and tell nothing more of the record, the membership and the attempts of node n, and of what it heard
pub record StillOn (n : ℕ) (before after : List Moment) : Type 0 where
  pub alike : Alike before after
  pub kept : record_of n after ≡ record_of n before
  pub seat : member_of n after ≡ member_of n before
  pub members : (e : ℕ) → members_of e after ≡ members_of e before

-- ---- an attempt

-- where node n is to begin an attempt with these members, by these lines
pub record IsLed (S : Setting) (n members : ℕ) (ms : List Moment) : Type 0 where
  pub least : slice_get (nodes_of members) 0 ≡ Some n
  pub view : IfSome (configured_for S n ms) (λ configured. nodes_of members ≡ view_of S.header.nodes configured n ms)
  pub reason : has_reason n members ms (member_of n ms) ≡ true

-- .. it wants one, by all lines that go on from these
abbrev pub Wants : Setting → ℕ → List Moment → Type 0
Wants S n before = (ms : List Moment) → StillOn n before ms → wants S n ms (configured_for S n ms) ≡ true

-- where node n stops in its own tick, the rules let it save there
abbrev pub OwnStops : Setting → List Moment → Moment → Type 0
OwnStops S before (stopped n) = under_way before ≡ Some (event.Tick n) → may_save S n before ≡ true
OwnStops S before _ = Unit {0}

abbrev pub AllStop : Setting → List Moment → Type 0
AllStop S ms = Always (OwnStops S) ms
