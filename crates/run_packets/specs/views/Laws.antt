-- What is proved of each run of the world, as things that happen: the members of an attempt are exactly the nodes that its coordinator sees.
use Rattle.std.specs.Prelude.{ℕ, ◌+◌, ◌≡◌, ◌≤◌, ◌<◌, ◌^◌, ◌==◌, ◌&&◌, ◌||◌, not, nat_lt, Bool, false, true, if◌then◌else◌, List, [], ◌∷◌, length, Option, None, Some, option_map, IfSome}
use Rattle.std.specs.List.{AllByRecursion, filter}
use Rattle.cl_base.specs.Limits.{most_devices, most_nodes}
use Rattle.cl_base.specs.declared.header.Header.{Header}
use Rattle.history.specs.Attempts.{before_tick, configured_for, is_recent, view_of}
use Rattle.history.specs.Moment.{Moment}
use Rattle.history.specs.Order.{Always}
use Rattle.history.specs.Setting.{Setting, all_to, coordinator, nodes_of}
use Rattle.history.specs.Trace.{attempt, delivered, ticked, up}
use Rattle.history_setting.specs.Laws.{OfEachRunIn}
use Rattle.history_setting.specs.Settings.{setting_of}
use Rattle.node_model.specs.Members.{is_foreign}
use Rattle.node_model.specs.declared.cluster.Cluster.{Cluster}
use Rattle.node_model.specs.declared.node.Node.{Node}
use Rattle.node_model.specs.declared.node.Node.TheVariants.{Down, Up}
use Rattle.run_history.specs.Happenings.{Arrives, Happening, MayAllHappen, all_happened, happened}
use Rattle.run_history.specs.Scenes.{Scene, first_scene}
use Rattle.wire.specs.declared.message.Body.{Body}
use Rattle.world_model.specs.First.{first_cluster}

-- ---- what is foreign

-- The packet is foreign to node n, as the node is when it comes: it names what is not there, or brings what cannot be. Such a packet changes nothing.
abbrev pub is_foreign_to : Cluster → ℕ → Node → Body → Bool
is_foreign_to c n Down b = false
is_foreign_to c n (Up x) b = is_foreign c n x b

-- of each delivery, by what was before it: whether its packet was foreign
abbrev pub Account : Type 0
Account = List Moment → Bool

abbrev pub TellsHere : Cluster → Scene → Account → Happening → Type 0
TellsHere c s foreign (Arrives number x m now ends) = foreign s.moments ≡ is_foreign_to c x.to (s.nodes.node x.to) m.body
TellsHere c s foreign h = Unit {0}

-- the account is right of what happens from this scene on
abbrev pub IsAccountOf : Cluster → Scene → List Happening → Account → Type 0
IsAccountOf c s [] foreign = Unit {0}
IsAccountOf c s (h ∷ hs) foreign = TellsHere c s foreign h × IsAccountOf c (happened c s h) hs foreign

-- .. and there is one of each run
pub record HasAccount (c : Cluster) (s : Scene) (hs : List Happening) : Type 0 where
  pub foreign : Account
  pub right : IsAccountOf c s hs foreign

abbrev pub EachRunHasAnAccount : Type 0
EachRunHasAnAccount = (h : Header) (cells : ℕ) (hs : List Happening) → HasAccount (first_cluster h) (first_scene h cells) hs

-- no packet that comes is foreign
abbrev pub NoneForeign : Cluster → Scene → List Happening → Type 0
NoneForeign c s hs = IsAccountOf c s hs (λ before. false)

-- ---- what a node sees

-- how many ticks of c ago a packet of m that was not foreign was last delivered to it, since it went up
abbrev pub heard_age_of : Account → ℕ → ℕ → List Moment → Option ℕ
heard_age_of foreign c m [] = None
heard_age_of foreign c m (up n ∷ before) = if n == c then None else heard_age_of foreign c m before
heard_age_of foreign c m (delivered p a b ∷ before) = if (a == m) && (b == c) && not (foreign before) then Some 0 else heard_age_of foreign c m before
heard_age_of foreign c m (ticked n ∷ before) = if n == c then option_map (λ k. k + 1) (heard_age_of foreign c m before) else heard_age_of foreign c m before
heard_age_of foreign c m (_ ∷ before) = heard_age_of foreign c m before

-- the nodes that c sees: itself, and those that it heard at most three ticks ago, where it is configured itself those alone that are so
abbrev pub sees_by : Account → (ℕ → Bool) → ℕ → List Moment → ℕ → Bool
sees_by foreign configured c before m = (m == c) || (is_recent (heard_age_of foreign c m before) && (configured m || not (configured c)))

abbrev pub HasView : Account → List Moment → ℕ → ℕ → (ℕ → Bool) → Type 0
HasView foreign before c members configured = nodes_of members ≡ filter (sees_by foreign configured c before) (all_to most_nodes)

-- The members of an attempt are the nodes that its coordinator sees. What is configured is read where the tick begins, as far as the trace tells it.
abbrev pub ViewIs : Setting → Account → List Moment → Moment → Type 0
ViewIs S foreign before (attempt e members) =
    IfSome (configured_for S (coordinator e) (before_tick (coordinator e) before)) (HasView foreign before (coordinator e) members)
ViewIs S foreign before _ = Unit {0}

abbrev pub ViewsOfEachRun : Type 0
ViewsOfEachRun = (h : Header) (cells : ℕ) (hs : List Happening) (foreign : Account) → length h.devices ≤ most_devices → h.cluster < 2 ^ 32
    → MayAllHappen (first_cluster h) (first_scene h cells) hs → IsAccountOf (first_cluster h) (first_scene h cells) hs foreign
    → Always (ViewIs (setting_of h) foreign) (all_happened (first_cluster h) (first_scene h cells) hs).moments

-- ---- where no packet is foreign every packet counts

-- where all members are nodes of the header, these alone need be looked at
pub record IsViewOf (S : Setting) (before : List Moment) (c members : ℕ) (configured : ℕ → Bool) : Type 0 where
  pub view : nodes_of members ≡ view_of most_nodes configured c before
  pub of_header : AllByRecursion (λ m. m ≤ S.header.nodes) (nodes_of members) → S.header.nodes ≤ most_nodes
      → nodes_of members ≡ view_of S.header.nodes configured c before

abbrev pub PlainViewIs : Setting → List Moment → Moment → Type 0
PlainViewIs S before (attempt e members) =
    IfSome (configured_for S (coordinator e) (before_tick (coordinator e) before)) (IsViewOf S before (coordinator e) members)
PlainViewIs S before _ = Unit {0}

abbrev pub PlainViewsWhereNoneIsForeign : Type 0
PlainViewsWhereNoneIsForeign = (h : Header) (cells : ℕ) (hs : List Happening) → length h.devices ≤ most_devices → h.cluster < 2 ^ 32
    → MayAllHappen (first_cluster h) (first_scene h cells) hs → NoneForeign (first_cluster h) (first_scene h cells) hs
    → Always (PlainViewIs (setting_of h)) (all_happened (first_cluster h) (first_scene h cells) hs).moments

-- ---- a node that is not configured begins no attempt alone

-- it is configured, or another node is a member
abbrev pub NotAlone : ℕ → ℕ → (ℕ → Bool) → Type 0
NotAlone c members configured = (configured c || nat_lt 1 (length (nodes_of members))) ≡ true

-- What is configured is read where the tick begins.
abbrev pub BeginsNotAlone : Setting → List Moment → Moment → Type 0
BeginsNotAlone S before (attempt e members) =
    IfSome (configured_for S (coordinator e) (before_tick (coordinator e) before)) (NotAlone (coordinator e) members)
BeginsNotAlone S before _ = Unit {0}

abbrev pub NoneBeginsAloneInEachRun : Type 0
NoneBeginsAloneInEachRun = OfEachRunIn (λ S moments. Always (BeginsNotAlone S) moments)
