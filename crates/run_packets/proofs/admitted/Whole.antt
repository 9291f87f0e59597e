-- The kinds together.
use Rattle.std.specs.Prelude.{ℕ, ◌≡◌, ◌≤◌, Bool, false, List, [], ◌∷◌, Option, None, Some, IfSome}
use Rattle.std.proofs.Common.{refl, sym}
use Rattle.cl_base.specs.declared.header.Header.{Header}
use Rattle.history.specs.Attempts.{IsSeen, before_tick, configured_for, view_of}
use Rattle.history.specs.Moment.{Moment, Told}
use Rattle.history.specs.Order.{Always}
use Rattle.history.specs.Setting.{Setting, coordinator, nodes_of}
use Rattle.history_setting.specs.Settings.{setting_of}
use Rattle.run_attempts.proofs.Runs.{attempts_begin_in_each_run}
use Rattle.run_attempts.specs.Laws.{Begins}
use Rattle.status_report.specs.declared.attempt_entry.AttemptEntry.TheVariants as attempt_entry
use Rattle.status_report.specs.declared.entry.Entry.TheVariants as entry
use Rattle.node_model.specs.declared.cluster.Cluster.{Cluster}
use Rattle.node_model.specs.declared.node.Node.{Node}
use Rattle.run_history.specs.Happenings.{Arrives, Happening, all_happened, happened}
use Rattle.run_history.specs.Scenes.{Scene, first_scene}
use Rattle.run_packets.proofs.native.Runs as native
use Rattle.run_packets.specs.native.Laws.{AllComeSo, ComesSo, IsNative, IsSeizeNative, OfEachPacket}
use Rattle.run_packets.proofs.views.Runs.{none_begins_alone_in_each_run, plain_views_where_none_is_foreign}
use Rattle.run_packets.specs.native.Named.{InNodes}
use Rattle.run_packets.specs.views.Laws.{BeginsNotAlone, IsViewOf, NoneForeign, NotAlone, PlainViewIs, TellsHere, is_foreign_to}
use Rattle.run_packets.specs.admitted.Begun.{MomentBegun}
use Rattle.run_packets.proofs.admitted.BegunRuns.{AllOk, all_of_header, in_header}
use Rattle.wire.specs.declared.message.Body.{Body}
use Rattle.wire.specs.declared.message.Body.TheVariants as body
use Rattle.world_model.specs.First.{first_cluster}
use Rattle.run_packets.proofs.admitted.PrepareRuns.{prepares_are_native}
use Rattle.order_laws.specs.Laws.{ToldCyclesHaveNames}
use Rattle.run_packets.proofs.admitted.Runs.{Judgement, answers_are_native, both_come, installs_are_native, promises_are_native, readies_are_native, seizeds_are_native}
use Rattle.run_packets.proofs.admitted.TextRuns.{requests_are_native}
use Rattle.run_packets.specs.admitted.Laws.{AttemptsAreOfTheHeader, AttemptsBeginAsWanted, BeginsAsHistory, HeaderViewIs, IsNativeAs, IsOfHeader, NoneIsForeignInEachRun, ViewsAreToldInEachRun, is_answer, is_install, is_prepare, is_promise, is_ready, is_request, is_seized}

both_of_each : (P Q R : Judgement) → ((c : Cluster) (n : ℕ) (node : Node) (b : Body) → P c n node b → Q c n node b → R c n node b) → OfEachPacket P → OfEachPacket Q → OfEachPacket R
both_of_each P Q R f p q h cells hs nodes few small may boots =
    both_come P Q R (first_cluster h) (first_scene h cells) hs (f (first_cluster h)) (p h cells hs nodes few small may boots) (q h cells hs nodes few small may boots)

abbrev And : Judgement → Judgement → Judgement
And P Q c n node b = P c n node b × Q c n node b

two : (P Q : Judgement) → OfEachPacket P → OfEachPacket Q → OfEachPacket (And P Q)
two P Q p q = both_of_each P Q (And P Q) (λ c n node b h k. (h, k)) p q

abbrev Devices : Judgement
Devices = And (And (IsNativeAs is_seized) (IsNativeAs is_ready)) (And (IsNativeAs is_promise) (IsNativeAs is_install))

abbrev Texts : Judgement
Texts = And (IsNativeAs is_prepare) (And (IsNativeAs is_request) (IsNativeAs is_answer))

abbrev Others : Judgement
Others = And IsNative IsSeizeNative

abbrev AllNative : Judgement
AllNative c n node b = is_foreign_to c n node b ≡ false

of_kinds : (c : Cluster) (n : ℕ) (node : Node) (b : Body) → And Devices Texts c n node b → Others c n node b → AllNative c n node b
of_kinds c n node (body.Heartbeat promised session member) k o = o.0 refl
of_kinds c n node (body.Collect e members) k o = o.0 refl
of_kinds c n node (body.Promise e installed members valid flagged committed pending) k o = k.0.1.0 refl
of_kinds c n node (body.Nack e promised) k o = o.0 refl
of_kinds c n node (body.SeizeQuorum e members device) k o = o.1 refl
of_kinds c n node (body.SeizeData e members device) k o = o.1 refl
of_kinds c n node (body.Seized e device outcome) k o = k.0.0.0 refl
of_kinds c n node (body.Install i) k o = k.0.1.1 refl
of_kinds c n node (body.Ready e joined report) k o = k.0.0.1 refl
of_kinds c n node (body.Start e) k o = o.0 refl
of_kinds c n node (body.Prepare e place text) k o = k.1.0 refl
of_kinds c n node (body.Prepared e place) k o = o.0 refl
of_kinds c n node (body.Commit e place) k o = o.0 refl
of_kinds c n node (body.Request e number text) k o = k.1.1.0 refl
of_kinds c n node (body.Answer e number text) k o = k.1.1.1 refl
of_kinds c n node (body.Order order) k o = o.0 refl
of_kinds c n node (body.Done e number outcome) k o = o.0 refl
of_kinds c n node (body.Excluded e newest) k o = o.0 refl

all_come_native : ToldCyclesHaveNames → OfEachPacket AllNative
all_come_native law =
    both_of_each (And Devices Texts) Others AllNative of_kinds
    (two Devices Texts
    (two (And (IsNativeAs is_seized) (IsNativeAs is_ready)) (And (IsNativeAs is_promise) (IsNativeAs is_install)) (two (IsNativeAs is_seized) (IsNativeAs is_ready) seizeds_are_native readies_are_native)
    (two (IsNativeAs is_promise) (IsNativeAs is_install) promises_are_native installs_are_native))
    (two (IsNativeAs is_prepare) (And (IsNativeAs is_request) (IsNativeAs is_answer)) prepares_are_native
    (two (IsNativeAs is_request) (IsNativeAs is_answer) requests_are_native (answers_are_native law))))
    (two IsNative IsSeizeNative native.plain_kinds_are_native native.seizes_are_native)

-- ---- of a run

one_native : (c : Cluster) (s : Scene) (x : Happening) → ComesSo AllNative c s x → TellsHere c s (λ before. false) x
one_native c s (Arrives number x m now ends) h = sym h
one_native c s _ h = tt

all_native : (c : Cluster) (s : Scene) (hs : List Happening) → AllComeSo AllNative c s hs → NoneForeign c s hs
all_native c s [] h = tt
all_native c s (x ∷ hs) h = (one_native c s x h.0, all_native c (happened c s x) hs h.1)

pub none_is_foreign_in_each_run : ToldCyclesHaveNames → NoneIsForeignInEachRun
none_is_foreign_in_each_run law h cells hs nodes few small may boots = all_native (first_cluster h) (first_scene h cells) hs (all_come_native law h cells hs nodes few small may boots)

-- ---- with whom an attempt begins

of_header : (h : Header) → h.nodes ≤ 32 → (ms : List Moment) → AllOk (InNodes (first_cluster h)) ms → Always (IsOfHeader (setting_of h)) ms
of_header h few [] ok = tt
of_header h few (x ∷ before) ok = (here x ok.0, of_header h few before ok.1)
  where
    here : (x : Moment) → MomentBegun (InNodes (first_cluster h)) before x → IsOfHeader (setting_of h) before x
    here (Told (entry.Attempt (attempt_entry.Begun e members))) k = in_header h members few k
    here _ k = tt

pub attempts_are_of_the_header : AttemptsAreOfTheHeader
attempts_are_of_the_header h cells hs nodes few small may boots =
    of_header h nodes (all_happened (first_cluster h) (first_scene h cells) hs).moments (all_of_header h cells hs nodes (record { few = few; small = small }) may boots)

some_so : (o : Option (ℕ → Bool)) (P Q : (ℕ → Bool) → Type 0) → ((test : ℕ → Bool) → P test → Q test) → IfSome o P → IfSome o Q
some_so None P Q f h = tt
some_so (Some test) P Q f h = f test h

one_view : (S : Setting) (before : List Moment) (x : Moment) → S.header.nodes ≤ 32 → PlainViewIs S before x → IsOfHeader S before x → HeaderViewIs S before x
one_view S before (Told (entry.Attempt (attempt_entry.Begun e members))) few view inside =
    some_so (configured_for S (coordinator e) (before_tick (coordinator e) before)) (IsViewOf S before (coordinator e) members)
    (λ configured. nodes_of members ≡ view_of S.header.nodes configured (coordinator e) before) (λ configured v. v.of_header inside few) view
one_view S before _ few view inside = tt

all_views : (S : Setting) (ms : List Moment) → S.header.nodes ≤ 32 → Always (PlainViewIs S) ms → Always (IsOfHeader S) ms → Always (HeaderViewIs S) ms
all_views S [] few views inside = tt
all_views S (x ∷ before) few views inside = (one_view S before x few views.0 inside.0, all_views S before few views.1 inside.1)

pub views_are_told_in_each_run : ToldCyclesHaveNames → ViewsAreToldInEachRun
views_are_told_in_each_run law h cells hs nodes few small may boots =
    all_views (setting_of h) (all_happened (first_cluster h) (first_scene h cells) hs).moments nodes
    (plain_views_where_none_is_foreign h cells hs few small may (none_is_foreign_in_each_run law h cells hs nodes few small may boots))
    (attempts_are_of_the_header h cells hs nodes few small may boots)

-- ---- all that history asks

both_so : (o : Option (ℕ → Bool)) (P Q R : (ℕ → Bool) → Type 0) → ((test : ℕ → Bool) → P test → Q test → R test) → IfSome o P → IfSome o Q → IfSome o R
both_so None P Q R f h k = tt
both_so (Some test) P Q R f h k = f test h k

one_wanted : (S : Setting) (before : List Moment) (x : Moment) → Begins S before x → BeginsNotAlone S before x → HeaderViewIs S before x → BeginsAsHistory S before x
one_wanted S before (Told (entry.Attempt (attempt_entry.Begun e members))) b alone view =
    let c : ℕ = coordinator e in
    record {
      in_a_tick = b.in_a_tick;
      seen = both_so (configured_for S c (before_tick c before)) (λ configured. nodes_of members ≡ view_of S.header.nodes configured c before) (NotAlone c members) (IsSeen S before c members)
          (λ configured v a. record { view = v; not_alone = a }) view alone;
      least = b.least;
      reason = b.reason;
    }
one_wanted S before _ b alone view = tt

all_wanted : (S : Setting) (ms : List Moment) → Always (Begins S) ms → Always (BeginsNotAlone S) ms → Always (HeaderViewIs S) ms → Always (BeginsAsHistory S) ms
all_wanted S [] b alone view = tt
all_wanted S (x ∷ before) b alone view = (one_wanted S before x b.0 alone.0 view.0, all_wanted S before b.1 alone.1 view.1)

pub attempts_begin_as_wanted : ToldCyclesHaveNames → AttemptsBeginAsWanted
attempts_begin_as_wanted law h cells hs nodes few small may boots =
    all_wanted (setting_of h) (all_happened (first_cluster h) (first_scene h cells) hs).moments (attempts_begin_in_each_run h cells hs few small may) (none_begins_alone_in_each_run h cells hs few small may)
    (views_are_told_in_each_run law h cells hs nodes few small may boots)
