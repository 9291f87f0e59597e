-- In its tick a node stops only where the rules let it save.
use Rattle.std.specs.Prelude.{ℕ, ◌^◌, ◌≡◌, ◌≤◌, ◌<◌, ◌++◌, All, Bool, true, false, List, [], length, Option, None, Some, IfSome}
use Rattle.std.proofs.Common.{refl, sym, ap, subst, ◌∙◌, arith}
use Rattle.cl_base.specs.Limits.{most_devices, most_nodes}
use Rattle.cl_base.specs.declared.header.Header.{Header}
use Rattle.cl_base.specs.declared.method.Outcome as method
use Rattle.cl_base.specs.declared.panic.Panic.TheVariants as panic
use Rattle.cmm_attempt.proofs.Basics.{none_some, same_some}
use Rattle.cmm_attempt.specs.Calls.{IsDevice}
use Rattle.heartbeats.specs.Views.{is_in_view, view_of}
use Rattle.heartbeats.specs.declared.peer.Peer.{Peer}
use Rattle.history.specs.Attempts.{set_of}
use Rattle.history.specs.Order.{under_way}
use Rattle.history.specs.Setting.{Setting, nodes_of}
use Rattle.history_setting.specs.Settings.{setting_of}
use Rattle.membership_machine.specs.State.{Memberships}
use Rattle.node_model.specs.Configurations.{configured_at}
use Rattle.node_model.specs.Steps.{Outcome, at_second, stepped}
use Rattle.node_model.specs.Ticks.{later, membership_of, ticked_output}
use Rattle.node_model.specs.declared.cluster.Cluster.{Cluster}
use Rattle.node_model.specs.declared.input.Input.TheVariants as input
use Rattle.node_model.specs.declared.node.Node.TheVariants.{Up}
use Rattle.node_model.specs.declared.node.UpNode.{UpNode}
use Rattle.node_model.specs.declared.output.Output.{Output}
use Rattle.refinement.proofs.node_widths.Sets.{nodes_where}
use Rattle.record_disk.specs.Disks.{DiskState, saving}
use Rattle.refinement.proofs.Acts.{does_one}
use Rattle.refinement.proofs.Cuts.{step_of_node_is_its_course}
use Rattle.refinement.proofs.Disks.{disks_keep_rules}
use Rattle.refinement.proofs.Facts.{known_by, step_may}
use Rattle.refinement.proofs.Handlers.{delivered_by}
use Rattle.refinement.proofs.Replies.{steps_are_cut}
use Rattle.refinement.proofs.Ties.{known_stays}
use Rattle.refinement.specs.Courses.{Course, under}
use Rattle.refinement.specs.Courses.Course.{Acts, Falls, Keeps, Stops}
use Rattle.refinement.specs.Cuts as cuts
use Rattle.refinement.specs.Cuts.{course_at}
use Rattle.refinement.specs.Doings.{acted, effect, given_all, gives, gone_line, site}
use Rattle.refinement.specs.Doings.Act.{Dates, Ticks}
use Rattle.refinement.specs.Doings.Change.{Leads}
use Rattle.refinement.specs.Doings.Doing.{Does}
use Rattle.refinement.specs.Events.{of_doing}
use Rattle.refinement.specs.Guards.{MayAll}
use Rattle.refinement.specs.Runs.{Nodes}
use Rattle.refinement.specs.Steps.{IsCut, disk_rules}
use Rattle.refinement.specs.Ties.{Delivered, GoesOn, Known}
use Rattle.refinement.specs.Whole.{Stands}
use Rattle.schedule_text.specs.declared.event.Event.TheVariants as event
use Rattle.status_report.specs.declared.entry.Entry.TheVariants as entry
use Rattle.status_report.specs.declared.node_entry.DownCause.TheVariants as cause
use Rattle.status_report.specs.declared.node_entry.NodeEntry.TheVariants as note
use Rattle.world_model.specs.First.{first_cluster}
use Rattle.run_history.specs.Happenings.{IsNode}
use Rattle.run_history.specs.Scenes.{Scene, passing, telling}
use Rattle.run_history.proofs.Handlers.{tick_is}
use Rattle.run_history.proofs.Idle.{passing_append}
use Rattle.run_history.proofs.LineSteps.{Any, any_known, any_node, doings_small}
use Rattle.run_history.proofs.Lists.{both}
use Rattle.run_history.proofs.MemberRuns.{first_fit}
use Rattle.run_history.proofs.Small.{AllSmall}
use Rattle.run_history.proofs.UnderWay.{passing_under}
use Rattle.run_messages.specs.records.Kept.{KnownScene}
use Rattle.run_packets.specs.admitted.Laws.{AttemptsBeginAsWanted}
use Rattle.run_attempts.proofs.Views.{tick_so}
use Rattle.run_attempts.specs.Steps.{GoesSo, IsDue, Wish}
use Rattle.run_downs.proofs.Courses.{GoesFine, ordinary_fine}
use Rattle.run_downs.proofs.Rules.{IsNoStop, NoStops}
use Rattle.run_outcomes.specs.saves.Kept.{Rests}
use Rattle.run_outcomes.specs.stops.Courses.{Lead, SavesFirst, first_said, lead_at}
use Rattle.run_outcomes.specs.stops.Known.{AllStop, AreStill, Traced, Wants}
use Rattle.run_outcomes.proofs.stops.Behind.{none_stop}
use Rattle.run_outcomes.proofs.stops.Firsts.{can_save, failed_on, lead_record}
use Rattle.run_outcomes.proofs.stops.Sets.{set_is}
use Rattle.run_outcomes.proofs.stops.Still.{first_still, passing_still, still_no_stops, ticked_still}
use Rattle.run_outcomes.proofs.stops.Ticks.{tick_first, tick_rest}
use Rattle.run_outcomes.proofs.stops.LaterStops.{led_where_it_saves}
use Rattle.run_outcomes.proofs.stops.Walk.{walk}
use Rattle.run_outcomes.proofs.stops.Wanted.{led_wants}

-- ---- an attempt begins with a view

lead_due : (P : Wish) (c : Cluster) (n : ℕ) (x : UpNode) (k : Course) (l : Lead) → GoesSo P c n x k → lead_at c n x k ≡ Some l → P l.node l.epoch l.members
lead_due P c n x Stops l h is = absurd (none_some l is)
lead_due P c n x (Acts a rest) l h is = lead_due P c n (acted c n x a) rest l h.1 is
lead_due P c n x (Keeps (Leads p members) rest) l h is = subst (λ (z : Lead). P z.node z.epoch z.members) (same_some (record { node = x; epoch = p; members = members }) l is) h.0
lead_due P c n x (Keeps _ rest) l h is = absurd (none_some l is)
lead_due P c n x (Falls why) l h is = absurd (none_some l is)

view_small : (me : ℕ) (peers : List (Option Peer)) (configured : ℕ) → view_of me peers configured < 2 ^ 32
unfolding view_of
view_small me peers configured = nodes_where (is_in_view me peers configured) 32 (omega arith)

lead_set : (c : Cluster) (n : ℕ) (ends : method.Outcome) (y : UpNode) (l : Lead) → lead_at c n (later c y) (tick_rest c n ends y) ≡ Some l → set_of (nodes_of l.members) ≡ l.members
lead_set c n ends y l is =
    let due : IsDue c (configured_at c y) (membership_of y.seat) l.node l.epoch l.members = lead_due (IsDue c (configured_at c y) (membership_of y.seat)) c n (later c y) (tick_rest c n ends y) l (tick_so c n ends y) is in
    set_is l.members (subst (λ set. set < 2 ^ 32) (sym due.taken) (view_small l.node.beats.me l.node.beats.peers (configured_at c y)))

-- ---- a tick

pub record Knows (h : Header) (cells : ℕ) (s : Scene) (n : ℕ) (x : UpNode) : Type 0 where
  pub nodes : h.nodes ≤ most_nodes
  pub few : length h.devices ≤ most_devices
  pub small : h.cluster < 2 ^ 32
  pub traced : Traced h cells s
  pub at : s.nodes.node n ≡ Up x
  pub known : KnownScene (first_cluster h) s
  pub rests : Rests x
  pub is_node : IsNode n
  pub way : under_way s.moments ≡ Some (event.Tick n)

pub tick_stop : AttemptsBeginAsWanted → (h : Header) (cells : ℕ) (s : Scene) (n now : ℕ) (ends : method.Outcome) (x : UpNode) (v : Nodes) → now < 2 ^ 64 → Knows h cells s n x
    → AllStop (setting_of h) s.moments → AllStop (setting_of h) (passing n (stepped disk_rules (first_cluster h) n now ends (Up x) (s.nodes.disk n) input.Tick).given (record s { nodes = v })).moments
tick_stop law h cells s n now ends x v in_time b so = by_lead (lead_at c n z k) refl
  where
    c : Cluster
    c = first_cluster h

    S : Setting
    S = setting_of h

    disk : DiskState
    disk = s.nodes.disk n

    y : UpNode
    y = at_second now x

    z : UpNode
    z = later c y

    k : Course
    k = tick_rest c n ends y

    whole : Course
    whole = course_at c n now ends x input.Tick

    told : Delivered
    told = delivered_by input.Tick

    t : Scene
    t = record s { nodes = v }

    heartbeats : List Output
    heartbeats = ticked_output c y z

    first : SavesFirst k
    first = tick_first c n ends y b.rests

    fine : GoesFine true whole
    fine = (tt, ordinary_fine Any (cuts.tick_course c n ends y) (tick_is Any c n ends y (any_known c) (any_node (Up x))))

    fits : All IsDevice c.attached
    fits = first_fit h b.few

    M : Memberships
    M = b.known.stage.machine

    stands : Stands c M n (Up x) disk.kept
    stands = subst (λ w. Stands c M n w disk.kept) b.at (b.known.stage.stands n)

    cut : IsCut disk_rules c n now ends (Up x) disk input.Tick [] (stepped disk_rules c n now ends (Up x) disk input.Tick)
    cut = steps_are_cut disk_rules disks_keep_rules c n now ends (Up x) disk input.Tick

    may : MayAll c n told (site (Up x) disk.kept) (under cut.replies whole)
    may = step_may c M n now ends (Up x) disk.kept input.Tick cut.replies b.is_node.1 fits b.known.stage.holds stands.tied stands.joins

    little : AllSmall (under cut.replies whole)
    little = doings_small c n now ends cut.replies input.Tick (Up x) disk.kept

    heard : Known M told
    heard = known_by M input.Tick tt

    dated : GoesOn c M n (site (Up y) disk.kept) [] (of_doing n (Does (Dates now)))
    dated = does_one c M n told (site (Up x) disk.kept) (Does (Dates now)) fits b.known.stage.holds heard stands.tied may.0

    then_heard : Known dated.machine told
    then_heard = known_stays c M dated.machine told b.known.stage.holds dated.grows heard

    ticks : GoesOn c dated.machine n (effect c n (site (Up y) disk.kept) (Does Ticks)) (gives c n (site (Up y) disk.kept) (Does Ticks)) (of_doing n (Does Ticks))
    ticks = does_one c dated.machine n told (site (Up y) disk.kept) (Does Ticks) fits dated.holds then_heard dated.tied may.1.0

    base : Scene
    base = telling (entry.Node n note.Ticked) t

    quiet : AreStill heartbeats
    quiet = ticked_still c y z

    with_lead : IfSome (lead_at c n z k) (λ l. Wants S n base.moments) → AllStop S (passing n (stepped disk_rules c n now ends (Up x) disk input.Tick).given t).moments
    with_lead lead =
        subst (λ os. AllStop S (passing n os t).moments) cut.comes.given
        (subst (λ (w : Scene). AllStop S w.moments) (sym (passing_append n heartbeats (given_all c n (site (Up z) disk.kept) (under cut.replies k)) base))
        (walk S c ticks.machine n told z disk.kept k cut.replies base.moments (passing n heartbeats base) fits ticks.holds (known_stays c dated.machine ticks.machine told dated.holds ticks.grows then_heard) ticks.tied first may.1.1 little.1.1
        lead (passing_still n n heartbeats base quiet) (passing_under n heartbeats base ∙ b.way) (none_stop S n heartbeats base (still_no_stops heartbeats quiet) (tt, so))))

    -- no save can be made: the node goes down for its disk
    failed : (l : Lead) → lead_at c n z k ≡ Some l → can_save disk (lead_record c n l) ≡ false → AllStop S (passing n (stepped disk_rules c n now ends (Up x) disk input.Tick).given t).moments
    failed l is can =
        let before : List Output = first_said c n z k in
        let none : NoStops (heartbeats ++ before) = both IsNoStop heartbeats before (still_no_stops heartbeats quiet) (still_no_stops before (first_still c n told z disk.kept k cut.replies l first is may.1.1 little.1.1)) in
        subst (λ os. AllStop S (passing n os t).moments)
        (failed_on c n x whole [] disk l is can ∙ ap (λ (o : Outcome DiskState). o.given) (sym ((step_of_node_is_its_course saving c n now ends x input.Tick).is [] disk)))
        (none_stop S n (first_said c n x whole ++ gone_line n (cause.Panic panic.Disk)) t (tt, both IsNoStop (heartbeats ++ before) (gone_line n (cause.Panic panic.Disk)) none (tt, tt)) so)

    wanted : (l : Lead) → lead_at c n z k ≡ Some l → can_save disk (lead_record c n l) ≡ true → Wants S n base.moments
    wanted l is can =
        led_wants S n l.members base.moments (lead_set c n ends y l is)
        (led_where_it_saves law h cells s n now ends x l b.nodes b.few b.small b.traced b.is_node in_time b.at fine is can (first_still c n told z disk.kept k cut.replies l first is may.1.1 little.1.1))

    by_can : (l : Lead) → lead_at c n z k ≡ Some l → (t : Bool) → can_save disk (lead_record c n l) ≡ t → AllStop S (passing n (stepped disk_rules c n now ends (Up x) disk input.Tick).given (record s { nodes = v })).moments
    by_can l is true can = with_lead (subst (λ o. IfSome o (λ m. Wants S n base.moments)) (sym is) (wanted l is can))
    by_can l is false can = failed l is can

    by_lead : (o : Option Lead) → lead_at c n z k ≡ o → AllStop S (passing n (stepped disk_rules c n now ends (Up x) disk input.Tick).given (record s { nodes = v })).moments
    by_lead None is = with_lead (subst (λ o. IfSome o (λ m. Wants S n base.moments)) (sym is) tt)
    by_lead (Some l) is = by_can l is (can_save disk (lead_record c n l)) refl
