-- The small steps of a tick: each stop falls where the rules let the node save.
use Rattle.std.specs.Prelude.{ℕ, ◌≡◌, ◌==◌, ◌||◌, ◌++◌, All, Bool, true, false, List, [], ◌∷◌, Some, IfSome}
use Rattle.std.specs.List.{list_any}
use Rattle.std.proofs.Common.{refl, sym, subst, ◌∙◌, arith, inl, inr}
use Rattle.cmm_attempt.specs.Calls.{IsDevice}
use Rattle.cmm_member.specs.Nodes.{NodeState}
use Rattle.cmm_member.specs.Records.{NodeRecord}
use Rattle.history.specs.Moment.{Moment}
use Rattle.history.specs.Order.{so_far, under_way}
use Rattle.history.specs.Saves.{is_attempt_of, proposes}
use Rattle.history.specs.Setting.{Setting, coordinator}
use Rattle.machine_base.specs.Epochs as machine
use Rattle.membership_machine.specs.Invariant.{Holds}
use Rattle.membership_machine.specs.State.{Memberships}
use Rattle.node_model.specs.Entries.{unknown_lines}
use Rattle.node_model.specs.Seats.{record_of}
use Rattle.node_model.specs.declared.cluster.Cluster.{Cluster}
use Rattle.node_model.specs.declared.node.Node.TheVariants.{Up}
use Rattle.node_model.specs.declared.node.UpNode.{UpNode}
use Rattle.node_model.specs.declared.output.Output.{Output}
use Rattle.node_model.specs.declared.output.Output.TheVariants.{Tells}
use Rattle.node_model.specs.declared.presidency.Presidency.{Presidency}
use Rattle.node_model.specs.declared.seat.Seat.TheVariants.{Member}
use Rattle.refinement.proofs.Acts.{does_one}
use Rattle.refinement.proofs.Presidents.{MemberTied, member_tied, presides_of}
use Rattle.refinement.proofs.Ties.{known_stays}
use Rattle.refinement.specs.Courses.{Course, Reply, under}
use Rattle.refinement.specs.Courses.Course.{Acts, Falls, Keeps, Stops}
use Rattle.refinement.specs.Courses.Reply.{Done, Lost_new, Lost_old}
use Rattle.refinement.specs.Doings.{acted, changed, effect, given_all, gives, gone_line, said, saved_lines, site}
use Rattle.refinement.specs.Doings.Change.{Leads, Proposes}
use Rattle.refinement.specs.Doings.Doing.{Does}
use Rattle.refinement.specs.Events.{of_doing}
use Rattle.refinement.specs.Guards.{MayAll}
use Rattle.refinement.specs.Ties.{Delivered, GoesOn, Known, NodeTied, SiteTied, setting_of}
use Rattle.schedule_text.specs.declared.event.Event.TheVariants as event
use Rattle.status_report.specs.declared.attempt_entry.AttemptEntry.TheVariants as attempt
use Rattle.status_report.specs.declared.entry.Entry.TheVariants as entry
use Rattle.status_report.specs.declared.node_entry.DownCause.{DownCause}
use Rattle.status_report.specs.declared.node_entry.DownCause.TheVariants as cause
use Rattle.status_report.specs.declared.node_entry.NodeEntry.TheVariants as note
use Rattle.status_report.specs.declared.update_entry.UpdateEntry.TheVariants as update
use Rattle.run_history.proofs.Idle.{passing_append}
use Rattle.run_history.proofs.Lists.{both}
use Rattle.run_history.proofs.Small.{AllSmall}
use Rattle.run_history.proofs.UnderWay.{passing_under}
use Rattle.run_history.specs.Scenes.{Scene, passing, telling}
use Rattle.run_downs.proofs.Calm.{AllCalm, IsCalm, said_in_calm}
use Rattle.run_downs.proofs.Proposed.{IsNoStopCause}
use Rattle.run_downs.proofs.Rules.{IsNoStop, NoStops}
use Rattle.run_outcomes.specs.stops.Courses.{SavesFirst, SavesNone, lead_at}
use Rattle.run_outcomes.specs.stops.Known.{AllStop, AreStill, StillOn, Wants}
use Rattle.run_outcomes.proofs.stops.Behind.{behind, none_stop, ruled_line, wants_saves}
use Rattle.run_outcomes.proofs.stops.Still.{passing_still, said_still, still_no_stops, still_then}

-- ---- where nothing is saved it does not stop

calm_one : (o : Output) → IsCalm o → IsNoStop o
calm_one (Tells (entry.Node m (note.Down why))) h = absurd h
calm_one _ h = tt

pub calm_no_stops : (os : List Output) → AllCalm os → NoStops os
calm_no_stops [] h = tt
calm_no_stops (o ∷ os) h = (calm_one o h.0, calm_no_stops os h.1)

pub gone_no_stop : (n : ℕ) (why : DownCause) → IsNoStopCause why → IsNoStop (Tells (entry.Node n (note.Down why)))
gone_no_stop n cause.Stopped h = absurd h
gone_no_stop n _ h = tt

none_given : (c : Cluster) (n : ℕ) (x : UpNode) (disk : NodeRecord) (k : Course) (replies : List Reply) → SavesNone k → AllSmall (under replies k) → NoStops (given_all c n (site (Up x) disk) (under replies k))
none_given c n x disk Stops replies h small = tt
none_given c n x disk (Acts a rest) replies h small =
    both IsNoStop (said c n x a) (given_all c n (site (Up (acted c n x a)) disk) (under replies rest)) (calm_no_stops (said c n x a) (said_in_calm c n a (Up x) h.0 small.0))
    (none_given c n (acted c n x a) disk rest replies h.1 small.1)
none_given c n x disk (Keeps change rest) replies h small = absurd h
none_given c n x disk (Falls why) replies h small = (gone_no_stop n why h, tt)

-- ---- a proposal, and an attempt

same_number : (a b : ℕ) → a ≡ b → (a == b) ≡ true
same_number a b h = grind arith

second_cause : (a b c : Bool) → b ≡ true → (a || (b || c)) ≡ true
second_cause true b c h = refl
second_cause false true c h = refl
second_cause false false c h = cc

first_cause : (a b c : Bool) → a ≡ true → ((a || b) || c) ≡ true
first_cause true b c h = refl
first_cause false b c h = cc

-- a president proposes in its own name
own_session : (c : Cluster) (M : Memberships) (n : ℕ) (x : UpNode) (disk : NodeRecord) (s : NodeState) (p : Presidency) → NodeTied c M n disk (Up x) → x.presidency ≡ Some p → x.seat ≡ Member s
    → coordinator s.session ≡ n
unfolding machine.coordinator
own_session c M n x disk s p tied is seat =
    let m : MemberTied c M n x s = member_tied c M n x disk s tied seat in
    (presides_of M n x.presidency s p is m.president).own

proposed_then : (S : Setting) (n e v : ℕ) (words : List ℕ) (more : List Output) (s : Scene) → coordinator e ≡ n → under_way s.moments ≡ Some (event.Tick n) → AllStop S s.moments
    → AllStop S (passing n (Tells (entry.Update (update.Proposed e v words)) ∷ more) s).moments
proposed_then S n e v words more s own is so =
    let t : Scene = telling (entry.Update (update.Proposed e v words)) s in
    behind S n n more t (second_cause (list_any (is_attempt_of n) (so_far t.moments)) (coordinator e == n) (proposes n s.moments) (same_number (coordinator e) n own)) is (tt, so)

begun_then : (S : Setting) (n p members : ℕ) (more : List Output) (s : Scene) → coordinator p ≡ n → under_way s.moments ≡ Some (event.Tick n) → AllStop S s.moments
    → AllStop S (passing n (Tells (entry.Node n note.Saved) ∷ Tells (entry.Attempt (attempt.Begun p members)) ∷ more) s).moments
begun_then S n p members more s own is so =
    let t : Scene = telling (entry.Node n note.Saved) s in
    let u : Scene = telling (entry.Attempt (attempt.Begun p members)) t in
    behind S n n more u (first_cause (coordinator p == n) (list_any (is_attempt_of n) (so_far t.moments)) (proposes n u.moments) (same_number (coordinator p) n own)) is (tt, (tt, so))

-- ---- one small step after another

pub walk : (S : Setting) (c : Cluster) (M : Memberships) (n : ℕ) (told : Delivered) (x : UpNode) (disk : NodeRecord) (k : Course) (replies : List Reply) (base : List Moment) (s : Scene) → All IsDevice c.attached
    → Holds (setting_of c) M → Known M told → SiteTied c M n (site (Up x) disk) → SavesFirst k → MayAll c n told (site (Up x) disk) (under replies k) → AllSmall (under replies k)
    → IfSome (lead_at c n x k) (λ l. Wants S n base) → StillOn n base s.moments → under_way s.moments ≡ Some (event.Tick n) → AllStop S s.moments
    → AllStop S (passing n (given_all c n (site (Up x) disk) (under replies k)) s).moments
walk S c M n told x disk Stops replies base s fits holds known tied first may small lead still is so = so
walk S c M n told x disk (Acts a rest) replies base s fits holds known tied (inl first) may small lead still is so =
    let os : List Output = said c n x a in
    let more : List Output = given_all c n (site (Up (acted c n x a)) disk) (under replies rest) in
    let t : Scene = passing n os s in
    let quiet : AreStill os = said_still c n told x a first.0 may.0 small.0 in
    let g : GoesOn c M n (effect c n (site (Up x) disk) (Does a)) (gives c n (site (Up x) disk) (Does a)) (of_doing n (Does a)) = does_one c M n told (site (Up x) disk) (Does a) fits holds known tied may.0 in
    subst (λ (z : Scene). AllStop S z.moments) (sym (passing_append n os more s))
    (walk S c g.machine n told (acted c n x a) disk rest replies base t fits g.holds (known_stays c M g.machine told holds g.grows known) g.tied first.1 may.1 small.1 lead
    (still_then n base s.moments t.moments still (passing_still n n os s quiet)) (passing_under n os s ∙ is) (none_stop S n os s (still_no_stops os quiet) so))
walk S c M n told x disk (Acts a rest) replies base s fits holds known tied (inr none) may small lead still is so =
    none_stop S n (given_all c n (site (Up x) disk) (under replies (Acts a rest))) s (none_given c n x disk (Acts a rest) replies none small) so
walk S c M n told x disk (Keeps (Proposes st p text) rest) [] base s fits holds known tied first may small lead still is so =
    proposed_then S n st.session _ text (gone_line n cause.Stopped ++ []) s (own_session c M n x disk st p tied may.0.0 may.0.1) is so
walk S c M n told x disk (Keeps (Proposes st p text) rest) (Done ∷ replies) base s fits holds known tied first may small lead still is so =
    let y : UpNode = changed c n x (Proposes st p text) in
    proposed_then S n st.session _ text (saved_lines c n x (Proposes st p text) ++ given_all c n (site (Up y) (record_of y)) (under replies rest)) s (own_session c M n x disk st p tied may.0.0 may.0.1) is so
walk S c M n told x disk (Keeps (Proposes st p text) rest) (Lost_new why ∷ replies) base s fits holds known tied first may small lead still is so =
    proposed_then S n st.session _ text (gone_line n why ++ []) s (own_session c M n x disk st p tied may.0.0 may.0.1) is so
walk S c M n told x disk (Keeps (Proposes st p text) rest) (Lost_old why ∷ replies) base s fits holds known tied first may small lead still is so =
    proposed_then S n st.session _ text (gone_line n why ++ []) s (own_session c M n x disk st p tied may.0.0 may.0.1) is so
walk S c M n told x disk (Keeps (Leads p members) rest) [] base s fits holds known tied first may small lead still is so =
    (ruled_line S n (entry.Node n (note.Down cause.Stopped)) s.moments is (wants_saves S n s.moments (lead s.moments still)), so)
walk S c M n told x disk (Keeps (Leads p members) rest) (Done ∷ replies) base s fits holds known tied first may small lead still is so =
    let y : UpNode = changed c n x (Leads p members) in
    begun_then S n p members (unknown_lines n x.requests.waiting ++ given_all c n (site (Up y) (record_of y)) (under replies rest)) s may.0.1 is so
walk S c M n told x disk (Keeps (Leads p members) rest) (Lost_new why ∷ replies) base s fits holds known tied first may small lead still is so =
    (ruled_line S n (entry.Node n (note.Down why)) s.moments is (wants_saves S n s.moments (lead s.moments still)), so)
walk S c M n told x disk (Keeps (Leads p members) rest) (Lost_old why ∷ replies) base s fits holds known tied first may small lead still is so =
    (ruled_line S n (entry.Node n (note.Down why)) s.moments is (wants_saves S n s.moments (lead s.moments still)), so)
walk S c M n told x disk (Keeps _ rest) replies base s fits holds known tied first may small lead still is so = absurd first
walk S c M n told x disk (Falls why) replies base s fits holds known tied first may small lead still is so =
    none_stop S n (gone_line n why ++ []) s (gone_no_stop n why first, tt) so
