-- The small steps of a node behind its command at a device: each stop falls where the rules let it save.
use Rattle.std.specs.Prelude.{ℕ, ◌≡◌, ◌++◌, true, List, [], ◌∷◌, Some}
use Rattle.std.proofs.Common.{sym, subst, ◌∙◌}
use Rattle.cmm_member.specs.Records.{NodeRecord}
use Rattle.history.specs.Moment.{Moment, Told}
use Rattle.history.specs.Order.{under_way}
use Rattle.history.specs.Saves.{may_save}
use Rattle.history.specs.Setting.{Setting}
use Rattle.node_model.specs.declared.cluster.Cluster.{Cluster}
use Rattle.node_model.specs.declared.node.Node.{Node}
use Rattle.node_model.specs.declared.node.Node.TheVariants.{Down, Up}
use Rattle.node_model.specs.declared.node.UpNode.{UpNode}
use Rattle.node_model.specs.declared.output.Output.{Output}
use Rattle.node_model.specs.declared.output.Output.TheVariants.{Tells}
use Rattle.refinement.specs.Doings.{Act, Change, Doing, Site, acted, changed, effect, first_lines, given_all, gives, last_lines, said, saved_in, site}
use Rattle.refinement.specs.Doings.Act.{Dates, Ends, Gives, Goes_on, Hears, Makes, Minds, Queues, Writes}
use Rattle.refinement.specs.Doings.Change.{Counts, Starts}
use Rattle.refinement.specs.Doings.Doing.{Comes_up, Does, Forgets, Goes_down, Loses, Saves}
use Rattle.refinement.specs.Guards.{May, MayAct, MayAll, MayChange}
use Rattle.refinement.specs.Ties.{Delivered}
use Rattle.schedule_text.specs.declared.event.Event.TheVariants as event
use Rattle.status_report.specs.declared.entry.Entry.TheVariants as entry
use Rattle.status_report.specs.declared.node_entry.DownCause.{DownCause}
use Rattle.status_report.specs.declared.node_entry.DownCause.TheVariants as cause
use Rattle.status_report.specs.declared.node_entry.NodeEntry.TheVariants as note
use Rattle.run_history.proofs.Idle.{passing_append}
use Rattle.run_history.proofs.Small.{AllSmall, IsSmall, IsSmallAct}
use Rattle.run_history.proofs.UnderWay.{passing_under}
use Rattle.run_history.specs.Scenes.{Scene, passing}
use Rattle.run_downs.proofs.Outputs.{last_steady}
use Rattle.run_downs.proofs.Proposed.{IsNoStopCause}
use Rattle.run_downs.proofs.Rules.{NoStops}
use Rattle.run_attempts.proofs.endings.Stands.{IsMere, act_stands, change_stands}
use Rattle.run_attempts.specs.endings.Laws.{epoch_of}
use Rattle.run_outcomes.specs.saves.Kept.{AllLeave, IsOnWay, OnWay}
use Rattle.run_outcomes.specs.saves.Courses.{IsTried}
use Rattle.run_outcomes.specs.stops.Idle.{AllDisk, AllIdle, HasCommand, IdleAt, IsIdle, LostIdle}
use Rattle.run_outcomes.proofs.saves.Trying.{AllTried, TriesAct}
use Rattle.run_outcomes.proofs.saves.Walk.{given_leaves, leaves_no_stop, made_lines, steady_no_stop, then_tried, tried_attempts}
use Rattle.run_outcomes.proofs.saves.Ways.{still_on}
use Rattle.run_outcomes.proofs.stops.DiskRules.{gone_disk, idle_rule, none_disk, passing_done}

-- what is so of the node after a small step, and of the lines
pub record So (S : Setting) (n : ℕ) (node : Node) (ms : List Moment) : Type 0 where
  pub stops : AllDisk S ms
  pub way : IsOnWay n ms node
  pub done : HasCommand n ms
  pub here : under_way ms ≡ Some (event.Disk n)

-- lines without a stop
pub quiet_so : (S : Setting) (n : ℕ) (x y : Node) (os : List Output) (s : Scene) → NoStops os → IsOnWay n (passing n os s).moments y → So S n x s.moments → So S n y (passing n os s).moments
quiet_so S n x y os s none way so = record {
  stops = none_disk S n os s none so.stops;
  way = way;
  done = passing_done n n os s so.done;
  here = passing_under n os s ∙ so.here;
}

-- an act that neither ends the attempt nor changes the record
plain_one : (S : Setting) (c : Cluster) (n : ℕ) (told : Delivered) (x : UpNode) (a : Act) (s : Scene) → IsMere a → AllLeave (said c n x a) → MayAct c n told x a → So S n (Up x) s.moments
    → So S n (Up (acted c n x a)) (passing n (said c n x a) s).moments
plain_one S c n told x a s mere leaves may so =
    quiet_so S n (Up x) (Up (acted c n x a)) (said c n x a) s (leaves_no_stop (said c n x a) leaves)
    (subst (OnWay n (passing n (said c n x a) s).moments) (sym (act_stands c n told x a mere may).attempt) (still_on n n (said c n x a) s (epoch_of x.attempt) leaves so.way)) so

made_one : (S : Setting) (c : Cluster) (n : ℕ) (told : Delivered) (x : UpNode) (change : Change) (s : Scene) → IsTried change → MayChange c n told x change → So S n (Up x) s.moments
    → So S n (Up (changed c n x change)) (passing n (first_lines n change ++ last_lines c n x change) s).moments
made_one S c n told x (Counts a k st i) s tried may so =
    let change : Change = Counts a k st i in
    let os : List Output = first_lines n change ++ last_lines c n x change in
    quiet_so S n (Up x) (Up (changed c n x change)) os s (made_lines c n x change)
    (subst (OnWay n (passing n os s).moments) (sym (change_stands c n told x change tt may).attempt) (still_on n n os s (epoch_of x.attempt) (tt, tt) so.way)) so
made_one S c n told x (Starts a k st) s tried may so =
    let change : Change = Starts a k st in
    quiet_so S n (Up x) (Up (changed c n x change)) (first_lines n change ++ last_lines c n x change) s (made_lines c n x change) tt so
made_one S c n told x _ s tried may so = absurd tried

act_one : (S : Setting) (c : Cluster) (n : ℕ) (told : Delivered) (x : UpNode) (a : Act) (s : Scene) → TriesAct IsTried a → MayAct c n told x a → IsSmallAct a → So S n (Up x) s.moments
    → So S n (Up (acted c n x a)) (passing n (said c n x a) s).moments
act_one S c n told x (Ends a e) s tries may small so = quiet_so S n (Up x) (Up (acted c n x (Ends a e))) (said c n x (Ends a e)) s (tt, tt) tt so
act_one S c n told x (Makes change) s tries may small so = made_one S c n told x change s tries may.0 so
act_one S c n told x (Dates now) s tries may small so = plain_one S c n told x (Dates now) s tt tt may so
act_one S c n told x (Hears from b) s tries may small so = plain_one S c n told x (Hears from b) s tt tt may so
act_one S c n told x (Goes_on a k) s tries may small so = plain_one S c n told x (Goes_on a k) s tt tt may so
act_one S c n told x (Queues a d kind) s tries may small so = plain_one S c n told x (Queues a d kind) s tt tt may so
act_one S c n told x (Writes to b) s tries may small so = plain_one S c n told x (Writes to b) s tt (tt, tt) may so
act_one S c n told x (Gives os) s tries may small so = plain_one S c n told x (Gives os) s tt (given_leaves os small) may so
act_one S c n told x (Minds q p) s tries may small so = plain_one S c n told x (Minds q p) s tt tt may so
act_one S c n told x _ s tries may small so = absurd tries

saved_one : (S : Setting) (c : Cluster) (n : ℕ) (told : Delivered) (x : UpNode) (change : Change) (s : Scene) → IsTried change → MayChange c n told x change → So S n (Up x) s.moments
    → So S n (Up (changed c n x change)) (passing n (saved_in c n change (Up x)) s).moments
saved_one S c n told x (Counts a k st i) s tried may so =
    let change : Change = Counts a k st i in
    let os : List Output = saved_in c n change (Up x) in
    quiet_so S n (Up x) (Up (changed c n x change)) os s (tt, (tt, tt))
    (subst (OnWay n (passing n os s).moments) (sym (change_stands c n told x change tt may).attempt) (still_on n n os s (epoch_of x.attempt) (tt, (tt, tt)) so.way)) so
saved_one S c n told x (Starts a k st) s tried may so =
    let change : Change = Starts a k st in
    quiet_so S n (Up x) (Up (changed c n x change)) (saved_in c n change (Up x)) s (tt, steady_no_stop (last_lines c n x change) (last_steady c n x change)) tt so
saved_one S c n told x _ s tried may so = absurd tried

-- ---- a save that is lost

idle_of : (S : Setting) (n : ℕ) (change : Change) (ms : List Moment) → IsTried change → LostIdle S n change ms → IsIdle S n ms
idle_of S n (Counts a k st i) ms tried idle = idle
idle_of S n (Starts a k st) ms tried idle = idle
idle_of S n _ ms tried idle = absurd tried

gone_so : (S : Setting) (n : ℕ) (x : Node) (why : DownCause) (ms : List Moment) → AllDisk S (Told (entry.Node n (note.Down why)) ∷ ms) → So S n x ms → So S n Down (Told (entry.Node n (note.Down why)) ∷ ms)
gone_so S n x why ms stops so = record { stops = stops; way = tt; done = so.done; here = so.here }

other_gone : (S : Setting) (n : ℕ) (why : DownCause) (ms : List Moment) → IsNoStopCause why → AllDisk S ms → AllDisk S (Told (entry.Node n (note.Down why)) ∷ ms)
other_gone S n cause.Stopped ms other so = absurd other
other_gone S n _ ms other so = (tt, so)

lost_one : (S : Setting) (c : Cluster) (n : ℕ) (told : Delivered) (x : UpNode) (change : Change) (why : DownCause) (s : Scene) → IsTried change → MayChange c n told x change → LostIdle S n change s.moments → So S n (Up x) s.moments
    → So S n Down (passing n (first_lines n change ++ Tells (entry.Node n (note.Down why)) ∷ []) s).moments
lost_one S c n told x change why s tried may idle so = by_change change tried (idle_rule S n s.moments so.here so.done (tried_attempts c n told x change s.moments tried may so.way) (idle_of S n change s.moments tried idle))
  where
    by_change : (ch : Change) → IsTried ch → may_save S n s.moments ≡ true → So S n Down (passing n (first_lines n ch ++ Tells (entry.Node n (note.Down why)) ∷ []) s).moments
    by_change (Counts a k st i) tried rule = gone_so S n (Up x) why s.moments (gone_disk S n why s.moments rule so.stops) so
    by_change (Starts a k st) tried rule = gone_so S n (Up x) why s.moments (gone_disk S n why s.moments rule so.stops) so
    by_change _ tried rule = absurd tried

-- ---- one small step after another

doing_one : (S : Setting) (c : Cluster) (n : ℕ) (told : Delivered) (node : Node) (disk : NodeRecord) (d : Doing) (ds : List Doing) (s : Scene) → May c n told (site node disk) d → IsSmall d → AllTried (d ∷ ds)
    → IdleAt S n d s.moments → So S n node s.moments → So S n (effect c n (site node disk) d).node (passing n (gives c n (site node disk) d) s).moments
doing_one S c n told Down disk (Does a) ds s may small tried idle so = absurd may
doing_one S c n told (Up x) disk (Does a) ds s may small tried idle so = act_one S c n told x a s tried.0 may small so
doing_one S c n told Down disk (Saves change) ds s may small tried idle so = absurd may
doing_one S c n told (Up x) disk (Saves change) ds s may small tried idle so = saved_one S c n told x change s tried.0 may so
doing_one S c n told Down disk (Loses change why) ds s may small tried idle so = absurd may
doing_one S c n told (Up x) disk (Loses change why) ds s may small tried idle so = lost_one S c n told x change why s tried.0 may idle so
doing_one S c n told Down disk (Forgets change why) ds s may small tried idle so = absurd may
doing_one S c n told (Up x) disk (Forgets change why) ds s may small tried idle so = lost_one S c n told x change why s tried.0 may idle so
doing_one S c n told node disk (Goes_down why) ds s may small tried idle so = gone_so S n node why s.moments (other_gone S n why s.moments tried.0 so.stops) so
doing_one S c n told node disk Comes_up ds s may small tried idle so = absurd tried

pub all_disk : (S : Setting) (c : Cluster) (n : ℕ) (told : Delivered) (x : Site) (ds : List Doing) (s : Scene) → MayAll c n told x ds → AllSmall ds → AllTried ds → AllIdle S c n x ds s → So S n x.node s.moments
    → AllDisk S (passing n (given_all c n x ds) s).moments
all_disk S c n told x [] s may small tried idle so = so.stops
all_disk S c n told x (d ∷ ds) s may small tried idle so =
    let os : List Output = gives c n x d in
    let y : Site = effect c n x d in
    let t : Scene = passing n os s in
    let first : So S n y.node t.moments = doing_one S c n told x.node x.disk d ds s may.0 small.0 tried idle.0 so in
    subst (λ (z : Scene). AllDisk S z.moments) (sym (passing_append n os (given_all c n y ds) s))
    (all_disk S c n told y ds t may.1 small.1 (then_tried d ds tried) idle.1 first)
