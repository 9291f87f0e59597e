-- What lines leave of the tasks of a node that leads, where `history` has dropped them, or where the node has them.
use Rattle.std.specs.Prelude.{ℕ, ◌≡◌, ◌==◌, ◌&&◌, ◌++◌, Bool, true, false, filter, List, [], ◌∷◌, Option, None, Some, if◌then◌else◌}
use Rattle.std.proofs.Common.{arith, refl, sym, ap, subst, ◌∙◌, inl, inr}
use Rattle.device_queue.specs.Tasks.{is_queued}
use Rattle.history.specs.Member.{attempt_of, in_collect}
use Rattle.history.specs.Moment.{Moment, Told}
use Rattle.history.specs.Queue as told
use Rattle.history.specs.Setting.{Setting, coordinator}
use Rattle.node_model.specs.declared.node.UpNode.{UpNode}
use Rattle.node_model.specs.declared.output.Output.{Output}
use Rattle.node_model.specs.declared.output.Output.TheVariants.{Sends, Tells}
use Rattle.run_devices.specs.queues.Laws.{Same}
use Rattle.run_devices.specs.queues.Told.{leads, leads_for}
use Rattle.run_history.proofs.Idle.{passing_append}
use Rattle.run_history.specs.Scenes.{Scene, passing, posting, telling}
use Rattle.status_report.specs.declared.attempt_entry.AttemptEntry.{AttemptEntry}
use Rattle.status_report.specs.declared.attempt_entry.AttemptEntry.TheVariants as tried
use Rattle.status_report.specs.declared.entry.Entry.{Entry}
use Rattle.status_report.specs.declared.entry.Entry.TheVariants as entry
use Rattle.status_report.specs.declared.node_entry.NodeEntry.{NodeEntry}
use Rattle.status_report.specs.declared.node_entry.NodeEntry.TheVariants as note
use Rattle.wire.specs.declared.message.Message.{Message}
use Rattle.run_outcomes.specs.tasks.Lasting.{lasts_open}
use Rattle.run_outcomes.specs.tasks.Onward.{AreStill, StillEntry, StillNode}
use Rattle.run_outcomes.specs.tasks.Quiet.{AreQuiet}
use Rattle.run_outcomes.proofs.onward.Passing.{Passed, none_passed, passed_on, posted_passed, still_passed}
use Rattle.run_outcomes.proofs.outward.Resting.{IsRested}
use Rattle.run_outcomes.proofs.rests.Collects.{AreSent}
use Rattle.run_outcomes.proofs.rests.Left.{Dropped, DropsEntry}
use Rattle.run_outcomes.proofs.told_tasks.Closed.{closed_all, same_acts}
use Rattle.run_outcomes.proofs.told_tasks.Quiet.{quiet_tasks, same_number_of, same_tasks}

-- ---- `history` has dropped them

none_either : (b : Bool) (ts : List told.Task) → ts ≡ [] → (if b then [] else ts) ≡ []
none_either true ts h = refl
none_either false ts h = h

node_none : (S : Setting) (n m : ℕ) (ms : List Moment) (e : NodeEntry) → StillNode e → told.tasks_of S n ms ≡ [] → told.tasks_of S n (Told (entry.Node m e) ∷ ms) ≡ []
node_none S n m ms (note.Member q) still none = none
node_none S n m ms note.Ticked still none = none
node_none S n m ms note.Saved still none = none_either ((m == n) && in_collect n ms) (told.tasks_of S n ms) none
node_none S n m ms note.Up still none = absurd still
node_none S n m ms (note.Down why) still none = absurd still
node_none S n m ms (note.Installed q) still none = absurd still

entry_none : (S : Setting) (n : ℕ) (ms : List Moment) (e : Entry) → StillEntry n e → told.tasks_of S n ms ≡ [] → told.tasks_of S n (Told e ∷ ms) ≡ []
entry_none S n ms (entry.Node m e) still none = node_none S n m ms e still none
entry_none S n ms (entry.Device e) still none = quiet_tasks S n ms (Told (entry.Device e)) still ∙ none
entry_none S n ms (entry.Attempt e) still none = quiet_tasks S n ms (Told (entry.Attempt e)) still ∙ none
entry_none S n ms (entry.Packet e) still none = absurd still
entry_none S n ms e still none = quiet_tasks S n ms (Told e) tt ∙ none

pub still_none : (S : Setting) (n : ℕ) (os : List Output) (s : Scene) → AreStill n os → told.tasks_of S n s.moments ≡ [] → told.tasks_of S n (passing n os s).moments ≡ []
still_none S n [] s still none = none
still_none S n (Tells e ∷ os) s still none = still_none S n os (telling e s) still.1 (entry_none S n s.moments e still.0 none)
still_none S n (Sends to b ∷ os) s still none =
    let m : Message = record { sender = n; body = b } in
    let z : Passed n s.moments (posting n to m s).moments = posted_passed n n to m s in
    still_none S n os (posting n to m s) still.1 (ap (told.tasks_of S n) z.parts ∙ (same_tasks S n s.moments z.newer z.quiet ∙ none))

itself : (a b : ℕ) → a ≡ b → (a == b) ≡ true
itself a b e = grind arith

if_on : {X : Type 0} (b : Bool) (x y : X) → b ≡ true → (if b then x else y) ≡ x
if_on b x y is = ap (λ z. if z then x else y) is

drops_none : (S : Setting) (n : ℕ) (ms : List Moment) (e : AttemptEntry) → DropsEntry n (entry.Attempt e) → told.tasks_of S n (Told (entry.Attempt e) ∷ ms) ≡ []
drops_none S n ms (tried.Votes e have need lacking) drops = if_on (coordinator e == n) [] (told.tasks_of S n ms) (itself (coordinator e) n drops)
drops_none S n ms (tried.Excluded e m) drops = if_on (coordinator e == n) [] (told.tasks_of S n ms) (itself (coordinator e) n drops)
drops_none S n ms (tried.Foreign e m) drops = if_on (coordinator e == n) [] (told.tasks_of S n ms) (itself (coordinator e) n drops)
drops_none S n ms (tried.Begun e members) drops = absurd drops
drops_none S n ms (tried.Superseded e q) drops = absurd drops
drops_none S n ms (tried.Silent e m) drops = absurd drops

line_none : (S : Setting) (n : ℕ) (ms : List Moment) (e : Entry) → DropsEntry n e → told.tasks_of S n (Told e ∷ ms) ≡ []
line_none S n ms (entry.Attempt e) drops = drops_none S n ms e drops
line_none S n ms _ drops = absurd drops

pub dropped_none : (S : Setting) (n : ℕ) (all : List Output) (s : Scene) → Dropped n all → told.tasks_of S n (passing n all s).moments ≡ []
dropped_none S n all s d =
    ap (λ os. told.tasks_of S n (passing n os s).moments) d.parts
    ∙ (ap (λ (z : Scene). told.tasks_of S n z.moments) (passing_append n d.before (Tells d.line ∷ d.after) s)
    ∙ still_none S n d.after (telling d.line (passing n d.before s)) d.still (line_none S n (passing n d.before s).moments d.line d.drops))

-- ---- the node has them

pub rested_as : (w y : UpNode) (us : List told.Task) → y.tasks ≡ w.tasks → IsRested w us → IsRested y us
rested_as w y us same (inl k) = inl (subst (λ ts. Same ts us) (sym same) k)
rested_as w y us same (inr k) = inr (ap (filter is_queued) same ∙ k.0, k.1)

leads_back : (n : ℕ) (ms newer : List Moment) → AreQuiet n ms newer → leads n (newer ++ ms) ≡ leads n ms
leads_back n ms newer quiet = ap (λ o. leads_for n o (newer ++ ms)) (same_number_of n ms newer quiet) ∙ by_number (attempt_of n ms)
  where
    by_number : (o : Option ℕ) → leads_for n o (newer ++ ms) ≡ leads_for n o ms
    by_number None = refl
    by_number (Some e) = same_acts n e ms newer quiet

-- behind quiet lines, where it has them before these
pub passed_rests : (S : Setting) (n : ℕ) (ms after : List Moment) (y : UpNode) → Passed n ms after → leads n after ≡ true → lasts_open S n after ≡ false
    → (leads n ms ≡ true → lasts_open S n ms ≡ false → IsRested y (told.tasks_of S n ms)) → IsRested y (told.tasks_of S n after)
passed_rests S n ms after y z first closed f =
    subst (λ q. IsRested y (told.tasks_of S n q)) (sym z.parts)
    (subst (IsRested y) (sym (same_tasks S n ms z.newer z.quiet))
    (f (sym (leads_back n ms z.newer z.quiet) ∙ subst (λ q. leads n q ≡ true) z.parts first) (closed_all S n ms z.newer z.quiet (subst (λ q. lasts_open S n q ≡ false) z.parts closed))))

pub still_rests : (S : Setting) (n : ℕ) (os : List Output) (u : Scene) (y : UpNode) → in_collect n u.moments ≡ false → AreStill n os → leads n (passing n os u).moments ≡ true → lasts_open S n (passing n os u).moments ≡ false
    → (leads n u.moments ≡ true → lasts_open S n u.moments ≡ false → IsRested y (told.tasks_of S n u.moments)) → IsRested y (told.tasks_of S n (passing n os u).moments)
still_rests S n os u y calm still first closed f = passed_rests S n u.moments (passing n os u).moments y (still_passed n os u calm still) first closed f

sends_passed : (n : ℕ) (os : List Output) (s : Scene) → AreSent os → Passed n s.moments (passing n os s).moments
sends_passed n [] s sent = none_passed n s.moments
sends_passed n (Tells e ∷ os) s sent = absurd sent
sends_passed n (Sends to b ∷ os) s sent =
    let m : Message = record { sender = n; body = b } in
    passed_on n s.moments (posting n to m s).moments (passing n os (posting n to m s)).moments (posted_passed n n to m s) (sends_passed n os (posting n to m s) sent)

-- where it sends alone, whatever came
pub sends_rest : (S : Setting) (n : ℕ) (os : List Output) (u : Scene) (y : UpNode) → AreSent os → leads n (passing n os u).moments ≡ true → lasts_open S n (passing n os u).moments ≡ false
    → (leads n u.moments ≡ true → lasts_open S n u.moments ≡ false → IsRested y (told.tasks_of S n u.moments)) → IsRested y (told.tasks_of S n (passing n os u).moments)
sends_rest S n os u y sent first closed f = passed_rests S n u.moments (passing n os u).moments y (sends_passed n os u sent) first closed f

pub sends_back : (n : ℕ) (os : List Output) (u : Scene) → AreSent os → leads n (passing n os u).moments ≡ true → leads n u.moments ≡ true
sends_back n os u sent first =
    let z : Passed n u.moments (passing n os u).moments = sends_passed n os u sent in
    sym (leads_back n u.moments z.newer z.quiet) ∙ subst (λ q. leads n q ≡ true) z.parts first
