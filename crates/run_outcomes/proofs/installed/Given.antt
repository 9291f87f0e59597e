-- A node that is up tells of no node that it went up.
use Rattle.std.specs.Prelude.{ℕ, ◌++◌, List, [], ◌∷◌}
use Rattle.cl_base.specs.Limits.{most_nodes}
use Rattle.cl_base.specs.Numbers.{numbers_to}
use Rattle.cmm_member.specs.Records.{NodeRecord}
use Rattle.node_model.specs.Entries.{unknown_lines}
use Rattle.node_model.specs.Presidents.{sent_to}
use Rattle.node_model.specs.Ticks.{later, ticked_output}
use Rattle.node_model.specs.declared.cluster.Cluster.{Cluster}
use Rattle.node_model.specs.declared.node.Node.TheVariants.{Up}
use Rattle.node_model.specs.declared.node.UpNode.{UpNode}
use Rattle.node_model.specs.declared.output.Output.{Output}
use Rattle.node_model.specs.declared.output.Output.TheVariants.{Sends, Tells}
use Rattle.refinement.specs.Courses.{Course, Reply, under}
use Rattle.refinement.specs.Courses.Course.{Acts, Falls, Keeps, Stops}
use Rattle.refinement.specs.Courses.Reply.{Done, Lost_new, Lost_old}
use Rattle.refinement.specs.Doings.{Act, Change, acted, changed, first_lines, given_all, gone_line, last_lines, said, saved_lines, site, write_lines}
use Rattle.refinement.specs.Doings.Act.{Accepts, Dates, Ends, Gives, Goes_on, Hears, Makes, Minds, Notes, Queues, Spreads, Stores, Takes, Ticks, Waits, Works, Writes}
use Rattle.refinement.specs.Doings.Change.{Acks, Admits, Commits, Counts, Distrusts, Installs, Leads, Prepares, Promises, Proposes, Sits, Starts}
use Rattle.run_attempts.proofs.Mild.{AreMild, IsMild, first_mild, last_mild, unknown_mild}
use Rattle.run_attempts.specs.Steps.{CalmChange}
use Rattle.run_history.proofs.Lists.{both, mapped}
use Rattle.run_history.proofs.Minor.{AllMinor, IsMinor as IsStill, ticked_minor, write_minor}
use Rattle.run_history.specs.Marks.{ActSo, AllSo, AreMinor, IsMinor}
use Rattle.status_report.specs.declared.entry.Entry.{Entry}
use Rattle.status_report.specs.declared.entry.Entry.TheVariants as entry
use Rattle.status_report.specs.declared.node_entry.DownCause.{DownCause}
use Rattle.status_report.specs.declared.node_entry.NodeEntry.TheVariants as note
use Rattle.wire.specs.declared.message.Body.{Body}
use Rattle.run_outcomes.proofs.installed.Lines.{NoBoot, NoBoots}

-- ---- lines

mild_line : (k : ℕ) (e : Entry) → IsMild (Tells e) → NoBoot k (Tells e)
mild_line k (entry.Node m note.Up) h = absurd h
mild_line k _ h = tt

mild_boots : (k : ℕ) (os : List Output) → AreMild os → NoBoots k os
mild_boots k [] h = tt
mild_boots k (Tells e ∷ os) h = (mild_line k e h.0, mild_boots k os h.1)
mild_boots k (Sends to b ∷ os) h = (tt, mild_boots k os h.1)

still_line : (k : ℕ) (e : Entry) → IsStill e → NoBoot k (Tells e)
still_line k (entry.Node m note.Up) h = absurd h
still_line k _ h = tt

still_boots : (k : ℕ) (os : List Output) → AllMinor os → NoBoots k os
still_boots k [] h = tt
still_boots k (Tells e ∷ os) h = (still_line k e h.0, still_boots k os h.1)
still_boots k (Sends to b ∷ os) h = (tt, still_boots k os h.1)

minor_line : (k : ℕ) (e : Entry) → IsMinor e → NoBoot k (Tells e)
minor_line k (entry.Node m note.Up) h = absurd h
minor_line k _ h = tt

minor_boots : (k : ℕ) (os : List Output) → AreMinor os → NoBoots k os
minor_boots k [] h = tt
minor_boots k (Tells e ∷ os) h = (minor_line k e h.0, minor_boots k os h.1)
minor_boots k (Sends to b ∷ os) h = (tt, minor_boots k os h)

spread_boots : (k receivers : ℕ) (b : Body) → NoBoots k (sent_to receivers b)
unfolding sent_to
spread_boots k receivers b = mapped (NoBoot k) (λ n. Sends n b) (numbers_to receivers most_nodes) (λ n. tt)

-- ---- changes

first_boots : (k n : ℕ) (change : Change) → NoBoots k (first_lines n change)
first_boots k n change = mild_boots k (first_lines n change) (first_mild n change)

calm_boots : (k : ℕ) (c : Cluster) (n : ℕ) (x : UpNode) (change : Change) → CalmChange change → NoBoots k (last_lines c n x change)
calm_boots k c n x change calm = mild_boots k (last_lines c n x change) (last_mild c n x change calm)

last_boots : (k : ℕ) (c : Cluster) (n : ℕ) (x : UpNode) (change : Change) → NoBoots k (last_lines c n x change)
last_boots k c n x (Leads p members) = (tt, mild_boots k (unknown_lines n x.requests.waiting) (unknown_mild n x.requests.waiting))
last_boots k c n x (Promises p) = calm_boots k c n x (Promises p) tt
last_boots k c n x (Counts a q s i) = calm_boots k c n x (Counts a q s i) tt
last_boots k c n x (Installs s i) = calm_boots k c n x (Installs s i) tt
last_boots k c n x (Starts a q s) = calm_boots k c n x (Starts a q s) tt
last_boots k c n x (Sits s e) = calm_boots k c n x (Sits s e) tt
last_boots k c n x (Distrusts d) = calm_boots k c n x (Distrusts d) tt
last_boots k c n x (Admits at q a d) = calm_boots k c n x (Admits at q a d) tt
last_boots k c n x (Proposes s p text) = calm_boots k c n x (Proposes s p text) tt
last_boots k c n x (Acks s p q left text) = calm_boots k c n x (Acks s p q left text) tt
last_boots k c n x (Prepares s text) = calm_boots k c n x (Prepares s text) tt
last_boots k c n x (Commits s) = calm_boots k c n x (Commits s) tt

saved_boots : (k : ℕ) (c : Cluster) (n : ℕ) (x : UpNode) (change : Change) → NoBoots k (first_lines n change ++ saved_lines c n x change)
saved_boots k c n x change = both (NoBoot k) (first_lines n change) (saved_lines c n x change) (first_boots k n change) (tt, last_boots k c n x change)

lost_boots : (k n : ℕ) (change : Change) (why : DownCause) → NoBoots k (first_lines n change ++ gone_line n why)
lost_boots k n change why = both (NoBoot k) (first_lines n change) (gone_line n why) (first_boots k n change) (tt, tt)

-- ---- acts

said_boots : (k : ℕ) (c : Cluster) (n : ℕ) (x : UpNode) (a : Act) → ActSo a → NoBoots k (said c n x a)
said_boots k c n x Ticks so = (tt, still_boots k (ticked_output c x (later c x)) (ticked_minor c x (later c x)))
said_boots k c n x (Ends a e) so = (tt, tt)
said_boots k c n x (Takes at q a) so = (tt, tt)
said_boots k c n x (Stores d value a) so = (tt, still_boots k (write_lines n x d value a) (write_minor n x d value a))
said_boots k c n x (Writes to b) so = (tt, tt)
said_boots k c n x (Makes change) so = both (NoBoot k) (first_lines n change) (last_lines c n x change) (first_boots k n change) (last_boots k c n x change)
said_boots k c n x (Gives os) so = minor_boots k os so
said_boots k c n x (Spreads receivers b) so = spread_boots k receivers b
said_boots k c n x (Hears from b) so = tt
said_boots k c n x Waits so = tt
said_boots k c n x (Goes_on a q) so = tt
said_boots k c n x (Queues a d kind) so = tt
said_boots k c n x (Accepts kind e members d) so = tt
said_boots k c n x (Minds q p) so = tt
said_boots k c n x (Notes from place p) so = tt
said_boots k c n x (Dates now) so = tt
said_boots k c n x (Works w) so = tt

-- ---- a course, under all replies of the disk

pub course_boots : (k : ℕ) (c : Cluster) (n : ℕ) (replies : List Reply) (disk : NodeRecord) (x : UpNode) (q : Course) → AllSo (under replies q) → NoBoots k (given_all c n (site (Up x) disk) (under replies q))
course_boots k c n replies disk x Stops so = tt
course_boots k c n replies disk x (Acts a rest) so =
    both (NoBoot k) (said c n x a) _ (said_boots k c n x a so.0) (course_boots k c n replies disk (acted c n x a) rest so.1)
course_boots k c n [] disk x (Keeps change rest) so = both (NoBoot k) (first_lines n change ++ gone_line n _) [] (lost_boots k n change _) tt
course_boots k c n (Done ∷ replies) disk x (Keeps change rest) so =
    both (NoBoot k) (first_lines n change ++ saved_lines c n x change) _ (saved_boots k c n x change) (course_boots k c n replies _ (changed c n x change) rest so.1)
course_boots k c n (Lost_new why ∷ replies) disk x (Keeps change rest) so = both (NoBoot k) (first_lines n change ++ gone_line n why) [] (lost_boots k n change why) tt
course_boots k c n (Lost_old why ∷ replies) disk x (Keeps change rest) so = both (NoBoot k) (first_lines n change ++ gone_line n why) [] (lost_boots k n change why) tt
course_boots k c n replies disk x (Falls why) so = (tt, tt)
