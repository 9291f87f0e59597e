-- What a node gives in a step begins no attempt of another's.
use Rattle.std.specs.Prelude.{ℕ, List, [], ◌∷◌}
use Rattle.std.specs.List.{AllByRecursion}
use Rattle.cl_base.specs.Limits.{most_nodes}
use Rattle.cl_base.specs.Numbers.{numbers_to}
use Rattle.cmm_member.specs.Records.{NodeRecord}
use Rattle.node_model.specs.Attempts.{ended_entry}
use Rattle.node_model.specs.Entries.{unknown_lines}
use Rattle.node_model.specs.Presidents.{sent_to}
use Rattle.node_model.specs.Ticks.{later, ticked_output}
use Rattle.node_model.specs.declared.cluster.Cluster.{Cluster}
use Rattle.node_model.specs.declared.node.Node.{Node}
use Rattle.node_model.specs.declared.node.Node.TheVariants.{Down, Up}
use Rattle.node_model.specs.declared.node.UpNode.{UpNode}
use Rattle.node_model.specs.declared.output.Output.{Output}
use Rattle.node_model.specs.declared.output.Output.TheVariants.{Sends, Tells}
use Rattle.refinement.specs.Doings.{Act, Change, Doing, Site, effect, first_lines, given_all, gives, gone_line, last_lines, said, saved_lines, site, write_lines}
use Rattle.refinement.specs.Doings.Act.{Ends, Gives, Makes, Spreads, Stores, Takes, Ticks, Writes}
use Rattle.refinement.specs.Doings.Change.{Acks, Admits, Commits, Counts, Distrusts, Installs, Leads, Prepares, Promises, Proposes, Sits, Starts}
use Rattle.refinement.specs.Doings.Doing.{Comes_up, Does, Forgets, Goes_down, Loses, Saves}
use Rattle.refinement.specs.Guards.{May, MayAct, MayAll, MayChange}
use Rattle.refinement.specs.Ties.{Delivered}
use Rattle.run_history.proofs.Lists.{both, mapped}
use Rattle.run_history.specs.Marks.{ActSo, AllSo, AreMinor, DoingSo, IsMinor}
use Rattle.status_report.specs.declared.attempt_entry.AttemptEntry.TheVariants as attempt_entry
use Rattle.status_report.specs.declared.entry.Entry.{Entry}
use Rattle.status_report.specs.declared.entry.Entry.TheVariants as entry
use Rattle.wire.specs.declared.message.Body.{Body}
use Rattle.run_outcomes.specs.Mute.{AskNone, AsksNone}
use Rattle.run_outcomes.specs.tasks.AsksGiven.{BeginsOwn}
use Rattle.run_outcomes.proofs.Mute.{ended_none, first_none, last_none, mild_none, ticked_none, write_none}
use Rattle.run_attempts.proofs.Mild.{unknown_mild}
use Rattle.run_outcomes.proofs.results.Calm.{unknown_calm}

abbrev Own : ℕ → List Output → Type 0
Own n os = AllByRecursion (BeginsOwn n) os

line_own : (n : ℕ) (x : Entry) → AsksNone (Tells x) → BeginsOwn n (Tells x)
line_own n (entry.Attempt (attempt_entry.Begun f members)) h = absurd h
line_own n _ h = tt

none_own : (n : ℕ) (os : List Output) → AskNone os → Own n os
none_own n [] h = tt
none_own n (Tells x ∷ os) h = (line_own n x h.0, none_own n os h.1)
none_own n (Sends to b ∷ os) h = (tt, none_own n os h.1)

minor_own : (n : ℕ) (x : Entry) → IsMinor x → BeginsOwn n (Tells x)
minor_own n (entry.Attempt x) h = absurd h
minor_own n _ h = tt

given_own : (n : ℕ) (os : List Output) → AreMinor os → Own n os
given_own n [] h = tt
given_own n (Tells x ∷ os) h = (minor_own n x h.0, given_own n os h.1)
given_own n (Sends to b ∷ os) h = (tt, given_own n os h)

spread_own : (n receivers : ℕ) (b : Body) → Own n (sent_to receivers b)
unfolding sent_to
spread_own n receivers b = mapped (BeginsOwn n) (λ k. Sends k b) (numbers_to receivers most_nodes) (λ k. tt)

last_own : (c : Cluster) (n : ℕ) (told : Delivered) (x : UpNode) (change : Change) → MayChange c n told x change → Own n (last_lines c n x change)
last_own c n told x (Leads p members) may = (may.1, none_own n (unknown_lines n x.requests.waiting) (mild_none (unknown_lines n x.requests.waiting) (unknown_mild n x.requests.waiting) (unknown_calm n x.requests.waiting)))
last_own c n told x (Counts a k s i) may = (tt, tt)
last_own c n told x (Promises p) may = none_own n (last_lines c n x (Promises p)) (last_none c n x (Promises p) tt)
last_own c n told x (Installs s i) may = (tt, tt)
last_own c n told x (Starts a k s) may = none_own n (last_lines c n x (Starts a k s)) (last_none c n x (Starts a k s) tt)
last_own c n told x (Sits s e) may = (tt, tt)
last_own c n told x (Distrusts d) may = tt
last_own c n told x (Admits at command a d) may = tt
last_own c n told x (Proposes s p text) may = tt
last_own c n told x (Acks s p q left text) may = (tt, tt)
last_own c n told x (Prepares s text) may = tt
last_own c n told x (Commits s) may = tt

first_own : (n : ℕ) (change : Change) → Own n (first_lines n change)
first_own n change = none_own n (first_lines n change) (first_none n change)

said_own : (c : Cluster) (n : ℕ) (told : Delivered) (x : UpNode) (a : Act) → MayAct c n told x a → ActSo a → Own n (said c n x a)
said_own c n told x Ticks may so = (tt, none_own n (ticked_output c x (later c x)) (ticked_none c x (later c x)))
said_own c n told x (Ends a e) may so = (line_own n (entry.Attempt (ended_entry a.plan.epoch e)) (ended_none a.plan.epoch e), tt)
said_own c n told x (Takes at command a) may so = (tt, tt)
said_own c n told x (Stores d value a) may so = (tt, none_own n (write_lines n x d value a) (write_none n x d value a))
said_own c n told x (Writes to b) may so = (tt, tt)
said_own c n told x (Makes change) may so = both (BeginsOwn n) (first_lines n change) (last_lines c n x change) (first_own n change) (last_own c n told x change may.0)
said_own c n told x (Gives os) may so = given_own n os so
said_own c n told x (Spreads receivers b) may so = spread_own n receivers b
said_own c n told x _ may so = tt

doing_own : (c : Cluster) (n : ℕ) (told : Delivered) (node : Node) (disk : NodeRecord) (d : Doing) → May c n told (site node disk) d → DoingSo d → Own n (gives c n (site node disk) d)
doing_own c n told node disk Comes_up may so = (tt, tt)
doing_own c n told node disk (Goes_down why) may so = (tt, tt)
doing_own c n told Down disk (Does a) may so = tt
doing_own c n told (Up y) disk (Does a) may so = said_own c n told y a may so
doing_own c n told Down disk (Saves change) may so = tt
doing_own c n told (Up y) disk (Saves change) may so = both (BeginsOwn n) (first_lines n change) (saved_lines c n y change) (first_own n change) (tt, last_own c n told y change may)
doing_own c n told node disk (Loses change why) may so = both (BeginsOwn n) (first_lines n change) (gone_line n why) (first_own n change) (tt, tt)
doing_own c n told node disk (Forgets change why) may so = both (BeginsOwn n) (first_lines n change) (gone_line n why) (first_own n change) (tt, tt)

pub all_own : (c : Cluster) (n : ℕ) (told : Delivered) (x : Site) (ds : List Doing) → MayAll c n told x ds → AllSo ds → Own n (given_all c n x ds)
all_own c n told x [] may so = tt
all_own c n told x (d ∷ ds) may so = both (BeginsOwn n) (gives c n x d) (given_all c n (effect c n x d) ds) (doing_own c n told x.node x.disk d may.0 so.0) (all_own c n told (effect c n x d) ds may.1 so.1)
