-- Each small step of a node: what is known of its last call stays so, and each line of an end is due.
use Rattle.std.specs.Prelude.{ℕ, ◌≡◌, ◌++◌, Some}
use Rattle.std.proofs.Common.{sym, subst, ◌∙◌}
use Rattle.cmm_attempt.proofs.Basics.{false_true, none_some}
use Rattle.cmm_attempt.specs.Attempts.{AttemptState}
use Rattle.cmm_attempt.specs.Calls.{Call, turn}
use Rattle.cmm_member.specs.Records.{NodeRecord}
use Rattle.history.specs.Setting.{Setting}
use Rattle.membership_machine.specs.Events.{Run}
use Rattle.membership_machine.specs.Invariant.{Holds}
use Rattle.membership_machine.specs.State.{Memberships}
use Rattle.node_model.specs.declared.cluster.Cluster.{Cluster}
use Rattle.node_model.specs.declared.node.Node.{Node}
use Rattle.node_model.specs.declared.node.Node.TheVariants.{Down, Up}
use Rattle.node_model.specs.declared.node.UpNode.{UpNode}
use Rattle.refinement.specs.Doings.{Act, Change, Doing, first_lines, gives, gone_line, said, saved_lines, site}
use Rattle.refinement.specs.Doings.Act.{Accepts, Dates, Ends, Gives, Goes_on, Hears, Makes, Minds, Notes as Notes_prepared, Queues, Spreads, Stores, Takes, Ticks, Waits, Works, Writes}
use Rattle.refinement.specs.Doings.Change.{Counts, Starts}
use Rattle.refinement.specs.Doings.Doing.{Comes_up, Does, Forgets, Goes_down, Loses, Saves}
use Rattle.refinement.specs.Events.{of_act, of_doing}
use Rattle.refinement.specs.Guards.{May, MayAct, MayChange}
use Rattle.refinement.specs.Runs.{Nodes}
use Rattle.refinement.specs.Ties.{Delivered, NodeTied, setting_of}
use Rattle.run_history.proofs.Lists.{both}
use Rattle.run_history.specs.Marks.{ActSo, DoingSo}
use Rattle.run_history.specs.Noted.{Notes}
use Rattle.run_history.specs.Scenes.{Scene, passing}
use Rattle.run_messages.specs.records.Kept.{Goes}
use Rattle.status_report.specs.declared.node_entry.DownCause.{DownCause}
use Rattle.run_outcomes.specs.counts.Ends.{ActFits, DoingFits, Last, last_after, last_by, last_by_change}
use Rattle.run_outcomes.specs.counts.Facts.{AllDue, CountsIn, Foretold, LastTied}
use Rattle.run_outcomes.specs.counts.Shorts.{NodePlanned}
use Rattle.run_outcomes.proofs.counts.Ended.{Tied, ends_due, tied_of}
use Rattle.run_outcomes.proofs.counts.Given.{call_ends_so}
use Rattle.run_outcomes.proofs.counts.Lines.{ArePlain, IsMild, IsPlain, first_plain, passing_due, said_plain, saved_plain}
use Rattle.run_outcomes.proofs.counts.Votes.{foretells}

-- ---- the last call

change_tied : (c : Cluster) (M N : Memberships) (n : ℕ) (told : Delivered) (x : UpNode) (change : Change) (last : Last) → MayChange c n told x change → LastTied c N (last_by_change last change)
change_tied c M N n told x (Counts a k s i) last may = λ why is. absurd (none_some i (sym (call_ends_so a k why is).installs ∙ may.3))
change_tied c M N n told x (Starts a k s) last may = λ why is. absurd (false_true (sym (call_ends_so a k why is).starts ∙ may.3))
change_tied c M N n told x _ last may = tt

-- nothing has happened in the machine
same_tied : (c : Cluster) (M N : Memberships) (last : Last) → N ≡ M → LastTied c M last → LastTied c N last
same_tied c M N last same h = subst (λ Z. LastTied c Z last) (sym same) h

call_tied : (c : Cluster) (M N : Memberships) (n : ℕ) (told : Delivered) (x : UpNode) (disk : NodeRecord) (a : AttemptState) (k : Call) → Holds (setting_of c) M → NodeTied c M n disk (Up x) → MayAct c n told x (Goes_on a k) → N ≡ M → LastTied c N (Some (a, k))
call_tied c M N n told x disk a k holds tied may same = λ why is.
    let t : Tied c M n a = tied_of c M n disk x a tied may.0 in
    subst (λ Z. Foretold c Z (turn a k).after why) (sym same) (foretells c M n told t.state a k why holds t.session t.co may.1 is)

act_tied : (c : Cluster) (M N : Memberships) (n : ℕ) (told : Delivered) (x : UpNode) (disk : NodeRecord) (a : Act) (last : Last) → Holds (setting_of c) M → NodeTied c M n disk (Up x) → MayAct c n told x a → Run (setting_of c) M (of_act n a) N
    → LastTied c M last → LastTied c N (last_by last a)
act_tied c M N n told x disk (Goes_on a k) last holds tied may run h = call_tied c M N n told x disk a k holds tied may run
act_tied c M N n told x disk (Queues a d kind) last holds tied may run h = same_tied c M N last run h
act_tied c M N n told x disk (Writes to b) last holds tied may run h = same_tied c M N last run h
act_tied c M N n told x disk (Makes change) last holds tied may run h = change_tied c M N n told x change last may.0
act_tied c M N n told x disk _ last holds tied may run h = tt

pub doing_tied : (c : Cluster) (M N : Memberships) (n : ℕ) (told : Delivered) (node : Node) (disk : NodeRecord) (d : Doing) (last : Last) → Holds (setting_of c) M → NodeTied c M n disk node → May c n told (site node disk) d
    → Run (setting_of c) M (of_doing n d) N → LastTied c M last → LastTied c N (last_after last d)
doing_tied c M N n told (Up x) disk (Does a) last holds tied may run h = act_tied c M N n told x disk a last holds tied may run h
doing_tied c M N n told (Up x) disk (Saves change) last holds tied may run h = change_tied c M N n told x change last may
doing_tied c M N n told Down disk (Does a) last holds tied may run h = absurd may
doing_tied c M N n told Down disk (Saves change) last holds tied may run h = absurd may
doing_tied c M N n told node disk Comes_up last holds tied may run h = tt
doing_tied c M N n told node disk (Goes_down why) last holds tied may run h = tt
doing_tied c M N n told node disk (Loses change why) last holds tied may run h = tt
doing_tied c M N n told node disk (Forgets change why) last holds tied may run h = tt

-- ---- the lines

gone_plain : (n : ℕ) (change : Change) (why : DownCause) → ArePlain (first_lines n change ++ gone_line n why)
gone_plain n change why = both IsPlain (first_lines n change) (gone_line n why) (first_plain n change) (tt, tt)

mild_goes : (S : Setting) (c : Cluster) (n : ℕ) (x : UpNode) (a : Act) (s : Scene) → IsMild a → ActSo a → AllDue S s.moments → AllDue S (passing n (said c n x a) s).moments
mild_goes S c n x a s mild so due = passing_due S n (said c n x a) s (said_plain c n x a mild so) due

act_goes : (S : Setting) (c : Cluster) (M : Memberships) (n : ℕ) (told : Delivered) (v : Nodes) (x : UpNode) (disk : NodeRecord) (a : Act) (last : Last) (s : Scene) → CountsIn S c → Holds (setting_of c) M → NodeTied c M n disk (Up x) → NodePlanned c (Up x) → LastTied c M last
    → ActFits last x a → ActSo a → Notes s.moments n (site (Up x) disk) → Goes n told v M (site (Up x) disk) s → AllDue S s.moments → AllDue S (passing n (said c n x a) s).moments
act_goes S c M n told v x disk (Ends a why) last s counts holds tied planned h fits so notes goes due = (ends_due S c M n told v x disk a why last s counts holds tied planned fits.0 h fits.1 notes goes, due)
act_goes S c M n told v x disk (Hears from b) last s counts holds tied planned h fits so notes goes due = mild_goes S c n x (Hears from b) s tt so due
act_goes S c M n told v x disk Ticks last s counts holds tied planned h fits so notes goes due = mild_goes S c n x Ticks s tt so due
act_goes S c M n told v x disk Waits last s counts holds tied planned h fits so notes goes due = mild_goes S c n x Waits s tt so due
act_goes S c M n told v x disk (Goes_on a k) last s counts holds tied planned h fits so notes goes due = mild_goes S c n x (Goes_on a k) s tt so due
act_goes S c M n told v x disk (Queues a d kind) last s counts holds tied planned h fits so notes goes due = mild_goes S c n x (Queues a d kind) s tt so due
act_goes S c M n told v x disk (Accepts kind e members d) last s counts holds tied planned h fits so notes goes due = mild_goes S c n x (Accepts kind e members d) s tt so due
act_goes S c M n told v x disk (Takes at command a) last s counts holds tied planned h fits so notes goes due = mild_goes S c n x (Takes at command a) s tt so due
act_goes S c M n told v x disk (Stores d value a) last s counts holds tied planned h fits so notes goes due = mild_goes S c n x (Stores d value a) s tt so due
act_goes S c M n told v x disk (Writes to b) last s counts holds tied planned h fits so notes goes due = mild_goes S c n x (Writes to b) s tt so due
act_goes S c M n told v x disk (Makes change) last s counts holds tied planned h fits so notes goes due = mild_goes S c n x (Makes change) s tt so due
act_goes S c M n told v x disk (Gives os) last s counts holds tied planned h fits so notes goes due = mild_goes S c n x (Gives os) s tt so due
act_goes S c M n told v x disk (Spreads receivers b) last s counts holds tied planned h fits so notes goes due = mild_goes S c n x (Spreads receivers b) s tt so due
act_goes S c M n told v x disk (Minds q p) last s counts holds tied planned h fits so notes goes due = mild_goes S c n x (Minds q p) s tt so due
act_goes S c M n told v x disk (Notes_prepared from place p) last s counts holds tied planned h fits so notes goes due = mild_goes S c n x (Notes_prepared from place p) s tt so due
act_goes S c M n told v x disk (Dates now) last s counts holds tied planned h fits so notes goes due = mild_goes S c n x (Dates now) s tt so due
act_goes S c M n told v x disk (Works w) last s counts holds tied planned h fits so notes goes due = mild_goes S c n x (Works w) s tt so due

pub doing_goes : (S : Setting) (c : Cluster) (M : Memberships) (n : ℕ) (told : Delivered) (v : Nodes) (node : Node) (disk : NodeRecord) (d : Doing) (last : Last) (s : Scene) → CountsIn S c → Holds (setting_of c) M → NodeTied c M n disk node → NodePlanned c node
    → LastTied c M last → DoingFits last (site node disk) d → DoingSo d → Notes s.moments n (site node disk) → Goes n told v M (site node disk) s → AllDue S s.moments → AllDue S (passing n (gives c n (site node disk) d) s).moments
doing_goes S c M n told v (Up x) disk (Does a) last s counts holds tied planned h fits so notes goes due = act_goes S c M n told v x disk a last s counts holds tied planned h fits so notes goes due
doing_goes S c M n told v Down disk (Does a) last s counts holds tied planned h fits so notes goes due = due
doing_goes S c M n told v (Up x) disk (Saves change) last s counts holds tied planned h fits so notes goes due = passing_due S n (first_lines n change ++ saved_lines c n x change) s (saved_plain c n x change) due
doing_goes S c M n told v Down disk (Saves change) last s counts holds tied planned h fits so notes goes due = due
doing_goes S c M n told v node disk Comes_up last s counts holds tied planned h fits so notes goes due = (tt, due)
doing_goes S c M n told v node disk (Goes_down why) last s counts holds tied planned h fits so notes goes due = (tt, due)
doing_goes S c M n told v node disk (Loses change why) last s counts holds tied planned h fits so notes goes due = passing_due S n (first_lines n change ++ gone_line n why) s (gone_plain n change why) due
doing_goes S c M n told v node disk (Forgets change why) last s counts holds tied planned h fits so notes goes due = passing_due S n (first_lines n change ++ gone_line n why) s (gone_plain n change why) due
