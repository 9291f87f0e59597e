-- A change of a node leaves what is known of its own requests: what it then owes to one of them is acknowledged.
use Rattle.std.specs.Prelude.{ℕ, ◌≡◌, ◌++◌, true, List, [], ◌∷◌, length, Option, None, Some, Ok, is_some}
use Rattle.std.specs.List.{AllByRecursion}
use Rattle.std.specs.Option.{option_and_then}
use Rattle.std.proofs.Common.{refl, sym, ap, subst, ◌∙◌, inl, inr}
use Rattle.admin_words.specs.Commands.{request_of}
use Rattle.admin_words.specs.declared.request.Request.TheVariants as wish
use Rattle.ccr_commit.specs.Entries.{all_committed, texts_of}
use Rattle.ccr_tables.specs.declared.update.Update.{Update}
use Rattle.cmm_attempt.proofs.Basics.{none_some}
use Rattle.cmm_member.specs.Nodes.{NodeState, with_entries}
use Rattle.proposals.specs.Proposing.{is_prepared_in}
use Rattle.proposals.specs.State.{first_in}
use Rattle.proposals.specs.declared.arrived.Arrived.{Arrived}
use Rattle.proposals.specs.declared.arrived.Proposed.{Proposed}
use Rattle.request_queue.specs.Queue.{Queue}
use Rattle.status_report.specs.declared.node_entry.DownCause.{DownCause}
use Rattle.status_report.specs.declared.node_entry.NodeEntry.TheVariants as note
use Rattle.update_words.specs.Words.{words_of}
use Rattle.history.specs.Moment.{Moment}
use Rattle.history.specs.Order.{before_last, since}
use Rattle.history.specs.Requests.{command_of, is_asking, words_before}
use Rattle.history.specs.Seizing.{is_boot}
use Rattle.history.specs.Setting.{Setting}
use Rattle.history.specs.Trace.{ack}
use Rattle.node_model.specs.Seats.{record_of, session_of, state_of, version_of}
use Rattle.node_model.specs.declared.cluster.Cluster.{Cluster}
use Rattle.node_model.specs.declared.input.Input.{Input}
use Rattle.node_model.specs.declared.node.UpNode.{UpNode}
use Rattle.node_model.specs.declared.output.Output.{Output}
use Rattle.node_model.specs.declared.presidency.Presidency.{Presidency}
use Rattle.node_model.specs.declared.seat.Seat.{Seat}
use Rattle.node_model.specs.declared.seat.Seat.TheVariants.{Member}
use Rattle.refinement.proofs.Handlers.{delivered_by}
use Rattle.refinement.specs.Doings.{Change, changed, first_lines, gone_line, last_lines, of_node}
use Rattle.refinement.specs.Doings.Change.{Acks, Admits, Commits, Counts, Distrusts, Installs, Leads, Prepares, Promises, Proposes, Sits, Starts}
use Rattle.refinement.specs.Guards.{MayChange}
use Rattle.run_history.proofs.Lists.{both}
use Rattle.run_history.specs.Scenes.{Scene, passing}
use Rattle.run_messages.specs.Laws.{membership_in}
use Rattle.run_commands.specs.carried.Guards.{Command}
use Rattle.run_commands.proofs.carried.Carried.{IsMute}
use Rattle.run_commands.proofs.carried.Changes.{state_with}
use Rattle.run_commands.proofs.carried.Lines.{SameAsked, passing_ask}
use Rattle.run_commands.proofs.carried.Mute.{first_mute, last_mute}
use Rattle.run_commands.proofs.carried.Plain.{IsPlainOutput, plains_apart}
use Rattle.run_commands.proofs.carried.Queues.{Queued}
use Rattle.run_commands.proofs.acknowledged.Granting.{IsAcked}
use Rattle.run_commands.proofs.acknowledged.Pending.{IsPending, acked_is}
use Rattle.run_commands.proofs.acknowledged.Waiting.{ReadsUpdates}
use Rattle.run_commands.proofs.acknowledged.Carrying.{Around, ChangeStep, IsSaving, change_lines}
use Rattle.run_commands.specs.acknowledged.AnsweringGuards.{AcksSo, ChangeSo, Due}
use Rattle.run_commands.specs.acknowledged.AnsweringGuards.Due.{Even, Gave, Owes}
use Rattle.run_commands.proofs.acknowledged.Own.{ChangeOwn, FirstIn, FirstSo, IsOwed, OwnDue, OwnSo, OwnTold, OwnUp}
use Rattle.run_commands.proofs.acknowledged.Settled.{AcksArePending}
use Rattle.run_commands.proofs.acknowledged.OwnActs.{even_due, facts_of}
use Rattle.run_commands.proofs.acknowledged.OwnGiving.{OwnFacts, own_asked, own_text}
use Rattle.run_commands.proofs.acknowledged.OwnLines.{mutes_quiet, passing_quiet}
use Rattle.run_commands.proofs.acknowledged.OwnNodes.{own_changes}

-- what is read as an update has these words
read_words : (c : Cluster) (S : Setting) (o : Option (List ℕ)) (words : List ℕ) (u : Update) → ReadsUpdates c S → option_and_then S.canonical o ≡ Some words → request_of (version_of c) words ≡ Ok (wish.Change u) → words_of u ≡ words
read_words c S None words u reads is read = absurd (none_some words is)
read_words c S (Some k) words u reads is read = reads k words u is read

is_proposed : (o : Option Proposed) → is_prepared_in o ≡ true → is_some o ≡ true
is_proposed None h = cc
is_proposed (Some p) h = refl

-- what is acknowledged for a request of its own has the words of its command
acked_words : (S : Setting) (c : Cluster) (n : ℕ) (x : UpNode) (p : Presidency) (a : Arrived) (text words : List ℕ) (ms : List Moment) → ReadsUpdates c S → Queued S n ms (membership_in x.seat) x.requests → OwnSo n x
    → x.presidency ≡ Some p → first_in p.proposals.arrived ≡ Some a → FirstSo c x a → (record_of x).entries.pending ≡ Some text → a.from ≡ n → command_of S n a.number ms ≡ Some words → text ≡ words
acked_words S c n x p a text words ms reads asked_so own here first so pending mine is =
    let same : a.text ≡ words = own_text S n x p a ms words asked_so own here first mine is in
    so.words text pending
    ∙ read_words c S (words_before (before_last (is_asking n a.number) (since (is_boot n) ms))) words so.update reads is (ap (λ t. request_of (version_of c) t) (sym same) ∙ so.read)

state_session : (x : UpNode) (seat : Seat) → x.seat ≡ seat → session_of x ≡ (state_of seat).session
state_session x seat at = ap (λ (z : Seat). (state_of z).session) at

-- behind its `ack` line
owed_at : (S : Setting) (c : Cluster) (n : ℕ) (i : Input) (v : Option ℕ) (x : UpNode) (s : NodeState) (p left : Presidency) (q : Queue) (text : List ℕ) (g : Due) (was ms : List Moment) → ReadsUpdates c S
    → Queued S n was (membership_in x.seat) x.requests → OwnSo n x → FirstIn c x x.presidency → MayChange c n (delivered_by i) x (Acks s p q left text) → (k : AcksSo c i n v x p left text g)
    → SameAsked S n was (ack s.session (length (texts_of s.saved.entries)) text ∷ ms) → IsPending s.session (record { place = length (texts_of s.saved.entries); words = text }) ms
    → IsOwed S n (session_of (changed c n x (Acks s p q left text))) (ack s.session (length (texts_of s.saved.entries)) text ∷ ms) k.request
owed_at S c n i v x s p left q text g was ms reads asked_so own firsts may k f pending =
    let t : NodeState = with_entries (state_of x.seat) (all_committed (record_of x).entries) in
    let session : session_of (changed c n x (Acks s p q left text)) ≡ s.session = ap (λ (z : NodeState). z.session) (state_with x.seat t) ∙ state_session x (Member s) may.1 in
    let first : FirstSo c x k.request = subst (FirstIn c x) may.0 firsts (is_proposed p.proposals.proposed may.2) k.request k.answers.first in
    λ mine words is update.
    subst (λ e. IsAcked e words (ack s.session (length (texts_of s.saved.entries)) text ∷ ms)) (sym session)
    (subst (λ w. IsAcked s.session w (ack s.session (length (texts_of s.saved.entries)) text ∷ ms))
    (acked_words S c n x p k.request text words was reads asked_so own may.0 k.answers.first first k.pending mine (sym (f.command k.request.number) ∙ is))
    (acked_is s.session (record { place = length (texts_of s.saved.entries); words = text }) text ms pending))

acks_due : (S : Setting) (c : Cluster) (n : ℕ) (i : Input) (v : Option ℕ) (x : UpNode) (s : NodeState) (p left : Presidency) (q : Queue) (text : List ℕ) (g : Due) (middle : List Output) (t : Scene) → ReadsUpdates c S
    → Queued S n t.moments (membership_in x.seat) x.requests → OwnSo n x → FirstIn c x x.presidency → MayChange c n (delivered_by i) x (Acks s p q left text) → AcksSo c i n v x p left text g → IsSaving n middle
    → AcksArePending (passing n (change_lines c n x (Acks s p q left text) middle) t).moments
    → OwnDue S n (session_of (changed c n x (Acks s p q left text))) (passing n (change_lines c n x (Acks s p q left text) middle) t).moments g
acks_due S c n i v x s p left q text g middle t reads asked_so own firsts may k saving acks =
    subst (OwnDue S n (session_of (changed c n x (Acks s p q left text))) (passing n (change_lines c n x (Acks s p q left text) middle) t).moments) (sym k.then) (by saving acks)
  where
    change : Change
    change = Acks s p q left text

    same : (os : List Output) → AllByRecursion IsPlainOutput os → SameAsked S n t.moments (passing n os t).moments
    same os plain = (passing_ask S n n os t (plains_apart n os plain)).asks

    plainly : AcksArePending (passing n (change_lines c n x change []) t).moments → IsOwed S n (session_of (changed c n x change)) (passing n (change_lines c n x change []) t).moments k.request
    plainly a = owed_at S c n i v x s p left q text g t.moments t.moments reads asked_so own firsts may k (same (change_lines c n x change []) (tt, tt)) a.0

    saved : AcksArePending (passing n (change_lines c n x change (of_node n note.Saved ∷ [])) t).moments
        → IsOwed S n (session_of (changed c n x change)) (passing n (change_lines c n x change (of_node n note.Saved ∷ [])) t).moments k.request
    saved a = owed_at S c n i v x s p left q text g t.moments (passing n (of_node n note.Saved ∷ []) t).moments reads asked_so own firsts may k (same (change_lines c n x change (of_node n note.Saved ∷ [])) (tt, (tt, tt))) a.0

    by : IsSaving n middle → AcksArePending (passing n (change_lines c n x change middle) t).moments → IsOwed S n (session_of (changed c n x change)) (passing n (change_lines c n x change middle) t).moments k.request
    by (inl is) =
        subst (λ os. AcksArePending (passing n (change_lines c n x change os) t).moments → IsOwed S n (session_of (changed c n x change)) (passing n (change_lines c n x change os) t).moments k.request) (sym is) plainly
    by (inr is) =
        subst (λ os. AcksArePending (passing n (change_lines c n x change os) t).moments → IsOwed S n (session_of (changed c n x change)) (passing n (change_lines c n x change os) t).moments k.request) (sym is) saved

change_due : (S : Setting) (c : Cluster) (n : ℕ) (i : Input) (v : Option ℕ) (x : UpNode) (change : Change) (d g : Due) (middle : List Output) (t : Scene) → ReadsUpdates c S
    → Queued S n t.moments (membership_in x.seat) x.requests → OwnSo n x → FirstIn c x x.presidency → MayChange c n (delivered_by i) x change → ChangeSo c i n v x d change g → IsSaving n middle
    → AcksArePending (passing n (change_lines c n x change middle) t).moments → OwnDue S n (session_of (changed c n x change)) (passing n (change_lines c n x change middle) t).moments g
change_due S c n i v x (Acks s p q left text) Even g middle t reads asked_so own firsts may so saving acks = acks_due S c n i v x s p left q text g middle t reads asked_so own firsts may so saving acks
change_due S c n i v x (Proposes s p text) Even g middle t reads asked_so own firsts may so saving acks =
    even_due S n (session_of (changed c n x (Proposes s p text))) (passing n (change_lines c n x (Proposes s p text) middle) t).moments g so.1
change_due S c n i v x (Promises p) Even g middle t reads asked_so own firsts may so saving acks =
    even_due S n (session_of (changed c n x (Promises p))) (passing n (change_lines c n x (Promises p) middle) t).moments g so
change_due S c n i v x (Leads p members) Even g middle t reads asked_so own firsts may so saving acks =
    even_due S n (session_of (changed c n x (Leads p members))) (passing n (change_lines c n x (Leads p members) middle) t).moments g so
change_due S c n i v x (Counts a k s j) Even g middle t reads asked_so own firsts may so saving acks =
    even_due S n (session_of (changed c n x (Counts a k s j))) (passing n (change_lines c n x (Counts a k s j) middle) t).moments g so
change_due S c n i v x (Installs s j) Even g middle t reads asked_so own firsts may so saving acks =
    even_due S n (session_of (changed c n x (Installs s j))) (passing n (change_lines c n x (Installs s j) middle) t).moments g so
change_due S c n i v x (Starts a k s) Even g middle t reads asked_so own firsts may so saving acks =
    even_due S n (session_of (changed c n x (Starts a k s))) (passing n (change_lines c n x (Starts a k s) middle) t).moments g so
change_due S c n i v x (Sits s e) Even g middle t reads asked_so own firsts may so saving acks =
    even_due S n (session_of (changed c n x (Sits s e))) (passing n (change_lines c n x (Sits s e) middle) t).moments g so
change_due S c n i v x (Distrusts d) Even g middle t reads asked_so own firsts may so saving acks =
    even_due S n (session_of (changed c n x (Distrusts d))) (passing n (change_lines c n x (Distrusts d) middle) t).moments g so
change_due S c n i v x (Admits at command a d) Even g middle t reads asked_so own firsts may so saving acks =
    even_due S n (session_of (changed c n x (Admits at command a d))) (passing n (change_lines c n x (Admits at command a d) middle) t).moments g so
change_due S c n i v x (Prepares s text) Even g middle t reads asked_so own firsts may so saving acks =
    even_due S n (session_of (changed c n x (Prepares s text))) (passing n (change_lines c n x (Prepares s text) middle) t).moments g so
change_due S c n i v x (Commits s) Even g middle t reads asked_so own firsts may so saving acks =
    even_due S n (session_of (changed c n x (Commits s))) (passing n (change_lines c n x (Commits s) middle) t).moments g so
change_due S c n i v x change (Gave a reply) g middle t reads asked_so own firsts may so saving acks = absurd so
change_due S c n i v x change (Owes a) g middle t reads asked_so own firsts may so saving acks = absurd so

-- ---- its lines

saving_mute : (n : ℕ) (middle : List Output) → IsSaving n middle → AllByRecursion IsMute middle
saving_mute n middle (inl is) = subst (AllByRecursion IsMute) (sym is) tt
saving_mute n middle (inr is) = subst (AllByRecursion IsMute) (sym is) (tt, tt)

lines_mute : (c : Cluster) (n : ℕ) (x : UpNode) (change : Change) (middle : List Output) → IsSaving n middle → AllByRecursion IsMute (change_lines c n x change middle)
lines_mute c n x change middle saving =
    both IsMute (first_lines n change) (middle ++ last_lines c n x change) (first_mute n change) (both IsMute middle (last_lines c n x change) (saving_mute n middle saving) (last_mute c n x change))

pub own_change : (S : Setting) (c : Cluster) (n : ℕ) (i : Input) (v : Option ℕ) (o : Option Command) (h : Option ℕ) (promised : ℕ) (x : UpNode) (change : Change) (d g : Due) (middle : List Output) (s : Scene) → ReadsUpdates c S
    → Around S c n i v o h promised x s → IsSaving n middle → ChangeStep c n i v o x change d g (change_lines c n x change middle) s → ChangeOwn i n v x change → FirstIn c x x.presidency → OwnUp S n d x s.moments → OwnTold S s.moments
    → OwnUp S n g (changed c n x change) (passing n (change_lines c n x change middle) s).moments × OwnTold S (passing n (change_lines c n x change middle) s).moments
own_change S c n i v o h promised x change d g middle s reads around saving step own firsts up told =
    let f : OwnFacts S c n i x s.moments = facts_of S c n i v o h promised x s around in (
      record {
        own = own_changes c i n v (delivered_by i) x change f.range f.sound (λ b. own_asked S c n i v x s.moments b f told) step.may step.elsewhere own up.own;
        due = change_due S c n i v x change d g middle s reads f.queued up.own firsts step.may step.so saving step.acks;
      },
      passing_quiet S n (change_lines c n x change middle) s (mutes_quiet n (change_lines c n x change middle) (lines_mute c n x change middle saving)) told,
    )

-- the node goes down in its save
pub own_falls : (S : Setting) (n : ℕ) (change : Change) (why : DownCause) (s : Scene) → OwnTold S s.moments → OwnTold S (passing n (first_lines n change ++ gone_line n why) s).moments
own_falls S n change why s told =
    passing_quiet S n (first_lines n change ++ gone_line n why) s
    (mutes_quiet n (first_lines n change ++ gone_line n why) (both IsMute (first_lines n change) (gone_line n why) (first_mute n change) (tt, tt))) told
