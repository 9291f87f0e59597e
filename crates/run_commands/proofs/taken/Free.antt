-- A command that a node need not answer by itself is not so answered in its step.
use Rattle.std.specs.Prelude.{ℕ, ◌≡◌, ◌||◌, Bool, true, false, List, [], ◌∷◌, Option, None, Some, MatchOption}
use Rattle.std.specs.List.{AllByRecursion}
use Rattle.std.proofs.Common.{refl, sym, ap, subst, ◌∙◌}
use Rattle.admin_words.specs.Commands.{command_of}
use Rattle.cl_base.specs.declared.header.Version.{Version}
use Rattle.cl_base.specs.declared.method.Outcome as method
use Rattle.cl_base.specs.declared.packet.DropCause.{DropCause}
use Rattle.cmm_attempt.proofs.Basics.{if_either}
use Rattle.cmm_member.specs.Records.{NodeRecord}
use Rattle.interconnect.specs.Links as links
use Rattle.interconnect.specs.Links.{sending}
use Rattle.record_disk.specs.Disks.{DiskState}
use Rattle.request_queue.specs.Queue.{next_number}
use Rattle.status_report.specs.declared.command_entry.Answer.{Answer}
use Rattle.status_report.specs.declared.command_entry.Answer.TheVariants as answer
use Rattle.status_report.specs.declared.command_entry.CommandEntry.TheVariants as command
use Rattle.status_report.specs.declared.entry.Entry.{Entry}
use Rattle.status_report.specs.declared.entry.Entry.TheVariants as entry
use Rattle.status_report.specs.declared.packet_entry.PacketEntry.TheVariants as packet
use Rattle.wire.specs.Spelling.{spelling}
use Rattle.wire.specs.declared.message.Message.{Message}
use Rattle.history.specs.Commands.{has_own_answer, is_own_answer}
use Rattle.history.specs.Moment.{Moment, Told}
use Rattle.history.specs.Requests.{before_asking, words_before}
use Rattle.history.specs.Setting.{Setting}
use Rattle.node_model.specs.Requests.{numbered}
use Rattle.node_model.specs.Seats.{version_of}
use Rattle.node_model.specs.Steps.{Outcome, at_second, stepped}
use Rattle.node_model.specs.declared.cluster.Cluster.{Cluster}
use Rattle.node_model.specs.declared.input.Input.{Input}
use Rattle.node_model.specs.declared.input.Input.TheVariants as input
use Rattle.node_model.specs.declared.node.Node.TheVariants.{Up}
use Rattle.node_model.specs.declared.node.UpNode.{UpNode}
use Rattle.node_model.specs.declared.output.Output.{Output}
use Rattle.node_model.specs.declared.output.Output.TheVariants.{Tells, Sends}
use Rattle.refinement.proofs.Disks.{disks_keep_rules}
use Rattle.refinement.proofs.Replies.{steps_are_cut}
use Rattle.refinement.specs.Courses.{Course, Reply, under}
use Rattle.refinement.specs.Cuts as cuts
use Rattle.refinement.specs.Doings.{after_all, given_all, site}
use Rattle.refinement.specs.Steps.{IsCut, disk_rules}
use Rattle.world_model.specs.Sends.{is_sent, name_of}
use Rattle.run_history.specs.Scenes.{Scene, dropped_so, passing, posting, sent_as, telling, with_links}
use Rattle.run_commands.specs.Answers.{AreReasoned, IsReasoned}
use Rattle.run_commands.specs.Own.{FitsCase, FitsOwnAnswer, case_of}
use Rattle.run_commands.specs.Reads.{OwnCause, OwnReplies, ReadsIn}
use Rattle.run_commands.proofs.ReadRequesting.{worded_so}
use Rattle.run_commands.proofs.ReadWalk.{Ends_so, read_walk}
use Rattle.run_commands.specs.taken.Entries.{FirstTold, any_told}

-- ---- a setting in which no answer of a node itself fits

-- all words are bad, and their error is `ok`, which no node answers by itself
abbrev wordless : Setting → Setting
wordless S = record S { canonical = λ words. None; word_error = λ words. answer.Ok }

never_own : (S : Setting) (ms : List Moment) (n : ℕ) (reply : Answer) (b : Bool) → is_own_answer reply ≡ b → FitsOwnAnswer (wordless S) ms n reply b → b ≡ false
never_own S ms n reply false is fits = refl
never_own S ms n reply true is fits = by_words (words_before ms) fits
  where
    by_words : (o : Option (List ℕ)) → MatchOption o ⊥ (λ words. FitsCase (wordless S) words (case_of (wordless S) ms n words) reply) → true ≡ false
    by_words None f = absurd f
    by_words (Some words) f = sym is ∙ ap is_own_answer f

abbrev IsFree : Output → Type 0
IsFree (Tells e) = has_own_answer (Told e) ≡ false
IsFree (Sends to b) = Unit {0}

free_line : (S : Setting) (ms : List Moment) (e : Entry) → IsReasoned (wordless S) ms (Told e) → has_own_answer (Told e) ≡ false
free_line S ms (entry.Command (command.Answered n q reply)) r = never_own S (before_asking n q ms) n reply (is_own_answer reply) refl r.1
free_line S ms (entry.Command (command.Asked n q)) r = refl
free_line S ms _ r = refl

-- ---- what was reasoned stands before what is told

before_drop : (S : Setting) (o : Option (ℕ × DropCause)) (s : Scene) → AreReasoned S (dropped_so o s).moments → AreReasoned S s.moments
before_drop S None s h = h
before_drop S (Some x) s h = h.1

before_posting : (S : Setting) (from to : ℕ) (m : Message) (s : Scene) → AreReasoned S (posting from to m s).moments → AreReasoned S s.moments
before_posting S from to m s =
    let o : links.Outcome = sending s.links from to (spelling m) in
    let e : Entry = entry.Packet (packet.Sent s.links.next from to (name_of m.body) (spelling m)) in
    if_either (λ (z : Scene). AreReasoned S z.moments → AreReasoned S s.moments) (is_sent s.links m) (sent_as from to m o s) s
    (λ h. (before_drop S o.sent.dropped (telling e (with_links s o.after)) h).1) (λ h. h)

before_passing : (S : Setting) (n : ℕ) (os : List Output) (s : Scene) → AreReasoned S (passing n os s).moments → AreReasoned S s.moments
before_passing S n [] s h = h
before_passing S n (Tells e ∷ os) s h = (before_passing S n os (telling e s) h).1
before_passing S n (Sends to b ∷ os) s h =
    let m : Message = record { sender = n; body = b } in
    before_posting S n to m s (before_passing S n os (posting n to m s) h)

all_free : (S : Setting) (n : ℕ) (os : List Output) (s : Scene) → AreReasoned (wordless S) (passing n os s).moments → AllByRecursion IsFree os
all_free S n [] s h = tt
all_free S n (Tells e ∷ os) s h = (free_line S s.moments e (before_passing (wordless S) n os (telling e s) h).0, all_free S n os (telling e s) h)
all_free S n (Sends to b ∷ os) s h = (tt, all_free S n os (posting n to (record { sender = n; body = b }) s) h)

none_told : (os : List Output) → AllByRecursion IsFree os → any_told has_own_answer os ≡ false
none_told [] h = refl
none_told (Tells e ∷ os) h = neither (has_own_answer (Told e)) (any_told has_own_answer os) h.0 (none_told os h.1)
  where
    neither : (a b : Bool) → a ≡ false → b ≡ false → (a || b) ≡ false
    neither true b g k = cc
    neither false b g k = k
none_told (Sends to b ∷ os) h = none_told os h.1

-- ---- the step

abbrev Nothing : OwnReplies
Nothing q reply = ⊥

-- nothing is to be answered to it by the node itself
abbrev pub NoCause : Version → UpNode → List ℕ → Type 0
NoCause v x words = (reply : Answer) → OwnCause v x.seat x.presidency x.requests.waiting words reply → ⊥

-- what a node gives that a command comes to: first its line, and then, if nothing is to be answered by the node itself, no such answer
pub record Given (n q : ℕ) (v : Version) (x : UpNode) (words : List ℕ) (os : List Output) : Type 0 where
  pub first : (entries : List Moment) → FirstTold os entries → FirstTold (Tells (entry.Command (command.Asked n q)) ∷ []) entries
  pub free : NoCause v x words → any_told has_own_answer os ≡ false

course_free : (S : Setting) (c : Cluster) (n : ℕ) (replies : List Reply) (x : UpNode) (disk : NodeRecord) (words : List ℕ) (s : Scene) → ReadsIn (version_of c) x → NoCause (version_of c) x words
    → AllByRecursion IsFree (given_all c n (site (Up x) disk) (under replies (cuts.command_course c n x words)))
course_free S c n replies x disk words s reads none =
    let q : ℕ = next_number x.requests in
    let y : UpNode = numbered x in
    let t : Scene = record s { moments = [] } in
    let rest : Course = cuts.worded_course c n y q (command_of (version_of c) words) in
    let more : List Output = given_all c n (site (Up y) disk) (under replies rest) in
    let e : Ends_so (wordless S) n (version_of c) (after_all c n (site (Up y) disk) (under replies rest)).node more t =
    read_walk (wordless S) c n (input.Commanded words) Nothing replies rest y disk t
    (worded_so c n (input.Commanded words) Nothing y q words (command_of (version_of c) words) refl (λ reply cause. none reply cause))
    (record { reads = record { waiting_read = reads.waiting_read; office_read = reads.office_read }; now = λ k reply own. absurd own; at = refl; explained = tt }) in
    (refl, all_free S n more t e.explained)

pub given_so : (S : Setting) (c : Cluster) (n now : ℕ) (ends : method.Outcome) (x : UpNode) (disk : DiskState) (words : List ℕ) (s : Scene) → ReadsIn (version_of c) x
    → Given n (next_number x.requests) (version_of c) (at_second now x) words (stepped disk_rules c n now ends (Up x) disk (input.Commanded words)).given
given_so S c n now ends x disk words s reads =
    let i : Input = input.Commanded words in
    let o : Outcome DiskState = stepped disk_rules c n now ends (Up x) disk i in
    let y : UpNode = at_second now x in
    let cut : IsCut disk_rules c n now ends (Up x) disk i [] o = steps_are_cut disk_rules disks_keep_rules c n now ends (Up x) disk i in
    subst (λ os. Given n (next_number x.requests) (version_of c) y words os) cut.comes.given (record {
      first = λ entries h. h;
      free = λ none.
          none_told (given_all c n (site (Up y) disk.kept) (under cut.replies (cuts.command_course c n y words)))
          (course_free S c n cut.replies y disk.kept words s (record { waiting_read = reads.waiting_read; office_read = reads.office_read }) none);
    })
