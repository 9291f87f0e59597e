-- A whole step of a node, whatever comes to it, leaves each answer explained.
use Rattle.std.specs.Prelude.{ℕ, ◌≡◌, ◌≤◌, ◌==◌, ◌&&◌, ◌||◌, Bool, true, false, List, [], ◌∷◌}
use Rattle.std.specs.List.{list_any}
use Rattle.std.proofs.Common.{refl, sym, subst, arith}
use Rattle.admin_words.specs.Commands.{command_of}
use Rattle.cl_base.specs.declared.header.Version.{Version}
use Rattle.cl_base.specs.declared.method.Outcome as method
use Rattle.cmm_member.specs.Records.{NodeRecord}
use Rattle.history.specs.Commands.{is_own_answer}
use Rattle.history.specs.Member.{in_collect}
use Rattle.history.specs.Moment.{Moment, Told}
use Rattle.history.specs.Order.{so_far}
use Rattle.history.specs.Requests.{before_asking, is_asking}
use Rattle.history.specs.Setting.{Setting}
use Rattle.node_model.specs.Requests.{numbered}
use Rattle.node_model.specs.Seats.{version_of}
use Rattle.node_model.specs.Steps.{at_second}
use Rattle.node_model.specs.declared.cluster.Cluster.{Cluster}
use Rattle.node_model.specs.declared.input.Input.{Input}
use Rattle.node_model.specs.declared.input.Input.TheVariants as input
use Rattle.node_model.specs.declared.node.Node.TheVariants.{Down, Up}
use Rattle.node_model.specs.declared.node.UpNode.{UpNode}
use Rattle.refinement.specs.Courses.{Course, Reply, under}
use Rattle.refinement.specs.Courses.Reply.{Done, Lost_new, Lost_old}
use Rattle.refinement.specs.Cuts as cuts
use Rattle.refinement.specs.Cuts.{course_at, doings, down_doings}
use Rattle.refinement.specs.Doings.{Doing, after_all, given_all, gone_line, of_node, site}
use Rattle.request_queue.specs.Queue.{next_number}
use Rattle.status_report.specs.declared.command_entry.Answer.{Answer}
use Rattle.status_report.specs.declared.command_entry.CommandEntry.TheVariants as command
use Rattle.status_report.specs.declared.entry.Entry.{Entry}
use Rattle.status_report.specs.declared.entry.Entry.TheVariants as entry
use Rattle.status_report.specs.declared.node_entry.DownCause.{DownCause}
use Rattle.status_report.specs.declared.node_entry.DownCause.TheVariants as down
use Rattle.status_report.specs.declared.node_entry.NodeEntry.TheVariants as note
use Rattle.node_model.specs.declared.node.Node.{Node}
use Rattle.run_history.specs.Scenes.{Scene, telling}
use Rattle.run_history.proofs.Idle.{if_true}
use Rattle.run_commands.specs.Answers.{AreReasoned}
use Rattle.run_commands.specs.Own.{FitsOwnAnswer}
use Rattle.run_commands.specs.Reads.{CameSo, OwnCause, OwnReplies, ReadsIn, collects}
use Rattle.run_commands.proofs.Explained.{Now}
use Rattle.run_commands.proofs.Fitting.{cause_known}
use Rattle.run_commands.proofs.Hearing.{IsNoCommand}
use Rattle.run_commands.proofs.ReadRequesting.{worded_so}
use Rattle.run_commands.proofs.Readings.{course_at_so}
use Rattle.run_commands.proofs.ReadWalk.{Ends_so, NodeReads, down_so, read_walk}

abbrev EndsBy : Setting → Cluster → ℕ → Node → NodeRecord → List Doing → Scene → Type 0
EndsBy S c n node disk ds s = Ends_so S n (version_of c) (after_all c n (site node disk) ds).node (given_all c n (site node disk) ds) s

-- no command came
abbrev Nothing : OwnReplies
Nothing q reply = ⊥

no_now : (S : Setting) (n : ℕ) (ms : List Moment) → Now S n Nothing ms
no_now S n ms q reply own = absurd own

-- ---- a command

same_is : (k : ℕ) → (k == k) ≡ true
same_is k = grind arith

or_first : (a b : Bool) → a ≡ true → (a || b) ≡ true
or_first true b h = refl
or_first false b h = cc

both_true : (a b : Bool) → a ≡ true → b ≡ true → (a && b) ≡ true
both_true true b g h = h
both_true false b g h = cc

-- what a node may answer by itself to the command that comes fits it
abbrev pub CommandFits : Setting → Version → ℕ → Node → List Moment → Input → Type 0
CommandFits S v n (Up x) ms (input.Commanded words) =
    (reply : Answer) → OwnCause v x.seat x.presidency x.requests.waiting words reply → FitsOwnAnswer S ms n reply (is_own_answer reply)
CommandFits S v n node ms i = Unit {0}

-- it is of the command of this number, and has a cause
abbrev Caused : ℕ → Version → UpNode → List ℕ → OwnReplies
Caused q v x words k reply = (k ≡ q) × OwnCause v x.seat x.presidency x.requests.waiting words reply

asked_now : (S : Setting) (v : Version) (n q : ℕ) (x : UpNode) (words : List ℕ) (ms : List Moment) → CommandFits S v n (Up x) ms (input.Commanded words)
    → Now S n (Caused q v x words) (Told (entry.Command (command.Asked n q)) ∷ ms)
asked_now S v n q x words ms fits k reply own =
    let here : ((n == n) && (q == q)) ≡ true = both_true (n == n) (q == q) (same_is n) (same_is q) in (
      cause_known v x.seat x.presidency x.requests.waiting words reply own.1,
      subst (λ j. list_any (is_asking n j) (so_far (Told (entry.Command (command.Asked n q)) ∷ ms)) ≡ true) (sym own.0)
          (or_first ((n == n) && (q == q)) (list_any (is_asking n q) (so_far ms)) here),
      subst (λ j. FitsOwnAnswer S (before_asking n j (Told (entry.Command (command.Asked n q)) ∷ ms)) n reply (is_own_answer reply)) (sym own.0)
          (subst (λ xs. FitsOwnAnswer S xs n reply (is_own_answer reply)) (sym (if_true ((n == n) && (q == q)) ms (before_asking n q ms) here)) (fits reply own.1)),
    )

command_step : (S : Setting) (c : Cluster) (n : ℕ) (replies : List Reply) (x : UpNode) (disk : NodeRecord) (words : List ℕ) (s : Scene) → n ≤ 32 → ReadsIn (version_of c) x → AreReasoned S s.moments
    → in_collect n s.moments ≡ false → CommandFits S (version_of c) n (Up x) s.moments (input.Commanded words) → EndsBy S c n (Up x) disk (under replies (cuts.command_course c n x words)) s
command_step S c n replies x disk words s low reads explained at fits =
    let q : ℕ = next_number x.requests in
    let y : UpNode = numbered x in
    let told : Entry = entry.Command (command.Asked n q) in
    let rest : Course = cuts.worded_course c n y q (command_of (version_of c) words) in
    let o : OwnReplies = Caused q (version_of c) x words in
    let e : EndsBy S c n (Up y) disk (under replies rest) (telling told s) =
    read_walk S c n (input.Commanded words) o replies rest y disk (telling told s)
    (worded_so c n (input.Commanded words) o y q words (command_of (version_of c) words) refl (λ reply cause. (refl, cause)))
    (record {
      reads = record { waiting_read = reads.waiting_read; office_read = reads.office_read };
      now = asked_now S (version_of c) n q x words s.moments fits;
      at = at;
      explained = ((tt, tt), explained);
    }) in
    record { reads = e.reads; explained = e.explained; sends = (tt, e.sends) }

-- ---- a node that is up

plain_step : (S : Setting) (c : Cluster) (n now : ℕ) (ends : method.Outcome) (i : Input) (replies : List Reply) (x : UpNode) (disk : NodeRecord) (s : Scene) → n ≤ 32 → IsNoCommand i → CameSo i
    → ReadsIn (version_of c) x → AreReasoned S s.moments → in_collect n s.moments ≡ collects i → EndsBy S c n (Up x) disk (under replies (course_at c n now ends x i)) s
plain_step S c n now ends i replies x disk s low plain came reads explained at =
    read_walk S c n i Nothing replies (course_at c n now ends x i) x disk s (course_at_so c n low i came Nothing now ends x i refl plain)
    (record { reads = reads; now = no_now S n s.moments; at = at; explained = explained })

up_step : (S : Setting) (c : Cluster) (n now : ℕ) (ends : method.Outcome) (i : Input) (replies : List Reply) (x : UpNode) (disk : NodeRecord) (s : Scene) → n ≤ 32 → CameSo i → ReadsIn (version_of c) x
    → AreReasoned S s.moments → in_collect n s.moments ≡ collects i → CommandFits S (version_of c) n (Up x) s.moments i → EndsBy S c n (Up x) disk (under replies (course_at c n now ends x i)) s
up_step S c n now ends (input.Commanded words) replies x disk s low came reads explained at fits =
    command_step S c n replies (at_second now x) disk words s low (record { waiting_read = reads.waiting_read; office_read = reads.office_read }) explained at fits
up_step S c n now ends (input.Reported p good) replies x disk s low came reads explained at fits = plain_step S c n now ends (input.Reported p good) replies x disk s low tt came reads explained at
up_step S c n now ends input.Boot replies x disk s low came reads explained at fits = plain_step S c n now ends input.Boot replies x disk s low tt came reads explained at
up_step S c n now ends input.Crash replies x disk s low came reads explained at fits = plain_step S c n now ends input.Crash replies x disk s low tt came reads explained at
up_step S c n now ends input.Tick replies x disk s low came reads explained at fits = plain_step S c n now ends input.Tick replies x disk s low tt came reads explained at
up_step S c n now ends (input.Packet from m) replies x disk s low came reads explained at fits = plain_step S c n now ends (input.Packet from m) replies x disk s low tt came reads explained at
up_step S c n now ends input.CommandDue replies x disk s low came reads explained at fits = plain_step S c n now ends input.CommandDue replies x disk s low tt came reads explained at
up_step S c n now ends (input.Answered a) replies x disk s low came reads explained at fits = plain_step S c n now ends (input.Answered a) replies x disk s low tt came reads explained at
up_step S c n now ends (input.Wrote d value a) replies x disk s low came reads explained at fits = plain_step S c n now ends (input.Wrote d value a) replies x disk s low tt came reads explained at
up_step S c n now ends (input.Client name client port) replies x disk s low came reads explained at fits =
    plain_step S c n now ends (input.Client name client port) replies x disk s low tt came reads explained at

-- ---- a node that is down

boot_ends : (S : Setting) (n : ℕ) (v : Version) (why : DownCause) (s : Scene) → AreReasoned S s.moments → Ends_so S n v Down (of_node n note.Up ∷ gone_line n why) s
boot_ends S n v why s explained = down_so S n Nothing v (of_node n note.Up ∷ gone_line n why) s (tt, (tt, tt)) (no_now S n s.moments) explained

booted : (S : Setting) (c : Cluster) (n : ℕ) (replies : List Reply) (disk : NodeRecord) (s : Scene) → AreReasoned S s.moments → EndsBy S c n Down disk (cuts.boot_doings replies) s
booted S c n [] disk s explained = boot_ends S n (version_of c) down.Stopped s explained
booted S c n (Done ∷ replies) disk s explained = record { reads = record { waiting_read = tt; office_read = tt }; explained = ((tt, tt), explained); sends = (tt, tt) }
booted S c n (Lost_new why ∷ replies) disk s explained = boot_ends S n (version_of c) why s explained
booted S c n (Lost_old why ∷ replies) disk s explained = boot_ends S n (version_of c) why s explained

nothing_taken : (S : Setting) (n : ℕ) (v : Version) (s : Scene) → AreReasoned S s.moments → Ends_so S n v Down [] s
nothing_taken S n v s explained = record { reads = tt; explained = explained; sends = tt }

down_step : (S : Setting) (c : Cluster) (n : ℕ) (i : Input) (replies : List Reply) (disk : NodeRecord) (s : Scene) → AreReasoned S s.moments → EndsBy S c n Down disk (down_doings replies i) s
down_step S c n input.Boot replies disk s explained = booted S c n replies disk s explained
down_step S c n input.Crash replies disk s explained = nothing_taken S n (version_of c) s explained
down_step S c n input.Tick replies disk s explained = nothing_taken S n (version_of c) s explained
down_step S c n (input.Packet from m) replies disk s explained = nothing_taken S n (version_of c) s explained
down_step S c n input.CommandDue replies disk s explained = nothing_taken S n (version_of c) s explained
down_step S c n (input.Answered a) replies disk s explained = nothing_taken S n (version_of c) s explained
down_step S c n (input.Wrote d value a) replies disk s explained = nothing_taken S n (version_of c) s explained
down_step S c n (input.Commanded words) replies disk s explained = nothing_taken S n (version_of c) s explained
down_step S c n (input.Reported r good) replies disk s explained = nothing_taken S n (version_of c) s explained
down_step S c n (input.Client name client port) replies disk s explained = nothing_taken S n (version_of c) s explained

pub read_step : (S : Setting) (c : Cluster) (n now : ℕ) (ends : method.Outcome) (i : Input) (replies : List Reply) (node : Node) (disk : NodeRecord) (s : Scene) → n ≤ 32 → CameSo i
    → NodeReads (version_of c) node → AreReasoned S s.moments → in_collect n s.moments ≡ collects i → CommandFits S (version_of c) n node s.moments i
    → EndsBy S c n node disk (doings c n now ends replies i node) s
read_step S c n now ends i replies Down disk s low came reads explained at fits = down_step S c n i replies disk s explained
read_step S c n now ends i replies (Up x) disk s low came reads explained at fits = up_step S c n now ends i replies x disk s low came reads explained at fits
