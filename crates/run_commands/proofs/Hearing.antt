-- What is told and sent in a step, as far as the readings of texts are concerned; and what comes.
use Rattle.std.specs.Prelude.{ℕ, ◌+◌, ◌/◌, ◌≡◌, ◌≤◌, ◌<◌, ◌==◌, not, Bool, true, false, List, [], ◌∷◌, Option, None, Some, IfSome, if◌then◌else◌}
use Rattle.std.specs.List.{AllByRecursion}
use Rattle.std.specs.Str.{bytes_eq}
use Rattle.std.proofs.Common.{refl, sym, ap, subst, ◌∙◌, inl, arith}
use Rattle.std.proofs.lemmas.Nat.{mod-mul-add}
use Rattle.std.proofs.lemmas.Slice.Eq.{bytes_eq-Decides}
use Rattle.admin_words.specs.Commands.{request_of}
use Rattle.ccr_commit.specs.Entries.{texts_of}
use Rattle.cl_base.specs.Names.{IsName}
use Rattle.cl_base.specs.declared.header.Version.{Version}
use Rattle.cl_base.specs.declared.method.Method.{Method}
use Rattle.cl_base.specs.declared.method.Outcome.{Outcome}
use Rattle.cmm_attempt.proofs.Basics.{if_either, none_some}
use Rattle.cmm_member.specs.Nodes.{NodeState}
use Rattle.history.specs.Setting.{coordinator}
use Rattle.node_model.specs.Addresses.{forgot_lines, served_lines}
use Rattle.node_model.specs.Attempts.{next_epoch}
use Rattle.node_model.specs.Configurations.{own_config}
use Rattle.node_model.specs.Deciding.{order_sent, orders_sent}
use Rattle.node_model.specs.Groups.{asked_by, call_told, order_again, order_again_to, order_at, order_told, orders_again_by, orders_again_of}
use Rattle.node_model.specs.Members.{is_foreign, is_ok}
use Rattle.node_model.specs.Presidents.{answer_given, own_line, told_lines}
use Rattle.node_model.specs.Seats.{session_of, state_of, version_of}
use Rattle.node_model.specs.declared.cluster.Cluster.{Cluster}
use Rattle.node_model.specs.declared.input.Input.{Input}
use Rattle.node_model.specs.declared.input.Input.TheVariants.{Packet, Commanded}
use Rattle.node_model.specs.declared.node.UpNode.{UpNode}
use Rattle.node_model.specs.declared.output.Output.TheVariants.{Sends, Tells}
use Rattle.node_model.specs.declared.presidency.Presidency.{Presidency}
use Rattle.node_model.specs.declared.seat.Seat.TheVariants.{Forming}
use Rattle.refinement.proofs.node_widths.Names.{in_force_fits}
use Rattle.proposals.specs.declared.arrived.Arrived.{Arrived}
use Rattle.refinement.specs.Doings.{Change}
use Rattle.refinement.specs.Doings.Change.{Acks, Admits, Commits, Counts, Distrusts, Installs, Leads, Prepares, Promises, Proposes, Sits, Starts}
use Rattle.request_queue.specs.Queue.{found}
use Rattle.request_queue.specs.declared.request.Request.{Request}
use Rattle.restart_policy.specs.declared.policy.ProbeAction.{ProbeAction}
use Rattle.restart_policy.specs.declared.policy.ProbeAction.TheVariants as action
use Rattle.rg_props.specs.Lookups.{named}
use Rattle.rg_props.specs.declared.group.Resource.{Resource}
use Rattle.rgm_member.specs.Probes.{action_in, failed_probe, probed}
use Rattle.rgm_member.specs.State.{marks_of, restarts_of}
use Rattle.rgm_member.specs.declared.carried.Carried.{Carried}
use Rattle.rgm_member.specs.declared.carried.Carried.TheVariants as carried
use Rattle.rgm_member.specs.declared.probed.Probed.{Probed}
use Rattle.rgm_member.specs.declared.probed.Probed.TheVariants as probe
use Rattle.run_history.proofs.Lists.{both, mapped, of_each}
use Rattle.run_commands.specs.carried.Guards.{is_silent}
use Rattle.run_messages.specs.Steps.{is_collect}
use Rattle.run_commands.proofs.carried.Asides.{IsOtherBody}
use Rattle.shared_address.specs.Choosing as serving
use Rattle.shared_address.specs.declared.choice.Client.{Client as ServedClient}
use Rattle.status_report.specs.CommandLines.{reply_text}
use Rattle.status_report.specs.declared.command_entry.Answer.{Answer}
use Rattle.status_report.specs.declared.entry.Entry.TheVariants as entry
use Rattle.status_report.specs.declared.status_entry.StatusEntry.{StatusEntry}
use Rattle.wire.specs.declared.message.Body.{Body}
use Rattle.wire.specs.declared.message.Body.TheVariants as body
use Rattle.wire.specs.declared.message.Message.{Message}
use Rattle.wire.specs.declared.message.Order.{Order}
use Rattle.run_commands.specs.Reads.{AllSo, BodySo, CameSo, ChangeReads, IsPresidents, IsRead, IsStarting, OwnReplies, OutputSo, collects}
use Rattle.run_commands.proofs.Texts.{IsMonitors, answer_loud}

-- ---- lines and messages of other things

pub other_so : (b : Body) → IsOtherBody b → BodySo b
other_so (body.Request e q text) is = absurd is
other_so (body.Answer e q text) is = absurd is
other_so _ is = tt

pub lines_so : (me : ℕ) (o : OwnReplies) (lines : List StatusEntry) → AllSo me o (told_lines lines)
lines_so me o lines = mapped (OutputSo me o) (λ l. Tells (entry.Status l)) lines (λ l. tt)

pub orders_so : (me : ℕ) (o : OwnReplies) (orders : List (ℕ × Order)) → AllSo me o (orders_sent me orders)
unfolding orders_sent
orders_so me o orders = of_each (OutputSo me o) (order_sent me) orders (λ e. if_either (AllSo me o) (e.0 == me) [] _ tt (tt, tt))

call_so : (me : ℕ) (o : OwnReplies) (order : Order) (outcome : Outcome) (m : Option Method) → AllSo me o (call_told me order outcome m)
call_so me o order outcome None = tt
call_so me o order outcome (Some m) = (tt, (tt, tt))

pub order_so_told : (me : ℕ) (o : OwnReplies) (order : Order) (how : Carried) → AllSo me o (order_told me order how)
order_so_told me o order (carried.Called outcome) = call_so me o order outcome order.method
order_so_told me o order carried.Cleared = tt
order_so_told me o order (carried.Kept outcome) = tt
order_so_told me o order carried.Old = tt

again_to : (me : ℕ) (o : OwnReplies) (n : ℕ) (order : Option Order) → AllSo me o (order_again_to n order)
again_to me o n None = tt
again_to me o n (Some order) = (tt, tt)

pub again_so : (me : ℕ) (o : OwnReplies) (before after : Option Presidency) → AllSo me o (orders_again_by before after)
unfolding orders_again_of
again_so me o None after = tt
again_so me o (Some before) None = tt
again_so me o (Some before) (Some after) =
    of_each (OutputSo me o) (order_again _ after.groups) _ (λ n. if_either (AllSo me o) _ (order_again_to n (order_at n after.groups)) [] (again_to me o n (order_at n after.groups)) tt)

forgot_so : (me : ℕ) (o : OwnReplies) (name : List ℕ) (k : Option ServedClient) → AllSo me o (forgot_lines name k)
forgot_so me o name None = tt
forgot_so me o name (Some k) = (tt, tt)

pub served_so : (me : ℕ) (o : OwnReplies) (name : List ℕ) (client port : ℕ) (k : serving.Outcome) → AllSo me o (served_lines name client port k)
served_so me o name client port k = both (OutputSo me o) (forgot_lines name k.forgot) _ (forgot_so me o name k.forgot) (tt, tt)

-- ---- the president's answers

pub own_line_so : (me : ℕ) (o : OwnReplies) (told : Answer) (r : Option Request) → is_silent told ≡ false → AllSo me o (own_line me told r)
own_line_so me o told None loud = tt
own_line_so me o told (Some r) loud = if_either (AllSo me o) r.told _ [] ((refl, inl loud), tt) tt

pub given_so : (me : ℕ) (o : OwnReplies) (x : UpNode) (a : Arrived) (told : Answer) → is_silent told ≡ false → AllSo me o (answer_given me x a told)
given_so me o x a told loud =
    if_either (AllSo me o) (a.from == me) (own_line me told (found x.requests.waiting a.number)) (Sends a.from (body.Answer (session_of x) a.number (reply_text told)) ∷ [])
    (own_line_so me o told (found x.requests.waiting a.number) loud) (answer_loud told loud, tt)

-- ---- changes

pub starting_reads : (c : Cluster) (me : ℕ) (i : Input) (x : UpNode) (change : Change) → IsStarting change → ChangeReads c me i x change
starting_reads c me i x (Starts a k s) is = tt
starting_reads c me i x (Sits s e) is = tt
starting_reads c me i x (Promises p) is = absurd is
starting_reads c me i x (Leads p members) is = absurd is
starting_reads c me i x (Counts a k s j) is = absurd is
starting_reads c me i x (Installs s j) is = absurd is
starting_reads c me i x (Distrusts d) is = absurd is
starting_reads c me i x (Admits at command a d) is = absurd is
starting_reads c me i x (Proposes s p text) is = absurd is
starting_reads c me i x (Acks s p q left text) is = absurd is
starting_reads c me i x (Prepares s text) is = absurd is
starting_reads c me i x (Commits s) is = absurd is

low_number : (me : ℕ) → me ≤ 32 → me < 64
low_number me h = grind arith

-- the next attempt of a node is its own
pub own_next : (me : ℕ) (x : UpNode) → me ≤ 32 → coordinator (next_epoch me x) ≡ me
own_next me x h = mod-mul-add (x.greatest / 64 + 1) 64 me (low_number me h)

-- ---- what comes

-- no command
abbrev pub IsNoCommand : Input → Type 0
IsNoCommand (Commanded words) = ⊥
IsNoCommand _ = Unit {0}

-- a Request that is not foreign is read
abbrev pub NotForeign : Version → Body → Type 0
NotForeign v (body.Request e number text) = IsRead v text
NotForeign v _ = Unit {0}

not_false : (b : Bool) → not b ≡ false → b ≡ true
not_false true h = refl
not_false false h = cc

pub not_foreign : (c : Cluster) (me : ℕ) (x : UpNode) (b : Body) → is_foreign c me x b ≡ false → NotForeign (version_of c) b
not_foreign c me x (body.Request e number text) known = not_false (is_ok (request_of (version_of c) text)) known
not_foreign c me x _ known = tt

pub collects_so : (came : Input) (from : ℕ) (m : Message) (e members : ℕ) → came ≡ Packet from m → m.body ≡ body.Collect e members → collects came ≡ true
collects_so came from m e members at is = ap collects at ∙ by_body m.body is
  where
    by_body : (b : Body) → b ≡ body.Collect e members → is_collect b ≡ true
    by_body b same = ap is_collect same

pub reply_fine : (came : Input) (from : ℕ) (m : Message) (e number : ℕ) (text : List ℕ) → came ≡ Packet from m → m.body ≡ body.Answer e number text → CameSo came → IsPresidents text
reply_fine came from m e number text at is fine = subst BodySo is (subst CameSo at fine)

-- ---- what a monitor asks for has a name

abbrev ActionNamed : List ℕ → ProbeAction → Type 0
ActionNamed r action.Restart = IsName r
ActionNamed r action.Move = IsName r
ActionNamed r action.Logged = Unit {0}

abbrev pub MonitorsName : List ℕ → Probed → Type 0
MonitorsName r (probe.Failed a) = ActionNamed r a
MonitorsName r _ = Unit {0}

pub asked_named : (r : List ℕ) (a : ProbeAction) → MonitorsName r (probe.Failed a) → IfSome (asked_by a r) IsMonitors
asked_named r action.Restart is = is
asked_named r action.Move is = is
asked_named r action.Logged is = tt

-- each resource has a name
abbrev AllNamed : List (List ℕ × Resource) → Type 0
AllNamed es = AllByRecursion (λ (e : List ℕ × Resource). IsName e.0) es

there_named : (es : List (List ℕ × Resource)) (name : List ℕ) (r : Resource) → named es name ≡ Some r → AllNamed es → IsName name
there_named [] name r is h = absurd (none_some r is)
there_named (e ∷ es) name r is h = by_test (bytes_eq name e.0) refl is (λ at. there_named es name r at h.1)
  where
    by_test : (b : Bool) → bytes_eq name e.0 ≡ b → (if b then Some e.1 else named es name) ≡ Some r → (named es name ≡ Some r → IsName name) → IsName name
    by_test true same at behind = subst IsName (sym ((bytes_eq-Decides name e.0).0 same)) h.0
    by_test false other at behind = behind at

-- a node's own configuration is in force at one with the same updates, all committed
abbrev committed_all : UpNode → UpNode
committed_all x =
    let s : NodeState = state_of x.seat in
    record x { seat = Forming (record s { saved = record s.saved { entries = record s.saved.entries { committed = texts_of s.saved.entries } } }) }

own_named : (c : Cluster) (x : UpNode) → AllNamed (own_config c x).groups.resources
own_named c x = in_force_fits c (committed_all x)

action_named : (c : Cluster) (x : UpNode) (r : List ℕ) (now : ℕ) (o : Option Resource) → named (own_config c x).groups.resources r ≡ o
    → ActionNamed r (action_in (own_config c x) o (restarts_of x.worker.restarts r) now)
action_named c x r now None is = tt
action_named c x r now (Some found) is = any_named (action_in (own_config c x) (Some found) (restarts_of x.worker.restarts r) now) (there_named (own_config c x).groups.resources r found is (own_named c x))
  where
    any_named : (a : ProbeAction) → IsName r → ActionNamed r a
    any_named action.Restart is = is
    any_named action.Move is = is
    any_named action.Logged is = tt

pub probed_named : (c : Cluster) (x : UpNode) (r : List ℕ) (good : Bool) → MonitorsName r (probed x.worker (own_config c x) r good x.second)
probed_named c x r good =
    if_either (MonitorsName r) (not (marks_of x.worker.resources r).mon) probe.NoMonitor (if good then probe.Good else probe.Failed (failed_probe x.worker (own_config c x) r x.second)) tt
    (if_either (MonitorsName r) good probe.Good (probe.Failed (failed_probe x.worker (own_config c x) r x.second)) tt (action_named c x r x.second (named (own_config c x).groups.resources r) refl))
