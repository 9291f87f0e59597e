-- What a node does beside its attempt sends neither a request to seize nor a Collect nor an Install.
use Rattle.std.specs.Prelude.{ℕ, ◌==◌, ◌&&◌, nat_lt, Bool, true, List, length, Option, None, Some, Ok, Err, is_some, false}
use Rattle.std.specs.Option.{unwrap_or}
use Rattle.ccr_commit.specs.Entries.{answer_for, texts_of}
use Rattle.ccr_commit.specs.declared.entries.Prepared.{Prepared}
use Rattle.ccr_commit.specs.declared.entries.Prepared.TheVariants.{Taken, Already, Gap}
use Rattle.ccr_tables.specs.State.{ConfigState}
use Rattle.ccr_tables.specs.declared.address.Address.{Address}
use Rattle.cl_base.specs.Seizings.{SeizeResult}
use Rattle.cl_base.specs.Sets.{has}
use Rattle.cl_base.specs.declared.method.Outcome.{Outcome}
use Rattle.cmm_attempt.specs.Attempts.{AttemptState, newest_installed}
use Rattle.cmm_attempt.specs.declared.step.AttemptEnd.{AttemptEnd}
use Rattle.cmm_member.specs.Nodes.{NodeState}
use Rattle.device_queue.specs.Queue.{joins, kept_of}
use Rattle.node_model.specs.Addresses.{request_for}
use Rattle.node_model.specs.Attempts.{left_out_by, starts_now}
use Rattle.node_model.specs.Configurations.{in_force}
use Rattle.node_model.specs.Members.{awaits_start}
use Rattle.node_model.specs.Presidents.{with_proposals}
use Rattle.node_model.specs.Seats.{installed_of, is_in, is_member, promised_of, record_of}
use Rattle.node_model.specs.Updates.{commits_now, is_of_member}
use Rattle.node_model.specs.declared.cluster.Cluster.{Cluster}
use Rattle.node_model.specs.declared.node.UpNode.{UpNode}
use Rattle.node_model.specs.declared.presidency.Presidency.{Presidency}
use Rattle.node_model.specs.declared.seat.Seat.{Seat}
use Rattle.node_model.specs.declared.seat.Seat.TheVariants.{Forming, Member}
use Rattle.pgr_device.specs.declared.command.PrAnswer.TheVariants as given
use Rattle.proposals.specs.Proposing.{is_prepared, prepared_by}
use Rattle.proposals.specs.State.{State}
use Rattle.refinement.specs.Courses.{Course}
use Rattle.refinement.specs.Courses.Course.{Stops}
use Rattle.refinement.specs.Cuts as cuts
use Rattle.refinement.specs.Doings.{Change, changed}
use Rattle.refinement.specs.Doings.Change.{Installs, Sits}
use Rattle.rg_props.specs.Lookups.{named}
use Rattle.rgm_member.specs.Orders.{answer_to}
use Rattle.rgm_member.specs.declared.carried.Carried.{Carried}
use Rattle.rgm_member.specs.declared.carried.Carried.TheVariants as carried
use Rattle.seize.specs.Answers.{Answer as DeviceAnswer}
use Rattle.seize.specs.declared.kind.SeizeKind.{SeizeKind}
use Rattle.shared_address.specs.Choosing as serving
use Rattle.shared_address.specs.History as clients
use Rattle.wire.specs.declared.message.Install.{Install}
use Rattle.wire.specs.declared.message.Order.{Order}
use Rattle.run_outcomes.proofs.requests.Presidents.{acknowledging_bare, carrying_bare, done_at_bare, either_bare, handling_bare, then_bare}
use Rattle.run_outcomes.specs.reports.Requests.{BareChange, IsBare}

excluded_bare : (me e newest : ℕ) (o : Option ℕ) → IsBare (cuts.excluded_course me e newest o)
excluded_bare me e newest None = tt
excluded_bare me e newest (Some m) = either_bare (m == me) _ _ tt (tt, tt)

pub ended_bare : (me : ℕ) (e : AttemptEnd) (o : Option AttemptState) → IsBare (cuts.ended_course me e o)
ended_bare me e None = tt
ended_bare me e (Some a) = (tt, excluded_bare me a.plan.epoch (unwrap_or (newest_installed a) 0) (left_out_by e))

pub queued_bare : (d : ℕ) (kind : SeizeKind) (o : Option AttemptState) → IsBare (cuts.queued_course d kind o)
queued_bare d kind None = tt
queued_bare d kind (Some a) = (tt, tt)

kept_if_bare : (keeps : Bool) (change : Change) (rest : Course) → BareChange change → IsBare rest → IsBare (cuts.kept_if keeps change rest)
kept_if_bare true change rest h k = (h, k)
kept_if_bare false change rest h k = (h, k)

pub heartbeat_bare : (me : ℕ) (x : UpNode) (from session : ℕ) (member : Bool) → IsBare (cuts.heartbeat_course me x from session member)
heartbeat_bare me x from session member = either_bare (awaits_start me x from session member) _ _ (tt, tt) tt

pub collect_bare : (x : UpNode) (from p : ℕ) → IsBare (cuts.collect_course x from p)
collect_bare x from p = either_bare (nat_lt (promised_of x) p) _ _ (tt, (tt, tt)) (either_bare (is_in x p) _ _ (tt, tt) (tt, tt))

request_bare : (x : UpNode) (from : ℕ) (kind : SeizeKind) (e members d : ℕ) (o : Option SeizeResult) → IsBare (cuts.request_course x from kind e members d o)
request_bare x from kind e members d (Some result) = (tt, tt)
request_bare x from kind e members d None = either_bare (installed_of x == e) _ _ (tt, tt) (tt, tt)

pub seizing_bare : (x : UpNode) (from : ℕ) (kind : SeizeKind) (e members d : ℕ) → IsBare (cuts.seizing_course x from kind e members d)
seizing_bare x from kind e members d = either_bare (is_in x e) _ _ (request_bare x from kind e members d (kept_of x.tasks d)) tt

pub readying_bare : (c : Cluster) (x : UpNode) (to : ℕ) → IsBare (cuts.readying_course c x to)
readying_bare c x to = either_bare (joins x.tasks) _ _ tt (tt, tt)

installed_bare : (c : Cluster) (me : ℕ) (x : UpNode) (from : ℕ) (i : Install) (seat : Seat) → IsBare (cuts.installed_course c me x from i seat)
installed_bare c me x from i (Member s) = readying_bare c x from
installed_bare c me x from i (Forming s) = either_bare (s.saved.installed == i.epoch) _ _ (readying_bare c x from) (tt, readying_bare c (changed c me x (Installs s i)) from)

pub install_bare : (c : Cluster) (me : ℕ) (x : UpNode) (from : ℕ) (i : Install) → IsBare (cuts.install_course c me x from i)
install_bare c me x from i = either_bare (is_in x i.epoch) _ _ (installed_bare c me x from i x.seat) (tt, tt)

pub start_bare : (e : ℕ) (seat : Seat) → IsBare (cuts.start_course e seat)
start_bare e (Member s) = tt
start_bare e (Forming s) = either_bare (starts_now s e) _ _ (kept_if_bare (is_some s.saved.entries.pending) (Sits s e) Stops tt tt) tt

pub notice_bare : (x : UpNode) (e newest : ℕ) → IsBare (cuts.notice_course x e newest)
notice_bare x e newest = either_bare (is_in x e) _ _ tt tt

preparing_bare : (from e place : ℕ) (s : NodeState) (text : List ℕ) (o : Prepared) → IsBare (cuts.preparing_course from e place s text o)
preparing_bare from e place s text Taken = (tt, (tt, tt))
preparing_bare from e place s text Already = (tt, tt)
preparing_bare from e place s text (Gap k) = tt

pub prepare_bare : (x : UpNode) (from e place : ℕ) (text : List ℕ) (seat : Seat) → IsBare (cuts.prepare_course x from e place text seat)
prepare_bare x from e place text (Forming s) = tt
prepare_bare x from e place text (Member s) = either_bare (is_in x e) _ _ (preparing_bare from e place s text (answer_for (length (texts_of s.saved.entries)) place)) tt

prepared_all_bare : (c : Cluster) (me : ℕ) (x : UpNode) (p : Presidency) → IsBare (cuts.prepared_all_course c me x p)
prepared_all_bare c me x p = either_bare (is_prepared p.proposals) _ _ (then_bare c me x _ _ (acknowledging_bare c me x) (λ z. handling_bare c me z)) tt

prepared_at_bare : (c : Cluster) (me : ℕ) (x : UpNode) (from place : ℕ) (o : Option Presidency) → IsBare (cuts.prepared_at_course c me x from place o)
prepared_at_bare c me x from place None = tt
prepared_at_bare c me x from place (Some p) = let s : State = prepared_by p.proposals from place in (tt, prepared_all_bare c me (with_proposals x p s) (record p { proposals = s }))

pub prepared_bare : (c : Cluster) (me : ℕ) (x : UpNode) (from e place : ℕ) → IsBare (cuts.prepared_course c me x from e place)
prepared_bare c me x from e place = either_bare (is_of_member x from e) _ _ (prepared_at_bare c me x from place x.presidency) tt

pub commit_bare : (x : UpNode) (e place : ℕ) (seat : Seat) → IsBare (cuts.commit_course x e place seat)
commit_bare x e place (Forming s) = tt
commit_bare x e place (Member s) = either_bare (is_in x e && commits_now s place) _ _ (tt, tt) tt

pub done_bare : (c : Cluster) (me : ℕ) (x : UpNode) (from e number : ℕ) (outcome : Outcome) → IsBare (cuts.done_course c me x from e number outcome)
done_bare c me x from e number outcome = either_bare (is_of_member x from e) _ _ (done_at_bare c me x from number outcome x.presidency) tt

order_answered_bare : (from : ℕ) (o : Order) (how : Carried) (x : UpNode) → IsBare (cuts.order_answered_course from o how x)
order_answered_bare from o carried.Old x = tt
order_answered_bare from o (carried.Called outcome) x = (tt, tt)
order_answered_bare from o carried.Cleared x = (tt, tt)
order_answered_bare from o (carried.Kept outcome) x = (tt, tt)

obeying_bare : (c : Cluster) (me : ℕ) (x : UpNode) (from : ℕ) (o : Order) (how : Carried) → IsBare (cuts.obeying_course c me x from o how)
obeying_bare c me x from o how = then_bare c me x (cuts.carrying_course c me x o how) _ (carrying_bare c me x o how) (λ z. order_answered_bare from o how z)

pub order_bare : (c : Cluster) (me : ℕ) (outcome : Outcome) (x : UpNode) (from : ℕ) (o : Order) → IsBare (cuts.order_course c me outcome x from o)
order_bare c me outcome x from o = either_bare (is_member x.seat && is_in x o.epoch) _ _ (obeying_bare c me x from o (answer_to x.worker o outcome)) tt

serving_bare : (x : UpNode) (p : Presidency) (name : List ℕ) (client port : ℕ) (o : serving.Outcome) → IsBare (cuts.serving_course x p name client port o)
serving_bare x p name client port o = (tt, (tt, tt))

serving_at_bare : (s : ConfigState) (x : UpNode) (p : Presidency) (name : List ℕ) (client port : ℕ) (o : Option Address) → IsBare (cuts.serving_at_course s x p name client port o)
serving_at_bare s x p name client port None = tt
serving_at_bare s x p name client port (Some a) = serving_bare x p name client port (serving.chosen (clients.state_of p.balancer name) (request_for s p a client port))

serving_by_bare : (c : Cluster) (x : UpNode) (name : List ℕ) (client port : ℕ) (o : Option Presidency) → IsBare (cuts.serving_by_course c x name client port o)
serving_by_bare c x name client port None = tt
serving_by_bare c x name client port (Some p) = serving_at_bare (in_force c x) x p name client port (named (in_force c x).addresses name)

pub client_bare : (c : Cluster) (x : UpNode) (name : List ℕ) (client port : ℕ) → IsBare (cuts.client_course c x name client port)
client_bare c x name client port = serving_by_bare c x name client port x.presidency

pub distrusting_bare : (x : UpNode) (o : Option ℕ) → IsBare (cuts.distrusting_course x o)
distrusting_bare x None = tt
distrusting_bare x (Some d) = either_bare (has (record_of x).valid d) _ _ (tt, tt) tt

pub fenced_bare : (d : ℕ) (a : DeviceAnswer) → IsBare (cuts.fenced_course d a)
fenced_bare d (Ok given.Good) = tt
fenced_bare d (Ok given.Conflict) = tt
fenced_bare d (Ok given.InvalidRelease) = tt
fenced_bare d (Ok given.NoPath) = tt
fenced_bare d (Ok (given.Keys keys)) = tt
fenced_bare d (Ok (given.Holder holder)) = tt
fenced_bare d (Ok (given.Word w)) = tt
fenced_bare d (Ok (given.Value v)) = tt
fenced_bare d (Ok (given.Miscompare w)) = tt
fenced_bare d (Err e) = tt
