-- A turn is what follows the verdict on the first request.
use Rattle.std.proofs.Common.{◌≡◌, ℕ, ◌&&◌, Bool, true, false, if◌then◌else◌, List, Option, None, Some, Result, Ok, Err, refl, ap, subst, sym, ◌∙◌}
use Rattle.std.proofs.lemmas.Option.{none-some, same_Some}
use Rattle.admin_commands.specs.Answers.{unless_refused}
use Rattle.admin_commands.specs.declared.accepted.Accepted.{Accepted}
use Rattle.admin_commands.specs.declared.accepted.Accepted.TheVariants as accepted
use Rattle.admin_commands.specs.declared.error.CheckError.{CheckError}
use Rattle.admin_commands.specs.declared.error.CheckError.TheVariants as because
use Rattle.admin_words.specs.Commands.{request_of}
use Rattle.admin_words.specs.declared.error.WordError.{WordError}
use Rattle.admin_words.specs.declared.request.Request.{Request}
use Rattle.admin_words.specs.declared.request.Request.TheVariants as asked
use Rattle.ccr_tables.specs.declared.command.AdminCommand.TheVariants.{Change, Act}
use Rattle.ccr_tables.specs.declared.update.Update.{Update}
use Rattle.cl_base.specs.declared.command.Ask.{Ask}
use Rattle.cl_base.specs.declared.command.Ask.TheVariants.{Restart, Move, Remaster, Evacuate, Clear}
use Rattle.cl_base.specs.declared.refusal.Refusal.{Refusal}
use Rattle.cmm_member.specs.Records.{NodeRecord}
use Rattle.proposals.specs.State.{first_in}
use Rattle.proposals.specs.declared.arrived.Arrived.{Arrived}
use Rattle.proposals.specs.declared.arrived.Proposed.{Proposed}
use Rattle.record_disk.specs.Savings.{Saving}
use Rattle.rgm_president.specs.Acts.{HasRoom}
use Rattle.node_model.specs.declared.cluster.Cluster.{Cluster}
use Rattle.node_model.specs.declared.node.UpNode.{UpNode}
use Rattle.node_model.specs.declared.output.Output.{Output}
use Rattle.node_model.specs.declared.presidency.Presidency.{Presidency}
use Rattle.node_model.specs.declared.stop.Stop.{Stop}
use Rattle.node_model.specs.Configurations.{in_force}
use Rattle.node_model.specs.Plans.{Plan, Follows, Gives, IsDone}
use Rattle.node_model.specs.Plans.Plan.{Stays}
use Rattle.node_model.specs.Presidents.{is_busy, is_clear, taken, taken_as, turn_by, turn_of}
use Rattle.node_model.specs.Seats.{version_of}
use Rattle.node_presidents.specs.declared.verdict.Verdict.{Verdict}
use Rattle.node_presidents.specs.declared.verdict.Verdict.TheVariants as verdict
use Rattle.node_presidents.specs.Presidents.{HasRoomBy, acting_at, answering_at, proposal, turn}
use Rattle.node_presidents.specs.Verdicts.{MayDo, acted, answered_first, doing, following, judged, judged_under, verdict_by, verdict_in, verdict_of}
use Rattle.node_queries.specs.Checks.{checked_under}
use Rattle.node_model.proofs.Plans.{gives_follows}
use Rattle.node_presidents.proofs.Busy.{free_at}

-- what a verdict makes of the first request, which is this one
abbrev following_at : Cluster → ℕ → UpNode → Presidency → Arrived → Verdict → Plan
following_at c me x p a (verdict.Propose text) = following c me x (Some p) (verdict.Propose text)
following_at c me x p a (verdict.Act ask) = acting_at c me x p ask (Some a)
following_at c me x p a (verdict.Answer told) = answering_at c me x p told (Some a)
following_at c me x p a verdict.Wait = Stays x

first_is : (c : Cluster) (me : ℕ) (x : UpNode) (p : Presidency) (a : Arrived) (v : Verdict) → first_in p.proposals.arrived ≡ Some a
    → following c me x (Some p) v ≡ following_at c me x p a v
first_is c me x p a (verdict.Propose text) first = refl
first_is c me x p a (verdict.Act ask) first = ap (λ found. acting_at c me x p ask found) first
first_is c me x p a (verdict.Answer told) first = ap (λ found. answering_at c me x p told found) first
first_is c me x p a verdict.Wait first = refl

taken_is : (c : Cluster) (me : ℕ) (x : UpNode) (p : Presidency) (a : Arrived) (answered : Result Accepted CheckError)
    → taken_as c me x p a answered ≡ following_at c me x p a (verdict_of answered)
taken_is c me x p a (Ok (accepted.Change u)) = refl
taken_is c me x p a (Ok (accepted.Act ask)) = refl
taken_is c me x p a (Ok (accepted.Query q)) = refl
taken_is c me x p a (Err (because.Refused r)) = refl
taken_is c me x p a (Err because.NoMemory) = refl

unless : (c : Cluster) (me : ℕ) (x : UpNode) (p : Presidency) (a : Arrived) (waits : Bool) (answered : Result Accepted CheckError)
    → (if waits then Stays x else taken_as c me x p a answered) ≡ following_at c me x p a (if waits then verdict.Wait else verdict_of answered)
unless c me x p a true answered = refl
unless c me x p a false answered = taken_is c me x p a answered

judged_is : (c : Cluster) (me : ℕ) (x : UpNode) (p : Presidency) (a : Arrived) (request : Result Request WordError)
    → taken c me x p a request ≡ following_at c me x p a (judged_under c (in_force c x) x.seat p request)
judged_is c me x p a (Ok (asked.Change u)) = unless c me x p a (is_busy p.groups) (checked_under c (in_force c x) x.seat p (Change u))
judged_is c me x p a (Ok (asked.Act ask)) = unless c me x p a (is_busy p.groups && is_clear ask) (checked_under c (in_force c x) x.seat p (Act ask))
judged_is c me x p a (Err e) = refl

turn_in : (c : Cluster) (me : ℕ) (x : UpNode) (p : Presidency) (proposed : Option Proposed) (first : Option Arrived) → first_in p.proposals.arrived ≡ first
    → turn_of c me x p proposed first ≡ following c me x (Some p) (verdict_in c x p proposed first)
turn_in c me x p None (Some a) first = judged_is c me x p a (request_of (version_of c) a.text) ∙ sym (first_is c me x p a _ first)
turn_in c me x p None None first = refl
turn_in c me x p (Some proposed) listed first = refl

turn_is : (c : Cluster) (me : ℕ) (x : UpNode) (found : Option Presidency) → turn_by c me x found ≡ following c me x found (verdict_by c x found)
turn_is c me x None = refl
turn_is c me x (Some p) = turn_in c me x p p.proposals.proposed (first_in p.proposals.arrived) refl

doing_is : (c : Cluster) (me : ℕ) (x : UpNode) (v : Verdict) → doing c me x v ≡ following c me x x.presidency v
unfolding acted answered_first proposal
doing_is c me x (verdict.Propose text) = refl
doing_is c me x (verdict.Act ask) = refl
doing_is c me x (verdict.Answer told) = refl
doing_is c me x verdict.Wait = refl

-- what the verdict wants is the turn
pub turn_is_done : {K : Type 0} → (saving : K → NodeRecord → Saving K) (c : Cluster) (me : ℕ) (x y : UpNode) (v : Verdict) (given after : List Output) (disk left : K) (result : Result UpNode Stop)
    → y ≡ x → v ≡ judged c x → Follows saving (doing c me y v) given disk result after left → Follows saving (turn c me x) given disk result after left
unfolding judged turn
turn_is_done saving c me x y v given after disk left result same is h =
    let here : Follows saving (doing c me x v) given disk result after left = subst (λ z. Follows saving (doing c me z v) given disk result after left) same h in
    subst (λ (plan : Plan). Follows saving plan given disk result after left)
    (sym (turn_is c me x x.presidency ∙ ap (λ w. following c me x x.presidency w) (sym is) ∙ sym (doing_is c me x v))) here

-- a plan that saves nothing is done
pub gives_done : {K : Type 0} → (saving : K → NodeRecord → Saving K) (plan : Plan) (given after : List Output) (up : UpNode) (disk : K) → Gives plan given (Ok up) after → IsDone saving plan given disk up after disk
gives_done saving plan given after up disk h = gives_follows saving plan given after (Ok up) disk h

-- Where something is to be done, there is room for its order.

room_of : (p : Presidency) (ask : Ask) → (is_busy p.groups && is_clear ask) ≡ false → HasRoom p.groups ask
room_of p (Clear r n) free = free_at p.groups.view.outstanding _ (by_busy (is_busy p.groups) free)
  where
    by_busy : (b : Bool) → (b && true) ≡ false → b ≡ false
    by_busy true h = h
    by_busy false h = refl
room_of p (Restart r) free = tt
room_of p (Move r) free = tt
room_of p (Remaster g) free = tt
room_of p (Evacuate n) free = tt

-- which variant a verdict is
abbrev wants : Verdict → Option Ask
wants (verdict.Propose text) = None
wants (verdict.Act ask) = Some ask
wants (verdict.Answer told) = None
wants verdict.Wait = None

no_act : (refusal : Option Refusal) (u : Update) → wants (verdict_of (unless_refused refusal (accepted.Change u))) ≡ None
no_act None u = refl
no_act (Some r) u = refl

same_act : (refusal : Option Refusal) (ask found : Ask) → wants (verdict_of (unless_refused refusal (accepted.Act ask))) ≡ Some found → ask ≡ found
same_act None ask found h = same_Some ask found h
same_act (Some r) ask found h = absurd (none-some found h)

room_unless : (p : Presidency) (ask found : Ask) (refusal : Option Refusal) (waits : Bool) → (is_busy p.groups && is_clear ask) ≡ waits
    → wants (if waits then verdict.Wait else verdict_of (unless_refused refusal (accepted.Act ask))) ≡ Some found → HasRoom p.groups found
room_unless p ask found refusal true is h = absurd (none-some found h)
room_unless p ask found refusal false is h = subst (λ a. HasRoom p.groups a) (same_act refusal ask found h) (room_of p ask is)

none_unless : (found : Ask) (refusal : Option Refusal) (u : Update) (waits : Bool) → wants (if waits then verdict.Wait else verdict_of (unless_refused refusal (accepted.Change u))) ≡ Some found → ⊥
none_unless found refusal u true h = none-some found h
none_unless found refusal u false h = none-some found (sym (no_act refusal u) ∙ h)

room_judged : (c : Cluster) (x : UpNode) (p : Presidency) (found : Ask) (request : Result Request WordError)
    → wants (judged_under c (in_force c x) x.seat p request) ≡ Some found → HasRoom p.groups found
room_judged c x p found (Ok (asked.Change u)) h = absurd (none_unless found _ u (is_busy p.groups) h)
room_judged c x p found (Ok (asked.Act ask)) h = room_unless p ask found _ (is_busy p.groups && is_clear ask) refl h
room_judged c x p found (Err e) h = absurd (none-some found h)

room_in : (c : Cluster) (x : UpNode) (p : Presidency) (found : Ask) (proposed : Option Proposed) (first : Option Arrived)
    → wants (verdict_in c x p proposed first) ≡ Some found → HasRoom p.groups found
room_in c x p found None (Some a) h = room_judged c x p found (request_of (version_of c) a.text) h
room_in c x p found None None h = absurd (none-some found h)
room_in c x p found (Some proposed) first h = absurd (none-some found h)

room_by : (c : Cluster) (x : UpNode) (presidency : Option Presidency) (found : Ask) → wants (verdict_by c x presidency) ≡ Some found → HasRoomBy presidency found
room_by c x None found h = tt
room_by c x (Some p) found h = room_in c x p found p.proposals.proposed (first_in p.proposals.arrived) h

room_for : (x : UpNode) (v : Verdict) → ((ask : Ask) → wants v ≡ Some ask → HasRoomBy x.presidency ask) → MayDo x v
room_for x (verdict.Propose text) h = tt
room_for x (verdict.Act ask) h = h ask refl
room_for x (verdict.Answer told) h = tt
room_for x verdict.Wait h = tt

pub may_do : (c : Cluster) (x y : UpNode) (v : Verdict) → y ≡ x → v ≡ judged c x → MayDo y v
unfolding judged
may_do c x y v same is =
    subst (λ z. MayDo z v) (sym same) (room_for x v (λ ask act. room_by c x x.presidency ask (ap wants (sym is) ∙ act)))
