-- Most of what a node gives tells nothing of attempts; and what its messages tell of them is so.
use Rattle.std.specs.Prelude.{ℕ, ◌+◌, ◌<◌, ◌≡◌, ◌≢◌, ◌⊎◌, Bool, List, [], ◌∷◌, Option, None, Some, Ok}
use Rattle.std.specs.List.{AllByRecursion}
use Rattle.std.proofs.Common.{refl, sym, ap, subst, ◌∙◌, inl, inr}
use Rattle.ccr_tables.specs.State.{ConfigState}
use Rattle.cl_base.specs.Limits.{most_nodes}
use Rattle.cl_base.specs.Numbers.{numbers_to}
use Rattle.cmm_attempt.proofs.Basics.{if_either}
use Rattle.cmm_attempt.specs.Attempts.{AttemptState}
use Rattle.history.specs.Moment.{Moment}
use Rattle.history.specs.Setting.{coordinator}
use Rattle.node_model.specs.Attempts.{adopted_line, adopted_lines, adopted_of, adopted_on, base_lines, is_adopted}
use Rattle.node_model.specs.Entries.{unknown_line, unknown_lines}
use Rattle.node_model.specs.Presidents.{sent_to}
use Rattle.node_model.specs.Seats.{coordinator_of, promised_of, session_of}
use Rattle.node_model.specs.Ticks.{heartbeat_of, heartbeats_to, ticked_output}
use Rattle.node_model.specs.Updates.{request_again, request_again_by, request_again_to}
use Rattle.node_model.specs.declared.cluster.Cluster.{Cluster}
use Rattle.node_model.specs.declared.node.UpNode.{UpNode}
use Rattle.node_model.specs.declared.output.Output.{Output}
use Rattle.node_model.specs.declared.output.Output.TheVariants.{Sends, Tells}
use Rattle.node_model.specs.declared.presidency.Presidency.{Presidency}
use Rattle.pgr_device.specs.declared.command.PrAnswer.TheVariants as given
use Rattle.refinement.proofs.Attempts.{install_epoch}
use Rattle.refinement.specs.Doings.{Act, Change, first_lines, last_lines, said, write_lines}
use Rattle.refinement.specs.Doings.Act.{Accepts, Dates, Ends, Gives, Goes_on, Hears, Makes, Minds, Notes, Queues, Spreads, Stores, Takes, Ticks, Waits, Works, Writes}
use Rattle.refinement.specs.Doings.Change.{Acks, Admits, Commits, Counts, Distrusts, Installs, Leads, Prepares, Promises, Proposes, Sits, Starts}
use Rattle.refinement.specs.Guards.{MayAct, MayWrite, OfAttempt, Says, TellNothing}
use Rattle.refinement.specs.Ties.{Delivered}
use Rattle.request_queue.specs.Queue as queue
use Rattle.request_queue.specs.declared.request.Request.{Request}
use Rattle.rg_props.specs.declared.group.Resource.{Resource}
use Rattle.rg_view.specs.States as states
use Rattle.rg_view.specs.declared.states.ResourceAt.{ResourceAt}
use Rattle.rg_view.specs.declared.view.GroupView.{GroupView}
use Rattle.run_history.proofs.Lists.{both, mapped, of_each}
use Rattle.run_history.proofs.Ordinary.{GivesAside, IsAside}
use Rattle.run_history.proofs.Small.{IsSmallAct}
use Rattle.seize.specs.Answers.{Answer}
use Rattle.status_report.specs.declared.entry.Entry.{Entry}
use Rattle.status_report.specs.declared.entry.Entry.TheVariants as entry
use Rattle.wire.specs.declared.message.Body.{Body}
use Rattle.wire.specs.declared.message.Body.TheVariants as body
use Rattle.run_attempts.specs.endings.Laws.{epoch_of}
use Rattle.run_attempts.specs.endings.Nacks.{BodySo, HasBooted, HasStopped, IsBegun, IsMade, IsMadeBy, IsTried}
use Rattle.run_attempts.specs.endings.Sites.{AreFine, AttemptSo, HandSo, IsFine, IsQuietLine, UpSo}
use Rattle.run_attempts.specs.endings.Steps.{ActFits, BodyFits, IsAsked}
use Rattle.run_attempts.specs.endings.Ways.{way_of}
use Rattle.run_attempts.proofs.endings.Stands.{IsEven, IsMere}
use Rattle.run_attempts.proofs.endings.Ways.{way_tried}

-- ---- lines

pub unknown_fine : (ms : List Moment) (n me : ℕ) (rs : List Request) → AreFine ms n (unknown_lines me rs)
unknown_fine ms n me [] = tt
unknown_fine ms n me (r ∷ rs) = both (IsFine ms n) (unknown_line me r) (unknown_lines me rs) (if_either (AreFine ms n) r.told _ [] (tt, tt) tt) (unknown_fine ms n me rs)

pub base_fine : (ms : List Moment) (n e before : ℕ) (texts : List (List ℕ)) → AreFine ms n (base_lines e before texts)
base_fine ms n e before [] = tt
base_fine ms n e before (text ∷ texts) = (tt, base_fine ms n e (before + 1) texts)

line_fine : (ms : List Moment) (k e n : ℕ) (r : List ℕ) (s : ResourceAt) → AreFine ms k (adopted_line e n r s)
line_fine ms k e n r s = if_either (AreFine ms k) (is_adopted s) _ [] (tt, tt) tt

lines_fine : (ms : List Moment) (k e : ℕ) (v : GroupView) (resources : List (List ℕ × Resource)) → AreFine ms k (adopted_lines e v resources)
unfolding adopted_lines
lines_fine ms k e v resources =
    of_each (IsFine ms k) (adopted_on e v resources) (numbers_to v.members most_nodes)
    (λ n. of_each (IsFine ms k) (λ x. adopted_line e n x.0 (states.state_of v.resources x.0 n)) resources (λ x. line_fine ms k e n x.0 (states.state_of v.resources x.0 n)))

pub adopted_fine : (ms : List Moment) (n e : ℕ) (s : ConfigState) (o : Option Presidency) → AreFine ms n (adopted_of e s o)
adopted_fine ms n e s None = tt
adopted_fine ms n e s (Some p) = lines_fine ms n e p.groups.view s.groups.resources

pub first_fine : (ms : List Moment) (n me : ℕ) (change : Change) → AreFine ms n (first_lines me change)
first_fine ms n me (Admits at command a d) = (tt, tt)
first_fine ms n me (Proposes s p text) = (tt, tt)
first_fine ms n me _ = tt

pub last_fine : (c : Cluster) (ms : List Moment) (n me : ℕ) (x : UpNode) (change : Change) → IsEven change → AreFine ms n (last_lines c me x change)
last_fine c ms n me x (Promises p) h = absurd h
last_fine c ms n me x (Leads p members) h = absurd h
last_fine c ms n me x (Starts a k s) h = absurd h
last_fine c ms n me x (Counts a k s i) h = (tt, tt)
last_fine c ms n me x (Installs s i) h = (tt, tt)
last_fine c ms n me x (Sits s e) h = (tt, tt)
last_fine c ms n me x (Distrusts d) h = tt
last_fine c ms n me x (Admits at command a d) h = tt
last_fine c ms n me x (Proposes s p text) h = tt
last_fine c ms n me x (Acks s p q left text) h = (tt, tt)
last_fine c ms n me x (Prepares s text) h = tt
last_fine c ms n me x (Commits s) h = tt

write_fine : (ms : List Moment) (n me : ℕ) (x : UpNode) (d value : ℕ) (a : Answer) → AreFine ms n (write_lines me x d value a)
write_fine ms n me x d value (Ok given.Good) = (tt, tt)
write_fine ms n me x d value (Ok given.Conflict) = (tt, tt)
write_fine ms n me x d value _ = (tt, tt)

aside_quiet : (e : Entry) → IsAside e → IsQuietLine e
aside_quiet (entry.Command e) h = tt
aside_quiet (entry.Status e) h = tt
aside_quiet (entry.Call e) h = tt
aside_quiet (entry.Address e) h = tt
aside_quiet _ h = absurd h

given_fine : (ms : List Moment) (n : ℕ) (os : List Output) → AllByRecursion GivesAside os → TellNothing os → AreFine ms n os
given_fine ms n [] h k = tt
given_fine ms n (Tells e ∷ os) h k = (aside_quiet e h.0, given_fine ms n os h.1 k.1)
given_fine ms n (Sends to (body.Request p number text) ∷ os) h k = (tt, given_fine ms n os h.1 k.1)
given_fine ms n (Sends to (body.Answer p number text) ∷ os) h k = (tt, given_fine ms n os h.1 k.1)
given_fine ms n (Sends to (body.Order o) ∷ os) h k = (tt, given_fine ms n os h.1 k.1)
given_fine ms n (Sends to b ∷ os) h k = absurd k.0

-- ---- ticks

again_to_fine : (ms : List Moment) (n : ℕ) (x : UpNode) (r : Option Request) (o : Option ℕ) → AreFine ms n (request_again_to x r o)
again_to_fine ms n x (Some r) (Some president) = (tt, tt)
again_to_fine ms n x None president = tt
again_to_fine ms n x (Some r) None = tt

again_fine : (ms : List Moment) (n : ℕ) (x : UpNode) (o : Option Presidency) → AreFine ms n (request_again_by x o)
again_fine ms n x None =
    if_either (AreFine ms n) (queue.goes_again x.requests) (request_again_to x (queue.oldest x.requests) (coordinator_of x)) []
    (again_to_fine ms n x (queue.oldest x.requests) (coordinator_of x)) tt
again_fine ms n x (Some p) = tt

beats_fine : (ms : List Moment) (n : ℕ) (x : UpNode) (receivers : ℕ) → AreFine ms n (heartbeats_to x receivers)
unfolding heartbeats_to
beats_fine ms n x receivers = mapped (IsFine ms n) (λ m. Sends m (heartbeat_of x)) (numbers_to receivers most_nodes) (λ m. tt)

pub ticked_fine : (ms : List Moment) (n : ℕ) (c : Cluster) (before x : UpNode) → AreFine ms n (ticked_output c before x)
ticked_fine ms n c before x = both (IsFine ms n) (heartbeats_to x _) (request_again before) (beats_fine ms n x _) (again_fine ms n before before.presidency)

-- ---- what is delivered

pub asked_begun : (ms : List Moment) (n e : ℕ) (told : Delivered) → Says (IsAsked e) told → HandSo ms n told → IsBegun ms e
asked_begun ms n e None says hand = absurd says
asked_begun ms n e (Some d) says hand = by_body d.1.body says hand.stands
  where
    by_body : (b : Body) → IsAsked e b → BodySo ms d.0 b → IsBegun ms e
    by_body (body.Collect f members) is so = subst (IsBegun ms) is so
    by_body (body.Install i) is so = subst (IsBegun ms) is so
    by_body _ is so = absurd is

-- ---- messages

-- the attempt of a node that is up has its line
pub attempt_begun : (ms : List Moment) (n : ℕ) (x : UpNode) (a : AttemptState) → way_of n ms ≡ epoch_of x.attempt → UpSo ms n x → x.attempt ≡ Some a → IsBegun ms a.plan.epoch
attempt_begun ms n x a way so is = (
  (subst (AttemptSo n (promised_of x)) (ap epoch_of is) so.attempt).1,
  way_tried n a.plan.epoch ms (way ∙ ap epoch_of is),
)

made_of : (ms : List Moment) (n q : ℕ) → IsMadeBy ms n q → 0 < q → IsMade ms q
made_of ms n q made some = by_side (made some)
  where
    by_side : IsTried ms q ⊎ ((coordinator q ≡ n) × HasStopped ms n) → IsMade ms q
    by_side (inl tried) = inl tried
    by_side (inr own) = inr (subst (HasStopped ms) (sym own.0) own.1)

-- it is in another session
refused_so : (ms : List Moment) (n : ℕ) (x : UpNode) (e q : ℕ) → q ≡ promised_of x → e ≡ q → session_of x ≢ q → UpSo ms n x → HasBooted ms n e
refused_so ms n x e q is same other so = subst (HasBooted ms n) (sym (same ∙ is)) (so.life (λ here. other (here ∙ sym is)))

of_attempt : (ms : List Moment) (n : ℕ) (x : UpNode) (e : ℕ) (P : AttemptState → Type 0) → way_of n ms ≡ epoch_of x.attempt → UpSo ms n x → OfAttempt P x.attempt → ((a : AttemptState) → P a → e ≡ a.plan.epoch) → IsBegun ms e
of_attempt ms n x e P way so may is = by_attempt x.attempt refl may
  where
    by_attempt : (o : Option AttemptState) → x.attempt ≡ o → OfAttempt P o → IsBegun ms e
    by_attempt None at h = absurd h
    by_attempt (Some a) at h = subst (IsBegun ms) (sym (is a h)) (attempt_begun ms n x a way so at)

pub write_so : (ms : List Moment) (n : ℕ) (told : Delivered) (x : UpNode) (b : Body) → way_of n ms ≡ epoch_of x.attempt → UpSo ms n x → HandSo ms n told → MayWrite x b → BodyFits told x b → BodySo ms n b
write_so ms n told x (body.Collect p members) way so hand may fits = of_attempt ms n x p _ way so may (λ a h. h.0)
write_so ms n told x (body.Install i) way so hand may fits = of_attempt ms n x i.epoch _ way so may (λ a h. ap (λ j. j.epoch) h.1 ∙ install_epoch a)
write_so ms n told x (body.Nack e q) way so hand may fits =
    let begun : IsBegun ms e = asked_begun ms n e told fits.0 hand in
    record {
      tried = begun.1;
      most = fits.2;
      made = made_of ms n q (subst (IsMadeBy ms n) (sym fits.1) so.made);
      booted = λ same. refused_so ms n x e q fits.1 same (fits.3 begun.0 same) so;
    }
write_so ms n told x _ way so hand may fits = tt

spread_fine : (ms : List Moment) (n receivers : ℕ) (b : Body) → BodySo ms n b → AreFine ms n (sent_to receivers b)
unfolding sent_to
spread_fine ms n receivers b h = mapped (IsFine ms n) (λ m. Sends m b) (numbers_to receivers most_nodes) (λ m. h)

-- ---- acts

pub said_fine : (c : Cluster) (ms : List Moment) (n : ℕ) (told : Delivered) (ticks : Bool) (x : UpNode) (a : Act) → IsMere a → MayAct c n told x a → IsSmallAct a → ActFits told ticks x a → way_of n ms ≡ epoch_of x.attempt → UpSo ms n x → HandSo ms n told
    → AreFine ms n (said c n x a)
said_fine c ms n told ticks x (Ends a e) mere may small fits way so hand = absurd mere
said_fine c ms n told ticks x (Makes change) mere may small fits way so hand = absurd mere
said_fine c ms n told ticks x (Hears from b) mere may small fits way so hand = tt
said_fine c ms n told ticks x Ticks mere may small fits way so hand = absurd mere
said_fine c ms n told ticks x Waits mere may small fits way so hand = tt
said_fine c ms n told ticks x (Goes_on a k) mere may small fits way so hand = tt
said_fine c ms n told ticks x (Queues a d kind) mere may small fits way so hand = tt
said_fine c ms n told ticks x (Accepts kind e members d) mere may small fits way so hand = tt
said_fine c ms n told ticks x (Takes at command a) mere may small fits way so hand = (tt, tt)
said_fine c ms n told ticks x (Stores d value a) mere may small fits way so hand = (tt, write_fine ms n n x d value a)
said_fine c ms n told ticks x (Writes to b) mere may small fits way so hand = (write_so ms n told x b way so hand may fits, tt)
said_fine c ms n told ticks x (Gives os) mere may small fits way so hand = given_fine ms n os small may
said_fine c ms n told ticks x (Spreads receivers b) mere may small fits way so hand = spread_fine ms n receivers b (write_so ms n told x b way so hand may fits)
said_fine c ms n told ticks x (Minds q p) mere may small fits way so hand = tt
said_fine c ms n told ticks x (Notes from place p) mere may small fits way so hand = tt
said_fine c ms n told ticks x (Dates now) mere may small fits way so hand = tt
said_fine c ms n told ticks x (Works w) mere may small fits way so hand = tt
