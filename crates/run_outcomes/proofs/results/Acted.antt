-- What a node gives in its acts, by which no answer of a device comes, tells what is shown, and so does the node after them.
use Rattle.std.specs.Prelude.{All, Bool, List, None, Some, [], false, length, true, ℕ, ◌+◌, ◌++◌, ◌∷◌, ◌≡◌, ◌≢◌, ◌<◌, ◌≤◌, ◌==◌, ◌⊎◌}
use Rattle.std.specs.List.{AllByRecursion, list_any}
use Rattle.std.proofs.Common.{ap, arith, inl, inr, refl, subst, sym, ◌∙◌}
use Rattle.cl_base.specs.Sets.{has}
use Rattle.cmm_attempt.proofs.Basics.{same_number}
use Rattle.run_seizings.proofs.Progress.{begun_stays}
use Rattle.run_history.specs.WorldLines.{IsDevice as IsDeviceOf}
use Rattle.run_outcomes.proofs.results.Fresh.{FreshNode, act_fresh}
use Rattle.cl_base.specs.Seizings.{SeizeResult}
use Rattle.cl_base.specs.declared.header.Header.{Header}
use Rattle.cl_base.specs.declared.seizing.Lack.{Lack}
use Rattle.cmm_attempt.specs.Attempts.{AttemptState}
use Rattle.cmm_attempt.specs.Calls.{Call, IsDevice, IsReached, starts_in, turn}
use Rattle.ccr_commit.specs.Entries.{all_committed, texts_of}
use Rattle.cmm_member.specs.Nodes.{NodeState}
use Rattle.cmm_attempt.specs.Seizings.{held_set}
use Rattle.cmm_attempt.specs.declared.phase.Phase.TheVariants.{Installing}
use Rattle.cmm_attempt.specs.declared.step.AttemptEnd.{AttemptEnd}
use Rattle.cmm_attempt.specs.declared.step.AttemptEnd.TheVariants as end
use Rattle.history.specs.Contact.{AttemptsDiffer, IsNew}
use Rattle.history.specs.Moment.{Moment, Told}
use Rattle.history.specs.Order.{Always}
use Rattle.history.specs.Seizing.{is_attempt}
use Rattle.history.specs.Setting.{coordinator}
use Rattle.history.specs.Starts.{Start}
use Rattle.history_setting.specs.Settings.{setting_of}
use Rattle.node_model.specs.Attempts.{base_lines, ended_entry, started_entry}
use Rattle.node_model.specs.declared.seat.Seat.TheVariants.{Forming}
use Rattle.node_model.specs.Seats.{installed_of, session_of}
use Rattle.node_model.specs.Ticks.{later}
use Rattle.node_model.specs.declared.cluster.Cluster.{Cluster}
use Rattle.node_model.specs.declared.node.Node.{Node}
use Rattle.node_model.specs.declared.node.Node.TheVariants.{Up}
use Rattle.node_model.specs.declared.node.UpNode.{UpNode}
use Rattle.node_model.specs.declared.output.Output.{Output}
use Rattle.node_model.specs.declared.output.Output.TheVariants.{Sends, Tells}
use Rattle.refinement.specs.Doings.{Act, Change, acted, last_lines, said}
use Rattle.refinement.specs.Doings.Act.{Accepts, Dates, Ends, Gives, Goes_on, Hears, Makes, Minds, Notes, Queues, Spreads, Stores, Takes, Ticks, Waits, Works, Writes}
use Rattle.refinement.specs.Doings.Doing.{Does}
use Rattle.refinement.specs.Doings.Change.{Admits, Counts, Starts}
use Rattle.refinement.proofs.Attempts.{may_be_called}
use Rattle.refinement.specs.Guards.{MayAct, MayCall, MayChange, MayWrite}
use Rattle.refinement.specs.Ties.{Delivered}
use Rattle.run_outcomes.proofs.counts.Short.{call_short}
use Rattle.run_outcomes.specs.counts.Ends.{ActFits, IsGivenBy, Last, last_by, last_by_change}
use Rattle.run_outcomes.specs.counts.Shorts.{ShortBy}
use Rattle.run_history.proofs.Walk.{passing_append}
use Rattle.run_history.specs.Guards.{AtAct, AtWrite, Hand, IsPlainBody, MadeAt, TellsEnd}
use Rattle.run_history.specs.Marks.{ActSo}
use Rattle.run_history.specs.Scenes.{Scene, passing, telling}
use Rattle.status_report.specs.declared.attempt_entry.AttemptEntry.TheVariants as attempt_entry
use Rattle.status_report.specs.declared.entry.Entry.TheVariants as entry
use Rattle.status_report.specs.declared.start_entry.StartEntry.{StartEntry}
use Rattle.status_report.specs.declared.start_entry.StartEntry.TheVariants as start_entry
use Rattle.wire.specs.declared.message.Body.{Body}
use Rattle.wire.specs.declared.message.Body.TheVariants as body
use Rattle.run_outcomes.proofs.results.Calm.{AllCalm, AllMute, IsMute, IsPlain, all_mute, made_calm, made_mute, minor_calm, opened_calm, opened_lines, spread_calm, ticked_calm, write_calm}
use Rattle.run_outcomes.proofs.accounts.Opening.{Opening, opened, opened_more, opening_shown}
use Rattle.run_outcomes.proofs.accounts.Starting.{start_accounted}
use Rattle.run_outcomes.proofs.accounts.Votes.{Installed}
use Rattle.run_outcomes.specs.accounts.Kept.{AreAccounted}
use Rattle.run_outcomes.specs.accounts.Unregistered.{AreKept, StartKept}
use Rattle.run_outcomes.proofs.results.Lacking.{lacks_shown, one_of}
use Rattle.run_outcomes.proofs.results.Passing.{Lasts, idle_ends, idle_spares, passing_all, passing_lasts, posting_lasts}
use Rattle.run_outcomes.proofs.results.Stays.{hand_stays, node_stays, says_stay}
use Rattle.run_outcomes.proofs.results.Tasks.{Ended, ended_shown}
use Rattle.run_outcomes.proofs.results.Ups.{IsOpen, NoneLate, attempt_of}
use Rattle.run_outcomes.proofs.results.Changed.{act_up}
use Rattle.run_outcomes.specs.results.Shown.{AttemptShown, EndShown, EndsShown, HandShown, NodeShown, ObstacleShown, OfHeader, SaysShown, UpShown}
use Rattle.run_outcomes.specs.results.Tried.{Collected, HeldOr, Without}

-- ---- in the step of a node

abbrev pub LastReached : Last → Type 0
LastReached None = Unit {0}
LastReached (Some l) = IsReached l.0

pub record Now (h : Header) (past : Collected) (n : ℕ) (told : Delivered) (f : ℕ → ℕ) (node : Node) (last : Last) (ms : List Moment) : Type 0 where
  pub here : NodeShown h past ms n node
  pub hand : HandShown h past f ms told
  pub lines : Always (EndsShown h) ms
  pub reached : LastReached last
  pub fresh : FreshNode past node
  pub begun : (e : ℕ) → past e → list_any (is_attempt e) ms ≡ true

-- as long as no two attempts have one number
abbrev pub Goes : Header → Collected → ℕ → Delivered → (ℕ → ℕ) → Node → Last → List Moment → Type 0
Goes h past n told f node last ms = AttemptsDiffer ms → Now h past n told f node last ms

pub goes_last : (h : Header) (past : Collected) (n : ℕ) (told : Delivered) (f : ℕ → ℕ) (node : Node) (last : Last) → Lasts (Goes h past n told f node last)
goes_last h past n told f node last x ms idle k differ =
    let z : Now h past n told f node last ms = k differ.1 in
    record {
      here = node_stays h past ms x n node differ.0 (idle_spares n x idle) z.here;
      hand = hand_stays h past f ms x told differ.0 z.hand;
      lines = (idle_ends h ms x idle, z.lines);
      reached = z.reached;
      fresh = z.fresh;
      begun = λ e gone. begun_stays ms x e (z.begun e gone);
    }

-- what is known of the node once it has gone on
abbrev pub After : Header → Collected → List Moment → ℕ → Node → Type 0
After h past ms n other = NodeShown h past ms n other × FreshNode past other

-- the node has gone on, in memory
goes_to : (h : Header) (past : Collected) (n : ℕ) (told : Delivered) (f : ℕ → ℕ) (node other : Node) (last more : Last) (ms : List Moment) → (Now h past n told f node last ms → After h past ms n other)
    → (Now h past n told f node last ms → LastReached more) → Goes h past n told f node last ms → Goes h past n told f other more ms
goes_to h past n told f node other last more ms up so k differ =
    let z : Now h past n told f node last ms = k differ in
    record { here = (up z).0; hand = z.hand; lines = z.lines; reached = so z; fresh = (up z).1; begun = z.begun }

-- what the node has installed is no newer than that
abbrev pub NoneNewer : (ℕ → ℕ) → UpNode → Type 0
NoneNewer top x = (e : ℕ) → 0 < e → e ≡ installed_of x → e ≤ top (coordinator e)

-- ---- what is said

abbrev pub OutShown : Header → Collected → ℕ → (ℕ → ℕ) → List Moment → Output → Type 0
OutShown h past n top ms (Tells e) = Unit {0}
OutShown h past n top ms (Sends to b) = SaysShown h past top ms n b

abbrev pub OutsShown : Header → Collected → ℕ → (ℕ → ℕ) → List Output → List Moment → Type 0
OutsShown h past n top os ms = AttemptsDiffer ms → AllByRecursion (OutShown h past n top ms) os

mute_says : (h : Header) (past : Collected) (top : ℕ → ℕ) (ms : List Moment) (n : ℕ) (b : Body) → IsMute b → SaysShown h past top ms n b
mute_says h past top ms n (body.Seized e d r) k = absurd k
mute_says h past top ms n (body.Promise e last members valid flagged committed pending) k = absurd k
mute_says h past top ms n _ k = tt

pub muted_says : (h : Header) (past : Collected) (n : ℕ) (top : ℕ → ℕ) (ms : List Moment) (os : List Output) → AllMute os → AllByRecursion (OutShown h past n top ms) os
muted_says h past n top ms [] k = tt
muted_says h past n top ms (Tells e ∷ os) k = (tt, muted_says h past n top ms os k.1)
muted_says h past n top ms (Sends to b ∷ os) k = (mute_says h past top ms n b k.0, muted_says h past n top ms os k.1)

pub calm_says : (h : Header) (past : Collected) (n : ℕ) (top : ℕ → ℕ) (ms : List Moment) (os : List Output) → AllCalm os → AllByRecursion (OutShown h past n top ms) os
calm_says h past n top ms os k = muted_says h past n top ms os (all_mute os k)

outs_stay : (h : Header) (past : Collected) (n : ℕ) (top : ℕ → ℕ) (ms : List Moment) (x : Moment) (os : List Output) → IsNew ms x → AllByRecursion (OutShown h past n top ms) os → AllByRecursion (OutShown h past n top (x ∷ ms)) os
outs_stay h past n top ms x [] new k = tt
outs_stay h past n top ms x (Tells e ∷ os) new k = (tt, outs_stay h past n top ms x os new k.1)
outs_stay h past n top ms x (Sends to b ∷ os) new k = (says_stay h past top ms x n b new k.0, outs_stay h past n top ms x os new k.1)

pub outs_last : (h : Header) (past : Collected) (n : ℕ) (top : ℕ → ℕ) (os : List Output) (x : Moment) (ms : List Moment) → OutsShown h past n top os ms → OutsShown h past n top os (x ∷ ms)
outs_last h past n top os x ms k differ = outs_stay h past n top ms x os differ.0 (k differ.1)

-- a small step with what it gives
pub record Done (h : Header) (past : Collected) (n : ℕ) (told : Delivered) (f top : ℕ → ℕ) (node : Node) (last : Last) (os : List Output) (ms : List Moment) : Type 0 where
  pub goes : Goes h past n told f node last ms
  pub says : OutsShown h past n top os ms

pub calm_done : (h : Header) (past : Collected) (n : ℕ) (told : Delivered) (f top : ℕ → ℕ) (node other : Node) (last more : Last) (os : List Output) (s : Scene) → AllCalm os
    → ((ms : List Moment) → Now h past n told f node last ms → After h past ms n other) → ((ms : List Moment) → Now h past n told f node last ms → LastReached more) → Goes h past n told f node last s.moments
    → Done h past n told f top other more os (passing n os s).moments
calm_done h past n told f top node other last more os s calm up so k = record {
  goes = goes_to h past n told f node other last more (passing n os s).moments (up (passing n os s).moments) (so (passing n os s).moments)
      (passing_lasts (Goes h past n told f node last) (goes_last h past n told f node last) n os s calm k);
  says = λ differ. calm_says h past n top (passing n os s).moments os calm;
}

-- ---- a start

-- where the attempt of a node has installed, it was given the votes of the base that the node has
abbrev pub StartsBy : Header → Cluster → UpNode → Type 0
StartsBy h c x = (a : AttemptState) (y : NodeState) → x.attempt ≡ Some a → x.seat ≡ Forming y → a.phase ≡ Installing → Installed (setting_of h) c a (texts_of y.saved.entries)

line_goes : (h : Header) (past : Collected) (n : ℕ) (told : Delivered) (f : ℕ → ℕ) (x : UpNode) (last : Last) (e : StartEntry) (ms : List Moment) → EndsShown h ms (Told (entry.Start e)) → Goes h past n told f (Up x) last ms
    → Goes h past n told f (Up x) last (Told (entry.Start e) ∷ ms)
line_goes h past n told f x last e ms ends g differ =
    let z : Now h past n told f (Up x) last ms = g differ.1 in
    record {
      here = node_stays h past ms (Told (entry.Start e)) n (Up x) tt tt z.here;
      hand = hand_stays h past f ms (Told (entry.Start e)) told tt z.hand;
      lines = (ends, z.lines);
      reached = z.reached;
      fresh = z.fresh;
      begun = λ q gone. begun_stays ms (Told (entry.Start e)) q (z.begun q gone);
    }

-- the lines of its base
bases_go : (h : Header) (past : Collected) (n : ℕ) (told : Delivered) (f : ℕ → ℕ) (x : UpNode) (last : Last) (st : Start) (before : List Moment) (updates done left : List (List ℕ)) (e v : ℕ) (s : Scene)
    → updates ≡ done ++ left → st.count ≡ length updates → AreAccounted (setting_of h) st updates before → Opening st before done s.moments → Goes h past n told f (Up x) last s.moments
    → Goes h past n told f (Up x) last (passing n (base_lines e v left) s).moments
bases_go h past n told f x last st before updates done [] e v s cut count accounted k g = g
bases_go h past n told f x last st before updates done (words ∷ left) e v s cut count accounted k g =
    let next : Opening st before (done ++ words ∷ []) (Told (entry.Start (start_entry.Base e (v + 1) words)) ∷ s.moments) = opened_more st before done s.moments e (v + 1) words k in
    let rest : updates ≡ (done ++ words ∷ []) ++ left = cut ∙ one_further done words left in
    bases_go h past n told f x last st before updates (done ++ words ∷ []) left e (v + 1) (telling (entry.Start (start_entry.Base e (v + 1) words)) s) rest count accounted next
    (line_goes h past n told f x last (start_entry.Base e (v + 1) words) s.moments (opening_shown (setting_of h) st before updates (done ++ words ∷ []) left _ rest count accounted next) g)
  where
    one_further : (xs : List (List ℕ)) (y : List ℕ) (ys : List (List ℕ)) → xs ++ y ∷ ys ≡ (xs ++ y ∷ []) ++ ys
    one_further [] y ys = refl
    one_further (z ∷ xs) y ys = ap (λ (us : List (List ℕ)). z ∷ us) (one_further xs y ys)

-- where an attempt starts, it accounts for each device
pub starts_goes : (h : Header) (past : Collected) (c : Cluster) (n : ℕ) (told : Delivered) (f : ℕ → ℕ) (x : UpNode) (a : AttemptState) (k : Call) (y : NodeState) (last : Last) (s : Scene) → OfHeader h c → StartsBy h c x
    → x.attempt ≡ Some a → x.seat ≡ Forming y → MayCall c told a k → starts_in (turn a k).steps ≡ true → AreKept a → Goes h past n told f (Up x) last s.moments
    → AttemptsDiffer (passing n (last_lines c n x (Starts a k y)) s).moments → Now h past n told f (Up x) last (passing n (last_lines c n x (Starts a k y)) s).moments
starts_goes h past c n told f x a k y last s id votes is seat may starts kept g differ =
    subst (λ (r : Scene). AttemptsDiffer r.moments → Now h past n told f (Up x) last r.moments) (sym (passing_append n (base_lines t.plan.epoch 0 updates) (opened_lines c n x t y) opening))
    (passing_lasts (Goes h past n told f (Up x) last) (goes_last h past n told f (Up x) last) n (opened_lines c n x t y) (passing n (base_lines t.plan.epoch 0 updates) opening) (opened_calm c n x t y) told_all) differ
  where
    t : AttemptState
    t = (turn a k).after

    updates : List (List ℕ)
    updates = (all_committed y.saved.entries).committed

    st : Start
    st = record { epoch = t.plan.epoch; members = t.plan.members; held = held_set t.devices; count = length updates }

    opening : Scene
    opening = telling (entry.Start (started_entry t (length updates))) s

    accounted : Now h past n told f (Up x) last s.moments → AreAccounted (setting_of h) st updates s.moments
    accounted z =
        start_accounted h c s.moments (session_of x) updates a k (length updates) id.few (attempt_of h s.moments (session_of x) x.attempt a is z.here.attempt) (may_be_called c told a k may) starts
        kept (λ at. votes a y is seat at)

    first : Now h past n told f (Up x) last s.moments → Opening st s.moments [] opening.moments
    first z = opened t.plan.epoch t.plan.members (held_set t.devices) (length updates) s.moments

    told_all : Goes h past n told f (Up x) last (passing n (base_lines t.plan.epoch 0 updates) opening).moments
    told_all later =
        let z : Now h past n told f (Up x) last s.moments = g (earlier later) in
        bases_go h past n told f x last st s.moments updates [] updates t.plan.epoch 0 opening refl refl (accounted z) (first z)
        (line_goes h past n told f x last (started_entry t (length updates)) s.moments (opening_shown (setting_of h) st s.moments updates [] updates _ refl refl (accounted z) (first z)) g) later
      where
        earlier : AttemptsDiffer (passing n (base_lines t.plan.epoch 0 updates) opening).moments → AttemptsDiffer s.moments
        earlier = passing_all (λ ms. AttemptsDiffer ms → AttemptsDiffer s.moments) (λ z ms l more. l more.1) n (base_lines t.plan.epoch 0 updates) opening (λ l. l.1)

-- ---- acts

-- it ends for want of votes
lacking_in : AttemptEnd → List Lack
lacking_in (end.Votes have need lacking) = lacking
lacking_in _ = []

ends_votes : (h : Header) (past : Collected) (n : ℕ) (told : Delivered) (f : ℕ → ℕ) (x : UpNode) (a : AttemptState) (have need : ℕ) (lacking : List Lack) (last : Last) (ms : List Moment) → x.attempt ≡ Some a
    → IsGivenBy last a (end.Votes have need lacking) → Now h past n told f (Up x) last ms → AllByRecursion (λ (z : Lack). ObstacleShown h a.plan.epoch z.device ms z.obstacle) lacking
unfolding lacking_in
ends_votes h past n told f x a have need lacking None ms is given k = absurd given
ends_votes h past n told f x a have need lacking (Some l) ms is given k =
    let t : AttemptState = (turn l.0 l.1).after in
    let short : ShortBy t (end.Votes have need lacking) = call_short l.0 l.1 (end.Votes have need lacking) k.reached given.1 tt in
    let so : AttemptShown h ms (session_of x) a = attempt_of h ms (session_of x) x.attempt a is k.here.attempt in
    let old : AttemptShown h ms (session_of x) t = subst (λ z. AttemptShown h ms (session_of x) z) given.0 so in
    subst (λ (z : AttemptState). AllByRecursion (λ (y : Lack). ObstacleShown h z.plan.epoch y.device ms y.obstacle) lacking) (sym given.0)
    (subst (λ zs. AllByRecursion (λ (y : Lack). ObstacleShown h t.plan.epoch y.device ms y.obstacle) zs) (sym (ap lacking_in short.is))
    (lacks_shown h ms short.v t t.plan.attached (record {
      members = old.of.1;
      plan = old.plan;
      promises = old.promises;
      rests = old.rests;
      reached = old.reached;
      both = short.both;
      given = short.given;
      one = one_of short.both t.plan.members short.set short.v short.short;
    })))

ends_done : (h : Header) (past : Collected) (n : ℕ) (told : Delivered) (f top : ℕ → ℕ) (x y : UpNode) (a : AttemptState) (why : AttemptEnd) (last more : Last) (s : Scene) → x.attempt ≡ Some a → IsGivenBy last a why
    → ((ms : List Moment) → Now h past n told f (Up x) last ms → After h past ms n (Up y)) → ((ms : List Moment) → Now h past n told f (Up x) last ms → LastReached more) → Goes h past n told f (Up x) last s.moments
    → Done h past n told f top (Up y) more (Tells (entry.Attempt (ended_entry a.plan.epoch why)) ∷ []) (telling (entry.Attempt (ended_entry a.plan.epoch why)) s).moments
ends_done h past n told f top x y a (end.Votes have need lacking) last more s is given up so k = record {
  goes = goes_to h past n told f (Up x) (Up y) last more _ (up _) (so _) ended;
  says = λ differ. (tt, tt);
}
  where
    ended : Goes h past n told f (Up x) last (Told (entry.Attempt (attempt_entry.Votes a.plan.epoch have need lacking)) ∷ s.moments)
    ended differ =
        let z : Now h past n told f (Up x) last s.moments = k differ.1 in
        record {
          here = node_stays h past s.moments (Told (entry.Attempt (attempt_entry.Votes a.plan.epoch have need lacking))) n (Up x) tt tt z.here;
          hand = hand_stays h past f s.moments (Told (entry.Attempt (attempt_entry.Votes a.plan.epoch have need lacking))) told tt z.hand;
          lines = (ends_votes h past n told f x a have need lacking last s.moments is given z, z.lines);
          reached = z.reached;
          fresh = z.fresh;
          begun = λ e gone. begun_stays s.moments (Told (entry.Attempt (attempt_entry.Votes a.plan.epoch have need lacking))) e (z.begun e gone);
        }
ends_done h past n told f top x y a (end.Superseded q) last more s is given up so k =
    calm_done h past n told f top (Up x) (Up y) last more (Tells (entry.Attempt (ended_entry a.plan.epoch (end.Superseded q))) ∷ []) s (tt, tt) up so k
ends_done h past n told f top x y a (end.Silent m) last more s is given up so k =
    calm_done h past n told f top (Up x) (Up y) last more (Tells (entry.Attempt (ended_entry a.plan.epoch (end.Silent m))) ∷ []) s (tt, tt) up so k
ends_done h past n told f top x y a (end.Foreign m) last more s is given up so k =
    calm_done h past n told f top (Up x) (Up y) last more (Tells (entry.Attempt (ended_entry a.plan.epoch (end.Foreign m))) ∷ []) s (tt, tt) up so k
ends_done h past n told f top x y a (end.Excluded m) last more s is given up so k =
    calm_done h past n told f top (Up x) (Up y) last more (Tells (entry.Attempt (ended_entry a.plan.epoch (end.Excluded m))) ∷ []) s (tt, tt) up so k

-- what it sends of how a seizing ended
tells_shown : (h : Header) (past : Collected) (top : ℕ → ℕ) (ms : List Moment) (n e d : ℕ) (r : SeizeResult) (told : Delivered) (x : UpNode) → TellsEnd told x e d r → NoneNewer top x → UpShown h past ms n x
    → SaysShown h past top ms n (body.Seized e d r)
tells_shown h past top ms n e d r told x (inr fault) newer k = inl (fault.0, newer e fault.1 fault.2)
tells_shown h past top ms n e d r told x (inl ended) newer k =
    let z : Ended h ms n (session_of x) d r = ended_shown h ms n (session_of x) d r x.tasks ended.1 k.tasks in
    inr (subst (λ q. list_any (is_attempt q) ms ≡ true) (sym ended.0) z.begun, subst (λ q. EndShown h q d ms n r) (sym ended.0) z.shown)

-- the devices that a Promise shows as valid
valid_of : Body → ℕ
valid_of (body.Promise e last members valid flagged committed pending) = valid
valid_of _ = 0

written_shown : (h : Header) (past : Collected) (top : ℕ → ℕ) (ms : List Moment) (n : ℕ) (told : Delivered) (g : Hand) (x : UpNode) (to : ℕ) (b : Body) → AtWrite told g x to b → MayWrite x b → NoneNewer top x → UpShown h past ms n x → SaysShown h past top ms n b
unfolding valid_of
written_shown h past top ms n told g x to (body.Seized e d r) at may newer k = tells_shown h past top ms n e d r told x at newer k
written_shown h past top ms n told g x to (body.Promise e last members valid flagged committed pending) at may newer k = by_open (installed_of x == session_of x) refl
  where
    by_open : (b : Bool) → (installed_of x == session_of x) ≡ b → (e ≤ top (coordinator e)) ⊎ ((d : ℕ) → IsDeviceOf h d → has valid d ≡ false → Without h e d ms n ⊎ past e)
    by_open true same = inl (newer e may.0 (may.1 ∙ sym (same_number (installed_of x) (session_of x) same)))
    by_open false other = inr (λ d is none. by_case d (k.seat (subst (λ q. 0 < q) may.1 may.0) (no_same (installed_of x) (session_of x) other) d is (ap (λ z. has z d) (sym (ap valid_of may.2)) ∙ none)))
      where
        no_same : (a b : ℕ) → (a == b) ≡ false → a ≢ b
        no_same a b i = grind arith

        by_case : (d : ℕ) → HeldOr h past ms n (session_of x) d x.tasks → Without h e d ms n ⊎ past e
        by_case d (inl w) = inl (subst (λ q. Without h q d ms n) (sym may.1) w)
        by_case d (inr seizes) = inr (subst past (sym may.1) seizes.1)
written_shown h past top ms n told g x to _ at may newer k = tt

writes_done : (h : Header) (past : Collected) (n : ℕ) (told : Delivered) (f top : ℕ → ℕ) (g : Hand) (x : UpNode) (last more : Last) (to : ℕ) (b : Body) (s : Scene) → AtWrite told g x to b → MayWrite x b → NoneNewer top x
    → ((ms : List Moment) → Now h past n told f (Up x) last ms → LastReached more) → Goes h past n told f (Up x) last s.moments
    → Done h past n told f top (Up x) more (Sends to b ∷ []) (passing n (Sends to b ∷ []) s).moments
writes_done h past n told f top g x last more to b s at may newer so k = record {
  goes = goes_to h past n told f (Up x) (Up x) last more _ (λ z. (z.here, z.fresh)) (so _)
      (posting_lasts (Goes h past n told f (Up x) last) (goes_last h past n told f (Up x) last) n to (record { sender = n; body = b }) s k);
  says = posting_lasts (OutsShown h past n top (Sends to b ∷ [])) (λ y ms idle z. outs_last h past n top (Sends to b ∷ []) y ms z) n to (record { sender = n; body = b }) s
      (λ differ. (written_shown h past top s.moments n told g x to b at may newer (k differ).here, tt));
}

pub plain_mute : (b : Body) → IsPlainBody b → IsMute b
plain_mute (body.Seized e d r) k = absurd k
plain_mute (body.Promise e last members valid flagged committed pending) k = absurd k
plain_mute (body.SeizeQuorum e members d) k = absurd k
plain_mute (body.SeizeData e members d) k = absurd k
plain_mute _ k = tt

made_plain : (told : Delivered) (x : UpNode) (n : ℕ) (g : Hand) (ch : Change) → AtAct n told g x (Makes ch) → IsPlain ch
made_plain told x n g (Admits on command a d) k = absurd k
made_plain told x n g _ k = tt

-- the attempt that takes a call is one that is reached
reached_in : (h : Header) (past : Collected) (n : ℕ) (told : Delivered) (f : ℕ → ℕ) (x : UpNode) (a : AttemptState) (last : Last) (ms : List Moment) → x.attempt ≡ Some a → Now h past n told f (Up x) last ms → IsReached a
reached_in h past n told f x a last ms is k = (attempt_of h ms (session_of x) x.attempt a is k.here.attempt).reached

pub change_reached : (h : Header) (past : Collected) (c : Cluster) (n : ℕ) (told : Delivered) (f : ℕ → ℕ) (x : UpNode) (ch : Change) (last more : Last) (ms : List Moment) → MayChange c n told x ch → Now h past n told f (Up x) last ms
    → LastReached (last_by_change more ch)
change_reached h past c n told f x (Counts a k s i) last more ms may z = reached_in h past n told f x a last ms may.0 z
change_reached h past c n told f x (Starts a k s) last more ms may z = reached_in h past n told f x a last ms may.0 z
change_reached h past c n told f x _ last more ms may z = tt

act_reached : (h : Header) (past : Collected) (c : Cluster) (n : ℕ) (told : Delivered) (f : ℕ → ℕ) (x : UpNode) (a : Act) (last : Last) (ms : List Moment) → MayAct c n told x a → Now h past n told f (Up x) last ms
    → LastReached (last_by last a)
act_reached h past c n told f x (Goes_on b k) last ms may z = reached_in h past n told f x b last ms may.0 z
act_reached h past c n told f x (Queues b d kind) last ms may z = z.reached
act_reached h past c n told f x (Writes to b) last ms may z = z.reached
act_reached h past c n told f x (Makes ch) last ms may z = change_reached h past c n told f x ch last last ms may.0 z
act_reached h past c n told f x _ last ms may z = tt

pub act_done : (h : Header) (past : Collected) (c : Cluster) (n : ℕ) (told : Delivered) (f top : ℕ → ℕ) (g : Hand) (x : UpNode) (a : Act) (last : Last) (s : Scene) → All IsDevice c.attached → OfHeader h c
    → MayAct c n told x a → AtAct n told g x a → ActFits last x a → ActSo a → StartKept (Does a) → NoneLate f x → NoneNewer top x → IsOpen x → StartsBy h c x → Goes h past n told f (Up x) last s.moments
    → Done h past n told f top (Up (acted c n x a)) (last_by last a) (said c n x a) (passing n (said c n x a) s).moments
act_done h past c n told f top g x a last s fits id may at ends so starts late newer opens votes k = by_act a may at ends so starts
  where
    made_so : (b : Act) → AtAct n told g x b → (ch : Change) → b ≡ Makes ch → MadeAt ch
    made_so b l ch is = subst (AtAct n told g x) is l

    up : (b : Act) → MayAct c n told x b → AtAct n told g x b → (ms : List Moment) → Now h past n told f (Up x) last ms → After h past ms n (Up (acted c n x b))
    up b m l ms z = (act_up h past c f ms n told g x b fits id m l z.hand (late, z.fresh) opens z.here, act_fresh past c n told x b m (made_so b l) z.fresh)

    calm : (b : Act) → MayAct c n told x b → AtAct n told g x b → AllCalm (said c n x b)
        → Done h past n told f top (Up (acted c n x b)) (last_by last b) (said c n x b) (passing n (said c n x b) s).moments
    calm b m l is =
        calm_done h past n told f top (Up x) (Up (acted c n x b)) last (last_by last b) (said c n x b) s is (up b m l) (λ ms z. act_reached h past c n told f x b last ms m z) k

    by_act : (b : Act) → MayAct c n told x b → AtAct n told g x b → ActFits last x b → ActSo b → StartKept (Does b)
        → Done h past n told f top (Up (acted c n x b)) (last_by last b) (said c n x b) (passing n (said c n x b) s).moments
    by_act (Ends b why) m l e o st =
        ends_done h past n told f top x (acted c n x (Ends b why)) b why last None s e.0 e.1 (up (Ends b why) m l) (λ ms z. tt) k
    by_act (Writes to b) m l e o st = writes_done h past n told f top g x last last to b s l m newer (λ ms z. z.reached) k
    by_act (Hears from b) m l e o st = calm (Hears from b) m l tt
    by_act Ticks m l e o st = calm Ticks m l (tt, ticked_calm c x (later c x))
    by_act Waits m l e o st = calm Waits m l tt
    by_act (Goes_on b q) m l e o st = calm (Goes_on b q) m l tt
    by_act (Queues b d kind) m l e o st = calm (Queues b d kind) m l tt
    by_act (Accepts kind f members d) m l e o st = calm (Accepts kind f members d) m l tt
    by_act (Takes on command a) m l e o st = absurd l
    by_act (Stores d value a) m l e o st = calm (Stores d value a) m l (tt, write_calm n x d value a)
    by_act (Makes (Starts b q y)) m l e o st = record {
      goes = goes_to h past n told f (Up x) (Up (acted c n x (Makes (Starts b q y)))) last (last_by last (Makes (Starts b q y))) _ (up (Makes (Starts b q y)) m l _)
          (λ z. act_reached h past c n told f x (Makes (Starts b q y)) last _ m z) (starts_goes h past c n told f x b q y last s id votes m.0.0 m.0.1 m.0.2 m.0.3 st k);
      says = λ differ. muted_says h past n top _ (said c n x (Makes (Starts b q y))) (made_mute c n x (Starts b q y) tt);
    }
    by_act (Makes ch) m l e o st = calm (Makes ch) m l (made_calm c n x ch (made_plain told x n g ch l) tt)
    by_act (Gives os) m l e o st = calm (Gives os) m l (minor_calm os o m)
    by_act (Spreads receivers b) m l e o st = calm (Spreads receivers b) m l (spread_calm receivers b (plain_mute b l))
    by_act (Minds q p) m l e o st = calm (Minds q p) m l tt
    by_act (Notes from place p) m l e o st = calm (Notes from place p) m l tt
    by_act (Dates now) m l e o st = calm (Dates now) m l tt
    by_act (Works w) m l e o st = calm (Works w) m l tt
