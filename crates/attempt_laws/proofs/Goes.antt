-- From the choice on every member has promised and the newest record is named; an install is given where installing begins, and a start
-- where it ends.
use Rattle.std.proofs.Common.{◌≡◌, ℕ, ◌⊎◌, inl, inr, List, [], ◌∷◌, ◌++◌, map, refl, sym, ap, subst, ◌∙◌}
use Rattle.std.specs.Prelude.{◌==◌, ◌&&◌, true, Option, Some, None, IsSome, option_map}
use Rattle.std.specs.List.{filter_map, list_all, cons_option}
use Rattle.seize.specs.declared.kind.SeizeKind.{SeizeKind}
use Rattle.cl_base.specs.Seizings.{SeizeResult}
use Rattle.wire.specs.declared.message.Body.{Body}
use Rattle.wire.specs.declared.message.Body.TheVariants as body
use Rattle.wire.specs.declared.message.Install.{Install}
use Rattle.cmm_attempt.specs.declared.counting.BothVotes.{BothVotes}
use Rattle.cmm_attempt.specs.declared.phase.Phase.{Phase}
use Rattle.cmm_attempt.specs.declared.phase.Phase.TheVariants.{Collecting, Choosing, SeizingVotes, SeizingOthers, Installing, Over}
use Rattle.cmm_attempt.specs.declared.plan.Plan.{Plan}
use Rattle.cmm_attempt.specs.declared.promised.Promised.{Promised}
use Rattle.cmm_attempt.specs.declared.seizing.Seizing.{Seizing}
use Rattle.cmm_attempt.specs.declared.step.Step.{Step}
use Rattle.cmm_attempt.specs.declared.step.Step.TheVariants.{Send, SeizeHere, NeedVotes, InstallHere, StartHere, Ended}
use Rattle.cmm_attempt.specs.declared.step.AttemptEnd.{AttemptEnd}
use Rattle.cmm_attempt.specs.declared.step.AttemptEnd.TheVariants.{Votes, Silent, Superseded, Foreign, Excluded}
use Rattle.cmm_attempt.specs.Plans.{others_of}
use Rattle.cmm_attempt.specs.Seizings.{held_set, request, request_body, request_by, request_for, again_by, again_for, with_next}
use Rattle.cmm_attempt.specs.Calls.{Call, With_votes, Tick, turn, May, Run, IsReached, end_in, starts_in, installs_in}
use Rattle.cmm_attempt.proofs.Basics.{none_some, false_true, same_some, and_cases, if_either}
use Rattle.attempt_laws.specs.Laws.{AllHavePromised}
use Rattle.attempt_laws.specs.Staying.{IsBefore}
use Rattle.attempt_laws.proofs.QuietLemmas.{IsQuiet, quiet_none, quiet_asked, quiet_requests, quiet_installs, quiet_collects, quiet_starts, quiet_again_in}
use Rattle.attempt_laws.proofs.Walk.{Walk, walks, walks_begun, awaits_collecting}
use Rattle.cmm_attempt.specs.Promises.{has_promised, promised_by, shown_by, newest_shown}
use Rattle.cmm_attempt.specs.Installs.{send_to, send_start}
use Rattle.cmm_attempt.specs.Attempts.{AttemptState, Turn, with_steps, ends, silent_others, all_ready, install_in, in_phase, installing, plain_devices, asked_next, chosen, all_promised, collects, first_state, promises_of, beginning, again_in, later}

-- Steps that ask or send give no install.

abbrev pub IsNoInstall : Step → Type 0
IsNoInstall (Send to message) = Unit {0}
IsNoInstall (SeizeHere d kind) = Unit {0}
IsNoInstall (NeedVotes n) = Unit {0}
IsNoInstall StartHere = Unit {0}
IsNoInstall (Ended e) = Unit {0}
IsNoInstall (InstallHere i) = ⊥

abbrev IsNoInstallMaybe : Option Step → Type 0
IsNoInstallMaybe None = Unit {0}
IsNoInstallMaybe (Some x) = IsNoInstall x

pub none_cons : (x : Step) (xs : List Step) → IsNoInstall x → installs_in xs ≡ None → installs_in (x ∷ xs) ≡ None
none_cons (Send to message) xs q h = h
none_cons (SeizeHere d kind) xs q h = h
none_cons (NeedVotes n) xs q h = h
none_cons StartHere xs q h = h
none_cons (Ended e) xs q h = h
none_cons (InstallHere i) xs q h = absurd q

none_option : (o : Option Step) (xs : List Step) → IsNoInstallMaybe o → installs_in xs ≡ None → installs_in (cons_option o xs) ≡ None
none_option None xs q h = h
none_option (Some x) xs q h = none_cons x xs q h

pub none_sent : (plan : Plan) (b : Body) (ns : List ℕ) → installs_in (map (send_to plan b) ns) ≡ None
none_sent plan b [] = refl
none_sent plan b (n ∷ ns) = none_sent plan b ns

pub none_asked : (plan : Plan) (kind : SeizeKind) (d n : ℕ) → IsNoInstall (request plan kind d n)
none_asked plan kind d n =
    if_either IsNoInstall (n == plan.coordinator) (SeizeHere d kind) (Send n (record { sender = plan.coordinator; body = request_body plan kind d })) tt tt

none_by : (plan : Plan) (e : Seizing) (r : Option SeizeResult) (o : Option ℕ) → IsNoInstallMaybe (request_by plan e r o)
none_by plan e None (Some n) = none_asked plan e.kind e.attached.device n
none_by plan e None None = tt
none_by plan e (Some r) o = tt

pub none_requests : (plan : Plan) (es : List Seizing) → installs_in (filter_map (request_for plan) es) ≡ None
none_requests plan [] = refl
none_requests plan (e ∷ es) =
    none_option (request_for plan e) (filter_map (request_for plan) es) (none_by plan e e.result e.seizer) (none_requests plan es)

none_again_by : (plan : Plan) (e : Seizing) (r : Option SeizeResult) (o : Option ℕ) → IsNoInstallMaybe (again_by plan e r o)
none_again_by plan e None (Some n) =
    if_either IsNoInstallMaybe (n == plan.coordinator) None (Some (request plan e.kind e.attached.device n)) tt (none_asked plan e.kind e.attached.device n)
none_again_by plan e None None = tt
none_again_by plan e (Some r) o = tt

none_again : (plan : Plan) (es : List Seizing) → installs_in (filter_map (again_for plan) es) ≡ None
none_again plan [] = refl
none_again plan (e ∷ es) =
    none_option (again_for plan e) (filter_map (again_for plan) es) (none_again_by plan e e.result e.seizer) (none_again plan es)

pub none_again_in : (s : AttemptState) (phase : Phase) → installs_in (again_in s phase) ≡ None
none_again_in s Collecting = none_sent s.plan (body.Collect s.plan.epoch s.plan.members) (silent_others s)
none_again_in s Choosing = refl
none_again_in s SeizingVotes = none_again s.plan s.devices
none_again_in s SeizingOthers = none_again s.plan s.devices
none_again_in s Installing = none_sent s.plan (body.Install (install_in s)) (silent_others s)
none_again_in s Over = refl

-- What goes on in an attempt.

-- every member has promised, and n is the node of the newest record
abbrev pub IsChosen : List Promised → List ℕ → ℕ → Type 0
IsChosen promises nodes n = (list_all (has_promised promises) nodes ≡ true) × (option_map (λ x. x.summary.node) (newest_shown promises) ≡ Some n)

abbrev pub IsChosenIn : List Promised → List ℕ → ℕ → Phase → Type 0
IsChosenIn promises nodes n Collecting = Unit {0}
IsChosenIn promises nodes n Choosing = IsChosen promises nodes n
IsChosenIn promises nodes n SeizingVotes = IsChosen promises nodes n
IsChosenIn promises nodes n SeizingOthers = IsChosen promises nodes n
IsChosenIn promises nodes n Installing = IsChosen promises nodes n
IsChosenIn promises nodes n Over = Unit {0}

abbrev pub Chosen : AttemptState → Type 0
Chosen s = IsChosen s.promises s.plan.nodes s.newest

abbrev pub ChosenIn : AttemptState → Phase → Type 0
ChosenIn s phase = IsChosenIn s.promises s.plan.nodes s.newest phase

-- an end by a foreign or an excluded member
abbrev pub NamesMember : Option AttemptEnd → ℕ → Type 0
NamesMember o n = (o ≡ Some (Foreign n)) ⊎ (o ≡ Some (Excluded n))

no_end : (n : ℕ) → NamesMember None n → ⊥
no_end n (inl h) = none_some (Foreign n) h
no_end n (inr h) = none_some (Excluded n) h

abbrev IsOfMember : AttemptEnd → Type 0
IsOfMember (Foreign n) = Unit {0}
IsOfMember (Excluded n) = Unit {0}
IsOfMember (Votes have need lacking) = ⊥
IsOfMember (Superseded q) = ⊥
IsOfMember (Silent n) = ⊥

other_end : (e : AttemptEnd) (n : ℕ) → (IsOfMember e → ⊥) → NamesMember (Some e) n → ⊥
other_end e n other (inl h) = other (subst IsOfMember (sym (same_some e (Foreign n) h)) tt)
other_end e n other (inr h) = other (subst IsOfMember (sym (same_some e (Excluded n) h)) tt)

pub record Goes (was : Phase) (t : Turn) : Type 0 where
  pub chosen : ChosenIn t.after t.after.phase
  pub install : (i : Install) → installs_in t.steps ≡ Some i → (t.after.phase ≡ Installing) × (i ≡ install_in t.after)
  pub before : (i : Install) → installs_in t.steps ≡ Some i → IsBefore was
  pub entered : t.after.phase ≡ Installing → (was ≡ Installing) ⊎ IsSome (installs_in t.steps)
  pub start : starts_in t.steps ≡ true → (was ≡ Installing) × (t.after.own_ready ≡ true) × (all_ready t.after ≡ true)
  pub promised : (n : ℕ) → NamesMember (end_in t.steps) n → all_promised t.after ≡ true

-- between the small steps of a call, which was made in the phase `was`
abbrev Between : Phase → AttemptState → Type 0
Between was s = ChosenIn s s.phase × (s.phase ≡ Installing → was ≡ Installing) × (IsBefore s.phase → IsBefore was)

quietly : (was : Phase) (s : AttemptState) (steps : List Step) → IsQuiet steps → installs_in steps ≡ None → Between was s → Goes was (with_steps s steps)
quietly was s steps q none k = record {
  chosen = k.0;
  install = λ i h. absurd (none_some i (sym none ∙ h));
  before = λ i h. absurd (none_some i (sym none ∙ h));
  entered = λ h. inl (k.1 h);
  start = λ h. absurd (false_true (sym q.start ∙ h));
  promised = λ n h. absurd (no_end n (subst (λ o. NamesMember o n) q.end h));
}

abbrev IsInstalling : Phase → Type 0
IsInstalling Installing = Unit {0}
IsInstalling Collecting = ⊥
IsInstalling Choosing = ⊥
IsInstalling SeizingVotes = ⊥
IsInstalling SeizingOthers = ⊥
IsInstalling Over = ⊥

not_installing : (phase : Phase) → (IsInstalling phase → ⊥) → phase ≡ Installing → ⊥
not_installing phase other h = other (subst IsInstalling (sym h) tt)

ending : (was : Phase) (s : AttemptState) (e : AttemptEnd) → (IsOfMember e → all_promised s ≡ true) → Goes was (ends s e)
ending was s e all = record {
  chosen = tt;
  install = λ i h. absurd (none_some i h);
  before = λ i h. absurd (none_some i h);
  entered = λ h. absurd (not_installing Over (λ x. x) h);
  start = λ h. absurd (false_true h);
  promised = λ n h. by_end n e all h;
}
  where
    by_end : (n : ℕ) (e : AttemptEnd) → (IsOfMember e → all_promised s ≡ true) → NamesMember (Some e) n → all_promised s ≡ true
    by_end n (Foreign m) all h = all tt
    by_end n (Excluded m) all h = all tt
    by_end n (Votes have need lacking) all h = absurd (other_end (Votes have need lacking) n (λ x. x) h)
    by_end n (Superseded q) all h = absurd (other_end (Superseded q) n (λ x. x) h)
    by_end n (Silent m) all h = absurd (other_end (Silent m) n (λ x. x) h)

starting : (was : Phase) (s : AttemptState) → was ≡ Installing → (s.own_ready && all_ready s) ≡ true
    → Goes was (with_steps (record s { phase = Over }) (StartHere ∷ map (send_start s.plan) (others_of s.plan)))
starting was s is h =
    let none : installs_in (map (send_start s.plan) (others_of s.plan)) ≡ None = none_sent s.plan (body.Start s.plan.epoch) (others_of s.plan) in
    record {
      chosen = tt;
      install = λ i k. absurd (none_some i (sym none ∙ k));
      before = λ i k. absurd (none_some i (sym none ∙ k));
      entered = λ k. absurd (not_installing Over (λ x. x) k);
      start = λ _. (is, (and_cases s.own_ready (all_ready s) h).0, (and_cases s.own_ready (all_ready s) h).1);
      promised = λ n k. absurd (no_end n (subst (λ o. NamesMember o n) (quiet_starts s).end k));
    }

beginning_install : (was : Phase) (s : AttemptState) → Chosen s → IsBefore was → Goes was (installing s)
unfolding installing
beginning_install was s chosen before =
    let t : AttemptState = in_phase s Installing in
    record {
      chosen = chosen;
      install = λ i h. (refl, sym (same_some (install_in t) i h));
      before = λ i h. before;
      entered = λ _. inr refl;
      start = λ h. absurd (false_true (sym (quiet_installs t).start ∙ h));
      promised = λ n h. absurd (no_end n (subst (λ o. NamesMember o n) (quiet_installs t).end h));
    }

at : (s : AttemptState) (phase : Phase) → s.phase ≡ phase → ChosenIn s s.phase → ChosenIn s phase
at s phase is h = subst (ChosenIn s) is h

was_before : (was phase at : Phase) → at ≡ phase → IsBefore phase → (IsBefore at → IsBefore was) → IsBefore was
was_before was phase at is here h = h (subst IsBefore (sym is) here)

given : (s : AttemptState) (c : Call) (both : BothVotes) → c ≡ With_votes both → May s c → s.phase ≡ Choosing
given s c both is may = subst (May s) is may

voted : (was : Phase) (s : AttemptState) → s.phase ≡ Choosing → Between was s → IsChosen s.promises s.plan.nodes s.newest × (SeizingVotes ≡ Installing → was ≡ Installing) × (Unit {0} → IsBefore was)
voted was s is k = (at s Choosing is k.0, λ h. absurd (not_installing SeizingVotes (λ x. x) h), λ _. was_before was Choosing s.phase is tt k.2)

walk : (was : Phase) (c : Call) → Walk c (λ s. Between was s × May s c) (Between was) (Goes was)
unfolding asked_next
walk was c = record {
  within = λ s i. i.0;
  rests = λ s i. quietly was s [] quiet_none refl i.0;
  passes = λ s is e i. quietly was (record s { ticks = later s.ticks }) [] quiet_none refl i.0;
  again = λ s is e i.
      quietly was (record s { ticks = later s.ticks }) (again_in (record s { ticks = later s.ticks }) s.phase) (quiet_again_in (record s { ticks = later s.ticks }) s.phase)
      (none_again_in (record s { ticks = later s.ticks }) s.phase) i.0;
  silent = λ s n is late least i. ending was (record s { ticks = later s.ticks }) (Silent n) (λ x. absurd x);
  superseded = λ s from m q is nack i. ending was s (Superseded q) (λ x. absurd x);
  promise = λ s from m p is awaited of promised i. (
    subst (IsChosenIn (s.promises ++ p ∷ []) s.plan.nodes s.newest) (sym (awaits_collecting s from s.phase awaited)) tt,
    i.0.1,
    i.0.2,
  );
  collects = λ s is e k. quietly was s (collects s) (quiet_collects s) (none_sent s.plan (body.Collect s.plan.epoch s.plan.members) (silent_others s)) k;
  collecting = λ s is e k. quietly was s [] quiet_none refl k;
  no_newest = λ s is all none k. quietly was s [] quiet_none refl k;
  chosen = λ s newest is all some k. record {
    chosen = (all, ap (λ o. option_map (λ x. x.summary.node) o) some);
    install = λ i h. absurd (none_some i h);
    before = λ i h. absurd (none_some i h);
    entered = λ h. absurd (not_installing Choosing (λ x. x) h);
    start = λ h. absurd (false_true h);
    promised = λ n h. absurd (no_end n h);
  };
  votes = λ s both is i. voted was s (given s c both is i.1) i.0;
  foreign = λ s both n is given least k. ending was s (Foreign n) (λ _. (at s SeizingVotes is k.0).0);
  excluded = λ s n is least k. ending was s (Excluded n) (λ _. (at s SeizingVotes is k.0).0);
  impossible = λ s e is short k. ending was s e (λ _. (at s SeizingVotes is k.0).0);
  entries = λ s is enough k. k;
  requests = λ s is e k. quietly was s (filter_map (request_for s.plan) s.devices) (quiet_requests s.plan s.devices) (none_requests s.plan s.devices) k;
  result = λ s d from r e is tells found none i. i.0;
  next = λ s d from n r e is tells found next i.
      quietly was (record s { devices = map (with_next d n) s.devices; ticks = 0 }) (request s.plan e.kind d n ∷ []) (quiet_asked s.plan e.kind d n)
      (none_cons (request s.plan e.kind d n) [] (none_asked s.plan e.kind d n) refl) i.0;
  seizing = λ s is e k. quietly was s [] quiet_none refl k;
  short = λ s e is all few k. ending was s e (λ _. (at s SeizingVotes is k.0).0);
  others = λ s is all enough some k.
      quietly was (record (in_phase s SeizingOthers) { counted = held_set s.devices; devices = s.devices ++ plain_devices s }) (filter_map (request_for s.plan) (plain_devices s))
      (quiet_requests s.plan (plain_devices s)) (none_requests s.plan (plain_devices s))
      (at s SeizingVotes is k.0, λ h. absurd (not_installing SeizingOthers (λ x. x) h), λ _. was_before was SeizingVotes s.phase is tt k.2);
  installs_at_once = λ s is all enough none k.
      beginning_install was (record s { counted = held_set s.devices }) (at s SeizingVotes is k.0) (was_before was SeizingVotes s.phase is tt k.2);
  installs = λ s is all k. beginning_install was s (at s SeizingOthers is k.0) (was_before was SeizingOthers s.phase is tt k.2);
  ready = λ s from m is here of ready_body i. i.0;
  own = λ s is here i. i.0;
  installing = λ s here e k. quietly was s [] quiet_none refl k;
  starts = λ s here e k. starting was s (k.1 here) e;
}

pub goes_by_call : (s : AttemptState) (c : Call) → May s c → ChosenIn s s.phase → Goes s.phase (turn s c)
goes_by_call s c may whole = walks (λ x. Between s.phase x × May x c) (Between s.phase) (Goes s.phase) s c (walk s.phase c) ((whole, λ h. h, λ h. h), may)

chosen_run : (s : AttemptState) (calls : List Call) (t : AttemptState) → ChosenIn s s.phase → Run s calls t → ChosenIn t t.phase
chosen_run s [] t whole run = subst (λ x. ChosenIn x x.phase) (sym run) whole
chosen_run s (c ∷ calls) t whole run = chosen_run (turn s c).after calls t (goes_by_call s c run.0 whole).chosen run.1

pub chosen_reached : (s : AttemptState) → IsReached s → ChosenIn s s.phase
unfolding beginning
chosen_reached s r =
    let first : AttemptState = first_state r.p r.members r.own r.attached r.cluster (promises_of (promised_by r.own (shown_by r.own.sender r.own.body))) in
    chosen_run (beginning r.p r.members r.own r.attached r.cluster).after r.calls s
    (walks_begun Tick (λ x. Between Collecting x × May x Tick) (Between Collecting) (Goes Collecting) (walk Collecting Tick) first refl (tt, λ h. h, λ h. h)).chosen r.run

pub all_have_promised : AllHavePromised
all_have_promised s c n reached may h = (goes_by_call s c may (chosen_reached s reached)).promised n h
