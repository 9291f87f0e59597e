-- An install here, or a start here, comes first among the steps of a call.
use Rattle.std.specs.Prelude.{ℕ, ◌≡◌, false, List, [], ◌∷◌, Option, None, Some, map}
use Rattle.std.proofs.Common.{sym}
use Rattle.std.specs.List.{filter_map}
use Rattle.wire.specs.declared.message.Body.TheVariants as body
use Rattle.wire.specs.declared.message.Message.{Message}
use Rattle.cmm_attempt.specs.declared.attached.AttachedDevice.{AttachedDevice}
use Rattle.cmm_attempt.specs.declared.phase.Phase.TheVariants.{Installing}
use Rattle.cmm_attempt.specs.declared.plan.Plan.{Plan}
use Rattle.cmm_attempt.specs.declared.promised.Shown.{Shown}
use Rattle.cmm_attempt.specs.declared.seizing.Seizing.{Seizing}
use Rattle.cmm_attempt.specs.declared.step.Step.{Step}
use Rattle.cmm_attempt.specs.declared.step.Step.TheVariants.{Send, SeizeHere, NeedVotes, InstallHere, StartHere, Ended}
use Rattle.cmm_attempt.specs.Attempts.{AttemptState, Turn, again_in, all_promised, asked_next, beginning, begun, choosing, chosen_by, collects, first_state, in_phase, installing, install_in, later, plain_devices, promises_of, silent_others, with_steps}
use Rattle.cmm_attempt.specs.Calls.{Call, installs_in, starts_in, turn}
use Rattle.cmm_attempt.specs.Plans.{others_of}
use Rattle.cmm_attempt.specs.Promises.{newest_shown, promised_by, shown_by}
use Rattle.cmm_attempt.specs.Seizings.{held_set, request_for}
use Rattle.cmm_attempt.proofs.Basics.{none_some, false_true, if_either}
use Rattle.attempt_laws.proofs.Goes.{none_again_in, none_requests, none_sent}
use Rattle.attempt_laws.proofs.QuietLemmas.{IsQuiet, quiet_again_in, quiet_collects, quiet_installs, quiet_requests, quiet_starts}
use Rattle.attempt_laws.proofs.Walk.{Walk, walks}

abbrev pub IsPlain : Step → Type 0
IsPlain (Send to m) = Unit {0}
IsPlain (SeizeHere d kind) = Unit {0}
IsPlain (NeedVotes n) = Unit {0}
IsPlain (InstallHere i) = ⊥
IsPlain StartHere = ⊥
IsPlain (Ended e) = Unit {0}

abbrev pub ArePlain : List Step → Type 0
ArePlain [] = Unit {0}
ArePlain (s ∷ steps) = IsPlain s × ArePlain steps

-- all are plain but, perhaps, the first
abbrev pub IsHeaded : List Step → Type 0
IsHeaded [] = Unit {0}
IsHeaded (s ∷ steps) = ArePlain steps

pub plain : (steps : List Step) → installs_in steps ≡ None → starts_in steps ≡ false → ArePlain steps
plain [] i s = tt
plain (Send to m ∷ steps) i s = (tt, plain steps i s)
plain (SeizeHere d kind ∷ steps) i s = (tt, plain steps i s)
plain (NeedVotes n ∷ steps) i s = (tt, plain steps i s)
plain (InstallHere x ∷ steps) i s = absurd (none_some x (sym i))
plain (StartHere ∷ steps) i s = absurd (false_true (sym s))
plain (Ended e ∷ steps) i s = (tt, plain steps i s)

pub headed : (steps : List Step) → ArePlain steps → IsHeaded steps
headed [] h = tt
headed (s ∷ steps) h = h.1

quietly : (steps : List Step) → IsQuiet steps → installs_in steps ≡ None → IsHeaded steps
quietly steps q none = headed steps (plain steps none q.start)

abbrev Headed : Turn → Type 0
Headed t = IsHeaded t.steps

abbrev Any : AttemptState → Type 0
Any s = Unit {0}

requested : (plan : Plan) (es : List Seizing) → IsHeaded (filter_map (request_for plan) es)
requested plan es = quietly (filter_map (request_for plan) es) (quiet_requests plan es) (none_requests plan es)

installed : (s : AttemptState) → Headed (installing s)
unfolding installing
installed s =
    let t : AttemptState = in_phase s Installing in
    plain (map (λ n. Send n (record { sender = t.plan.coordinator; body = body.Install (install_in t) })) (silent_others t))
    (none_sent t.plan (body.Install (install_in t)) (silent_others t)) (quiet_installs t).start

walk : (c : Call) → Walk c Any Any Headed
unfolding asked_next
walk c = record {
  within = λ s i. tt;
  rests = λ s i. tt;
  passes = λ s is e i. tt;
  again = λ s is e i.
      quietly (again_in (record s { ticks = later s.ticks }) s.phase) (quiet_again_in (record s { ticks = later s.ticks }) s.phase) (none_again_in (record s { ticks = later s.ticks }) s.phase);
  silent = λ s n is late least i. tt;
  superseded = λ s from m q is nack i. tt;
  promise = λ s from m p is awaited of promised i. tt;
  collects = λ s is e k. quietly (collects s) (quiet_collects s) (none_sent s.plan (body.Collect s.plan.epoch s.plan.members) (silent_others s));
  collecting = λ s is e k. tt;
  no_newest = λ s is all none k. tt;
  chosen = λ s newest is all some k. tt;
  votes = λ s both is i. tt;
  foreign = λ s both n is given least k. tt;
  excluded = λ s n is least k. tt;
  impossible = λ s e is short k. tt;
  entries = λ s is enough k. tt;
  requests = λ s is e k. requested s.plan s.devices;
  result = λ s d from r e is tells found none i. tt;
  next = λ s d from n r e is tells found next i. tt;
  seizing = λ s is e k. tt;
  short = λ s e is all few k. tt;
  others = λ s is all enough some k. requested s.plan (plain_devices s);
  installs_at_once = λ s is all enough none k. installed (record s { counted = held_set s.devices });
  installs = λ s is all k. installed s;
  ready = λ s from m is here of ready_body i. tt;
  own = λ s is here i. tt;
  installing = λ s here e k. tt;
  starts = λ s here e k.
      plain (map (λ n. Send n (record { sender = s.plan.coordinator; body = body.Start s.plan.epoch })) (others_of s.plan)) (none_sent s.plan (body.Start s.plan.epoch) (others_of s.plan)) (quiet_starts s).start;
}

pub heads : (s : AttemptState) (c : Call) → IsHeaded (turn s c).steps
heads s c = walks Any Any Headed s c (walk c) tt

-- At its beginning an attempt gives neither.

chosen_plain : (s : AttemptState) (o : Option Shown) → ArePlain (chosen_by s o).steps
chosen_plain s None = tt
chosen_plain s (Some newest) = (tt, tt)

begun_plain : (s : AttemptState) → ArePlain (begun s).steps
unfolding choosing
begun_plain s =
    if_either (λ (t : Turn). ArePlain t.steps) (all_promised s) (choosing s) (with_steps s (collects s)) (chosen_plain s (newest_shown s.promises))
    (plain (collects s) (none_sent s.plan (body.Collect s.plan.epoch s.plan.members) (silent_others s)) (quiet_collects s).start)

pub first_plain : (p members : ℕ) (own : Message) (attached : List AttachedDevice) (cluster : ℕ) → ArePlain (beginning p members own attached cluster).steps
unfolding beginning
first_plain p members own attached cluster = begun_plain (first_state p members own attached cluster (promises_of (promised_by own (shown_by own.sender own.body))))
