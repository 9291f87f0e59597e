-- What an attempt has of how its seizings ended is what it was told, before it installs; where nobody was to be asked, all attached nodes have promised without the device.
use Rattle.std.specs.Prelude.{ℕ, ◌≡◌, ◌++◌, ◌⊎◌, true, List, [], ◌∷◌}
use Rattle.std.specs.List.{AllByRecursion}
use Rattle.std.proofs.Common.{refl, sym, ap, subst, ◌∙◌, inl, inr}
use Rattle.attempt_laws.proofs.Walk.{IsSeizing, TellsResult, Walk, awaits_collecting, walks, walks_begun}
use Rattle.attempt_laws.specs.Asking.{AreApart, numbers_of}
use Rattle.attempt_laws.specs.Staying.{IsBefore}
use Rattle.cl_base.specs.Seizings.{SeizeResult}
use Rattle.cl_base.specs.declared.seizing.SeizeEnd.TheVariants as end
use Rattle.cmm_attempt.specs.Attempts.{AttemptState, Turn, all_promised, asked_next, beginning, first_state, installing, later, plain_devices, promises_of}
use Rattle.cmm_attempt.specs.Calls.{Call, May, Own_ready, Own_seized, Take, Tick, With_votes, turn}
use Rattle.cmm_attempt.specs.Promises.{promised_by, shown_by}
use Rattle.cmm_attempt.specs.Seizings.{with_next, with_result}
use Rattle.cmm_attempt.specs.declared.attached.AttachedDevice.{AttachedDevice}
use Rattle.cmm_attempt.specs.declared.counting.BothVotes.{BothVotes}
use Rattle.cmm_attempt.specs.declared.phase.Phase.{Phase}
use Rattle.cmm_attempt.specs.declared.phase.Phase.TheVariants.{Choosing, Collecting, Installing, Over, SeizingOthers, SeizingVotes}
use Rattle.cmm_attempt.specs.declared.plan.Plan.{Plan}
use Rattle.run_history.proofs.Lists.{both}
use Rattle.wire.specs.declared.message.Body.TheVariants as body
use Rattle.wire.specs.declared.message.Message.{Message}
use Rattle.run_outcomes.proofs.results.Apart.{found_awaits, mapped_apart, only_one, others_apart, votes_apart}
use Rattle.run_outcomes.specs.results.Shown.{EntryTold, Fact, Rests}
use Rattle.run_outcomes.proofs.results.Listed.{AllTold, AreLow, entries_told, next_among, next_keys, next_path, next_same, nexts_told, plains_told, result_same, results_told}

-- ---- phases

no_over : Over ≡ Collecting → ⊥
no_over e = cc

no_choosing : Choosing ≡ Collecting → ⊥
no_choosing e = cc

choosing_no : Choosing ≡ Over → ⊥
choosing_no e = cc

no_votes : SeizingVotes ≡ Collecting → ⊥
no_votes e = cc

votes_no : SeizingVotes ≡ Over → ⊥
votes_no e = cc

no_others : SeizingOthers ≡ Collecting → ⊥
no_others e = cc

others_no : SeizingOthers ≡ Over → ⊥
others_no e = cc

no_installing : Installing ≡ Collecting → ⊥
no_installing e = cc

no_seizing : (phase : Phase) → IsSeizing phase → phase ≡ Collecting → ⊥
no_seizing phase (inl is) e = no_votes (sym is ∙ e)
no_seizing phase (inr is) e = no_others (sym is ∙ e)

-- past the Promises all are there
past_all : (P : Fact) (s : AttemptState) (phase : Phase) → s.phase ≡ phase → (phase ≡ Collecting → ⊥) → (phase ≡ Over → ⊥) → Rests P s → all_promised s ≡ true
past_all P s phase is early over k = by_past k.past
  where
    by_past : (s.phase ≡ Collecting) ⊎ ((s.phase ≡ Over) ⊎ (all_promised s ≡ true)) → all_promised s ≡ true
    by_past (inl e) = absurd (early (sym is ∙ e))
    by_past (inr (inl e)) = absurd (over (sym is ∙ e))
    by_past (inr (inr all)) = all

over_so : (P : Fact) (s : AttemptState) → Rests P s → Rests P (record s { phase = Over })
over_so P s k = record { early = λ e. absurd (no_over e); past = inr (inl refl); entries = k.entries; apart = k.apart }

ticked_so : (P : Fact) (s : AttemptState) (ticks : ℕ) → Rests P s → Rests P (record s { ticks = ticks })
ticked_so P s ticks k = record { early = k.early; past = k.past; entries = k.entries; apart = k.apart }

-- ---- each call

tells_at : (c : Call) (s a : AttemptState) (d n : ℕ) (r : SeizeResult) → s.plan ≡ a.plan → TellsResult c s d n r → TellsResult c a d n r
tells_at (Take from m) s a d n r same tells = (tells.0, tells.1 ∙ ap (λ (p : Plan). body.Seized p.epoch d r) same)
tells_at (Own_seized device told) s a d n r same tells = (tells.0, tells.1, tells.2 ∙ ap (λ (p : Plan). p.coordinator) same)
tells_at (With_votes votes) s a d n r same tells = absurd tells
tells_at Own_ready s a d n r same tells = absurd tells
tells_at Tick s a d n r same tells = absurd tells

seizing_before : (phase : Phase) → IsSeizing phase → IsBefore phase
seizing_before phase (inl is) = subst IsBefore (sym is) tt
seizing_before phase (inr is) = subst IsBefore (sym is) tt

-- what a call tells is so, before the attempt installs
abbrev pub Tells : Fact → AttemptState → Call → Type 0
Tells P a c = (d from : ℕ) (r : SeizeResult) → IsBefore a.phase → TellsResult c a d from r → P.told d from r

record AtRest (P : Fact) (a : AttemptState) (c : Call) (s : AttemptState) : Type 0 where
  plan : s.plan ≡ a.plan
  before : IsBefore s.phase → IsBefore a.phase
  may : (both : BothVotes) → c ≡ With_votes both → s.phase ≡ Choosing
  rests : Rests P s

record Within (P : Fact) (a s : AttemptState) : Type 0 where
  plan : s.plan ≡ a.plan
  rests : Rests P s

abbrev Ends : Fact → Turn → Type 0
Ends P t = Rests P t.after

-- what is known of the plan
pub record Planned (P : Fact) (plan : Plan) : Type 0 where
  pub places : AllByRecursion P.place plan.attached
  pub apart : AreApart (numbers_of plan.attached)
  pub low : AreLow plan.nodes

walk : (P : Fact) (a : AttemptState) (c : Call) → Planned P a.plan → Tells P a c → Walk c (AtRest P a c) (Within P a) (Ends P)
unfolding asked_next installing
walk P a c planned tells = record {
  within = λ s i. record { plan = i.plan; rests = i.rests };
  rests = λ s i. i.rests;
  passes = λ s is e i. ticked_so P s (later s.ticks) i.rests;
  again = λ s is e i. ticked_so P s (later s.ticks) i.rests;
  silent = λ s n is late least i. over_so P (record s { ticks = later s.ticks }) (ticked_so P s (later s.ticks) i.rests);
  superseded = λ s from m q is body i. over_so P s i.rests;
  promise = λ s from m p is awaited of promised i.
      let at : s.phase ≡ Collecting = awaits_collecting s from s.phase awaited in
      record {
        plan = i.plan;
        rests = record {
          early = i.rests.early;
          past = inl at;
          entries = subst (λ ds. AllTold P s.plan (s.promises ++ p ∷ []) ds) (sym (i.rests.early at)) tt;
          apart = i.rests.apart;
        };
      };
  collects = λ s is e k. k.rests;
  collecting = λ s is e k. k.rests;
  no_newest = λ s is all none k. k.rests;
  chosen = λ s newest is all some k. record { early = λ e. absurd (no_choosing e); past = inr (inr all); entries = k.rests.entries; apart = k.rests.apart };
  votes = λ s both_votes is i. record {
    plan = i.plan;
    rests = record {
      early = λ e. refl;
      past = inr (inr (past_all P s Choosing (i.may both_votes is) no_choosing choosing_no i.rests));
      entries = tt;
      apart = tt;
    };
  };
  foreign = λ s both_votes n is votes least k. over_so P s k.rests;
  excluded = λ s n is least k. over_so P s k.rests;
  impossible = λ s e is short k. over_so P s k.rests;
  entries = λ s is enough k.
      let all : all_promised s ≡ true = past_all P s SeizingVotes is no_votes votes_no k.rests in
      record {
        plan = k.plan;
        rests = record {
          early = λ e. absurd (no_votes (sym is ∙ e));
          past = inr (inr all);
          entries = entries_told P s s.votes all (plan_so s k.plan).low (plan_so s k.plan).places;
          apart = votes_apart s s.votes (plan_so s k.plan).apart;
        };
      };
  requests = λ s is e k. k.rests;
  result = λ s d from r e is says found none i. record {
    plan = i.plan;
    rests = record {
      early = λ at. absurd (no_seizing s.phase is at);
      past = i.rests.past;
      entries = results_told P s.plan s.promises d from r e s.devices
          (record { awaited = found_awaits d from s.devices e found; told = tells d from r (i.before (seizing_before s.phase is)) (tells_at c s a d from r i.plan says) }) none
          (only_one d from s.devices e i.rests.apart found) i.rests.entries;
      apart = mapped_apart (with_result d r) (result_same d r) s.devices i.rests.apart;
    };
  };
  next = λ s d from n r e is says found next i.
      let keys : (keys : List ℕ) × (r ≡ end.NotRegistered keys) = next_keys s.plan.cluster s.promises s.plan.nodes e e.kind r n next in
      record {
        early = λ at. absurd (no_seizing s.phase is at);
        past = i.rests.past;
        entries = nexts_told P s.plan s.promises d from n keys.0 e s.devices (record {
          awaited = found_awaits d from s.devices e found;
          told = subst (λ y. P.told d from y) keys.1 (tells d from r (i.before (seizing_before s.phase is)) (tells_at c s a d from r i.plan says));
        }) ((plan_so s i.plan).low n (next_among s.plan.cluster s.promises s.plan.nodes e e.kind r n next))
            (next_among s.plan.cluster s.promises s.plan.nodes e e.kind r n next, next_path s.plan.cluster s.promises s.plan.nodes e e.kind r n next) (only_one d from s.devices e i.rests.apart found) i.rests.entries;
        apart = mapped_apart (with_next d n) (next_same d n) s.devices i.rests.apart;
      };
  seizing = λ s is e k. k.rests;
  short = λ s e is all few k. over_so P s k.rests;
  others = λ s is all enough some k. record {
    early = λ e. absurd (no_others e);
    past = inr (inr (past_all P s SeizingVotes is no_votes votes_no k.rests));
    entries = both (EntryTold P s.plan s.promises) s.devices (plain_devices s) k.rests.entries
        (plains_told P s.plan s.promises s.devices s.plan.attached (past_all P s SeizingVotes is no_votes votes_no k.rests) (plan_so s k.plan).low (plan_so s k.plan).places);
    apart = others_apart s (plan_so s k.plan).apart k.rests.apart;
  };
  installs_at_once = λ s is all enough none k. record {
    early = λ e. absurd (no_installing e);
    past = inr (inr (past_all P s SeizingVotes is no_votes votes_no k.rests));
    entries = k.rests.entries;
    apart = k.rests.apart;
  };
  installs = λ s is all k. record {
    early = λ e. absurd (no_installing e);
    past = inr (inr (past_all P s SeizingOthers is no_others others_no k.rests));
    entries = k.rests.entries;
    apart = k.rests.apart;
  };
  ready = λ s from m is at of body i. record { plan = i.plan; rests = record { early = i.rests.early; past = i.rests.past; entries = i.rests.entries; apart = i.rests.apart } };
  own = λ s is at i. record { plan = i.plan; rests = record { early = i.rests.early; past = i.rests.past; entries = i.rests.entries; apart = i.rests.apart } };
  installing = λ s at e k. k.rests;
  starts = λ s at e k. over_so P s k.rests;
}
  where
    plan_so : (s : AttemptState) → s.plan ≡ a.plan → Planned P s.plan
    plan_so s same = subst (λ (p : Plan). Planned P p) (sym same) planned

-- votes are given where they were asked for
votes_due : (a : AttemptState) (c : Call) → May a c → (both : BothVotes) → c ≡ With_votes both → a.phase ≡ Choosing
votes_due a c may both is = subst (λ k. May a k) is may

pub turn_told : (P : Fact) (a : AttemptState) (c : Call) → May a c → Planned P a.plan → Tells P a c → Rests P a → Rests P (turn a c).after
turn_told P a c may planned tells k =
    walks (AtRest P a c) (Within P a) (Ends P) a c (walk P a c planned tells) (record { plan = refl; before = λ b. b; may = votes_due a c may; rests = k })

pub first_told : (P : Fact) (p members : ℕ) (own : Message) (attached : List AttachedDevice) (cluster : ℕ)
    → Planned P (first_state p members own attached cluster (promises_of (promised_by own (shown_by own.sender own.body)))).plan → Rests P (beginning p members own attached cluster).after
unfolding beginning
first_told P p members own attached cluster planned =
    let s : AttemptState = first_state p members own attached cluster (promises_of (promised_by own (shown_by own.sender own.body))) in
    walks_begun Tick (AtRest P s Tick) (Within P s) (Ends P) (walk P s Tick planned (λ d from r before tells. absurd tells)) s refl
    (record { plan = refl; rests = record { early = λ e. refl; past = inl refl; entries = tt; apart = tt } })
