-- What is so while an event is under way, and gives the law in its end, gives the law of each event of a run of whole lines.
use Rattle.std.specs.Prelude.{ℕ, ◌≡◌, ◌++◌, List, [], ◌∷◌, Option, None, Some, is_some}
use Rattle.std.proofs.Common.{refl, ap, sym, subst, ◌∙◌, append-nil, inl, inr}
use Rattle.cl_base.specs.declared.header.Header.{Header}
use Rattle.cmm_attempt.proofs.Basics.{if_either}
use Rattle.history.specs.Moment.{Moment, Part, Said, Told}
use Rattle.history.specs.Order.{EachEvent, OfEvents}
use Rattle.node_model.specs.declared.cluster.Cluster.{Cluster}
use Rattle.node_model.specs.declared.input.Input.TheVariants as input
use Rattle.run_history.proofs.Lists.{both}
use Rattle.run_history.proofs.Reached.{Reached, reached_more}
use Rattle.run_history.specs.Happenings.{Happening, MayAllHappen, MayHappen, all_happened, happened}
use Rattle.run_history.specs.Happenings.Happening.{Arrives, Begins, Commands, Loses, Misses, Notes, Refuses, Repeats, Speaks, Strays, Takes, Writes}
use Rattle.run_history.specs.Rounds.{Progress}
use Rattle.run_history.specs.Scenes.{Scene, adding, first_scene}
use Rattle.run_history.specs.Shapes.{Due, IsDue, IsShaped, IsThis, Opens, ShapedFrom, Want, brings, due_after, nothing, opened, still}
use Rattle.run_history.specs.Shapes as want
use Rattle.run_lines.proofs.Adds.{entries_of_event, onto}
use Rattle.run_lines.proofs.Runs.{armed_moments, ready_of}
use Rattle.run_lines.specs.Entries.{IsEntry, IsOfEvent, IsReady}
use Rattle.schedule_text.specs.declared.event.Event.{Event}
use Rattle.schedule_text.specs.declared.line.Line.TheVariants as line
use Rattle.status_report.specs.declared.entry.Entry.TheVariants as entry
use Rattle.status_report.specs.declared.schedule_entry.ScheduleEntry.TheVariants as schedule
use Rattle.world_model.specs.Devices.{due_at}
use Rattle.world_model.specs.First.{first_cluster}
use Rattle.run_packets.specs.repeats.Events.{AlongRun}
use Rattle.run_packets.specs.waiting.Events.{AreWithin, Awaits, EventLaw, Goes, IsOpening, IsWithin, Meanwhile, Underway, Way}

-- ---- what is due

none_within : (wants : List Want) → wants ≡ [] → AreWithin wants
none_within wants none = subst AreWithin (sym none) tt

ready_within : (s : Scene) (wants : List Want) → IsReady s wants → AreWithin wants
ready_within s [] r = tt
ready_within s (want.Note e ∷ wants) r = (r.0, none_within wants r.1)
ready_within s (want.Take n input.CommandDue ∷ wants) r = subst AreWithin (sym r) tt
ready_within s (want.Take n input.Boot ∷ wants) r = none_within wants r.1
ready_within s (want.Take n input.Crash ∷ wants) r = none_within wants r.1
ready_within s (want.Take n input.Tick ∷ wants) r = none_within wants r.1
ready_within s (want.Take n (input.Packet from m) ∷ wants) r = none_within wants r.1
ready_within s (want.Take n (input.Answered a) ∷ wants) r = none_within wants r.1
ready_within s (want.Take n (input.Wrote d value a) ∷ wants) r = none_within wants r.1
ready_within s (want.Take n (input.Commanded words) ∷ wants) r = none_within wants r.1
ready_within s (want.Take n (input.Reported resource good) ∷ wants) r = none_within wants r.1
ready_within s (want.Take n (input.Client address client port) ∷ wants) r = none_within wants r.1
ready_within s (want.Deliver number x ∷ wants) r = none_within wants r
ready_within s (want.Miss number x ∷ wants) r = none_within wants r
ready_within s (want.Lose number x ∷ wants) r = none_within wants r
ready_within s (want.Repeat number x ∷ wants) r = none_within wants r
ready_within s (want.Command n ∷ wants) r = none_within wants r
ready_within s (want.Write n d value ∷ wants) r = none_within wants r
ready_within s (want.Refuse n d value why ∷ wants) r = none_within wants r

rest_within : (w : Want) (wants : List Want) → AreWithin (w ∷ wants) → AreWithin wants
rest_within (want.Note e) wants h = h.1
rest_within (want.Take n i) wants h = h
rest_within (want.Deliver number x) wants h = h
rest_within (want.Miss number x) wants h = h
rest_within (want.Lose number x) wants h = h
rest_within (want.Repeat number x) wants h = h
rest_within (want.Command n) wants h = h
rest_within (want.Write n d value) wants h = h
rest_within (want.Refuse n d value why) wants h = h

still_within : (t : Scene) (wants : List Want) → AreWithin wants → AreWithin (still t wants)
still_within t [] h = tt
still_within t (want.Command m ∷ wants) h = if_either AreWithin (is_some (due_at (Some (t.nodes.node m)))) (want.Command m ∷ wants) wants h h
still_within t (want.Note e ∷ wants) h = h
still_within t (want.Take m i ∷ wants) h = h
still_within t (want.Deliver number x ∷ wants) h = h
still_within t (want.Miss number x ∷ wants) h = h
still_within t (want.Lose number x ∷ wants) h = h
still_within t (want.Repeat number x ∷ wants) h = h
still_within t (want.Write m d value ∷ wants) h = h
still_within t (want.Refuse m d value why ∷ wants) h = h

this_within : (w : Want) (wants : List Want) (g : Happening) → IsThis w g → AreWithin (w ∷ wants) → IsWithin g
this_within (want.Note e) wants (Notes f) is h = subst (λ z. IsOfEvent (entry.Schedule z)) (sym is) h.0
this_within (want.Take n i) wants (Takes m now ends j) is h = tt
this_within (want.Deliver number x) wants (Arrives j y m now ends) is h = tt
this_within (want.Deliver number x) wants (Strays j y) is h = tt
this_within (want.Miss number x) wants (Misses j y) is h = tt
this_within (want.Lose number x) wants (Loses j y) is h = tt
this_within (want.Repeat number x) wants (Repeats j y) is h = tt
this_within (want.Command n) wants (Commands m d q now ends) is h = tt
this_within (want.Write n d value) wants (Writes m e v now ends) is h = tt
this_within (want.Refuse n d value why) wants (Refuses m e v v_why) is h = tt
this_within _ wants _ is h = absurd is

some_none : (w : Want) (ws : List Want) → w ∷ ws ≡ [] → ⊥
some_none w ws e = cc

onto_both : (xs ys before : List Moment) → onto (xs ++ ys) before ≡ onto ys (onto xs before)
onto_both [] ys before = refl
onto_both (x ∷ xs) ys before = onto_both xs ys (x ∷ before)

-- ---- an event

opened_so : (P : EventLaw) (first : Moment) (before entries : List Moment) → IsOpening first → P before first entries → OfEvents P [] before → OfEvents P entries (first ∷ before)
opened_so P (Said (line.Event e)) before entries opens here past = (here, past)
opened_so P (Part e) before entries opens here past = (here, past)
opened_so P _ before entries opens here past = absurd opens

module _ (c : Cluster) (F : Scene → Type 0) (J : Meanwhile) (P : EventLaw) (W : Way c F J P) where
  closes : (s : Scene) → F s → Underway F J P s → OfEvents P [] s.moments
  closes s known u =
      subst (λ ms. OfEvents P [] ms) u.is
      (entries_of_event P u.entries [] (u.first ∷ u.before.moments) u.are
      (subst (λ xs. OfEvents P xs (u.first ∷ u.before.moments)) (sym (append-nil u.entries))
      (opened_so P u.first u.before.moments u.entries u.opens (W.ends_so u.before s u.first u.entries u.known known u.is u.so) u.past)))

  past_of : (s : Scene) (wants : List Want) → F s → Awaits F J P s wants → OfEvents P [] s.moments
  past_of s wants known (inl u) = closes s known u
  past_of s wants known (inr rests) = rests.1

  goes_on : (s : Scene) (g : Happening) → IsWithin g → MayHappen c s g → F s → F (happened c s g) → Underway F J P s → Underway F J P (happened c s g)
  goes_on s g within may known next u =
      let t : Goes J u.before u.entries s (happened c s g) = W.step_so u.before s u.entries g within may known next u.so in
      record {
        before = u.before;
        first = u.first;
        opens = u.opens;
        entries = u.entries ++ t.adds.entries;
        are = both IsEntry u.entries t.adds.entries u.are t.adds.are;
        is = onto_both u.entries t.adds.entries (u.first ∷ u.before.moments) ∙ (ap (λ ms. onto t.adds.entries ms) u.is ∙ t.adds.is);
        known = u.known;
        past = u.past;
        so = t.so;
      }

  due_so : (s : Scene) (w : Want) (wants later : List Want) (g : Happening) → IsWithin g → MayHappen c s g → F s → F (happened c s g) → Awaits F J P s (w ∷ wants) → Awaits F J P (happened c s g) later
  due_so s w wants later g within may known next (inl u) = inl (goes_on s g within may known next u)
  due_so s w wants later g within may known next (inr rests) = absurd (some_none w wants rests.0)

  line_opens : (s : Scene) (e : Event) → F s → OfEvents P [] s.moments → Underway F J P (happened c s (Speaks e))
  line_opens s e known past = record {
    before = s;
    first = Said (line.Event e);
    opens = tt;
    entries = [];
    are = tt;
    is = sym (armed_moments c (adding (Said (line.Event e)) s) e);
    known = known;
    past = past;
    so = W.line_so s e known;
  }

  part_opens : (s : Scene) (e : Event) → F s → OfEvents P [] s.moments → Underway F J P (adding (Part e) s)
  part_opens s e known past = record { before = s; first = Part e; opens = tt; entries = []; are = tt; is = refl; known = known; past = past; so = W.part_so s e known }

  -- a line or a part opens an event; `rounds done` is no event's
  opens_so : (s : Scene) (rounds : Option Progress) (g : Happening) → F s → OfEvents P [] s.moments → Opens s rounds g → Awaits F J P (happened c s g) (opened c (happened c s g) rounds g).wants
  opens_so s None (Speaks e) known past opens = inl (line_opens s e known past)
  opens_so s (Some p) (Begins e) known past opens = inl (part_opens s e known past)
  opens_so s (Some p) (Notes e) known past opens = subst (λ z. Awaits F J P (happened c s (Notes z)) []) (sym opens.0) (inr (refl, (refl, past)))
  opens_so s _ _ known past opens = absurd opens

  opens_within : (s : Scene) (rounds : Option Progress) (g : Happening) → Opens s rounds g → AreWithin (opened c (happened c s g) rounds g).wants
  opens_within s None (Speaks e) opens = ready_within (happened c s (Speaks e)) (brings c (happened c s (Speaks e)) e) (ready_of c (happened c s (Speaks e)) e)
  opens_within s (Some p) (Begins e) opens = ready_within (adding (Part e) s) (brings c (adding (Part e) s) e) (ready_of c (adding (Part e) s) e)
  opens_within s (Some p) (Notes e) opens = tt
  opens_within s _ _ opens = absurd opens

  step_so : (s : Scene) (wants : List Want) (rounds : Option Progress) (g : Happening) → MayHappen c s g → F s → F (happened c s g) → IsDue s (record { wants = wants; rounds = rounds }) g → AreWithin wants → Awaits F J P s wants
      → Awaits F J P (happened c s g) (due_after c (happened c s g) (record { wants = wants; rounds = rounds }) g).wants
  step_so s [] rounds g may known next comes within k = opens_so s rounds g known (past_of s [] known k) comes
  step_so s (w ∷ wants) rounds g may known next comes within k = due_so s w wants (still (happened c s g) wants) g (this_within w wants g comes within) may known next k

  step_within : (s : Scene) (wants : List Want) (rounds : Option Progress) (g : Happening) → IsDue s (record { wants = wants; rounds = rounds }) g → AreWithin wants
      → AreWithin (due_after c (happened c s g) (record { wants = wants; rounds = rounds }) g).wants
  step_within s [] rounds g comes within = opens_within s rounds g comes
  step_within s (w ∷ wants) rounds g comes within = still_within (happened c s g) wants (rest_within w wants within)

-- ---- the run

-- the premise of all moments is one of those before
back_all : (c : Cluster) (C : List Moment → Type 0) → ((s : Scene) (g : Happening) → MayHappen c s g → C (happened c s g).moments → C s.moments) → (hs : List Happening) (s : Scene) → MayAllHappen c s hs
    → C (all_happened c s hs).moments → C s.moments
back_all c C back [] s may h = h
back_all c C back (g ∷ hs) s may h = back s g may.0 (back_all c C back hs (happened c s g) may.1 h)

along_first : (F : Scene → Type 0) (c : Cluster) (s : Scene) (hs : List Happening) → AlongRun F c s hs → F s
along_first F c s [] known = known
along_first F c s (g ∷ hs) known = known.0

run_so : (h : Header) (cells : ℕ) (C : List Moment → Type 0) (F : Scene → Type 0) (J : Meanwhile) (P : EventLaw) → Way (first_cluster h) F J P
    → ((s : Scene) (g : Happening) → MayHappen (first_cluster h) s g → C (happened (first_cluster h) s g).moments → C s.moments)
    → ((s : Scene) → Reached (first_cluster h) (first_scene h cells) s → C s.moments → F s) → (hs : List Happening) (s : Scene) (d : Due) → Reached (first_cluster h) (first_scene h cells) s
    → MayAllHappen (first_cluster h) s hs → ShapedFrom (first_cluster h) s d hs nothing → C (all_happened (first_cluster h) s hs).moments → AreWithin d.wants → Awaits F J P s d.wants
    → EachEvent P (all_happened (first_cluster h) s hs).moments
run_so h cells C F J P W back known [] s d r may shaped all within k = past_of (first_cluster h) F J P W s d.wants (known s r all) k
run_so h cells C F J P W back known (g ∷ hs) s d r may shaped all within k =
    let c : Cluster = first_cluster h in
    let more : Reached c (first_scene h cells) (happened c s g) = reached_more c (first_scene h cells) s g r may.0 in
    let here : C s.moments = back_all c C back (g ∷ hs) s may all in
    let there : C (happened c s g).moments = back_all c C back hs (happened c s g) may.1 all in
    run_so h cells C F J P W back known hs (happened c s g) (due_after c (happened c s g) d g) more may.1 shaped.1 all (step_within c F J P W s d.wants d.rounds g shaped.0 within)
    (step_so c F J P W s d.wants d.rounds g may.0 (known s r here) (known (happened c s g) more there) shaped.0 within k)

first_awaits : (h : Header) (cells : ℕ) (F : Scene → Type 0) (J : Meanwhile) (P : EventLaw) → Awaits F J P (first_scene h cells) []
unfolding first_scene
first_awaits h cells F J P = inr (refl, refl)

pub each_of_run : (h : Header) (cells : ℕ) (C : List Moment → Type 0) (F : Scene → Type 0) (J : Meanwhile) (P : EventLaw) → Way (first_cluster h) F J P
    → ((s : Scene) (g : Happening) → MayHappen (first_cluster h) s g → C (happened (first_cluster h) s g).moments → C s.moments)
    → ((s : Scene) → Reached (first_cluster h) (first_scene h cells) s → C s.moments → F s) → (hs : List Happening)
    → MayAllHappen (first_cluster h) (first_scene h cells) hs → IsShaped (first_cluster h) (first_scene h cells) hs → C (all_happened (first_cluster h) (first_scene h cells) hs).moments
    → EachEvent P (all_happened (first_cluster h) (first_scene h cells) hs).moments
each_of_run h cells C F J P W back known hs may shaped all =
    run_so h cells C F J P W back known hs (first_scene h cells) nothing (record { happenings = []; may = tt; is = refl }) may shaped all tt (first_awaits h cells F J P)

-- .. where F is known along the run
run_along : (h : Header) (cells : ℕ) (F : Scene → Type 0) (J : Meanwhile) (P : EventLaw) → Way (first_cluster h) F J P → (hs : List Happening) (s : Scene) (d : Due) → MayAllHappen (first_cluster h) s hs
    → ShapedFrom (first_cluster h) s d hs nothing → AlongRun F (first_cluster h) s hs → AreWithin d.wants → Awaits F J P s d.wants → EachEvent P (all_happened (first_cluster h) s hs).moments
run_along h cells F J P W [] s d may shaped known within k = past_of (first_cluster h) F J P W s d.wants known k
run_along h cells F J P W (g ∷ hs) s d may shaped known within k =
    let c : Cluster = first_cluster h in
    run_along h cells F J P W hs (happened c s g) (due_after c (happened c s g) d g) may.1 shaped.1 known.1 (step_within c F J P W s d.wants d.rounds g shaped.0 within)
    (step_so c F J P W s d.wants d.rounds g may.0 known.0 (along_first F c (happened c s g) hs known.1) shaped.0 within k)

pub each_along_run : (h : Header) (cells : ℕ) (F : Scene → Type 0) (J : Meanwhile) (P : EventLaw) → Way (first_cluster h) F J P → (hs : List Happening) → MayAllHappen (first_cluster h) (first_scene h cells) hs
    → IsShaped (first_cluster h) (first_scene h cells) hs → AlongRun F (first_cluster h) (first_scene h cells) hs → EachEvent P (all_happened (first_cluster h) (first_scene h cells) hs).moments
each_along_run h cells F J P W hs may shaped known = run_along h cells F J P W hs (first_scene h cells) nothing may shaped known tt (first_awaits h cells F J P)

-- what is so of each event by one definition is so by another
pub events_so : (P Q : List Moment → Moment → List Moment → Type 0) → ((before : List Moment) (x : Moment) (entries : List Moment) → P before x entries → Q before x entries)
    → (later ms : List Moment) → OfEvents P later ms → OfEvents Q later ms
events_so P Q f later [] h = h
events_so P Q f later (Said l ∷ ms) h = (f ms (Said l) later h.0, events_so P Q f [] ms h.1)
events_so P Q f later (Part e ∷ ms) h = (f ms (Part e) later h.0, events_so P Q f [] ms h.1)
events_so P Q f later (Told (entry.Schedule schedule.RoundsDone) ∷ ms) h = (h.0, events_so P Q f [] ms h.1)
events_so P Q f later (Told e ∷ ms) h = events_so P Q f (Told e ∷ later) ms h
