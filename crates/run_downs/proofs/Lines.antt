-- What the outputs of a node make of the calls that are left to each stop, and of what each moment keeps to.
use Rattle.std.specs.Prelude.{ℕ, ◌==◌, ◌≡◌, ◌≢◌, ◌++◌, ◌||◌, Bool, true, false, List, [], ◌∷◌, Option, None, Some}
use Rattle.std.specs.List.{list_any}
use Rattle.std.proofs.Common.{refl, sym, ap, subst, ◌∙◌, arith}
use Rattle.cl_base.specs.declared.packet.DropCause.{DropCause}
use Rattle.cl_base.specs.declared.panic.Panic.TheVariants as panic
use Rattle.cmm_attempt.proofs.Basics.{if_either}
use Rattle.history.specs.Downs.{StopsWhereDue, after_four, are_four, calls_left, stop_due, stops_here, stops_next}
use Rattle.history.specs.Moment.{Moment, Told}
use Rattle.history.specs.Order.{Always, so_far, under_way}
use Rattle.interconnect.specs.Links as net
use Rattle.interconnect.specs.Links.{sending}
use Rattle.node_model.specs.declared.output.Output.{Output}
use Rattle.node_model.specs.declared.output.Output.TheVariants.{Tells, Sends}
use Rattle.schedule_text.specs.declared.event.Event.{Event}
use Rattle.schedule_text.specs.declared.event.Event.TheVariants as event
use Rattle.status_report.specs.declared.entry.Entry.{Entry}
use Rattle.status_report.specs.declared.entry.Entry.TheVariants as entry
use Rattle.status_report.specs.declared.node_entry.DownCause.TheVariants as cause
use Rattle.status_report.specs.declared.node_entry.NodeEntry.TheVariants as note
use Rattle.status_report.specs.declared.packet_entry.PacketEntry.{PacketEntry}
use Rattle.status_report.specs.declared.packet_entry.PacketEntry.TheVariants as packet
use Rattle.wire.specs.Spelling.{spelling}
use Rattle.wire.specs.declared.message.Message.{Message}
use Rattle.world_model.specs.Sends.{is_sent, name_of}
use Rattle.run_history.specs.Scenes.{Scene, dropped_so, passing, posting, sent_as, telling, with_links}
use Rattle.run_history.proofs.Idle.{if_false, if_true}
use Rattle.run_downs.specs.Calls.{AllSteady, AreFine, GoesSo, IsFine, IsSteady, Passed, left_by, left_by_all}
use Rattle.run_downs.specs.Laws.{IsInOwnEvent, comes_to, is_of}

is_same : (m n : ℕ) → m ≡ n → (m == n) ≡ true
is_same m n e = grind arith

is_other : (m j n : ℕ) → m ≡ n → j ≢ n → (m == j) ≡ false
is_other m j n e ne = grind arith

pub none_comes : (ms : List Moment) (x : Moment) → stop_due ms ≡ None → StopsWhereDue (stop_due ms) x
none_comes ms x due = subst (λ o. StopsWhereDue o x) (sym due) tt

-- ---- one line

-- a line of node n after these moments
record Line (n : ℕ) (k : Option ℕ) (ms : List Moment) (x : Moment) : Type 0 where
  so : GoesSo ms x
  left : calls_left n (x ∷ ms) ≡ k
  others : (j : ℕ) → j ≢ n → calls_left j (x ∷ ms) ≡ calls_left j ms
  due : stop_due (x ∷ ms) ≡ None
  here : stops_here n (x ∷ ms) ≡ stops_next n (x ∷ ms)

saved_line : (n m : ℕ) (k : Option ℕ) (ms : List Moment) → m ≡ n → are_four k ≡ false → IsInOwnEvent n ms → calls_left n ms ≡ k → stop_due ms ≡ None
    → Line n (after_four k) ms (Told (entry.Node m note.Saved))
saved_line n m k ms own far event left due = record {
  so = record {
    boots = tt;
    crashes = tt;
    fences = tt;
    stops = subst (λ j. stops_next j ms ≡ false) (sym own) (ap are_four left ∙ far);
    saves = subst (λ j. IsInOwnEvent j ms) (sym own) event;
    comes = none_comes ms (Told (entry.Node m note.Saved)) due;
  };
  left = if_true (m == n) (after_four (calls_left n ms)) (calls_left n ms) (is_same m n own) ∙ ap after_four left;
  others = λ j ne. if_false (m == j) (after_four (calls_left j ms)) (calls_left j ms) (is_other m j n own ne);
  due = refl;
  here = refl;
}

stopped_line : (n m : ℕ) (k : Option ℕ) (ms : List Moment) → m ≡ n → are_four k ≡ true → IsInOwnEvent n ms → calls_left n ms ≡ k → stop_due ms ≡ None → stops_here n ms ≡ stops_next n ms
    → Line n None ms (Told (entry.Node m (note.Down cause.Stopped)))
stopped_line n m k ms own near event left due here = record {
  so = record {
    boots = tt;
    crashes = tt;
    fences = tt;
    stops = subst (λ j. stops_here j ms ≡ true) (sym own) (here ∙ (ap are_four left ∙ near));
    saves = subst (λ j. IsInOwnEvent j ms) (sym own) event;
    comes = none_comes ms (Told (entry.Node m (note.Down cause.Stopped))) due;
  };
  left = if_true (m == n) None (calls_left n ms) (is_same m n own);
  others = λ j ne. if_false (m == j) None (calls_left j ms) (is_other m j n own ne);
  due = refl;
  here = refl;
}

-- a line that says nothing of stops
other_line : (n : ℕ) (k : Option ℕ) (ms : List Moment) (x : Moment) → (StopsWhereDue (stop_due ms) x → GoesSo ms x) → ((j : ℕ) → calls_left j (x ∷ ms) ≡ calls_left j ms) → stop_due (x ∷ ms) ≡ None
    → stops_here n (x ∷ ms) ≡ stops_next n (x ∷ ms) → calls_left n ms ≡ k → stop_due ms ≡ None → Line n k ms x
other_line n k ms x so same none at left due =
    record { so = so (none_comes ms x due); left = same n ∙ left; others = λ j ne. same j; due = none; here = at }

told_line : (n : ℕ) (may : Bool) (k : Option ℕ) (e : Entry) (ms : List Moment) → IsFine n may k (Tells e) → (may ≡ true → IsInOwnEvent n ms) → calls_left n ms ≡ k → stop_due ms ≡ None → stops_here n ms ≡ stops_next n ms
    → Line n (left_by k (Tells e)) ms (Told e)
told_line n may k (entry.Node m note.Up) ms fine owns left due here = absurd fine
told_line n may k (entry.Node m note.Saved) ms fine owns left due here = saved_line n m k ms fine.0 fine.1 (owns fine.2) left due
told_line n may k (entry.Node m (note.Down cause.Stopped)) ms fine owns left due here = stopped_line n m k ms fine.0 fine.1 (owns fine.2) left due here
told_line n may k (entry.Node m (note.Down cause.Crash)) ms fine owns left due here = absurd fine
told_line n may k (entry.Node m (note.Down (cause.Panic (panic.Fenced d)))) ms fine owns left due here = absurd fine
told_line n may k (entry.Node m (note.Down (cause.Panic (panic.Excluded f)))) ms fine owns left due here =
    other_line n k ms (Told (entry.Node m (note.Down (cause.Panic (panic.Excluded f))))) (λ c. record { boots = tt; crashes = tt; fences = tt; stops = tt; saves = tt; comes = c }) (λ j. refl) refl refl left due
told_line n may k (entry.Node m (note.Down (cause.Panic panic.Disk))) ms fine owns left due here =
    other_line n k ms (Told (entry.Node m (note.Down (cause.Panic panic.Disk)))) (λ c. record { boots = tt; crashes = tt; fences = tt; stops = tt; saves = tt; comes = c }) (λ j. refl) refl refl left due
told_line n may k (entry.Node m (note.Down (cause.Panic (panic.Stop r)))) ms fine owns left due here =
    other_line n k ms (Told (entry.Node m (note.Down (cause.Panic (panic.Stop r))))) (λ c. record { boots = tt; crashes = tt; fences = tt; stops = tt; saves = tt; comes = c }) (λ j. refl) refl refl left due
told_line n may k (entry.Node m note.Ticked) ms fine owns left due here =
    other_line n k ms (Told (entry.Node m note.Ticked)) (λ c. record { boots = tt; crashes = tt; fences = tt; stops = tt; saves = tt; comes = c }) (λ j. refl) refl refl left due
told_line n may k (entry.Node m (note.Installed e)) ms fine owns left due here =
    other_line n k ms (Told (entry.Node m (note.Installed e))) (λ c. record { boots = tt; crashes = tt; fences = tt; stops = tt; saves = tt; comes = c }) (λ j. refl) refl refl left due
told_line n may k (entry.Node m (note.Member e)) ms fine owns left due here =
    other_line n k ms (Told (entry.Node m (note.Member e))) (λ c. record { boots = tt; crashes = tt; fences = tt; stops = tt; saves = tt; comes = c }) (λ j. refl) refl refl left due
told_line n may k _ ms fine owns left due here =
    other_line n k ms _ (λ c. record { boots = tt; crashes = tt; fences = tt; stops = tt; saves = tt; comes = c }) (λ j. refl) refl refl left due

-- ---- packets, and whatever else says nothing of stops

-- the moments after say no more of stops than those before
pub record Stays (before after : List Moment) : Type 0 where
  pub so : stop_due before ≡ None → Always GoesSo before → Always GoesSo after
  pub calls : (j : ℕ) → calls_left j after ≡ calls_left j before
  pub due : stop_due before ≡ None → stop_due after ≡ None
  pub here : (j : ℕ) → stops_here j before ≡ stops_next j before → stops_here j after ≡ stops_next j after

pub stays_same : (ms : List Moment) → Stays ms ms
stays_same ms = record { so = λ due so. so; calls = λ j. refl; due = λ due. due; here = λ j h. h }

pub stays_then : (a b c : List Moment) → Stays a b → Stays b c → Stays a c
stays_then a b c h k = record {
  so = λ due so. k.so (h.due due) (h.so due so);
  calls = λ j. k.calls j ∙ h.calls j;
  due = λ due. k.due (h.due due);
  here = λ j e. k.here j (h.here j e);
}

-- .. by one moment
pub stays_by : (x : Moment) (ms : List Moment) → (StopsWhereDue (stop_due ms) x → GoesSo ms x) → ((j : ℕ) → calls_left j (x ∷ ms) ≡ calls_left j ms) → stop_due (x ∷ ms) ≡ None
    → ((j : ℕ) → stops_here j (x ∷ ms) ≡ stops_next j (x ∷ ms)) → Stays ms (x ∷ ms)
stays_by x ms goes same none at = record { so = λ due so. (goes (none_comes ms x due), so); calls = same; due = λ due. none; here = λ j h. at j }

pub packet_stays : (e : PacketEntry) (ms : List Moment) → Stays ms (Told (entry.Packet e) ∷ ms)
packet_stays e ms = stays_by (Told (entry.Packet e)) ms (λ c. record { boots = tt; crashes = tt; fences = tt; stops = tt; saves = tt; comes = c }) (λ j. refl) refl (λ j. refl)

pub dropped_stays : (o : Option (ℕ × DropCause)) (s : Scene) → Stays s.moments (dropped_so o s).moments
dropped_stays None s = stays_same s.moments
dropped_stays (Some x) s = packet_stays (packet.Dropped x.0 x.1) s.moments

posted_stays : (from to : ℕ) (m : Message) (s : Scene) → Stays s.moments (posting from to m s).moments
posted_stays from to m s =
    let o : net.Outcome = sending s.links from to (spelling m) in
    let e : PacketEntry = packet.Sent s.links.next from to (name_of m.body) (spelling m) in
    let t : Scene = telling (entry.Packet e) (with_links s o.after) in
    if_either (λ (z : Scene). Stays s.moments z.moments) (is_sent s.links m) (sent_as from to m o s) s
    (stays_then s.moments t.moments (dropped_so o.sent.dropped t).moments (packet_stays e s.moments) (dropped_stays o.sent.dropped t)) (stays_same s.moments)

-- ---- an event of the node's own stays so

or_second : (a b : Bool) → b ≡ true → (a || b) ≡ true
or_second true b h = refl
or_second false b h = h

pub own_more : (n : ℕ) (e : Option Event) (x : Moment) (here : List Moment) → is_of n e here ≡ true → is_of n e (x ∷ here) ≡ true
own_more n (Some (event.Deliver p)) x here h = or_second (comes_to n x) (list_any (comes_to n) here) h
own_more n (Some (event.Next from to)) x here h = or_second (comes_to n x) (list_any (comes_to n) here) h
own_more n _ x here h = h

told_own : (n : ℕ) (e : Entry) (ms : List Moment) → IsInOwnEvent n ms → IsInOwnEvent n (Told e ∷ ms)
told_own n e ms h = own_more n (under_way ms) (Told e) (so_far ms) h

dropped_own : (n : ℕ) (o : Option (ℕ × DropCause)) (s : Scene) → IsInOwnEvent n s.moments → IsInOwnEvent n (dropped_so o s).moments
dropped_own n None s h = h
dropped_own n (Some x) s h = told_own n (entry.Packet (packet.Dropped x.0 x.1)) s.moments h

posted_own : (n from to : ℕ) (m : Message) (s : Scene) → IsInOwnEvent n s.moments → IsInOwnEvent n (posting from to m s).moments
posted_own n from to m s h =
    let o : net.Outcome = sending s.links from to (spelling m) in
    let e : Entry = entry.Packet (packet.Sent s.links.next from to (name_of m.body) (spelling m)) in
    if_either (λ (z : Scene). IsInOwnEvent n z.moments) (is_sent s.links m) (sent_as from to m o s) s
    (dropped_own n o.sent.dropped (telling e (with_links s o.after)) (told_own n e s.moments h)) h

-- ---- all outputs of a node

pub passing_fine : (n : ℕ) (may : Bool) (k : Option ℕ) (os : List Output) (s : Scene) → AreFine n may k os → (may ≡ true → IsInOwnEvent n s.moments) → calls_left n s.moments ≡ k
    → stop_due s.moments ≡ None → stops_here n s.moments ≡ stops_next n s.moments → Always GoesSo s.moments → Passed n (left_by_all k os) s.moments (passing n os s).moments
passing_fine n may k [] s fine owns left due here so = record { so = so; left = left; others = λ j ne. refl; due = due }
passing_fine n may k (Tells e ∷ os) s fine owns left due here so =
    let l : Line n (left_by k (Tells e)) s.moments (Told e) = told_line n may k e s.moments fine.0 owns left due here in
    let p : Passed n (left_by_all (left_by k (Tells e)) os) (Told e ∷ s.moments) (passing n os (telling e s)).moments =
    passing_fine n may (left_by k (Tells e)) os (telling e s) fine.1 (λ y. told_own n e s.moments (owns y)) l.left l.due l.here (l.so, so) in
    record { so = p.so; left = p.left; others = λ j ne. p.others j ne ∙ l.others j ne; due = p.due }
passing_fine n may k (Sends to b ∷ os) s fine owns left due here so =
    let m : Message = record { sender = n; body = b } in
    let t : Scene = posting n to m s in
    let h : Stays s.moments t.moments = posted_stays n to m s in
    let p : Passed n (left_by_all k os) t.moments (passing n os t).moments =
    passing_fine n may k os t fine.1 (λ y. posted_own n n to m s (owns y)) (h.calls n ∙ left) (h.due due) (h.here n here) (h.so due so) in
    record { so = p.so; left = p.left; others = λ j ne. p.others j ne ∙ h.calls j; due = p.due }

-- ---- steady outputs

steady_fine : (n : ℕ) (may : Bool) (k : Option ℕ) (o : Output) → IsSteady o → IsFine n may k o
steady_fine n may k (Tells (entry.Node m note.Up)) h = absurd h
steady_fine n may k (Tells (entry.Node m note.Saved)) h = absurd h
steady_fine n may k (Tells (entry.Node m (note.Down why))) h = absurd h
steady_fine n may k _ h = tt

steady_left : (k : Option ℕ) (o : Output) → IsSteady o → left_by k o ≡ k
steady_left k (Tells (entry.Node m note.Up)) h = absurd h
steady_left k (Tells (entry.Node m note.Saved)) h = absurd h
steady_left k (Tells (entry.Node m (note.Down why))) h = absurd h
steady_left k _ h = refl

-- .. and what follows them
pub steady_then : (n : ℕ) (may : Bool) (k : Option ℕ) (os more : List Output) → AllSteady os → AreFine n may k more → AreFine n may k (os ++ more)
steady_then n may k [] more h fine = fine
steady_then n may k (o ∷ os) more h fine = (steady_fine n may k o h.0, subst (λ j. AreFine n may j (os ++ more)) (sym (steady_left k o h.0)) (steady_then n may k os more h.1 fine))

pub steady_leaves : (k : Option ℕ) (os more : List Output) → AllSteady os → left_by_all k (os ++ more) ≡ left_by_all k more
steady_leaves k [] more h = refl
steady_leaves k (o ∷ os) more h = ap (λ j. left_by_all j (os ++ more)) (steady_left k o h.0) ∙ steady_leaves k os more h.1
