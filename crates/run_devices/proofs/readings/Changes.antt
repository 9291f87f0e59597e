-- What a node saves, and the lines of it.
use Rattle.std.specs.Prelude.{Bool, List, None, Option, Some, [], false, flat_map, true, ℕ, ◌&&◌, ◌++◌, ◌+◌, ◌<◌, ◌==◌, ◌∷◌, ◌≡◌, ◌≤◌, ◌⊎◌}
use Rattle.std.proofs.Common.{ap, arith, inl, inr, refl, subst, sym, ◌∙◌}
use Rattle.cl_base.specs.Limits.{most_nodes}
use Rattle.cl_base.specs.Numbers.{numbers_to}
use Rattle.cl_base.specs.declared.header.Header.{Header}
use Rattle.cmm_attempt.proofs.Basics.{and_cases, if_either, or_cases, same_number}
use Rattle.cmm_attempt.specs.Attempts.{AttemptState}
use Rattle.cmm_member.specs.Records.{NodeRecord}
use Rattle.history.specs.Letters.{passes}
use Rattle.history.specs.Member.{in_collect, promised_to}
use Rattle.history.specs.Member as member
use Rattle.history.specs.Moment.{Moment, Told}
use Rattle.history.specs.Names.{named, same_name}
use Rattle.history.specs.Names as name
use Rattle.history.specs.Seizing.{left_from, progress_of}
use Rattle.history.specs.Trace.{installed}
use Rattle.node_model.specs.Attempts.{adopted_line, adopted_lines, adopted_of, adopted_on, base_lines, is_adopted}
use Rattle.node_model.specs.Configurations.{in_force}
use Rattle.node_model.specs.Entries.{unknown_line, unknown_lines}
use Rattle.node_model.specs.Seats.{session_of}
use Rattle.node_model.specs.declared.cluster.Cluster.{Cluster}
use Rattle.node_model.specs.declared.node.Node.TheVariants.{Up}
use Rattle.node_model.specs.declared.node.UpNode.{UpNode}
use Rattle.node_model.specs.declared.output.Output.{Output}
use Rattle.node_model.specs.declared.output.Output.TheVariants.{Sends, Tells}
use Rattle.node_model.specs.declared.presidency.Presidency.{Presidency}
use Rattle.refinement.specs.Doings.{Site, adopted_by, site, superseded_lines}
use Rattle.refinement.specs.Runs.{Nodes}
use Rattle.refinement.specs.Ties.{Delivered}
use Rattle.refinement.specs.Worlds.{AllFit}
use Rattle.request_queue.specs.declared.request.Request.{Request}
use Rattle.rg_view.specs.States as states
use Rattle.run_history.proofs.Walk.{passing_append}
use Rattle.run_history.specs.Guards.{Hand}
use Rattle.run_history.specs.Scenes.{Scene, passing, telling}
use Rattle.status_report.specs.declared.entry.Entry.TheVariants as entry
use Rattle.status_report.specs.declared.node_entry.NodeEntry.TheVariants as note
use Rattle.wire.specs.declared.message.Body.{Body}
use Rattle.wire.specs.declared.message.Body.TheVariants as body
use Rattle.world_model.specs.Sends.{name_of}
use Rattle.run_seizings.proofs.Changes.{NoCollect, NotCollect, mid}
use Rattle.run_seizings.proofs.Progress.{if_not, no_truth, or_left, same_is}
use Rattle.run_seizings.proofs.Stays.{is_installed_stays}
use Rattle.run_seizings.proofs.Stills.{Still}
use Rattle.run_seizings.specs.Seized.{IsInstalled, has_installed}
use Rattle.run_devices.proofs.readings.Acts.{site_with, up_same}
use Rattle.run_devices.proofs.readings.Goes.{CanPass, Goes, can_append, goes_at, line_goes, outputs_go}
use Rattle.run_devices.proofs.readings.Stays.{site_stays}
use Rattle.run_devices.specs.readings.Readings.{AttemptIn}
use Rattle.run_devices.specs.readings.Sites.{InHand, UpSo}

-- ---- what is told when a change is saved

collect_not : (b : Body) → NotCollect b → same_name (named (name_of b)) name.Collect ≡ false
collect_not (body.Collect p members) is = absurd is
collect_not (body.Heartbeat promised session is_one) is = refl
collect_not (body.Promise p newest members valid flagged committed pending) is = refl
collect_not (body.Nack p promised) is = refl
collect_not (body.SeizeQuorum e members d) is = refl
collect_not (body.SeizeData e members d) is = refl
collect_not (body.Seized e d r) is = refl
collect_not (body.Install i) is = refl
collect_not (body.Ready p joined report) is = refl
collect_not (body.Start p) is = refl
collect_not (body.Prepare p place text) is = refl
collect_not (body.Prepared p place) is = refl
collect_not (body.Commit p place) is = refl
collect_not (body.Order o) is = refl
collect_not (body.Done p number outcome) is = refl
collect_not (body.Request p number text) is = refl
collect_not (body.Answer p number text) is = refl
collect_not (body.Excluded p newest) is = refl

pub in_no_collect : (h : Header) (ms : List Moment) (n : ℕ) (told : Delivered) → NoCollect told → InHand h ms n told → in_collect n ms ≡ false
in_no_collect h ms n None calm hand = ap (λ o. passes (λ l. same_name l.name name.Collect && (l.to == n)) o) hand
in_no_collect h ms n (Some d) calm hand =
    ap (λ o. passes (λ l. same_name l.name name.Collect && (l.to == n)) o) hand.here
    ∙ ap (λ b. b && (hand.letter.to == n)) (ap (λ z. same_name z name.Collect) hand.called ∙ collect_not d.1.body calm)

and_not : (a b : Bool) → b ≡ false → (a && b) ≡ false
and_not true b h = h
and_not false b h = refl

saved_still : (h : Header) (ms : List Moment) (n : ℕ) → in_collect n ms ≡ false → Still h ms n (Told (entry.Node n note.Saved))
saved_still h ms n calm = record {
  last = refl;
  session = if_not ((n == n) && in_collect n ms) (promised_to ms) (member.session_of n ms) (and_not (n == n) (in_collect n ms) calm);
  progress = λ e d. if_not ((n == n) && in_collect n ms) (left_from (progress_of h n e d ms)) (progress_of h n e d ms) (and_not (n == n) (in_collect n ms) calm);
  installs = λ e. refl;
}

pub mid_goes : (h : Header) (n : ℕ) (told : Delivered) (v w : Nodes) (x : Site) (g : Hand) (s : Scene) (b : Bool) → (b ≡ true → NoCollect told)
    → Goes h n told v w x g s → Goes h n told v w x g (passing n (mid b n) s)
mid_goes h n told v w x g s false calm k = k
mid_goes h n told v w x g s true calm k =
    line_goes h n told v w x x g s (entry.Node n note.Saved) tt (λ j ne same. ne (sym same)) tt
    (site_stays h s.moments (Told (entry.Node n note.Saved)) n x tt (saved_still h s.moments n (in_no_collect h s.moments n told (calm refl) k.hand)) k.here) k

-- ---- lines that change nothing

pub superseded_can : (h : Header) (before : List Moment) (n p : ℕ) (o : Option AttemptState) → CanPass h before n (superseded_lines p o)
superseded_can h before n p None = tt
superseded_can h before n p (Some a) = (tt, tt)

pub unknown_can : (h : Header) (before : List Moment) (n : ℕ) (rs : List Request) → CanPass h before n (unknown_lines n rs)
unknown_can h before n [] = tt
unknown_can h before n (r ∷ rs) = can_append h before n (unknown_line n r) (unknown_lines n rs)
    (if_either (λ os. CanPass h before n os) r.told _ [] (tt, tt) tt) (unknown_can h before n rs)

pub bases_can : (h : Header) (before : List Moment) (n e k : ℕ) (texts : List (List ℕ)) → CanPass h before n (base_lines e k texts)
bases_can h before n e k [] = tt
bases_can h before n e k (text ∷ texts) = (tt, bases_can h before n e (k + 1) texts)

each_can : {X : Type 0} (h : Header) (before : List Moment) (n : ℕ) (f : X → List Output) (xs : List X) → ((x : X) → CanPass h before n (f x))
    → CanPass h before n (flat_map f xs)
each_can h before n f [] k = tt
each_can h before n f (x ∷ xs) k = can_append h before n (f x) (flat_map f xs) (k x) (each_can h before n f xs k)

pub adopted_can : (h : Header) (before : List Moment) (n : ℕ) (c : Cluster) (a : AttemptState) (y : UpNode) → CanPass h before n (adopted_by c a y)
unfolding adopted_lines
adopted_can h before n c a y = by_presidency y.presidency
  where
    by_presidency : (o : Option Presidency) → CanPass h before n (adopted_of a.plan.epoch (in_force c y) o)
    by_presidency None = tt
    by_presidency (Some p) =
        each_can h before n (adopted_on a.plan.epoch p.groups.view (in_force c y).groups.resources) (numbers_to p.groups.view.members most_nodes)
        (λ m. each_can h before n (λ r. adopted_line a.plan.epoch m r.0 (states.state_of p.groups.view.resources r.0 m)) (in_force c y).groups.resources
        (λ r. if_either (λ os. CanPass h before n os) (is_adopted (states.state_of p.groups.view.resources r.0 m)) _ [] (tt, tt) tt))

pub fit_parts : (n : ℕ) (os more : List Output) → AllFit n (os ++ more) → AllFit n os × AllFit n more
fit_parts n [] more k = (tt, k)
fit_parts n (Tells e ∷ os) more k = fit_parts n os more k
fit_parts n (Sends to b ∷ os) more k =
    let rest : AllFit n os × AllFit n more = fit_parts n os more k.2 in
    ((k.0, k.1, rest.0), rest.1)

-- ---- a change that leaves the session

pub finished : (h : Header) (c : Cluster) (n : ℕ) (told : Delivered) (v w : Nodes) (x y : UpNode) (disk new : NodeRecord) (g : Hand) (os : List Output)
    (s : Scene) → disk.promised ≤ new.promised → AllFit n os → CanPass h s.moments n os
    → ((ms : List Moment) → InHand h ms n told → UpSo h ms n x → UpSo h ms n y) → Goes h n told v w (site (Up x) disk) g s
    → Goes h n told v w (site (Up y) new) g (passing n os s)
finished h c n told v w x y disk new g os s rises fit can up k =
    let t : Goes h n told v w (site (Up x) disk) g (passing n os s) = outputs_go h n told v w (site (Up x) disk) g os s fit can k in
    goes_at h n told v w (site (Up x) disk) (site (Up y) new) g g (passing n os s)
    (site_with h (passing n os s).moments n x y disk new rises (up (passing n os s).moments t.hand t.here.up) t.here) t.turn t

-- after the line that it was saved
pub simple : (h : Header) (c : Cluster) (n : ℕ) (told : Delivered) (v w : Nodes) (x y : UpNode) (disk new : NodeRecord) (g : Hand) (b : Bool) (os : List Output)
    (s : Scene) → disk.promised ≤ new.promised → (b ≡ true → NoCollect told) → AllFit n os
    → ((before : List Moment) → CanPass h before n os) → session_of y ≡ session_of x → y.tasks ≡ x.tasks → (y.attempt ≡ x.attempt) ⊎ (y.attempt ≡ None)
    → Goes h n told v w (site (Up x) disk) g s
    → Goes h n told v w (site (Up y) new) g (passing n (mid b n ++ os) s)
simple h c n told v w x y disk new g b os s rises calm fit can session tasks tries k =
    subst (λ t. Goes h n told v w (site (Up y) new) g t) (sym (passing_append n (mid b n) os s))
    (finished h c n told v w x y disk new g os (passing n (mid b n) s) rises fit (can (passing n (mid b n) s).moments) (λ ms hand up. by_tries ms up tries)
    (mid_goes h n told v w (site (Up x) disk) g s b calm k))
  where
    by_tries : (ms : List Moment) → UpSo h ms n x → (y.attempt ≡ x.attempt) ⊎ (y.attempt ≡ None) → UpSo h ms n y
    by_tries ms up (inl same) = up_same h ms n x y session tasks same up
    by_tries ms up (inr none) =
        let z : UpSo h ms n (record x { attempt = None }) = record { session = up.session; outside = up.outside; tasks = up.tasks; read = up.read; attempt = tt } in
        up_same h ms n (record x { attempt = None }) y session tasks none z

-- ---- an install

at_most : (a b d : ℕ) → a ≤ b → b ≤ d → a ≤ d
at_most a b d l m = omega (arith, l, m)

pub installs_go : (h : Header) (n e : ℕ) (told : Delivered) (v w : Nodes) (x y : UpNode) (disk new : NodeRecord) (g : Hand) (s : Scene)
    → disk.promised ≤ new.promised → e ≤ disk.promised → session_of y ≡ session_of x → e ≡ session_of x
    → (UpSo h s.moments n x → InHand h s.moments n told → IsInstalled (installed n e ∷ s.moments) e)
    → (UpSo h s.moments n x → InHand h s.moments n told → AttemptIn h (installed n e ∷ s.moments) n (session_of y) y.attempt)
    → Goes h n told v w (site (Up x) disk) g s → Goes h n told v w (site (Up y) new) g (telling (entry.Node n (note.Installed e)) s)
installs_go h n e told v w x y disk new g s rises low session at first tries k =
    line_goes h n told v w (site (Up x) disk) (site (Up y) new) g s (entry.Node n (note.Installed e)) tt (λ j ne same. ne (sym same)) tt
    (record {
      low = λ q is. by_one q (λ z. z ≤ new.promised) (or_cases ((n == n) && (e == q)) (has_installed n q s.moments) is)
          (at_most e disk.promised new.promised low rises) (λ old. at_most q disk.promised new.promised (k.here.low q old) rises);
      first = λ q is. by_one q (λ z. IsInstalled (installed n e ∷ s.moments) z) (or_cases ((n == n) && (e == q)) (has_installed n q s.moments) is)
          (first k.here.up k.hand)
          (λ old. is_installed_stays s.moments (installed n e) q (k.here.first q old));
      unseen = λ q d above. k.here.unseen q d (below disk.promised new.promised q rises above);
      up = record {
        session = λ some. k.here.up.session (subst (λ q. 0 < q) session some) ∙ ap Some (sym session);
        outside = λ is. k.here.up.outside (sym session ∙ is);
        tasks = λ none. absurd (no_truth (sym none ∙ installed_now (session_of y) (at ∙ sym session)));
        read = λ some none. absurd (no_truth (sym none ∙ installed_now (session_of y) (at ∙ sym session)));
        attempt = tries k.here.up k.hand;
      };
    }) k
  where
    below : (a b q : ℕ) → a ≤ b → b < q → a < q
    below a b q l m = omega (arith, l, m)

    by_one : (q : ℕ) (P : ℕ → Type 0) → (((n == n) && (e == q)) ≡ true) ⊎ (has_installed n q s.moments ≡ true) → P e → (has_installed n q s.moments ≡ true → P q) → P q
    by_one q P (inl now) p f = subst P (same_number e q (and_cases (n == n) (e == q) now).1) p
    by_one q P (inr old) p f = f old

    installed_now : (q : ℕ) → e ≡ q → has_installed n q (installed n e ∷ s.moments) ≡ true
    installed_now q same = or_left ((n == n) && (e == q)) (has_installed n q s.moments)
        (same_two (n == n) (e == q) (same_is n) (subst (λ z. (e == z) ≡ true) same (same_is e)))
      where
        same_two : (a b : Bool) → a ≡ true → b ≡ true → (a && b) ≡ true
        same_two true b i j = j
        same_two false b i j = absurd (no_truth i)
