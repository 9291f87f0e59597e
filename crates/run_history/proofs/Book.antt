-- The book through the events of a membership's story: it starts, and its president proposes and acknowledges; each with its line, or lost.
use Rattle.std.specs.Prelude.{ℕ, ◌+◌, ◌≡◌, ◌≢◌, ◌<◌, ◌++◌, ◌==◌, Bool, true, false, List, [], ◌∷◌, length, slice_get, take, get_or, Some}
use Rattle.std.proofs.Common.{refl, sym, ap, subst, ◌∙◌, arith, take_all}
use Rattle.std.proofs.lemmas.List.{append-nil, get_or-append-add, length-append}
use Rattle.std.proofs.lemmas.Option.{get_or_from_slice_get, slice_get_read, slice_get_within}
use Rattle.history.specs.Deeds.{Acked, Deed, Proposed, Started, Update, acked_in, base_in, has_started, proposed_in}
use Rattle.history.specs.Placed.{IsAcked, IsProposed}
use Rattle.history.specs.Starts.{Start as Line}
use Rattle.machine_base.specs.Epochs.{coordinator}
use Rattle.machine_base.specs.Put.{put}
use Rattle.machine_base.proofs.Puts.{put_again}
use Rattle.membership_machine.specs.Events.{Acknowledge, Allowed, Crash, Event, Propose, Propose_lost, Start, after, at_both, at_node}
use Rattle.membership_machine.specs.Invariant.{Holds}
use Rattle.membership_machine.specs.State.{Epoch, Memberships, Node}
use Rattle.membership_machine.specs.Steps.{acknowledging, appending, committing, crashing, joining, proposing, starting}
use Rattle.membership_machine.specs.Votes.{Setting}
use Rattle.run_history.specs.Book.{Booked, Story, Tells, TellsAt, story}
use Rattle.run_history.proofs.Calm.{IsCalm, above_zero, at_both_told, calm, down_told, told_at}
use Rattle.run_history.proofs.Stories.{ack_told, ack_unlined, false_true, has_line, moved, propose_told, seated, start_told, start_unlined, true_false}

-- ---- stories

is_same : (p : ℕ) → (p == p) ≡ true
is_same p = grind arith

is_other : (p q : ℕ) → q ≢ p → (p == q) ≡ false
is_other p q ne = grind arith

started_other : (s : Line) (updates : List (List ℕ)) (ds : List Deed) (q : ℕ) → q ≢ s.epoch → story q (Started s updates ∷ ds) ≡ story q ds
started_other s updates ds q ne = rw (is_other s.epoch q ne) refl

proposed_other : (u : Update) (ds : List Deed) (q : ℕ) → q ≢ u.epoch → story q (Proposed u ∷ ds) ≡ story q ds
proposed_other u ds q ne = rw (is_other u.epoch q ne, append-nil (proposed_in q ds)) refl

acked_other : (u : Update) (ds : List Deed) (q : ℕ) → q ≢ u.epoch → story q (Acked u ∷ ds) ≡ story q ds
acked_other u ds q ne = rw (is_other u.epoch q ne, append-nil (acked_in q ds)) refl

started_here : (s : Line) (updates : List (List ℕ)) (ds : List Deed) → has_started s.epoch (Started s updates ∷ ds) ≡ true
started_here s updates ds = rw (is_same s.epoch) refl

base_here : (s : Line) (updates : List (List ℕ)) (ds : List Deed) → base_in s.epoch (Started s updates ∷ ds) ≡ updates
base_here s updates ds = rw (is_same s.epoch) refl

proposed_here : (u : Update) (ds : List Deed) → proposed_in u.epoch (Proposed u ∷ ds) ≡ proposed_in u.epoch ds ++ u.words ∷ []
proposed_here u ds = rw (is_same u.epoch) refl

acked_here : (u : Update) (ds : List Deed) → acked_in u.epoch (Acked u ∷ ds) ≡ acked_in u.epoch ds ++ u.words ∷ []
acked_here u ds = rw (is_same u.epoch) refl

-- ---- a start

-- the coordinator of p has its base, and nothing has started
record Starting (M : Memberships) (p : ℕ) : Type 0 where
  pub positive : 0 < p
  pub not : (M.epoch p).started ≡ false
  pub log : (M.epoch p).log ≡ (M.epoch p).base
  pub entries : (M.node (coordinator p)).saved.entries ≡ (M.epoch p).base

not_marked : (b : Bool) → (b ≡ true → ⊥) → b ≡ false
not_marked true h = absurd (h refl)
not_marked false h = refl

starting_at : (S : Setting) (M : Memberships) (p : ℕ) → Holds S M → Allowed S M (Start p) → Starting M p
starting_at S M p i a =
    let c : ℕ = coordinator p in
    let positive : 0 < p = (i.epoch p).tried_positive ((i.epoch p).counted_tried a.0) in
    let at : (M.node c).saved.installed ≡ p = omega (arith, (i.epoch p).counted_installed a.0, (i.node c).installed, (i.node c).session, a.1, positive) in
    let not : (M.epoch p).started ≡ false =
    not_marked (M.epoch p).started
    (λ h. true_false (sym ((i.leads c).sits (subst (λ f. 0 < f) (sym a.1) positive) (ap coordinator a.1) (subst (λ f. (M.epoch f).started ≡ true) (sym a.1) h)) ∙ a.2)) in
    let log : (M.epoch p).log ≡ (M.epoch p).base = (i.epoch p).unstarted_log not in
    let many : length (M.node c).saved.entries ≡ length (M.epoch p).base =
    (i.node c).installed_alone (subst (λ f. 0 < f) (sym a.1) positive) (a.1 ∙ sym at) a.2 ∙ ap (λ f. length (M.epoch f).base) at in
    record {
      positive = positive;
      not = not;
      log = log;
      entries = (i.node c).fits.entries ∙ (ap (λ f. take (length (M.node c).saved.entries) (M.epoch f).log) at
          ∙ (ap (λ xs. take (length (M.node c).saved.entries) xs) log ∙ take_all (length (M.node c).saved.entries) (M.epoch p).base (omega (arith, many))));
    }

-- no line has it yet
unlined : (M : Memberships) (p : ℕ) (ds : List Deed) → (M.epoch p).started ≡ false → TellsAt M p (story p ds) → has_started p ds ≡ false
unlined M p ds not h = not_marked (has_started p ds) (λ l. false_true (sym not ∙ (h.line l).0))

pub booked_start : (S : Setting) (M : Memberships) (s : Line) (updates : List (List ℕ)) (ds : List Deed) → Holds S M → Allowed S M (Start s.epoch)
    → updates ≡ (M.node (coordinator s.epoch)).saved.entries → Booked M ds → Booked (after M (Start s.epoch)) (Started s updates ∷ ds)
booked_start S M s updates ds i a same h = record { told = told; differ = (unlined M p ds k.not (h.told p), h.differ); placed = (tt, h.placed) }
  where
    p : ℕ
    p = s.epoch

    c : ℕ
    c = coordinator p

    k : Starting M p
    k = starting_at S M p i a

    here : Tells (starting (M.epoch p)) p (M.node c).session true (story p (Started s updates ∷ ds))
    here = start_told (M.epoch p) p (M.node c).session (M.node c).member (story p ds) true (story p (Started s updates ∷ ds)) k.not k.log (h.told p)
        (started_here s updates ds) (base_here s updates ds ∙ (same ∙ k.entries)) refl refl

    told : (q : ℕ) → TellsAt (after M (Start p)) q (story q (Started s updates ∷ ds))
    told q =
        at_both_told M c (joining (M.node c)) p (starting (M.epoch p)) q (story q ds) (story q (Started s updates ∷ ds)) refl (h.told q)
        (λ is. subst (λ j. Tells (starting (M.epoch p)) p (M.node c).session true (story j (Started s updates ∷ ds))) (sym is) here)
        (λ ne. started_other s updates ds q ne)
        (λ ne at. seated (M.epoch q) q (M.node c).session (M.node c).member (story q ds) true (λ m is. ne (sym is ∙ a.1)) (told_at M c q (story q ds) at (h.told q)))

-- the node of an event goes down at once
down_after : (M : Memberships) (c p : ℕ) (n m : Node) (e : Epoch) (q : ℕ) (t : Story) → TellsAt (at_both M c m p e) q t → TellsAt (at_node (at_both M c n p e) c m) q t
down_after M c p n m e q t h =
    subst (λ (x : Node). Tells (put M.epoch p e q) q x.session x.member t) (sym (put_again M.node c n m (coordinator q))) h

pub booked_start_lost : (S : Setting) (M : Memberships) (p : ℕ) (ds : List Deed) → Holds S M → Allowed S M (Start p) → Booked M ds
    → Booked (after (after M (Start p)) (Crash (coordinator p))) ds
booked_start_lost S M p ds i a h = record { told = told; differ = h.differ; placed = h.placed }
  where
    c : ℕ
    c = coordinator p

    k : Starting M p
    k = starting_at S M p i a

    told : (q : ℕ) → TellsAt (after (after M (Start p)) (Crash c)) q (story q ds)
    told q =
        down_after M c p (joining (M.node c)) (crashing (put M.node c (joining (M.node c)) c)) (starting (M.epoch p)) q (story q ds)
        (at_both_told M c (crashing (put M.node c (joining (M.node c)) c)) p (starting (M.epoch p)) q (story q ds) (story q ds) refl (h.told q)
        (λ is. subst (λ j. Tells (starting (M.epoch p)) p 0 false (story j ds)) (sym is) (start_unlined (M.epoch p) p (M.node c).session (M.node c).member (story p ds) k.positive k.not k.log (h.told p)))
        (λ ne. refl) (λ ne at. down_told S M q (story q ds) i (h.told q)))

-- ---- updates

-- a president in session q: what the machine has there
record Presiding (M : Memberships) (q : ℕ) (ds : List Deed) : Type 0 where
  pub started : (M.epoch q).started ≡ true
  pub entries : (M.node (coordinator q)).saved.entries ≡ (M.epoch q).log
  pub committed : (M.node (coordinator q)).saved.committed ≡ (M.epoch q).acked
  pub line : has_started q ds ≡ true
  pub base : base_in q ds ≡ (M.epoch q).base
  pub exact : (M.epoch q).acked ≡ length (M.epoch q).base + length (acked_in q ds)

presiding_at : (S : Setting) (M : Memberships) (q : ℕ) (ds : List Deed) → Holds S M → (M.node (coordinator q)).member ≡ true → (M.node (coordinator q)).session ≡ q → TellsAt M q (story q ds)
    → Presiding M q ds
presiding_at S M q ds i member session h =
    let c : ℕ = coordinator q in
    let started : (M.epoch q).started ≡ true = subst (λ f. (M.epoch f).started ≡ true) session ((i.node c).member_started member) in
    let installed : (M.node c).saved.installed ≡ q = sym ((i.node c).member_installed member) ∙ session in
    let many : length (M.node c).saved.entries ≡ length (M.epoch q).log = (i.leads c).log member (ap coordinator session) ∙ ap (λ f. length (M.epoch f).log) session in
    let line : has_started q ds ≡ true = has_line (M.epoch q) q (M.node c).session (M.node c).member (story q ds) started session h in
    record {
      started = started;
      entries = (i.node c).fits.entries ∙ (ap (λ f. take (length (M.node c).saved.entries) (M.epoch f).log) installed ∙ take_all (length (M.node c).saved.entries) (M.epoch q).log (omega (arith, many)));
      committed = (i.leads c).acked member (ap coordinator session) ∙ ap (λ f. (M.epoch f).acked) session;
      line = line;
      base = (h.line line).1;
      exact = h.exact member session;
    }

length_of : (whole base more : List (List ℕ)) → whole ≡ base ++ more → length whole ≡ length base + length more
length_of whole base more h = ap length h ∙ length-append base more

-- nothing is pending
no_more : (M : Memberships) (q : ℕ) (ds : List Deed) → Presiding M q ds → (M.node (coordinator q)).saved.committed ≡ length (M.node (coordinator q)).saved.entries
    → length (M.epoch q).log ≡ (M.epoch q).acked
no_more M q ds k all = sym (ap length k.entries) ∙ (sym all ∙ k.committed)

is_proposed : (S : Setting) (M : Memberships) (u : Update) (ds : List Deed) → Presiding M u.epoch ds → TellsAt M u.epoch (story u.epoch ds)
    → (M.node (coordinator u.epoch)).saved.committed ≡ length (M.node (coordinator u.epoch)).saved.entries
    → u.place ≡ length (M.node (coordinator u.epoch)).saved.entries + 1 → IsProposed ds u
is_proposed S M u ds k h all place =
    let q : ℕ = u.epoch in
    let many : length (M.epoch q).log ≡ length (M.epoch q).base + length (proposed_in q ds) = length_of (M.epoch q).log (M.epoch q).base (proposed_in q ds) h.log in
    let same : length (base_in q ds) ≡ length (M.epoch q).base = ap length k.base in
    let none : length (M.epoch q).log ≡ (M.epoch q).acked = no_more M q ds k all in
    let entries : length (M.node (coordinator q)).saved.entries ≡ length (M.epoch q).log = ap length k.entries in
    record {
      started = k.line;
      place = omega (arith, place, entries, many, same);
      none_pending = omega (arith, many, none, k.exact);
    }

told_proposed : (S : Setting) (M : Memberships) (u : Update) (ds : List Deed) → Holds S M → Presiding M u.epoch ds → (M.node (coordinator u.epoch)).member ≡ true
    → (M.node (coordinator u.epoch)).session ≡ u.epoch → (M.node (coordinator u.epoch)).saved.committed ≡ length (M.node (coordinator u.epoch)).saved.entries
    → TellsAt M u.epoch (story u.epoch ds)
    → Tells (proposing (M.epoch u.epoch) u.words) u.epoch (M.node (coordinator u.epoch)).session (M.node (coordinator u.epoch)).member (story u.epoch (Proposed u ∷ ds))
told_proposed S M u ds i k member session all h =
    propose_told (M.epoch u.epoch) u.epoch (M.node (coordinator u.epoch)).session (M.node (coordinator u.epoch)).member (story u.epoch ds) (story u.epoch (Proposed u ∷ ds)) u.words
    k.started member session (no_more M u.epoch ds k all) h refl refl (proposed_here u ds) refl

pub booked_propose : (S : Setting) (M : Memberships) (u : Update) (ds : List Deed) → Holds S M → Allowed S M (Propose u.epoch u.words)
    → u.place ≡ length (M.node (coordinator u.epoch)).saved.entries + 1 → Booked M ds → Booked (after M (Propose u.epoch u.words)) (Proposed u ∷ ds)
booked_propose S M u ds i a place h = record { told = told; differ = h.differ; placed = (is_proposed S M u ds k (h.told q) a.1 place, h.placed) }
  where
    q : ℕ
    q = u.epoch

    c : ℕ
    c = coordinator q

    k : Presiding M q ds
    k = presiding_at S M q ds i a.0.0 a.0.1 (h.told q)

    told : (r : ℕ) → TellsAt (after M (Propose q u.words)) r (story r (Proposed u ∷ ds))
    told r =
        at_both_told M c (appending (M.node c) q u.words) q (proposing (M.epoch q) u.words) r (story r ds) (story r (Proposed u ∷ ds)) refl (h.told r)
        (λ is. subst (λ j. Tells (proposing (M.epoch q) u.words) q (M.node c).session (M.node c).member (story j (Proposed u ∷ ds))) (sym is)
        (told_proposed S M u ds i k a.0.0 a.0.1 a.1 (h.told q)))
        (λ ne. proposed_other u ds r ne)
        (λ ne at. told_at M c r (story r ds) at (h.told r))

-- the proposal stands, and its president goes down before it is saved
pub booked_propose_lost : (S : Setting) (M : Memberships) (u : Update) (ds : List Deed) → Holds S M → Allowed S M (Propose_lost u.epoch u.words)
    → u.place ≡ length (M.node (coordinator u.epoch)).saved.entries + 1 → Booked M ds → Booked (after M (Propose_lost u.epoch u.words)) (Proposed u ∷ ds)
booked_propose_lost S M u ds i a place h = record { told = told; differ = h.differ; placed = (is_proposed S M u ds k (h.told q) a.1 place, h.placed) }
  where
    q : ℕ
    q = u.epoch

    c : ℕ
    c = coordinator q

    k : Presiding M q ds
    k = presiding_at S M q ds i a.0.0 a.0.1 (h.told q)

    above : 0 < q → 0 ≡ q → ⊥
    above l is = grind arith

    here : Tells (proposing (M.epoch q) u.words) q 0 false (story q (Proposed u ∷ ds))
    here = moved (proposing (M.epoch q) u.words) q (M.node c).session (M.node c).member (story q (Proposed u ∷ ds)) 0 false (λ m is. false_true m)
        (λ m is. above (above_zero S M q i k.started) is) (told_proposed S M u ds i k a.0.0 a.0.1 a.1 (h.told q))

    told : (r : ℕ) → TellsAt (after M (Propose_lost q u.words)) r (story r (Proposed u ∷ ds))
    told r =
        at_both_told M c (crashing (M.node c)) q (proposing (M.epoch q) u.words) r (story r ds) (story r (Proposed u ∷ ds)) refl (h.told r)
        (λ is. subst (λ j. Tells (proposing (M.epoch q) u.words) q 0 false (story j (Proposed u ∷ ds))) (sym is) here)
        (λ ne. proposed_other u ds r ne)
        (λ ne at. down_told S M r (story r ds) i (h.told r))

-- ---- acknowledgements

-- what stands behind the first part stands in the second
get_past : (xs ys : List (List ℕ)) (k : ℕ) (w : List ℕ) → slice_get (xs ++ ys) (length xs + k) ≡ Some w → slice_get ys k ≡ Some w
get_past xs ys k w h =
    let within : length xs + k < length (xs ++ ys) = slice_get_within (xs ++ ys) (length xs + k) w h in
    let read : get_or (xs ++ ys) (length xs + k) w ≡ w = get_or_from_slice_get (xs ++ ys) (length xs + k) w w h in
    slice_get_read ys (length ys) k w refl (omega (arith, within, length-append xs ys)) (sym read ∙ get_or-append-add xs ys k w)

-- what is pending at the president is the first that has no acknowledgement
is_acked : (S : Setting) (M : Memberships) (u : Update) (ds : List Deed) → Presiding M u.epoch ds → TellsAt M u.epoch (story u.epoch ds)
    → (M.node (coordinator u.epoch)).saved.committed + 1 ≡ length (M.node (coordinator u.epoch)).saved.entries
    → slice_get (M.node (coordinator u.epoch)).saved.entries (M.node (coordinator u.epoch)).saved.committed ≡ Some u.words
    → u.place ≡ length (M.node (coordinator u.epoch)).saved.entries → IsAcked ds u
is_acked S M u ds k h one words place =
    let q : ℕ = u.epoch in
    let same : length (base_in q ds) ≡ length (M.epoch q).base = ap length k.base in
    let at : (M.node (coordinator q)).saved.committed ≡ length (M.epoch q).base + length (acked_in q ds) = k.committed ∙ k.exact in
    record {
      started = k.line;
      place = omega (arith, place, one, at, same);
      words = get_past (M.epoch q).base (proposed_in q ds) (length (acked_in q ds)) u.words
          (subst (λ i. slice_get ((M.epoch q).base ++ proposed_in q ds) i ≡ Some u.words) at
          (subst (λ xs. slice_get xs (M.node (coordinator q)).saved.committed ≡ Some u.words) (k.entries ∙ h.log) words));
    }

pub booked_ack : (S : Setting) (M : Memberships) (u : Update) (ds : List Deed) → Holds S M → Allowed S M (Acknowledge u.epoch)
    → (M.node (coordinator u.epoch)).saved.committed + 1 ≡ length (M.node (coordinator u.epoch)).saved.entries
    → slice_get (M.node (coordinator u.epoch)).saved.entries (M.node (coordinator u.epoch)).saved.committed ≡ Some u.words
    → u.place ≡ length (M.node (coordinator u.epoch)).saved.entries → Booked M ds → Booked (after M (Acknowledge u.epoch)) (Acked u ∷ ds)
booked_ack S M u ds i a one words place h = record { told = told; differ = h.differ; placed = (is_acked S M u ds k (h.told q) one words place, h.placed) }
  where
    q : ℕ
    q = u.epoch

    c : ℕ
    c = coordinator q

    k : Presiding M q ds
    k = presiding_at S M q ds i a.0.0 a.0.1 (h.told q)

    all : length (M.epoch q).log ≡ (M.epoch q).acked + 1
    all = omega (arith, ap length k.entries, k.committed, one)

    here : Tells (acknowledging (M.epoch q)) q (M.node c).session (M.node c).member (story q (Acked u ∷ ds))
    here = ack_told (M.epoch q) q (M.node c).session (M.node c).member (story q ds) (story q (Acked u ∷ ds)) u.words k.started a.0.0 a.0.1 all (h.told q) refl refl refl (acked_here u ds)

    told : (r : ℕ) → TellsAt (after M (Acknowledge q)) r (story r (Acked u ∷ ds))
    told r =
        at_both_told M c (committing (M.node c)) q (acknowledging (M.epoch q)) r (story r ds) (story r (Acked u ∷ ds)) refl (h.told r)
        (λ is. subst (λ j. Tells (acknowledging (M.epoch q)) q (M.node c).session (M.node c).member (story j (Acked u ∷ ds))) (sym is) here)
        (λ ne. acked_other u ds r ne)
        (λ ne at. told_at M c r (story r ds) at (h.told r))

pub booked_ack_lost : (S : Setting) (M : Memberships) (q : ℕ) (ds : List Deed) → Holds S M → Allowed S M (Acknowledge q) → Booked M ds
    → Booked (after (after M (Acknowledge q)) (Crash (coordinator q))) ds
booked_ack_lost S M q ds i a h = record { told = told; differ = h.differ; placed = h.placed }
  where
    c : ℕ
    c = coordinator q

    k : Presiding M q ds
    k = presiding_at S M q ds i a.0.0 a.0.1 (h.told q)

    told : (r : ℕ) → TellsAt (after (after M (Acknowledge q)) (Crash c)) r (story r ds)
    told r =
        down_after M c q (committing (M.node c)) (crashing (put M.node c (committing (M.node c)) c)) (acknowledging (M.epoch q)) r (story r ds)
        (at_both_told M c (crashing (put M.node c (committing (M.node c)) c)) q (acknowledging (M.epoch q)) r (story r ds) (story r ds) refl (h.told r)
        (λ is. subst (λ j. Tells (acknowledging (M.epoch q)) q 0 false (story j ds)) (sym is)
        (ack_unlined (M.epoch q) q (M.node c).session (M.node c).member (story q ds) k.started a.0.1 (i.epoch q).acked_log (h.told q)))
        (λ ne. refl) (λ ne at. down_told S M r (story r ds) i (h.told r)))

-- ---- events without a line

pub booked_calm : (S : Setting) (M : Memberships) (e : Event) (ds : List Deed) → Holds S M → Allowed S M e → IsCalm e → Booked M ds → Booked (after M e) ds
booked_calm S M e ds i a is h = record { told = λ q. calm S M e i a is q (story q ds) (h.told q); differ = h.differ; placed = h.placed }
