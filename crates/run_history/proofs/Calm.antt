-- The book stays through the events that have no line of a membership's story.
use Rattle.std.specs.Prelude.{ℕ, ◌≡◌, ◌≢◌, ◌<◌, ◌≤◌, ◌⊎◌, Bool, true, false}
use Rattle.std.proofs.Common.{refl, sym, ap, subst, ◌∙◌, arith, inl, inr}
use Rattle.machine_base.specs.Epochs.{coordinator}
use Rattle.machine_base.specs.Put.{put}
use Rattle.machine_base.proofs.Puts.{put_here, put_there, same_or_not}
use Rattle.membership_machine.specs.Events.{Acknowledge, Allowed, Begin, Commit, Count, Crash, Event, Install, Join, Prepare, Promise, Propose, Propose_lost, Start, after, at_both, at_node}
use Rattle.membership_machine.specs.Invariant.{Holds}
use Rattle.membership_machine.specs.State.{Epoch, Memberships, Node}
use Rattle.membership_machine.specs.Votes.{Setting}
use Rattle.run_history.specs.Book.{Story, Tells, TellsAt}
use Rattle.run_history.proofs.Stories.{begun, false_true, fresh, moved, seated, true_false}

-- Changed at one node, and at one number with its coordinator.

-- what is told of q, at the node that is its coordinator
pub told_at : (M : Memberships) (m q : ℕ) (t : Story) → coordinator q ≡ m → TellsAt M q t → Tells (M.epoch q) q (M.node m).session (M.node m).member t
told_at M m q t at h = subst (λ k. Tells (M.epoch q) q (M.node k).session (M.node k).member t) at h

pub at_node_told : (M : Memberships) (m : ℕ) (n : Node) (q : ℕ) (t : Story) → TellsAt M q t → (coordinator q ≡ m → Tells (M.epoch q) q n.session n.member t) → TellsAt (at_node M m n) q t
at_node_told M m n q t h here = go (same_or_not (coordinator q) m)
  where
    go : (coordinator q ≡ m) ⊎ (coordinator q ≢ m) → TellsAt (at_node M m n) q t
    go (inl e) = subst (λ (x : Node). Tells (M.epoch q) q x.session x.member t) (sym (ap (λ k. put M.node m n k) e ∙ put_here M.node m n)) (here e)
    go (inr ne) = subst (λ (x : Node). Tells (M.epoch q) q x.session x.member t) (sym (put_there M.node m n (coordinator q) ne)) h

pub at_both_told : (M : Memberships) (m : ℕ) (n : Node) (p : ℕ) (e : Epoch) (q : ℕ) (t u : Story) → coordinator p ≡ m → TellsAt M q t
    → (q ≡ p → Tells e p n.session n.member u) → (q ≢ p → u ≡ t) → (q ≢ p → coordinator q ≡ m → Tells (M.epoch q) q n.session n.member t) → TellsAt (at_both M m n p e) q u
at_both_told M m n p e q t u at h here same there = go (same_or_not q p)
  where
    at_p : Tells e p n.session n.member u → TellsAt (at_both M m n p e) p u
    at_p k =
        subst (λ (x : Epoch). Tells x p (put M.node m n (coordinator p)).session (put M.node m n (coordinator p)).member u) (sym (put_here M.epoch p e))
        (subst (λ (x : Node). Tells e p x.session x.member u) (sym (ap (λ k. put M.node m n k) at ∙ put_here M.node m n)) k)

    go : (q ≡ p) ⊎ (q ≢ p) → TellsAt (at_both M m n p e) q u
    go (inl is) = subst (λ j. TellsAt (at_both M m n p e) j u) (sym is) (at_p (here is))
    go (inr ne) =
        subst (λ (x : Epoch). Tells x q (put M.node m n (coordinator q)).session (put M.node m n (coordinator q)).member u) (sym (put_there M.epoch p e q ne))
        (subst (λ (x : Story). TellsAt (at_node M m n) q x) (sym (same ne)) (at_node_told M m n q t h (there ne)))

-- What the machine knows of a number that started.

pub above_zero : (S : Setting) (M : Memberships) (q : ℕ) → Holds S M → (M.epoch q).started ≡ true → 0 < q
above_zero S M q i h = (i.epoch q).tried_positive ((i.epoch q).counted_tried ((i.epoch q).started_counted h))

promised : (S : Setting) (M : Memberships) (q : ℕ) → Holds S M → (M.epoch q).started ≡ true → q ≤ (M.node (coordinator q)).promised
promised S M q i h = (i.epoch q).tried_promised ((i.epoch q).counted_tried ((i.epoch q).started_counted h))

greater : (p q r : ℕ) → r ≤ q → q < p → p ≡ r → ⊥
greater p q r h k e = grind arith

no_zero : (q : ℕ) → 0 < q → 0 ≡ q → ⊥
no_zero q h e = grind arith

-- a new session is no earlier number's
newer : (S : Setting) (M : Memberships) (m p q : ℕ) (t : Story) → Holds S M → (M.node m).promised < p → coordinator q ≡ m → TellsAt M q t → Tells (M.epoch q) q p false t
newer S M m p q t i below at h =
    moved (M.epoch q) q (M.node (coordinator q)).session (M.node (coordinator q)).member t p false (λ k is. false_true k)
    (λ started is. greater p (M.node m).promised q (subst (λ k. q ≤ (M.node k).promised) at (promised S M q i started)) below is) h

-- down, the node is in no session
pub down_told : (S : Setting) (M : Memberships) (q : ℕ) (t : Story) → Holds S M → TellsAt M q t → Tells (M.epoch q) q 0 false t
down_told S M q t i h =
    moved (M.epoch q) q (M.node (coordinator q)).session (M.node (coordinator q)).member t 0 false (λ k is. false_true k) (λ started is. no_zero q (above_zero S M q i started) is) h

-- The events.

abbrev pub IsCalm : Event → Type 0
IsCalm (Start q) = ⊥
IsCalm (Propose q u) = ⊥
IsCalm (Propose_lost q u) = ⊥
IsCalm (Acknowledge q) = ⊥
IsCalm _ = Unit {0}

not_marked : (b : Bool) → (b ≡ true → ⊥) → b ≡ false
not_marked true h = absurd (h refl)
not_marked false h = refl

-- an attempt that is counted was not counted before, and so has not started
uncounted : (S : Setting) (M : Memberships) (q n : ℕ) (devices : ℕ → Bool) → Holds S M → Allowed S M (Count q n devices) → (M.epoch q).started ≡ false
uncounted S M q n devices i a = not_marked (M.epoch q).started (λ h. omega (arith, (i.epoch q).counted_installed ((i.epoch q).started_counted h), (i.node (coordinator q)).seeking_installs a.1, (i.node (coordinator q)).seeking_session a.1, a.0))

count_told : (S : Setting) (M : Memberships) (p n : ℕ) (devices : ℕ → Bool) (q : ℕ) (t : Story) → Holds S M → Allowed S M (Count p n devices) → TellsAt M q t → TellsAt (after M (Count p n devices)) q t
count_told S M p n devices q t i a h =
    let c : ℕ = coordinator p in
    let not : (M.epoch p).started ≡ false = uncounted S M p n devices i a in
    at_both_told M c _ p _ q t t refl h
    (λ is.
    let k : TellsAt M p t = subst (λ j. TellsAt M j t) is h in
    fresh _ p (M.node c).session (M.node c).member t not refl (k.silent not) (λ l. false_true (sym not ∙ (k.line l).0))
    (λ member session. false_true (sym not ∙ subst (λ f. (M.epoch f).started ≡ true) session ((i.node c).member_started member))))
    (λ ne. refl) (λ ne at. told_at M c q t at h)

-- who joins was no coordinator of what it joins
join_told : (S : Setting) (M : Memberships) (m p q : ℕ) (t : Story) → Holds S M → Allowed S M (Join m p) → TellsAt M q t → TellsAt (after M (Join m p)) q t
join_told S M m p q t i a h =
    at_node_told M m _ q t h (λ at. seated (M.epoch q) q (M.node m).session (M.node m).member t true (λ k is. own at is) (told_at M m q t at h))
  where
    own : coordinator q ≡ m → (M.node m).session ≡ q → ⊥
    own at is =
        let same : q ≡ p = sym is ∙ a.1 in
        let started : (M.epoch (M.node m).session).started ≡ true = subst (λ f. (M.epoch f).started ≡ true) (sym a.1) a.0 in
        true_false (sym ((i.leads m).sits (subst (λ f. 0 < f) (sym a.1) (above_zero S M p i a.0)) (ap coordinator is ∙ at) started) ∙ a.3)

pub calm : (S : Setting) (M : Memberships) (e : Event) → Holds S M → Allowed S M e → IsCalm e → (q : ℕ) (t : Story) → TellsAt M q t → TellsAt (after M e) q t
calm S M (Begin p members) i a is q t h =
    at_both_told M (coordinator p) _ p _ q t t refl h
    (λ same. begun (M.epoch p) members p p false t (newer S M (coordinator p) p p t i a.0 refl (subst (λ j. TellsAt M j t) same h)))
    (λ ne. refl) (λ ne at. newer S M (coordinator p) p q t i a.0 at h)
calm S M (Promise m p) i a is q t h = at_node_told M m _ q t h (λ at. newer S M m p q t i a.1 at h)
calm S M (Count p n devices) i a is q t h = count_told S M p n devices q t i a h
calm S M (Install m p) i a is q t h = at_node_told M m _ q t h (λ at. told_at M m q t at h)
calm S M (Join m p) i a is q t h = join_told S M m p q t i a h
calm S M (Prepare m p u) i a is q t h = at_node_told M m _ q t h (λ at. told_at M m q t at h)
calm S M (Commit m p) i a is q t h = at_node_told M m _ q t h (λ at. told_at M m q t at h)
calm S M (Crash m) i a is q t h = at_node_told M m _ q t h (λ at. down_told S M q t i h)
calm S M (Start p) i a is q t h = absurd is
calm S M (Propose p u) i a is q t h = absurd is
calm S M (Propose_lost p u) i a is q t h = absurd is
calm S M (Acknowledge p) i a is q t h = absurd is
