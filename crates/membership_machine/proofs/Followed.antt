-- Every attempt that counted its votes stands on the last start below it. This is of one state, by induction on the epoch.
use Rattle.std.proofs.Common.{ℕ, zero, suc, ◌+◌, ◌<◌, ◌≤◌, ◌≡◌, ◌⊎◌, inl, inr, refl, sym, ap, ◌∙◌, subst, Bool, true, false, List, length, take, arith, take_all, eq-or-lt_of_le, eq-zero-or-pos}
use Rattle.membership_machine.specs.Records.{Update, Saved, IsBehind}
use Rattle.membership_machine.specs.Votes.{Setting, IsMajority}
use Rattle.membership_machine.specs.State.{Node, Epoch, Memberships}
use Rattle.membership_machine.specs.Starts.{last_start, HasVotes, Meeting, DevicesMeet}
use Rattle.membership_machine.specs.Invariant.{Fits, Commits, NodeOk, EpochOk, Holds}
use Rattle.membership_machine.proofs.Majorities.{Common, majorities_share}
use Rattle.membership_machine.proofs.Prefixes.{first_of_part}
use Rattle.membership_machine.proofs.Before.{last_started, none_between, last_of_between, FirstAfter, first_after}

-- what is known of the newest record of attempt q, which was installed in g
pub record NewestIs (w : Memberships) (q g : ℕ) : Type 0 where
  pub below : g < q
  pub counted : 0 < g → (w.epoch g).counted ≡ true
  pub entries : (w.epoch q).base ≡ take (length (w.epoch q).base) (w.epoch g).log
  pub within : length (w.epoch q).base ≤ length (w.epoch g).log
  pub base : length (w.epoch g).base ≤ length (w.epoch q).base
  pub one_pending : length (w.epoch q).base ≤ (w.epoch q).settled + 1
  pub acked : (w.epoch g).started ≡ true → (w.epoch q).settled ≤ (w.epoch g).acked
  pub settled : (w.epoch g).started ≡ false → (w.epoch q).settled ≤ (w.epoch g).settled
  pub all_saved : 0 < g → (v : ℕ) → ((m : ℕ) → (w.epoch g).members m ≡ true → v ≤ (w.node m).reached g) → v ≤ length (w.epoch q).base
  pub none_newer : (m : ℕ) → (w.epoch q).members m ≡ true → ((w.node m).showed q).installed ≤ g

behind_installed : (r s : Saved) → IsBehind r s → r.installed ≤ s.installed
behind_installed r s h = grind arith

newest_from : (w : Memberships) (q n : ℕ) (r : Saved) → (w.epoch q).base ≡ r.entries → (w.epoch q).settled ≡ r.committed → r.installed < q
    → Fits r (w.epoch r.installed) → Commits r (w.epoch r.installed)
    → (0 < r.installed → (v : ℕ) → ((m : ℕ) → (w.epoch r.installed).members m ≡ true → v ≤ (w.node m).reached r.installed) → v ≤ length r.entries)
    → ((m : ℕ) → (w.epoch q).members m ≡ true → IsBehind ((w.node m).showed q) r) → NewestIs w q r.installed
newest_from w q n r b s below f c a behind = record {
  below = below;
  counted = f.counted;
  entries = subst (λ (xs : List Update). xs ≡ take (length xs) (w.epoch r.installed).log) (sym b) f.entries;
  within = rw b f.within;
  base = rw b f.base;
  one_pending = rw (b, s) c.one_pending;
  acked = λ h. rw s (c.acked h);
  settled = λ h. rw s (c.settled h);
  all_saved = λ p v h. rw b (a p v h);
  none_newer = λ m h. behind_installed _ _ (behind m h);
}

source_saved : (w : Memberships) (q n g : ℕ) (r : Saved) (o : NodeOk w.epoch n (w.node n)) → (w.node n).answered q ≡ true → (w.node n).showed q ≡ r → r.installed ≡ g
    → 0 < g → (v : ℕ) → ((m : ℕ) → (w.epoch g).members m ≡ true → v ≤ (w.node m).reached g) → v ≤ length r.entries
source_saved w q n g r o a e i p v h =
    let is : ((w.node n).showed q).installed ≡ g = ap (λ (x : Saved). x.installed) e ∙ i in
    let ready : (w.node n).ready g ≡ true = subst (λ f. (w.node n).ready f ≡ true) is (o.showed_ready q a (rw is p)) in
    let all : (w.node n).reached g ≤ length ((w.node n).showed q).entries = subst (λ f. (w.node n).reached f ≤ length ((w.node n).showed q).entries) is (o.showed_all q a (rw is p)) in
    let here : v ≤ (w.node n).reached g = h n (o.ready_member g ready) in
    subst (λ (x : Saved). v ≤ length x.entries) e (omega (arith, all, here))

pub newest_is : (S : Setting) (w : Memberships) → Holds S w → (q : ℕ) → (w.epoch q).counted ≡ true → NewestIs w q ((w.node (w.epoch q).newest).showed q).installed
newest_is S w i q h =
    let e : EpochOk S w.node q (w.epoch q) = i.epoch q in
    let n : ℕ = (w.epoch q).newest in
    let o : NodeOk w.epoch n (w.node n) = i.node n in
    let a : (w.node n).answered q ≡ true = e.counted_answered h n (e.newest_member h) in
    newest_from w q n ((w.node n).showed q) (e.newest_base h) (e.newest_settled h) (o.showed_installed q a) (o.showed_fits q a) (o.showed_commits q a)
    (source_saved w q n _ _ o a refl refl) (e.newest_behind h)

-- Attempt q stands on start s: its base is a first part of what was ever proposed there, at least all that is acknowledged, and
-- at most one more is pending in it than is acknowledged; and it has whatever every member of s has saved.
pub record StandsOn (w : Memberships) (q s : ℕ) : Type 0 where
  pub begins : (w.epoch q).base ≡ take (length (w.epoch q).base) (w.epoch s).log
  pub within : length (w.epoch q).base ≤ length (w.epoch s).log
  pub settled : (w.epoch q).settled ≤ (w.epoch s).acked
  pub acked : (w.epoch s).acked ≤ length (w.epoch q).base
  pub one_pending : length (w.epoch q).base ≤ (w.epoch q).settled + 1
  pub all_saved : 0 < s → (v : ℕ) → ((m : ℕ) → (w.epoch s).members m ≡ true → v ≤ (w.node m).reached s) → v ≤ length (w.epoch q).base

-- the newest record is of s itself, which started
on_start : (S : Setting) (w : Memberships) (q s : ℕ) → EpochOk S w.node s (w.epoch s) → NewestIs w q s → 0 < s → (w.epoch s).started ≡ true → StandsOn w q s
on_start S w q s e n p h = record {
  begins = n.entries;
  within = n.within;
  settled = n.acked h;
  acked = n.all_saved p (w.epoch s).acked (e.started_reached h);
  one_pending = n.one_pending;
  all_saved = n.all_saved;
}

-- nothing was ever installed
on_nothing : (S : Setting) (w : Memberships) (q : ℕ) → EpochOk S w.node 0 (w.epoch 0) → NewestIs w q 0 → (w.epoch 0).started ≡ false → StandsOn w q 0
on_nothing S w q e n h = record {
  begins = n.entries;
  within = n.within;
  settled = let k : (w.epoch q).settled ≤ (w.epoch 0).settled = n.settled h in let b : (w.epoch 0).settled ≤ length (w.epoch 0).base = e.settled_base in
      let l : length (w.epoch 0).base ≡ 0 = ap length (e.uncounted_base (zero_uncounted S w.node (w.epoch 0) e)) in omega arith;
  acked = let a : (w.epoch 0).acked ≡ 0 = e.unstarted_acked h in omega arith;
  one_pending = n.one_pending;
  all_saved = λ p v k. absurd (omega arith);
}
  where
    not_below : (S : Setting) (N : ℕ → Node) (e : Epoch) → EpochOk S N 0 e → e.counted ≡ true → ⊥
    not_below S N e k c = omega (arith, k.tried_positive (k.counted_tried c))

    zero_case : (S : Setting) (N : ℕ → Node) (e : Epoch) → EpochOk S N 0 e → (b : Bool) → e.counted ≡ b → e.counted ≡ false
    zero_case S N e k true c = absurd (not_below S N e k c)
    zero_case S N e k false c = c

    zero_uncounted : (S : Setting) (N : ℕ → Node) (e : Epoch) → EpochOk S N 0 e → e.counted ≡ false
    zero_uncounted S N e k = zero_case S N e k e.counted refl

-- the newest record is of an attempt g that never started, which stands on s: it is the base of g
on_attempt : (S : Setting) (w : Memberships) (q g s : ℕ) → EpochOk S w.node g (w.epoch g) → NewestIs w q g → (w.epoch g).started ≡ false → StandsOn w g s → StandsOn w q s
on_attempt S w q g s e n h on =
    let l : (w.epoch g).log ≡ (w.epoch g).base = e.unstarted_log h in
    let ll : length (w.epoch g).log ≡ length (w.epoch g).base = ap length l in
    let same_length : length (w.epoch q).base ≡ length (w.epoch g).base = omega (arith, n.within, n.base) in
    let same : (w.epoch q).base ≡ (w.epoch g).base = n.entries ∙ take_all (length (w.epoch q).base) (w.epoch g).log (omega arith) ∙ l in
    record {
      begins = subst (λ (xs : List Update). xs ≡ take (length xs) (w.epoch s).log) (sym same) on.begins;
      within = omega (arith, on.within);
      settled = omega (arith, on.settled, n.settled h);
      acked = omega (arith, on.acked);
      one_pending = n.one_pending;
      all_saved = λ p v k. rw same_length (on.all_saved p v k);
    }

-- Whichever of these g is, q stands on s.
stands : (S : Setting) (w : Memberships) → Holds S w → (q g s : ℕ) → NewestIs w q g → (0 < s → (w.epoch s).started ≡ true)
    → (s ≡ g) ⊎ (((w.epoch g).started ≡ false) × StandsOn w g s) → StandsOn w q s
stands S w i q g s n st (inr c) = on_attempt S w q g s (i.epoch g) n c.0 c.1
stands S w i q g s n st (inl e) = go (eq-zero-or-pos s)
  where
    there : NewestIs w q s
    there = subst (λ f. NewestIs w q f) (sym e) n

    zero_unstarted : (b : Bool) → (w.epoch 0).started ≡ b → (w.epoch 0).started ≡ false
    zero_unstarted true h = absurd (omega (arith, (i.epoch 0).tried_positive ((i.epoch 0).counted_tried ((i.epoch 0).started_counted h))))
    zero_unstarted false h = h

    go : (s ≡ 0) ⊎ (0 < s) → StandsOn w q s
    go (inl z) = subst (λ f. StandsOn w q f) (sym z) (on_nothing S w q (i.epoch 0) (subst (λ f. NewestIs w q f) z there) (zero_unstarted (w.epoch 0).started refl))
    go (inr p) = on_start S w q s (i.epoch s) there p (st p)

-- what is acknowledged in s is all that is committed in q's base, or all of that base
acked_part : (w : Memberships) (q s : ℕ) → StandsOn w q s
    → (take (w.epoch s).acked (w.epoch s).log ≡ take (w.epoch q).settled (w.epoch q).base) ⊎ (take (w.epoch s).acked (w.epoch s).log ≡ (w.epoch q).base)
acked_part w q s on = go (cases (w.epoch q).settled (w.epoch s).acked (length (w.epoch q).base) on.settled on.acked on.one_pending)
  where
    cases : (a b c : ℕ) → a ≤ b → b ≤ c → c ≤ a + 1 → (b ≡ a) ⊎ (b ≡ c)
    cases a b c h k l = grind arith

    go : ((w.epoch s).acked ≡ (w.epoch q).settled) ⊎ ((w.epoch s).acked ≡ length (w.epoch q).base)
        → (take (w.epoch s).acked (w.epoch s).log ≡ take (w.epoch q).settled (w.epoch q).base) ⊎ (take (w.epoch s).acked (w.epoch s).log ≡ (w.epoch q).base)
    go (inl e) = inl (ap (λ k. take k (w.epoch s).log) e ∙ sym (first_of_part (w.epoch q).settled (w.epoch q).base (w.epoch s).log on.begins (omega (arith, on.acked))))
    go (inr e) = inr (ap (λ k. take k (w.epoch s).log) e ∙ sym on.begins)

-- so q counted a majority under what is acknowledged in s
majority_on : (S : Setting) (w : Memberships) (q s : ℕ) → EpochOk S w.node q (w.epoch q) → (w.epoch q).counted ≡ true → StandsOn w q s
    → IsMajority S (S.config (take (w.epoch s).acked (w.epoch s).log)) (w.epoch q).members (w.epoch q).holds
majority_on S w q s e h on = go (acked_part w q s on)
  where
    go : (take (w.epoch s).acked (w.epoch s).log ≡ take (w.epoch q).settled (w.epoch q).base) ⊎ (take (w.epoch s).acked (w.epoch s).log ≡ (w.epoch q).base)
        → IsMajority S (S.config (take (w.epoch s).acked (w.epoch s).log)) (w.epoch q).members (w.epoch q).holds
    go (inl k) = subst (λ (xs : List Update). IsMajority S (S.config xs) (w.epoch q).members (w.epoch q).holds) (sym k) (e.majority_settled h)
    go (inr k) = subst (λ (xs : List Update). IsMajority S (S.config xs) (w.epoch q).members (w.epoch q).holds) (sym k) (e.majority_base h)

votes_on : (S : Setting) (w : Memberships) (q s d : ℕ) → StandsOn w q s → 0 < (S.config (take (w.epoch s).acked (w.epoch s).log)).of_device d → HasVotes S (w.epoch q) d
votes_on S w q s d on h = go (acked_part w q s on)
  where
    go : (take (w.epoch s).acked (w.epoch s).log ≡ take (w.epoch q).settled (w.epoch q).base) ⊎ (take (w.epoch s).acked (w.epoch s).log ≡ (w.epoch q).base) → HasVotes S (w.epoch q) d
    go (inl k) = inl (subst (λ (xs : List Update). 0 < (S.config xs).of_device d) k h)
    go (inr k) = inr (subst (λ (xs : List Update). 0 < (S.config xs).of_device d) k h)

-- A node that is in both, or knows of the smaller one, showed at q a record at least as new as the smaller: newer than the newest.
knows_newer : (S : Setting) (w : Memberships) → Holds S w → (t q g m : ℕ) → (w.epoch t).started ≡ true → (w.epoch q).counted ≡ true → NewestIs w q g → g < t → t < q
    → (w.epoch q).members m ≡ true → ((w.epoch t).members m ≡ true) ⊎ (t < ((w.node m).showed q).installed) → ⊥
knows_newer S w i t q g m st h n gt tq k (inr c) = omega (arith, n.none_newer m k)
knows_newer S w i t q g m st h n gt tq k (inl c) =
    let ready : (w.node m).ready t ≡ true = (i.epoch t).started_ready st m c in
    let a : (w.node m).answered q ≡ true = (i.epoch q).counted_answered h m k in
    omega (arith, n.none_newer m k, (i.node m).showed_greatest q t a ready tq)

-- so two that stand on one start are not both above what the greater found newest
clash : (S : Setting) (w : Memberships) → Holds S w → DevicesMeet S w → (t q g s : ℕ) → (w.epoch t).started ≡ true → (w.epoch q).counted ≡ true → NewestIs w q g → g < t → t < q
    → StandsOn w t s → StandsOn w q s → ⊥
clash S w i meet t q g s st h n gt tq ont onq =
    go (majorities_share S (S.config (take (w.epoch s).acked (w.epoch s).log)) (w.epoch t).members (w.epoch q).members (w.epoch t).holds (w.epoch q).holds
    (majority_on S w t s (i.epoch t) ((i.epoch t).started_counted st) ont) (majority_on S w q s (i.epoch q) h onq))
  where
    met : Meeting w t q → ⊥
    met p = knows_newer S w i t q g p.node st h n gt tq p.later_member p.knows

    go : Common (S.config (take (w.epoch s).acked (w.epoch s).log)).of_node (w.epoch t).members (w.epoch q).members
        ⊎ Common (S.config (take (w.epoch s).acked (w.epoch s).log)).of_device (w.epoch t).holds (w.epoch q).holds → ⊥
    go (inl p) = knows_newer S w i t q g p.one st h n gt tq p.second (inl p.first)
    go (inr p) = met (meet t q p.one tq ((i.epoch t).started_counted st) h p.first p.second (votes_on S w q s p.one onq p.votes))

-- the induction, n bounding the epoch
follow : (S : Setting) (w : Memberships) → Holds S w → DevicesMeet S w → (n q : ℕ) → q < n → (w.epoch q).counted ≡ true → StandsOn w q (last_start w q)
follow S w i meet zero q k h = absurd (omega arith)
follow S w i meet (suc n) q k h = step S w i meet n q k h (λ t l c. follow S w i meet n t l c)
  where
    step : (S : Setting) (w : Memberships) → Holds S w → DevicesMeet S w → (n q : ℕ) → q < suc n → (w.epoch q).counted ≡ true
        → ((t : ℕ) → t < n → (w.epoch t).counted ≡ true → StandsOn w t (last_start w t)) → StandsOn w q (last_start w q)
    step S w i meet n q k h ih = which (order g (last_start w q))
      where
        g : ℕ
        g = ((w.node (w.epoch q).newest).showed q).installed

        new : NewestIs w q g
        new = newest_is S w i q h

        order : (a b : ℕ) → (a < b) ⊎ (b ≤ a)
        order a b = grind arith

        -- q stands on the last start below t, where g stands between them
        over : (t : ℕ) → last_start w t ≤ g → g < t → t ≤ q → StandsOn w q (last_start w t)
        over t l gt tq = stands S w i q g (last_start w t) new (last_started w t) (cases (eq-or-lt_of_le l))
          where
            cases : (last_start w t ≡ g) ⊎ (last_start w t < g) → (last_start w t ≡ g) ⊎ (((w.epoch g).started ≡ false) × StandsOn w g (last_start w t))
            cases (inl e) = inl e
            cases (inr s) = inr (none_between w t g s gt, subst (λ f. StandsOn w g f) (last_of_between w t g s (omega arith)) (ih g (omega (arith, new.below)) (new.counted (omega arith))))

        which : (g < last_start w q) ⊎ (last_start w q ≤ g) → StandsOn w q (last_start w q)
        which (inr l) = over q l new.below (omega arith)
        which (inl l) = first (first_after w g q l)
          where
            first : FirstAfter w g q → StandsOn w q (last_start w q)
            first f = absurd (clash S w i meet f.start q g (last_start w f.start) f.started h new f.above f.below
                (ih f.start (omega (arith, f.below)) ((i.epoch f.start).started_counted f.started)) (over f.start f.first f.above (omega (arith, f.below))))

pub stands_on_last : (S : Setting) (w : Memberships) → Holds S w → DevicesMeet S w → (q : ℕ) → (w.epoch q).counted ≡ true → StandsOn w q (last_start w q)
stands_on_last S w i meet q h = follow S w i meet (suc q) q (omega arith) h
