-- The laws of the whole, of each state in which both machines are in order and agree.
use Rattle.std.proofs.Common.{ℕ, ◌≡◌, ◌<◌, ◌≤◌, ◌⊎◌, inl, inr, sym, ◌∙◌, ap, subst, true, false, [], arith}
use Rattle.membership_machine.specs.Votes.{Votes, Setting, IsMajority}
use Rattle.membership_machine.specs.Starts.{last_start, Follows, Alike, HasVotes, DevicesMeet}
use Rattle.membership_machine.specs.Parts as inner
use Rattle.membership_machine.specs.Parts.{ShareMember, ShareDevice}
use Rattle.membership_machine.proofs.Lineages as lineages
use Rattle.device_machine.specs.Phase.{rank}
use Rattle.device_machine.specs.Sharing as sharing
use Rattle.device_machine.specs.Sharing.{Sharing}
use Rattle.device_machine.specs.Laws.{Holds, MemberOrAbove, HasJoined}
use Rattle.device_machine.proofs.Invariant as seizing
use Rattle.device_machine.proofs.Laws as laws
use Rattle.cluster_machine.specs.Cluster.{Cluster, Command, Allowed}
use Rattle.cluster_machine.specs.Parts.{PromisesHold, AttemptsDiffer, WordsHold, ReservationsHold, TasksHold, IsGreatestHeld, OutsidersHold, ValidNodesHold, CountedUnder, MeetAtDevice, AttemptsMeet, RecordsAgree, WriteIsSafe}
use Rattle.cluster_machine.proofs.Whole.{InOrder, event_goes}

module _ (S : Setting) (w : Cluster) (i : InOrder S w) where
  -- an attempt that counted with device d held is so at the device too
  holds_at : (d q : ℕ) → (w.memberships.epoch q).counted ≡ true → (w.memberships.epoch q).holds d ≡ true → Holds (w.device d) q
  holds_at d q c h = (((i.agrees d).attempt q).counted ∙ c, ((i.agrees d).attempt q).holds c ∙ h)

  collected_at : (d q : ℕ) → Holds (w.device d) q → ((w.device d).attempt q).collected ≡ true
  collected_at d q h = ((i.device d).attempt q).collected_counted h.0

  -- a member there is a member here
  member_of : (d q n : ℕ) → ((w.device d).attempt q).collected ≡ true → ((w.device d).attempt q).members n ≡ true → (w.memberships.epoch q).members n ≡ true
  member_of d q n c m = sym (((i.agrees d).attempt q).members c n) ∙ m

  knows_of : (d e n k : ℕ) → ((w.device d).attempt e).collected ≡ true → MemberOrAbove (w.device d) n e k → ((w.memberships.epoch e).members n ≡ true) ⊎ (e < k)
  knows_of d e n k c (inl m) = inl (member_of d e n c m)
  knows_of d e n k c (inr l) = inr l

  -- Where device d is counted with votes, the seizer of the later attempt is the node in which the two meet.
  meet_at : (e q d : ℕ) → e < q → (w.memberships.epoch e).counted ≡ true → (w.memberships.epoch q).counted ≡ true → (w.memberships.epoch e).holds d ≡ true → (w.memberships.epoch q).holds d ≡ true
      → HasVotes S (w.memberships.epoch q) d → (n : ℕ) × (((w.device d).node n).past.seized q ≡ true) × ((w.memberships.epoch q).members n ≡ true) × (((w.memberships.epoch e).members n ≡ true) ⊎ (e < ((w.memberships.node n).showed q).installed))
  meet_at e q d lt ce cq he hq v =
      let at_e : Holds (w.device d) e = holds_at d e ce he in
      let at_q : Holds (w.device d) q = holds_at d q cq hq in
      let n : ℕ = ((w.device d).attempt q).seizer in
      let both = laws.meets (w.device d) (i.device d) e q at_e at_q (((i.agrees d).attempt q).quorum cq hq v) lt in (
        n,
        ((i.device d).attempt q).holds_seized at_q.0 at_q.1,
        member_of d q n (collected_at d q at_q) both.0,
        subst (λ k. ((w.memberships.epoch e).members n ≡ true) ⊎ (e < k)) (((i.agrees d).node n).showed q) (knows_of d e n (((w.device d).node n).past.showed q) (collected_at d e at_e) both.1),
      )

  pub devices_meet : DevicesMeet S w.memberships
  devices_meet e q d lt ce cq he hq v = let m = meet_at e q d lt ce cq he hq v in record { node = m.0; later_member = m.2; knows = m.3 }

  -- 1 and 2

  pub promises : PromisesHold S w
  promises = record { never_falls = λ e m a. ((event_goes S w e i a).memberships.node m).promised; memberships = lineages.promises S w.memberships i.memberships }

  pub attempts : AttemptsDiffer S w
  attempts = let a : inner.AttemptsDiffer S w.memberships = lineages.attempts S w.memberships i.memberships in record { promised = a.promised; once = a.once }

  -- 3 to 5

  pub words : WordsHold S w
  words = record { never_falls = λ e d a. ((event_goes S w e i a).device d).word; of_attempt = λ d. word d (laws.word_of_attempt (w.device d) (i.device d)); one_writer = λ d q n m a b. laws.one_writer (w.device d) (i.device d) q n m a b }
    where
      word : (d : ℕ) → ((w.device d).device.word ≡ 0) ⊎ (((w.device d).attempt (w.device d).device.word).collected ≡ true) → ((w.device d).device.word ≡ 0) ⊎ ((w.memberships.epoch (w.device d).device.word).tried ≡ true)
      word d (inl z) = inl z
      word d (inr c) = inr (((i.agrees d).attempt (w.device d).device.word).tried c)

  pub reservations : ReservationsHold S w
  reservations = record { stays = λ e d a. ((event_goes S w e i a).device d).reserved; holder = λ d. (i.device d).device.holder; held = λ d q. (i.device d).device.reserved q }

  pub tasks : TasksHold w
  tasks = record {
    one_seizing = λ d n q. ((i.device d).past n).seizings q;
    one_joining = λ d n q. ((i.device d).past n).joinings q;
    no_second_seizing = λ d n h a. again_seizing (w.device d) n ((i.device d).node n) h a;
    no_second_joining = λ d n h a. again_joining (w.device d) n ((i.device d).node n) h a;
    none_queued = λ d n. laws.over_when_joined (w.device d) (i.device d) n;
  }
    where
      again_seizing : (s : Sharing) (n : ℕ) → seizing.NodeOk s.attempt n (s.node n) → 0 < (s.node n).past.seizings (s.node n).session → sharing.Allowed s (sharing.Seize n) → ⊥
      again_seizing s n o h a = omega (arith, o.seizings_none a.0.0 (ap rank a.3))

      again_joining : (s : Sharing) (n : ℕ) → seizing.NodeOk s.attempt n (s.node n) → 0 < (s.node n).past.joinings (s.node n).session → sharing.Allowed s (sharing.Install_new n) → ⊥
      again_joining s n o h a = omega (arith, o.joinings_none a.0.0 a.0.3)

  -- 6 and 7

  -- the greatest number for which the device was held is the one that its machine keeps
  greatest : (d p : ℕ) → IsGreatestHeld (w.device d) p → p ≡ (w.device d).top
  greatest d p g = go (laws.below_top (w.device d) (i.device d) p g.held) (g.greatest (w.device d).top)
    where
      go : (0 < p) × (p ≤ (w.device d).top) → (((w.device d).attempt (w.device d).top).held ≡ true → (w.device d).top ≤ p) → p ≡ (w.device d).top
      go b top = omega (arith, b.1, top ((i.device d).device.top_held (omega (arith, b.0, b.1))))

  above_zero : (d p : ℕ) → IsGreatestHeld (w.device d) p → 0 < (w.device d).top
  above_zero d p g = let b = laws.below_top (w.device d) (i.device d) p g.held in omega (arith, b.0, b.1)

  collected_held : (d p : ℕ) → ((w.device d).attempt p).held ≡ true → ((w.device d).attempt p).collected ≡ true
  collected_held d p h = ((i.device d).attempt p).collected_held h

  outside : (d p n : ℕ) → IsGreatestHeld (w.device d) p → (w.memberships.epoch p).members n ≡ false → ((w.device d).attempt (w.device d).top).members n ≡ false
  outside d p n g out = subst (λ k. ((w.device d).attempt k).members n ≡ false) (greatest d p g) (((i.agrees d).attempt p).members (collected_held d p g.held) n ∙ out)

  pub outsiders : OutsidersHold w
  outsiders = record {
    not_valid = λ d p n g out key. (laws.outsider (w.device d) (i.device d) n (above_zero d p g) (outside d p n g out) key).0;
    not_joined = λ d p n g out key. (laws.outsider (w.device d) (i.device d) n (above_zero d p g) (outside d p n g out) key).1;
  }

  pub valid_nodes : ValidNodesHold w
  valid_nodes = record {
    member = λ d p n g v key. member_of d p n (collected_held d p g.held) (subst (λ k. ((w.device d).attempt k).members n ≡ true) (sym (greatest d p g)) (laws.valid_member (w.device d) (i.device d) n v key (above_zero d p g)).0);
    promised = λ d p n g v key. subst (λ k. p ≤ k) (((i.agrees d).node n).promised) (subst (λ k. k ≤ ((w.device d).node n).promised) (sym (greatest d p g)) (laws.valid_member (w.device d) (i.device d) n v key (above_zero d p g)).1);
    above = λ d e n h v key. subst (λ k. ((w.memberships.epoch e).members n ≡ true) ⊎ (e < k)) (((i.agrees d).node n).installed)
        (knows_of d e n ((w.device d).node n).installed (collected_held d e h) (laws.valid_above (w.device d) (i.device d) n e v key h));
  }

  -- 8 and 9

  majority_under : (q : ℕ) (v : Votes) → (w.memberships.epoch q).counted ≡ true → CountedUnder S (w.memberships.epoch q) v → IsMajority S v (w.memberships.epoch q).members (w.memberships.epoch q).holds
  majority_under q v c (inl e) = subst (λ x. IsMajority S x (w.memberships.epoch q).members (w.memberships.epoch q).holds) (sym e) ((i.memberships.epoch q).majority_settled c)
  majority_under q v c (inr e) = subst (λ x. IsMajority S x (w.memberships.epoch q).members (w.memberships.epoch q).holds) (sym e) ((i.memberships.epoch q).majority_base c)

  has_votes : (q d : ℕ) (v : Votes) → CountedUnder S (w.memberships.epoch q) v → 0 < v.of_device d → HasVotes S (w.memberships.epoch q) d
  has_votes q d v (inl e) h = inl (subst (λ (x : Votes). 0 < x.of_device d) e h)
  has_votes q d v (inr e) h = inr (subst (λ (x : Votes). 0 < x.of_device d) e h)

  pub meetings : AttemptsMeet S w
  meetings = record { meet = λ p q v lt cp cq up uq. both p q v lt cp cq uq (lineages.majorities S v (w.memberships.epoch p).members (w.memberships.epoch q).members (w.memberships.epoch p).holds (w.memberships.epoch q).holds (majority_under p v cp up) (majority_under q v cq uq)) }
    where
      both : (p q : ℕ) (v : Votes) → p < q → (w.memberships.epoch p).counted ≡ true → (w.memberships.epoch q).counted ≡ true → CountedUnder S (w.memberships.epoch q) v
          → ShareMember (w.memberships.epoch p).members (w.memberships.epoch q).members ⊎ ShareDevice v (w.memberships.epoch p).holds (w.memberships.epoch q).holds
          → ShareMember (w.memberships.epoch p).members (w.memberships.epoch q).members ⊎ MeetAtDevice w v p q
      both p q v lt cp cq uq (inl m) = inl m
      both p q v lt cp cq uq (inr s) = let m = meet_at p q s.device lt cp cq s.first s.second (has_votes q s.device v uq s.has_votes) in
          inr (record { device = s.device; has_votes = s.has_votes; first = s.first; second = s.second; seizer = m.0; seized = m.1; member = m.2; knows = m.3 })

  pub records : RecordsAgree w
  records = lineages.records S w.memberships i.memberships devices_meet

  -- lineage, kept, and the disk rule

  pub follows : (q : ℕ) → (w.memberships.epoch q).counted ≡ true → Follows w.memberships q (last_start w.memberships q)
  follows q c = lineages.follows S w.memberships i.memberships devices_meet q c

  pub first_empty : (q : ℕ) → (w.memberships.epoch q).counted ≡ true → last_start w.memberships q ≡ 0 → (w.memberships.epoch q).base ≡ []
  first_empty q c z = lineages.first_empty S w.memberships i.memberships devices_meet q c z

  pub acknowledged_kept : (e q : ℕ) → (w.memberships.epoch e).started ≡ true → e < q → (w.memberships.epoch q).counted ≡ true → Alike (w.memberships.epoch e).acked (w.memberships.epoch e).log (w.memberships.epoch q).base
  acknowledged_kept e q s l c = lineages.acknowledged_kept S w.memberships i.memberships devices_meet e q s l c

  pub joined_session : (d n f : ℕ) → sharing.Writes (w.device d) n → (w.memberships.epoch f).counted ≡ true → (w.memberships.epoch f).holds d ≡ true → f ≤ (w.memberships.node n).session
  joined_session d n f a c h = subst (λ q. f ≤ q) (((i.agrees d).node n).session) (laws.disk_rule (w.device d) (i.device d) n f a (holds_at d f c h))

  pub write_is_safe : (d n x : ℕ) → Allowed S w (Command d (sharing.Write n x)) → WriteIsSafe w d n
  write_is_safe d n x a = record {
    started = (i.memberships.node n).member_started a.2;
    member = subst (λ q. (w.memberships.epoch q).members n ≡ true) same (member_of d session n (collected_at d session here.holds) here.member);
    holds = subst (λ q. (w.memberships.epoch q).holds d ≡ true) same (sym (((i.agrees d).attempt session).holds (sym (((i.agrees d).attempt session).counted) ∙ here.holds.0)) ∙ here.holds.1);
    none_greater = λ f c h. joined_session d n f a.1 c h;
    left_out_by_none = λ f c h out. subst (λ q. f < q) same (laws.left_out (w.device d) (i.device d) n f a.1 (holds_at d f c h) (((i.agrees d).attempt f).members (collected_at d f (holds_at d f c h)) n ∙ out));
  }
    where
      session : ℕ
      session = ((w.device d).node n).session

      same : session ≡ (w.memberships.node n).session
      same = ((i.agrees d).node n).session

      here : HasJoined (w.device d) n
      here = laws.joined (w.device d) (i.device d) n a.1.0
