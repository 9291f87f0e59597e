-- The laws, of one state in which the invariant stands.
use Rattle.std.proofs.Common.{ℕ, zero, suc, ◌<◌, ◌≤◌, ◌≡◌, ◌⊎◌, inl, inr, sym, ap, ◌∙◌, subst, Bool, true, false, [], length, take, arith, eq-or-lt_of_le}
use Rattle.membership_machine.specs.Records.{Saved}
use Rattle.membership_machine.specs.Votes.{Votes, Setting, IsMajority}
use Rattle.membership_machine.specs.State.{Epoch, Memberships}
use Rattle.membership_machine.specs.Starts.{last_start, Follows, Alike, DevicesMeet}
use Rattle.membership_machine.specs.Invariant.{Fits, Holds}
use Rattle.membership_machine.specs.Parts.{PromisesHold, AttemptsDiffer, StartsAreCounted, AllSaved, RecordsAgree, ShareMember, ShareDevice}
use Rattle.membership_machine.proofs.Majorities.{Common, majorities_share}
use Rattle.membership_machine.proofs.Prefixes.{first_of_part, alike_from_part, alike_back, alike_over}
use Rattle.membership_machine.proofs.Before.{last_started, last_greatest, last_below}
use Rattle.membership_machine.proofs.Followed.{StandsOn, stands_on_last}
use Rattle.membership_machine.proofs.Preserved.{event_keeps, unmarked, not_marked}
use Rattle.std.proofs.lemmas.List.{nil_from_length}

pub follows : (S : Setting) (w : Memberships) → Holds S w → DevicesMeet S w → (q : ℕ) → (w.epoch q).counted ≡ true → Follows w q (last_start w q)
follows S w i meet q c = from (stands_on_last S w i meet q c)
  where
    from : StandsOn w q (last_start w q) → Follows w q (last_start w q)
    from on = record { begins = on.begins; acknowledged = on.acked; one_more = omega (arith, on.one_pending, on.settled); proposed = on.within }

-- what the last start had, q has, as far as it goes
base_alike : (w : Memberships) (q s v : ℕ) → StandsOn w q s → v ≤ length (w.epoch q).base → Alike v (w.epoch s).log (w.epoch q).base
base_alike w q s v on h = alike_back v (w.epoch q).base (w.epoch s).log (alike_from_part v (w.epoch q).base (w.epoch s).log on.begins on.within h)

-- by induction over the starts between e and q
saved_until : (S : Setting) (w : Memberships) → Holds S w → DevicesMeet S w → (e v : ℕ) → (w.epoch e).started ≡ true → AllSaved w e v
    → (n q : ℕ) → q < n → e < q → (w.epoch q).counted ≡ true → Alike v (w.epoch e).log (w.epoch q).base
saved_until S w i meet e v st all zero q k l c = absurd (omega arith)
saved_until S w i meet e v st all (suc n) q k l c = step S w i meet e v st all n q k l c (λ t a b d. saved_until S w i meet e v st all n t a b d)
  where
    step : (S : Setting) (w : Memberships) → Holds S w → DevicesMeet S w → (e v : ℕ) → (w.epoch e).started ≡ true → AllSaved w e v → (n q : ℕ) → q < suc n → e < q → (w.epoch q).counted ≡ true
        → ((t : ℕ) → t < n → e < t → (w.epoch t).counted ≡ true → Alike v (w.epoch e).log (w.epoch t).base) → Alike v (w.epoch e).log (w.epoch q).base
    step S w i meet e v st all n q k l c ih = go (eq-or-lt_of_le (last_greatest w q e st l))
      where
        s : ℕ
        s = last_start w q

        on : StandsOn w q s
        on = stands_on_last S w i meet q c

        positive : 0 < e
        positive = (i.epoch e).tried_positive ((i.epoch e).counted_tried ((i.epoch e).started_counted st))

        here : StandsOn w q e → Alike v (w.epoch e).log (w.epoch q).base
        here o = base_alike w q e v o (o.all_saved positive v all)

        through : (w.epoch s).started ≡ true → Alike v (w.epoch e).log (w.epoch s).base → Alike v (w.epoch e).log (w.epoch q).base
        through ss a = alike_over v (w.epoch e).log (w.epoch s).log (w.epoch q).base
            (alike_over v (w.epoch e).log (w.epoch s).base (w.epoch s).log a (alike_from_part v (w.epoch s).base (w.epoch s).log (i.epoch s).base_log (i.epoch s).base_within a.second_reaches))
            (base_alike w q s v on (omega (arith, a.second_reaches, (i.epoch s).base_acked ss, on.acked)))

        between : e < s → Alike v (w.epoch e).log (w.epoch q).base
        between h = let ss : (w.epoch s).started ≡ true = last_started w q (omega arith) in
            through ss (ih s (omega (arith, last_below w q (omega arith))) h ((i.epoch s).started_counted ss))

        go : (e ≡ s) ⊎ (e < s) → Alike v (w.epoch e).log (w.epoch q).base
        go (inl h) = here (subst (λ f. StandsOn w q f) (sym h) on)
        go (inr h) = between h

pub saved_kept : (S : Setting) (w : Memberships) → Holds S w → DevicesMeet S w → (e q v : ℕ) → (w.epoch e).started ≡ true → e < q → (w.epoch q).counted ≡ true → AllSaved w e v → Alike v (w.epoch e).log (w.epoch q).base
saved_kept S w i meet e q v st l c all = saved_until S w i meet e v st all (suc q) q (omega arith) l c

pub acknowledged_kept : (S : Setting) (w : Memberships) → Holds S w → DevicesMeet S w → (e q : ℕ) → (w.epoch e).started ≡ true → e < q → (w.epoch q).counted ≡ true → Alike (w.epoch e).acked (w.epoch e).log (w.epoch q).base
acknowledged_kept S w i meet e q st l c = saved_kept S w i meet e q (w.epoch e).acked st l c ((i.epoch e).started_reached st)

-- the parts

pub promises : (S : Setting) (w : Memberships) → Holds S w → PromisesHold S w
promises S w i = record {
  never_falls = λ e m a. ((event_keeps S w e i a).grows.node m).promised;
  installed = λ m. (i.node m).installed;
  session = λ m. session (w.node m).session (w.node m).promised (i.node m).session;
  member_session = λ m h. (i.node m).session ((i.node m).member_sits h);
  member_installed = λ m h. sym ((i.node m).member_installed h) ∙ (i.node m).session ((i.node m).member_sits h);
  member_started = λ m h. subst (λ f. (w.epoch f).started ≡ true) ((i.node m).session ((i.node m).member_sits h)) ((i.node m).member_started h);
}
  where
    session : (a b : ℕ) → (0 < a → a ≡ b) → (a ≡ 0) ⊎ (a ≡ b)
    session a b h = grind arith

pub attempts : (S : Setting) (w : Memberships) → Holds S w → AttemptsDiffer S w
attempts S w i = record {
  promised = λ q h. (i.epoch q).tried_promised h;
  once = λ q members h a. omega (arith, (i.epoch q).tried_promised h, a.0);
}

pub starts : (S : Setting) (w : Memberships) → Holds S w → StartsAreCounted S w
starts S w i = record {
  counted = λ q s. (i.epoch q).started_counted s;
  answered = λ q m c h. (i.epoch q).counted_answered c m h;
  under_committed = λ q c. (i.epoch q).majority_settled c;
  under_pending = λ q c. (i.epoch q).majority_base c;
  ready = λ q m s h. (i.epoch q).started_ready s m h;
  base = λ q s. (i.epoch q).base_acked s;
}

records_alike : (E : ℕ → Epoch) (r s : Saved) (v : ℕ) → Fits r (E r.installed) → Fits s (E s.installed) → r.installed ≡ s.installed → v ≤ length r.entries → v ≤ length s.entries → Alike v r.entries s.entries
records_alike E r s v f g e h k = record {
  same = first_of_part v r.entries (E r.installed).log f.entries h ∙ ap (λ x. take v (E x).log) e ∙ sym (first_of_part v s.entries (E s.installed).log g.entries k);
  first_reaches = h;
  second_reaches = k;
}

pub records : (S : Setting) (w : Memberships) → Holds S w → DevicesMeet S w → RecordsAgree w
records S w i meet = record {
  place_by_place = λ m k v e h l. records_alike w.epoch (w.node m).saved (w.node k).saved v (i.node m).fits (i.node k).fits e h l;
  committed_first = λ m. (i.node m).commits.within;
  one_pending = λ m. (i.node m).commits.one_pending;
  saved_by_all = λ e q v st l c all. saved_kept S w i meet e q v st l c all;
}

pub majorities : (S : Setting) (v : Votes) (a b x y : ℕ → Bool) → IsMajority S v a x → IsMajority S v b y → ShareMember a b ⊎ ShareDevice v x y
majorities S v a b x y p q = go (majorities_share S v a b x y p q)
  where
    go : Common v.of_node a b ⊎ Common v.of_device x y → ShareMember a b ⊎ ShareDevice v x y
    go (inl c) = inl (record { member = c.one; first = c.first; second = c.second })
    go (inr c) = inr (record { device = c.one; first = c.first; second = c.second; has_votes = c.votes })

-- where nothing started before, there is nothing to begin with
pub first_empty : (S : Setting) (w : Memberships) → Holds S w → DevicesMeet S w → (q : ℕ) → (w.epoch q).counted ≡ true → last_start w q ≡ 0 → (w.epoch q).base ≡ []
first_empty S w i meet q c z = nil_from_length (w.epoch q).base (empty (subst (λ s. StandsOn w q s) z (stands_on_last S w i meet q c)))
  where
    not_counted : (w.epoch 0).counted ≡ false
    not_counted = not_marked (w.epoch 0).counted (λ h. omega (arith, (i.epoch 0).tried_positive ((i.epoch 0).counted_tried h)))

    unstarted : (w.epoch 0).started ≡ false
    unstarted = unmarked (w.epoch 0).started (w.epoch 0).counted (i.epoch 0).started_counted not_counted

    log : length (w.epoch 0).log ≡ 0
    log = ap length ((i.epoch 0).unstarted_log unstarted ∙ (i.epoch 0).uncounted_base not_counted)

    empty : StandsOn w q 0 → length (w.epoch q).base ≡ 0
    empty on = omega (arith, on.within, log)
