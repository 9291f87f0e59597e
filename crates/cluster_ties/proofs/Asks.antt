-- An attempt asks nodes to seize devices: commands of the whole, at each device that it asks for.
use Rattle.std.specs.Prelude.{ℕ, zero, suc, ◌≡◌, ◌≢◌, ◌<◌, ◌≤◌, ◌⊎◌, All, Bool, true, false, List, [], ◌∷◌}
use Rattle.std.proofs.Common.{refl, sym, ap, subst, ◌∙◌, inl, inr, arith}
use Rattle.std.proofs.lemmas.List.Elements.{All-head, All-tail}
use Rattle.attempt_laws.specs.Asking.{DeviceHas, IsAsking, IsOthers}
use Rattle.attempt_laws.proofs.Left.{others_leave}
use Rattle.cluster_machine.specs.Cluster as whole
use Rattle.cluster_machine.specs.Cluster.{Cluster as Whole, Command, Event, MayCome, all_after}
use Rattle.device_machine.specs.Sharing as sharing
use Rattle.device_machine.specs.Sharing.{Sharing}
use Rattle.machine_base.specs.Epochs.{coordinator}
use Rattle.machine_base.proofs.Puts.{put_here, put_there, same_or_not}
use Rattle.membership_machine.specs.Votes.{Setting}
use Rattle.cluster_ties.specs.Moves.{Moves}
use Rattle.cluster_ties.proofs.Moves.{and_on, nowhere}

-- Some node is asked for attempt q.
abbrev pub IsAsk : ℕ → sharing.Event → Type 0
IsAsk q (sharing.Ask p n quorum) = p ≡ q
IsAsk q _ = ⊥

abbrev pub AreAsks : ℕ → List sharing.Event → Type 0
AreAsks q [] = Unit {0}
AreAsks q (e ∷ events) = IsAsk q e × AreAsks q events

true_false : (b : Bool) → b ≡ true → b ≡ false → ⊥
true_false b h k = cc

-- Where all have promised before, nodes are asked and nothing else.
pub only_asks : (q : ℕ) (members : ℕ → Bool) (s : Sharing) (events : List sharing.Event) → (s.attempt q).collected ≡ true → All (IsAsking q members) events → MayCome s events → AreAsks q events
only_asks q members s [] collected asking may = tt
only_asks q members s (e ∷ events) collected asking may =
    go e (All-head (IsAsking q members) e events asking) may.0 (λ still. only_asks q members (sharing.after s e) events still (All-tail (IsAsking q members) e events asking) may.1)
  where
    go : (x : sharing.Event) → IsAsking q members x → sharing.Allowed s x → (((sharing.after s x).attempt q).collected ≡ true → AreAsks q events) → IsAsk q x × AreAsks q events
    go (sharing.Ask p n quorum) is allowed rest = (
      is,
      rest (subst (λ z. ((sharing.after s (sharing.Ask z n quorum)).attempt q).collected ≡ true) (sym is)
          (ap (λ a. a.collected) (put_here s.attempt q _) ∙ collected)),
    )
    go (sharing.Collected p all) is allowed rest = absurd (true_false (s.attempt q).collected collected (subst (λ z. (s.attempt z).collected ≡ false) is.0 allowed.1))
    go _ is allowed rest = absurd is

-- One more is asked.

ask_is_command : (q : ℕ) (e : sharing.Event) → IsAsk q e → whole.is_command e ≡ true
ask_is_command q (sharing.Ask p n quorum) h = refl
ask_is_command q _ h = absurd h

ask_writes_nothing : (q : ℕ) (W : Whole) (e : sharing.Event) → IsAsk q e → whole.WritesAsMember W.memberships e
ask_writes_nothing q W (sharing.Ask p n quorum) h = tt
ask_writes_nothing q W _ h = absurd h

-- it changes no node and nothing of the device
pub record Same (s t : Sharing) : Type 0 where
  pub node : t.node ≡ s.node
  pub device : t.device ≡ s.device

pub ask_same : (q : ℕ) (s : Sharing) (e : sharing.Event) → IsAsk q e → Same s (sharing.after s e)
ask_same q s (sharing.Ask p n quorum) h = record { node = refl; device = refl }
ask_same q s _ h = absurd h

ask_is_others : (n q p : ℕ) (e : sharing.Event) → coordinator q ≡ n → coordinator p ≢ n → IsAsk q e → IsOthers p e
ask_is_others n q p (sharing.Ask r m quorum) own other is = λ same. other (ap coordinator (sym same ∙ is) ∙ own)
ask_is_others n q p _ own other is = absurd is

ask_moves : (S : Setting) (W : Whole) (n q d : ℕ) (e : sharing.Event) → coordinator q ≡ n → IsAsk q e → sharing.Allowed (W.device d) e → Moves S W n (whole.after W (Command d e))
ask_moves S W n q d e own is may = record {
  events = Command d e ∷ [];
  run = ((ask_is_command q e is, may, ask_writes_nothing q W e is), refl);
  others = λ k ne. refl;
  others_at = λ j k ne. at j (λ s. s.node k ≡ (W.device j).node k) (λ same. subst (λ z. (sharing.after (W.device d) e).node k ≡ (W.device z).node k) (sym same) (ap (λ f. f k) (ask_same q (W.device d) e is).node)) refl;
  attempts = λ a ne h j. at j (λ s. DeviceHas s a j)
      (λ same. subst (λ z. DeviceHas (sharing.after (W.device d) e) a z) (sym same) (others_leave (W.device d) e a d (h d) may (ask_is_others n q a.plan.epoch e own ne is))) (h j);
}
  where
    at : (j : ℕ) (P : Sharing → Type 0) → (j ≡ d → P (sharing.after (W.device d) e)) → P (W.device j) → P ((whole.after W (Command d e)).device j)
    at j P here there = go (same_or_not j d)
      where
        go : (j ≡ d) ⊎ (j ≢ d) → P ((whole.after W (Command d e)).device j)
        go (inl same) = subst (λ z. P ((whole.after W (Command d e)).device z)) (sym same) (subst P (sym (put_here W.device d (sharing.after (W.device d) e))) (here same))
        go (inr ne) = subst P (sym (put_there W.device d (sharing.after (W.device d) e) j ne)) there

-- All that are asked at one device.
pub record AskedAt (S : Setting) (W : Whole) (n d : ℕ) (t : Sharing) : Type 0 where
  pub machine : Whole
  pub moves : Moves S W n machine
  pub memberships : machine.memberships ≡ W.memberships
  pub here : machine.device d ≡ t
  pub there : (k : ℕ) → k ≢ d → machine.device k ≡ W.device k

asked_from : (S : Setting) (W : Whole) (n q d : ℕ) (s : Sharing) (events : List sharing.Event) → W.device d ≡ s → coordinator q ≡ n → AreAsks q events → MayCome s events → AskedAt S W n d (all_after s events)
asked_from S W n q d s [] is own asks may = record { machine = W; moves = nowhere S W n; memberships = refl; here = is; there = λ k ne. refl }
asked_from S W n q d s (e ∷ events) is own asks may =
    let V : Whole = whole.after W (Command d e) in
    let one : Moves S W n V = ask_moves S W n q d e own asks.0 (subst (λ z. sharing.Allowed z e) (sym is) may.0) in
    let rest : AskedAt S V n d (all_after (sharing.after s e) events) =
    asked_from S V n q d (sharing.after s e) events (put_here W.device d (sharing.after (W.device d) e) ∙ ap (λ z. sharing.after z e) is) own asks.1 may.1 in
    record {
      machine = rest.machine;
      moves = and_on S W V rest.machine n one rest.moves;
      memberships = rest.memberships;
      here = rest.here;
      there = λ k ne. rest.there k ne ∙ put_there W.device d (sharing.after (W.device d) e) k ne;
    }

-- All that are asked at the devices below a number.
pub record AskedBelow (S : Setting) (W : Whole) (n : ℕ) (events : ℕ → List sharing.Event) (k : ℕ) : Type 0 where
  pub machine : Whole
  pub moves : Moves S W n machine
  pub memberships : machine.memberships ≡ W.memberships
  pub below : (d : ℕ) → d < k → machine.device d ≡ all_after (W.device d) (events d)
  pub above : (d : ℕ) → k ≤ d → machine.device d ≡ W.device d

pub asked_below : (S : Setting) (W : Whole) (n q : ℕ) (events : ℕ → List sharing.Event) (k : ℕ) → coordinator q ≡ n → ((d : ℕ) → AreAsks q (events d)) → ((d : ℕ) → MayCome (W.device d) (events d))
    → AskedBelow S W n events k
asked_below S W n q events zero own asks may = record { machine = W; moves = nowhere S W n; memberships = refl; below = λ d h. absurd (none d h); above = λ d h. refl }
  where
    none : (d : ℕ) → d < 0 → ⊥
    none d h = omega (arith, h)
asked_below S W n q events (suc k) own asks may =
    let before : AskedBelow S W n events k = asked_below S W n q events k own asks may in
    let here : before.machine.device k ≡ W.device k = before.above k (self k) in
    let one : AskedAt S before.machine n k (all_after (W.device k) (events k)) = asked_from S before.machine n q k (W.device k) (events k) here own (asks k) (may k) in
    record {
      machine = one.machine;
      moves = and_on S W before.machine one.machine n before.moves one.moves;
      memberships = one.memberships ∙ before.memberships;
      below = λ d h. by_place d (same_or_not d k) h before one;
      above = λ d h. one.there d (higher d h) ∙ before.above d (lower d h);
    }
  where
    self : (a : ℕ) → a ≤ a
    self a = omega arith

    higher : (d : ℕ) → suc k ≤ d → d ≢ k
    higher d h e = absurd (out d h e)
      where
        out : (x : ℕ) → suc k ≤ x → x ≡ k → ⊥
        out x l s = omega (arith, l, s)

    lower : (d : ℕ) → suc k ≤ d → k ≤ d
    lower d h = omega (arith, h)

    less : (d : ℕ) → d < suc k → d ≢ k → d < k
    less d h ne = grind arith

    by_place : (d : ℕ) → (d ≡ k) ⊎ (d ≢ k) → d < suc k → (b : AskedBelow S W n events k) (o : AskedAt S b.machine n k (all_after (W.device k) (events k))) → o.machine.device d ≡ all_after (W.device d) (events d)
    by_place d (inl e) h b o = subst (λ z. o.machine.device z ≡ all_after (W.device z) (events z)) (sym e) o.here
    by_place d (inr ne) h b o = o.there d ne ∙ b.below d (less d h ne)
