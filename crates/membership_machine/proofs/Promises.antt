-- Each number that a node has promised was tried.
use Rattle.std.proofs.Common.{ℕ, ◌≡◌, ◌⊎◌, inl, inr, refl, sym, subst, Bool, true, false, List, [], ◌∷◌}
use Rattle.machine_base.specs.Epochs.{coordinator}
use Rattle.machine_base.specs.Put.{put}
use Rattle.machine_base.proofs.Puts.{put_cases, put_here, put_true}
use Rattle.membership_machine.specs.Votes.{Setting}
use Rattle.membership_machine.specs.State.{Node, Epoch, Memberships, first_memberships}
use Rattle.membership_machine.specs.Steps.{promising}
use Rattle.membership_machine.specs.Events.{Event, Begin, Promise, Count, Install, Start, Join, Propose, Propose_lost, Prepare, Acknowledge, Commit, Crash, Allowed, after, Run}
use Rattle.membership_machine.specs.Parts.{PromisesAreTried}

-- of one node
record NodeTried (E : ℕ → Epoch) (n : Node) : Type 0 where
  promised : (n.promised ≡ 0) ⊎ ((E n.promised).tried ≡ true)
  answered : (q : ℕ) → n.answered q ≡ true → (E q).tried ≡ true

-- what was tried stays so
abbrev StillTried : (E E' : ℕ → Epoch) → Type 0
StillTried E E' = (q : ℕ) → (E q).tried ≡ true → (E' q).tried ≡ true

at_epoch : (E : ℕ → Epoch) (q : ℕ) (e : Epoch) → ((E q).tried ≡ true → e.tried ≡ true) → StillTried E (put E q e)
at_epoch E q e h = put_cases (λ k x. (E k).tried ≡ true → x.tried ≡ true) E q e h (λ k ne t. t)

nowhere : (E : ℕ → Epoch) → StillTried E E
nowhere E q t = t

-- a node that promises nothing
keeps : (E E' : ℕ → Epoch) (n n' : Node) → StillTried E E' → n'.promised ≡ n.promised → n'.answered ≡ n.answered → NodeTried E n → NodeTried E' n'
keeps E E' n n' g p a t = record {
  promised = subst (λ q. (q ≡ 0) ⊎ ((E' q).tried ≡ true)) (sym p) (still t.promised);
  answered = λ q h. g q (t.answered q (subst (λ f. f q ≡ true) a h));
}
  where
    still : (n.promised ≡ 0) ⊎ ((E n.promised).tried ≡ true) → (n.promised ≡ 0) ⊎ ((E' n.promised).tried ≡ true)
    still (inl z) = inl z
    still (inr h) = inr (g n.promised h)

promises : (E E' : ℕ → Epoch) (n : Node) (q : ℕ) (seeks : Bool) → StillTried E E' → (E' q).tried ≡ true → NodeTried E n → NodeTried E' (promising n q seeks)
promises E E' n q seeks g tried t = record { promised = inr tried; answered = λ k h. either k (put_true n.answered q k h) }
  where
    either : (k : ℕ) → ((k ≡ q) ⊎ ((k ≡ q → ⊥) × (n.answered k ≡ true))) → (E' k).tried ≡ true
    either k (inl e) = subst (λ j. (E' j).tried ≡ true) (sym e) tried
    either k (inr h) = g k (t.answered k h.1)

-- node m becomes n
one : (w : Memberships) (E' : ℕ → Epoch) (m : ℕ) (n : Node) → StillTried w.epoch E' → NodeTried E' n → ((k : ℕ) → NodeTried w.epoch (w.node k)) → (k : ℕ) → NodeTried E' (put w.node m n k)
one w E' m n g here t = put_cases (λ k x. NodeTried E' x) w.node m n here (λ k ne. keeps w.epoch E' (w.node k) (w.node k) g refl refl (t k))

-- .. which promises nothing
calm : (w : Memberships) (E' : ℕ → Epoch) (m : ℕ) (n : Node) → StillTried w.epoch E' → n.promised ≡ (w.node m).promised → n.answered ≡ (w.node m).answered
    → ((k : ℕ) → NodeTried w.epoch (w.node k)) → (k : ℕ) → NodeTried E' (put w.node m n k)
calm w E' m n g p a t = one w E' m n g (keeps w.epoch E' (w.node m) n g p a (t m)) t

event_tried : (S : Setting) (w : Memberships) (e : Event) → Allowed S w e → ((k : ℕ) → NodeTried w.epoch (w.node k)) → (k : ℕ) → NodeTried (after w e).epoch ((after w e).node k)
event_tried S w (Begin q members) a t =
    one w _ (coordinator q) _ begun (promises w.epoch _ (w.node (coordinator q)) q true begun (subst (λ (x : Epoch). x.tried ≡ true) (sym (put_here w.epoch q _)) refl) (t (coordinator q))) t
  where
    begun : StillTried w.epoch (after w (Begin q members)).epoch
    begun = at_epoch w.epoch q _ (λ h. refl)
event_tried S w (Promise m q) a t = one w w.epoch m _ (nowhere w.epoch) (promises w.epoch w.epoch (w.node m) q false (nowhere w.epoch) a.0 (t m)) t
event_tried S w (Count q n devices) a t = calm w _ (coordinator q) _ (at_epoch w.epoch q _ (λ h. h)) refl refl t
event_tried S w (Install m q) a t = calm w w.epoch m _ (nowhere w.epoch) refl refl t
event_tried S w (Start q) a t = calm w _ (coordinator q) _ (at_epoch w.epoch q _ (λ h. h)) refl refl t
event_tried S w (Join m q) a t = calm w w.epoch m _ (nowhere w.epoch) refl refl t
event_tried S w (Propose q u) a t = calm w _ (coordinator q) _ (at_epoch w.epoch q _ (λ h. h)) refl refl t
event_tried S w (Propose_lost q u) a t = calm w _ (coordinator q) _ (at_epoch w.epoch q _ (λ h. h)) refl refl t
event_tried S w (Prepare m q u) a t = calm w w.epoch m _ (nowhere w.epoch) refl refl t
event_tried S w (Acknowledge q) a t = calm w _ (coordinator q) _ (at_epoch w.epoch q _ (λ h. h)) refl refl t
event_tried S w (Commit m q) a t = calm w w.epoch m _ (nowhere w.epoch) refl refl t
event_tried S w (Crash m) a t = calm w w.epoch m _ (nowhere w.epoch) refl refl t

run_tried : (S : Setting) (w : Memberships) (es : List Event) (v : Memberships) → Run S w es v → ((k : ℕ) → NodeTried w.epoch (w.node k)) → (k : ℕ) → NodeTried v.epoch (v.node k)
run_tried S w [] v r t = subst (λ x. (k : ℕ) → NodeTried x.epoch (x.node k)) (sym r) t
run_tried S w (e ∷ es) v r t = run_tried S (after w e) es v r.1 (event_tried S w e r.0 t)

pub tried_of : (S : Setting) (es : List Event) (w : Memberships) → Run S first_memberships es w → PromisesAreTried w
tried_of S es w r = record { promised = λ m. (reached m).promised; answered = λ m. (reached m).answered }
  where
    reached : (k : ℕ) → NodeTried w.epoch (w.node k)
    reached = run_tried S first_memberships es w r (λ k. record { promised = inl refl; answered = λ q h. absurd (cc) })
