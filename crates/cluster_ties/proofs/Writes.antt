-- A member writes to a device.
use Rattle.std.specs.Prelude.{ℕ, ◌≡◌, ◌≢◌, ◌⊎◌, [], ◌∷◌, Option, None, Some}
use Rattle.std.proofs.Common.{refl, sym, ap, subst, ◌∙◌, inl, inr}
use Rattle.attempt_laws.specs.Asking.{DeviceHas}
use Rattle.attempt_laws.proofs.Left.{others_leave}
use Rattle.cluster_machine.specs.Cluster as whole
use Rattle.cluster_machine.specs.Cluster.{Cluster as Whole, Command}
use Rattle.cmm_attempt.specs.Attempts.{AttemptState}
use Rattle.device_machine.specs.Growth.{AttemptGrows}
use Rattle.device_machine.proofs.Growth.{attempt_same}
use Rattle.device_machine.specs.Sharing as sharing
use Rattle.device_machine.specs.Sharing.{Sharing}
use Rattle.device_ties.specs.Commands.{executed}
use Rattle.device_ties.specs.Devices.{DeviceTied}
use Rattle.device_ties.proofs.Others.{write_commands}
use Rattle.machine_base.specs.Put.{put}
use Rattle.machine_base.proofs.Puts.{put_here, put_there, same_or_not}
use Rattle.pgr_device.specs.Device as pgr
use Rattle.pgr_device.specs.declared.command.PrCommand.TheVariants as command
use Rattle.cluster_ties.specs.Ties.{AttemptAt}
use Rattle.cluster_ties.specs.Moves.{DeviceGoes}
use Rattle.cluster_ties.specs.Laws.{WritesGo}
use Rattle.cluster_ties.proofs.Commands.{put_tied}
use Rattle.cluster_ties.proofs.Frames.{up_stays}
use Rattle.cluster_ties.proofs.Moves.{nowhere}

-- What holds of one device alone holds of it after the write, since that changes what is written to it and nothing else.
abbrev stored : Whole → ℕ → ℕ → ℕ → Whole
stored W d n value = whole.after W (Command d (sharing.Write n value))

at_each : (W : Whole) (n d value e : ℕ) (P : Sharing → Type 0) → ((e ≡ d) → P (sharing.after (W.device d) (sharing.Write n value))) → P (W.device e) → P ((stored W d n value).device e)
at_each W n d value e P here there = go (same_or_not e d)
  where
    go : (e ≡ d) ⊎ (e ≢ d) → P ((stored W d n value).device e)
    go (inl is) = subst (λ k. P ((stored W d n value).device k)) (sym is) (subst P (sym (put_here W.device d (sharing.after (W.device d) (sharing.Write n value)))) (here is))
    go (inr ne) = subst P (sym (put_there W.device d (sharing.after (W.device d) (sharing.Write n value)) e ne)) there

same_parts : (W : Whole) (n d value e : ℕ) → (((stored W d n value).device e).node ≡ (W.device e).node) × (((stored W d n value).device e).attempt ≡ (W.device e).attempt)
same_parts W n d value e =
    at_each W n d value e (λ s. (s.node ≡ (W.device e).node) × (s.attempt ≡ (W.device e).attempt))
    (λ is. subst (λ k. ((W.device d).node ≡ (W.device k).node) × ((W.device d).attempt ≡ (W.device k).attempt)) (sym is) (refl, refl)) (refl, refl)

node_of : (W : Whole) (n d value e k : ℕ) → ((stored W d n value).device e).node k ≡ (W.device e).node k
node_of W n d value e k = ap (λ f. f k) (same_parts W n d value e).0

grown_at : (W : Whole) (n d value e q : ℕ) → AttemptGrows ((W.device e).attempt q) (((stored W d n value).device e).attempt q)
grown_at W n d value e q = subst (λ f. AttemptGrows ((W.device e).attempt q) (f q)) (sym (same_parts W n d value e).1) (attempt_same ((W.device e).attempt q))

has_at : (W : Whole) (n d value e : ℕ) (a : AttemptState) → sharing.Allowed (W.device d) (sharing.Write n value) → AttemptAt W (Some a) → DeviceHas ((stored W d n value).device e) a e
has_at W n d value e a may h =
    at_each W n d value e (λ s. DeviceHas s a e) (λ is. subst (λ k. DeviceHas (sharing.after (W.device d) (sharing.Write n value)) a k) (sym is) (others_leave (W.device d) (sharing.Write n value) a d (h d) may tt)) (h e)

attempts_at : (W : Whole) (n d value : ℕ) (o : Option AttemptState) → sharing.Allowed (W.device d) (sharing.Write n value) → AttemptAt W o → AttemptAt (stored W d n value) o
attempts_at W n d value None may h = tt
attempts_at W n d value (Some a) may h = λ e. has_at W n d value e a may h

pub writes_go : WritesGo
writes_go S c W n x devices f d value reached tied at member joined = by_cases (write_commands c.id n (W.device d) (devices d) f value (tied d) ((at.marks d).joined ∙ joined))
  where
    p : pgr.Device
    p = executed f (devices d) n (command.Write value)

    by_cases : (sharing.Allowed (W.device d) (sharing.Write n value) × DeviceTied c.id p (sharing.after (W.device d) (sharing.Write n value)).device) ⊎ DeviceTied c.id p (W.device d).device
        → DeviceGoes S c W n (put devices d p) x
    by_cases (inr same) = record {
      machine = W;
      moves = nowhere S W n;
      memberships = refl;
      devices_so = put_tied c W W devices d p (W.device d) refl (λ k ne. refl) same tied;
      at = at;
    }
    by_cases (inl taken) =
        let V : Whole = stored W d n value in
        record {
          machine = V;
          moves = record {
            events = Command d (sharing.Write n value) ∷ [];
            run = ((refl, taken.0, member), refl);
            others = λ k ne. refl;
            others_at = λ e k ne. node_of W n d value e k;
            attempts = λ a ne h e. has_at W n d value e a taken.0 h;
          };
          memberships = refl;
          devices_so = put_tied c W V devices d p (sharing.after (W.device d) (sharing.Write n value)) (put_here W.device d (sharing.after (W.device d) (sharing.Write n value)))
              (λ k ne. put_there W.device d (sharing.after (W.device d) (sharing.Write n value)) k ne) taken.1 tied;
          at = up_stays c W V n x (λ e. node_of W n d value e n) (λ e q. grown_at W n d value e q) (attempts_at W n d value x.attempt taken.0) at;
        }
