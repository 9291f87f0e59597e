-- The steps of a task at one device are commands of the whole.
use Rattle.std.proofs.Common.{◌≡◌, ℕ, true, refl, sym, ap, subst, ◌∙◌, [], ◌∷◌}
use Rattle.machine_base.proofs.Puts.{put_here, put_there}
use Rattle.membership_machine.specs.State.{Memberships}
use Rattle.device_machine.specs.Sharing as sharing
use Rattle.device_machine.specs.Sharing.{Sharing, Event}
use Rattle.cluster_machine.specs.Cluster.{Command, MayCome, all_after, is_command, WritesAsMember, after}
use Rattle.device_ties.specs.Moves.{IsBy, WholeMoved}
use Rattle.device_ties.specs.Laws.{MovesOfTheWhole}

is_one : (n : ℕ) (w : Memberships) (e : Event) → IsBy n e → (is_command e ≡ true) × WritesAsMember w e
is_one n w (sharing.Promise m q) h = absurd h
is_one n w (sharing.Crash m) h = absurd h
is_one n w (sharing.Collected q members) h = absurd h
is_one n w (sharing.Ask q m quorum) h = absurd h
is_one n w (sharing.Count_with q) h = absurd h
is_one n w (sharing.Count_without q) h = absurd h
is_one n w (sharing.Install_apart m) h = absurd h
is_one n w (sharing.Install_seizer m) h = absurd h
is_one n w (sharing.Install_known m) h = absurd h
is_one n w (sharing.Install_new m) h = absurd h
is_one n w (sharing.Write m x) h = absurd h
is_one n w _ h = (refl, tt)

pub moves_of_the_whole : MovesOfTheWhole
moves_of_the_whole S w d n [] own may = record { events = []; machine = w; run = refl; memberships = refl; device = refl; others = λ k ne. refl }
moves_of_the_whole S w d n (e ∷ es) own may =
    on (moves_of_the_whole S (after w (Command d e)) d n es own.1 (subst (λ u. MayCome u es) (sym (put_here w.device d (sharing.after (w.device d) e))) may.1))
  where
    on : WholeMoved S (after w (Command d e)) d (all_after ((after w (Command d e)).device d) es) → WholeMoved S w d (all_after (w.device d) (e ∷ es))
    on m = let one = is_one n w.memberships e own.0 in record {
      events = Command d e ∷ m.events;
      machine = m.machine;
      run = ((one.0, may.0, one.1), m.run);
      memberships = m.memberships;
      device = m.device ∙ ap (λ u. all_after u es) (put_here w.device d (sharing.after (w.device d) e));
      others = λ k ne. m.others k ne ∙ put_there w.device d (sharing.after (w.device d) e) k ne;
    }
