-- Each membership of a run starts with a majority of the votes under its base.
use Rattle.std.specs.Prelude.{ℕ, ◌≡◌, List}
use Rattle.std.specs.List.{AllByRecursion}
use Rattle.std.proofs.Common.{refl, sym, ap, subst, ◌∙◌}
use Rattle.history.specs.Deeds.{deeds}
use Rattle.history.specs.Setting as history
use Rattle.history.specs.Starts.{Start, starts}
use Rattle.membership_machine.specs.Invariant.{Holds}
use Rattle.membership_machine.specs.State.{Memberships, first_memberships}
use Rattle.node_model.specs.declared.cluster.Cluster.{Cluster}
use Rattle.quorum_votes.specs.Quorum.{IsMajority}
use Rattle.refinement.specs.Ties.{setting_of, votes_under}
use Rattle.run_history.proofs.DeedRuns.{run_books, runs_are_cut}
use Rattle.run_history.specs.Booking.{Books}
use Rattle.run_history.specs.Cuts.{all_events}
use Rattle.run_history.specs.Runs.{CutsOf, moments_of}
use Rattle.run_history.proofs.StartRuns.{starts_of_each_run}
use Rattle.run_history.specs.Starts.{StartTold}
use Rattle.world_model.specs.First.{first_cluster}
use Rattle.run_history.specs.Happenings.{all_happened}
use Rattle.run_history.specs.Scenes.{first_scene}
use Rattle.run_history.proofs.Majorities.{majority_of}
use Rattle.run_history.proofs.Starts.{OfDeeds, bases_of, both_of, each_start, starts_of}
use Rattle.run_history.specs.VoteRuns.{VotesOfEachRun}

-- a start that the machine has, with its base, has a majority
has_majority : (c : Cluster) (M : Memberships) (S : history.Setting) (s : Start) (updates : List (List ℕ)) → Holds (setting_of c) M → ((us : List (List ℕ)) → S.votes us ≡ votes_under c us)
    → StartTold M s → (M.epoch s.epoch).base ≡ updates → IsMajority (S.votes updates) s.members s.held
has_majority c M S s updates i counts told base =
    subst (λ t. IsMajority t s.members s.held) (ap (λ us. votes_under c us) base ∙ sym (counts updates))
    (majority_of (setting_of c) (votes_under c (M.epoch s.epoch).base) s.members s.held (M.epoch s.epoch).members (M.epoch s.epoch).holds refl refl told.members told.held
    ((i.epoch s.epoch).majority_base told.counted))

pub votes_of_each_run : VotesOfEachRun
votes_of_each_run h cells hs S counts few may =
    let c : Cluster = first_cluster h in
    let cuts : CutsOf h cells hs = runs_are_cut h cells hs in
    let b : Books c (all_happened c (first_scene h cells) hs) first_memberships (all_events c (first_scene h cells) hs cuts) = run_books h cells hs cuts few may in
    let M : Memberships = b.machine in
    let told : AllByRecursion (StartTold M) (starts (moments_of h cells hs)) = starts_of_each_run h cells hs cuts M few may b.run in
    let bases : OfDeeds (λ s updates. (M.epoch s.epoch).base ≡ updates) (deeds (moments_of h cells hs)) =
    bases_of (λ q updates. (M.epoch q).base ≡ updates) (deeds (moments_of h cells hs)) b.booking.ledger.booked.differ (λ q is. sym ((b.booking.ledger.booked.told q).line is).1) in
    each_start (λ s updates. IsMajority (S.votes updates) s.members s.held) (moments_of h cells hs)
    (both_of (λ s updates. StartTold M s) (λ s updates. (M.epoch s.epoch).base ≡ updates) (λ s updates. IsMajority (S.votes updates) s.members s.held) (deeds (moments_of h cells hs))
    (λ s updates so base. has_majority c M S s updates b.booking.holds counts so base) (starts_of (StartTold M) (moments_of h cells hs) told) bases)
