-- The book from state to state, and what follows of the last.
use Rattle.std.specs.Prelude.{◌++◌, false, List, [], ◌∷◌}
use Rattle.std.proofs.Common.{refl}
use Rattle.history.specs.Deeds.{Deed, deeds}
use Rattle.history.specs.History.{Repository}
use Rattle.history.specs.Moment.{Moment}
use Rattle.history.proofs.Keeping.{kept}
use Rattle.membership_machine.specs.Growth.{Grows}
use Rattle.membership_machine.specs.Invariant.{Holds}
use Rattle.membership_machine.specs.Starts.{DevicesMeet}
use Rattle.membership_machine.specs.State.{Memberships, first_memberships}
use Rattle.membership_machine.specs.Votes.{Setting}
use Rattle.membership_machine.proofs.Growth.{grows_over, grows_same}
use Rattle.run_history.specs.Book.{AtMostOne, Booked, Ledger, story}
use Rattle.run_history.proofs.Lineages.{lineage_of, met_before}
use Rattle.run_history.proofs.Stories.{false_true, fresh}

pub goes_on : (S : Setting) (M N : Memberships) (ds more : List Deed) → Ledger S M ds → Holds S N → Grows M N → AtMostOne more → Booked N (more ++ ds) → Ledger S N (more ++ ds)
goes_on S M N ds [] h i g one b = record { booked = b; judged = λ L k later meet. h.judged L k (grows_over M N L g later) meet }
goes_on S M N ds (d ∷ []) h i g one b =
    record { booked = b; judged = λ L k later meet. (lineage_of S N (d ∷ ds) i (met_before S N L i later meet) b, h.judged L k (grows_over M N L g later) meet) }
goes_on S M N ds (d ∷ e ∷ more) h i g one b = absurd one

-- nothing is told at first
pub first_ledger : (S : Setting) → Ledger S first_memberships []
first_ledger S = record {
  booked = record { told = λ q. fresh (first_memberships.epoch q) q 0 false (story q []) refl refl (refl, refl) (λ h. false_true h) (λ h is. false_true h); differ = tt; placed = tt };
  judged = λ N i g meet. tt;
}

pub repository_of : (S : Setting) (M : Memberships) (ms : List Moment) → Holds S M → DevicesMeet S M → Ledger S M (deeds ms) → Repository ms
repository_of S M ms i meet h = record {
  lineage = h.judged M i (grows_same S M i) meet;
  placed = h.booked.placed;
  kept = kept (deeds ms) (lineage_of S M (deeds ms) i meet h.booked) h.booked.placed;
}
