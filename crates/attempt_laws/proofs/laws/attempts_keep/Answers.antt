use Rattle.std.proofs.Common.{refl}
use Rattle.cmm_attempt.specs.Attempts.{beginning, first_state, promises_of}
use Rattle.cmm_attempt.specs.Promises.{promised_by, shown_by}
use Rattle.attempt_laws.specs.Laws.{FirstWishIsNewest, FirstWishWaits}
use Rattle.attempt_laws.proofs.Causes.{caused_by_call, caused_begun}
use Rattle.attempt_laws.proofs.Goes.{all_have_promised}
use Rattle.attempt_laws.proofs.Starts.{starts_are_counted, ends_once}
use Rattle.attempt_laws.proofs.Held.{held_is_told}
use Rattle.attempt_laws.proofs.laws.attempts_keep.Goals as goal

first_newest : FirstWishIsNewest
unfolding beginning
first_newest p members own attached cluster n h =
    (caused_begun (first_state p members own attached cluster (promises_of (promised_by own (shown_by own.sender own.body)))) refl).wish n h

first_waits : FirstWishWaits
unfolding beginning
first_waits p members own attached cluster n h =
    (caused_begun (first_state p members own attached cluster (promises_of (promised_by own (shown_by own.sender own.body)))) refl).waits n h

pub returns : goal.returns
returns c = record {
  starts = starts_are_counted;
  held = held_is_told;
  ends = λ s c e h. (caused_by_call s c).end e h;
  promised = all_have_promised;
  newest = λ s c n h. (caused_by_call s c).wish n h;
  first = first_newest;
  waits = λ s c n h. (caused_by_call s c).waits n h;
  first_waits = first_waits;
  over = λ s c e h. (caused_by_call s c).over e h;
  once = ends_once;
}
