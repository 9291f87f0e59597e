-- What is short enough to be spelled.
use Rattle.std.proofs.Common.{◌≡◌, ℕ, zero, suc, ◌<◌, List, [], ◌∷◌, length, get_or, take, subst, arith}
use Rattle.std.specs.List.{AllByRecursion}
use Rattle.wire.specs.declared.lists.Reading.{Reading}
use Rattle.wire.specs.declared.report.GroupReport.{GroupReport}
use Rattle.cl_base.specs.Seizings.{SeizeResult}
use Rattle.cl_base.specs.declared.seizing.SeizeEnd.TheVariants as seized
use Rattle.wire.specs.declared.message.Body.{Body}
use Rattle.wire.specs.declared.message.Body.TheVariants as body
use Rattle.wire.specs.Spelling.{IsShortReading, IsShortGroup, IsShortResult, IsShort, FitsReading, FitsGroup, FitsResult, FitsBody}

-- a list of items of which nothing is asked
pub all_unit : (xs : List ℕ) → AllByRecursion (λ (_ : ℕ). Unit {0}) xs
all_unit [] = tt
all_unit (x ∷ xs) = (tt, all_unit xs)

readings_short : (xs : List Reading) → AllByRecursion FitsReading xs → AllByRecursion IsShortReading xs
readings_short [] f = tt
readings_short (x ∷ xs) f = (f.0.2.0, readings_short xs f.1)

groups_short : (xs : List GroupReport) → AllByRecursion FitsGroup xs → AllByRecursion IsShortGroup xs
groups_short [] f = tt
groups_short (x ∷ xs) f = (f.0.0, groups_short xs f.1)

result_short : (r : SeizeResult) → FitsResult r → IsShortResult r
result_short (seized.Held keys) f = f.0
result_short (seized.NotRegistered keys) f = f.0
result_short (seized.Greater w) f = tt
result_short seized.Expelled f = tt
result_short (seized.Contended key) f = tt
result_short seized.Fault f = tt

-- what was decoded can be encoded
pub body_short : (b : Body) → FitsBody b → IsShort b
body_short (body.Heartbeat promised session member) f = tt
body_short (body.Collect epoch members) f = tt
body_short (body.Promise epoch installed members valid flagged committed pending) f = (f.4, f.5)
body_short (body.Nack epoch promised) f = tt
body_short (body.SeizeQuorum epoch members device) f = tt
body_short (body.SeizeData epoch members device) f = tt
body_short (body.Seized epoch device outcome) f = result_short outcome f.2
body_short (body.Install i) f = (f.2, f.3, (f.4.0, readings_short i.readings f.4.1))
body_short (body.Ready epoch joined told) f = (f.2.0, (f.2.1.0, groups_short told.groups f.2.1.1))
body_short (body.Start epoch) f = tt
body_short (body.Prepare epoch place update) f = f.2
body_short (body.Prepared epoch place) f = tt
body_short (body.Commit epoch place) f = tt
body_short (body.Order o) f = f.2
body_short (body.Done epoch order outcome) f = tt
body_short (body.Request epoch request words) f = f.2
body_short (body.Answer epoch request words) f = f.2
body_short (body.Excluded epoch newest) f = tt

-- one more item of a list
pub all_more : {A : Type 0} (P : A → Type 0) (xs : List A) (i : ℕ) (x : A) → i < length xs → x ≡ get_or xs i x → P x → AllByRecursion P (take i xs) → AllByRecursion P (take (suc i) xs)
all_more P [] i x lt is px all = absurd (omega arith)
all_more P (y ∷ ys) zero x lt is px all = (subst P is px, tt)
all_more P (y ∷ ys) (suc i) x lt is px all = (all.0, all_more P ys i x (omega arith) is px all.1)
