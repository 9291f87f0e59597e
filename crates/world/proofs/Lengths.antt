-- A message of a packet's size is short enough to be spelled.
use Rattle.std.proofs.Common.{◌≡◌, ℕ, ◌*◌, ◌^◌, ◌≤◌, ◌<◌, nat_le, nat_lt, ◌&&◌, if◌then◌else◌, Bool, false, sym, ap, inl, inr, List, [], ◌∷◌, length, Option, None, Some, IfSome, arith}
use Rattle.std.proofs.lemmas.Bool.{cases_lt, lt-leb}
use Rattle.std.specs.List.{sum_by, AllByRecursion}
use Rattle.std.specs.Option.{option_to_list}
use Rattle.std.proofs.lemmas.List.Sums.{sum_by-cons}
use Rattle.cl_base.specs.Seizings.{SeizeResult}
use Rattle.cl_base.specs.declared.seizing.SeizeEnd.TheVariants as seized
use Rattle.wire.specs.declared.lists.Reading.{Reading}
use Rattle.wire.specs.declared.report.ResourceReport.{ResourceReport}
use Rattle.wire.specs.declared.report.GroupReport.{GroupReport}
use Rattle.wire.specs.declared.message.Body.{Body}
use Rattle.wire.specs.declared.message.Body.TheVariants as body
use Rattle.wire.specs.declared.message.Message.{Message}
use Rattle.wire.specs.Lengths.{text_length, list_length, reading_length, resource_length, group_length, result_length, fields_length}
use Rattle.wire.specs.Spelling.{spelling, IsShort, IsShortText, IsShortList, IsShortReading, IsShortResource, IsShortGroup, IsShortResult}
use Rattle.wire.proofs.Lengths.{spellings}
use Rattle.interconnect.specs.Links.{sending}
use Rattle.world_model.specs.Sends.{posting, sent_as}
use Rattle.world_model.specs.Worlds.{Play}

sum_least : {A : Type 0} (len : A → ℕ) → ((x : A) → 4 ≤ len x) → (xs : List A) → 4 * length xs ≤ sum_by len xs
sum_least len least [] = omega arith
sum_least len least (x ∷ xs) = omega (arith, sum_by-cons len x xs, least x, sum_least len least xs)

longer : (n : ℕ) → (n ≤ 131072 → ⊥) → 131072 < n
longer n more = elim (cases_lt 131072 n) [ inl lt ↦ lt | inr le ↦ absurd (more le) ]

each_short : {A : Type 0} (len : A → ℕ) (P : A → Type 0) → ((x : A) → len x ≤ 131072 → P x) → (xs : List A) → sum_by len xs ≤ 131072 → AllByRecursion P xs
each_short len P short [] le = tt
each_short len P short (x ∷ xs) le =
    (short x (omega (arith, sum_by-cons len x xs, le)), each_short len P short xs (omega (arith, sum_by-cons len x xs, le)))

list_short : {A : Type 0} (len : A → ℕ) (P : A → Type 0) → ((x : A) → 4 ≤ len x) → ((x : A) → len x ≤ 131072 → P x) → (xs : List A) → list_length len xs ≤ 131072 → IsShortList P xs
list_short len P least short xs le = (omega (arith, sum_least len least xs, le), each_short len P short xs (omega (arith, le)))

texts_short : (ts : List (List ℕ)) → list_length text_length ts ≤ 131072 → IsShortList IsShortText ts
texts_short ts le = list_short text_length IsShortText (λ t. omega arith) (λ t fits. omega (arith, fits)) ts le

pending_short : (pending : Option (List ℕ)) → list_length text_length (option_to_list pending) ≤ 131072 → IfSome pending IsShortText
pending_short None le = tt
pending_short (Some t) le = omega (arith, le)

readings_short : (rs : List Reading) → list_length reading_length rs ≤ 131072 → IsShortList IsShortReading rs
readings_short rs le = list_short reading_length IsShortReading (λ r. omega arith) (λ r fits. omega (arith, fits)) rs le

resources_short : (rs : List ResourceReport) → list_length resource_length rs ≤ 131072 → IsShortList IsShortResource rs
resources_short rs le = list_short resource_length IsShortResource (λ r. omega arith) (λ r fits. omega (arith, fits)) rs le

groups_short : (gs : List GroupReport) → list_length group_length gs ≤ 131072 → IsShortList IsShortGroup gs
groups_short gs le = list_short group_length IsShortGroup (λ g. omega arith) (λ g fits. omega (arith, fits)) gs le

result_short : (r : SeizeResult) → result_length r ≤ 131072 → IsShortResult r
result_short (seized.Held keys) le = omega (arith, le)
result_short (seized.NotRegistered keys) le = omega (arith, le)
result_short (seized.Greater w) le = tt
result_short seized.Expelled le = tt
result_short (seized.Contended key) le = tt
result_short seized.Fault le = tt

fields_short : (b : Body) → fields_length b ≤ 131072 → IsShort b
fields_short (body.Heartbeat promised session member) le = tt
fields_short (body.Collect epoch members) le = tt
fields_short (body.Promise epoch installed members valid flagged committed pending) le = (texts_short committed (omega (arith, le)), pending_short pending (omega (arith, le)))
fields_short (body.Nack epoch promised) le = tt
fields_short (body.SeizeQuorum epoch members device) le = tt
fields_short (body.SeizeData epoch members device) le = tt
fields_short (body.Seized epoch device outcome) le = result_short outcome (omega (arith, le))
fields_short (body.Install i) le = (texts_short i.committed (omega (arith, le)), pending_short i.pending (omega (arith, le)), readings_short i.readings (omega (arith, le)))
fields_short (body.Ready epoch joined told) le = (resources_short told.resources (omega (arith, le)), groups_short told.groups (omega (arith, le)))
fields_short (body.Start epoch) le = tt
fields_short (body.Prepare epoch place update) le = omega (arith, le)
fields_short (body.Prepared epoch place) le = tt
fields_short (body.Commit epoch place) le = tt
fields_short (body.Order o) le = omega (arith, le)
fields_short (body.Done epoch order outcome) le = tt
fields_short (body.Request epoch request words) le = omega (arith, le)
fields_short (body.Answer epoch request words) le = omega (arith, le)
fields_short (body.Excluded epoch newest) le = tt

-- what has a packet's size can be spelled
pub short_if : (m : Message) → length (spelling m) ≤ 131072 → IsShort m.body
short_if m le = fields_short m.body (omega (arith, spellings m, le))

-- what can't be spelled is longer than a packet
pub too_long : (m : Message) → (IsShort m.body → ⊥) → nat_le (length (spelling m)) 131072 ≡ false
too_long m long = lt-leb _ _ (longer (length (spelling m)) (λ le. long (short_if m le)))

-- so it is not sent
pub not_posted : (from to : ℕ) (b : Body) (p : Play) → (IsShort b → ⊥) → p ≡ posting from to (record { sender = from; body = b }) p
not_posted from to b p long =
    let m : Message = record { sender = from; body = b } in
    sym (ap (λ (fits : Bool). if fits && nat_lt p.world.links.next (2 ^ 63) then sent_as from to m (sending p.world.links from to (spelling m)) p else p)
    (too_long m long))
