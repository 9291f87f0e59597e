-- What a Collect and a Promise in the trace tell of the machine.
use Rattle.std.specs.Prelude.{ℕ, ◌≡◌, ◌⊎◌, true, false, List, Some}
use Rattle.attempt_laws.specs.Machine.{record_in}
use Rattle.history.specs.Letters.{Letter}
use Rattle.history.specs.Member.{attempt_of, promised_to}
use Rattle.history.specs.Moment.{Moment}
use Rattle.history.specs.Names.{Name, named}
use Rattle.history.specs.Order.{Always}
use Rattle.history.specs.Trace.{sent}
use Rattle.membership_machine.specs.Records.{Saved}
use Rattle.membership_machine.specs.State.{Memberships}
use Rattle.wire.specs.Reads.{whole_of}
use Rattle.wire.specs.declared.message.Body.{Body}
use Rattle.wire.specs.declared.message.Body.TheVariants as body
use Rattle.wire.specs.declared.message.Message.{Message}
use Rattle.world_model.specs.Sends.{name_of}

-- what the node showed in q; or, once it has installed q, the base of q, as long as q has not started
abbrev pub ShowsSo : Memberships → ℕ → ℕ → Saved → Type 0
ShowsSo M q n r =
    ((M.node n).showed q ≡ r)
    ⊎ ((r.installed ≡ q) × ((M.epoch q).counted ≡ true) × ((M.epoch q).started ≡ false → r.entries ≡ (M.epoch q).base))

pub record PromiseSound (M : Memberships) (before : List Moment) (n q : ℕ) (r : Saved) : Type 0 where
  pub asked : promised_to before ≡ Some q
  pub tried : (M.epoch q).tried ≡ true
  pub member : (M.epoch q).members n ≡ true
  pub answered : (M.node n).answered q ≡ true
  pub shows : ShowsSo M q n r

pub record CollectSound (M : Memberships) (before : List Moment) (n to q : ℕ) : Type 0 where
  pub last : attempt_of n before ≡ Some q
  pub tried : (M.epoch q).tried ≡ true
  pub member : (M.epoch q).members to ≡ true

-- sent by n
abbrev pub BodySound : Memberships → List Moment → ℕ → ℕ → Body → Type 0
BodySound M before n to (body.Collect q members) = CollectSound M before n to q
BodySound M before n to (body.Promise q installed members valid flagged committed pending) =
    PromiseSound M before n q (record_in (body.Promise q installed members valid flagged committed pending))
BodySound M before n to b = Unit {0}

-- what can be read of it has the name
abbrev pub BytesSound : Memberships → List Moment → ℕ → ℕ → Name → List ℕ → Type 0
BytesSound M before n to called bytes =
    (m : Message) → whole_of bytes ≡ Some m → (called ≡ named (name_of m.body)) × BodySound M before n to m.body

abbrev pub IsSound : Memberships → List Moment → Moment → Type 0
IsSound M before (sent p n to called bytes) = BytesSound M before n to (named called) bytes
IsSound M before x = Unit {0}

abbrev pub AllSound : Memberships → List Moment → Type 0
AllSound M moments = Always (IsSound M) moments

abbrev pub LetterSound : Memberships → Letter → Type 0
LetterSound M l = BytesSound M l.before l.from l.to l.name l.bytes
