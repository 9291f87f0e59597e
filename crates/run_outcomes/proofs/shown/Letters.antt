-- What was sent stays sent; and what more letters bring.
use Rattle.std.specs.Prelude.{ℕ, ◌≡◌, ◌⊎◌, ◌++◌, List, [], ◌∷◌}
use Rattle.std.specs.List.{AllByRecursion}
use Rattle.std.proofs.Common.{ap, subst, ◌∙◌, inl, inr}
use Rattle.interconnect.specs.Links.{Packet}
use Rattle.node_model.specs.declared.output.Output.{Output}
use Rattle.node_model.specs.declared.output.Output.TheVariants.{Sends, Tells}
use Rattle.refinement.specs.Runs.{IsAmong, Letter, letters_of}
use Rattle.wire.specs.declared.message.Body.{Body}
use Rattle.wire.specs.declared.message.Body.TheVariants as body
use Rattle.run_outcomes.specs.tasks.Shown.{AskSo, AsksData, AsksQuorum, HasShown, Installs, PacketSo, ShowsDevice}

-- ---- more letters

abbrev pub IsMore : List Letter → List Letter → Type 0
IsMore L M = (from : ℕ) (b : Body) → IsAmong from b L → IsAmong from b M

pub shown_more : (L M : List Letter) (n e v : ℕ) → IsMore L M → HasShown L n e v → HasShown M n e v
shown_more L M n e v f k = record { newest = k.newest; members = k.members; flagged = k.flagged; committed = k.committed; pending = k.pending; among = f n _ k.among }

pub data_more : (L M : List Letter) (e d : ℕ) → IsMore L M → AsksData L e d → AsksData M e d
data_more L M e d f k = record { from = k.from; members = k.members; among = f k.from _ k.among }

pub quorum_more : (L M : List Letter) (e d : ℕ) → IsMore L M → AsksQuorum L e d → AsksQuorum M e d
quorum_more L M e d f k = record { from = k.from; members = k.members; among = f k.from _ k.among }

pub installs_more : (L M : List Letter) (e : ℕ) → IsMore L M → Installs L e → Installs M e
installs_more L M e f k = record { from = k.from; install = k.install; epoch = k.epoch; among = f k.from _ k.among }

pub device_more : (L M : List Letter) (n e d : ℕ) → IsMore L M → ShowsDevice L n e d → ShowsDevice M n e d
device_more L M n e d f k = record { valid = k.valid; shown = shown_more L M n e k.valid f k.shown; has_it = k.has_it }

pub ask_more : (L M : List Letter) (to : ℕ) (b : Body) → IsMore L M → AskSo L to b → AskSo M to b
ask_more L M to (body.SeizeQuorum e members d) f k = (k.0, k.1, k.2, quorum_more L M e d f k.3, device_more L M to e d f k.4)
ask_more L M to _ f k = tt

pub packets_more : (L M : List Letter) (xs : List Packet) → IsMore L M → AllByRecursion (PacketSo L) xs → AllByRecursion (PacketSo M) xs
packets_more L M [] f k = tt
packets_more L M (x ∷ xs) f k = ((λ m is. ask_more L M x.to m.body f (k.0 m is)), packets_more L M xs f k.1)

-- ---- what a node gives, which tells nothing of these

abbrev pub IsAside : Body → Type 0
IsAside (body.Promise e newest members valid flagged committed pending) = ⊥
IsAside (body.SeizeQuorum e members d) = ⊥
IsAside (body.SeizeData e members d) = ⊥
IsAside (body.Install i) = ⊥
IsAside _ = Unit {0}

abbrev pub OutAside : Output → Type 0
OutAside (Tells e) = Unit {0}
OutAside (Sends to b) = IsAside b

abbrev pub AllAside : List Output → Type 0
AllAside os = AllByRecursion OutAside os

pub older : (n : ℕ) (os : List Output) (L : List Letter) → IsMore L (letters_of n os ++ L)
older n [] L from b h = h
older n (Tells e ∷ os) L from b h = older n os L from b h
older n (Sends to o ∷ os) L from b h = inr (older n os L from b h)

-- nothing else is new
abbrev pub IsLess : List Letter → List Letter → Type 0
IsLess M L = (from : ℕ) (b : Body) → (IsAside b → ⊥) → IsAmong from b M → IsAmong from b L

pub aside_less : (n : ℕ) (os : List Output) (L : List Letter) → AllAside os → IsLess (letters_of n os ++ L) L
aside_less n [] L k from b special h = h
aside_less n (Tells e ∷ os) L k from b special h = aside_less n os L k.1 from b special h
aside_less n (Sends to o ∷ os) L k from b special (inl here) = absurd (special (subst IsAside here.1 k.0))
aside_less n (Sends to o ∷ os) L k from b special (inr there) = aside_less n os L k.1 from b special there

pub shown_less : (M L : List Letter) (n e v : ℕ) → IsLess M L → HasShown M n e v → HasShown L n e v
shown_less M L n e v f k = record { newest = k.newest; members = k.members; flagged = k.flagged; committed = k.committed; pending = k.pending; among = f n _ (λ z. z) k.among }

pub data_less : (M L : List Letter) (e d : ℕ) → IsLess M L → AsksData M e d → AsksData L e d
data_less M L e d f k = record { from = k.from; members = k.members; among = f k.from _ (λ z. z) k.among }

pub quorum_less : (M L : List Letter) (e d : ℕ) → IsLess M L → AsksQuorum M e d → AsksQuorum L e d
quorum_less M L e d f k = record { from = k.from; members = k.members; among = f k.from _ (λ z. z) k.among }

pub installs_less : (M L : List Letter) (e : ℕ) → IsLess M L → Installs M e → Installs L e
installs_less M L e f k = record { from = k.from; install = k.install; epoch = k.epoch; among = f k.from _ (λ z. z) k.among }

-- ---- one letter

abbrev pub epoch_in : Body → ℕ
epoch_in (body.Promise e newest members valid flagged committed pending) = e
epoch_in (body.SeizeQuorum e members d) = e
epoch_in (body.SeizeData e members d) = e
epoch_in (body.Install i) = i.epoch
epoch_in _ = 0

-- the devices that it shows, or the one that it asks for
abbrev pub second_in : Body → ℕ
second_in (body.Promise e newest members valid flagged committed pending) = valid
second_in (body.SeizeQuorum e members d) = d
second_in (body.SeizeData e members d) = d
second_in _ = 0

abbrev pub kind_in : Body → ℕ
kind_in (body.Promise e newest members valid flagged committed pending) = 1
kind_in (body.SeizeQuorum e members d) = 2
kind_in (body.SeizeData e members d) = 3
kind_in (body.Install i) = 4
kind_in _ = 0

-- it is this one
pub record IsOne (n : ℕ) (b : Body) (kind e d : ℕ) : Type 0 where
  pub kind_so : kind_in b ≡ kind
  pub epoch : epoch_in b ≡ e
  pub second : second_in b ≡ d

abbrev pub one : ℕ → Body → Letter
one n b = record { from = n; body = b }

pub shown_one : (L : List Letter) (n : ℕ) (b : Body) (k e w : ℕ) → HasShown (one n b ∷ L) k e w → HasShown L k e w ⊎ ((n ≡ k) × IsOne n b 1 e w)
shown_one L n b k e w h = by_side h.among
  where
    by_side : ((n ≡ k) × (b ≡ body.Promise e h.newest h.members w h.flagged h.committed h.pending)) ⊎ IsAmong k (body.Promise e h.newest h.members w h.flagged h.committed h.pending) L
        → HasShown L k e w ⊎ ((n ≡ k) × IsOne n b 1 e w)
    by_side (inl here) = inr (here.0, record { kind_so = ap kind_in here.1; epoch = ap epoch_in here.1; second = ap second_in here.1 })
    by_side (inr there) = inl (record { newest = h.newest; members = h.members; flagged = h.flagged; committed = h.committed; pending = h.pending; among = there })

pub quorum_one : (L : List Letter) (n : ℕ) (b : Body) (e d : ℕ) → AsksQuorum (one n b ∷ L) e d → AsksQuorum L e d ⊎ IsOne n b 2 e d
quorum_one L n b e d h = by_side h.among
  where
    by_side : ((n ≡ h.from) × (b ≡ body.SeizeQuorum e h.members d)) ⊎ IsAmong h.from (body.SeizeQuorum e h.members d) L → AsksQuorum L e d ⊎ IsOne n b 2 e d
    by_side (inl here) = inr (record { kind_so = ap kind_in here.1; epoch = ap epoch_in here.1; second = ap second_in here.1 })
    by_side (inr there) = inl (record { from = h.from; members = h.members; among = there })

pub data_one : (L : List Letter) (n : ℕ) (b : Body) (e d : ℕ) → AsksData (one n b ∷ L) e d → AsksData L e d ⊎ IsOne n b 3 e d
data_one L n b e d h = by_side h.among
  where
    by_side : ((n ≡ h.from) × (b ≡ body.SeizeData e h.members d)) ⊎ IsAmong h.from (body.SeizeData e h.members d) L → AsksData L e d ⊎ IsOne n b 3 e d
    by_side (inl here) = inr (record { kind_so = ap kind_in here.1; epoch = ap epoch_in here.1; second = ap second_in here.1 })
    by_side (inr there) = inl (record { from = h.from; members = h.members; among = there })

pub installs_one : (L : List Letter) (n : ℕ) (b : Body) (e : ℕ) → Installs (one n b ∷ L) e → Installs L e ⊎ IsOne n b 4 e 0
installs_one L n b e h = by_side h.among
  where
    by_side : ((n ≡ h.from) × (b ≡ body.Install h.install)) ⊎ IsAmong h.from (body.Install h.install) L → Installs L e ⊎ IsOne n b 4 e 0
    by_side (inl here) = inr (record { kind_so = ap kind_in here.1; epoch = ap epoch_in here.1 ∙ h.epoch; second = ap second_in here.1 })
    by_side (inr there) = inl (record { from = h.from; install = h.install; epoch = h.epoch; among = there })
