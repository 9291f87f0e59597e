-- What holds in the step of a node, and through letters that say nothing of devices.
use Rattle.std.specs.Prelude.{ℕ, ◌++◌, ◌≡◌, ◌≢◌, ◌<◌, ◌⊎◌, true, List, [], ◌∷◌, Option, None, Some}
use Rattle.std.specs.List.{AllByRecursion}
use Rattle.std.proofs.Common.{refl, sym, inl, inr, arith}
use Rattle.cl_base.specs.Sets.{has}
use Rattle.cmm_attempt.specs.Attempts.{AttemptState}
use Rattle.node_model.specs.declared.output.Output.{Output}
use Rattle.node_model.specs.declared.output.Output.TheVariants.{Sends, Tells}
use Rattle.refinement.specs.Doings.{Site}
use Rattle.refinement.specs.Runs.{Letter, letters_of}
use Rattle.run_history.specs.Guards.{Hand}
use Rattle.wire.specs.declared.message.Body.{Body}
use Rattle.wire.specs.declared.message.Body.TheVariants as body
use Rattle.run_outcomes.specs.tasks.Shown.{Agree, AskSo, AsksData, AttemptIn, AttemptSo, HandIn, HasShown, InRange, Installs, IsApart, SiteSo}
use Rattle.run_outcomes.proofs.shown.Keeps.{KeepsFor, KeepsTaken, hand_keeps, keeps_aside, site_keeps}
use Rattle.run_outcomes.proofs.shown.Letters.{AllAside, IsAside, IsLess, IsMore, IsOne, aside_less, data_less, data_more, installs_more, older, one, quorum_less, shown_less, shown_one}

-- ---- what holds in the step of a node

pub record Now (L : List Letter) (n : ℕ) (x : Site) (g : Hand) : Type 0 where
  pub apart : IsApart L
  pub agree : Agree L
  pub here : SiteSo L n x
  pub hand : HandIn L n x.disk x.node g

-- requests are so of what was sent by then
abbrev pub OutSo : List Letter → Output → Type 0
OutSo L (Tells e) = Unit {0}
OutSo L (Sends to b) = AskSo L to b

abbrev pub OutsSo : List Letter → List Output → Type 0
OutsSo L os = AllByRecursion (OutSo L) os

-- with more letters, and these outputs
pub record After (L M : List Letter) (n : ℕ) (x : Site) (g : Hand) (os : List Output) : Type 0 where
  pub now : Now M n x g
  pub others : (k : ℕ) → k ≢ n → KeepsFor k L M
  pub given : OutsSo M os

-- ---- letters aside

pub less_apart : (L M : List Letter) → IsLess M L → IsApart L → IsApart M
less_apart L M f h e d asked quorum = h e d (data_less M L e d f asked) (quorum_less M L e d f quorum)

pub either_more : (L M : List Letter) (e d : ℕ) → IsMore L M → AsksData L e d ⊎ Installs L e → AsksData M e d ⊎ Installs M e
either_more L M e d f (inl h) = inl (data_more L M e d f h)
either_more L M e d f (inr h) = inr (installs_more L M e f h)

pub less_agree : (L M : List Letter) → IsMore L M → IsLess M L → Agree L → Agree M
less_agree L M f g h n e v w d range other a b shows lacks = either_more L M e d f (h n e v w d range other (shown_less M L n e v g a) (shown_less M L n e w g b) shows lacks)

body_aside : (L : List Letter) (to : ℕ) (b : Body) → IsAside b → AskSo L to b
body_aside L to (body.SeizeQuorum e members d) k = absurd k
body_aside L to _ k = tt

outs_aside : (L : List Letter) (os : List Output) → AllAside os → OutsSo L os
outs_aside L [] k = tt
outs_aside L (Tells e ∷ os) k = (tt, outs_aside L os k.1)
outs_aside L (Sends to b ∷ os) k = (body_aside L to b k.0, outs_aside L os k.1)

pub after_aside : (L : List Letter) (n : ℕ) (x : Site) (g : Hand) (os : List Output) → AllAside os → Now L n x g → After L (letters_of n os ++ L) n x g os
after_aside L n x g os k h =
    let M : List Letter = letters_of n os ++ L in
    let f : IsMore L M = older n os L in
    let less : IsLess M L = aside_less n os L k in
    record {
      now = record {
        apart = less_apart L M less h.apart;
        agree = less_agree L M f less h.agree;
        here = site_keeps n L M x (keeps_aside n L M f less) h.here;
        hand = hand_keeps n L M x.disk x.node g (keeps_aside n L M f less) h.hand;
      };
      others = λ j ne. keeps_aside j L M f less;
      given = outs_aside M os k;
    }

-- ---- one letter

pub one_more : (L : List Letter) (l : Letter) → IsMore L (l ∷ L)
one_more L l from b h = inr h

pub no_kind : (a b : ℕ) → a < b → a ≡ b → ⊥
no_kind a b l e = omega (arith, l, e)

pub less_kind : (a b : ℕ) → b < a → a ≡ b → ⊥
less_kind a b l e = omega (arith, l, e)

-- its sender's attempts have nothing new of others
pub one_taken : (L : List Letter) (n : ℕ) (b : Body) → KeepsTaken n L (one n b ∷ L)
one_taken L n b = record { more = one_more L (one n b); taken = λ j e v own ne h. by_side j e v ne (shown_one L n b j e v h) }
  where
    by_side : (j e v : ℕ) → j ≢ n → HasShown L j e v ⊎ ((n ≡ j) × IsOne n b 1 e v)
        → HasShown L j e v ⊎ ((w d : ℕ) → InRange d → HasShown L j e w → has v d ≡ true → (has w d ≡ true) ⊎ Installs (one n b ∷ L) e)
    by_side j e v ne (inl h) = inl h
    by_side j e v ne (inr h) = absurd (ne (sym h.0))

pub in_with : (L : List Letter) (n q : ℕ) (b : Body) (o : Option AttemptState) → ((a : AttemptState) → o ≡ Some a → AttemptSo L n q a → AttemptSo (one n b ∷ L) n q a) → AttemptIn L n q o → AttemptIn (one n b ∷ L) n q o
in_with L n q b None f h = tt
in_with L n q b (Some a) f h = f a refl h
