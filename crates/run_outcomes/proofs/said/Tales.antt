-- What a node told of its seizings, as it tells more: how the seizing of its session ended, or that it has installed it.
use Rattle.std.specs.Prelude.{ℕ, ◌==◌, ◌≡◌, ◌<◌, ◌≤◌, ◌⊎◌, ◌++◌, Bool, true, false, List, [], ◌∷◌}
use Rattle.std.proofs.Common.{arith, refl, sym, ap, subst, ◌∙◌, inl, inr}
use Rattle.cl_base.specs.Seizings.{SeizeResult}
use Rattle.cmm_attempt.proofs.Basics.{same_number}
use Rattle.cmm_member.specs.Records.{NodeRecord}
use Rattle.history.specs.Setting.{coordinator}
use Rattle.machine_base.specs.Epochs as epochs
use Rattle.membership_machine.specs.Records.{Saved}
use Rattle.membership_machine.specs.State.{Memberships}
use Rattle.node_model.specs.Seats.{installed_of, promised_of, session_of, state_of}
use Rattle.node_model.specs.Ticks.{later}
use Rattle.node_model.specs.declared.cluster.Cluster.{Cluster}
use Rattle.node_model.specs.declared.node.Node.{Node}
use Rattle.node_model.specs.declared.node.Node.TheVariants.{Down, Up}
use Rattle.node_model.specs.declared.node.UpNode.{UpNode}
use Rattle.node_model.specs.declared.output.Output.{Output}
use Rattle.node_model.specs.declared.output.Output.TheVariants.{Sends, Tells}
use Rattle.refinement.proofs.Changes.{Sees, sees}
use Rattle.refinement.specs.Runs.{letters_of}
use Rattle.refinement.specs.Ties.{Delivered}
use Rattle.run_history.proofs.Changes.{At}
use Rattle.run_history.specs.Guards.{HasEnded, TellsEnd}
use Rattle.wire.specs.declared.message.Body.{Body}
use Rattle.wire.specs.declared.message.Body.TheVariants as body
use Rattle.run_outcomes.specs.tasks.Said.{AreSingle, NodeSaid, SiteSaid, Tale, tale_of}
use Rattle.run_outcomes.proofs.results.Freed.{inst}
use Rattle.run_outcomes.proofs.said.Ended.{ended_once}
use Rattle.run_outcomes.proofs.said.Silent.{AreSilent, IsSeized}

-- ---- letters

-- so it gives, and so it told before
abbrev pub gives_so : ℕ → List Output → Tale
gives_so n os e d r = tale_of n (letters_of n os) e d r

abbrev pub Or : Tale → ℕ → List Output → Tale
Or L n os e d r = L e d r ⊎ gives_so n os e d r

pub silent_gives : (n : ℕ) (os : List Output) (e d : ℕ) (r : SeizeResult) → AreSilent os → gives_so n os e d r → ⊥
silent_gives n [] e d r silent k = k
silent_gives n (Tells x ∷ os) e d r silent k = silent_gives n os e d r silent.1 k
silent_gives n (Sends to b ∷ os) e d r silent (inl here) = silent.0 (subst IsSeized (sym here.1) tt)
silent_gives n (Sends to b ∷ os) e d r silent (inr later) = silent_gives n os e d r silent.1 later

pub first_gives : (n : ℕ) (os more : List Output) (e d : ℕ) (r : SeizeResult) → gives_so n (os ++ more) e d r → gives_so n os e d r ⊎ gives_so n more e d r
first_gives n [] more e d r k = inr k
first_gives n (Tells x ∷ os) more e d r k = first_gives n os more e d r k
first_gives n (Sends to b ∷ os) more e d r (inl here) = inl (inl here)
first_gives n (Sends to b ∷ os) more e d r (inr later) = by_rest (first_gives n os more e d r later)
  where
    by_rest : gives_so n os e d r ⊎ gives_so n more e d r → gives_so n (Sends to b ∷ os) e d r ⊎ gives_so n more e d r
    by_rest (inl x) = inl (inr x)
    by_rest (inr y) = inr y

-- ---- what stands

at_most : (a b d : ℕ) → a ≤ b → b ≤ d → a ≤ d
at_most a b d i j = omega (arith, i, j)

pub said_node : (L K : Tale) (node : Node) → ((e d : ℕ) (r : SeizeResult) → K e d r → L e d r) → NodeSaid L node → NodeSaid K node
said_node L K Down fewer k = tt
said_node L K (Up x) fewer k = record { kept = λ e d r tells some at ne. k.kept e d r (fewer e d r tells) some at ne; single = k.single }

-- fewer things are told, more is promised and installed
pub said_grows : (L K : Tale) (p q : ℕ) (top more : ℕ → ℕ) (node : Node) → ((e d : ℕ) (r : SeizeResult) → K e d r → L e d r) → p ≤ q → ((k : ℕ) → top k ≤ more k) → SiteSaid L p top node
    → SiteSaid K q more node
said_grows L K p q top more node fewer low high k = record {
  low = λ e d r tells some. at_most e p q (k.low e d r (fewer e d r tells) some) low;
  agree = λ e d r s one two some. by_case e r s (k.agree e d r s (fewer e d r one) (fewer e d s two) some);
  here = said_node L K node fewer k.here;
}
  where
    by_case : (e : ℕ) (r s : SeizeResult) → (r ≡ s) ⊎ (e ≤ top (coordinator e)) → (r ≡ s) ⊎ (e ≤ more (coordinator e))
    by_case e r s (inl same) = inl same
    by_case e r s (inr under) = inr (at_most e (top (coordinator e)) (more (coordinator e)) under (high (coordinator e)))

-- the node has changed
pub said_to : (L : Tale) (p : ℕ) (top : ℕ → ℕ) (node other : Node) → (NodeSaid L node → NodeSaid L other) → SiteSaid L p top node → SiteSaid L p top other
said_to L p top node other f k = record { low = k.low; agree = k.agree; here = f k.here }

-- nothing of seizings is given
pub silent_said : (L : Tale) (n : ℕ) (os : List Output) (p : ℕ) (top : ℕ → ℕ) (node : Node) → AreSilent os → SiteSaid L p top node → SiteSaid (Or L n os) p top node
silent_said L n os p top node silent k =
    said_grows L (Or L n os) p p top top node (λ e d r tells. by_case e d r tells) (omega arith) (λ j. omega arith) k
  where
    by_case : (e d : ℕ) (r : SeizeResult) → Or L n os e d r → L e d r
    by_case e d r (inl old) = old
    by_case e d r (inr new) = absurd (silent_gives n os e d r silent new)

-- ---- a Seized

-- of a node, what it has promised and what it has installed, as the machine has them
pub record Stands (M : Memberships) (n : ℕ) (x : UpNode) : Type 0 where
  pub promised : (M.node n).promised ≡ promised_of x
  pub session : (e : ℕ) → 0 < e → e ≡ session_of x → e ≤ (M.node n).promised
  pub installed : (e : ℕ) → e ≡ installed_of x → e ≤ (M.node n).promised
  pub newest : (e : ℕ) → 0 < e → e ≡ installed_of x → e ≤ inst M (coordinator e)

same_most : (a b : ℕ) → a ≡ b → a ≤ b
same_most a b is = omega (arith, is)

pub stands : (c : Cluster) (M : Memberships) (n : ℕ) (told : Delivered) (disk : NodeRecord) (x : UpNode) → At c M n told disk x → Stands M n x
unfolding epochs.coordinator
stands c M n told disk x at =
    let sight : Sees M n disk (state_of x.seat) = sees c M n disk x.attempt x.seat at.tied.0 in
    let same : (e : ℕ) → e ≡ installed_of x → e ≡ inst M n = λ e is. is ∙ sym (ap (λ (r : Saved). r.installed) sight.saved) in
    record {
      promised = sight.promised;
      session = λ e some is.
          let here : e ≡ (M.node n).session = is ∙ sym sight.session in
          same_most e (M.node n).promised (here ∙ (at.holds.node n).session (subst (λ q. 0 < q) here some));
      installed = λ e is. at_most e (inst M n) (M.node n).promised (same_most e (inst M n) (same e is)) (at.holds.node n).installed;
      newest = λ e some is.
          subst (λ q. q ≤ inst M (coordinator q)) (sym (same e is))
          ((at.holds.epoch (inst M n)).counted_installed ((at.holds.node n).fits.counted (subst (λ q. 0 < q) (same e is) some)));
    }

-- what is in a Seized
epoch_in : ℕ → Body → ℕ
epoch_in z (body.Seized e d r) = e
epoch_in z _ = z

device_in : ℕ → Body → ℕ
device_in z (body.Seized e d r) = d
device_in z _ = z

result_in : SeizeResult → Body → SeizeResult
result_in z (body.Seized e d r) = r
result_in z _ = z

pub record SameSeized (e d : ℕ) (r : SeizeResult) (f k : ℕ) (q : SeizeResult) : Type 0 where
  pub epoch : f ≡ e
  pub device : k ≡ d
  pub result : q ≡ r

pub same_seized : (e d : ℕ) (r : SeizeResult) (f k : ℕ) (q : SeizeResult) → body.Seized f k q ≡ body.Seized e d r → SameSeized e d r f k q
unfolding epoch_in device_in result_in
same_seized e d r f k q is = record { epoch = ap (epoch_in 0) is; device = ap (device_in 0) is; result = ap (result_in q) is }

pub seized_said : (L : Tale) (M : Memberships) (n : ℕ) (told : Delivered) (x : UpNode) (to f k : ℕ) (q : SeizeResult) → Stands M n x → TellsEnd told x f k q
    → SiteSaid L (M.node n).promised (inst M) (Up x) → SiteSaid (Or L n (Sends to (body.Seized f k q) ∷ [])) (M.node n).promised (inst M) (Up x)
seized_said L M n told x to f k q at end so = record {
  low = λ e d r tells some. low e d r tells some;
  agree = λ e d r s one two some. agree e d r s one two some;
  here = record { kept = λ e d r tells some is ne. kept e d r tells some is ne; single = so.here.single };
}
  where
    K : Tale
    K = Or L n (Sends to (body.Seized f k q) ∷ [])

    told_low : TellsEnd told x f k q → 0 < f → f ≤ (M.node n).promised
    told_low (inl own) some = at.session f some own.0
    told_low (inr fault) some = at.installed f fault.2

    low : (e d : ℕ) (r : SeizeResult) → K e d r → 0 < e → e ≤ (M.node n).promised
    low e d r (inl old) some = so.low e d r old some
    low e d r (inr (inl new)) some =
        let same : SameSeized e d r f k q = same_seized e d r f k q new.1 in
        subst (λ z. z ≤ (M.node n).promised) same.epoch (told_low end (subst (λ z. 0 < z) (sym same.epoch) some))
    low e d r (inr (inr none)) some = absurd none

    told_kept : TellsEnd told x f k q → (installed_of x ≡ f → ⊥) → HasEnded x.tasks k q
    told_kept (inl own) ne = own.1
    told_kept (inr fault) ne = absurd (ne (sym fault.2))

    kept : (e d : ℕ) (r : SeizeResult) → K e d r → 0 < e → e ≡ session_of x → (installed_of x ≡ e → ⊥) → HasEnded x.tasks d r
    kept e d r (inl old) some is ne = so.here.kept e d r old some is ne
    kept e d r (inr (inl new)) some is ne =
        let same : SameSeized e d r f k q = same_seized e d r f k q new.1 in
        subst (λ z. HasEnded x.tasks d z) same.result (subst (λ z. HasEnded x.tasks z q) same.device (told_kept end (λ here. ne (here ∙ same.epoch))))
    kept e d r (inr (inr none)) some is ne = absurd none

    -- it agrees with what was told before
    with_old : (r : SeizeResult) → L f k r → 0 < f → TellsEnd told x f k q → (q ≡ r) ⊎ (f ≤ inst M (coordinator f))
    with_old r old some (inl own) = by_test (installed_of x == f) refl
      where
        by_test : (b : Bool) → (installed_of x == f) ≡ b → (q ≡ r) ⊎ (f ≤ inst M (coordinator f))
        by_test true is = inr (at.newest f some (sym (same_number (installed_of x) f is)))
        by_test false other =
            let ne : installed_of x ≡ f → ⊥ = λ is. unlike (installed_of x) f other is in
            let single : AreSingle x.tasks = so.here.single (λ is. ne (is ∙ sym own.0)) in
            inl (ended_once x.tasks k q r single own.1 (so.here.kept f k r old some own.0 ne))
          where
            unlike : (a b : ℕ) → (a == b) ≡ false → a ≡ b → ⊥
            unlike a b off is = grind arith
    with_old r old some (inr fault) = inr (at.newest f some fault.2)

    flipped : (e : ℕ) (r s : SeizeResult) → (r ≡ s) ⊎ (e ≤ inst M (coordinator e)) → (s ≡ r) ⊎ (e ≤ inst M (coordinator e))
    flipped e r s (inl same) = inl (sym same)
    flipped e r s (inr under) = inr under

    -- one that is told now, and one that was told
    mixed : (e d : ℕ) (r s : SeizeResult) → SameSeized e d r f k q → L e d s → 0 < e → (r ≡ s) ⊎ (e ≤ inst M (coordinator e))
    mixed e d r s same old some =
        subst (λ z. (z ≡ s) ⊎ (e ≤ inst M (coordinator e))) same.result
        (subst (λ z. (q ≡ s) ⊎ (z ≤ inst M (coordinator z))) same.epoch
        (with_old s (subst (λ z. L z k s) (sym same.epoch) (subst (λ z. L e z s) (sym same.device) old)) (subst (λ z. 0 < z) (sym same.epoch) some) end))

    agree : (e d : ℕ) (r s : SeizeResult) → K e d r → K e d s → 0 < e → (r ≡ s) ⊎ (e ≤ inst M (coordinator e))
    agree e d r s (inl one) (inl two) some = so.agree e d r s one two some
    agree e d r s (inl one) (inr (inl two)) some = flipped e s r (mixed e d s r (same_seized e d s f k q two.1) one some)
    agree e d r s (inr (inl one)) (inl two) some = mixed e d r s (same_seized e d r f k q one.1) two some
    agree e d r s (inr (inl one)) (inr (inl two)) some = inl (sym (same_seized e d r f k q one.1).result ∙ (same_seized e d s f k q two.1).result)
    agree e d r s (inl one) (inr (inr none)) some = absurd none
    agree e d r s (inr (inl one)) (inr (inr none)) some = absurd none
    agree e d r s (inr (inr none)) two some = absurd none
