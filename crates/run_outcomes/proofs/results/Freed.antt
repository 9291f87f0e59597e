-- What the machine knows of a node: of its attempt, and of what it and others have installed.
use Rattle.std.specs.Prelude.{None, Some, true, ℕ, ◌≡◌, ◌<◌, ◌≤◌, ◌≢◌}
use Rattle.std.proofs.Common.{ap, subst, sym, arith, ◌∙◌}
use Rattle.cmm_member.specs.Records.{NodeRecord}
use Rattle.history.specs.Setting.{coordinator}
use Rattle.node_model.specs.Seats.{installed_of, promised_of, record_of, session_of, state_of}
use Rattle.node_model.specs.declared.cluster.Cluster.{Cluster}
use Rattle.node_model.specs.declared.node.Node.{Node}
use Rattle.node_model.specs.declared.node.Node.TheVariants.{Down, Up}
use Rattle.node_model.specs.declared.node.UpNode.{UpNode}
use Rattle.refinement.specs.Doings.{Change}
use Rattle.refinement.specs.Doings.Change.{Leads, Promises}
use Rattle.refinement.specs.Guards.{Asks, MayChange, Says}
use Rattle.wire.specs.declared.message.Body.{Body}
use Rattle.wire.specs.declared.message.Body.TheVariants as body
use Rattle.refinement.specs.Ties.{Delivered, Known, MessageTold, NodeTied, setting_of}
use Rattle.machine_base.specs.Epochs as epochs
use Rattle.membership_machine.specs.Invariant.{Holds}
use Rattle.membership_machine.specs.Records.{Saved}
use Rattle.membership_machine.specs.State.{Memberships}
use Rattle.refinement.proofs.Changes.{Sees, sees}
use Rattle.refinement.proofs.Installs.{seeks_before}
use Rattle.run_history.proofs.Changes.{At, at_attempt}
use Rattle.run_outcomes.proofs.results.Ups.{IsOpen, NoneLate}
use Rattle.run_outcomes.proofs.results.Acted.{NoneNewer}

-- ---- what nodes have installed

-- .. as the machine has it
abbrev pub inst : Memberships → ℕ → ℕ
inst M k = (M.node k).saved.installed

pub tied_installed : (c : Cluster) (M : Memberships) (n : ℕ) (node : Node) (disk : NodeRecord) → NodeTied c M n disk node → inst M n ≡ disk.installed
tied_installed c M n Down disk tied = ap (λ (r : Saved). r.installed) tied.0.saved
tied_installed c M n (Up x) disk tied =
    let sight : Sees M n disk (state_of x.seat) = sees c M n disk x.attempt x.seat tied.0 in
    ap (λ (r : Saved). r.installed) sight.saved ∙ ap (λ (r : NodeRecord). r.installed) (sym sight.disk_so)

-- an attempt that has not installed yet has a number above what its coordinator has installed
pub none_late : (c : Cluster) (M : Memberships) (n : ℕ) (told : Delivered) (disk : NodeRecord) (x : UpNode) (f : ℕ → ℕ) → At c M n told disk x → ((k : ℕ) → f k ≤ inst M k) → NoneLate f x
unfolding epochs.coordinator
none_late c M n told disk x f at low b is before late =
    at_attempt c M n told disk x b ⊥ at is
    (λ s shows co.
    let q : ℕ = b.plan.epoch in
    let own : coordinator q ≡ n = sym co.has.coordinator ∙ co.coordinator in
    let seeks : (M.node n).seeking ≡ true = seeks_before (M.node n).seeking b.phase before co.seeks in
    apart q (f (coordinator q)) (inst M n) (M.node n).promised (co.epoch ∙ (sym shows ∙ (at.holds.node n).seeking_session seeks)) late
    (subst (λ k. f (coordinator q) ≤ inst M k) own (low (coordinator q))) ((at.holds.node n).seeking_installs seeks))
  where
    apart : (p a b d : ℕ) → p ≡ d → p ≤ a → a ≤ b → b < d → ⊥
    apart p a b d e i j l = omega (arith, e, i, j, l)

-- what a node has installed its coordinator has installed, or something newer
none_newer : (c : Cluster) (M : Memberships) (n : ℕ) (told : Delivered) (disk : NodeRecord) (x : UpNode) → At c M n told disk x → NoneNewer (inst M) x
unfolding epochs.coordinator
none_newer c M n told disk x at e some is =
    let sight : Sees M n disk (state_of x.seat) = sees c M n disk x.attempt x.seat at.tied.0 in
    let same : e ≡ inst M n = is ∙ sym (ap (λ (r : Saved). r.installed) sight.saved) in
    subst (λ q. q ≤ inst M (coordinator q)) (sym same)
    ((at.holds.epoch (inst M n)).counted_installed ((at.holds.node n).fits.counted (subst (λ q. 0 < q) same some)))

-- until its attempt installs, its session is not installed
none_open : (c : Cluster) (M : Memberships) (n : ℕ) (told : Delivered) (disk : NodeRecord) (x : UpNode) → At c M n told disk x → IsOpen x
none_open c M n told disk x at b is before installed =
    at_attempt c M n told disk x b ⊥ at is
    (λ s shows co.
    let seeks : (M.node n).seeking ≡ true = seeks_before (M.node n).seeking b.phase before co.seeks in
    let sight : Sees M n disk (state_of x.seat) = sees c M n disk x.attempt x.seat at.tied.0 in
    not_below (installed_of x) (M.node n).promised (session_of x) (sym sight.session ∙ (at.holds.node n).seeking_session seeks) installed
    (subst (λ k. k < (M.node n).promised) (ap (λ (r : Saved). r.installed) sight.saved) ((at.holds.node n).seeking_installs seeks)))
  where
    not_below : (a b q : ℕ) → q ≡ b → a ≡ q → a < b → ⊥
    not_below a b q e i l = omega (arith, e, i, l)

-- a number that it promises anew is of another's attempt
others_ask : (c : Cluster) (M : Memberships) (n : ℕ) (told : Delivered) (disk : NodeRecord) (x : UpNode) (p : ℕ) → At c M n told disk x → Says (Asks p) told → promised_of x < p → n ≢ coordinator p
unfolding epochs.coordinator
others_ask c M n told disk x p at says new own =
    let sight : Sees M n disk (state_of x.seat) = sees c M n disk x.attempt x.seat at.tied.0 in
    not_above (promised_of x) p (subst (λ k. p ≤ k) sight.promised (subst (λ j. p ≤ (M.node j).promised) (sym own) ((at.holds.epoch p).tried_promised (tried told says at.known)))) new
  where
    not_above : (a b : ℕ) → b ≤ a → a < b → ⊥
    not_above a b i l = omega (arith, i, l)

    by_body : (from : ℕ) (b : Body) → Asks p b → MessageTold M from b → (M.epoch p).tried ≡ true
    by_body from (body.Collect e members) asks knows = subst (λ q. (M.epoch q).tried ≡ true) asks knows.0
    by_body from _ asks knows = absurd asks

    tried : (z : Delivered) → Says (Asks p) z → Known M z → (M.epoch p).tried ≡ true
    tried None says known = absurd says
    tried (Some d) says known = by_body d.0 d.1.body says known

-- what is known of the node in the machine
pub record Free (n : ℕ) (told : Delivered) (f top : ℕ → ℕ) (disk : NodeRecord) (x : UpNode) : Type 0 where
  pub late : NoneLate f x
  pub newer : NoneNewer top x
  pub opens : IsOpen x
  pub others : (p : ℕ) → Says (Asks p) told → promised_of x < p → n ≢ coordinator p
  pub same : disk ≡ record_of x

abbrev pub NoneIn : ℕ → Delivered → (ℕ → ℕ) → (ℕ → ℕ) → NodeRecord → Node → Type 0
NoneIn n told f top disk Down = Unit {0}
NoneIn n told f top disk (Up x) = Free n told f top disk x

pub none_in : (c : Cluster) (M : Memberships) (n : ℕ) (told : Delivered) (disk : NodeRecord) (node : Node) (f : ℕ → ℕ) → Holds (setting_of c) M → Known M told → NodeTied c M n disk node
    → ((k : ℕ) → f k ≤ inst M k) → NoneIn n told f (inst M) disk node
none_in c M n told disk Down f holds known tied low = tt
none_in c M n told disk (Up x) f holds known tied low =
    let at : At c M n told disk x = record { holds = holds; known = known; tied = tied } in
    record {
      late = none_late c M n told disk x f at low;
      newer = none_newer c M n told disk x at;
      opens = none_open c M n told disk x at;
      others = λ p says new. others_ask c M n told disk x p at says new;
      same = (sees c M n disk x.attempt x.seat tied.0).disk_so;
    }

-- a promise answers a Collect, and an attempt is its coordinator's
pub promise_asks : (c : Cluster) (n : ℕ) (told : Delivered) (x : UpNode) (ch : Change) (p : ℕ) → MayChange c n told x ch → ch ≡ Promises p → Says (Asks p) told × (promised_of x < p)
promise_asks c n told x ch p may is = subst (MayChange c n told x) is may

pub lead_own : (c : Cluster) (n : ℕ) (told : Delivered) (x : UpNode) (ch : Change) (p members : ℕ) → MayChange c n told x ch → ch ≡ Leads p members → n ≡ coordinator p
lead_own c n told x ch p members may is = sym (subst (MayChange c n told x) is may).1
