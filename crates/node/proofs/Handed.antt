-- A node that is handed back follows the plan.
use Rattle.std.proofs.Common.{◌≡◌, ℕ, Bool, true, false, List, ◌++◌, Result, Ok, Err, OnOk, if◌then◌else◌, refl, sym, subst}
use Rattle.cl_base.specs.declared.panic.Panic.TheVariants as panic
use Rattle.status_report.specs.declared.node_entry.DownCause.TheVariants as down
use Rattle.node_model.specs.declared.node.UpNode.{UpNode}
use Rattle.node_model.specs.declared.output.Output.{Output}
use Rattle.node_model.specs.declared.stop.Stop.{Stop}
use Rattle.node_model.specs.declared.stop.Stop.TheVariants.{Down, NoMemory}
use Rattle.node_model.specs.Members.{on_excluded}
use Rattle.node_model.specs.Plans.{Gives, Plan}
use Rattle.node_model.specs.Plans.Plan.{Stays, Falls, Says, Saves}
use Rattle.node.specs.Handing.{Excludes, is_left_out, kept_so}
use Rattle.node_model.specs.Left.{left_so}

by_seat : {T : Type 0} → (x : UpNode) (e newest : ℕ) (given : List Output) (out : Bool) (done : Result T Stop)
    → is_left_out x.seat e ≡ out → Excludes x.seat e newest done → Gives (if out then Falls (down.Panic (panic.Excluded newest)) else Stays x) given (left_so x done) given
by_seat x e newest given true (Ok t) at h = absurd (cc)
by_seat x e newest given false (Ok t) at h = (refl, refl)
by_seat x e newest given true (Err (Down why)) at h = (h.1, refl)
by_seat x e newest given false (Err (Down why)) at h = absurd (cc)
by_seat x e newest given out (Err NoMemory) at h = absurd h

pub excluded_gives : {T : Type 0} → (x : UpNode) (e newest : ℕ) (given : List Output) (done : Result T Stop) (result : Result UpNode Stop)
    → Excludes x.seat e newest done → result ≡ left_so x done → Gives (on_excluded x e newest) given result given
excluded_gives x e newest given done result h is =
    subst (λ (r : Result UpNode Stop). Gives (on_excluded x e newest) given r given) (sym is) (by_seat x e newest given (is_left_out x.seat e) done refl h)

no_memory : (plan : Plan) (given after : List Output) → Gives plan given (Err NoMemory) after
no_memory (Stays x) given after = tt
no_memory (Falls why) given after = tt
no_memory (Says os rest) given after = no_memory rest (given ++ os) after
no_memory (Saves r rest) given after = tt

kept : {T E : Type 0} → (plan : Plan) (x : UpNode) (given after : List Output) (done : Result T E) → OnOk done (Gives plan given (Ok x) after) → Gives plan given (kept_so x done) after
kept plan x given after (Ok t) h = h
kept plan x given after (Err e) h = no_memory plan given after

pub kept_gives : {T E : Type 0} → (plan : Plan) (x : UpNode) (given after : List Output) (done : Result T E) (result : Result UpNode Stop)
    → OnOk done (Gives plan given (Ok x) after) → result ≡ kept_so x done → Gives plan given result after
kept_gives plan x given after done result h is = subst (λ (r : Result UpNode Stop). Gives plan given r after) (sym is) (kept plan x given after done h)
