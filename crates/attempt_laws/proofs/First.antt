-- Who is asked first to seize a device.
use Rattle.std.proofs.Common.{◌≡◌, ℕ, ◌⊎◌, inl, inr, List, [], ◌∷◌, refl, subst}
use Rattle.std.specs.Prelude.{◌&&◌, Bool, true, false, Option, Some, None, if◌then◌else◌}
use Rattle.std.specs.List.{find}
use Rattle.cl_base.specs.Sets.{has}
use Rattle.seize.specs.declared.kind.SeizeKind.TheVariants.{Vote, Plain}
use Rattle.cmm_attempt.specs.declared.attached.AttachedDevice.{AttachedDevice}
use Rattle.cmm_attempt.specs.declared.plan.Plan.{Plan}
use Rattle.cmm_attempt.specs.declared.promised.Promised.{Promised}
use Rattle.cmm_attempt.specs.declared.seizing.Seizing.{Seizing}
use Rattle.cmm_attempt.specs.Plans.{is_reachable}
use Rattle.cmm_attempt.specs.Promises.{holds_valid}
use Rattle.cmm_attempt.specs.Seizings.{is_seized, may_seize, first_seizer, vote_entry, plain_entry}
use Rattle.cmm_attempt.specs.Counts.{is_quorum}
use Rattle.cmm_attempt.proofs.Basics.{none_some, same_some}
use Rattle.attempt_laws.specs.Asking.{IsLeast, QuorumAsksValid, OthersAskAttached}

least : (test : ℕ → Bool) (nodes : List ℕ) → IsLeast test nodes (find test nodes)
least test [] = tt
least test (m ∷ nodes) = by_test (least test nodes) (test m) refl
  where
    by_test : IsLeast test nodes (find test nodes) → (b : Bool) → test m ≡ b → ((test m ≡ true) × ((if b then Some m else find test nodes) ≡ Some m)) ⊎ ((test m ≡ false) × IsLeast test nodes (if b then Some m else find test nodes))
    by_test rest true e = inl (e, refl)
    by_test rest false e = inr (e, rest)

abbrev IsVote : Plan → List Promised → AttachedDevice → Seizing → Type 0
IsVote plan promises a e = IsLeast (λ n. has a.nodes n && holds_valid promises a.device n) plan.nodes e.seizer × (e.kind ≡ Vote) × (e.attached ≡ a)

of_vote : (plan : Plan) (promises : List Promised) (a : AttachedDevice) (o : Option ℕ) → IsLeast (may_seize promises a) plan.nodes o → IsVote plan promises a (vote_entry a o)
of_vote plan promises a None h = (h, refl, refl)
of_vote plan promises a (Some n) h = (h, refl, refl)

pub quorum_asks_valid : QuorumAsksValid
quorum_asks_valid plan promises both a e h = by_test (is_quorum both a.device && is_reachable plan a) h
  where
    by_test : (b : Bool) → (if b then Some (vote_entry a (first_seizer plan promises a)) else None) ≡ Some e → IsVote plan promises a e
    by_test true k = subst (IsVote plan promises a) (same_some _ e k) (of_vote plan promises a (first_seizer plan promises a) (least (may_seize promises a) plan.nodes))
    by_test false k = absurd (none_some e k)

abbrev IsOther : Plan → AttachedDevice → Seizing → Type 0
IsOther plan a e = IsLeast (λ n. has a.nodes n) plan.nodes e.seizer × (e.kind ≡ Plain) × (e.attached ≡ a)

of_plain : (plan : Plan) (a : AttachedDevice) (e : Seizing) (o : Option ℕ) → IsLeast (λ n. has a.nodes n) plan.nodes o → plain_entry a o ≡ Some e → IsOther plan a e
of_plain plan a e None h k = absurd (none_some e k)
of_plain plan a e (Some n) h k = subst (IsOther plan a) (same_some _ e k) (h, refl, refl)

pub others_ask_attached : OthersAskAttached
others_ask_attached plan devices a e h = by_test (is_seized devices a.device) h
  where
    by_test : (b : Bool) → (if b then None else plain_entry a (find (λ n. has a.nodes n) plan.nodes)) ≡ Some e → IsOther plan a e
    by_test true k = absurd (none_some e k)
    by_test false k = of_plain plan a e (find (λ n. has a.nodes n) plan.nodes) (least (λ n. has a.nodes n) plan.nodes) k
