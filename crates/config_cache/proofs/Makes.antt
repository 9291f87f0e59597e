-- What a list of updates makes, one more at a time.
use Rattle.std.proofs.Common.{◌≡◌, ◌≤◌, ℕ, Bool, true, false, List, [], ◌∷◌, ◌++◌, Option, Some, None, Result, Ok, Err, IfOk, length, refl, ap, sym, ◌∙◌}
use Rattle.std.specs.Prelude.{unwrap_or}
use Rattle.std.specs.Option.{is_some, option_and_then}
use Rattle.cl_base.specs.Limits.{most_devices}
use Rattle.cl_base.specs.declared.header.Header.{Header}
use Rattle.ccr_tables.specs.State.{ConfigState, first_config}
use Rattle.update_log.specs.Logs.{config_after, with_text}
use Rattle.update_log.proofs.LogLemmas.{one_more}
use Rattle.config_cache.specs.InForce.{config_under, may_follow}
use Rattle.config_cache.specs.Lists.{UpdateList, these}

-- no update makes the header's
none_made : (h : Header) (first : ConfigState) → first ≡ first_config h → Some first ≡ config_after h []
unfolding config_after
none_made h first is = ap Some is

-- what is kept at the beginning
pub new_made : (h copy : Header) (first second : ConfigState) (texts : List (List ℕ)) → copy ≡ h → length h.devices ≤ most_devices
    → first ≡ first_config h → second ≡ first_config h → texts ≡ []
    → (length copy.devices ≤ most_devices) × (first ≡ first_config copy) × (Some second ≡ config_after copy texts)
new_made h copy first second texts same low first_is second_is empty = rw (same, empty) (low, first_is, none_made h second second_is)

-- an update that may not come
pub untaken : (found : Option ConfigState) (taken : Bool) → taken ≡ is_some found → taken ≡ false → None ≡ found
untaken None taken is not_so = refl
untaken (Some s) taken is not_so = cc (sym not_so ∙ is)

-- an update that may come
pub taken : (found : Option ConfigState) (old new : ConfigState) (so : Bool) → so ≡ is_some found → so ≡ true
    → new ≡ unwrap_or found old → Some new ≡ found
taken None old new so is counts after = cc (sym counts ∙ is)
taken (Some s) old new so is counts after = ap Some after

module _ (h : Header) (texts : List (List ℕ)) (text : List ℕ) where
  -- one more changes what those before it made
  pub next_made : (old new : Option ConfigState) → old ≡ config_after h texts → new ≡ option_and_then (λ s. with_text s text) old
      → new ≡ config_after h (texts ++ text ∷ [])
  next_made old new before after =
      after ∙ ap (λ found. option_and_then (λ s. with_text s text) found) before ∙ sym (one_more h texts text)

  -- behind a good list it may come where the configuration lets it
  good_followed : (found : Option ConfigState) (s : ConfigState) → found ≡ config_after h texts → found ≡ Some s
      → is_some (with_text s text) ≡ may_follow h texts text
  good_followed found s before is = ap is_some (next_made (Some s) (with_text s text) (sym is ∙ before) refl)

  -- behind a bad list nothing may come
  pub bad_followed : None ≡ config_after h texts → false ≡ may_follow h texts text
  bad_followed before = ap is_some (next_made None None before refl)

  pub followed : {E : Type 0} (l : UpdateList) (found : Option ConfigState) (s : ConfigState) (result : Result Bool E)
      → these h texts ≡ l → found ≡ config_after h texts → found ≡ Some s
      → IfOk result (λ so. so ≡ is_some (with_text s text)) → IfOk result (λ so. so ≡ may_follow l.header l.texts text)
  followed l found s (Ok so) view before is this =
      this ∙ good_followed found s before is ∙ ap (λ (seen : UpdateList). may_follow seen.header seen.texts text) view
  followed l found s (Err e) view before is this = this

-- a bad list leaves the first in force
pub first_left : (l : UpdateList) (h : Header) (texts : List (List ℕ)) (found : Option ConfigState) (first : ConfigState) → these h texts ≡ l
    → found ≡ config_after h texts → found ≡ None → first ≡ first_config h → first ≡ config_under l.header l.texts
first_left l h texts found first view before none is =
    is ∙ ap (λ made. unwrap_or made (first_config h)) (sym none ∙ before)
    ∙ ap (λ (seen : UpdateList). config_under seen.header seen.texts) view
