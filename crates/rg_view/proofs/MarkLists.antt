-- Asking for marks after some are gone.
use Rattle.std.proofs.Common.{◌≡◌, ℕ, Bool, true, false, cond, not, ◌&&◌, filter, List, refl, sym, ap, ◌∙◌}
use Rattle.std.proofs.lemmas.Map.Views.{any-filter_same}
use Rattle.std.specs.List.{list_any}
use Rattle.std.specs.Str.{bytes_eq}
use Rattle.rg_view.specs.declared.name_at.NameAt.{NameAt}
use Rattle.rg_view.specs.Marks.{is_marked, MarksAfter, MarksGone}
use Rattle.rg_view.specs.PlaceLaws.{one_place}
use Rattle.rg_view.specs.Places.{same_place, place}

shut : (c b : Bool) → (not c && b) ≡ cond c false b
shut true b = refl
shut false b = refl

pub gone : (x : List ℕ) (marks : List NameAt) → MarksGone marks x (filter (λ m. not (bytes_eq x m.name)) marks)
gone x marks other m =
    any-filter_same (same_place (place other m)) (λ m. not (bytes_eq x m.name)) (not (bytes_eq x other))
    (λ k t. ap (λ (k : NameAt). not (bytes_eq x k.name)) (sym (one_place (place other m) k t))) marks
    ∙ shut (bytes_eq x other) (is_marked marks other m)
