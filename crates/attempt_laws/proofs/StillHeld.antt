-- A device that is held stays held, whatever else is seized.
use Rattle.std.proofs.Common.{◌≡◌, ℕ, List, [], ◌∷◌, ◌++◌, map, refl, sym, ap, ◌∙◌}
use Rattle.std.specs.Prelude.{◌==◌, ◌&&◌, ◌||◌, Bool, true, false, Option, Some, None, is_none, if◌then◌else◌}
use Rattle.cl_base.specs.Seizings.{SeizeResult}
use Rattle.cmm_attempt.specs.declared.seizing.Seizing.{Seizing}
use Rattle.cmm_attempt.specs.Seizings.{is_held_by, held_set, with_result, with_next}
use Rattle.attempt_laws.specs.Laws.{is_held_in, is_listed_in, CountsHeld}
use Rattle.cmm_attempt.proofs.Basics.{false_true}
use Rattle.cl_base.specs.Sets.{set_with}

abbrev holds : ℕ → Seizing → Bool
holds d e = (e.attached.device == d) && is_held_by e.result

second : (a b : Bool) → (a && b) ≡ true → b ≡ true
second true b h = h
second false b h = absurd (false_true h)

or_more : (a more b c : Bool) → (a ≡ true → more ≡ true) → (b ≡ true → c ≡ true) → (a || b) ≡ true → (more || c) ≡ true
or_more true true b c f g h = refl
or_more true false b c f g h = absurd (false_true (f refl))
or_more false true b c f g h = refl
or_more false false b c f g h = g h

-- only a seizing without a result is changed
held_if : (d : ℕ) (b : Bool) (o : Option SeizeResult) (e changed : Seizing) → e.result ≡ o → holds d e ≡ true
    → holds d (if b && is_none o then changed else e) ≡ true
held_if d true None e changed is h = absurd (false_true (sym (ap is_held_by is) ∙ second (e.attached.device == d) (is_held_by e.result) h))
held_if d true (Some r) e changed is h = h
held_if d false o e changed is h = h

held_mapped : (d : ℕ) (f : Seizing → Seizing) → ((e : Seizing) → holds d e ≡ true → holds d (f e) ≡ true)
    → (ds : List Seizing) → is_held_in ds d ≡ true → is_held_in (map f ds) d ≡ true
held_mapped d f keep [] h = absurd (false_true h)
held_mapped d f keep (e ∷ ds) h = or_more (holds d e) (holds d (f e)) (is_held_in ds d) (is_held_in (map f ds) d) (keep e) (held_mapped d f keep ds) h

held_appended : (d : ℕ) (ds more : List Seizing) → is_held_in ds d ≡ true → is_held_in (ds ++ more) d ≡ true
held_appended d [] more h = absurd (false_true h)
held_appended d (e ∷ ds) more h = or_more (holds d e) (holds d e) (is_held_in ds d) (is_held_in (ds ++ more) d) (λ k. k) (held_appended d ds more) h

listed_appended : (d : ℕ) (ds more : List Seizing) → is_listed_in ds d ≡ true → is_listed_in (ds ++ more) d ≡ true
listed_appended d [] more h = absurd (false_true h)
listed_appended d (e ∷ ds) more h =
    or_more (e.attached.device == d) (e.attached.device == d) (is_listed_in ds d) (is_listed_in (ds ++ more) d) (λ k. k) (listed_appended d ds more) h

listed_mapped : (d : ℕ) (f : Seizing → Seizing) → ((e : Seizing) → (f e).attached ≡ e.attached) → (ds : List Seizing) → is_listed_in ds d ≡ true → is_listed_in (map f ds) d ≡ true
listed_mapped d f same [] h = absurd (false_true h)
listed_mapped d f same (e ∷ ds) h =
    or_more (e.attached.device == d) ((f e).attached.device == d) (is_listed_in ds d) (is_listed_in (map f ds) d) (λ k. ap (λ a. a.device == d) (same e) ∙ k)
    (listed_mapped d f same ds) h

pub same_attached : (e changed : Seizing) (b : Bool) → changed.attached ≡ e.attached → (if b then changed else e).attached ≡ e.attached
same_attached e changed true h = h
same_attached e changed false h = refl

pub counts_now : (ds : List Seizing) → CountsHeld (held_set ds) ds
counts_now ds = record { before = ds; set = refl; listed = λ d h. h; still = λ d h. h }

pub counts_appended : (c : ℕ) (ds more : List Seizing) → CountsHeld c ds → CountsHeld c (ds ++ more)
counts_appended c ds more x = record {
  before = x.before;
  set = x.set;
  listed = λ d h. listed_appended d ds more (x.listed d h);
  still = λ d h. held_appended d ds more (x.still d h);
}

pub counts_with_result : (c : ℕ) (ds : List Seizing) (device : ℕ) (r : SeizeResult) → CountsHeld c ds → CountsHeld c (map (with_result device r) ds)
counts_with_result c ds device r x = record {
  before = x.before;
  set = x.set;
  listed = λ d h.
      listed_mapped d (with_result device r) (λ e. same_attached e (record e { result = Some r }) ((e.attached.device == device) && is_none e.result) refl) ds (x.listed d h);
  still = λ d h. held_mapped d (with_result device r) (λ e k. held_if d (e.attached.device == device) e.result e (record e { result = Some r }) refl k) ds (x.still d h);
}

pub counts_with_next : (c : ℕ) (ds : List Seizing) (device n : ℕ) → CountsHeld c ds → CountsHeld c (map (with_next device n) ds)
counts_with_next c ds device n x = record {
  before = x.before;
  set = x.set;
  listed = λ d h.
      listed_mapped d (with_next device n) (λ e. same_attached e (record e { seizer = Some n; asked = set_with e.asked n }) ((e.attached.device == device) && is_none e.result) refl)
      ds (x.listed d h);
  still = λ d h. held_mapped d (with_next device n) (λ e k. held_if d (e.attached.device == device) e.result e (record e { seizer = Some n; asked = set_with e.asked n }) refl k) ds (x.still d h);
}
