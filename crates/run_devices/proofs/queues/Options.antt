-- What is told by a test, or made of what was told.
use Rattle.std.specs.Prelude.{◌≡◌, Bool, true, false, List, Option, None, Some, option_map, if◌then◌else◌}
use Rattle.std.proofs.Common.{refl}
use Rattle.cmm_attempt.proofs.Basics.{none_some, same_some}
use Rattle.history.specs.Queue.{Task}
use Rattle.run_devices.specs.queues.Told.{unless}

pub record Mapped {A B : Type 0} (f : A → B) (o : Option A) (y : B) : Type 0 where
  pub inside : A
  pub found : o ≡ Some inside
  pub gives : f inside ≡ y

pub mapped : {A B : Type 0} (f : A → B) (o : Option A) (y : B) → option_map f o ≡ Some y → Mapped f o y
mapped f None y is = absurd (none_some y is)
mapped f (Some x) y is = record { inside = x; found = refl; gives = same_some (f x) y is }

-- it is told, so it is not open
pub record Kept (b : Bool) (o : Option (List Task)) (tasks : List Task) : Type 0 where
  pub closed : b ≡ false
  pub told : o ≡ Some tasks

pub kept : (b : Bool) (o : Option (List Task)) (tasks : List Task) → unless b o ≡ Some tasks → Kept b o tasks
kept true o tasks is = absurd (none_some tasks is)
kept false o tasks is = record { closed = refl; told = is }

-- where a test leaves it open, the test failed
pub told_else : {A : Type 0} (b : Bool) (o : Option A) (y : A) → (if b then None else o) ≡ Some y → o ≡ Some y
told_else true o y is = absurd (none_some y is)
told_else false o y is = is

pub record Passed {A : Type 0} (b : Bool) (o : Option A) (y : A) : Type 0 where
  pub so : b ≡ true
  pub told : o ≡ Some y

pub passed : {A : Type 0} (b : Bool) (o : Option A) (y : A) → (if b then o else None) ≡ Some y → Passed b o y
passed true o y is = record { so = refl; told = is }
passed false o y is = absurd (none_some y is)

pub record Failed {A : Type 0} (b : Bool) (o : Option A) (y : A) : Type 0 where
  pub so : b ≡ false
  pub told : o ≡ Some y

pub failed : {A : Type 0} (b : Bool) (o : Option A) (y : A) → (if b then None else o) ≡ Some y → Failed b o y
failed true o y is = absurd (none_some y is)
failed false o y is = record { so = refl; told = is }
