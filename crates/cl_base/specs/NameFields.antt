-- A name gives its fields back: its bytes, padded by zeros.
use Rattle.std.specs.Prelude.{◌≡◌, ◌-◌, ◌++◌, length, take, replicate, refl}
use Rattle.cl_base.specs.declared.name.Name.TheInside.{Inside}
use Rattle.cl_base.specs.Padded.{IsPadded, length_front, front_and_zeros}

pub fields_back : (a : Inside) → IsPadded a.bytes a.len → (let back : Inside = record { bytes = take a.len a.bytes ++ replicate (32 - length (take a.len a.bytes)) 0; len = length (take a.len a.bytes) } in back ≡ a)
fields_back a h = rw (length_front a.bytes a.len h, front_and_zeros a.bytes a.len h) refl
