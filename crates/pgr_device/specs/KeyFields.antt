-- A list of keys gives its fields back: the keys, padded by zeros.
use Rattle.std.specs.Prelude.{◌≡◌, ◌-◌, ◌++◌, length, take, replicate, refl}
use Rattle.pgr_device.specs.declared.key_list.KeyList.TheInside.{Inside}
use Rattle.cl_base.specs.Padded.{IsPadded, length_front, front_and_zeros}

pub fields_back : (a : Inside) → IsPadded a.places a.len → (let back : Inside = record { places = take a.len a.places ++ replicate (32 - length (take a.len a.places)) 0; len = length (take a.len a.places) } in back ≡ a)
fields_back a h = rw (length_front a.places a.len h, front_and_zeros a.places a.len h) refl
