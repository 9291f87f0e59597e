-- The words that name the methods of a resource type.
use Rattle.std.specs.Prelude.{ℕ, List, [], ◌∷◌, Option, find, codes}
use Rattle.std.specs.Str.{bytes_eq}
use Rattle.cl_base.specs.declared.method.Method.{Method}
use Rattle.cl_base.specs.declared.method.Method.TheVariants.{PrenetStart, Start, MonitorStart, MonitorCheck, MonitorStop, Stop, PostnetStop, Validate, Init, Fini, Boot, Update}

abbrev pub method_text : Method → List ℕ
method_text PrenetStart = codes "PRENET_START"
method_text Start = codes "START"
method_text MonitorStart = codes "MONITOR_START"
method_text MonitorCheck = codes "MONITOR_CHECK"
method_text MonitorStop = codes "MONITOR_STOP"
method_text Stop = codes "STOP"
method_text PostnetStop = codes "POSTNET_STOP"
method_text Validate = codes "VALIDATE"
method_text Init = codes "INIT"
method_text Fini = codes "FINI"
method_text Boot = codes "BOOT"
method_text Update = codes "UPDATE"

abbrev pub all_methods : List Method
all_methods = PrenetStart ∷ Start ∷ MonitorStart ∷ MonitorCheck ∷ MonitorStop ∷ Stop
    ∷ PostnetStop ∷ Validate ∷ Init ∷ Fini ∷ Boot ∷ Update ∷ []

-- the method that a word names
unfoldable pub method_in : List ℕ → Option Method
method_in word = find (λ m. bytes_eq (method_text m) word) all_methods
