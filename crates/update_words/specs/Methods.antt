-- Methods of a resource type as words, and sets of them in the order of listing.
use Rattle.std.specs.Prelude.{ℕ, List, [], ◌∷◌, codes}
use Rattle.std.specs.List.{filter}
use Rattle.cl_base.specs.Methods.{has_method, place_of}
use Rattle.cl_base.specs.declared.method.Method.{Method}
use Rattle.cl_base.specs.declared.method.Method.TheVariants.{PrenetStart, Start, MonitorStart, MonitorCheck, MonitorStop, Stop, PostnetStop, Validate, Init, Fini, Boot, Update}
use Rattle.update_words.specs.Joined.{joined}

abbrev pub method_text : Method → List ℕ
method_text PrenetStart = codes "PRENET_START"
method_text Start = codes "START"
method_text MonitorStart = codes "MONITOR_START"
method_text MonitorCheck = codes "MONITOR_CHECK"
method_text MonitorStop = codes "MONITOR_STOP"
method_text Stop = codes "STOP"
method_text PostnetStop = codes "POSTNET_STOP"
method_text Validate = codes "VALIDATE"
method_text Init = codes "INIT"
method_text Fini = codes "FINI"
method_text Boot = codes "BOOT"
method_text Update = codes "UPDATE"

-- all methods in the order of listing
abbrev pub all_methods : List Method
all_methods = PrenetStart ∷ Start ∷ MonitorStart ∷ MonitorCheck ∷ MonitorStop ∷ Stop
    ∷ PostnetStop ∷ Validate ∷ Init ∷ Fini ∷ Boot ∷ Update ∷ []

-- the methods that a set has
unfoldable pub listed : ℕ → List Method
listed set = filter (has_method set) all_methods

-- METHOD,METHOD,.. in the order of listing
abbrev pub methods_text : ℕ → List ℕ
methods_text set = joined 44 method_text (listed set)
