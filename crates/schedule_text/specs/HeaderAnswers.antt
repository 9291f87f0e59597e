-- What the reader of a header answers.
use Rattle.std.specs.Prelude.{◌≡◌, ℕ, Bool, true, false, List, Result, Ok, Err, Option, Some, None}
use Rattle.schedule_text.specs.declared.header.HeaderState.{HeaderState}
use Rattle.schedule_text.specs.declared.kind.Kind.{Kind}
use Rattle.schedule_text.specs.declared.kind.ReadError.{ReadError}
use Rattle.schedule_text.specs.declared.kind.ReadError.TheVariants.{Refused, NoMemory}
use Rattle.schedule_text.specs.Headers.{HeaderStep, More, Over, Bad, header_step}

-- the state that a line leads to, or its refusal
abbrev pub Steps : Result HeaderState Kind → HeaderStep → Type 0
Steps (Ok state) is = is ≡ More state
Steps (Err kind) is = is ≡ Bad kind

-- the same, where the header can end before the line, and where memory may lack
abbrev pub Leads : Result (Option HeaderState) ReadError → HeaderStep → Type 0
Leads (Ok (Some state)) is = is ≡ More state
Leads (Ok None) is = is ≡ Over
Leads (Err (Refused kind)) is = is ≡ Bad kind
Leads (Err NoMemory) is = Unit {0}

-- `true`: the line was taken; `false`: the header is over before it; else a refusal, or no memory
abbrev pub TakesLine : HeaderState → List ℕ → Result Bool ReadError → HeaderState → Type 0
TakesLine old line (Ok true) new = header_step old line ≡ More new
TakesLine old line (Ok false) new = (header_step old line ≡ Over) × (new ≡ old)
TakesLine old line (Err (Refused kind)) new = (header_step old line ≡ Bad kind) × (new ≡ old)
TakesLine old line (Err NoMemory) new = new ≡ old
