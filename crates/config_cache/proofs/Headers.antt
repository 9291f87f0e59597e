-- Headers that say the same.
use Rattle.std.proofs.Common.{◌≡◌, ◌∙◌, ℕ, List, ap}
use Rattle.cl_base.specs.declared.header.DeviceKind.{DeviceKind}
use Rattle.cl_base.specs.declared.header.Header.{Header}
use Rattle.cl_base.specs.declared.header.HeaderDevice.{HeaderDevice}
use Rattle.cl_base.specs.declared.header.Version.{Version}

device_of : DeviceKind → ℕ → HeaderDevice
device_of kind attached = record { kind = kind; attached = attached }

pub same_device : (a b : HeaderDevice) → a.kind ≡ b.kind → a.attached ≡ b.attached → a ≡ b
unfolding device_of
same_device a b kind attached = ap (λ k. device_of k a.attached) kind ∙ ap (λ n. device_of b.kind n) attached

header_of : Version → ℕ → ℕ → ℕ → List HeaderDevice → Header
header_of version cluster nodes configured devices =
    record { version = version; cluster = cluster; nodes = nodes; configured = configured; devices = devices }

pub same_header : (a b : Header) → a.version ≡ b.version → a.cluster ≡ b.cluster → a.nodes ≡ b.nodes → a.configured ≡ b.configured
    → a.devices ≡ b.devices → a ≡ b
unfolding header_of
same_header a b version cluster nodes configured devices =
    ap (λ v. header_of v a.cluster a.nodes a.configured a.devices) version
    ∙ ap (λ n. header_of b.version n a.nodes a.configured a.devices) cluster
    ∙ ap (λ n. header_of b.version b.cluster n a.configured a.devices) nodes
    ∙ ap (λ n. header_of b.version b.cluster b.nodes n a.devices) configured
    ∙ ap (λ ds. header_of b.version b.cluster b.nodes b.configured ds) devices
