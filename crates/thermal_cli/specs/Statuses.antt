-- The exit codes of the statuses.
use Rattle.std.specs.Prelude.{ℕ}
use Rattle.thermal_cli.specs.declared.status.Status.{Status}
use Rattle.thermal_cli.specs.declared.status.Status.TheVariants.{Fine, Refused, Usage, NoMemory, SourceFault, SinkFault, WidthNotReached, CertificateRefused}

abbrev pub code_of : Status → ℕ
code_of Fine = 0
code_of Refused = 1
code_of Usage = 2
code_of NoMemory = 3
code_of SourceFault = 4
code_of SinkFault = 5
code_of WidthNotReached = 6
code_of CertificateRefused = 7
