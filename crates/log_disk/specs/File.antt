-- What a disk over a file is to a contract.
use Rattle.std.specs.Prelude.{ℕ, None}
use Rattle.log_disk.specs.Disk.{DiskState}

-- a disk that tells nothing of itself but how often it failed: a crash may leave anything
abbrev pub untold_disk : ℕ → DiskState
untold_disk faults = record { seen = None; clock = record { moment = 0; left_since = λ t bytes. Unit {0} }; faults = faults }
