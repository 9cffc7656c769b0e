-- How far a bootstrap has come, and its one text.
use Rattle.std.specs.Prelude.{◌≡◌, ℕ, ◌≤◌, List, ◌++◌, codes, decimal, Option, Some, None}
use Rattle.bus_types.specs.declared.limits.TheConstants.{MAX_SCN}
use Rattle.snapshot_applier.specs.declared.boot.BootMark.{BootMark}

-- the log may begin behind base, and the rows are the table at applied
pub record IsBootMark (m : BootMark) : Type 0 where
  pub order : m.base ≤ m.applied
  pub within : m.applied ≤ MAX_SCN

-- compact JSON, the members in the order of their names
abbrev pub boot_mark_text : BootMark → List ℕ
boot_mark_text m = codes "{\"applied\":" ++ decimal m.applied ++ codes ",\"base\":" ++ decimal m.base ++ codes "}"

-- a bootstrap of which nothing was logged
abbrev pub new_boot_mark : BootMark
new_boot_mark = record { base = 0; applied = 0 }

-- the boot mark that a stored text is; without one nothing was logged
abbrev pub IsBootStored : Option (List ℕ) → BootMark → Type 0
IsBootStored None m = m ≡ new_boot_mark
IsBootStored (Some text) m = IsBootMark m × (text ≡ boot_mark_text m)
