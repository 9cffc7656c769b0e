-- A boot mark as a JSON object, and the boot mark that a JSON object holds, whatever else stands in it.
use Rattle.std.specs.Prelude.{List, [], ◌∷◌, codes, Option, Some}
use Rattle.bus_types.specs.Text.{◌>>=◌}
use Rattle.serde_json.specs.Data.{Data}
use Rattle.json_forms.specs.Objects.{Number, Member, object_data, number_at}
use Rattle.snapshot_applier.specs.declared.boot.BootMark.{BootMark}

-- its members, in the order of their names
abbrev pub boot_members : BootMark → List Member
boot_members m = (codes "applied", Number m.applied) ∷ (codes "base", Number m.base) ∷ []

abbrev pub boot_data : BootMark → Data
boot_data m = object_data (boot_members m)

-- the boot mark of the members that it has
unfoldable pub boot_in : Data → Option BootMark
boot_in d = do
  applied ← number_at (codes "applied") d
  base ← number_at (codes "base") d
  Some (record { base = base; applied = applied })
