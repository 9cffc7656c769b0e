-- What is printed of consumers.
use Rattle.std.specs.Prelude.{ℕ, List, [], ◌∷◌, ◌++◌, length, flat_map, codes, decimal}
use Rattle.hex.specs.Hex.{encode_lower}
use Rattle.bus_types.specs.declared.change.RowName.{RowName}
use Rattle.bus_types.specs.Change.{key_text}
use Rattle.bus_types.specs.Table.{RowList}
use Rattle.checkpoint.specs.declared.mark.Mark.{Mark}
use Rattle.checkpoint.specs.declared.mark.Mark.TheVariants.{Online, Delta, Snapshot, Scanned, Catchup}
use Rattle.trace_script.specs.declared.printing.Stage.{Stage}
use Rattle.trace_script.specs.declared.printing.Stage.TheVariants as stages

-- the stage of a mark, as far as the line of a reply tells it
abbrev pub stage_of : Mark → Stage
stage_of (Online scn) = stages.Online scn
stage_of (Delta since target cursor) = stages.Delta target
stage_of (Snapshot since begins top cursor) = stages.Snapshot
stage_of (Scanned since begins top) = stages.Scanned begins
stage_of (Catchup since begins target at) = stages.Catchup target

abbrev pub row_line : RowName × List ℕ → List ℕ
row_line row = decimal row.0.source ++ codes "/" ++ key_text row.0.key ++ codes "=" ++ encode_lower row.1 ++ codes "\n"

-- a consumer that is online at an SCN with these rows
abbrev pub rows_text : List ℕ → ℕ → RowList → List ℕ
rows_text name scn rows = codes "show " ++ name ++ codes " online " ++ decimal scn ++ codes " " ++ decimal (length rows) ++ codes "\n"
    ++ flat_map row_line rows

-- a consumer at a mark with these rows: online, its SCN and its rows; else its mode alone
abbrev pub shown_text : List ℕ → Mark → RowList → List ℕ
shown_text name (Online scn) rows = rows_text name scn rows
shown_text name (Delta since target cursor) rows = codes "show " ++ name ++ codes " delta\n"
shown_text name (Snapshot since begins top cursor) rows = codes "show " ++ name ++ codes " snapshot\n"
shown_text name (Scanned since begins top) rows = codes "show " ++ name ++ codes " scanned\n"
shown_text name (Catchup since begins target at) rows = codes "show " ++ name ++ codes " catchup\n"
