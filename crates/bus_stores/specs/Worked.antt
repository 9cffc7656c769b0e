-- Two commits, one after the other.
use Rattle.std.specs.Prelude.{[], ◌∷◌, Some, true, false, codes}
use Rattle.bus_types.specs.declared.change.Key.TheVariants.{Long}
use Rattle.bus_types.specs.Table.{RowList}
use Rattle.bus_stores.specs.Keeper.{Content, Move, move_of, moved, new_content}

-- the row 0/1=aa
abbrev pub one_row : RowList
one_row = (record { source = 0; key = Long 1 }, 170 ∷ []) ∷ []

-- its put, and the mark m
abbrev pub one_put : Move
one_put = move_of false (record { source = 0; key = Long 1; put = Some (170 ∷ []) } ∷ []) (codes "m")

-- the rows are cleared, without a change, and the mark n is set
abbrev pub one_clear : Move
one_clear = move_of true [] (codes "n")

-- a new keeper's content after the put
abbrev pub after_put : Content
after_put = moved one_put new_content
