-- What a filter shows of the table at an SCN.
use Rattle.std.specs.Prelude.{ℕ, true, List, filter}
use Rattle.bus_types.specs.Change.{Test}
use Rattle.bus_types.specs.Window.{Span}
use Rattle.bus_types.specs.Table.{RowList, table}

-- the test that accepts every row
abbrev pub everything : Test
everything source key = true

-- the rows that a test accepts, in order of name
abbrev pub shown : Test → RowList → RowList
shown test rows = filter (λ row. test row.0.source row.0.key) rows

-- the rows of the table at an SCN that a test accepts, in order of name
abbrev pub view : Test → List Span → ℕ → RowList
view test windows scn = shown test (table windows scn)
