use Rattle.std.proofs.Common.{take}
use Rattle.wire_tests.proofs.streams.echo.Goals as goal

-- the write left what was given, and the read what was written
pub returns-in-Ok-write_all : goal.returns-in-Ok-write_all
returns-in-Ok-write_all g c =
    let read = c.in-Ok.ensures in
    let wrote = c.in-Ok-write_all.ensures in
    let given = g.met.C.Conn.write_leaves _ _ wrote.beside in
    let written = g.met.C.Conn.read_leaves _ _ read.beside in
    (take c.in-Ok.count c.read.new.buf, rw given.0 read.given, rw (← written.0) wrote.ok)
