use Rattle.std.proofs.Common.{arith}
use Rattle.log_segment.proofs.Scannings.{record_fits, taken_scan, taken_reached, notes_of, behind_of}
use Rattle.log_segment.proofs.scan.take_record.Goals as goal

pub skip-requires : goal.skip-requires
skip-requires c = omega (arith, c.size-size.ensures.value, record_fits c.args.scan.now c.args.window.now c.args.ahead.now c.requires.stands)

pub note-requires-clause-room : goal.note-requires-clause-room
note-requires-clause-room c = omega (arith, c.size-size.ensures.value, record_fits c.args.scan.now c.args.window.now c.args.ahead.now c.requires.stands, c.requires.room)

pub returns-clause-scan : goal.returns-clause-scan
returns-clause-scan c =
    taken_scan c.args.scan.now c.args.window.now c.args.ahead.now c.requires.stands c.note.new.self c.skip.new.self
    (notes_of c.args.window.now _ _ _ _ c.scn.ensures.value c.size-size.ensures.value c.in-Ok.ensures) (behind_of c.args.window.now _ _ _ c.size-size.ensures.value c.skip.ensures)

pub returns-clause-told : goal.returns-clause-told
returns-clause-told c =
    taken_reached c.args.scan.now c.args.window.now c.args.ahead.now c.requires.stands c.note.new.self c.skip.new.self
    (notes_of c.args.window.now _ _ _ _ c.scn.ensures.value c.size-size.ensures.value c.in-Ok.ensures) (behind_of c.args.window.now _ _ _ c.size-size.ensures.value c.skip.ensures)
