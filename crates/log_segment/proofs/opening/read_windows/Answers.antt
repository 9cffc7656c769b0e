use Rattle.log_segment.proofs.Openings.{front_fits, first_scan, windows_told, fault_told}
use Rattle.log_segment.proofs.opening.read_windows.Goals as goal

pub skip-requires : goal.skip-requires
skip-requires g c = front_fits c.args.floor c.args.ahead.now c.requires.begins

pub scan_all-requires : goal.scan_all-requires
scan_all-requires g c =
    let s = c.begun.ensures in
    first_scan c.args.floor c.args.ahead.now c.requires.begins c.skip.new.self c.skip.ensures c.begun.result s.floor s.high s.gate s.index c.args.end c.requires.within

pub returns-in-Ok-clause-told : goal.returns-in-Ok-clause-told
returns-in-Ok-clause-told g c =
    let s = c.begun.ensures in
    windows_told c.args.floor c.args.ahead.now c.requires.begins c.skip.new.self c.skip.ensures c.begun.result s.floor s.high s.gate s.index _ c.args.end c.in-Ok.scan c.scan_all.new.ahead c.in-Ok.ensures.told

pub returns-in-Err-clause-told : goal.returns-in-Err-clause-told
returns-in-Err-clause-told g c =
    let s = c.begun.ensures in
    fault_told c.args.floor c.args.ahead.now c.requires.begins c.skip.new.self c.skip.ensures c.begun.result s.floor s.high s.gate s.index _ c.args.end c.in-Err.fault c.scan_all.new.ahead c.in-Err.ensures.told
