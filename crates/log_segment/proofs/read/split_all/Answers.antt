use Rattle.std.proofs.Common.{List, [], Err, subst, sym}
use Rattle.bus_types.specs.Window.{Span}
use Rattle.window_stream.specs.Stream.{Carries, GoesOn}
use Rattle.window_stream.specs.declared.splitter.SplitFault.{SplitFault}
use Rattle.log_segment.specs.Reading.{Splits}
use Rattle.log_segment.proofs.Records.{splits, splits_bad}
use Rattle.log_segment.proofs.read.split_all.Goals as goal

pub returns-in-Ok : goal.returns-in-Ok
returns-in-Ok c =
    let goes = c.in-Ok.ensures.stream c.args.prev [] [] c.new-splitter.ensures.reads in
    splits c.args.prev c.args.bytes.now c.feed.new.whole.items _ (subst (λ (ws : List Span). GoesOn c.args.prev c.args.bytes.now [] ws c.feed.new.whole.items c.feed.new.self) c.new-windows.ensures.items goes.0)

pub returns-in-Err-Bad : goal.returns-in-Err-Bad
returns-in-Err-Bad c =
    let goes = subst (λ (f : SplitFault). Carries (Err f) c.args.prev [] c.args.bytes.now [] c.new-windows.result.items c.feed.new.whole.items c.feed.new.self) c.in-Err-Bad.field-0-is
    (c.in-Err-Bad.ensures.stream c.args.prev [] [] c.new-splitter.ensures.reads) in
    subst (λ (ws : List Span). Splits c.args.prev c.args.bytes.now ws) (sym c.new.ensures.items)
    (splits_bad c.args.prev c.args.bytes.now c.feed.new.whole.items _ (subst (λ (ws : List Span). GoesOn c.args.prev c.args.bytes.now [] ws c.feed.new.whole.items c.feed.new.self) c.new-windows.ensures.items goes.0) _ goes.1)
