use Rattle.bus_types.specs.Relay.{NotFound, Empty, TooSmall}
use Rattle.partition_filter.specs.Selection.{test_of}
use Rattle.relay_server.proofs.Streams.{streams_answer, streams_range}
use Rattle.relay_server.proofs.stream.send_stream.Goals as goal

pub returns-in-Range-clause-sends : goal.returns-in-Range-clause-sends
returns-in-Range-clause-sends g c =
    streams_range test_of g.T.Timeline.told c.args.pass.now c.open.new.self c.args.scn c.args.filter.now c.args.max c.send_range.result _ _ c.in-Range.range c.open.ensures.looked c.open.ensures.lawful c.in-Range.ensures.opened c.send_range.ensures.ok c.send_range.ensures.part

pub returns-in-NotFound-clause-sends : goal.returns-in-NotFound-clause-sends
returns-in-NotFound-clause-sends g c =
    streams_answer g.T.Timeline.told c.args.pass.now c.open.new.self c.args.scn (test_of c.args.filter.now) c.args.max c.send_answer.result _ _ (NotFound c.in-NotFound.floor) c.open.ensures.looked c.open.ensures.lawful c.in-NotFound.ensures.opened.1 c.send_answer.ensures.ok c.send_answer.ensures.part

pub returns-in-Empty-clause-sends : goal.returns-in-Empty-clause-sends
returns-in-Empty-clause-sends g c =
    streams_answer g.T.Timeline.told c.args.pass.now c.open.new.self c.args.scn (test_of c.args.filter.now) c.args.max c.send_answer-in-Empty.result _ _ (Empty c.in-Empty.tail) c.open.ensures.looked c.open.ensures.lawful c.in-Empty.ensures.opened.1 c.send_answer-in-Empty.ensures.ok c.send_answer-in-Empty.ensures.part

pub returns-in-TooSmall-clause-sends : goal.returns-in-TooSmall-clause-sends
returns-in-TooSmall-clause-sends g c =
    streams_answer g.T.Timeline.told c.args.pass.now c.open.new.self c.args.scn (test_of c.args.filter.now) c.args.max c.send_answer-in-TooSmall.result _ _ (TooSmall c.in-TooSmall.need) c.open.ensures.looked c.open.ensures.lawful c.in-TooSmall.ensures.opened.1 c.send_answer-in-TooSmall.ensures.ok c.send_answer-in-TooSmall.ensures.part
