use Rattle.std.proofs.Common.{length}
use Rattle.bus_http.specs.Replies.{reply_head}
use Rattle.bus_http.proofs.Sendings.{first_part, second_part}
use Rattle.bus_http.proofs.sending.send_reply.Goals as goal

pub returns-in_default-clause-part : goal.returns-in_default-clause-part
returns-in_default-clause-part g c =
    first_part _ _ (reply_head (length c.args.body.now)) c.args.body.now c.in_default.ensures.part

pub returns-in_default-send-clause-part : goal.returns-in_default-send-clause-part
returns-in_default-send-clause-part g c =
    second_part _ _ _ (reply_head (length c.args.body.now)) c.args.body.now c.in-Ok.ensures.ok c.in_default-send.ensures.part
