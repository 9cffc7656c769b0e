use Rattle.std.proofs.Common.{[], string_bytes}
use Rattle.form_urlencoded.specs.Form.{extend_pairs}
use Rattle.bus_http.specs.Asking.{path_of, pairs_of}
use Rattle.bus_http.proofs.Askings.{same_request}
use Rattle.bus_http.proofs.asking.ask_text.Goals as goal

pub returns : goal.returns
returns c =
    same_request (path_of c.args.ask.now) (extend_pairs [] (pairs_of c.args.ask.now)) c.path_of-path.result.now (string_bytes c.in_ok-form.form) (string_bytes c.in_ok-text.text)
    c.in_ok-text.ensures.ok c.path_of-path.ensures c.in_ok-form.ensures
