use Rattle.std.proofs.Common.{◌≡◌, ◌++◌, List, ℕ, refl, sym, ap, ◌∙◌}
use Rattle.bus_types.specs.Change.{accepted}
use Rattle.event_codec.specs.Bytes.{changes_bytes, mark_bytes}
use Rattle.event_codec.proofs.Writing.{appended_window}
use Rattle.event_codec.proofs.write.write_filtered.Goals as goal

pub returns-clause-ok : goal.returns-clause-ok
returns-clause-ok g c =
    let test = g.F.Accepts.test c.args.filter.now in
    let cs = c.changes.result.now in
    let events : c.append_changes.new.out.items ≡ c.args.out.now.items ++ changes_bytes c.scn-scn.result (accepted test cs) =
    c.append_changes.ensures.items ∙ ap (λ (x : List ℕ). x ++ changes_bytes c.scn-scn.result (accepted test cs)) c.in_ok-reserve.ensures.items in
    appended_window test c.args.window.now c.args.out.now.items c.append_changes.new.out.items c.append_mark.new.out.items c.scn-scn.result c.args.window.now.prev cs c.scn-scn.ensures.value refl c.changes.ensures events
    (c.append_mark.ensures ∙ ap (λ n. c.append_changes.new.out.items ++ mark_bytes n c.args.window.now.prev) (sym c.scn-scn.ensures.value))
