-- A lawful reply of some shape is read as one.
use Rattle.std.proofs.Common.{◌≡◌, ℕ, Bool, List, [], ◌∷◌, map, refl, sym, ap, subst, ◌∙◌}
use Rattle.std.specs.List.{AllByRecursion}
use Rattle.bus_types.specs.declared.change.Change.{Change}
use Rattle.bus_types.specs.Window.{Span, IsSpan}
use Rattle.event_codec.specs.declared.reply.Shape.{Shape}
use Rattle.event_codec.specs.declared.reply.Shape.TheVariants as shapes
use Rattle.event_codec.specs.declared.reply.ReplyView.{ReplyView}
use Rattle.event_codec.specs.declared.reply.ReplyView.TheVariants as views
use Rattle.event_codec.specs.Bytes.{Event}
use Rattle.event_codec.specs.Items.{Since}
use Rattle.event_codec.specs.Parsing.{events_of}
use Rattle.event_codec.specs.Streams.{Come, after_window, windows_bytes}
use Rattle.event_codec.specs.Questions.{Reply}
use Rattle.event_codec.specs.Questions.Reply.{Windows, Rows, Changes, Only}
use Rattle.event_codec.specs.ReplyViews.{view_of, Spells}
use Rattle.event_codec.proofs.Parsings.{changes_again}
use Rattle.event_codec.proofs.Replying.{same_view}
use Rattle.event_codec.proofs.Streams.{come_spans}
use Rattle.bus_wire.specs.declared.ask.Ask.{Ask}
use Rattle.bus_wire.specs.Wanted.{Wanted, rows_wanted, changes_wanted, HoldsItems}
use Rattle.bus_wire.specs.Lawful.{Body, body_of, HoldsWindows, HoldsRows, HoldsChanges, IsLawful}
use Rattle.bus_wire.specs.Lawful.Body.{NoBody, WindowsOf, RowsOf, ChangesOf}
use Rattle.bus_wire.specs.Replies.{AreReplied, AreItems, AreRows, AreChanges, IsReply}

windows_read : (body : Body) (bytes : List ℕ) (count last : ℕ) → HoldsWindows body bytes count last
    → (ws : List Span) × Spells (shapes.Windows count last) bytes (Windows ws) × (bytes ≡ windows_bytes ws) × AreReplied body ws
windows_read NoBody bytes count last holds = absurd holds
windows_read (WindowsOf floor top filter) bytes count last holds = (
  holds.windows,
  record { formed = come_spans _ holds.windows holds.run.asked.come; spelled = holds.spelled; shaped = λ i. shapes.Windows (holds.counted i) (holds.ends i) },
  holds.spelled,
  holds.run,
)
windows_read (RowsOf start cursor filter) bytes count last holds = absurd holds
windows_read (ChangesOf target cursor filter) bytes count last holds = absurd holds

items_read : (w : Wanted) (bytes : List ℕ) (count scn : ℕ) (more : Bool) (holds : HoldsItems w bytes count scn more) → AreItems w bytes (events_of scn holds.changes) scn more
items_read w bytes count scn more holds = record { changes = holds.changes; spelled = holds.spelled; asked = holds.asked; are = refl }

rows_read : (body : Body) (bytes : List ℕ) (count scn : ℕ) (more : Bool) → HoldsRows body bytes count scn more
    → (cs : List Change) × Spells (shapes.Rows count scn more) bytes (Rows cs scn more) × AreRows body bytes (events_of scn cs) scn more
rows_read NoBody bytes count scn more holds = absurd holds
rows_read (WindowsOf floor top filter) bytes count scn more holds = absurd holds
rows_read (RowsOf start cursor filter) bytes count scn more holds = (
  holds.changes,
  record { formed = holds.asked.formed; spelled = holds.spelled; shaped = λ i. shapes.Rows (holds.counted i) scn more },
  items_read (rows_wanted start cursor filter) bytes count scn more holds,
)
rows_read (ChangesOf target cursor filter) bytes count scn more holds = absurd holds

changes_read : (body : Body) (bytes : List ℕ) (count : ℕ) (more : Bool) → HoldsChanges body bytes count more
    → (cs : List Change) × (scn : ℕ) × Spells (shapes.Changes count more) bytes (Changes cs scn more) × AreChanges body bytes (events_of scn cs) scn more
changes_read NoBody bytes count more holds = absurd holds
changes_read (WindowsOf floor top filter) bytes count more holds = absurd holds
changes_read (RowsOf start cursor filter) bytes count more holds = absurd holds
changes_read (ChangesOf target cursor filter) bytes count more holds = (
  holds.changes,
  target,
  record { formed = holds.asked.formed; spelled = holds.spelled; shaped = λ i. shapes.Changes (holds.counted i) more },
  items_read (changes_wanted target cursor filter) bytes count target more holds,
)

pub lawful_read : (ask : Ask) (bytes : List ℕ) (shape : Shape) → IsLawful ask bytes shape → (reply : Reply) × Spells shape bytes reply × IsReply ask bytes (view_of reply)
lawful_read ask bytes (shapes.Windows count last) lawful = (let x = windows_read (body_of ask) bytes count last lawful in (Windows x.0, x.1, (x.2, x.3)))
lawful_read ask bytes (shapes.Rows count scn more) lawful = (let x = rows_read (body_of ask) bytes count scn more lawful in (Rows x.0 scn more, x.1, x.2))
lawful_read ask bytes (shapes.Changes count more) lawful = (let x = changes_read (body_of ask) bytes count more lawful in (Changes x.0 x.1 more, x.2, x.3))
lawful_read ask bytes (shapes.Only answer) lawful = (Only answer, record { formed = lawful.1.within; spelled = lawful.0; shaped = refl }, lawful)

pub reply_read : (ask : Ask) (bytes : List ℕ) (shape : Shape) (view : ReplyView) → IsLawful ask bytes shape → ((reply : Reply) → Spells shape bytes reply → view ≡ view_of reply) → IsReply ask bytes view
reply_read ask bytes shape view lawful read =
    let x = lawful_read ask bytes shape lawful in
    subst (IsReply ask bytes) (sym (read x.0 x.1)) x.2

-- bytes of a shape are one reply, the reply of their view
abbrev reply_in : ReplyView → Reply
reply_in (views.Windows ws) = Windows ws
reply_in (views.Rows run scn more) = Rows (map (λ (e : Event). e.change) run) scn more
reply_in (views.Changes run scn more) = Changes (map (λ (e : Event). e.change) run) scn more
reply_in (views.Only answer) = Only answer

reply_again : (r : Reply) → reply_in (view_of r) ≡ r
reply_again (Windows ws) = refl
reply_again (Rows cs scn more) = ap (λ (x : List Change). Rows x scn more) (changes_again scn cs)
reply_again (Changes cs scn more) = ap (λ (x : List Change). Changes x scn more) (changes_again scn cs)
reply_again (Only answer) = refl

pub one_reply : (shape : Shape) (bytes : List ℕ) (one other : Reply) → Spells shape bytes one → Spells shape bytes other → one ≡ other
one_reply shape bytes one other first second = sym (reply_again one) ∙ ap reply_in (same_view shape bytes one other first second) ∙ reply_again other
