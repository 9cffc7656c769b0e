-- The code's walk over the items of a reply.
use Rattle.std.proofs.Common.{◌≡◌, ℕ, ◌+◌, ◌-◌, ◌<◌, ◌≤◌, Bool, true, false, ltb, ◌&&◌, List, [], ◌∷◌, ◌++◌, length, Option, Some, None, refl, sym, ap, ◌∙◌, arith}
use Rattle.bus_types.specs.declared.limits.TheConstants.{MAX_SCN}
use Rattle.event_codec.specs.declared.close.Close.{Close}
use Rattle.event_codec.specs.declared.event.EventView.{EventView}
use Rattle.event_codec.specs.Bytes.{event_bytes}
use Rattle.event_codec.specs.View.{event_of, IsView}
use Rattle.event_codec.specs.Parsing.{close_of, closing_in_front}
use Rattle.bus_wire.specs.declared.items.Items.{Items}
use Rattle.bus_wire.specs.declared.items.Walk.{Walk}
use Rattle.bus_wire.specs.Wanted.{Wanted, most_items, is_wanted, wanted_behind, ends, HoldsItems, ItemsStop}
use Rattle.bus_wire.specs.Walk.{wanted_of, IsWalked, Stays, Walks, IsClosed}
use Rattle.bus_wire.proofs.Wanting.{Reads, read_none, reads_more, shorter, stops_here, stops_behind, holds_all}

reads : (w : Wanted) (bytes : List ℕ) (walk : Walk) → IsWalked w bytes walk → Reads w bytes (wanted_of walk.items) walk.count walk.rest.now
reads w bytes walk is = record { read = is.read; wanted = is.wanted; counted = is.counted; left = is.left }

walked : (w : Wanted) (bytes : List ℕ) (walk : Walk) → Reads w bytes (wanted_of walk.items) walk.count walk.rest.now → IsWalked w bytes walk
walked w bytes walk r = record { read = r.read; wanted = r.wanted; counted = r.counted; left = r.left }

pub walks : (w : Wanted) (bytes : List ℕ) (walk : Walk) (view : EventView) (next : Walk) → IsWalked w bytes walk → IsView view → walk.rest.now ≡ event_bytes (event_of view) ++ next.rest.now
    → (ltb walk.count most_items && is_wanted (wanted_of walk.items) view.scn (event_of view).change) ≡ true → wanted_of next.items ≡ wanted_behind (wanted_of walk.items) view.scn (event_of view).change
    → next.count ≡ walk.count + 1 → Walks w bytes walk next
walks w bytes walk view next is seen parts takes behind counted =
    let r = reads_more w bytes (wanted_of walk.items) walk.count walk.rest.now (event_of view) next.rest.now (reads w bytes walk is) seen.event parts takes in
    (record { read = r.read; wanted = behind ∙ r.wanted; counted = counted ∙ r.counted; left = r.left }, shorter (event_of view) walk.rest.now next.rest.now parts)

pub stopped : (wanted : Items) (bytes : List ℕ) (walk : Walk) → IsWalked (wanted_of wanted) bytes walk → Stays walk → ends (wanted_of walk.items) walk.count (closing_in_front walk.rest.now) ≡ false
    → ItemsStop (wanted_of wanted) bytes (length bytes - length walk.rest.now)
stopped wanted bytes walk is stays unended = stops_here (wanted_of wanted) bytes (wanted_of walk.items) walk.count walk.rest.now (reads (wanted_of wanted) bytes walk is) stays unended

pub stopped_behind : (wanted : Items) (bytes : List ℕ) (walk : Walk) (close : Close) (rest : List ℕ) → IsWalked (wanted_of wanted) bytes walk → IsClosed walk close rest → 0 < length rest
    → ItemsStop (wanted_of wanted) bytes (length bytes - length rest)
stopped_behind wanted bytes walk close rest is closed more =
    stops_behind (wanted_of wanted) bytes (wanted_of walk.items) walk.count walk.rest.now (close_of close) rest (reads (wanted_of wanted) bytes walk is) closed.there closed.parts closed.can more

pub held : (wanted : Items) (bytes : List ℕ) (walk : Walk) (close : Close) (rest : List ℕ) → IsWalked (wanted_of wanted) bytes walk → IsClosed walk close rest → length rest ≡ 0
    → HoldsItems (wanted_of wanted) bytes walk.count close.scn close.more
held wanted bytes walk close rest is closed none =
    holds_all (wanted_of wanted) bytes (wanted_of walk.items) walk.count walk.rest.now (close_of close) rest (reads (wanted_of wanted) bytes walk is) closed.scn closed.parts closed.can none

pub begins : (wanted : Items) (bytes : List ℕ) (walk : Walk) → wanted_of walk.items ≡ wanted_of wanted → walk.count ≡ 0 → walk.rest.now ≡ bytes → IsWalked (wanted_of wanted) bytes walk
begins wanted bytes walk same none all = record { read = read_none (wanted_of wanted) bytes; wanted = same; counted = none; left = all }
