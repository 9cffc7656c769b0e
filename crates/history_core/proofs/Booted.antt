-- A bootstrap that stands for a timeline, and for a longer one.
use Rattle.std.proofs.Common.{◌≡◌, ℕ, ◌≤◌, true, Some, None, true≢false, List, [], ◌∷◌, ◌++◌, refl, sym, ap, subst, ◌∙◌, arith, append_assoc}
use Rattle.bus_types.specs.Window.{Span}
use Rattle.bus_types.specs.Timeline.{Follows, IsTimeline, end_from, end_of}
use Rattle.bus_types.specs.Relay.{is_place}
use Rattle.bus_types.proofs.Stretches.{Rises, end_from-append, rises_end, timeline_rises, between_stays, table_stays}
use Rattle.bus_types.proofs.Floors.{parted_at, rises_back, end_is_place}
use Rattle.std.proofs.lemmas.Option.{same_Some}
use Rattle.bus_stores.specs.declared.plan.Fail.{Fail}
use Rattle.bus_stores.specs.Keeper.{Stops}
use Rattle.bus_stores.specs.Log.{LogRoom}
use Rattle.bus_stores.specs.Memory.{MemoryStore, no_fails, told_by}
use Rattle.bus_stores.specs.MemoryLog.{MemoryWindows, log_of}
use Rattle.bootstrap_core.specs.Boot.{BootParts}
use Rattle.history_core.specs.Bus.{IsBooted}

-- a place is at or below the end
pub place_within : (n : ℕ) (ws : List Span) → IsTimeline ws → is_place n ws ≡ true → n ≤ end_of ws
place_within n ws t place =
    let parts = parted_at 0 n ws place in
    let rising = rises_back 0 parts.front parts.back (subst (Rises 0) (sym parts.whole) (timeline_rises 0 ws t)) in
    let ends : end_of ws ≡ end_from (end_from 0 parts.front) parts.back = ap end_of (sym parts.whole) ∙ end_from-append 0 parts.front parts.back in
    let later = rises_end (end_from 0 parts.front) parts.back rising in
    let front = parts.end in
    omega arith

-- and one of the longer timeline
pub place_stays : (n : ℕ) (ws : List Span) (w : Span) → is_place n ws ≡ true → is_place n (ws ++ w ∷ []) ≡ true
place_stays n ws w place =
    let parts = parted_at 0 n ws place in
    let whole : parts.front ++ (parts.back ++ w ∷ []) ≡ ws ++ w ∷ [] = sym (append_assoc parts.front parts.back (w ∷ [])) ∙ ap (λ (vs : List Span). vs ++ w ∷ []) parts.whole in
    subst (λ m. is_place m (ws ++ w ∷ []) ≡ true) parts.end (subst (λ (vs : List Span). is_place (end_from 0 parts.front) vs ≡ true) whole (end_is_place 0 parts.front (parts.back ++ w ∷ [])))

-- a bootstrap of a timeline is one of the longer timeline
pub booted_stays : (ws : List Span) (w : Span) → IsTimeline ws → Follows (end_of ws) w → (b : BootParts MemoryWindows MemoryStore) → IsBooted ws b → IsBooted (ws ++ w ∷ []) b
booted_stays ws w t f b h =
    let s = h.stands in
    let log = log_of b.log in
    let high_within = place_within log.high ws t s.lawful.high_place in
    let applied_within = place_within b.mark.applied ws t s.lawful.applied_place in
    record {
      stands = record {
        lawful = record {
          applied = s.lawful.applied;
          high = s.lawful.high;
          base_place = place_stays b.mark.base ws w s.lawful.base_place;
          applied_place = place_stays b.mark.applied ws w s.lawful.applied_place;
          high_place = place_stays log.high ws w s.lawful.high_place;
        };
        between = s.between;
        stretch = record {
          floor = place_stays log.floor ws w s.stretch.floor;
          windows = s.stretch.windows ∙ sym (between_stays log.floor log.high ws w f high_within);
        };
        table = record {
          rows = s.table.rows ∙ sym (table_stays ws w b.mark.applied f applied_within);
          stored = s.table.stored;
        };
      };
      runs = h.runs;
      log_sound = h.log_sound;
      roomy = h.roomy;
      begins = h.begins;
      keeper_sound = h.keeper_sound;
      unarmed = h.unarmed;
    }

-- ---- log and keeper in memory

pub none_listed : (fails : List Fail) → no_fails fails ≡ true → fails ≡ []
none_listed [] sound = refl
none_listed (f ∷ fs) sound = absurd (true≢false (sym sound))

-- what a log and a keeper tell of what they can do
abbrev room_of : MemoryWindows → LogRoom
room_of s = record { limit = s.limit; sound = no_fails s.fails; drops_all = true }

abbrev pub stops_of : MemoryStore → Stops
stops_of s = record { marks = s.marks; armed = s.armed; sound = no_fails s.fails }

-- a log of the same room
pub log_kept : (old new : MemoryWindows) → (log_of new).room ≡ (log_of old).room → old.fails ≡ [] → (new.fails ≡ []) × (new.limit ≡ old.limit)
log_kept old new room sound =
    let same : room_of new ≡ room_of old = same_Some (room_of new) (room_of old) room in
    (none_listed new.fails (ap (λ (r : LogRoom). r.sound) same ∙ ap no_fails sound), ap (λ (r : LogRoom). r.limit) same)

-- a keeper that tells that no stop is armed and no call fails
pub keeper_kept : (new : MemoryStore) (s : Stops) → (told_by new).stops ≡ Some s → s.armed ≡ None → s.sound ≡ true → (new.fails ≡ []) × (new.armed ≡ None)
keeper_kept new s told armed sound =
    let same : stops_of new ≡ s = same_Some (stops_of new) s told in
    (none_listed new.fails (ap (λ (v : Stops). v.sound) same ∙ sound), ap (λ (v : Stops). v.armed) same ∙ armed)
