-- What a crash may leave of bytes that were written and cut since the last sync.
use Rattle.std.specs.Prelude.{◌≡◌, ℕ, ◌+◌, ◌<◌, ◌≤◌, min, max, Bool, false, ◌&&◌, nat_lt, nat_le, List, [], ◌∷◌, ◌++◌, length, get_or, take, drop}
use Rattle.std.specs.List.{list_any}
use Rattle.log_disk.specs.declared.memory.Range.{Range}

-- a place is in a range
abbrev pub is_in : ℕ → Range → Bool
is_in i r = nat_le r.place i && nat_lt i (r.place + r.size)

-- a place was written
abbrev pub is_written : List Range → ℕ → Bool
is_written ranges i = list_any (is_in i) ranges

-- since the last sync: the bytes that it made lasting, the least and the greatest length since then, and the ranges that
-- were written since then
pub record Pending : Type 0 where
  pub base : List ℕ
  pub least : ℕ
  pub greatest : ℕ
  pub written : List Range

-- A crash may leave any length from the least to the greatest. In it, each place that the last sync had and that was not
-- written since is as the sync left it; every other byte may be any.
pub record MayLeave (p : Pending) (bytes : List ℕ) : Type 0 where
  pub no_shorter : p.least ≤ length bytes
  pub no_longer : length bytes ≤ p.greatest
  pub stays : (i : ℕ) → i < length bytes → i < length p.base → is_written p.written i ≡ false → get_or bytes i 0 ≡ get_or p.base i 0

-- ---- a content and what is pending

-- the bytes that a read gives, and what is pending
pub record Content : Type 0 where
  pub bytes : List ℕ
  pub pending : Pending

-- nothing is pending
abbrev pub lasting : List ℕ → Content
lasting bytes = record {
  bytes = bytes;
  pending = record { base = bytes; least = length bytes; greatest = length bytes; written = [] };
}

-- a text at a place, over what stood there and past the end
abbrev pub put : ℕ → List ℕ → List ℕ → List ℕ
put place text old = take place old ++ text ++ drop (place + length text) old

-- a call that changed something
pub data Step : Type 0 where
  Wrote : ℕ → List ℕ → Step
  CutTo : ℕ → Step
  Synced : Step

-- what it left
unfoldable pub after : Step → Content → Content
after (Wrote place text) c = record {
  bytes = put place text c.bytes;
  pending = record c.pending {
    greatest = max c.pending.greatest (place + length text);
    written = c.pending.written ++ record { place = place; size = length text } ∷ [];
  };
}
after (CutTo size) c = record {
  bytes = take size c.bytes;
  pending = record c.pending { least = min c.pending.least size };
}
after Synced c = lasting c.bytes

-- what all of them left, in order
abbrev pub after_all : List Step → Content → Content
after_all [] c = c
after_all (s ∷ ss) c = after_all ss (after s c)
