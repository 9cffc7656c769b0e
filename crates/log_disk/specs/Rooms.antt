-- The room that a disk in memory took when it was made.
use Rattle.std.specs.Prelude.{ℕ, ◌+◌, ◌≤◌, length, Vec, vec_capacity}
use Rattle.std.specs.declared.alloc.Global.{Global}
use Rattle.log_disk.specs.declared.memory.Call.{Call}
use Rattle.log_disk.specs.declared.memory.Range.{Range}

-- each part has room for the bytes and the calls that may still come
pub record AreRoomy (room left : ℕ) (start : Vec ℕ Global) (calls : Vec Call Global) (texts bytes synced : Vec ℕ Global)
    (written : Vec Range Global) : Type 0 where
  pub for_calls : length calls.items + left ≤ vec_capacity calls
  pub for_ranges : length written.items + left ≤ vec_capacity written
  pub for_texts : length texts.items + room ≤ vec_capacity texts
  pub for_bytes : length bytes.items + room ≤ vec_capacity bytes
  pub for_sync : length bytes.items + room ≤ vec_capacity synced
  pub for_start : length bytes.items + room ≤ vec_capacity start
  pub for_kept : length synced.items + room ≤ vec_capacity bytes
  pub for_kept_start : length synced.items + room ≤ vec_capacity start
  pub for_kept_sync : length synced.items + room ≤ vec_capacity synced
