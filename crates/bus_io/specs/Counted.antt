-- What the adapters are to a contract.
use Rattle.std.specs.Prelude.{ℕ}

-- a reader or a writer, and how often it has failed
pub record Counted (T : Type 0) : Type 0 where
  pub inner : T
  pub faults : ℕ

-- a stream that is read and written, and how often its reads and its writes have failed
pub record Streamed (T : Type 0) : Type 0 where
  pub inner : T
  pub read_faults : ℕ
  pub write_faults : ℕ
