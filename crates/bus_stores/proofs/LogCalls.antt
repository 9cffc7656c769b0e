-- What an append to a log in memory leaves.
use Rattle.std.proofs.Common.{◌≡◌, [], ◌∷◌, Result, Ok, Err, refl, sym, ap, subst, ◌∙◌, arith}
use Rattle.bus_types.specs.Window.{Span}
use Rattle.bus_types.proofs.Stretches.{end_from-append}
use Rattle.bus_stores.specs.declared.log.LogFault.{LogFault}
use Rattle.bus_stores.specs.declared.log.LogFault.TheVariants.{Failed, Full, NoMemory}
use Rattle.bus_stores.specs.Log.{SameLog, AppendsWindow}
use Rattle.bus_stores.specs.MemoryLog.{MemoryWindows, log_of, log_begun, Pushes, AppendStands}

-- nothing was changed
unchanged : (old new : MemoryWindows) → new ≡ old → SameLog (log_of old) (log_of new)
unchanged old new e = subst (λ s. SameLog (log_of old) (log_of s)) (sym e) refl

-- a window was added, or there was no room for it, or no memory
pub pushes_appends : (w : Span) (old new : MemoryWindows) (result : Result Unit LogFault) → Pushes w old new result → AppendsWindow w (log_of old) (log_of new) result
pushes_appends w old new (Ok done) h = record {
  counts = record { faults = omega (arith, ap (λ (s : MemoryWindows). s.faults) h.1); failed = tt; sound = tt; room = ap (λ s. (log_of s).room) h.1 };
  leaves = record {
    free = h.0;
    floor = ap (λ (s : MemoryWindows). s.floor) h.1;
    high = ap (λ s. (log_of s).high) h.1 ∙ end_from-append old.floor old.windows (w ∷ []);
    windows = ap (λ s. (log_of s).windows) h.1;
  };
}
pushes_appends w old new (Err Failed) h = absurd h
pushes_appends w old new (Err Full) h = record {
  counts = record { faults = omega (arith, ap (λ (s : MemoryWindows). s.faults) h.1); failed = tt; sound = tt; room = ap (λ s. (log_of s).room) h.1 };
  leaves = (h.0, unchanged old new h.1);
}
pushes_appends w old new (Err NoMemory) h = record {
  counts = record { faults = omega (arith, ap (λ (s : MemoryWindows). s.faults) h.1); failed = tt; sound = tt; room = ap (λ s. (log_of s).room) h.1 };
  leaves = (h.0, unchanged old new h.1);
}

-- what an append leaves that met no stop
pub pushes_stands : (w : Span) (old new : MemoryWindows) (result : Result Unit LogFault) → Pushes w (log_begun old) new result → AppendStands w old new result
pushes_stands w old new (Ok done) h = h.1
pushes_stands w old new (Err Failed) h = absurd h
pushes_stands w old new (Err Full) h = h.1
pushes_stands w old new (Err NoMemory) h = h.1
