-- What each call of a disk that tells nothing does.
use Rattle.std.proofs.Common.{◌≡◌, inl, ℕ, List, length, refl, subst, arith, Result, Ok, Err, IfOk}
use Rattle.std.proofs.lemmas.List.{take_all}
use Rattle.bus_types.specs.declared.fault.Failed.{Failed}
use Rattle.std.specs.Counts.{IsPrefixLen}
use Rattle.bus_types.specs.Causes.{HasCause}
use Rattle.log_disk.specs.Disk.{DiskCall, Torn, CutAnywhere, Keeps, TellsLength, ReadsAt, Writes, Cuts, Syncs}
use Rattle.log_disk.specs.File.{untold_disk}

call : {X : Type 0} (old new : ℕ) (result : Result X Failed) → HasCause old new result → DiskCall (untold_disk old) (untold_disk new) result
call old new result cause = record {
  time = record { later = omega arith; nothing_else = λ t c le left. inl tt; keeps = λ t c le left. tt };
  cause = cause;
  disk = record { since = λ t c le now. tt; seen = tt };
}

keeps : {X : Type 0} (old new : ℕ) (result : Result X Failed) → HasCause old new result → Keeps (untold_disk old) (untold_disk new) result
keeps old new result cause = record { call = call old new result cause; crash = λ c left. tt; seen = refl }

pub untold_len : (old new : ℕ) (result : Result ℕ Failed) → HasCause old new result → TellsLength (untold_disk old) (untold_disk new) result
untold_len old new (Ok n) cause = record { keeps = keeps old new _ cause; length = tt }
untold_len old new (Err e) cause = record { keeps = keeps old new _ cause; length = tt }

pub untold_read : (place : ℕ) (buffer : List ℕ) (old new : ℕ) (result : Result ℕ Failed) → HasCause old new result → IfOk result (λ n. IsPrefixLen n buffer) → ReadsAt place buffer (untold_disk old) (untold_disk new) result
untold_read place buffer old new (Ok n) cause room = record { keeps = keeps old new _ cause; room = room.0; given = tt }
untold_read place buffer old new (Err e) cause room = record { keeps = keeps old new _ cause; room = tt; given = tt }

torn_same : (place size : ℕ) (c : List ℕ) → Torn place size c c
torn_same place size c = record { before = refl; after = refl; no_shorter = omega arith; no_longer = omega arith }

pub untold_write : (place : ℕ) (text : List ℕ) (old new : ℕ) (result : Result Unit Failed) → HasCause old new result → Writes place text (untold_disk old) (untold_disk new) result
untold_write place text old new (Ok n) cause = record { call = call old new _ cause; crash = λ c left. (c, tt, torn_same place (length text) c); seen = tt }
untold_write place text old new (Err e) cause = record { call = call old new _ cause; crash = λ c left. (c, tt, torn_same place (length text) c); seen = tt }

uncut : (size : ℕ) (c : List ℕ) → CutAnywhere size c c
uncut size c = record { no_shorter = omega arith; front = take_all (length c) c (omega arith) }

pub untold_cut : (size : ℕ) (old new : ℕ) (result : Result Unit Failed) → HasCause old new result → Cuts size (untold_disk old) (untold_disk new) result
untold_cut size old new (Ok n) cause = record { call = call old new _ cause; crash = λ c left. (c, tt, uncut size c); seen = tt }
untold_cut size old new (Err e) cause = record { call = call old new _ cause; crash = λ c left. (c, tt, uncut size c); seen = tt }

pub untold_sync : (old new : ℕ) (result : Result Unit Failed) → HasCause old new result → Syncs (untold_disk old) (untold_disk new) result
untold_sync old new (Ok n) cause = record { keeps = keeps old new _ cause; lasting = tt }
untold_sync old new (Err e) cause = record { keeps = keeps old new _ cause; lasting = tt }

pub ruleset untold = (untold_len, untold_read, untold_write, untold_cut, untold_sync)

-- a bound of what was given is one of what is answered
pub bound_kept : {E : Type 0} (P : ℕ → Type 0) (given : Result ℕ E) (result : Result ℕ Failed) → IfOk result (λ n. given ≡ Ok n) → IfOk given P → IfOk result P
bound_kept P given (Ok n) same bound = subst (λ g. IfOk g P) same bound
bound_kept P given (Err e) same bound = tt
