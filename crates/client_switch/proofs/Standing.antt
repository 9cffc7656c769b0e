-- Where a client stands: no lawful reply sets it back.
use Rattle.std.proofs.Common.{ℕ, ◌≤◌, max, Bool, ◌==◌, List, [], ◌∷◌, arith}
use Rattle.std.proofs.lemmas.Bool.{cond_both}
use Rattle.bus_types.specs.declared.change.Change.{Change}
use Rattle.bus_types.specs.Window.{Span}
use Rattle.bus_types.specs.Timeline.{end_from}
use Rattle.event_codec.specs.declared.answer.Answer.{Answer}
use Rattle.event_codec.specs.declared.answer.Answer.TheVariants.{NotFound, Empty, TooSmall, Behind, LogGone, StartDelta, StartSnapshot, Target as GoTo}
use Rattle.checkpoint.specs.declared.mark.Mark.{Mark}
use Rattle.checkpoint.specs.declared.mark.Mark.TheVariants.{Online, Delta, Snapshot, Scanned, Catchup}
use Rattle.checkpoint.specs.Mark.{IsMark, floor_of}
use Rattle.event_codec.specs.Questions.{Reply, Windows, Rows, Changes, Only}
use Rattle.event_codec.specs.Chunks.{cursor_after}
use Rattle.client_switch.specs.Moves.{turn}
use Rattle.client_switch.specs.Lawful.{asked_least, AreAbove, IsLawfulFor}

-- windows above an SCN end above it, or there is none
ends_above : (scn prev : ℕ) (ws : List Span) → scn ≤ prev → AreAbove scn ws → scn ≤ end_from prev ws
ends_above scn prev [] h a = h
ends_above scn prev (w ∷ ws) h a = ends_above scn w.scn ws (omega (arith, a.0)) a.1

after_windows : (mark : Mark) (ws : List Span) → IsMark mark → IsLawfulFor mark (Windows ws) → floor_of mark ≤ floor_of (turn mark (Windows ws)).mark
after_windows (Online scn) ws m l = ends_above scn scn ws (omega arith) l
after_windows (Delta since target cursor) ws m l = omega arith
after_windows (Snapshot since start top cursor) ws m l = omega arith
after_windows (Scanned since start top) ws m l = omega arith
after_windows (Catchup since start target at) ws m l =
    cond_both (end_from at ws == target) (Online target) (Catchup since start target (end_from at ws)) (λ mark. since ≤ floor_of mark)
    (λ _. m.2) (λ _. omega arith)

pub after_rows : (mark : Mark) (cs : List Change) (scn : ℕ) (more : Bool) → floor_of mark ≤ floor_of (turn mark (Rows cs scn more)).mark
after_rows (Online s) cs scn more = omega arith
after_rows (Delta since target cursor) cs scn more = omega arith
after_rows (Snapshot since start top cursor) cs scn more =
    cond_both more (Snapshot since start (max top scn) (cursor_after cursor cs)) (Scanned since start (max top scn)) (λ mark. since ≤ floor_of mark)
    (λ _. omega arith) (λ _. omega arith)
after_rows (Scanned since start top) cs scn more = omega arith
after_rows (Catchup since start target at) cs scn more = omega arith

pub after_changes : (mark : Mark) (cs : List Change) (scn : ℕ) (more : Bool) → IsMark mark → floor_of mark ≤ floor_of (turn mark (Changes cs scn more)).mark
after_changes (Online s) cs scn more m = omega arith
after_changes (Delta since target cursor) cs scn more m =
    cond_both more (Delta since target (cursor_after cursor cs)) (Online target) (λ mark. since ≤ floor_of mark) (λ _. omega arith) (λ _. omega (arith, m.0))
after_changes (Snapshot since start top cursor) cs scn more m = omega arith
after_changes (Scanned since start top) cs scn more m = omega arith
after_changes (Catchup since start target at) cs scn more m = omega arith

after_target : (mark : Mark) (t : ℕ) → asked_least mark ≤ t → floor_of mark ≤ floor_of (turn mark (Only (GoTo t))).mark
after_target (Online s) t l = omega arith
after_target (Delta since target cursor) t l = omega arith
after_target (Snapshot since start top cursor) t l = omega arith
after_target (Scanned since start top) t l =
    cond_both (t == start) (Online t) (Catchup since start t start) (λ mark. since ≤ floor_of mark)
    (λ _. omega arith) (λ _. omega arith)
after_target (Catchup since start target at) t l = omega arith

after_answer : (mark : Mark) (answer : Answer) → IsLawfulFor mark (Only answer) → floor_of mark ≤ floor_of (turn mark (Only answer)).mark
after_answer mark (NotFound floor) l = omega arith
after_answer mark (Empty end) l = omega arith
after_answer mark (TooSmall need) l = omega arith
after_answer mark (Behind high) l = omega arith
after_answer mark (LogGone base) l = omega arith
after_answer mark (StartDelta high) l = omega arith
after_answer mark (StartSnapshot applied) l = omega arith
after_answer mark (GoTo t) l = after_target mark t l

pub floor_kept : (mark : Mark) (reply : Reply) → IsMark mark → IsLawfulFor mark reply → floor_of mark ≤ floor_of (turn mark reply).mark
floor_kept mark (Windows ws) m l = after_windows mark ws m l
floor_kept mark (Rows cs scn more) m l = after_rows mark cs scn more
floor_kept mark (Changes cs scn more) m l = after_changes mark cs scn more m
floor_kept mark (Only answer) m l = after_answer mark answer l
