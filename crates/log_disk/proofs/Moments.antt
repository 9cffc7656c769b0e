-- How a run of a disk's calls goes on.
use Rattle.std.proofs.Common.{inl, inr, ⊎_elim, ℕ, ◌≤◌, List, arith}
use Rattle.log_disk.specs.Disk.{Clock, may_leave, Elapses, LeavesOnly}

-- before the first call
pub started : (old : Clock) (P : List ℕ → Type 0) → ((c : List ℕ) → may_leave old c → P c) → LeavesOnly old old P
started old P here = record { later = omega arith; each = here; before = λ t c le left. inl left }

-- one call more, after which a crash leaves what has P
pub goes_on : (old mid new : Clock) (P : List ℕ → Type 0) → LeavesOnly old mid P → Elapses mid new → ((c : List ℕ) → may_leave new c → P c) → LeavesOnly old new P
goes_on old mid new P so_far time here = record {
  later = omega (arith, so_far.later, time.later);
  each = λ c left. ⊎_elim (so_far.each c) (here c) (time.nothing_else old.moment c so_far.later left);
  before = λ t c le left. ⊎_elim (so_far.before t c le) (λ now. inr (here c now)) (time.nothing_else t c (omega (arith, le, so_far.later)) left);
}

-- two runs, the second behind the first
pub joined : (old mid new : Clock) (P : List ℕ → Type 0) → LeavesOnly old mid P → LeavesOnly mid new P → LeavesOnly old new P
joined old mid new P first second = record {
  later = omega (arith, first.later, second.later);
  each = λ c left. ⊎_elim (first.each c) (λ found. found) (second.before old.moment c first.later left);
  before = λ t c le left. ⊎_elim (first.before t c le) (λ found. inr found) (second.before t c (omega (arith, le, first.later)) left);
}

-- what has P has Q
pub weaker : (old new : Clock) (P Q : List ℕ → Type 0) → ((c : List ℕ) → P c → Q c) → LeavesOnly old new P → LeavesOnly old new Q
weaker old new P Q so run = record {
  later = run.later;
  each = λ c left. so c (run.each c left);
  before = λ t c le left. ⊎_elim (λ was. inl was) (λ found. inr (so c found)) (run.before t c le left);
}

-- a crash behind a run
pub leaves_now : (old new : Clock) (P : List ℕ → Type 0) → ((t : ℕ) (c : List ℕ) → t ≤ new.moment → may_leave new c → new.left_since t c) → LeavesOnly old new P → (c : List ℕ) → may_leave new c → P c
leaves_now old new P since run c left = run.each c (since old.moment c run.later left)
