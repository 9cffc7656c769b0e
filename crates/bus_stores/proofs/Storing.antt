-- The steps of a keeper in memory.
use Rattle.std.proofs.Common.{◌≡◌, ℕ, ◌+◌, ◌-◌, ◌≤◌, true, false, List, [], ◌∷◌, ◌++◌, length, Option, Some, None, option_map, true≢false, refl, sym, ap, subst, ◌∙◌, inl, inr, arith}
use Rattle.std.proofs.lemmas.List.{length_push, get_or_push}
use Rattle.std.proofs.lemmas.Option.{slice_get-get_or}
use Rattle.std.specs.Prelude.{Ok, Err}
use Rattle.bus_stores.specs.declared.keeper.Stop.{Stop}
use Rattle.bus_stores.specs.declared.keeper.Stop.TheVariants.{Before, After}
use Rattle.bus_stores.specs.declared.keeper.StoreFault.{StoreFault}
use Rattle.bus_stores.specs.declared.keeper.StoreFault.TheVariants.{Failed, NoMemory}
use Rattle.bus_stores.specs.declared.plan.Fail.{Fail}
use Rattle.bus_stores.specs.Keeper.{Move, Counts, Reads, Commits, moved, rows_moved}
use Rattle.bus_stores.specs.Memory.{MemoryStore, told_by, last_mark, no_fails, listed_stop, first_stop, commit_stop, begun, failed, stopped, stopped_at, stored, CommitLeaves}

abbrev calls_of : MemoryStore → ℕ
calls_of s = s.calls

abbrev faults_of : MemoryStore → ℕ
faults_of s = s.faults

same_le : (n k : ℕ) → n ≡ k → k ≤ n
same_le n k e = omega arith

calls_kept : (s t u : MemoryStore) → s.calls ≤ t.calls → u.calls ≡ t.calls → s.calls ≤ u.calls
calls_kept s t u h e = omega arith

-- a call that fails counts a fault
fails_counted : {X : Type 0} (s t u : MemoryStore) → t.faults ≡ s.faults → s.calls ≤ t.calls → u.calls ≡ t.calls → t.faults ≤ u.faults → u.faults ≡ t.faults + 1 → Counts {X = X} (told_by s) (told_by u) (Err Failed)
fails_counted s t u same later e more f = record { calls = calls_kept s t u later e; faults = omega arith; failed = omega arith }

-- ---- reads

-- no stop is listed where no call is to fail
unlisted : (fails : List Fail) (call : ℕ) → no_fails fails ≡ true → listed_stop fails call ≡ None
unlisted [] call e = refl
unlisted (f ∷ fs) call e = absurd (true≢false (sym e))

unsound : (fails : List Fail) (call : ℕ) (stop : Stop) → listed_stop fails call ≡ Some stop → no_fails fails ≡ false
unsound [] call stop e = absurd (cc)
unsound (f ∷ fs) call stop e = refl

-- a read that isn't to fail
pub reads_begun : (s t : MemoryStore) → t ≡ begun s → s.calls ≤ t.calls → Reads {X = Unit {0}} (λ c. tt) (told_by s) (told_by t) (Ok tt)
reads_begun s t e later = record {
  counts = record { calls = later; faults = same_le (faults_of t) (faults_of s) (ap faults_of e); failed = tt };
  same = record { content = sym (ap (λ x. (told_by x).content) e); stops = ap (λ x. (told_by x).stops) e };
  answer = refl;
  sound = tt;
}

-- a read that is to fail
pub reads_stopped : (s t u : MemoryStore) (stop : Stop) (fault : StoreFault) → listed_stop s.fails s.calls ≡ Some stop → t ≡ begun s → s.calls ≤ t.calls → u ≡ failed t → t.faults ≤ u.faults → fault ≡ Failed → Reads {X = Unit {0}} (λ c. tt) (told_by s) (told_by u) (Err fault)
reads_stopped s t u stop fault listed e later f more is = subst (λ x. Reads {X = Unit {0}} (λ c. tt) (told_by s) (told_by u) (Err x)) (sym is) (record {
  counts = fails_counted s t u (ap faults_of e) later (ap calls_of f) more (ap faults_of f);
  same = record { content = sym (ap (λ x. (told_by x).content) (f ∙ ap failed e)); stops = ap (λ x. (told_by x).stops) (f ∙ ap failed e) };
  answer = tt;
  sound = unsound s.fails s.calls stop listed;
})

pub ruleset reading_steps = (reads_begun, reads_stopped)

-- ---- commits

last_pushed : (marks : List (List ℕ)) (mark : List ℕ) → last_mark (marks ++ mark ∷ []) ≡ Some mark
last_pushed marks mark =
    let last : length marks ≡ length (marks ++ mark ∷ []) - 1 = omega (arith, length_push marks mark) in
    slice_get-get_or (marks ++ mark ∷ []) (length (marks ++ mark ∷ []) - 1) mark (omega (arith, length_push marks mark)) ∙ ap (λ x. Some x) (get_or_push marks mark mark (length (marks ++ mark ∷ []) - 1) last)

armed_first : (armed listed stop : Option Stop) → listed ≡ None → first_stop armed listed ≡ stop → armed ≡ stop
armed_first None listed stop none e = sym none ∙ e
armed_first (Some a) listed stop none e = e

-- at a sound keeper the stop that a commit meets is the armed one
armed_met : (s : MemoryStore) (stop : Option Stop) → commit_stop s ≡ stop → no_fails s.fails ≡ true → s.armed ≡ stop
armed_met s stop e sound = armed_first s.armed (listed_stop s.fails s.calls) stop (unlisted s.fails s.calls sound) e

-- what a keeper that made a commit tells of its content
stored_content : (m : Move) (s t : MemoryStore) → t.rows ≡ rows_moved m s.rows → t.marks ≡ s.marks ++ m.mark ∷ [] → option_map (moved m) (told_by s).content ≡ (told_by t).content
stored_content m s t rows marks = sym (λ i. Some (record { rows = rows i; mark = (ap last_mark marks ∙ last_pushed s.marks m.mark) i }))

-- a commit that met no stop
pub commits_ok : (m : Move) (s t u : MemoryStore) → commit_stop s ≡ None → t ≡ begun s → s.calls ≤ t.calls → u ≡ stored m t → Commits m (told_by s) (told_by u) (Ok tt)
commits_ok m s t u met e later f = record {
  counts = record { calls = calls_kept s t u later (ap calls_of f); faults = same_le (faults_of u) (faults_of s) (ap faults_of (f ∙ ap (stored m) e)); failed = tt };
  leaves = record {
    content = stored_content m s u (ap (λ (x : MemoryStore). x.rows) (f ∙ ap (stored m) e)) (ap (λ (x : MemoryStore). x.marks) (f ∙ ap (stored m) e));
    stops = ap (λ x. (told_by x).stops) (f ∙ ap (stored m) e);
    sound = armed_met s None met;
  };
}

-- a commit that met a stop before it counted
pub commits_before : (m : Move) (s t u : MemoryStore) (fault : StoreFault) → commit_stop s ≡ Some Before → t ≡ begun s → s.calls ≤ t.calls → u ≡ stopped t → t.faults ≤ u.faults → fault ≡ Failed → Commits m (told_by s) (told_by u) (Err fault)
commits_before m s t u fault met e later f more is = subst (λ x. Commits m (told_by s) (told_by u) (Err x)) (sym is) (record {
  counts = fails_counted s t u (ap faults_of e) later (ap calls_of f) more (ap faults_of f);
  leaves = inl (record {
    content = sym (ap (λ x. (told_by x).content) (f ∙ ap stopped e));
    stops = ap (λ x. (told_by x).stops) (f ∙ ap stopped e);
    sound = armed_met s (Some Before) met;
  });
})

-- a commit that met a stop after it counted
pub commits_after : (m : Move) (s t u v : MemoryStore) (fault : StoreFault) → commit_stop s ≡ Some After → t ≡ begun s → s.calls ≤ t.calls → u ≡ stored m t → v ≡ stopped u → u.faults ≤ v.faults → fault ≡ Failed → Commits m (told_by s) (told_by v) (Err fault)
commits_after m s t u v fault met e later f g more is =
    let all = g ∙ ap stopped (f ∙ ap (stored m) e) in
    subst (λ x. Commits m (told_by s) (told_by v) (Err x)) (sym is) (record {
      counts = fails_counted s u v (ap faults_of f ∙ ap faults_of e) (calls_kept s t u later (ap calls_of f)) (ap calls_of g) more (ap faults_of g);
      leaves = inr (record {
        content = stored_content m s v (ap (λ (x : MemoryStore). x.rows) all) (ap (λ (x : MemoryStore). x.marks) all);
        stops = ap (λ x. (told_by x).stops) all;
        sound = armed_met s (Some After) met;
      });
    })

-- a commit for which memory ran out
pub commits_none : (m : Move) (s t u : MemoryStore) → t ≡ begun s → s.calls ≤ t.calls → u ≡ t → Commits m (told_by s) (told_by u) (Err NoMemory)
commits_none m s t u e later f = record {
  counts = record { calls = calls_kept s t u later (ap calls_of f); faults = same_le (faults_of u) (faults_of s) (ap faults_of (f ∙ e)); failed = tt };
  leaves = record { content = sym (ap (λ x. (told_by x).content) (f ∙ e)); stops = ap (λ x. (told_by x).stops) (f ∙ e) };
}

-- what each leaves exactly
pub leaves_ok : (m : Move) (s t u : MemoryStore) (done : Unit {0}) → t ≡ begun s → u ≡ stored m t → CommitLeaves m s u (Ok done)
leaves_ok m s t u done e f = f ∙ ap (stored m) e

pub leaves_before : (m : Move) (s t u : MemoryStore) (fault : StoreFault) → commit_stop s ≡ Some Before → t ≡ begun s → u ≡ stopped t → fault ≡ Failed → CommitLeaves {X = Unit {0}} m s u (Err fault)
leaves_before m s t u fault met e f is =
    subst (λ x. CommitLeaves {X = Unit {0}} m s u (Err x)) (sym is) (f ∙ ap stopped e ∙ ap (λ stop. stopped_at stop m (begun s)) (sym met))

pub leaves_after : (m : Move) (s t u v : MemoryStore) (fault : StoreFault) → commit_stop s ≡ Some After → t ≡ begun s → u ≡ stored m t → v ≡ stopped u → fault ≡ Failed → CommitLeaves {X = Unit {0}} m s v (Err fault)
leaves_after m s t u v fault met e f g is =
    subst (λ x. CommitLeaves {X = Unit {0}} m s v (Err x)) (sym is) (g ∙ ap stopped (f ∙ ap (stored m) e) ∙ ap (λ stop. stopped_at stop m (begun s)) (sym met))

pub leaves_none : (m : Move) (s t u : MemoryStore) → t ≡ begun s → u ≡ t → CommitLeaves {X = Unit {0}} m s u (Err NoMemory)
leaves_none m s t u e f = f ∙ e

pub ruleset commit_steps = (commits_ok, commits_before, commits_after, commits_none, leaves_ok, leaves_before, leaves_after, leaves_none)
