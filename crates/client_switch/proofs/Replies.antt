-- What a reply can be, by cases, and the replies that leave mark and rows as they are.
use Rattle.std.proofs.Common.{◌≡◌, ℕ, ◌+◌, ◌-◌, ◌≤◌, Bool, true, false, ◌||◌, nat_lt, nat_le, List, [], ◌∷◌, ◌++◌, length, length-append, append-nil, refl, sym, ap, subst, ◌∙◌, arith}
use Rattle.std.proofs.lemmas.Bool.{cond_both, ltb-false}
use Rattle.bus_types.specs.declared.change.Change.{Change}
use Rattle.bus_types.specs.Change.{Test, change_size}
use Rattle.bus_types.specs.Window.{Span, span_size}
use Rattle.bus_types.specs.Table.{RowList}
use Rattle.bus_types.specs.Relay.{Served, longest_run, most_windows, fitting}
use Rattle.bus_types.specs.Relay.Served.{Windows as SomeWindows, TooSmall as TooLarge}
use Rattle.event_codec.specs.declared.answer.Answer.TheVariants.{Empty, TooSmall, Behind, LogGone}
use Rattle.checkpoint.specs.declared.mark.Mark.{Mark}
use Rattle.checkpoint.specs.Mark.{IsMark}
use Rattle.event_codec.specs.Questions.{Reply, Windows, Only}
use Rattle.client_switch.specs.Moves.{IsWished, turn, rows_left}
use Rattle.client_switch.specs.Good.{Good}
use Rattle.client_switch.specs.Lawful.{IsLawfulFor}
use Rattle.event_codec.specs.Chunks.{frame_size, items_within, chunk_of}
use Rattle.bus_wire.specs.True.{reply_of, replay_of}

-- what a client is after a reply: its mark keeps the rule of its kind, its wish is one that comes up there, and its rows are
-- good for it; and the reply is lawful
pub record Keeps (ws : List Span) (test : Test) (mark : Mark) (rows : RowList) (reply : Reply) : Type 0 where
  pub good : Good ws test (turn mark reply).mark (rows_left rows (turn mark reply))
  pub marked : IsMark (turn mark reply).mark
  pub wished : IsWished (turn mark reply).mark (turn mark reply).wish
  pub lawful : IsLawfulFor mark reply

-- ---- replies that change neither mark nor rows

module _ (ws : List Span) (test : Test) (mark : Mark) (rows : RowList) (m : IsMark mark) (g : Good ws test mark rows) where
  pub good_empty : (end : ℕ) → Keeps ws test mark rows (Only (Empty end))
  good_empty end = record { good = g; marked = m; wished = tt; lawful = tt }

  pub good_small : (need : ℕ) → Keeps ws test mark rows (Only (TooSmall need))
  good_small need = record { good = g; marked = m; wished = tt; lawful = tt }

  pub good_behind : (high : ℕ) → Keeps ws test mark rows (Only (Behind high))
  good_behind high = record { good = g; marked = m; wished = tt; lawful = tt }

  pub good_gone : (base : ℕ) → Keeps ws test mark rows (Only (LogGone base))
  good_gone base = record { good = g; marked = m; wished = tt; lawful = tt }

-- ---- cases

pub both_false : (a b : Bool) → (a || b) ≡ false → (a ≡ false) × (b ≡ false)
both_false true b e = absurd (cc)
both_false false b e = (refl, e)

-- what fits: too large, or the longest run
pub fitting_cases : (P : Served → Type 0) (most : ℕ) (ws : List Span) → ((need : ℕ) → P (TooLarge need)) → ((run : List Span) → run ≡ longest_run most_windows most ws → P (SomeWindows run)) → P (fitting most ws)
fitting_cases P most [] small windows = windows [] refl
fitting_cases P most (w ∷ ws) small windows =
    cond_both (nat_lt most (span_size w)) (TooLarge (span_size w)) (SomeWindows (longest_run most_windows most (w ∷ ws))) P
    (λ _. small (span_size w)) (λ _. windows (longest_run most_windows most (w ∷ ws)) refl)

-- what fits of a replay: nothing is there, too large, or the longest run
pub replay_cases : (P : Reply → Type 0) (high most : ℕ) (ws : List Span) → P (Only (Behind high)) → ((need : ℕ) → P (Only (TooSmall need))) → ((run : List Span) → run ≡ longest_run most_windows most ws → P (Windows run)) → P (replay_of high most ws)
replay_cases P high most [] none small windows = none
replay_cases P high most (w ∷ ws) none small windows = fitting_cases (λ served. P (reply_of served)) most (w ∷ ws) small windows

-- a chunk's items are a front
items_front : (room : ℕ) (cs : List Change) → (rest : List Change) × (items_within room cs ++ rest ≡ cs)
items_front room [] = ([], refl)
items_front room (c ∷ cs) =
    let more = items_front (room - change_size c) cs in
    cond_both (nat_le (change_size c) room) (c ∷ items_within (room - change_size c) cs) [] (λ run. (rest : List Change) × (run ++ rest ≡ c ∷ cs))
    (λ _. (more.0, ap (λ l. c ∷ l) more.1)) (λ _. (c ∷ cs, refl))

-- a front that isn't shorter is all
whole_front : (xs ys all : List Change) → xs ++ ys ≡ all → length all ≤ length xs → all ≡ xs
whole_front xs [] all e h = sym e ∙ append-nil xs
whole_front xs (y ∷ ys) all e h = absurd (omega (arith, ap length e, length-append xs (y ∷ ys)))

run_cases : (P : List Change → Bool → Type 0) (run all : List Change) → (rest : List Change) × (run ++ rest ≡ all) → ((xs ys : List Change) → xs ++ ys ≡ all → P xs true) → P all false → P run (nat_lt (length run) (length all))
run_cases P run all front more last =
    elim (nat_lt (length run) (length all)) as (λ b. nat_lt (length run) (length all) ≡ b → P run b) [
      | true ↦ λ e. more run front.0 front.1
      | false ↦ λ e. subst (λ l. P l false) (whole_front run front.0 all front.1 (ltb-false (length run) (length all) e)) last
    ] refl

-- a chunk: too small, a front with more behind it, or all
pub chunk_cases : (P : Reply → Type 0) (make : List Change → Bool → Reply) (most : ℕ) (all : List Change) → ((need : ℕ) → P (Only (TooSmall need))) → ((xs ys : List Change) → xs ++ ys ≡ all → P (make xs true)) → P (make all false) → P (chunk_of make most all)
chunk_cases P make most [] small more last =
    cond_both (nat_lt most frame_size) (Only (TooSmall frame_size)) (make [] false) P (λ _. small frame_size) (λ _. last)
chunk_cases P make most (c ∷ cs) small more last =
    let all = c ∷ cs in
    let run = items_within (most - frame_size) all in
    cond_both (nat_lt most (change_size c + frame_size)) (Only (TooSmall (change_size c + frame_size))) (make run (nat_lt (length run) (length all))) P
    (λ _. small (change_size c + frame_size))
    (λ _. run_cases (λ xs b. P (make xs b)) run all (items_front (most - frame_size) all) more last)
