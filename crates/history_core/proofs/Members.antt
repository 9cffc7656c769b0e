-- Consumers of a bus: new ones, and what reading, crashes and stops leave of them.
use Rattle.std.proofs.Common.{◌≡◌, ℕ, false, List, [], Option, Some, None, sym, ap, subst, ◌∙◌, arith}
use Rattle.bus_types.specs.Window.{Span}
use Rattle.partition_filter.specs.Selection.{Selection, test_of}
use Rattle.bus_stores.specs.Memory.{MemoryStore, new_store, last_mark}
use Rattle.checkpoint.specs.declared.mark.Mark.{Mark}
use Rattle.checkpoint.specs.declared.mark.Mark.TheVariants.{Online}
use Rattle.checkpoint.proofs.ReadBack.{one_mark}
use Rattle.client_switch.specs.Moves.{Wish, IsWished}
use Rattle.client_switch.specs.Moves.Wish.{NoWish}
use Rattle.client_switch.specs.Client.{Held, IsStored}
use Rattle.client_switch.proofs.Growing.{good_new}
use Rattle.history_core.specs.Steps.{new_follower}
use Rattle.history_core.specs.Bus.{MemberState, follower, IsHeaded, IsMember}
use Rattle.history_core.specs.Acting.{WasRead, IsReopened, Becomes}

-- a stored text is one mark
pub one_stored : (text : Option (List ℕ)) (m n : Mark) → IsStored text m → IsStored text n → m ≡ n
one_stored None m n p q = p ∙ sym q
one_stored (Some t) m n p q = one_mark m n p.0 q.0 (sym p.1 ∙ q.1)

-- a new consumer, whose client was opened over a new keeper
pub new_member : (ws : List Span) (name : List ℕ) (filter : Selection) (client : Held) (before after : MemoryStore) → before ≡ new_store []
    → client.filter ≡ filter → client.wish ≡ NoWish → client.halted ≡ false → IsStored (last_mark before.marks) client.mark → WasRead before after
    → Becomes ws (new_follower name filter) (record { name = name; client = client; store = after; shows = 0 })
new_member ws name filter client before after fresh f w runs stored read =
    let none : after.marks ≡ [] = read.marks ∙ ap (λ (s : MemoryStore). s.marks) fresh in
    let rows : after.rows ≡ [] = read.rows ∙ ap (λ (s : MemoryStore). s.rows) fresh in
    let armed : after.armed ≡ None = read.armed ∙ ap (λ (s : MemoryStore). s.armed) fresh in
    let mark : client.mark ≡ Online 0 = subst (λ (s : MemoryStore). IsStored (last_mark s.marks) client.mark) fresh stored in
    record {
      follows = λ i. record { name = name; filter = f i; mark = mark i; wish = w i; armed = armed i; marks = none i; shows = 0 };
      member = record {
        runs = runs;
        sound = read.fails ∙ ap (λ (s : MemoryStore). s.fails) fresh;
        stored = subst (λ (marks : List (List ℕ)). IsStored (last_mark marks) client.mark) (sym none) mark;
        good = rw (mark, rows) (good_new ws (test_of client.filter));
        shown = omega arith;
        wished = subst (λ (x : Wish). IsWished client.mark x) (sym w) tt;
        headed = subst (λ (m : Mark). IsHeaded ws m) (sym mark) tt;
      };
    }

-- a consumer whose client was opened again
pub opened_again : (ws : List Span) (old new : MemberState) → IsReopened old new → IsMember ws old → Becomes ws (record (follower old) { wish = NoWish }) new
opened_again ws old new opened h =
    let read = opened.read in
    let w = opened.wish in
    let shows = opened.shows in
    let mark : new.client.mark ≡ old.client.mark = one_stored (last_mark old.store.marks) new.client.mark old.client.mark opened.mark h.stored in
    let calls = h.shown in
    let later = read.later in
    record {
      follows = λ i. record { name = opened.name i; filter = opened.filter i; mark = mark i; wish = w i; armed = read.armed i; marks = read.marks i; shows = shows i };
      member = record {
        runs = opened.runs;
        sound = read.fails ∙ h.sound;
        stored = subst (λ (marks : List (List ℕ)). IsStored (last_mark marks) new.client.mark) (sym read.marks) opened.mark;
        good = rw (mark, opened.filter, read.rows) h.good;
        shown = omega arith;
        wished = subst (λ (x : Wish). IsWished new.client.mark x) (sym w) tt;
        headed = subst (λ (m : Mark). IsHeaded ws m) (sym mark) h.headed;
      };
    }
