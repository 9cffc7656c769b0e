-- What a client does with a reply, from its parts.
use Rattle.std.proofs.Common.{◌≡◌, ℕ, Bool, true, false, if◌then◌else◌, is_some, List, [], ◌∷◌, ◌++◌, map, Option, Some, None, Result, Ok, Err, append-nil, refl, sym, ap, subst, ◌∙◌, append_assoc}
use Rattle.event_codec.specs.declared.reply.Shape.{Shape}
use Rattle.checkpoint.specs.Mark.{mark_text, floor_of}
use Rattle.bus_wire.specs.declared.ask.Ask.{Ask}
use Rattle.bus_wire.specs.Lawful.{IsLawful}
use Rattle.bus_stores.specs.Keeper.{KeeperState, Move}
use Rattle.bus_stores.specs.Taking.{LeavesBy}
use Rattle.dispatcher.specs.Callbacks.{Call, Callback, taken, with_calls, Describes}
use Rattle.dispatcher.specs.Callbacks.Callback.{OnRollback, OnCheckpoint}
use Rattle.client_switch.specs.declared.client.Took.{Took}
use Rattle.client_switch.specs.declared.fault.TakeFault.{TakeFault}
use Rattle.client_switch.specs.declared.fault.TakeFault.TheVariants.{Halted, BadReply, Refused, StoreFault, NoMemory}
use Rattle.event_codec.specs.Questions.{Reply}
use Rattle.client_switch.specs.Moves.{Turn, turn}
use Rattle.client_switch.specs.Client.{Held, IsReply, Made, commit_of, checkpoint_calls, CallsAll, Takes}
use Rattle.client_switch.specs.Turning.{text_of, checkpoint_call, Settled, Settles}

with_both : (one other : List Call) (calls : Option (List Call)) → with_calls other (with_calls one calls) ≡ with_calls (one ++ other) calls
with_both one other None = refl
with_both one other (Some all) = ap Some (append_assoc all one other)

abbrev AllTaken : Shape → List ℕ → Option (List Call) → Option (List Call) → Type 0
AllTaken shape bytes before after = (callbacks : List Callback) → Describes shape bytes callbacks → after ≡ with_calls (map taken callbacks) before

-- and then these calls were made
all_and : (shape : Shape) (bytes : List ℕ) (behind : List Call) (before mid after : Option (List Call)) → AllTaken shape bytes before mid → after ≡ with_calls behind mid → CallsAll shape bytes behind before after
all_and shape bytes behind before mid after all more = λ callbacks is. more ∙ ap (with_calls behind) (all callbacks is) ∙ with_both (map taken callbacks) behind before

with_none : (calls : Option (List Call)) → calls ≡ with_calls [] calls
with_none None = refl
with_none (Some all) = ap Some (sym (append-nil all))

-- the callbacks of a lawful reply were taken, and it was settled
pub takes_settled : (result : Result Took TakeFault) (old new : Held) (ask : Ask) (bytes : List ℕ) (shape : Shape) (kept keeps : KeeperState) (before mid after : Option (List Call)) (r : Reply)
    → IsLawful ask bytes shape → IsReply shape bytes r → AllTaken shape bytes before mid → Settles result old new shape bytes kept keeps mid after → Takes result old new ask bytes kept keeps before after
takes_settled (Ok took) old new ask bytes shape kept keeps before mid after r lawful is all settles =
    let s = settles r is in
    let same : shape ≡ took.shape = sym s.same in
    record {
      reply = r;
      lawful = subst (λ (x : Shape). IsLawful ask bytes x) same lawful;
      is = subst (λ (x : Shape). IsReply x bytes r) same is;
      committed = s.committed;
      client = s.client;
      made = s.made;
      calls = subst (λ (x : Shape). CallsAll x bytes (checkpoint_calls (turn old.mark r)) before after) same (all_and shape bytes (checkpoint_calls (turn old.mark r)) before mid after all s.calls);
    }
takes_settled (Err Halted) old new ask bytes shape kept keeps before mid after r lawful is all settles = absurd settles
takes_settled (Err (BadReply place)) old new ask bytes shape kept keeps before mid after r lawful is all settles = absurd settles
takes_settled (Err (Refused scn)) old new ask bytes shape kept keeps before mid after r lawful is all settles = absurd settles
takes_settled (Err StoreFault) old new ask bytes shape kept keeps before mid after r lawful is all settles =
    let s = settles r is in
    record {
      shape = shape;
      reply = r;
      lawful = lawful;
      is = is;
      client = s.client;
      unmade = s.unmade;
      rose = s.rose;
      may = s.may;
      calls = all_and shape bytes [] before mid after all (s.calls ∙ with_none mid);
    }
takes_settled (Err NoMemory) old new ask bytes shape kept keeps before mid after r lawful is all settles = record {
  client = settles.client;
  keeper = settles.keeper;
  calls = (shape, lawful, all_and shape bytes (taken (OnRollback (floor_of old.mark)) ∷ []) before mid after all settles.calls);
}

-- ---- a turn that was made

-- where there was a commit, its text was set
set_text : (b : Bool) (text : List ℕ) → is_some (if b then Some text else None) ≡ b
set_text true text = refl
set_text false text = refl

set_calls : (b : Bool) (text : List ℕ) → checkpoint_call (if b then Some text else None) ≡ (if b then taken (OnCheckpoint text) ∷ [] else [])
set_calls true text = refl
set_calls false text = refl

made : (move : Option Move) (kept keeps : KeeperState) (text : Option (List ℕ)) → LeavesBy move kept keeps (Ok text) → Made move kept keeps
made None kept keeps text leaves = leaves
made (Some m) kept keeps text leaves = leaves

-- the turn of a reply was made, and its text was told
pub settled : (took : Took) (old new : Held) (shape : Shape) (r : Reply) (kept keeps : KeeperState) (before after : Option (List Call)) (t : Turn) (text : Option (List ℕ))
    → t ≡ turn old.mark r → took ≡ record { shape = shape; committed = is_some text } → text ≡ text_of t → new ≡ record old { mark = t.mark; wish = t.wish }
    → LeavesBy (commit_of t) kept keeps (Ok text) → after ≡ with_calls (checkpoint_call text) before → Settled took old new shape r kept keeps before after
settled took old new shape r kept keeps before after t text turned is sets client leaves calls =
    let committed : took.committed ≡ t.commits = ap (λ (x : Took). x.committed) is ∙ ap is_some sets ∙ set_text t.commits (mark_text t.mark) in
    let told : after ≡ with_calls (checkpoint_calls t) before =
    calls ∙ ap (λ x. with_calls (checkpoint_call x) before) sets ∙ ap (λ x. with_calls x before) (set_calls t.commits (mark_text t.mark)) in
    record {
      same = ap (λ (x : Took). x.shape) is;
      committed = committed ∙ ap (λ (x : Turn). x.commits) turned;
      client = client ∙ ap (λ (x : Turn). record old { mark = x.mark; wish = x.wish }) turned;
      made = subst (λ (x : Turn). Made (commit_of x) kept keeps) turned (made (commit_of t) kept keeps text leaves);
      calls = told ∙ ap (λ (x : Turn). with_calls (checkpoint_calls x) before) turned;
    }
