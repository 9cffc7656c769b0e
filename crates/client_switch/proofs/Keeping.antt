-- What a keeper holds after a reply.
use Rattle.std.proofs.Common.{◌≡◌, ℕ, ◌≤◌, Bool, true, false, inl, inr, List, Option, Some, None, Result, Ok, Err, true≢false, refl, sym, ap, subst, ◌∙◌, arith}
use Rattle.std.specs.Prelude.{if◌then◌else◌, option_map, IfSome}
use Rattle.checkpoint.specs.declared.mark.Mark.{Mark}
use Rattle.checkpoint.specs.Mark.{IsMark, mark_text, floor_of}
use Rattle.checkpoint.proofs.ReadBack.{one_mark}
use Rattle.bus_wire.specs.declared.ask.Ask.{Ask}
use Rattle.bus_stores.specs.declared.keeper.Stop.TheVariants.{Before, After}
use Rattle.bus_stores.specs.Keeper.{KeeperState, Content, Move, TellsOnly, SameStore, Meets, content_after}
use Rattle.bus_stores.proofs.Held.{told_on, tells_itself, carried_told}
use Rattle.dispatcher.specs.Callbacks.{Call}
use Rattle.client_switch.specs.declared.client.Took.{Took}
use Rattle.client_switch.specs.declared.fault.TakeFault.{TakeFault}
use Rattle.client_switch.specs.declared.fault.TakeFault.TheVariants.{Halted, BadReply, Refused, StoreFault, NoMemory}
use Rattle.client_switch.specs.Moves.{Turn, turn}
use Rattle.client_switch.specs.Client.{Held, IsStored, Keeps, IsAskOf, asks, move_of_turn, Made, Unmade, Takes, FloorKept}
use Rattle.client_switch.proofs.Coming.{can_come}
use Rattle.client_switch.proofs.Turns.{stays, rises, lawful}

-- ---- the mark that is stored

-- it stays where the content does
pub keeps_still : (old new : KeeperState) (mark : Mark) → SameStore old new → Keeps old mark → Keeps new mark
keeps_still old new mark same keeps = told_on (λ c. IsStored c.mark mark) old.content new.content same.content keeps

stored_after : (o : Option Content) (m : Move) (mark : Mark) → IsMark mark → m.mark ≡ mark_text mark → IfSome (option_map (content_after None m) o) (λ c. IsStored c.mark mark)
stored_after None m mark is text = tt
stored_after (Some c) m mark is text = (is, text)

-- it is that of the commit
stored_moved : (old new : KeeperState) (m : Move) (mark : Mark) → Meets None m old new → IsMark mark → m.mark ≡ mark_text mark → Keeps new mark
stored_moved old new m mark meets is text = told_on (λ c. IsStored c.mark mark) (option_map (content_after None m) old.content) new.content meets.content (stored_after old.content m mark is text)

-- it is that of the turn, which commits as b says
keeps_made : (b : Bool) (t : Turn) (mark : Mark) (old new : KeeperState) → IsMark t.mark → (b ≡ false → t.mark ≡ mark) → Made (if b then Some (move_of_turn t) else None) old new → Keeps old mark → Keeps new t.mark
keeps_made true t mark old new is still made keeps = stored_moved old new (move_of_turn t) t.mark made is refl
keeps_made false t mark old new is still made keeps = subst (Keeps new) (sym (still refl)) (keeps_still old new mark made keeps)

-- the client's mark is the stored one
pub keeps_taken : (result : Result Took TakeFault) (old new : Held) (ask : Ask) (bytes : List ℕ) (kept keeps : KeeperState) (before after : Option (List Call)) (most : ℕ) → IsMark old.mark → IsAskOf old.filter (asks old most) ask
    → Takes result old new ask bytes kept keeps before after → Keeps kept old.mark → new.halted ≡ false → Keeps keeps new.mark
keeps_taken (Ok took) old new ask bytes kept keeps before after most is asked takes stored runs =
    let r = takes.reply in
    let can = can_come old.mark old.wish old.filter most ask bytes took.shape r asked takes.lawful takes.is in
    let law = lawful old.mark r is can in
    subst (Keeps keeps) (ap (λ (c : Held). c.mark) (sym takes.client)) (keeps_made (turn old.mark r).commits (turn old.mark r) old.mark kept keeps law (stays old.mark r can) takes.made stored)
keeps_taken (Err Halted) old new ask bytes kept keeps before after most is asked takes stored runs =
    subst (λ (c : Held). Keeps keeps c.mark) (sym takes.client) (keeps_still kept keeps old.mark takes.keeper stored)
keeps_taken (Err (BadReply place)) old new ask bytes kept keeps before after most is asked takes stored runs =
    subst (λ (c : Held). Keeps keeps c.mark) (sym takes.nothing.client) (keeps_still kept keeps old.mark takes.nothing.keeper stored)
keeps_taken (Err (Refused scn)) old new ask bytes kept keeps before after most is asked takes stored runs =
    subst (λ (c : Held). Keeps keeps c.mark) (sym takes.client) (keeps_still kept keeps old.mark takes.keeper stored)
keeps_taken (Err StoreFault) old new ask bytes kept keeps before after most is asked takes stored runs =
    absurd (true≢false (sym (ap (λ (c : Held). c.halted) takes.client) ∙ runs))
keeps_taken (Err NoMemory) old new ask bytes kept keeps before after most is asked takes stored runs =
    subst (λ (c : Held). Keeps keeps c.mark) (sym takes.client) (keeps_still kept keeps old.mark takes.keeper stored)

-- ---- its floor

-- one text is that of one mark
one_stored : (text : Option (List ℕ)) (m n : Mark) → IsStored text m → IsStored text n → m ≡ n
one_stored None m n one two = one ∙ sym two
one_stored (Some text) m n one two = one_mark m n one.0 two.0 (sym one.1 ∙ two.1)

floor_in : (o : Option Content) (before after : Mark) → IfSome o (λ c. IsStored c.mark before) → IfSome o (λ c. IsStored c.mark after) → IfSome o (λ c. floor_of before ≤ floor_of after)
floor_in None before after one two = tt
floor_in (Some c) before after one two = omega (arith, ap floor_of (one_stored c.mark before after one two))

floor_still : (old new : KeeperState) → TellsOnly old.content new.content → FloorKept old new
floor_still old new same before after one two = floor_in new.content before after (told_on (λ c. IsStored c.mark before) old.content new.content same one) two

pub floor_same : (state : KeeperState) → FloorKept state state
floor_same state = floor_still state state (tells_itself state.content)

both_told : (P Q : Content → Type 0) (R : Type 0) (o : Option Content) → ((c : Content) → P c → Q c → R) → IfSome o P → IfSome o Q → IfSome o (λ c. R)
both_told P Q R None join p q = tt
both_told P Q R (Some c) join p q = join c p q

both_stored : (o : Option Content) (one other : Mark) → IfSome o (λ c. IsStored c.mark one) → IfSome o (λ c. IsStored c.mark other) → IfSome o (λ c. IsStored c.mark one × IsStored c.mark other)
both_stored None one other p q = tt
both_stored (Some c) one other p q = (p, q)

floor_after : (o told : Option Content) (m : Move) (mark next before after : Mark) → IfSome o (λ c. IsStored c.mark mark) → IsMark next → m.mark ≡ mark_text next → floor_of mark ≤ floor_of next
    → IfSome o (λ c. IsStored c.mark before) → TellsOnly (option_map (content_after None m) o) told → IfSome told (λ c. IsStored c.mark after) → IfSome told (λ c. floor_of before ≤ floor_of after)
floor_after o told m mark next before after stored is text rise one moves two =
    let less : (c : Content) → IsStored c.mark before × IsStored c.mark mark → IsStored (content_after None m c).mark after → floor_of before ≤ floor_of after = λ c both last.
    let first = one_stored c.mark before mark both.0 both.1 in
    let end = one_stored (Some m.mark) after next last (is, text) in
    omega (arith, rise, ap floor_of first, ap floor_of end)
    in
    both_told (λ c. IsStored c.mark after → floor_of before ≤ floor_of after) (λ c. IsStored c.mark after) (floor_of before ≤ floor_of after) told (λ c less stored. less stored)
    (carried_told (λ c. IsStored c.mark before × IsStored c.mark mark) (λ c. IsStored c.mark after → floor_of before ≤ floor_of after) (content_after None m) o told moves less (both_stored o before mark one stored)) two

floor_moved : (old new : KeeperState) (m : Move) (mark next : Mark) → Keeps old mark → IsMark next → m.mark ≡ mark_text next → floor_of mark ≤ floor_of next → TellsOnly (option_map (content_after None m) old.content) new.content → FloorKept old new
floor_moved old new m mark next stored is text rise moves before after one two =
    floor_after old.content new.content m mark next before after stored is text rise one moves two

pub same_content : (o : Option Content) (m : Move) → option_map (content_after (Some Before) m) o ≡ o
same_content None m = refl
same_content (Some c) m = refl

pub after_content : (o : Option Content) (m : Move) → option_map (content_after (Some After) m) o ≡ option_map (content_after None m) o
after_content None m = refl
after_content (Some c) m = refl

-- a commit that was made, or not
floor_made : (b : Bool) (t : Turn) (mark : Mark) (old new : KeeperState) → Keeps old mark → IsMark t.mark → floor_of mark ≤ floor_of t.mark → Made (if b then Some (move_of_turn t) else None) old new → FloorKept old new
floor_made true t mark old new stored is rise made = floor_moved old new (move_of_turn t) mark t.mark stored is refl rise made.content
floor_made false t mark old new stored is rise made = floor_still old new made.content

floor_unmade : (b : Bool) (t : Turn) (mark : Mark) (old new : KeeperState) → Keeps old mark → IsMark t.mark → floor_of mark ≤ floor_of t.mark → Unmade (if b then Some (move_of_turn t) else None) old new → FloorKept old new
floor_unmade true t mark old new stored is rise (inl meets) = floor_still old new (subst (λ o. TellsOnly o new.content) (same_content old.content (move_of_turn t)) meets.content)
floor_unmade true t mark old new stored is rise (inr meets) = floor_moved old new (move_of_turn t) mark t.mark stored is refl rise (subst (λ o. TellsOnly o new.content) (after_content old.content (move_of_turn t)) meets.content)
floor_unmade false t mark old new stored is rise unmade = absurd unmade

-- whatever is answered, it hasn't fallen
pub floor_taken : (result : Result Took TakeFault) (old new : Held) (ask : Ask) (bytes : List ℕ) (kept keeps : KeeperState) (before after : Option (List Call)) (most : ℕ) → IsMark old.mark → IsAskOf old.filter (asks old most) ask
    → Takes result old new ask bytes kept keeps before after → Keeps kept old.mark → FloorKept kept keeps
floor_taken (Ok took) old new ask bytes kept keeps before after most is asked takes stored =
    let r = takes.reply in
    let t = turn old.mark r in
    let can = can_come old.mark old.wish old.filter most ask bytes took.shape r asked takes.lawful takes.is in
    floor_made t.commits t old.mark kept keeps stored (lawful old.mark r is can) (rises old.mark r is can) takes.made
floor_taken (Err Halted) old new ask bytes kept keeps before after most is asked takes stored = floor_still kept keeps takes.keeper.content
floor_taken (Err (BadReply place)) old new ask bytes kept keeps before after most is asked takes stored = floor_still kept keeps takes.nothing.keeper.content
floor_taken (Err (Refused scn)) old new ask bytes kept keeps before after most is asked takes stored = floor_still kept keeps takes.keeper.content
floor_taken (Err StoreFault) old new ask bytes kept keeps before after most is asked takes stored =
    let r = takes.reply in
    let t = turn old.mark r in
    let can = can_come old.mark old.wish old.filter most ask bytes takes.shape r asked takes.lawful takes.is in
    floor_unmade t.commits t old.mark kept keeps stored (lawful old.mark r is can) (rises old.mark r is can) takes.unmade
floor_taken (Err NoMemory) old new ask bytes kept keeps before after most is asked takes stored = floor_still kept keeps takes.keeper.content
