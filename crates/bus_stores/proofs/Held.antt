-- What a keeper keeps from call to call.
use Rattle.std.proofs.Common.{◌≡◌, ℕ, ◌≤◌, true, Option, None, Some, IfSome, refl, sym, subst, ◌∙◌, arith, inl, inr}
use Rattle.std.specs.Prelude.{Result, Ok, option_map, ◌⊎◌}
use Rattle.bus_types.specs.Causes.{WasCounted}
use Rattle.bus_stores.specs.declared.keeper.StoreFault.{StoreFault}
use Rattle.bus_stores.specs.declared.keeper.Stop.{Stop}
use Rattle.bus_stores.specs.declared.keeper.Stop.TheVariants.{Before, After}
use Rattle.bus_stores.specs.Keeper.{KeeperState, Content, Stops, Move, BothTold, TellsOnly, SameStore, Reads, Meets, Stopped, moved, stops_after}

-- ---- several reads

both_later : (a b c : Option ℕ) → BothTold (λ m n. m ≤ n) a b → BothTold (λ m n. m ≤ n) b c → BothTold (λ m n. m ≤ n) a c
both_later None None None p q = tt
both_later None None (Some z) p q = absurd q
both_later None (Some y) c p q = absurd p
both_later (Some x) None c p q = absurd p
both_later (Some x) (Some y) None p q = absurd q
both_later (Some x) (Some y) (Some z) p q = omega arith

-- content that is told after a call has what is true of what it is to be
pub told_on : (P : Content → Type 0) (is told : Option Content) → TellsOnly is told → IfSome is P → IfSome told P
told_on P is None t h = tt
told_on P is (Some c) t h = subst (λ o. IfSome o P) t h

-- content that stays told is told
pub tells_itself : (o : Option Content) → TellsOnly o o
tells_itself None = tt
tells_itself (Some c) = refl

-- what is told after one call and then another
pub tells_on : (a b c : Option Content) → TellsOnly a b → TellsOnly b c → TellsOnly a c
tells_on a b None p q = tt
tells_on a None (Some z) p q = absurd (cc)
tells_on a (Some y) (Some z) p q = p ∙ q

-- a keeper that only reads so far
pub record Kept (old now : KeeperState) : Type 0 where
  pub same : SameStore old now
  pub calls : BothTold (λ m n. m ≤ n) old.calls now.calls
  pub faults : old.faults ≤ now.faults

-- a number of calls that stays is never less
pub same_calls : (a : Option ℕ) → BothTold (λ m n. m ≤ n) a a
same_calls None = tt
same_calls (Some x) = omega arith

pub kept_none : (s : KeeperState) → Kept s s
kept_none s = record { same = record { content = tells_itself s.content; stops = refl }; calls = same_calls s.calls; faults = omega arith }

-- a read more
pub kept_more : {X : Type 0} (asked : Content → X) (old now new : KeeperState) (result : Result X StoreFault) → Kept old now → Reads asked now new result → Kept old new
kept_more asked old now new result k r = record {
  same = record { content = tells_on old.content now.content new.content k.same.content r.same.content; stops = r.same.stops ∙ k.same.stops };
  calls = both_later old.calls now.calls new.calls k.calls r.counts.calls;
  faults = omega arith;
}

both_counted : (a b c : Option ℕ) → BothTold (λ m n. m ≤ n) a b → BothTold WasCounted b c → BothTold WasCounted a c
both_counted None None None p q = tt
both_counted None None (Some z) p q = absurd q
both_counted None (Some y) c p q = absurd p
both_counted (Some x) None c p q = absurd p
both_counted (Some x) (Some y) None p q = absurd q
both_counted (Some x) (Some y) (Some z) p q = omega arith

-- a call that is counted, behind others
pub counted_on : (old now new : KeeperState) → Kept old now → BothTold WasCounted now.calls new.calls → BothTold WasCounted old.calls new.calls
counted_on old now new k counted = both_counted old.calls now.calls new.calls k.calls counted

-- what several reads answer together
pub kept_ok : {Y : Type 0} (whole : Content → Y) (old now : KeeperState) (y : Y) → Kept old now → IfSome now.content (λ c. y ≡ whole c) → Reads whole old now (Ok y)
kept_ok whole old now y k answer = record { counts = record { calls = k.calls; faults = k.faults; failed = tt }; same = k.same; answer = answer; sound = tt }

-- ---- a commit

-- a fact of what is told goes through a step
pub carried : {A : Type 0} (P Q : A → Type 0) (f : A → A) (old new : Option A) → new ≡ option_map f old → ((x : A) → P x → Q (f x)) → IfSome old P → IfSome new Q
carried P Q f None new e step h = subst (λ o. IfSome o Q) (sym e) tt
carried P Q f (Some x) new e step h = subst (λ o. IfSome o Q) (sym e) (step x h)

-- a fact of the content that is told goes through a step
pub carried_told : (P Q : Content → Type 0) (f : Content → Content) (old told : Option Content) → TellsOnly (option_map f old) told → ((c : Content) → P c → Q (f c)) → IfSome old P → IfSome told Q
carried_told P Q f old told t step h = told_on Q (option_map f old) told t (carried P Q f old (option_map f old) refl step h)

-- a fact of the content goes through a commit that failed: it was made, or it wasn't
pub carried_stopped : (P Q : Content → Type 0) (m : Move) (old new : KeeperState) → Stopped m old new → ((c : Content) → P c → Q (moved m c)) → IfSome old.content P → IfSome new.content P ⊎ IfSome new.content Q
carried_stopped P Q m old new (inl met) step h = inl (carried_told P P (λ c. c) old.content new.content met.content (λ c p. p) h)
carried_stopped P Q m old new (inr met) step h = inr (carried_told P Q (moved m) old.content new.content met.content step h)

sound_after : (stop : Option Stop) (m : Move) (s : Stops) → s.sound ≡ true → (stops_after stop m s).sound ≡ true
sound_after None m s h = h
sound_after (Some Before) m s h = h
sound_after (Some After) m s h = h

-- a sound keeper stays sound
pub sound_stays : (stop : Option Stop) (m : Move) (old new : KeeperState) → Meets stop m old new → IfSome old.stops (λ s. s.sound ≡ true) → IfSome new.stops (λ s. s.sound ≡ true)
sound_stays stop m old new met h = carried (λ s. s.sound ≡ true) (λ s. s.sound ≡ true) (stops_after stop m) old.stops new.stops met.stops (sound_after stop m) h

none_armed : (f : Stops → Stops) (old new : Option Stops) → new ≡ option_map f old → ((s : Stops) → (f s).armed ≡ None) → IfSome new (λ s. s.armed ≡ None)
none_armed f None new e none = subst (λ o. IfSome o (λ s. s.armed ≡ None)) (sym e) tt
none_armed f (Some s) new e none = subst (λ o. IfSome o (λ s. s.armed ≡ None)) (sym e) (none s)

-- after a commit that failed no stop is armed
pub disarmed : (m : Move) (old new : KeeperState) → Stopped m old new → IfSome new.stops (λ s. s.armed ≡ None)
disarmed m old new (inl met) = none_armed (stops_after (Some Before) m) old.stops new.stops met.stops (λ s. refl)
disarmed m old new (inr met) = none_armed (stops_after (Some After) m) old.stops new.stops met.stops (λ s. refl)
