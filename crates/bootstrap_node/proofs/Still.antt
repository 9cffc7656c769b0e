-- A bootstrap that only answers stays as it was.
use Rattle.std.specs.Prelude.{Result, Ok, Err}
use Rattle.std.proofs.Common.{◌≡◌, ℕ, List, ◌++◌, IfOk, refl, ap, ◌∙◌}
use Rattle.event_codec.specs.declared.reply.Shape.{Shape}
use Rattle.bus_wire.specs.declared.ask.Ask.{Ask}
use Rattle.bus_stores.specs.declared.boot_fault.BootFault.{BootFault}
use Rattle.bus_stores.specs.Keeper.{KeeperState, SameStore}
use Rattle.bus_stores.specs.Log.{LogState, SameLog}
use Rattle.bus_stores.proofs.Held.{tells_itself, tells_on}
use Rattle.bootstrap_core.specs.Boot.{BootParts, BootState, told}
use Rattle.bootstrap_core.specs.Moving.{SameParts}
use Rattle.bootstrap_core.specs.Answering.{MayReply}
use Rattle.bootstrap_node.specs.Serving.{MayReplyStill}

same_log_on : (a b c : LogState) → SameLog a b → SameLog b c → SameLog a c
same_log_on a b c p q = q ∙ ap (λ (l : LogState). record l { faults = c.faults }) p

same_store_on : (a b c : KeeperState) → SameStore a b → SameStore b c → SameStore a c
same_store_on a b c p q = record { content = tells_on a.content b.content c.content p.content q.content; stops = q.stops ∙ p.stops }

pub same_itself : (b : BootState) → SameParts b b
same_itself b = record { keeper = record { content = tells_itself b.keeper.content; stops = refl }; log = refl; mark = refl }

pub same_still : (start old new : BootState) → SameParts start old → SameLog old.log new.log → SameStore old.keeper new.keeper → new.mark ≡ old.mark → SameParts start new
same_still start old new same log keeper mark = record {
  keeper = same_store_on start.keeper old.keeper new.keeper same.keeper keeper;
  log = same_log_on start.log old.log new.log same.log log;
  mark = mark ∙ same.mark;
}

-- what it replied is a reply of one that is still as it was
pub may_still : {G K : Type 0} (log : G → LogState) (keeper : K → KeeperState) (start : BootState) (b : BootParts G K) (ask : Ask) (before after : List ℕ) (result : Result Shape BootFault) → SameParts start (told log keeper b)
    → IfOk result (λ shape. (bytes : List ℕ) → after ≡ before ++ bytes → MayReply (told log keeper b) ask bytes)
    → IfOk result (λ shape. (bytes : List ℕ) → after ≡ before ++ bytes → MayReplyStill log keeper start ask bytes)
may_still log keeper start b ask before after (Ok shape) same may = λ bytes e. (b, same, may bytes e)
may_still log keeper start b ask before after (Err fault) same may = tt
