-- A bootstrap that is opened again.
use Rattle.std.proofs.Common.{◌≡◌, ℕ, List, Option, Some, None, refl, sym, ap, subst, ◌∙◌}
use Rattle.std.specs.Prelude.{IsSome, IfSome}
use Rattle.bus_types.specs.Window.{Span}
use Rattle.bus_stores.specs.Keeper.{KeeperState, Content, SameStore}
use Rattle.bus_stores.specs.Log.{LogState}
use Rattle.bus_stores.proofs.Held.{told_on}
use Rattle.snapshot_applier.specs.declared.boot.BootMark.{BootMark}
use Rattle.snapshot_applier.specs.BootMark.{IsBootStored}
use Rattle.snapshot_applier.proofs.BootTexts.{one_boot}
use Rattle.bootstrap_core.specs.Boot.{HoldsTable, StandsForBoot}
use Rattle.bootstrap_core.specs.Opening.{Stores}

-- a stored text is one boot mark
one_stored : (text : Option (List ℕ)) (m n : BootMark) → IsBootStored text m → IsBootStored text n → m ≡ n
one_stored None m n a b = a ∙ sym b
one_stored (Some text) m n a b = one_boot m n a.0 b.0 (sym a.1 ∙ b.1)

one_mark : (content : Option Content) (ws : List Span) (m n : BootMark) → IsSome content → IfSome content (λ c. IsBootStored c.mark m) → IfSome content (HoldsTable ws n) → m ≡ n
one_mark None ws m n told a b = absurd (cc told)
one_mark (Some c) ws m n told a b = one_stored c.mark m n a b.stored

-- it stands for a timeline for which its log and its keeper stood, at the same numbers
pub stands_again : (ws : List Span) (log : LogState) (keeper now : KeeperState) (m n : BootMark) → Stores now m → SameStore keeper now → StandsForBoot ws log keeper n → IsSome now.content → (m ≡ n) × StandsForBoot ws log now m
stands_again ws log keeper now m n stores same stands told =
    let table = told_on (HoldsTable ws n) keeper.content now.content same.content stands.table in
    let is = one_mark now.content ws m n told stores table in
    let moved : StandsForBoot ws log now n = record {
      lawful = stands.lawful;
      between = stands.between;
      stretch = stands.stretch;
      table = table;
    } in
    (is, subst (λ (mark : BootMark). StandsForBoot ws log now mark) (sym is) moved)
