-- What words start, by what they are read as.
use Rattle.std.proofs.Common.{◌≡◌, ℕ, List, [], Option, Some, None, refl, sym, subst, inl, inr, ◌⊎◌}
use Rattle.bus_link.specs.Links.{Told}
use Rattle.bus_stores.specs.Keeper.{KeeperState}
use Rattle.bus_stores.specs.Log.{LogState}
use Rattle.bus_node.specs.declared.words.BootstrapWords.{BootstrapWords}
use Rattle.bus_node.specs.declared.words.NodeWords.{NodeWords}
use Rattle.bus_node.specs.declared.status.NodeStatus.{NodeStatus}
use Rattle.bus_node.specs.declared.status.NodeStatus.TheVariants.{Done, Usage, BadLine, ReadFault, WriteFault, NoMemory, TooLong, LinkFault, StoreFault, WrongWord, BadAnswer, BadReply, BadMark, Ahead, Hole}
use Rattle.bus_types.specs.Causes.{Rose}
use Rattle.bootstrap_core.specs.declared.fault.BootOpen.TheVariants as opens
use Rattle.bootstrap_node.specs.Rounds.{Outside, Stopped, IsBadlyAnswered, IsBadlyReplied}
use Rattle.bootstrap_node.specs.Ends.{IsOpenedRun, IsRun, IsUnopened, IsBootStatus, LeavesLink}
use Rattle.bus_top.specs.Nodes.{Seen, BootEnds, Starts}

-- a link that wasn't called took everything back
pub left_alone : {P : Type 0} (words : BootstrapWords) (told : Option (Told P)) → LeavesLink words told told
left_alone words None = ([], inl refl)
left_alone words (Some t) = ([], inl refl)

-- what words are read as
pub starts : {P G K : Type 0} (given left written : P → Option (List ℕ)) (log : G → LogState) (keeper : K → KeeperState) (fresh : G)
    (found wanted : Option NodeWords) (status : NodeStatus) (o o' : Seen P) (k k' : K) → found ≡ wanted
    → Starts given left written log keeper fresh wanted status o o' k k' → Starts given left written log keeper fresh found status o o' k k'
starts given left written log keeper fresh found wanted status o o' k k' same h =
    subst (λ (found : Option NodeWords). Starts given left written log keeper fresh found status o o' k k') (sym same) h

-- what a bootstrap's node did, by its status
pub boot_ends : {P G K : Type 0} (given left written : P → Option (List ℕ)) (log : G → LogState) (keeper : K → KeeperState) (w : BootstrapWords)
    (status : NodeStatus) (o o' : Outside P) (g g' : G) (k k' : K)
    → (status ≡ Done → IsOpenedRun log keeper (IsRun given left written log keeper w o o') g g' k k')
    → (status ≡ BadAnswer → IsOpenedRun log keeper (λ old new. Stopped given left written (IsBadlyAnswered given left written w.relay) w.relay w.rounds old new o o') g g' k k')
    → ((place : ℕ) → status ≡ BadReply place → IsOpenedRun log keeper (λ old new. Stopped given left written (IsBadlyReplied given left written place w.relay) w.relay w.rounds old new o o') g g' k k')
    → (status ≡ BadMark → IsUnopened log keeper opens.BadMark g g' k k' o o')
    → ((applied high : ℕ) → status ≡ Ahead applied high → IsUnopened log keeper (opens.Ahead applied high) g g' k k' o o')
    → ((base floor : ℕ) → status ≡ Hole base floor → IsUnopened log keeper (opens.Hole base floor) g g' k k' o o')
    → (status ≡ StoreFault → Rose (log g).faults (log g').faults ⊎ Rose (keeper k).faults (keeper k').faults)
    → (status ≡ LinkFault → Rose o.link_faults o'.link_faults)
    → (status ≡ WriteFault → Rose o.text_faults o'.text_faults)
    → IsBootStatus status → BootEnds given left written log keeper w status o o' g g' k k'
boot_ends given left written log keeper w Done o o' g g' k k' done answer reply mark ahead hole store link write is = done refl
boot_ends given left written log keeper w BadAnswer o o' g g' k k' done answer reply mark ahead hole store link write is = answer refl
boot_ends given left written log keeper w (BadReply place) o o' g g' k k' done answer reply mark ahead hole store link write is = reply place refl
boot_ends given left written log keeper w BadMark o o' g g' k k' done answer reply mark ahead hole store link write is = mark refl
boot_ends given left written log keeper w (Ahead applied high) o o' g g' k k' done answer reply mark ahead hole store link write is = ahead applied high refl
boot_ends given left written log keeper w (Hole base floor) o o' g g' k k' done answer reply mark ahead hole store link write is = hole base floor refl
boot_ends given left written log keeper w StoreFault o o' g g' k k' done answer reply mark ahead hole store link write is = store refl
boot_ends given left written log keeper w LinkFault o o' g g' k k' done answer reply mark ahead hole store link write is = link refl
boot_ends given left written log keeper w WriteFault o o' g g' k k' done answer reply mark ahead hole store link write is = write refl
boot_ends given left written log keeper w NoMemory o o' g g' k k' done answer reply mark ahead hole store link write is = tt
boot_ends given left written log keeper w Usage o o' g g' k k' done answer reply mark ahead hole store link write is = is
boot_ends given left written log keeper w (BadLine line) o o' g g' k k' done answer reply mark ahead hole store link write is = is
boot_ends given left written log keeper w ReadFault o o' g g' k k' done answer reply mark ahead hole store link write is = is
boot_ends given left written log keeper w (TooLong line) o o' g g' k k' done answer reply mark ahead hole store link write is = is
boot_ends given left written log keeper w (WrongWord line) o o' g g' k k' done answer reply mark ahead hole store link write is = is
