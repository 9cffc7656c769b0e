use Rattle.bus_link.proofs.News.{others_new}
use Rattle.bus_link.proofs.memory_door.next_of.Goals as goal

-- src/memory_door.rt:51:1
pub returns-clause-others : goal.returns-clause-others
returns-clause-others c = others_new _ _ _ c.next.ensures.items c.requires
