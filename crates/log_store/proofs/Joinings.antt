-- Disks that are opened one after the other.
use Rattle.std.proofs.Common.{◌∙◌, List, [], ◌∷◌, ◌++◌, sym, ap, subst, append_assoc}
use Rattle.log_disk.specs.Disk.{DiskState}
use Rattle.log_segment.specs.Opening.{Opened}
use Rattle.log_segment.specs.Segment.{SegmentParts, told}
use Rattle.log_store.specs.Joining.{AllOpened, OpenedSome, OpensOne}

pub opened_push : {D : Type 0} (state : D → DiskState) (ds : List D) (ss : List (SegmentParts D)) (d : D) (s : SegmentParts D) → AllOpened state ds ss → Opened (state d) (told state s) → AllOpened state (ds ++ d ∷ []) (ss ++ s ∷ [])
opened_push state [] [] d s all one = (one, tt)
opened_push state [] (t ∷ ts) d s all one = absurd all
opened_push state (e ∷ es) [] d s all one = absurd all
opened_push state (e ∷ es) (t ∷ ts) d s all one = (all.0, opened_push state es ts d s all.1 one)

module _ {D : Type 0} (state : D → DiskState) (all : List D) (ss : List (SegmentParts D)) (rest : List D) (some : OpenedSome state all ss rest) where
  pub opened_more : (new : List D) (now : List (SegmentParts D)) → OpensOne state rest ss new now → OpenedSome state all now new
  opened_more new now one = record {
    front = some.front ++ one.disk ∷ [];
    parts = some.parts ∙ ap (λ l. some.front ++ l) one.parts ∙ sym (append_assoc some.front (one.disk ∷ []) new);
    opened = subst (AllOpened state (some.front ++ one.disk ∷ [])) (sym one.more) (opened_push state some.front ss one.disk one.segment some.opened one.opened);
  }
