use Rattle.std.proofs.Common.{length, refl}
use Rattle.std.proofs.lemmas.Option.{slice_get_read}
use Rattle.log_store.proofs.change.begin_at.Goals as goal

pub returns : goal.returns
returns g c =
    let ss = c.args.segments.now.items in
    record {
      before = c.index_mut.result.now;
      after = c.append_first.new.segment;
      stood = slice_get_read ss (length ss) c.args.place c.index_mut.result.now refl c.requires.place c.index_mut.ensures.value;
      stands = refl;
      made = c.append_first.ensures;
    }
