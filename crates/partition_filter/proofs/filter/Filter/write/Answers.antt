use Rattle.partition_filter.proofs.FilterTexts.{read_back, short_text}
use Rattle.partition_filter.proofs.filter.Filter.write.Goals as goal

pub returns-in_err-append_filter-clause-short : goal.returns-in_err-append_filter-clause-short
returns-in_err-append_filter-clause-short c = rw (← c.self.view_is) (short_text _ c.self.invariant)

pub returns-in_err-append_filter-clause-read_back : goal.returns-in_err-append_filter-clause-read_back
returns-in_err-append_filter-clause-read_back c = rw (← c.self.view_is) (read_back _ c.self.invariant)

pub returns-clause-short : goal.returns-clause-short
returns-clause-short c = rw (← c.self.view_is) (short_text _ c.self.invariant)

pub returns-clause-read_back : goal.returns-clause-read_back
returns-clause-read_back c = rw (← c.self.view_is) (read_back _ c.self.invariant)
