use Rattle.std.proofs.Common.{◌∙◌}
use Rattle.bus_stores.proofs.Pages.{table_page}
use Rattle.bus_stores.proofs.table.Table.page.Goals as goal

pub returns-clause-page : goal.returns-clause-page
returns-clause-page c = table_page _ _ _ _ c.page.ensures.ordered (c.new.ensures ∙ c.in_ok-page.ensures.rows)
