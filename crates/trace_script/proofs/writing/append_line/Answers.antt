use Rattle.trace_script.proofs.WrittenTexts.{commit_text}
use Rattle.trace_script.proofs.writing.append_line.Goals as goal

pub returns-in-Commit : goal.returns-in-Commit
returns-in-Commit c =
    rw (c.in-Commit.is, commit_text c.in-Commit.scn c.in-Commit.changes) (rw c.items.ensures at c.append_commit.ensures)
