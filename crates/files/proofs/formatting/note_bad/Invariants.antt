-- `note_bad` meets its contract: the entries before this one are noted.
use Rattle.files.specs.Laws.Calling.BadNoted.{NotedFirst}
use Rattle.files.proofs.formatting.note_bad.Given as goal

abbrev pub invariant-loop-b : goal.invariant-loop-b
invariant-loop-b l = NotedFirst l.noted l.bad l.b-index
