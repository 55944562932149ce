use Rattle.book.proofs.Laws.{taken_back}
use Rattle.book.proofs.runs.take_back.Goals as goal

pub returns-clause-always : goal.returns-clause-always
returns-clause-always g c = taken_back
