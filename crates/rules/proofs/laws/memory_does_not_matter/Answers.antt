use Rattle.rules.proofs.Meeting.{memory_does_not_matter}
use Rattle.rules.proofs.laws.memory_does_not_matter.Goals as goal

pub returns : goal.returns
returns c = memory_does_not_matter
