use Rattle.rules.proofs.Always.{runs_are_fair}
use Rattle.rules.proofs.laws.runs_are_fair.Goals as goal

pub returns : goal.returns
returns c = runs_are_fair
