use Rattle.rules.proofs.Fair.{closes_are_fair}
use Rattle.rules.proofs.laws.closes_are_fair.Goals as goal

pub returns : goal.returns
returns c = closes_are_fair
