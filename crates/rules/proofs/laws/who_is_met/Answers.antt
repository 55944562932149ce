use Rattle.rules.proofs.Meeting.{who_is_met}
use Rattle.rules.proofs.laws.who_is_met.Goals as goal

pub returns : goal.returns
returns c = who_is_met
