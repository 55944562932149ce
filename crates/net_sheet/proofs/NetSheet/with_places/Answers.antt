use Rattle.std.proofs.Common.{◌+◌, ◌*◌, arith}
use Rattle.std.proofs.lemmas.Bool.Decides.{nat_tests}
use Rattle.net_sheet.proofs.Figures.{within_none, none_there}
use Rattle.net_sheet.proofs.NetSheet.with_places.Goals as goal

pub invariant_of-result-clause-lots_fit : goal.invariant_of-result-clause-lots_fit
invariant_of-result-clause-lots_fit c = within_none _ 128

pub returns-clause-clear : goal.returns-clause-clear
returns-clause-clear c = record { lots = λ h p. grind (arith, nat_tests, none_there 128 (h * 8 + p)); cash = none_there 16 }
