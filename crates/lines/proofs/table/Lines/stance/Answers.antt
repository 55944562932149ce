use Rattle.std.proofs.Common.{arith}
use Rattle.std.proofs.lemmas.Bool.Decides.{nat_tests}
use Rattle.lines.proofs.Entries.{unpaired}
use Rattle.lines.proofs.table.Lines.stance.Goals as goal

pub returns-in-Err : goal.returns-in-Err
returns-in-Err c = let none = unpaired c.args.self.now c.args.granter c.args.counterparty in grind (arith, nat_tests)
