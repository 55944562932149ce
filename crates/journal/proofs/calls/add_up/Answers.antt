use Rattle.std.proofs.Common.{arith}
use Rattle.std.proofs.lemmas.Int.{ints, to_z-of_z}
use Rattle.std.proofs.lemmas.List.Sums.{fold_more}
use Rattle.journal.proofs.calls.add_up.Goals as goal

pub loop-posting-preserved : goal.loop-posting-preserved
loop-posting-preserved c = (grind (arith, ints, to_z-of_z, fold_more), omega (arith, ints), omega (arith, ints))
