use Rattle.std.proofs.Common.{◌≡◌, codes, arith}
use Rattle.std.proofs.lemmas.Grind.{elements}
use Rattle.trades.proofs.figures.KindTryFromRefSliceU8.try_from.Goals as goal

pub returns-in-interbank : goal.returns-in-interbank
returns-in-interbank c = let same : c.args.word.now ≡ codes "interbank" = grind (arith, elements) in rw same
