use Rattle.std.proofs.Common.{arith, rules}
use Rattle.std.proofs.lemmas.Int.{ints}
use Rattle.net_sheet.proofs.Figures.{put_both}
use Rattle.net_sheet.proofs.calls.transfer.Goals as goal

pub returns : goal.returns
returns c =
    put_both c.args.figures.now c.args.to c.args.from c.args.amount _ _ c.requires.to c.requires.from
    (omega (arith, ints, c.requires.fits c.args.from))
    (search rules)
