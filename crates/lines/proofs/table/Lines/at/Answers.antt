use Rattle.std.proofs.Common.{◌<◌, false, length, arith}
use Rattle.lines.specs.Of.{credit}
use Rattle.lines.specs.declared.table.Stance.{Stance}
use Rattle.lines.proofs.Entries.{figure_read}
use Rattle.lines.proofs.table.Lines.at.Goals as goal

pub returns : goal.returns
unfolding credit
returns c =
    let stances = c.args.self.now.stances in
    let h : c.place.result < length stances = omega (arith, c.place.ensures.within) in
    record {
      limit = figure_read (λ (s : Stance). s.line.limit) 0 stances _ _ _ _ h c.args.pair.apart c.place.ensures.place;
      used = figure_read (λ (s : Stance). s.line.used) 0 stances _ _ _ _ h c.args.pair.apart c.place.ensures.place;
      blocked = figure_read (λ (s : Stance). s.blocked) false stances _ _ _ _ h c.args.pair.apart c.place.ensures.place;
    }
