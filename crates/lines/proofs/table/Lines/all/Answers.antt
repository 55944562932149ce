use Rattle.std.proofs.Common.{false}
use Rattle.lines.specs.Of.{credit}
use Rattle.lines.specs.declared.table.Stance.{Stance}
use Rattle.lines.proofs.Entries.{figure_all}
use Rattle.lines.proofs.table.Lines.all.Goals as goal

pub returns : goal.returns
unfolding credit
returns c = λ g k two. record {
  limit = figure_all (λ (s : Stance). s.line.limit) 0 c.args.stance g k two;
  used = figure_all (λ (s : Stance). s.line.used) 0 c.args.stance g k two;
  blocked = figure_all (λ (s : Stance). s.blocked) false c.args.stance g k two;
}
