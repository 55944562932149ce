use Rattle.std.proofs.Common.{arith, rules}
use Rattle.std.proofs.lemmas.Bool.Decides.{nat_tests}
use Rattle.lines.specs.Of.{credit}
use Rattle.lines.proofs.Entries.{own_unused}
use Rattle.lines.proofs.Steps.{less_both}
use Rattle.lines.proofs.table.Lines.free_both.Goals as goal

pub returns : goal.returns
returns c =
    let d = c.args.deal in
    let old = credit c.args.self.now in
    record {
      limit = search rules;
      used = λ g k.
          less_both old.used (credit c.draw.new.self).used (credit c.draw-2.new.self).used d.pledges.0 d.pledges.1 d.buyer d.seller d.value _ _ (own_unused c.args.self.now d.buyer d.seller)
          (omega (arith, c.stance.ensures.used)) (omega (arith, c.stance-2.ensures.used)) g k (c.draw.ensures.used g k) (c.draw-2.ensures.used g k);
      blocked = search rules;
    }

-- one house as both has nothing used, so that the first write leaves the second line too
pub draw-requires-2-clause-kept : goal.draw-requires-2-clause-kept
draw-requires-2-clause-kept c = λ nothing.
    let d = c.args.deal in
    let own = own_unused c.args.self.now d.buyer d.seller in
    let drawn = c.draw.ensures.used d.seller d.buyer in
    let buyers = c.stance.ensures.used in
    let sellers = c.stance-2.ensures.used in
    grind (arith, nat_tests)
