use Rattle.std.proofs.Common.{◌*◌, ◌≤◌, mul-le-mul, arith}
use Rattle.market.specs.Formulas.{inside}
use Rattle.market.proofs.interbank.InterbankMake.worth.Goals as goal

pub overflow_mul-principal-2 : goal.overflow_mul-principal-2
overflow_mul-principal-2 c =
    let i = inside 5000 c.args.terms.lots c.args.terms.quote c.args.terms.days c.requires in
    let principal : c.args.terms.lots * 100000 ≤ 100000000000 = omega (arith, i.few_lots) in
    let most : c.args.terms.lots * 100000 * (c.args.terms.quote * c.args.terms.days) ≤ 100000000000 * (5000 * 365) = mul-le-mul principal (mul-le-mul i.most i.year) in
    grind (arith, most)
