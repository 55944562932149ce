use Rattle.std.proofs.Common.{◌≡◌, suc, cond, is_ok, arith, take_all}
use Rattle.book.specs.Laws.{run_none}
use Rattle.book.proofs.Laws.{run_take, always_balanced}
use Rattle.book.proofs.runs.run_all.Goals as goal

pub loop-posting-init : goal.loop-posting-init
loop-posting-init g c = (omega arith, omega arith, run_none)

pub loop-posting-preserved : goal.loop-posting-preserved
loop-posting-preserved g c =
    let more = run_take c.args.postings.now c.loop-posting.posting-index _ c.post.result c.loop-posting-test.true c.loop-posting.invariant.2 c.post.ensures.posts in
    let counted : c.if-is_ok.accepted ≡ cond (is_ok c.post.result) (suc c.loop-posting.accepted) c.loop-posting.accepted = grind arith in
    (omega arith, grind arith, rw counted more)

pub returns-clause-balanced : goal.returns-clause-balanced
returns-clause-balanced g c =
    let run = rw (take_all c.loop-posting.posting-index c.args.postings.now c.loop-posting-test.false) at c.loop-posting.invariant.2 in
    λ clear. always_balanced _ _ _ _ clear run

pub returns-clause-always : goal.returns-clause-always
returns-clause-always g c = always_balanced
