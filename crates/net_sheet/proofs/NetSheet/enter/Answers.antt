use Rattle.book.proofs.Bounds.{bounds}
use Rattle.net_sheet.proofs.Figures.{within_moved}
use Rattle.net_sheet.proofs.NetSheet.enter.Goals as goal

pub invariant_of-self-clause-lots_fit : goal.invariant_of-self-clause-lots_fit
invariant_of-self-clause-lots_fit c =
    let s = c.args.self.now in
    let ok = bounds c.args.accepted.posting c.args.accepted.fits in
    within_moved 1000000 s.lots _ _ _ _ s.places c.place_taken-self.result ok.lots c.place_taken-self.ensures s.few s.lots_fit c.transfer.ensures

pub invariant_of-self-clause-cash_fit : goal.invariant_of-self-clause-cash_fit
invariant_of-self-clause-cash_fit c =
    let s = c.args.self.now in
    let ok = bounds c.args.accepted.posting c.args.accepted.fits in
    within_moved 200000000000 s.cash _ _ _ _ s.places c.place_taken-self.result ok.pesos c.place_taken-self.ensures s.few s.cash_fit c.transfer-2.ensures
