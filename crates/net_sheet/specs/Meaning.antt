-- What a net sheet means.
use Rattle.std.specs.Prelude.{◌+◌, ◌*◌, pos, nat_lt, slice_index_or}
use Rattle.book.specs.Sheet.{Sheet, when}
use Rattle.net_sheet.specs.declared.NetSheet.{NetSheet}

-- a net sheet has its figures: eight of lots to a house, and one of cash
abbrev pub net_sheet : NetSheet → Sheet
net_sheet n = record {
  lots = λ house paper. when (nat_lt paper 8) (slice_index_or n.lots (house * 8 + paper) (pos 0));
  cash = λ house. slice_index_or n.cash house (pos 0);
  places = n.places;
}
