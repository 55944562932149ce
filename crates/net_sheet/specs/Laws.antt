-- The laws of a book, at a net sheet. All of it is proved here, and nothing is to be believed: it stands in specs/ since the laws of an impl can cite no other place.
use Rattle.std.specs.Prelude.{◌+◌, ◌*◌, ◌^◌, ◌<◌, pos}
use Rattle.std.proofs.Common.{arith}
use Rattle.std.proofs.lemmas.List.{get_or_past}
use Rattle.std.proofs.lemmas.Bool.Decides.{nat_tests}
use Rattle.book.specs.Sheet.{ZeroOutside}
use Rattle.net_sheet.specs.Meaning.{net_sheet}
use Rattle.net_sheet.specs.declared.NetSheet.{NetSheet}

-- no figure stands for what is no house or no paper
pub zero_outside : (n : NetSheet) → ZeroOutside (net_sheet n)
zero_outside n = record {
  lots = λ h p far. grind (arith, nat_tests, get_or_past n.lots (h * 8 + p) (pos 0), n.wide);
  cash = λ h far. get_or_past n.cash h (pos 0) (omega (arith, n.long));
}

pub places_fit : (n : NetSheet) → n.places < 2 ^ 32
places_fit n = omega (arith, n.few)
